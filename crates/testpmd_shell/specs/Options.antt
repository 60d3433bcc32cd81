-- The options that the program's words give.
use Rattle.std.specs.Prelude.{ℕ, List, codes, Option, None, Some, option_and_then, option_copied, if◌then◌else◌}
use Rattle.clap.specs.Words.{Row, Text, first_of, fault_of, matches_of}
use Rattle.clap.specs.Walk.{is_empty}
use Rattle.testpmd_shell.specs.declared.options.Options.{Options}
use Rattle.testpmd_shell.specs.Command.{shell_command}
use Rattle.testpmd_shell.specs.Numbers.{queues_of, cores_of, rules_of}

-- the script's name, the names of the capture and of the transmit file if there are any, and the numbers of Rx queues, of
-- workers, and of rules that may be in effect
pub record Given : Type 0 where
  pub script : Text
  pub capture : Option Text
  pub transmit : Option Text
  pub rxq : ℕ
  pub cores : ℕ
  pub flow_max : ℕ

abbrev pub given_of : Options → Given
given_of o = record {
  script = o.script.now;
  capture = option_copied o.capture;
  transmit = option_copied o.transmit;
  rxq = o.rxq;
  cores = o.cores;
  flow_max = o.flow_max;
}

-- what is read, and how to go on with it
infixl 10 ◌>>=◌
abbrev pub ◌>>=◌ : {X Y : Type 0} → Option X → (X → Option Y) → Option Y
read >>= next = option_and_then next read

-- the script is named, and the numbers are in their ranges
abbrev pub given_in : List Row → Option Given
given_in rows = do
  script ← first_of (codes "cmdline-file") rows
  rxq ← queues_of (first_of (codes "rxq") rows)
  cores ← cores_of (first_of (codes "nb-cores") rows)
  flow_max ← rules_of (first_of (codes "flow-max") rows)
  Some (record {
    script = script;
    capture = first_of (codes "rx-pcap") rows;
    transmit = first_of (codes "tx-pcap") rows;
    rxq = rxq;
    cores = cores;
    flow_max = flow_max;
  })

-- the command takes the words, and what it finds gives options
abbrev pub options_of : List Text → Option Given
options_of words = if is_empty (fault_of shell_command words) then given_in (matches_of shell_command words) else None
