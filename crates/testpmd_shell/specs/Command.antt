-- The simple command that takes the program's words apart.
use Rattle.std.specs.Prelude.{true, codes, Some}
use Rattle.clap.specs.Words.{App, Rule, Text, new_app, new_rule, with_rule}
use Rattle.clap.specs.Simple.{on_top}

-- an option `--NAME` whose value is a text, and which may be left out
abbrev pub option_named : Text → Rule
option_named name = record (new_rule name) { long = Some name }

-- The command without its options: the words begin behind the program's name, and there is no help and no version.
abbrev pub bare_command : App
bare_command = on_top (λ s. record s { no_binary_name = true; disable_help_flag = true; disable_version_flag = true }) (new_app (codes "flowpmd"))

abbrev pub shell_command : App
shell_command = with_rule (with_rule (with_rule (with_rule (with_rule (with_rule bare_command
    (option_named (codes "cmdline-file"))) (option_named (codes "rx-pcap"))) (option_named (codes "tx-pcap")))
    (option_named (codes "rxq"))) (option_named (codes "nb-cores"))) (option_named (codes "flow-max"))
