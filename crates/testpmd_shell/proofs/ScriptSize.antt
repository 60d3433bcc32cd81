-- When a script has too many bytes, lines or calls.
use Rattle.std.proofs.Common.{◌≡◌, ℕ, ◌≤◌, Bool, true, false, ◌||◌, List, length, nat_lt, Option, None, Some, IfSome, subst, arith}
use Rattle.std.proofs.lemmas.Bool.Decides.{nat_tests}
use Rattle.std.proofs.lemmas.Bool.{or_from, or_left, or_right, lt-ltb, le-ltb}
use Rattle.flow_grammar.specs.Lines.{lines_of}
use Rattle.flow_grammar.specs.Limits.{calls_in, is_too_large}
use Rattle.flow_grammar.specs.Program.{program_of}
use Rattle.testpmd_shell.specs.declared.fetch.Stopped.{Stopped}
use Rattle.testpmd_shell.specs.declared.fetch.Stopped.TheVariants as stopped
use Rattle.testpmd_shell.specs.Found.{is_over}
use Rattle.testpmd_shell.specs.Fetch.{IsScriptStop, IsLong, IsOver}

IsOver-long : (script : List ℕ) → IsLong script → IsOver script
unfolding is_over
IsOver-long script long = or_left (nat_lt 1048576 (length script)) (is_too_large script) (lt-ltb 1048576 (length script) long)

IsOver-large : (script : List ℕ) → is_too_large script ≡ true → IsOver script
unfolding is_over
IsOver-large script large = or_right (nat_lt 1048576 (length script)) (is_too_large script) large

is_over-fits : (script : List ℕ) → length script ≤ 1048576 → is_too_large script ≡ false → is_over script ≡ false
unfolding is_over
is_over-fits script short small = or_from (nat_lt 1048576 (length script)) (is_too_large script) (le-ltb 1048576 (length script) short) small

pub IsScriptStop-over : (content : Option (List ℕ)) (before now : ℕ) (why : Stopped) → IsScriptStop IsLong content before now why → IsScriptStop IsOver content before now why
IsScriptStop-over content before now stopped.ReadFault stop = stop
IsScriptStop-over content before now stopped.WriteFault stop = absurd stop
IsScriptStop-over None before now stopped.TooLarge stop = stop
IsScriptStop-over (Some script) before now stopped.TooLarge stop = (stop.0, IsOver-long script stop.1)
IsScriptStop-over content before now stopped.NoMemory stop = stop

-- the script that was read is that of its name
pub is_over-read : (content : Option (List ℕ)) (script : List ℕ) → IfSome content (λ bytes. script ≡ bytes) → length script ≤ 1048576 → is_too_large script ≡ false
    → IfSome content (λ bytes. is_over bytes ≡ false)
is_over-read None script same short small = tt
is_over-read (Some bytes) script same short small = subst (λ (b : List ℕ). is_over b ≡ false) same (is_over-fits script short small)

pub IsOver-read : (content : Option (List ℕ)) (script : List ℕ) → IfSome content (λ bytes. script ≡ bytes) → is_too_large script ≡ true → IfSome content IsOver
IsOver-read None script same large = tt
IsOver-read (Some bytes) script same large = subst IsOver same (IsOver-large script large)

-- a script that isn't too large has few calls
pub few-fits : (script : List ℕ) → is_too_large script ≡ false → calls_in (program_of script) ≤ 65536
few-fits script small = by (nat_lt 65536 (length (lines_of script))) (calls_in (program_of script)) small where
  by : (long : Bool) (calls : ℕ) → (long || nat_lt 65536 calls) ≡ false → calls ≤ 65536
  by true calls e = cc
  by false calls e = grind (arith, nat_tests)
