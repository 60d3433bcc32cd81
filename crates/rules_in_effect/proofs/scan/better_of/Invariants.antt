use Rattle.std.proofs.Common.{◌≡◌, drop}
use Rattle.std.specs.Option.{option_map}
use Rattle.rules_in_effect.specs.Scan.{scanned}
use Rattle.rules_in_effect.proofs.scan.better_of.Given as goal

-- the scan of the rules that are left ends as the scan of all
abbrev pub invariant-loop-entry : goal.invariant-loop-entry
invariant-loop-entry l =
    scanned l.group l.key (option_map (λ rule. rule.now) l.best) (drop l.entry-index l.entries)
    ≡ scanned l.group l.key (option_map (λ rule. rule.now) l.initial.best) l.entries
