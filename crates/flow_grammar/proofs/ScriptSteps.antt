-- One more line of a script, and its limits.
use Rattle.std.proofs.Common.{◌≡◌, ℕ, ◌+◌, ◌<◌, ◌≤◌, ltb, ◌||◌, true, false, List, [], ◌∷◌, length, map, get_or, drop, arith, sym, ap, ◌∙◌, Bor}
use Rattle.std.specs.Str.Lines.{strip_carriage_return}
use Rattle.std.proofs.lemmas.Bool.Decides.{nat_tests}
use Rattle.std.proofs.lemmas.List.{at_drop_more, at_drop_all, length-map}
use Rattle.flow_grammar.specs.declared.line.Line.{Line}
use Rattle.flow_grammar.specs.declared.draft.Draft.{Draft}
use Rattle.flow_grammar.specs.Line.{line_of}
use Rattle.flow_grammar.specs.Lines.{lines_with_returns, lines_of}
use Rattle.flow_grammar.specs.Program.{program_of}
use Rattle.flow_grammar.specs.Limits.{calls_in, is_too_large}
use Rattle.flow_grammar.specs.Draft.{program_with}

-- what lines say
abbrev pub said_by_lines : List (Bor (List ℕ)) → List Line
said_by_lines items = map line_of (map strip_carriage_return (map (λ line. line.now) items))

pub line-step : (draft : Draft) (n i : ℕ) (items : List (Bor (List ℕ))) (d : Bor (List ℕ)) (said : Line) → i < length items
    → said ≡ line_of (strip_carriage_return (get_or items i d).now)
    → program_with draft n (said_by_lines (drop i items)) ≡ program_with draft n (said ∷ said_by_lines (drop (i + 1) items))
line-step draft n i items d said within is =
    at_drop_more (λ ds. program_with draft n (said_by_lines ds)) items i d within
    ∙ ap (λ s. program_with draft n (s ∷ said_by_lines (drop (i + 1) items))) (sym is)

pub lines-end : (draft : Draft) (n i : ℕ) (items : List (Bor (List ℕ))) → length items ≤ i
    → program_with draft n (said_by_lines (drop i items)) ≡ program_with draft n []
lines-end draft n i items past = at_drop_all (λ ds. program_with draft n (said_by_lines ds)) items i past

by_calls : (count calls : ℕ) → 65536 < calls → (ltb 65536 count || ltb 65536 calls) ≡ true
by_calls count calls many = grind (arith, nat_tests)

pub too_large-by_calls : (script : List ℕ) → 65536 < calls_in (program_of script) → is_too_large script ≡ true
too_large-by_calls script many = by_calls (length (lines_of script)) (calls_in (program_of script)) many

within : (count calls : ℕ) → count ≤ 65536 → calls ≤ 65536 → (ltb 65536 count || ltb 65536 calls) ≡ false
within count calls few less = grind (arith, nat_tests)

pub within_limits : (script : List ℕ) (items : List (Bor (List ℕ))) → map (λ line. line.now) items ≡ lines_with_returns script → length items ≤ 65536
    → calls_in (program_of script) ≤ 65536 → is_too_large script ≡ false
within_limits script items are few less =
    let same : length (lines_of script) ≡ length items =
    length-map (lines_with_returns script) strip_carriage_return ∙ ap length (sym are) ∙ length-map items (λ line. line.now) in
    within (length (lines_of script)) (calls_in (program_of script)) (omega arith) less
