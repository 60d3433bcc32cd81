use Rattle.std.proofs.Common.{◌≡◌, ℕ, ◌<◌, List, [], ◌∷◌, length, map, None, refl, arith, Bor}
use Rattle.std.proofs.lemmas.List.{length-map}
use Rattle.flow_actions.specs.Kinds.{kind_of}
use Rattle.flow_actions.specs.declared.action.ActionKind.{ActionKind}
use Rattle.rule_words.specs.Actions.{value_setting}
use Rattle.rule_words.proofs.actions.take_value.Goals as goal

-- a word without a value behind it
value-short : (kind : ActionKind) (words : List (List ℕ)) → length words < 2 → None ≡ value_setting kind words
value-short kind [] short = refl
value-short kind (word ∷ []) short = refl
value-short kind (word ∷ value ∷ rest) short = absurd (omega arith)

pub returns-in_default-clause-value : goal.returns-in_default-clause-value
returns-in_default-clause-value c =
    let words = map (λ (w : Bor (List ℕ)). w.now) c.args.words.now in
    value-short (kind_of c.args.action.now) words (omega (arith, length-map c.args.words.now (λ (w : Bor (List ℕ)). w.now), c.in_default.len_below))
