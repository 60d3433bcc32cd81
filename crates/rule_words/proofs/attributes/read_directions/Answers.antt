use Rattle.std.proofs.Common.{◌≡◌, ℕ, List, drop, map, Option, None, Some, option_map, Bor, refl, ap, ◌∙◌}
use Rattle.flow_rules.specs.declared.spec.Attr.{Attr}
use Rattle.rule_words.specs.declared.attributes.Directions.{Directions}
use Rattle.rule_words.specs.Attributes as spec
use Rattle.rule_words.specs.Turns.{up_to}
use Rattle.rule_words.proofs.TurnSteps.{turns-within}
use Rattle.rule_words.proofs.attributes.read_directions.Goals as goal

-- the turns of directions, and the attributes that they are
abbrev turn : Directions → List (List ℕ) → Option (Directions × List (List ℕ))
turn so_far words = option_map (λ read. (record so_far { attr = read.0 }, read.1)) (spec.attribute spec.directions so_far.attr words)

abbrev directions : Attr → Directions
directions attr = record { attr = attr }

same-attributes : (o : Option (Attr × List (List ℕ)))
    → option_map (λ (read : Directions × List (List ℕ)). (read.0.attr, read.1)) (option_map (λ (read : Attr × List (List ℕ)). (directions read.0, read.1)) o) ≡ o
same-attributes None = refl
same-attributes (Some read) = refl

directions-are : (ending : List ℕ) (words : List (List ℕ)) (start : Attr) (read : Option (Directions × List (List ℕ))) → start ≡ spec.no_attributes
    → read ≡ up_to ending turn (directions start) words
    → option_map (λ (r : Directions × List (List ℕ)). (r.0.attr, r.1)) read ≡ spec.directions_of ending words
directions-are ending words start read nothing is =
    ap (option_map (λ (r : Directions × List (List ℕ)). (r.0.attr, r.1)))
    (is ∙ turns-within directions ending (spec.attribute spec.directions) turn (λ a given. refl) words start words)
    ∙ (same-attributes (up_to ending (spec.attribute spec.directions) start words) ∙ ap (λ a. up_to ending (spec.attribute spec.directions) a words) nothing)

pub returns-in_default : goal.returns-in_default
returns-in_default c =
    directions-are c.args.ending.now (map (λ (w : Bor (List ℕ)). w.now) c.args.words.now) c.no_attributes.result None c.no_attributes.ensures c.in_default.ensures.value

pub returns : goal.returns
returns c =
    ap (λ ws. Some (c.read_up_to.new.value.attr, ws)) c.behind.ensures
    ∙ directions-are c.args.ending.now (map (λ (w : Bor (List ℕ)). w.now) c.args.words.now) c.no_attributes.result
    (Some (c.read_up_to.new.value, drop c.in-Some.taken (map (λ (w : Bor (List ℕ)). w.now) c.args.words.now))) c.no_attributes.ensures c.in-Some.ensures.value
