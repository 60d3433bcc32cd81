-- Endings with one text are one ending.
use Rattle.std.proofs.Common.{◌≡◌, ℕ, ◌^◌, ◌<◌, List, [], ◌∷◌, ◌++◌, get_or, Some, refl, sym, ap, ◌∙◌, arith}
use Rattle.std.proofs.NetLemmas.Options.{same_parts}
use Rattle.capture_files.specs.declared.stop.CaptureKind.{CaptureKind}
use Rattle.capture_files.specs.declared.stop.CaptureKind.TheVariants as kinds
use Rattle.history_text.specs.declared.ending.Ending.{Ending}
use Rattle.history_text.specs.declared.ending.Ending.TheVariants as endings
use Rattle.history_text.specs.Forms.{form}
use Rattle.history_text.specs.Reading.{Row, front_by}
use Rattle.history_text.specs.Endings.{ending_form, ending_text}
use Rattle.history_text.specs.Told.{EndingIsTold}
use Rattle.history_text.proofs.ReadBack.{front-back}

abbrev first : List ℕ → ℕ
first [] = 0
first (n ∷ ns) = n

abbrev bad_row : CaptureKind → Row Ending
bad_row kind = record { text = ending_form (endings.Bad 0 kind); make = λ ns. Some (endings.Bad (first ns) kind) }

abbrev rows : List (Row Ending)
rows = bad_row kinds.HeaderCut ∷ bad_row kinds.Magic ∷ bad_row kinds.Version ∷ bad_row kinds.LinkType ∷ bad_row kinds.RecordCut ∷ bad_row kinds.RecordLength
    ∷ record { text = ending_form (endings.Large 0); make = λ ns. Some (endings.Large (first ns)) }
    ∷ record { text = ending_form endings.ReadFault; make = λ ns. Some endings.ReadFault } ∷ []

bad-back : (place : ℕ) (kind : CaptureKind) → place < 2 ^ 64 → front_by rows (ending_text (endings.Bad place kind) ++ []) ≡ Some (endings.Bad place kind, [])
bad-back place kinds.Magic small = front-back rows (form (ending_form (endings.Bad place kinds.Magic))) (place ∷ []) [] _ refl refl (small, tt) tt refl
bad-back place kind small = front-back rows (form (ending_form (endings.Bad place kind))) (place ∷ []) [] (endings.Bad place kind) refl refl (small, tt) tt refl

abbrev IsStop : Ending → Type 0
IsStop endings.Whole = ⊥
IsStop ending = Unit

stop-back : (ending : Ending) → IsStop ending → EndingIsTold ending → front_by rows (ending_text ending ++ []) ≡ Some (ending, [])
stop-back endings.Whole is told = absurd is
stop-back (endings.Bad place kind) is told = bad-back place kind told
stop-back (endings.Large place) is told = front-back rows (form (ending_form (endings.Large place))) (place ∷ []) [] (endings.Large place) refl refl (told, tt) tt refl
stop-back endings.ReadFault is told = front-back rows (form (ending_form endings.ReadFault)) [] [] endings.ReadFault refl refl tt tt refl

stops-same : (a b : Ending) → IsStop a → IsStop b → EndingIsTold a → EndingIsTold b → ending_text a ≡ ending_text b → a ≡ b
stops-same a b is is' told told' e = (same_parts a b [] [] (sym (stop-back a is told) ∙ ap (λ t. front_by rows (t ++ [])) e ∙ stop-back b is' told')).0

whole-same : (a : Ending) → [] ≡ ending_text a → endings.Whole ≡ a
whole-same endings.Whole e = refl
whole-same (endings.Bad place kind) e = absurd (omega (arith, ap (λ t. get_or t 0 0) e))
whole-same (endings.Large place) e = absurd (omega (arith, ap (λ t. get_or t 0 0) e))
whole-same endings.ReadFault e = absurd (omega (arith, ap (λ t. get_or t 0 0) e))

stop-same : (a b : Ending) → IsStop a → EndingIsTold a → EndingIsTold b → ending_text a ≡ ending_text b → a ≡ b
stop-same a endings.Whole is told told' e = sym (whole-same a (sym e))
stop-same a b is told told' e = stops-same a b is tt told told' e

pub ending-same : (a b : Ending) → EndingIsTold a → EndingIsTold b → ending_text a ≡ ending_text b → a ≡ b
ending-same endings.Whole b told told' e = whole-same b e
ending-same a b told told' e = stop-same a b tt told told' e
