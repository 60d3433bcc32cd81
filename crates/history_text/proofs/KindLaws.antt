-- A kind and its numbers are read back from their text, whatever stands behind.
use Rattle.std.proofs.Common.{◌≡◌, ℕ, true, false, List, ◌++◌, Some, refl}
use Rattle.flow_rules.specs.declared.fault.Cause.TheVariants as causes
use Rattle.flow_calls.specs.declared.call.BadKind.TheVariants as bads
use Rattle.flow_calls.specs.declared.reply.OpKind.TheVariants as opkinds
use Rattle.history_text.specs.declared.kind.Kind.{Kind}
use Rattle.history_text.specs.declared.kind.Kind.TheVariants as kinds
use Rattle.history_text.specs.Forms.{form, filled}
use Rattle.history_text.specs.Kinds.{kind_form}
use Rattle.history_text.specs.Reading.{is_form, are_forms, Fills, Ends, front_by, made_front}
use Rattle.history_text.specs.KindRows.{kind_rows}
use Rattle.history_text.proofs.ReadBack.{front-back}

are_all_forms : are_forms kind_rows ≡ true
are_all_forms = refl

good : (kind : Kind) → is_form (form (kind_form kind)) ≡ true
good (kinds.Refused causes.GroupRange) = refl
good (kinds.Refused cause) = refl
good (kinds.Isolated true) = refl
good (kinds.Isolated false) = refl
good (kinds.Bad bads.Port) = refl
good (kinds.Bad kind) = refl
good (kinds.Enqueued opkinds.RuleCreate) = refl
good (kinds.Enqueued kind) = refl
good kind = refl

made : (kind : Kind) (ns : List ℕ) → made_front kind_rows (form (kind_form kind)) ns ≡ Some (kind, ns)
made (kinds.Refused causes.GroupRange) ns = refl
made (kinds.Refused cause) ns = refl
made (kinds.Isolated true) ns = refl
made (kinds.Isolated false) ns = refl
made (kinds.Bad bads.Port) ns = refl
made (kinds.Bad kind) ns = refl
made (kinds.Enqueued opkinds.RuleCreate) ns = refl
made (kinds.Enqueued kind) ns = refl
made kind ns = refl

pub kind-back : (kind : Kind) (ns rest : List ℕ) → Fills (form (kind_form kind)) ns → Ends (form (kind_form kind)) rest
    → front_by kind_rows (filled (kind_form kind) ns ++ rest) ≡ Some ((kind, ns), rest)
kind-back kind ns rest fills ends = front-back kind_rows (form (kind_form kind)) ns rest (kind, ns) are_all_forms (good kind) fills ends (made kind ns)
