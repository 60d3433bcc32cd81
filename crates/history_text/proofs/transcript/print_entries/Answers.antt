use Rattle.std.proofs.Common.{ℕ, ◌≡◌, ◌<◌, ◌≤◌, zero, suc, List, [], ◌∷◌, length, Some, IfSome, refl, ap, arith, subst}
use Rattle.std.proofs.lemmas.List.{take_all}
use Rattle.std.specs.List.{flat_map, slice_get}
use Rattle.flow_calls.specs.declared.entry.Entry.{Entry}
use Rattle.adapter.specs.KeptLine.{IsLineOf}
use Rattle.history_text.specs.Text.{entry_text}
use Rattle.io_edges.proofs.Joins.{Prints-none, Prints-next, Prints-as}
use Rattle.history_text.proofs.transcript.print_entries.Goals as goal

-- there is an entry at a place within
entry-at : (entries : List Entry) (place : ℕ) (P : Entry → Type 0) → place < length entries → IfSome (slice_get entries place) P
    → (entry : Entry) × (slice_get entries place ≡ Some entry) × P entry
entry-at [] place P within line = absurd (omega arith)
entry-at (e ∷ es) zero P within line = (e, refl, line)
entry-at (e ∷ es) (suc place) P within line = entry-at es place P (omega arith) line

pub loop-place-init : goal.loop-place-init
loop-place-init g c = Prints-none _

pub loop-place-preserved : goal.loop-place-preserved
loop-place-preserved g c =
    let history = c.args.adapter.now.history in
    let within = subst (λ n. c.loop-place.place < n) c.entries-place-end.ensures.number c.loop-place-test.true in
    let entry = entry-at history c.loop-place.place (IsLineOf c.line.result) within c.line.ensures in
    Prints-next (entry_text c.args.adapter.now.limits) history c.loop-place.place entry.0 entry.1
    c.loop-place.invariant (Prints-as (ap (λ l. entry_text l entry.0) c.limits-limits.ensures.limits) (c.print_line.ensures entry.0 entry.2))

pub returns : goal.returns
returns g c =
    let over = subst (λ n. n ≤ c.loop-place.place) c.entries-place-end.ensures.number c.loop-place-test.false in
    Prints-as (ap (flat_map (entry_text c.args.adapter.now.limits)) (take_all c.loop-place.place c.args.adapter.now.history over)) c.loop-place.invariant
