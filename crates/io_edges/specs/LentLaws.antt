-- A lent part of a shelf is kept by no call at all, and by two calls where each of them keeps it.
use Rattle.std.proofs.Common.{◌≡◌, refl, ◌∙◌, ap, subst, arith}
use Rattle.io_edges.specs.declared.shelf.Slot.{Slot}
use Rattle.io_edges.specs.declared.shelf.Slot.TheVariants.{Script, Capture}
use Rattle.io_edges.specs.ShelfState.{ShelfState, slot_of, with_slot}
use Rattle.io_edges.specs.Lent.{KeepsSlot, KeepsWritten}

with_own_slot : (slot : Slot) (s : ShelfState) → s ≡ with_slot slot s (slot_of slot s)
with_own_slot Script s = refl
with_own_slot Capture s = refl

with_slot-twice : (slot : Slot) (s t u : ShelfState) → t ≡ with_slot slot s (slot_of slot t) →
    u ≡ with_slot slot t (slot_of slot u) → u ≡ with_slot slot s (slot_of slot u)
with_slot-twice Script s t u p q = q ∙ ap (λ x. with_slot Script x u.script) p
with_slot-twice Capture s t u p q = q ∙ ap (λ x. with_slot Capture x u.capture) p

pub KeepsSlot-none : (slot : Slot) (s : ShelfState) → KeepsSlot slot s s
KeepsSlot-none slot s = record {
  others = with_own_slot slot s;
  asked = refl;
  opened = refl;
  given_told = refl;
  left_told = refl;
  bytes = refl;
  later = omega arith;
}

KeepsSlot-both : (slot : Slot) (s t u : ShelfState) → KeepsSlot slot s t → KeepsSlot slot t u → KeepsSlot slot s u
KeepsSlot-both slot s t u p q = record {
  others = with_slot-twice slot s t u p.others q.others;
  asked = q.asked ∙ p.asked;
  opened = q.opened ∙ p.opened;
  given_told = q.given_told ∙ p.given_told;
  left_told = q.left_told ∙ p.left_told;
  bytes = q.bytes ∙ p.bytes;
  later = omega arith;
}

-- where the second object speaks of the same slot
pub KeepsSlot-more : (slot second : Slot) (s t u : ShelfState) → second ≡ slot →
    KeepsSlot slot s t → KeepsSlot second t u → KeepsSlot slot s u
KeepsSlot-more slot second s t u same p q =
    KeepsSlot-both slot s t u p (subst (λ (x : Slot). KeepsSlot x t u) same q)

pub KeepsWritten-none : (s : ShelfState) → KeepsWritten s s
KeepsWritten-none s = record { others = refl; asked = refl; opened = refl; openings = refl; told = refl; later = omega arith }

pub KeepsWritten-more : (s t u : ShelfState) → KeepsWritten s t → KeepsWritten t u → KeepsWritten s u
KeepsWritten-more s t u p q = record {
  others = q.others ∙ ap (λ (x : ShelfState). record x { written = u.written }) p.others;
  asked = q.asked ∙ p.asked;
  opened = q.opened ∙ p.opened;
  openings = q.openings ∙ p.openings;
  told = q.told ∙ p.told;
  later = omega arith;
}
