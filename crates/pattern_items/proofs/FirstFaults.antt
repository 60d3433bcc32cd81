-- The first fault of a list of items, from one of them on.
use Rattle.std.proofs.Common.{◌≡◌, ℕ, ◌+◌, ◌<◌, ◌≤◌, Bool, true, false, if◌then◌else◌, List, [], ◌∷◌, ◌++◌, None, Some, refl, sym, ◌∙◌, ap, subst, length, drop, get_or, drop-cons, add-one, arith}
use Rattle.packet_headers.specs.declared.items.ItemKind.{ItemKind}
use Rattle.pattern_items.specs.declared.fault.ItemFault.{ItemFault}
use Rattle.pattern_items.specs.declared.order.Before.{Before}
use Rattle.pattern_items.specs.declared.pattern.Item.{Item}
use Rattle.pattern_items.specs.Faults.{is_void, first, faults_of_item, faults_from}
use Rattle.pattern_items.specs.Order.{before_next, is_vlan}

first_none : (a b : List ItemFault) → None ≡ first a → first (a ++ b) ≡ first b
first_none [] b e = refl
first_none (x ∷ a) b e = cc

first_some : (a b : List ItemFault) (fault : ItemFault) → Some fault ≡ first a → Some fault ≡ first (a ++ b)
first_some [] b fault e = cc
first_some (x ∷ a) b fault e = e

from_place : (items : List Item) (place : ℕ) (before : Before) (d : Item) → place < length items
    → faults_from place before (drop place items) ≡ faults_from place before (get_or items place d ∷ drop (place + 1) items)
from_place items place before d h =
    let e : drop place items ≡ get_or items place d ∷ drop (place + 1) items = rw add-one (drop-cons items place d h) in
    ap (faults_from place before) e

-- the item has a fault
pub fault_here : (items : List Item) (place : ℕ) (before : Before) (fault : ItemFault) (d : Item) → place < length items
    → false ≡ is_void (get_or items place d).kind → Some fault ≡ first (faults_of_item place before (get_or items place d))
    → Some fault ≡ first (faults_from place before (drop place items))
fault_here items place before fault d h asked e =
    let item = get_or items place d in
    let more = faults_from (place + 1) (before_next before item.kind) (drop (place + 1) items) in
    let P = λ (b : Bool). Some fault ≡ first (if b then faults_from (place + 1) before (drop (place + 1) items) else faults_of_item place before item ++ more) in
    subst P asked (first_some (faults_of_item place before item) more fault e) ∙ ap first (sym (from_place items place before d h))

-- the item has none
pub fault_behind : (items : List Item) (place : ℕ) (before : Before) (d : Item) → place < length items
    → false ≡ is_void (get_or items place d).kind → None ≡ first (faults_of_item place before (get_or items place d))
    → first (faults_from place before (drop place items)) ≡ first (faults_from (place + 1) (before_next before (get_or items place d).kind) (drop (place + 1) items))
fault_behind items place before d h asked e =
    let item = get_or items place d in
    let more = faults_from (place + 1) (before_next before item.kind) (drop (place + 1) items) in
    let P = λ (b : Bool). first (if b then faults_from (place + 1) before (drop (place + 1) items) else faults_of_item place before item ++ more) ≡ first more in
    ap first (from_place items place before d h) ∙ subst P asked (first_none (faults_of_item place before item) more e)

tags_one : (before : Before) (v : Bool) (n : ℕ) → before.tags ≤ n → (elim v [ true ↦ before.tags + 1 | false ↦ 0 ]) ≤ n + 1
tags_one before true n h = omega arith
tags_one before false n h = omega arith

-- one more item is one more tag in a row at most
pub tags_next : (before next : Before) (k : ItemKind) (n : ℕ) → next ≡ before_next before k → before.tags ≤ n → next.tags ≤ n + 1
tags_next before next k n e h = subst (λ (b : Before). b.tags ≤ n + 1) (sym e) (tags_one before (is_vlan k) n h)
