-- How the code keeps the rules in effect.
use Rattle.std.specs.Prelude.{◌≡◌, ℕ, min, List, [], ◌∷◌, Option, Some, count_by}
use Rattle.slot_pool.specs.declared.handle.Handle.{Handle}
use Rattle.rules_in_effect.specs.declared.in_effect.InEffect.{InEffect}
use Rattle.rules_in_effect.specs.declared.rules.RulesInEffect.TheInside.{Inside}
use Rattle.rules_in_effect.specs.Entries.{is_plain, AreDistinct}
use Rattle.rules_in_effect.specs.IdIndex.{find}
use Rattle.rules_in_effect.specs.Order.{entries, under}
use Rattle.rules_in_effect.specs.RulesView.{RulesView}

abbrev pub view_of : Inside → RulesView
view_of kept = record {
  list = entries kept.order.kept;
  room = min kept.order.room kept.index.room;
}

-- the handle of each rule is found by the rule's id
abbrev pub AreFound : (ℕ → Option Handle) → List (Handle × InEffect) → Type 0
AreFound found [] = Unit {0}
AreFound found (pair ∷ kept) = (found pair.1.rule.id ≡ Some pair.0) × AreFound found kept

-- what an id finds is a rule of that id
pub record IsOf (kept : List (Handle × InEffect)) (id : ℕ) (handle : Handle) : Type 0 where
  pub entry : InEffect
  pub at : under handle kept ≡ Some entry
  pub is : entry.rule.id ≡ id

-- ids find the rules that are kept, and nothing else
pub record AreNamed (found : ℕ → Option Handle) (kept : List (Handle × InEffect)) : Type 0 where
  pub each : AreFound found kept
  pub exact : (id : ℕ) (handle : Handle) → found id ≡ Some handle → IsOf kept id handle
  pub distinct : AreDistinct (entries kept)

abbrev pub IsSound : Inside → Type 0
IsSound kept = AreNamed (find kept.index) kept.order.kept × (kept.plain ≡ count_by is_plain (entries kept.order.kept))
