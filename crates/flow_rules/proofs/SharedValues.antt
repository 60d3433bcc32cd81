-- What holds of the values of shared actions holds of what an action of a rule comes to.
use Rattle.std.proofs.Common.{◌≡◌, ℕ, Bool, true, false, cond, nat_eq, List, [], ◌∷◌, Option, None, Some, refl, subst, ◌≤◌, arith}
use Rattle.std.specs.List.{All}
use Rattle.std.proofs.lemmas.List.Elements.{All-head, All-tail}
use Rattle.packet_headers.specs.declared.edits.Edit.{Edit}
use Rattle.packet_headers.specs.declared.edits.Edit.TheVariants as edits
use Rattle.flow_actions.specs.declared.action.Action.{Action}
use Rattle.flow_actions.specs.declared.action.Action.TheVariants as actions
use Rattle.flow_actions.specs.Kinds.{kind_of, is_shareable}
use Rattle.flow_rules.specs.Valid.{IsFit, IsGood, IsOnPort}
use Rattle.flow_rules.specs.Shared.{Shared, shared_at, or_void, value_in, IsSharedOn, AreSharedOn}

some-same : {A : Type 0} {x y : A} → Some x ≡ Some y → x ≡ y
some-same e = cc

-- the value at an id is one of those that are shared
pub shared-all : (rxq : ℕ) (shared : Shared) → AreSharedOn rxq shared → (id : ℕ) (value : Action) → shared_at id shared ≡ Some value → IsSharedOn rxq value
shared-all rxq [] all id value found = cc
shared-all rxq (entry ∷ shared) all id value found =
    by (nat_eq id entry.0) (shared-all rxq shared (All-tail (λ (e : ℕ × Action). IsSharedOn rxq e.1) entry shared all) id value) found where
      by : (b : Bool) → (shared_at id shared ≡ Some value → IsSharedOn rxq value) → cond b (Some entry.1) (shared_at id shared) ≡ Some value → IsSharedOn rxq value
      by true behind e = subst (IsSharedOn rxq) (some-same e) (All-head (λ (e : ℕ × Action). IsSharedOn rxq e.1) entry shared all)
      by false behind e = behind e

-- what holds of an action that does nothing, of all values, and of the action itself holds of what it comes to
pub value-keeps : (P : Action → Type 0) → P actions.Void → (shared : Shared) → ((id : ℕ) (value : Action) → shared_at id shared ≡ Some value → P value)
    → (action : Action) → P action → P (value_in shared action)
value-keeps P void shared values actions.Void p = p
value-keeps P void shared values (actions.Queue queue) p = p
value-keeps P void shared values actions.Drop p = p
value-keeps P void shared values (actions.Jump to) p = p
value-keeps P void shared values (actions.Rss rss) p = p
value-keeps P void shared values (actions.Mark mark) p = p
value-keeps P void shared values actions.Count p = p
value-keeps P void shared values (actions.Indirect id) p = by (shared_at id shared) (values id) where
  by : (found : Option Action) → ((value : Action) → found ≡ Some value → P value) → P (or_void found)
  by None each = void
  by (Some value) each = each value refl
value-keeps P void shared values (actions.Set edit) p = p

-- what it takes to perform an action
pub fit-good : (group : ℕ) (action : Action) → IsGood group action → IsFit action
fit-good group actions.Void good = tt
fit-good group (actions.Queue queue) good = good
fit-good group actions.Drop good = tt
fit-good group (actions.Jump to) good = tt
fit-good group (actions.Rss rss) good = good
fit-good group (actions.Mark mark) good = tt
fit-good group actions.Count good = tt
fit-good group (actions.Indirect id) good = tt
fit-good group (actions.Set edit) good = good

-- rules can't share an edit
pub no-edit : (edit : Edit) → is_shareable (kind_of (actions.Set edit)) ≡ true → ⊥
no-edit (edits.MacSrc n) e = cc
no-edit (edits.MacDst n) e = cc
no-edit (edits.Ipv4Src n) e = cc
no-edit (edits.Ipv4Dst n) e = cc
no-edit (edits.Ipv6Src n) e = cc
no-edit (edits.Ipv6Dst n) e = cc
no-edit (edits.PortSrc n) e = cc
no-edit (edits.PortDst n) e = cc
no-edit edits.DecTtl e = cc
no-edit (edits.SetTtl n) e = cc
no-edit (edits.SetVid n) e = cc

pub fit-shared : (rxq : ℕ) (action : Action) → rxq ≤ 256 → IsSharedOn rxq action → IsFit action
fit-shared rxq actions.Void most on = tt
fit-shared rxq (actions.Queue queue) most on = omega (arith, most, on.1)
fit-shared rxq actions.Drop most on = tt
fit-shared rxq (actions.Jump to) most on = tt
fit-shared rxq (actions.Rss rss) most on = λ k d within. omega (arith, most, on.1 k d within)
fit-shared rxq (actions.Mark mark) most on = tt
fit-shared rxq actions.Count most on = tt
fit-shared rxq (actions.Indirect id) most on = tt
fit-shared rxq (actions.Set edit) most on = absurd (no-edit edit on.0)
