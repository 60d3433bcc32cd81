-- A push, one operation after the other: what is done and what is left come to the whole.
use Rattle.std.proofs.Common.{◌≡◌, ℕ, ◌+◌, ◌<◌, ◌≤◌, ◌∷◌, [], ◌++◌, length, fold, List, refl, sym, ap, ◌∙◌, subst, arith}
use Rattle.std.proofs.lemmas.List.{append_assoc}
use Rattle.flow_rules.specs.declared.change.Change.{Change}
use Rattle.flow_rules.specs.declared.counter.Counter.{Counter}
use Rattle.flow_rules.specs.declared.counter.Count.{Count}
use Rattle.flow_rules.specs.Changes.{changed}
use Rattle.flow_rules.specs.Walk.{Flows}
use Rattle.port_state.specs.declared.held.Held.{Held}
use Rattle.port_state.specs.Apart.{AreApart}
use Rattle.port_state.specs.Changes.{changes_at, changes_first, changes_pushed, changes_stepped, step_first}
use Rattle.port_state.specs.Counters.{carried, is_there, while_there}
use Rattle.port_state.specs.Kept.{AreKept}
use Rattle.port_state.specs.KeptState.{KeptState, count_in, state_in}
use Rattle.port_state.specs.State.{State, flows_of, pushed, queue_at, stepped}
use Rattle.port_state.proofs.ApartKept.{AreApart-stepped}
use Rattle.port_state.proofs.FlowsBehind.{flows-stepped}
use Rattle.port_state.proofs.Waiting.{many-stepped, others-tried, rest-stepped}

pub record Goes (q : ℕ) (old k : KeptState) (before list : List Change) : Type 0 where
  pub state : pushed q (state_in k) ≡ pushed q (state_in old)
  pub changes : list ++ changes_pushed q (state_in k) ≡ before ++ changes_pushed q (state_in old)
  pub counts : (c : Counter) → carried c (flows_of (state_in k)) (changes_pushed q (state_in k)) (count_in k c)
      ≡ carried c (flows_of (state_in old)) (changes_pushed q (state_in old)) (count_in old c)

-- so many operations of a queue are left, and all that a step wants holds
pub record IsPushing (q left room : ℕ) (rxq : ℕ) (k : KeptState) : Type 0 where
  pub many : length (queue_at q (state_in k)).held ≡ left
  pub there : q < length (state_in k).queues
  pub port : rxq ≡ (state_in k).rxq
  pub kept : AreKept k
  pub apart : AreApart (state_in k)
  pub rules_room : left ≤ k.room
  pub changes_room : left ≤ room

pub pushed-step : (q : ℕ) (s : State) (op : Held) (ops : List Held) → (queue_at q s).held ≡ op ∷ ops → pushed q (stepped q s op) ≡ pushed q s
pushed-step q s op ops is = ap (λ (list : List Held). fold (stepped q) (stepped q s op) list) (rest-stepped q s op ops is) ∙ sym (ap (λ (list : List Held). fold (stepped q) s list) is)

pub changes-step : (q : ℕ) (s : State) (op : Held) (ops : List Held) → (queue_at q s).held ≡ op ∷ ops → changes_pushed q s ≡ changes_at s op ++ changes_pushed q (stepped q s op)
changes-step q s op ops is =
    ap (λ (list : List Held). changes_stepped q s list) is
    ∙ ap (λ (list : List Held). changes_at s op ++ changes_stepped q (stepped q s op) list) (sym (rest-stepped q s op ops is))

pub carried-append : (c : Counter) (f : Flows) (xs ys : List Change) (n : Count) → carried c f (xs ++ ys) n ≡ carried c (fold changed f xs) ys (carried c f xs n)
carried-append c f [] ys n = refl
carried-append c f (x ∷ xs) ys n = carried-append c (changed f x) xs ys (while_there (is_there c (changed f x)) n)

goes-on : (q : ℕ) (old k new : KeptState) (before list more : List Change) (op : Held) (ops : List Held) → (queue_at q (state_in k)).held ≡ op ∷ ops
    → state_in new ≡ stepped q (state_in k) op → more ≡ list ++ changes_at (state_in k) op
    → ((c : Counter) → count_in new c ≡ carried c (flows_of (state_in k)) (changes_at (state_in k) op) (count_in k c))
    → Goes q old k before list → Goes q old new before more
goes-on q old k new before list more op ops is state changes counts goes = record {
  state = ap (pushed q) state ∙ pushed-step q (state_in k) op ops is ∙ goes.state;
  changes =
      ap (λ (cs : List Change). cs ++ changes_pushed q (state_in new)) changes
      ∙ ap (λ (s : State). (list ++ changes_at (state_in k) op) ++ changes_pushed q s) state
      ∙ append_assoc list (changes_at (state_in k) op) (changes_pushed q (stepped q (state_in k) op))
      ∙ ap (λ (cs : List Change). list ++ cs) (sym (changes-step q (state_in k) op ops is))
      ∙ goes.changes;
  counts = λ c.
      let rest = changes_pushed q (stepped q (state_in k) op) in
      let n = carried c (flows_of (state_in k)) (changes_at (state_in k) op) (count_in k c) in
      ap (λ (s : State). carried c (flows_of s) (changes_pushed q s) (count_in new c)) state
      ∙ ap (λ (m : Count). carried c (flows_of (stepped q (state_in k) op)) rest m) (counts c)
      ∙ ap (λ (f : Flows). carried c f rest n) (flows-stepped q (state_in k) op)
      ∙ sym (carried-append c (flows_of (state_in k)) (changes_at (state_in k) op) rest (count_in k c))
      ∙ sym (ap (λ (cs : List Change). carried c (flows_of (state_in k)) cs (count_in k c)) (changes-step q (state_in k) op ops is))
      ∙ goes.counts c;
}

pub goes-step : (q : ℕ) (old k new : KeptState) (before list more : List Change) (held : List Held) → (queue_at q (state_in k)).held ≡ held → 1 ≤ length held
    → state_in new ≡ step_first q (state_in k) held → more ≡ list ++ changes_first (state_in k) held
    → ((c : Counter) → count_in new c ≡ carried c (flows_of (state_in k)) (changes_first (state_in k) held) (count_in k c))
    → Goes q old k before list → Goes q old new before more
goes-step q old k new before list more [] is some state changes counts goes = absurd (omega (arith, some))
goes-step q old k new before list more (op ∷ ops) is some state changes counts goes = goes-on q old k new before list more op ops is state changes counts goes

pushes-on : (q left room more rxq : ℕ) (k new : KeptState) (op : Held) (ops : List Held) → (queue_at q (state_in k)).held ≡ op ∷ ops → state_in new ≡ stepped q (state_in k) op
    → AreKept new → k.room ≤ new.room + 1 → room ≤ more + 1 → IsPushing q (left + 1) room rxq k → IsPushing q left more rxq new
pushes-on q left room more rxq k new op ops is state kept there there' p = record {
  many = omega (arith, p.many, ap {B = ℕ} (λ (list : List Held). length list) is, ap {B = ℕ} (λ (s : State). length (queue_at q s).held) state, ap {B = ℕ} (λ (list : List Held). length list) (rest-stepped q (state_in k) op ops is));
  there = omega (arith, p.there, ap {B = ℕ} (λ (s : State). length s.queues) state, many-stepped q (state_in k) op);
  port = p.port ∙ sym (ap (λ (s : State). s.rxq) state ∙ ap (λ (t : State). t.rxq) (others-tried (state_in k) op));
  kept = kept;
  apart = subst AreApart (sym state) (AreApart-stepped q (state_in k) op ops is p.apart);
  rules_room = omega (arith, p.rules_room, there);
  changes_room = omega (arith, p.changes_room, there');
}

pub pushes-step : (q left room more rxq : ℕ) (k new : KeptState) (held : List Held) → (queue_at q (state_in k)).held ≡ held → state_in new ≡ step_first q (state_in k) held
    → AreKept new → k.room ≤ new.room + 1 → room ≤ more + 1 → IsPushing q (left + 1) room rxq k → IsPushing q left more rxq new
pushes-step q left room more rxq k new [] is state kept there there' p = absurd (omega (arith, p.many, ap {B = ℕ} (λ (list : List Held). length list) is))
pushes-step q left room more rxq k new (op ∷ ops) is state kept there there' p = pushes-on q left room more rxq k new op ops is state kept there there' p

-- nothing is left
none-of : (list : List Held) → length list ≡ 0 → list ≡ []
none-of [] none = refl
none-of (op ∷ ops) none = absurd (omega (arith, none))

pub state-done : (q : ℕ) (s : State) → length (queue_at q s).held ≡ 0 → pushed q s ≡ s
state-done q s none = ap (λ (list : List Held). fold (stepped q) s list) (none-of (queue_at q s).held none)

pub changes-done : (q : ℕ) (s : State) → length (queue_at q s).held ≡ 0 → changes_pushed q s ≡ []
changes-done q s none = ap (λ (list : List Held). changes_stepped q s list) (none-of (queue_at q s).held none)
