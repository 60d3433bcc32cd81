-- Counters that rise, one behind the other.
use Rattle.std.proofs.Common.{◌^◌, ◌<◌, ◌≤◌, length, flat_map, take, get_or, ◌≡◌, ℕ, ◌+◌, ◌*◌, Bool, true, false, cond, ◌||◌, nat_eq, nat_lt, is_some, map, count_by, List, [], ◌∷◌, ◌++◌, Option, None, Some, IsSome, refl, sym, ap, ◌∙◌, subst, arith}
use Rattle.std.specs.Option.{option_map, option_to_list}
use Rattle.std.proofs.lemmas.Nat.{mul-le}
use Rattle.std.proofs.lemmas.List.Elements.{All-weaker}
use Rattle.std.proofs.lemmas.List.{append-nil, take_more, take_all}
use Rattle.std.proofs.lemmas.List.Concat.{flat_map-append}
use Rattle.flow_actions.specs.declared.action.Action.{Action}
use Rattle.flow_actions.specs.declared.action.Action.TheVariants as actions
use Rattle.flow_rules.specs.RuleView.{RuleView}
use Rattle.flow_rules.specs.Shared.{Shared, counter_in, shared_at, value_in}
use Rattle.flow_rules.specs.Naming.{rule_at, named_by, namings, namings_of}
use Rattle.port_state.specs.State.{Placed, rule_in}
use Rattle.port_state.proofs.RulesKept.{rules-placed}
use Rattle.std.proofs.Math.Nat.{add-mul}
use Rattle.std.proofs.lemmas.Bool.{eqb-true, eq-eqb}
use Rattle.std.proofs.lemmas.List.Sums.{sum_by-append, sum_by-cons}
use Rattle.flow_rules.specs.declared.counter.Counter.{Counter}
use Rattle.flow_rules.specs.declared.counter.Counter.TheVariants as counters
use Rattle.flow_rules.specs.declared.counter.Count.{Count}
use Rattle.rules_in_effect.specs.declared.in_effect.InEffect.{InEffect}
use Rattle.rules_in_effect.specs.Entries as rules
use Rattle.rules_in_effect.proofs.Distinct.{entry_at-raised_same, entry_at-raised_other}
use Rattle.indirect_counters.specs.declared.shared_action.SharedAction.{SharedAction}
use Rattle.indirect_counters.specs.Counts.{counted}
use Rattle.indirect_counters.specs.Entries.{Entries, created, entry_at, if_in_effect, in_effect_at, values_in_effect}
use Rattle.flow_rules.specs.Changes.{has_id}
use Rattle.indirect_counters.specs.Effects.{raised}
use Rattle.indirect_counters.proofs.Lawful.{AreOn-changed_at, length-changed_at}
use Rattle.template_tables.specs.TemplatesView.{TemplatesView}
use Rattle.port_state.specs.declared.held.Held.{Held}
use Rattle.port_state.specs.declared.held.Held.TheVariants as held
use Rattle.port_state.specs.Apart.{is_held_shared, is_shared_creation}
use Rattle.port_state.specs.Kept.{AreKeptFor, IsHeldIn}
use Rattle.port_state.specs.Counters.{counted_more, is_counter}
use Rattle.port_state.specs.KeptState.{placed, count_kept, count_of_rule, count_of_shared}
use Rattle.port_state.specs.Raising.{Raises, HasRoomFor, actions_in, naming_at, namings_up}
use Rattle.indirect_counters.proofs.Effects.{entry_at-changed_at, values-changed_at}

no-times : (len : ℕ) → 0 * len ≡ 0
no-times len = omega arith

one-time : (len : ℕ) → 1 * len ≡ len
one-time len = omega arith

count-of : (h b : ℕ) (n : Count) → n.hits ≡ h → n.bytes ≡ b → n ≡ record { hits = h; bytes = b }
count-of h b n eh eb = ap (λ x. record { hits = x; bytes = n.bytes }) eh ∙ ap (λ y. record { hits = h; bytes = y }) eb

-- no time more
pub counted_more-none : (n : Count) (len : ℕ) → counted_more n 0 len ≡ n
counted_more-none n len = sym (count-of (n.hits + 0) (n.bytes + 0 * len) n (omega arith) (omega (arith, no-times len)))

counted_more-one : (n : Count) (len : ℕ) → counted_more n 1 len ≡ record { hits = n.hits + 1; bytes = n.bytes + len }
counted_more-one n len = ap (λ b. record { hits = n.hits + 1; bytes = n.bytes + b }) (one-time len)

-- so many times, and so many more
counted_more-then : (n : Count) (k j len : ℕ) → counted_more (counted_more n k len) j len ≡ counted_more n (k + j) len
counted_more-then n k j len =
    ap (λ h. record { hits = h; bytes = (n.bytes + k * len) + j * len }) (omega arith)
    ∙ ap (λ b. record { hits = n.hits + (k + j); bytes = b }) (omega (arith, add-mul k j len))

pub Raises-none : (rules : List InEffect) (shared : Entries) (bytes : ℕ) → Raises rules shared rules shared [] bytes
Raises-none rules shared bytes = record {
  rules_same = refl;
  values_same = refl;
  used = λ id. refl;
  number = refl;
  held = λ id value is. is;
  on_port = λ rxq all. all;
  counts = λ c. sym (counted_more-none (count_kept rules shared c) bytes);
}

pub Raises-then : (r r1 r2 : List InEffect) (s s1 s2 : Entries) (xs ys : List Counter) (bytes : ℕ) → Raises r s r1 s1 xs bytes → Raises r1 s1 r2 s2 ys bytes
    → Raises r s r2 s2 (xs ++ ys) bytes
Raises-then r r1 r2 s s1 s2 xs ys bytes p q = record {
  rules_same = q.rules_same ∙ p.rules_same;
  values_same = q.values_same ∙ p.values_same;
  used = λ id. q.used id ∙ p.used id;
  number = q.number ∙ p.number;
  held = λ id value is. q.held id value (p.held id value is);
  on_port = λ rxq all. q.on_port rxq (p.on_port rxq all);
  counts = λ c. q.counts c
      ∙ ap (λ n. counted_more n (count_by (is_counter c) ys) bytes) (p.counts c)
      ∙ counted_more-then (count_kept r s c) (count_by (is_counter c) xs) (count_by (is_counter c) ys) bytes
      ∙ ap (λ k. counted_more (count_kept r s c) k bytes) (sym (sum_by-append (λ x. cond (is_counter c x) 1 0) xs ys));
}

-- one counter that is named, among all
one-named : (c counter : Counter) (b : Bool) → is_counter c counter ≡ b → count_by (is_counter c) (counter ∷ []) ≡ cond b 1 0
one-named c counter b e = sum_by-cons (λ x. cond (is_counter c x) 1 0) counter [] ∙ add-zero (cond (is_counter c counter) 1 0) ∙ ap (λ (x : Bool). cond x 1 0) e where
  add-zero : (n : ℕ) → n + 0 ≡ n
  add-zero n = omega arith

apart : (q id : ℕ) → nat_eq q id ≡ false → q ≡ id → ⊥
apart q id other same = false-not-true (sym other ∙ ap (nat_eq q) (sym same) ∙ eq-eqb q q refl) where
  false-not-true : false ≡ true → ⊥
  false-not-true e = cc

rule-hit : (o : Option InEffect) (bytes : ℕ) → IsSome o → count_of_rule (option_map (rules.with_hit bytes) o) ≡ counted_more (count_of_rule o) 1 bytes
rule-hit None bytes there = cc
rule-hit (Some entry) bytes there = sym (counted_more-one entry.count bytes)

pub Raises-rule : (id bytes : ℕ) (list : List InEffect) (shared : Entries) → IsSome (rules.entry_at id list) → map placed (rules.raised id bytes list) ≡ map placed list
    → Raises list shared (rules.raised id bytes list) shared (counters.Rule id ∷ []) bytes
Raises-rule id bytes list shared there same = record {
  rules_same = same;
  values_same = refl;
  used = λ id. refl;
  number = refl;
  held = λ id value is. is;
  on_port = λ rxq all. all;
  counts = counts;
} where
  counts : (c : Counter) → count_kept (rules.raised id bytes list) shared c ≡ counted_more (count_kept list shared c) (count_by (is_counter c) (counters.Rule id ∷ [])) bytes
  counts (counters.Shared q) =
      sym (counted_more-none (count_kept list shared (counters.Shared q)) bytes)
      ∙ ap (λ k. counted_more (count_kept list shared (counters.Shared q)) k bytes) (sym (one-named (counters.Shared q) (counters.Rule id) false refl))
  counts (counters.Rule q) = by (nat_eq q id) refl where
    by : (b : Bool) → nat_eq q id ≡ b
        → count_kept (rules.raised id bytes list) shared (counters.Rule q) ≡ counted_more (count_kept list shared (counters.Rule q)) (count_by (is_counter (counters.Rule q)) (counters.Rule id ∷ [])) bytes
    by true e =
        subst (λ k. count_of_rule (rules.entry_at k (rules.raised id bytes list)) ≡ counted_more (count_of_rule (rules.entry_at k list)) 1 bytes) (sym (eqb-true q id e))
        (ap count_of_rule (entry_at-raised_same id bytes list) ∙ rule-hit (rules.entry_at id list) bytes there)
        ∙ ap (λ k. counted_more (count_of_rule (rules.entry_at q list)) k bytes) (sym (one-named (counters.Rule q) (counters.Rule id) true e))
    by false e =
        ap count_of_rule (entry_at-raised_other id bytes q list (λ same. apart q id e same))
        ∙ sym (counted_more-none (count_of_rule (rules.entry_at q list)) bytes)
        ∙ ap (λ k. counted_more (count_of_rule (rules.entry_at q list)) k bytes) (sym (one-named (counters.Rule q) (counters.Rule id) false e))

-- one frame more, of so many bytes
abbrev hit : ℕ → SharedAction → SharedAction
hit bytes e = record e { count = counted e.count bytes }

shared-hit : (o : Option SharedAction) (bytes : ℕ) → IsSome o → count_of_shared (option_map (hit bytes) o) ≡ counted_more (count_of_shared o) 1 bytes
shared-hit None bytes there = cc
shared-hit (Some entry) bytes there = sym (counted_more-one entry.count bytes)

stands-hit : (id bytes q : ℕ) (shared : Entries) → entry_at q (raised id bytes shared) ≡ cond (nat_eq q id) (option_map (hit bytes) (entry_at q shared)) (entry_at q shared)
stands-hit id bytes q shared = entry_at-changed_at id (hit bytes) q shared

used-hit : (b : Bool) (bytes : ℕ) (o : Option SharedAction) → is_some (cond b (option_map (hit bytes) o) o) ≡ is_some o
used-hit true bytes None = refl
used-hit true bytes (Some e) = refl
used-hit false bytes o = refl

-- what is in effect at an id is counted, and what is held isn't
in_effect-hit : (b : Bool) (bytes : ℕ) (o : Option SharedAction) → if_in_effect (cond b (option_map (hit bytes) o) o) ≡ cond b (option_map (hit bytes) (if_in_effect o)) (if_in_effect o)
in_effect-hit false bytes o = refl
in_effect-hit true bytes None = refl
in_effect-hit true bytes (Some e) = by e.held where
  by : (h : Bool) → cond h None (Some (hit bytes e)) ≡ option_map (hit bytes) (cond h None (Some e))
  by true = refl
  by false = refl

counts-hit : (id bytes q : ℕ) (shared : Entries) → in_effect_at q (raised id bytes shared) ≡ cond (nat_eq q id) (option_map (hit bytes) (in_effect_at q shared)) (in_effect_at q shared)
counts-hit id bytes q shared = ap if_in_effect (stands-hit id bytes q shared) ∙ in_effect-hit (nat_eq q id) bytes (entry_at q shared)

held-hit : (id bytes q : ℕ) (shared : Entries) (value : Action) → IsSome (in_effect_at id shared) → entry_at q shared ≡ Some (created value true) → entry_at q (raised id bytes shared) ≡ Some (created value true)
held-hit id bytes q shared value there is = stands-hit id bytes q shared ∙ by (nat_eq q id) refl where
  by : (b : Bool) → nat_eq q id ≡ b → cond b (option_map (hit bytes) (entry_at q shared)) (entry_at q shared) ≡ Some (created value true)
  by true same = absurd (not-some (subst (λ (o : Option SharedAction). IsSome (if_in_effect o)) (ap (λ k. entry_at k shared) (sym (eqb-true q id same)) ∙ is) there)) where
    not-some : IsSome (if_in_effect (Some (created value true))) → ⊥
    not-some none = cc
  by false other = is

pub Raises-shared : (id bytes : ℕ) (list : List InEffect) (shared : Entries) → IsSome (in_effect_at id shared)
    → Raises list shared list (raised id bytes shared) (counters.Shared id ∷ []) bytes
Raises-shared id bytes list shared there = record {
  rules_same = refl;
  values_same = values-changed_at id (hit bytes) (λ e. refl) (λ e. refl) shared;
  used = λ q. ap (λ (o : Option SharedAction). is_some o) (stands-hit id bytes q shared) ∙ used-hit (nat_eq q id) bytes (entry_at q shared);
  number = length-changed_at id (hit bytes) shared;
  held = λ q value is. held-hit id bytes q shared value there is;
  on_port = λ rxq all. AreOn-changed_at rxq id (hit bytes) (λ e. refl) shared all;
  counts = counts;
} where
  counts : (c : Counter) → count_kept list (raised id bytes shared) c ≡ counted_more (count_kept list shared c) (count_by (is_counter c) (counters.Shared id ∷ [])) bytes
  counts (counters.Rule q) =
      sym (counted_more-none (count_kept list shared (counters.Rule q)) bytes)
      ∙ ap (λ k. counted_more (count_kept list shared (counters.Rule q)) k bytes) (sym (one-named (counters.Rule q) (counters.Shared id) false refl))
  counts (counters.Shared q) = by (nat_eq q id) refl where
    by : (b : Bool) → nat_eq q id ≡ b
        → count_kept list (raised id bytes shared) (counters.Shared q) ≡ counted_more (count_kept list shared (counters.Shared q)) (count_by (is_counter (counters.Shared q)) (counters.Shared id ∷ [])) bytes
    by true e =
        ap count_of_shared (counts-hit id bytes q shared ∙ ap (λ b. cond b (option_map (hit bytes) (in_effect_at q shared)) (in_effect_at q shared)) e)
        ∙ shared-hit (in_effect_at q shared) bytes (subst (λ k. IsSome (in_effect_at k shared)) (sym (eqb-true q id e)) there)
        ∙ ap (λ k. counted_more (count_of_shared (in_effect_at q shared)) k bytes) (sym (one-named (counters.Shared q) (counters.Shared id) true e))
    by false e =
        ap count_of_shared (counts-hit id bytes q shared ∙ ap (λ b. cond b (option_map (hit bytes) (in_effect_at q shared)) (in_effect_at q shared)) e)
        ∙ sym (counted_more-none (count_of_shared (in_effect_at q shared)) bytes)
        ∙ ap (λ k. counted_more (count_of_shared (in_effect_at q shared)) k bytes) (sym (one-named (counters.Shared q) (counters.Shared id) false e))

-- counting leaves the rules
pub placed-raised : (id bytes : ℕ) (list : List InEffect) → map placed (rules.raised id bytes list) ≡ map placed list
placed-raised id bytes [] = refl
placed-raised id bytes (entry ∷ list) = by (has_id id entry.rule) (placed-raised id bytes list) where
  by : (b : Bool) → map placed (rules.raised id bytes list) ≡ map placed list
      → placed (cond b (rules.with_hit bytes entry) entry) ∷ map placed (rules.raised id bytes list) ≡ placed entry ∷ map placed list
  by true behind = ap (λ rs. placed entry ∷ rs) behind
  by false behind = ap (λ rs. placed entry ∷ rs) behind

-- one action more
pub namings_up-more : (shared : Shared) (o : Option RuleView) (n : ℕ) → n < length (actions_in o) → namings_up shared o (n + 1) ≡ namings_up shared o n ++ naming_at shared o n
namings_up-more shared None n below = refl
namings_up-more shared (Some rule) n below =
    let names : Action → List Counter = λ a. named_by (counter_in rule.id a) (value_in shared a) in
    let here = get_or rule.actions n actions.Void in
    ap (flat_map names) (take_more rule.actions n actions.Void below)
    ∙ flat_map-append names (take n rule.actions) (here ∷ [])
    ∙ ap (λ (ns : List Counter). flat_map names (take n rule.actions) ++ ns) (append-nil (names here))

-- and all of them
pub namings_up-all : (shared : Shared) (o : Option RuleView) (n : ℕ) → length (actions_in o) ≤ n → namings_up shared o n ≡ namings_of shared o
namings_up-all shared None n most = refl
namings_up-all shared (Some rule) n most = ap (λ (list : List Action). namings shared (record rule { actions = list })) (take_all n rule.actions most)

-- room that is left behind so many times
pub room-left : (count : Count) (n m k len : ℕ) → HasRoomFor n count → len < 2 ^ 32 → k + m ≤ n → HasRoomFor m (counted_more count k len)
room-left count n m k len room short most =
    let product = mul-le k len k (2 ^ 32) (omega arith) (omega (arith, short)) in
    (omega (arith, room.0, most), omega (arith, room.1, most, product))

-- at most one name for an action
pub one-name : (o : Option Counter) → length (option_to_list o) ≤ 1
one-name None = omega arith
one-name (Some n) = omega arith

-- rules that are counted are found as before
pub found-same : (list list' : List InEffect) → map placed list' ≡ map placed list → (id : ℕ) → rule_at id (map rules.rule_in list') ≡ rule_at id (map rules.rule_in list)
found-same list list' same id =
    ap (rule_at id) (sym (rules-placed list')) ∙ ap (λ (ps : List Placed). rule_at id (map rule_in ps)) same ∙ ap (rule_at id) (rules-placed list)

-- what the action at a place names joins what those before name
pub step-named : (shared : Shared) (o : Option RuleView) (n : ℕ) (named : Option Counter) → n < length (actions_in o) → option_to_list named ≡ naming_at shared o n
    → namings_up shared o (n + 1) ≡ namings_up shared o n ++ option_to_list named
step-named shared o n named below same = namings_up-more shared o n below ∙ ap (λ (ns : List Counter). namings_up shared o n ++ ns) (sym same)

-- what is named on a list that was counted is what is named on the list before
pub naming-same : (r r' : List InEffect) (s s' : Entries) (names : List Counter) (bytes : ℕ) → Raises r s r' s' names bytes → (id n : ℕ)
    → naming_at (values_in_effect s') (rule_at id (map rules.rule_in r')) n ≡ naming_at (values_in_effect s) (rule_at id (map rules.rule_in r)) n
naming-same r r' s s' names bytes raises id n =
    ap (λ (vs : Shared). naming_at vs (rule_at id (map rules.rule_in r')) n) raises.values_same
    ∙ ap (λ (o : Option RuleView). naming_at (values_in_effect s) o n) (found-same r r' raises.rules_same id)

-- the namings of a rule of the list before
pub namings-same : (r r' : List InEffect) (s s' : Entries) (names : List Counter) (bytes : ℕ) → Raises r s r' s' names bytes → (id : ℕ)
    → namings_of (values_in_effect s') (rule_at id (map rules.rule_in r')) ≡ namings_of (values_in_effect s) (rule_at id (map rules.rule_in r))
namings-same r r' s s' names bytes raises id =
    ap (λ (vs : Shared). namings_of vs (rule_at id (map rules.rule_in r'))) raises.values_same
    ∙ ap (namings_of (values_in_effect s)) (found-same r r' raises.rules_same id)

-- the rules on a path, one more
pub path-more : (r r' : List InEffect) (s s' : Entries) (names : List Counter) (bytes : ℕ) → Raises r s r' s' names bytes → (path : List ℕ) (n : ℕ) → n < length path
    → flat_map (λ id. namings_of (values_in_effect s) (rule_at id (map rules.rule_in r))) (take n path) ++ namings_of (values_in_effect s') (rule_at (get_or path n 0) (map rules.rule_in r'))
    ≡ flat_map (λ id. namings_of (values_in_effect s) (rule_at id (map rules.rule_in r))) (take (n + 1) path)
path-more r r' s s' names bytes raises path n below =
    let f : ℕ → List Counter = λ id. namings_of (values_in_effect s) (rule_at id (map rules.rule_in r)) in
    let id = get_or path n 0 in
    ap (λ (ns : List Counter). flat_map f (take n path) ++ ns) (namings-same r r' s s' names bytes raises id)
    ∙ ap (λ (ns : List Counter). flat_map f (take n path) ++ ns) (sym (append-nil (f id)))
    ∙ sym (flat_map-append f (take n path) (id ∷ []))
    ∙ ap (flat_map f) (sym (take_more path n 0 below))

-- what is held stays
held-in : (templates : TemplatesView) (s s' : Entries) → ((id : ℕ) (value : Action) → entry_at id s ≡ Some (created value true) → entry_at id s' ≡ Some (created value true))
    → (op : Held) → IsHeldIn templates s op → IsHeldIn templates s' op
held-in templates s s' same (held.RuleCreated rule table) is = is
held-in templates s s' same (held.RuleDestroyed id) is = is
held-in templates s s' same (held.SharedCreated id value) is = same id value is
held-in templates s s' same (held.SharedUpdated id value) is = is
held-in templates s s' same (held.SharedDestroyed id) is = is

pub AreKeptFor-raised : (r r' : List InEffect) (s s' : Entries) (names : List Counter) (bytes : ℕ) → Raises r s r' s' names bytes
    → (ids : ℕ) (templates : TemplatesView) (ops : List Held) → AreKeptFor ids templates s ops → AreKeptFor ids templates s' ops
AreKeptFor-raised r r' s s' names bytes raises ids templates ops kept = record {
  tables = kept.tables;
  each = All-weaker (IsHeldIn templates s) (IsHeldIn templates s') (held-in templates s s' raises.held) ops kept.each;
  used = λ id. raises.used id ∙ kept.used id ∙ ap (λ (vs : Shared). is_some (shared_at id vs) || nat_lt 0 (count_by (is_held_shared id) ops)) (sym raises.values_same);
  number = raises.number ∙ kept.number ∙ ap (λ (vs : Shared). length vs + count_by is_shared_creation ops) (sym raises.values_same);
}
