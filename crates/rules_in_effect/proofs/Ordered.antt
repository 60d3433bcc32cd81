-- What each change does to the order.
use Rattle.std.proofs.Common.{◌≡◌, ◌≢◌, ℕ, ◌+◌, ◌-◌, ◌≤◌, ◌^◌, min, cond, filter, length, List, [], ◌∷◌, ◌++◌, None, Some, refl, sym, ap, ◌∙◌, subst, arith, inl, inr, Contains, IsSome}
use Rattle.std.proofs.Math.Nat.{min-le_left}
use Rattle.std.specs.Map.{lookup, set_value}
use Rattle.std.proofs.lemmas.List.{length-append}
use Rattle.std.proofs.lemmas.List.Concat.{flat_map-append}
use Rattle.std.proofs.lemmas.Map.{length-set_value}
use Rattle.slot_pool.specs.declared.handle.Handle.{Handle}
use Rattle.slot_pool.specs.declared.chain.Chain.{Chain}
use Rattle.slot_pool.specs.Handle.{same_handle}
use Rattle.slot_pool.specs.Links.{IsChain, Joins, is_other, link_of, members}
use Rattle.slot_pool.specs.Pool.{KeepsOtherValues, Pool, get, with_value, without}
use Rattle.slot_pool.proofs.Handles.{same_handle_tells, same_handle-other, length-remove_entry}
use Rattle.slot_pool.proofs.Joined.{Contains-split, Joins-linked, filter-without}
use Rattle.rules_in_effect.specs.declared.in_effect.InEffect.{InEffect}
use Rattle.rules_in_effect.specs.Entries.{with_hit}
use Rattle.rules_in_effect.specs.Order.{under, but, hit_under}
use Rattle.rules_in_effect.specs.OrderInside.{lodged, with_handle, kept_in, AreLodged, IsOrder, IsPut}
use Rattle.rules_in_effect.proofs.Kept.{kept-same, AreLodged-same, AreLodged-push, kept-under, under-absent, kept-but, kept-hit, some_of}

-- what the pool and the chain keep
abbrev pub kept_by : Pool InEffect → Chain → List (Handle × InEffect)
kept_by pool chain = kept_in (get pool) (members pool.links chain)

-- an order with what it keeps
pub record Keeps (pool : Pool InEffect) (chain : Chain) (len capacity : ℕ) (kept : List (Handle × InEffect)) : Type 0 where
  pub order : IsOrder pool chain len capacity
  pub is : kept_by pool chain ≡ kept

-- what lies under a handle
pub record LiesUnder (pool : Pool InEffect) (chain : Chain) (h : Handle) : Type 0 where
  pub entry : InEffect
  pub is : under h (kept_by pool chain) ≡ Some entry
  pub member : Contains (members pool.links chain) h
  pub found : get pool h ≡ Some entry

pub lies_under : (pool : Pool InEffect) (chain : Chain) (h : Handle) (len capacity : ℕ) → IsOrder pool chain len capacity → IsSome (under h (kept_by pool chain)) → LiesUnder pool chain h
lies_under pool chain h len capacity order there =
    let some = some_of (under h (kept_by pool chain)) there in
    let kept = kept-under (get pool) (members pool.links chain) h some.0 order.lodgers some.1 in
    record { entry = some.0; is = some.1; member = kept.0; found = kept.1 }

-- more places change nothing
pub Keeps-grown : (pool new : Pool InEffect) (chain : Chain) (len capacity more : ℕ) → IsOrder pool chain len capacity → capacity + more ≤ 2 ^ 31
    → new ≡ record pool { capacity = pool.capacity + more } → Keeps new chain len (capacity + more) (kept_by pool chain)
Keeps-grown pool new chain len capacity more order small grown =
    subst (λ p. Keeps p chain len (capacity + more) (kept_by pool chain)) (sym grown) (record {
      order = record {
        chained = order.chained;
        lodgers = order.lodgers;
        number = order.number;
        values = order.values;
        size = ap (λ n. n + more) order.size;
        within = omega (arith, order.within);
        small = small;
      };
      is = refl;
    })

-- a rule comes last
pub Keeps-appended : (pool mid new : Pool InEffect) (chain last : Chain) (h : Handle) (entry : InEffect) (len capacity : ℕ) → IsOrder pool chain len capacity
    → len ≢ capacity → IsPut pool mid h entry → new ≡ record mid { links = new.links } → IsChain new.links last
    → members new.links last ≡ members mid.links chain ++ h ∷ []
    → Keeps new last (len + 1) capacity (kept_by pool chain ++ (h, entry) ∷ []) × (under h (kept_by pool chain) ≡ None)
Keeps-appended pool mid new chain last h entry len capacity order room put stays chained behind =
    let hs = members pool.links chain in
    let links : mid.links ≡ pool.links = ap (λ (p : Pool InEffect). p.links) put.put in
    let handles : members new.links last ≡ hs ++ h ∷ [] = behind ∙ ap (λ l. members l chain ++ h ∷ []) links in
    let absent : Contains hs h → ⊥ = λ p.
    let linked = Joins-linked (link_of pool.links) None hs None h order.chained.joined p in
    let free : link_of pool.links h ≡ None = ap (λ l. link_of l h) (sym links) ∙ put.unchained in
    let some = linked.1 in
    cc in
    let now : (q : Handle) → get new q ≡ get mid q = λ q. ap (λ (p : Pool InEffect). get p q) stays in
    let same : (q : Handle) → Contains hs q → get new q ≡ get pool q = λ q p. now q ∙ put.others q (λ e. absent (subst (Contains hs) e p)) in
    let there : get new h ≡ Some entry = now h ∙ put.there in
    let last_one : kept_in (get new) (h ∷ []) ≡ (h, entry) ∷ [] = ap (λ o. with_handle h (lodged o) ++ []) there in
    let values : new.values ≡ pool.values ++ (h, entry) ∷ [] = ap (λ (p : Pool InEffect). p.values) stays ∙ ap (λ (p : Pool InEffect). p.values) put.put in (
      record {
        order = record {
          chained = chained;
          lodgers = subst (AreLodged (get new)) (sym handles) (AreLodged-push (get new) hs h entry (AreLodged-same (get pool) (get new) hs same order.lodgers) there);
          number = ap length handles ∙ length-append hs (h ∷ []) ∙ ap (λ n. n + 1) order.number;
          values = ap length values ∙ length-append pool.values ((h, entry) ∷ []) ∙ ap (λ n. n + 1) order.values;
          size = ap (λ (p : Pool InEffect). p.capacity) stays ∙ ap (λ (p : Pool InEffect). p.capacity) put.put ∙ order.size;
          within = omega (arith, order.within, room);
          small = order.small;
        };
        is = ap (kept_in (get new)) handles
            ∙ flat_map-append _ hs (h ∷ [])
            ∙ ap (λ kept. kept ++ kept_in (get new) (h ∷ [])) (kept-same (get pool) (get new) hs same)
            ∙ ap (λ kept. kept_by pool chain ++ kept) last_one;
      },
      under-absent (get pool) hs h order.lodgers absent,
    )

-- where there is room a place is free
pub place_is_free : (len capacity puts : ℕ) → 1 ≤ min (capacity - len) (2 ^ 64 - 1 - puts) → len ≢ capacity
place_is_free len capacity puts room same = omega (arith, room, min-le_left (capacity - len) (2 ^ 64 - 1 - puts), same)

-- a rule more takes room for one
pub room-appended : (len capacity puts : ℕ) → 1 ≤ min (capacity - len) (2 ^ 64 - 1 - puts)
    → min (capacity - (len + 1)) (2 ^ 64 - 1 - (puts + 1)) + 1 ≡ min (capacity - len) (2 ^ 64 - 1 - puts)
room-appended len capacity puts room = grind arith

-- a rule less gives room for one, where puts are left
pub room-taken : (len capacity puts : ℕ) → min (capacity - len) (2 ^ 64 - 1 - puts) ≤ min (capacity - (len - 1)) (2 ^ 64 - 1 - puts)
room-taken len capacity puts = grind arith

-- the rule under a handle goes
pub Keeps-taken : (pool mid new : Pool InEffect) (chain last : Chain) (h : Handle) (entry : InEffect) (len capacity : ℕ) → IsOrder pool chain len capacity
    → under h (kept_by pool chain) ≡ Some entry → mid ≡ record pool { links = mid.links } → IsChain mid.links last
    → members mid.links last ≡ filter (is_other h) (members pool.links chain) → new ≡ without mid h → KeepsOtherValues mid new h
    → Keeps new last (len - 1) capacity (but h (kept_by pool chain))
Keeps-taken pool mid new chain last h entry len capacity order is stays chained left after others =
    let hs = members pool.links chain in
    let there = kept-under (get pool) hs h entry order.lodgers is in
    let links : new.links ≡ mid.links = ap (λ (p : Pool InEffect). p.links) after in
    let handles : members new.links last ≡ filter (is_other h) hs = ap (λ l. members l last) links ∙ left in
    let now : (q : Handle) → get mid q ≡ get pool q = λ q. ap (λ (p : Pool InEffect). get p q) stays in
    let same : (q : Handle) → q ≢ h → get new q ≡ get pool q = λ q differs. others q differs ∙ now q in
    let rest = kept-but (get pool) (get new) hs h order.lodgers same in
    let split = Contains-split h hs there.0 in
    let joined : Joins (link_of pool.links) None (split.0 ++ h ∷ split.1) None = subst (λ (l : List Handle). Joins (link_of pool.links) None l None) split.2 order.chained.joined in
    let filtered : filter (is_other h) hs ≡ split.0 ++ split.1 = ap (filter (is_other h)) split.2 ∙ filter-without (link_of pool.links) split.0 h split.1 joined in
    let fewer : length (filter (is_other h) hs) + 1 ≡ length hs
    = omega (arith, ap length filtered, ap length split.2, length-append split.0 split.1, length-append split.0 (h ∷ split.1)) in
    let gone : length new.values + 1 ≡ length pool.values
    = ap (λ (p : Pool InEffect). length p.values + 1) after
    ∙ length-remove_entry (same_handle h) mid.values entry (now h ∙ there.1)
    ∙ ap (λ (p : Pool InEffect). length p.values) stays in
    record {
      order = record {
        chained = subst (λ l. IsChain l last) (sym links) chained;
        lodgers = subst (AreLodged (get new)) (sym handles) rest.1;
        number = omega (arith, ap length handles, fewer, order.number);
        values = omega (arith, gone, order.values);
        size = ap (λ (p : Pool InEffect). p.capacity) after ∙ ap (λ (p : Pool InEffect). p.capacity) stays ∙ order.size;
        within = omega (arith, order.within);
        small = order.small;
      };
      is = ap (kept_in (get new)) handles ∙ rest.0;
    }

lookup-set_same : {X : Type 0} (h : Handle) (es : List (Handle × X)) (x w : X) → lookup (same_handle h) es ≡ Some x → lookup (same_handle h) (set_value (same_handle h) es w) ≡ Some w
lookup-set_same h [] x w is = cc
lookup-set_same h (e ∷ es) x w is =
    elim (same_handle_tells h e.0) [
      | inl hit ↦ rw (hit.0, hit.0) refl
      | inr miss ↦ rw (miss.0, miss.0) (lookup-set_same h es x w (rw miss.0 at is))
    ]

lookup-set_other : {X : Type 0} (h q : Handle) (es : List (Handle × X)) (w : X) → q ≢ h → lookup (same_handle q) (set_value (same_handle h) es w) ≡ lookup (same_handle q) es
lookup-set_other h q [] w differs = refl
lookup-set_other h q (e ∷ es) w differs =
    elim (same_handle_tells h e.0) [
      | inl hit ↦ rw (hit.0, same_handle-other q e.0 (λ same. differs (same ∙ sym hit.1))) refl
      | inr miss ↦ rw miss.0 (ap (λ o. cond (same_handle q e.0) (Some e.1) o) (lookup-set_other h q es w differs))
    ]

-- a frame is counted under a handle
pub Keeps-hit : (pool : Pool InEffect) (chain : Chain) (h : Handle) (entry : InEffect) (bytes len capacity : ℕ) → IsOrder pool chain len capacity
    → under h (kept_by pool chain) ≡ Some entry → Keeps (with_value pool h (with_hit bytes entry)) chain len capacity (hit_under h bytes (kept_by pool chain))
Keeps-hit pool chain h entry bytes len capacity order is =
    let hs = members pool.links chain in
    let new = with_value pool h (with_hit bytes entry) in
    let there = kept-under (get pool) hs h entry order.lodgers is in
    let after = kept-hit (get pool) (get new) hs h entry bytes order.lodgers there.1 (lookup-set_same h pool.values entry (with_hit bytes entry) there.1)
    (λ q differs. lookup-set_other h q pool.values (with_hit bytes entry) differs) in
    record {
      order = record {
        chained = order.chained;
        lodgers = after.1;
        number = order.number;
        values = length-set_value (same_handle h) pool.values (with_hit bytes entry) ∙ order.values;
        size = order.size;
        within = order.within;
        small = order.small;
      };
      is = after.0;
    }
