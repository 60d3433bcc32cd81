-- What a pool and a chain keep in order.
use Rattle.std.proofs.Common.{◌≡◌, ◌≢◌, ℕ, suc, ◌+◌, ◌≤◌, Bool, true, false, cond, not, drop, filter, length, List, [], ◌∷◌, ◌++◌, Option, None, Some, refl, sym, ap, ◌∙◌, subst, inl, inr, Contains, IsSome, MutBor}
use Rattle.std.specs.List.{slice_get}
use Rattle.std.specs.Option.{option_copied_mut}
use Rattle.std.proofs.lemmas.List.{drop_all, drop_more, map-append}
use Rattle.std.proofs.lemmas.Option.{get_or_from_slice_get, same_Some, slice_get_within}
use Rattle.slot_pool.specs.declared.handle.Handle.{Handle}
use Rattle.slot_pool.specs.Handle.{same_handle}
use Rattle.slot_pool.specs.Links.{is_other}
use Rattle.slot_pool.proofs.Handles.{same_handle_tells, same_handle-other}
use Rattle.slot_pool.proofs.Joined.{Contains-head, Contains-tail}
use Rattle.rules_in_effect.specs.declared.in_effect.InEffect.{InEffect}
use Rattle.rules_in_effect.specs.Entries.{CanCount, with_hit}
use Rattle.rules_in_effect.specs.Order.{entries, under, but, hit_under}
use Rattle.rules_in_effect.specs.OrderInside.{lodged, lodged_under, with_handle, kept_in, AreLodged}

kept-cons : (found : Handle → Option InEffect) (h : Handle) (hs : List Handle) (entry : InEffect) → found h ≡ Some entry → kept_in found (h ∷ hs) ≡ (h, entry) ∷ kept_in found hs
kept-cons found h hs entry is = ap (λ (o : Option InEffect). with_handle h (lodged o) ++ kept_in found hs) is

entries-with_handle : (h : Handle) (xs : List InEffect) → entries (with_handle h xs) ≡ xs
entries-with_handle h [] = refl
entries-with_handle h (x ∷ xs) = ap (λ rest. x ∷ rest) (entries-with_handle h xs)

-- the rules alone
pub entries-kept : (found : Handle → Option InEffect) (hs : List Handle) → entries (kept_in found hs) ≡ lodged_under found hs
entries-kept found [] = refl
entries-kept found (h ∷ hs) =
    map-append (λ (pair : Handle × InEffect). pair.1) (with_handle h (lodged (found h))) (kept_in found hs)
    ∙ ap (λ xs. xs ++ entries (kept_in found hs)) (entries-with_handle h (lodged (found h)))
    ∙ ap (λ xs. lodged (found h) ++ xs) (entries-kept found hs)

pub length-kept : (found : Handle → Option InEffect) (hs : List Handle) → AreLodged found hs → length (kept_in found hs) ≡ length hs
length-kept found [] all = refl
length-kept found (h ∷ hs) all = ap length (kept-cons found h hs all.0.0 all.0.1) ∙ ap suc (length-kept found hs all.1)

-- other values don't matter
pub kept-same : (at now : Handle → Option InEffect) (hs : List Handle) → ((q : Handle) → Contains hs q → now q ≡ at q) → kept_in now hs ≡ kept_in at hs
kept-same at now [] same = refl
kept-same at now (h ∷ hs) same =
    ap (λ (o : Option InEffect). with_handle h (lodged o) ++ kept_in now hs) (same h (Contains-head h hs))
    ∙ ap (λ rest. with_handle h (lodged (at h)) ++ rest) (kept-same at now hs (λ q p. same q (Contains-tail h q hs p)))

pub AreLodged-same : (at now : Handle → Option InEffect) (hs : List Handle) → ((q : Handle) → Contains hs q → now q ≡ at q) → AreLodged at hs → AreLodged now hs
AreLodged-same at now [] same all = tt
AreLodged-same at now (h ∷ hs) same all =
    ((all.0.0, same h (Contains-head h hs) ∙ all.0.1), AreLodged-same at now hs (λ q p. same q (Contains-tail h q hs p)) all.1)

pub AreLodged-push : (found : Handle → Option InEffect) (hs : List Handle) (h : Handle) (entry : InEffect) → AreLodged found hs → found h ≡ Some entry → AreLodged found (hs ++ h ∷ [])
AreLodged-push found [] h entry all is = ((entry, is), tt)
AreLodged-push found (x ∷ hs) h entry all is = (all.0, AreLodged-push found hs h entry all.1 is)

-- what is lodged under a handle is what is kept under it
pub kept-under : (found : Handle → Option InEffect) (hs : List Handle) (h : Handle) (entry : InEffect) → AreLodged found hs → under h (kept_in found hs) ≡ Some entry
    → Contains hs h × (found h ≡ Some entry)
kept-under found [] h entry all is = cc
kept-under found (x ∷ hs) h entry all is =
    let first = ap (under h) (sym (kept-cons found x hs all.0.0 all.0.1)) ∙ is in
    elim (same_handle_tells h x) [
      | inl same ↦
          let here : Some all.0.0 ≡ Some entry = ap (λ b. cond b (Some all.0.0) (under h (kept_in found hs))) (sym same.0) ∙ first in
          (subst (Contains (x ∷ hs)) (sym same.1) (Contains-head x hs), ap found same.1 ∙ all.0.1 ∙ ap Some (same_Some all.0.0 entry here))
      | inr other ↦
          let there : under h (kept_in found hs) ≡ Some entry = ap (λ b. cond b (Some all.0.0) (under h (kept_in found hs))) (sym other.0) ∙ first in
          let rest = kept-under found hs h entry all.1 there in
          (Contains-tail x h hs rest.0, rest.1)
    ]

-- nothing is kept under a handle that isn't there
pub under-absent : (found : Handle → Option InEffect) (hs : List Handle) (h : Handle) → AreLodged found hs → (Contains hs h → ⊥) → under h (kept_in found hs) ≡ None
under-absent found [] h all absent = refl
under-absent found (x ∷ hs) h all absent =
    ap (under h) (kept-cons found x hs all.0.0 all.0.1)
    ∙ ap (λ b. cond b (Some all.0.0) (under h (kept_in found hs))) (same_handle-other h x (λ same. absent (subst (Contains (x ∷ hs)) (sym same) (Contains-head x hs))))
    ∙ under-absent found hs h all.1 (λ p. absent (Contains-tail x h hs p))

-- without a handle
pub kept-but : (at now : Handle → Option InEffect) (hs : List Handle) (h : Handle) → AreLodged at hs → ((q : Handle) → q ≢ h → now q ≡ at q)
    → (kept_in now (filter (is_other h) hs) ≡ but h (kept_in at hs)) × AreLodged now (filter (is_other h) hs)
kept-but at now [] h all same = (refl, tt)
kept-but at now (x ∷ hs) h all same =
    let rest = kept-but at now hs h all.1 same in
    let entry = all.0.0 in
    let handles : Bool → List Handle = λ b. cond b (x ∷ filter (is_other h) hs) (filter (is_other h) hs) in
    let left : Bool → List (Handle × InEffect) = λ b. cond b ((x, entry) ∷ but h (kept_in at hs)) (but h (kept_in at hs)) in
    let begun : but h (kept_in at (x ∷ hs)) ≡ left (is_other h x) = ap (but h) (kept-cons at x hs entry all.0.1) in
    elim (same_handle_tells h x) as (λ _. (kept_in now (handles (is_other h x)) ≡ but h (kept_in at (x ∷ hs))) × AreLodged now (handles (is_other h x))) [
      | inl here ↦
          let off : is_other h x ≡ false = ap not here.0 in
          (ap (λ b. kept_in now (handles b)) off ∙ rest.0 ∙ sym (begun ∙ ap left off), subst (λ b. AreLodged now (handles b)) (sym off) rest.1)
      | inr other ↦
          let on : is_other h x ≡ true = ap not other.0 in
          let is : now x ≡ Some entry = same x (λ e. other.1 (sym e)) ∙ all.0.1 in (
            ap (λ b. kept_in now (handles b)) on ∙ kept-cons now x (filter (is_other h) hs) entry is ∙ ap (λ kept. (x, entry) ∷ kept) rest.0 ∙ sym (begun ∙ ap left on),
            subst (λ b. AreLodged now (handles b)) (sym on) ((entry, is), rest.1),
          )
    ]

-- one frame more under a handle
pub kept-hit : (at now : Handle → Option InEffect) (hs : List Handle) (h : Handle) (entry : InEffect) (bytes : ℕ) → AreLodged at hs
    → at h ≡ Some entry → now h ≡ Some (with_hit bytes entry) → ((q : Handle) → q ≢ h → now q ≡ at q)
    → (kept_in now hs ≡ hit_under h bytes (kept_in at hs)) × AreLodged now hs
kept-hit at now [] h entry bytes all was is same = (refl, tt)
kept-hit at now (x ∷ hs) h entry bytes all was is same =
    let rest = kept-hit at now hs h entry bytes all.1 was is same in
    let old = all.0.0 in
    let after : Bool → List (Handle × InEffect) = λ b. (x, cond b (with_hit bytes old) old) ∷ hit_under h bytes (kept_in at hs) in
    let begun : hit_under h bytes (kept_in at (x ∷ hs)) ≡ after (same_handle h x) = ap (hit_under h bytes) (kept-cons at x hs old all.0.1) in
    elim (same_handle_tells h x) as (λ _. (kept_in now (x ∷ hs) ≡ hit_under h bytes (kept_in at (x ∷ hs))) × AreLodged now (x ∷ hs)) [
      | inl here ↦
          let one : Some old ≡ Some entry = sym all.0.1 ∙ ap at (sym here.1) ∙ was in
          let same_entry : old ≡ entry = cc in
          let there : now x ≡ Some (with_hit bytes old) = ap now (sym here.1) ∙ is ∙ ap (λ e. Some (with_hit bytes e)) (sym same_entry) in (
            kept-cons now x hs (with_hit bytes old) there ∙ ap (λ kept. (x, with_hit bytes old) ∷ kept) rest.0 ∙ sym (begun ∙ ap after here.0),
            ((with_hit bytes old, there), rest.1),
          )
      | inr other ↦
          let there : now x ≡ Some old = same x (λ e. other.1 (sym e)) ∙ all.0.1 in (
            kept-cons now x hs old there ∙ ap (λ kept. (x, old) ∷ kept) rest.0 ∙ sym (begun ∙ ap after other.0),
            ((old, there), rest.1),
          )
    ]

-- a walk over the handles comes to one more, and to their end
pub lodged_under-more : (found : Handle → Option InEffect) (hs : List Handle) (i : ℕ) (h : Handle) → slice_get hs i ≡ Some h
    → lodged_under found (drop i hs) ≡ lodged (found h) ++ lodged_under found (drop (i + 1) hs)
lodged_under-more found hs i h is =
    ap (lodged_under found) (drop_more hs i h (slice_get_within hs i h is) ∙ ap (λ x. x ∷ drop (i + 1) hs) (get_or_from_slice_get hs i h h is))

pub lodged_under-all : (found : Handle → Option InEffect) (hs : List Handle) (i : ℕ) → length hs ≤ i → lodged_under found (drop i hs) ≡ []
lodged_under-all found hs i past = ap (lodged_under found) (drop_all i hs past)

pub some_of : {X : Type 0} (o : Option X) → IsSome o → (x : X) × (o ≡ Some x)
some_of None there = cc
some_of (Some x) there = (x, refl)

pub can_is_some : (bytes : ℕ) (o : Option InEffect) → CanCount bytes o → IsSome o
can_is_some bytes None can = absurd can
can_is_some bytes (Some entry) can = refl

pub copied_is_some : {X : Type 0} (r : Option (MutBor X)) (x : X) → option_copied_mut r ≡ Some x → IsSome r
copied_is_some None x is = cc
copied_is_some (Some b) x is = refl
