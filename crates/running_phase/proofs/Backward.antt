-- Back through a history: what is left of the workers' lists is what the entries before send, and what was taken is what those behind sent.
use Rattle.std.proofs.Common.{◌≡◌, ℕ, zero, suc, ◌+◌, ◌-◌, ◌<◌, ◌≤◌, ◌==◌, Bool, true, false, cond, List, [], ◌∷◌, ◌++◌, map, fold, reverse, take, drop, drop-cons, set, length, get_or, All, Option, None, Some, option_to_list, refl, sym, ap, ◌∙◌, subst, eq-eqb, append_assoc, append-nil, length-append, arith}
use Rattle.std.specs.List.{Contains, slice_get}
use Rattle.std.specs.Option.{is_some, option_map, option_or}
use Rattle.std.proofs.Math.Seq.{take-append_seam}
use Rattle.std.proofs.lemmas.List.Sums.{fold-append}
use Rattle.std.proofs.lemmas.List.{map-append, map-set, reverse-append, take_more, take_all, take-append-drop, length-map, length-take-le, set-append_right, get_or-map, get_or-append-add, get_or-append_right}
use Rattle.std.proofs.lemmas.List.Elements.{All-nil, All-cons, All-head, All-map, All-tail}
use Rattle.std.proofs.lemmas.Option.{get_or_from_slice_get}
use Rattle.capture_files.specs.Record.{Frame}
use Rattle.flow_rules.specs.declared.limits.Limits.{Limits}
use Rattle.flow_calls.specs.declared.caller.Caller.{Caller}
use Rattle.flow_calls.specs.declared.entry.Entry.{Entry}
use Rattle.flow_calls.specs.declared.entry.Entry.TheVariants.{Asked, Passed}
use Rattle.flow_calls.specs.declared.parcel.Parcel.{Parcel}
use Rattle.flow_calls.specs.Entries.{caller_of, parcels_of, passers_of}
use Rattle.flow_calls.specs.Totals.{is_drop}
use Rattle.flow_rules.specs.Walk.{Flows}
use Rattle.port_state.specs.State.{flows_of, state_of}
use Rattle.history_text.specs.Transmit.{record_behind}
use Rattle.running_phase.specs.Orders.{Held, found_by, last_by, last_found, sender_of, shortened, shortened_by}
use Rattle.running_phase.specs.Sends.{all_sent, records_behind, sends, sent_by}
use Rattle.running_phase.proofs.Sending.{all_sent-append}
use Rattle.running_phase.proofs.Sent.{sent_by-append}

-- ---- lists

pub entry_at : {X : Type 0} (xs : List X) (k : ℕ) → k < length xs → (x : X) × (slice_get xs k ≡ Some x)
entry_at [] k lt = absurd (omega arith)
entry_at (x ∷ xs) zero lt = (x, refl)
entry_at (x ∷ xs) (suc k) lt = entry_at xs k (omega arith)

pub map-reverse : {X Y : Type 0} (f : X → Y) (xs : List X) → map f (reverse xs) ≡ reverse (map f xs)
map-reverse f [] = refl
map-reverse f (x ∷ xs) =
    ap (map f) (reverse-append (x ∷ []) xs) ∙ map-append f (reverse xs) (x ∷ []) ∙ ap (λ l. l ++ f x ∷ []) (map-reverse f xs) ∙ sym (reverse-append (f x ∷ []) (map f xs))

reverse-option : {X : Type 0} (o : Option X) → reverse (option_to_list o) ≡ option_to_list o
reverse-option None = refl
reverse-option (Some x) = refl

-- where an element is changed as those before it were
pub changed_next : {X Y : Type 0} (f : X → Y) (g : Y → Y) (xs : List X) (was : List Y) (i : ℕ) (x v : X) → map f xs ≡ map g (take i was) ++ drop i was → i < length xs
    → x ≡ get_or xs i x → f v ≡ g (f x) → (f x ≡ get_or was i (f x)) × (i < length was) × (map f (set xs i v) ≡ map g (take (i + 1) was) ++ drop (i + 1) was)
changed_next f g xs was i x v now lt at change =
    let front = map g (take i was) in
    let all : length xs ≡ length (take i was) + length (drop i was)
    = sym (length-map xs f) ∙ ap length now ∙ length-append front (drop i was) ∙ ap (λ n. n + length (drop i was)) (length-map (take i was) g) in
    let whole : length (take i was) + length (drop i was) ≡ length was = sym (length-append (take i was) (drop i was)) ∙ ap length (take-append-drop i was) in
    let within : i < length was = omega (arith, all, whole, lt) in
    let short : length front ≡ i = length-map (take i was) g ∙ length-take-le i was (omega (arith, within)) in
    let next : drop i was ≡ get_or was i (f x) ∷ drop (i + 1) was
    = drop-cons was i (f x) within ∙ ap (λ n. get_or was i (f x) ∷ drop n was) (let same : suc i ≡ i + 1 = omega arith in same) in
    let here : f x ≡ get_or was i (f x)
    = ap f at ∙ sym (get_or-map f xs i x (f x) lt) ∙ ap (λ l. get_or l i (f x)) now ∙ get_or-append_right front (drop i was) i i (f x) short (omega arith)
    ∙ ap (λ n. get_or (drop i was) n (f x)) (let none : i - i ≡ 0 = omega arith in none) ∙ ap (λ l. get_or l 0 (f x)) next in
    let put : map f (set xs i v) ≡ front ++ g (f x) ∷ drop (i + 1) was
    = map-set f xs i v ∙ ap (λ l. set l i (f v)) now ∙ set-append_right front (drop i was) i i (f v) short (omega arith)
    ∙ ap (λ n. front ++ set (drop i was) n (f v)) (let none : i - i ≡ 0 = omega arith in none) ∙ ap (λ l. front ++ set l 0 (f v)) next ∙ ap (λ y. front ++ y ∷ drop (i + 1) was) change in
    let more : map g (take (i + 1) was) ≡ front ++ g (f x) ∷ []
    = ap (map g) (take_more was i (f x) within) ∙ map-append g (take i was) (get_or was i (f x) ∷ []) ∙ ap (λ y. front ++ g y ∷ []) (sym here) in
    (here, within, put ∙ sym (append_assoc front (g (f x) ∷ []) (drop (i + 1) was)) ∙ ap (λ l. l ++ drop (i + 1) was) (sym more))

-- ---- one list

-- without the record that its caller sent last, where it did
shorter : (b : Bool) (r : List ℕ) (s rs : List (List ℕ)) → rs ≡ s ++ cond b (r ∷ []) [] → cond b (take (length rs - 1) rs) rs ≡ s
shorter true r s rs is =
    let count : length rs - 1 ≡ length s = omega (arith, ap length is, length-append s (r ∷ [])) in
    ap (λ n. take n rs) count ∙ ap (take (length s)) is ∙ take-append_seam s (r ∷ [])
shorter false r s rs is = is ∙ append-nil s

last_at : (s : List (List ℕ)) (r : List ℕ) → slice_get (s ++ r ∷ []) (length s) ≡ Some r
last_at [] r = refl
last_at (x ∷ s) r = last_at s r

-- that record is its last one
found : (b : Bool) (r : List ℕ) (s rs : List (List ℕ)) → rs ≡ s ++ cond b (r ∷ []) [] → cond b (slice_get rs (length rs - 1)) None ≡ cond b (Some r) None
found true r s rs is =
    let count : length rs - 1 ≡ length s = omega (arith, ap length is, length-append s (r ∷ [])) in
    ap (slice_get rs) count ∙ ap (λ l. slice_get l (length s)) is ∙ last_at s r
found false r s rs is = refl

-- ---- all lists

pub map-or : {X Y : Type 0} (f : X → Y) (one other : Option X) → option_map f (option_or one other) ≡ option_or (option_map f one) (option_map f other)
map-or f None other = refl
map-or f (Some x) other = refl

-- what was found when one list more was looked at
pub last_next : (who : ℕ) (was : List Held) (i : ℕ) (h : Held) (now before : Option (List ℕ)) → i < length was → h ≡ get_or was i h → before ≡ fold (last_by who) None (take i was)
    → now ≡ option_or (found_by who h) before → now ≡ fold (last_by who) None (take (i + 1) was)
last_next who was i h now before lt at so_far is =
    is ∙ ap (option_or (found_by who h)) so_far
    ∙ ap (last_by who (fold (last_by who) None (take i was))) at
    ∙ sym (ap (fold (last_by who) None) (take_more was i h lt) ∙ fold-append (last_by who) None (take i was) (get_or was i h ∷ []))

one_more : (b : Bool) (o found : Option (List ℕ)) (r : List ℕ) → o ≡ cond b (Some r) None → found ≡ Some r → option_or o found ≡ Some r
one_more true o found r is was = ap (λ x. option_or x found) is
one_more false o found r is was = ap (λ x. option_or x found) is ∙ was

keeps_last : (who : ℕ) (r : List ℕ) (hs : List Held) (found : Option (List ℕ)) → All (λ h. found_by who h ≡ cond (who == h.0) (Some r) None) hs → found ≡ Some r → fold (last_by who) found hs ≡ Some r
keeps_last who r [] found all was = was
keeps_last who r (h ∷ hs) found all was =
    let P : Held → Type 0 = λ x. found_by who x ≡ cond (who == x.0) (Some r) None in
    keeps_last who r hs (last_by who found h) (All-tail P h hs all) (one_more (who == h.0) (found_by who h) found r (All-head P h hs all) was)

-- a list of that caller is among them, and so its last record is found
finds_last : (who : ℕ) (r : List ℕ) (hs : List Held) (found : Option (List ℕ)) → All (λ h. found_by who h ≡ cond (who == h.0) (Some r) None) hs
    → (k : ℕ) → k < length (map (λ (h : Held). h.0) hs) → get_or (map (λ (h : Held). h.0) hs) k who ≡ who → fold (last_by who) found hs ≡ Some r
finds_last who r [] found all k lt is = absurd (omega arith)
finds_last who r (h ∷ hs) found all zero lt is =
    let P : Held → Type 0 = λ x. found_by who x ≡ cond (who == x.0) (Some r) None in
    let here : last_by who found h ≡ Some r
    = ap (λ o. option_or o found) (All-head P h hs all ∙ ap (λ b. cond b (Some r) None) (eq-eqb who h.0 (sym is))) in
    keeps_last who r hs (last_by who found h) (All-tail P h hs all) here
finds_last who r (h ∷ hs) found all (suc k) lt is =
    let P : Held → Type 0 = λ x. found_by who x ≡ cond (who == x.0) (Some r) None in
    finds_last who r hs (last_by who found h) (All-tail P h hs all) k (omega arith) is

-- ---- one entry

-- The lists have what the entries so far send, and behind that comes what was taken
pub record IsBack (limits : Limits) (look : ℕ → Option Frame) (before front : List Entry) (hs : List Held) (out whole : List (List ℕ)) : Type 0 where
  pub left : All (λ h. h.1 ≡ sent_by h.0 limits look before front) hs
  pub taken : whole ≡ all_sent limits look before front ++ reverse out

-- a frame's caller has a list, and the frame is found
abbrev pub Known : List ℕ → (ℕ → Option Frame) → Entry → Type 0
Known callers look (Asked caller call reply) = Unit {0}
Known callers look (Passed caller parcel verdict) = Contains callers caller.0 × (is_some (look parcel.number) ≡ true)

-- where an entry sends nothing
quiet : (limits : Limits) (look : ℕ → Option Frame) (before front : List Entry) (e : Entry) (hs : List Held) (out whole : List (List ℕ))
    → sends limits look (before ++ front) e ≡ [] → IsBack limits look before (front ++ e ∷ []) hs out whole → IsBack limits look before front hs out whole
quiet limits look before front e hs out whole none back = record {
  left = λ k d lt. back.left k d lt ∙ same (get_or hs k d).0;
  taken = back.taken ∙ ap (λ l. l ++ reverse out) (all_sent-append limits look before front (e ∷ []) ∙ ap (λ l. all_sent limits look before front ++ (l ++ [])) none ∙ append-nil (all_sent limits look before front));
} where
  nothing : (b : Bool) → cond b (sends limits look (before ++ front) e) [] ++ [] ≡ []
  nothing true = append-nil (sends limits look (before ++ front) e) ∙ none
  nothing false = refl

  same : (who : ℕ) → sent_by who limits look before (front ++ e ∷ []) ≡ sent_by who limits look before front
  same who = sent_by-append who limits look before front (e ∷ []) ∙ ap (λ l. sent_by who limits look before front ++ l) (nothing (caller_of e == who)) ∙ append-nil (sent_by who limits look before front)

-- where it sends a record
heard : (limits : Limits) (look : ℕ → Option Frame) (before front : List Entry) (e : Entry) (caller : Caller) (r : List ℕ) (hs : List Held) (out whole : List (List ℕ))
    → caller_of e ≡ caller.0 → sends limits look (before ++ front) e ≡ r ∷ [] → Contains (map (λ (h : Held). h.0) hs) caller.0
    → IsBack limits look before (front ++ e ∷ []) hs out whole
    → IsBack limits look before front (map (shortened_by caller.0) hs) (out ++ option_to_list (fold (last_by caller.0) None hs)) whole
heard limits look before front e caller r hs out whole by one has back = record {
  left = All-map Left (shortened_by caller.0) hs (λ k d lt. shorter (caller.0 == (get_or hs k d).0) r (Sent (get_or hs k d)) (get_or hs k d).1 (ends k d lt));
  taken = back.taken
      ∙ ap (λ l. l ++ reverse out) (all_sent-append limits look before front (e ∷ []) ∙ ap (λ l. all_sent limits look before front ++ (l ++ [])) one)
      ∙ append_assoc (all_sent limits look before front) (r ∷ []) (reverse out)
      ∙ ap (λ l. all_sent limits look before front ++ l) (sym turned);
} where
  Sent : Held → List (List ℕ)
  Sent h = sent_by h.0 limits look before front

  Left : Held → Type 0
  Left h = h.1 ≡ sent_by h.0 limits look before front

  ends : (k : ℕ) (d : Held) → k < length hs → (get_or hs k d).1 ≡ sent_by (get_or hs k d).0 limits look before front ++ cond (caller.0 == (get_or hs k d).0) (r ∷ []) []
  ends k d lt =
      let h = get_or hs k d in
      back.left k d lt ∙ sent_by-append h.0 limits look before front (e ∷ [])
      ∙ ap (λ l. sent_by h.0 limits look before front ++ l)
      (append-nil (cond (caller_of e == h.0) (sends limits look (before ++ front) e) [])
      ∙ ap (λ n. cond (n == h.0) (sends limits look (before ++ front) e) []) by
      ∙ ap (λ l. cond (caller.0 == h.0) l []) one)

  last : fold (last_by caller.0) None hs ≡ Some r
  last = finds_last caller.0 r hs None (λ k d lt. found (caller.0 == (get_or hs k d).0) r (sent_by (get_or hs k d).0 limits look before front) (get_or hs k d).1 (ends k d lt)) has.0 has.1 has.2

  turned : reverse (out ++ option_to_list (fold (last_by caller.0) None hs)) ≡ r ∷ reverse out
  turned = ap (λ o. reverse (out ++ option_to_list o)) last ∙ reverse-append out (r ∷ [])

-- one entry back
pub back_once : (limits : Limits) (look : ℕ → Option Frame) (before front : List Entry) (e : Entry) (hs : List Held) (out whole : List (List ℕ)) → Known (map (λ (h : Held). h.0) hs) look e
    → IsBack limits look before (front ++ e ∷ []) hs out whole → IsBack limits look before front (shortened (sender_of e) hs) (out ++ option_to_list (last_found (sender_of e) hs)) whole
back_once limits look before front (Asked caller call reply) hs out whole known back =
    subst (λ l. IsBack limits look before front hs l whole) (sym (append-nil out)) (quiet limits look before front (Asked caller call reply) hs out whole refl back)
back_once limits look before front (Passed caller p v) hs out whole known back = by (is_drop v.fate) refl where
  e : Entry
  e = Passed caller p v

  flows : Flows
  flows = flows_of (state_of limits (before ++ front))

  record_is : (o : Option Frame) → is_some o ≡ true → (r : List ℕ) × (records_behind flows p.key o ≡ r ∷ [])
  record_is None there = absurd (cc)
  record_is (Some frame) there = (record_behind flows p.key frame, refl)

  by : (b : Bool) → is_drop v.fate ≡ b
      → IsBack limits look before front (shortened (cond b None (Some caller)) hs) (out ++ option_to_list (last_found (cond b None (Some caller)) hs)) whole
  by true is =
      subst (λ l. IsBack limits look before front hs l whole) (sym (append-nil out)) (quiet limits look before front e hs out whole (ap (λ b. cond b [] (records_behind flows p.key (look p.number))) is) back)
  by false is =
      let r = record_is (look p.number) known.1 in
      heard limits look before front e caller r.0 hs out whole refl (ap (λ b. cond b [] (records_behind flows p.key (look p.number))) is ∙ r.1) known.0 back

-- ---- all entries of a phase

all_known : (callers : List ℕ) (look : ℕ → Option Frame) (middle : List Entry) → All (Contains callers) (passers_of middle) → All (λ (p : Parcel). is_some (look p.number) ≡ true) (parcels_of middle)
    → All (Known callers look) middle
all_known callers look [] passers parcels = All-nil (Known callers look)
all_known callers look (Asked caller call reply ∷ es) passers parcels =
    All-cons (Known callers look) (Asked caller call reply) es tt (all_known callers look es passers parcels)
all_known callers look (Passed caller p v ∷ es) passers parcels =
    let Found : Parcel → Type 0 = λ q. is_some (look q.number) ≡ true in
    All-cons (Known callers look) (Passed caller p v) es (All-head (Contains callers) caller.0 (passers_of es) passers, All-head Found p (parcels_of es) parcels)
    (all_known callers look es (All-tail (Contains callers) caller.0 (passers_of es) passers) (All-tail Found p (parcels_of es) parcels))

-- the entry at a place of the history, in the phase
entry_there : (history before middle : List Entry) (from place : ℕ) (e : Entry) → history ≡ before ++ middle → from ≡ length before → from ≤ place → place < length history
    → slice_get history place ≡ Some e → (place - from < length middle) × (e ≡ get_or middle (place - from) e)
entry_there history before middle from place e is start least most at =
    let same : place ≡ length before + (place - from) = omega (arith, start, least) in (
      omega (arith, start, least, most, ap length is, length-append before middle),
      sym (get_or_from_slice_get history place e e at)
          ∙ ap (λ h. get_or h place e) is
          ∙ ap (λ n. get_or (before ++ middle) n e) same
          ∙ get_or-append-add before middle (place - from) e,
    )

pub back_start : (limits : Limits) (look : ℕ → Option Frame) (history before middle : List Entry) (from : ℕ) (hs : List Held) → history ≡ before ++ middle → from ≡ length before
    → All (λ h. h.1 ≡ sent_by h.0 limits look before middle) hs → IsBack limits look before (take (length history - from) middle) hs [] (all_sent limits look before middle)
back_start limits look history before middle from hs is start lists =
    let count : length history - from ≡ length middle = omega (arith, start, ap length is, length-append before middle) in
    let all : take (length history - from) middle ≡ middle = take_all (length history - from) middle (omega (arith, count)) in
    subst (λ m. IsBack limits look before m hs [] (all_sent limits look before middle)) (sym all) (record { left = lists; taken = sym (append-nil (all_sent limits look before middle)) })

pub back_next : (limits : Limits) (look : ℕ → Option Frame) (history before middle : List Entry) (from place : ℕ) (e : Entry) (callers : List ℕ) (hs after : List Held) (out more whole : List (List ℕ))
    → history ≡ before ++ middle → from ≡ length before → from ≤ place → place < length history → slice_get history place ≡ Some e
    → All (Contains callers) (passers_of middle) → All (λ (p : Parcel). is_some (look p.number) ≡ true) (parcels_of middle) → map (λ (h : Held). h.0) hs ≡ callers
    → after ≡ shortened (sender_of e) hs → more ≡ out ++ option_to_list (last_found (sender_of e) hs)
    → IsBack limits look before (take (place + 1 - from) middle) hs out whole → IsBack limits look before (take (place - from) middle) after more whole
back_next limits look history before middle from place e callers hs after out more whole is start least most at passers parcels same lists taken back =
    let there = entry_there history before middle from place e is start least most at in
    let front = take (place - from) middle in
    let longer : take (place + 1 - from) middle ≡ front ++ e ∷ []
    = ap (λ n. take n middle) (let next : place + 1 - from ≡ place - from + 1 = omega (arith, least) in next) ∙ take_more middle (place - from) e there.0
    ∙ ap (λ x. front ++ x ∷ []) (sym there.1) in
    let known : Known (map (λ (h : Held). h.0) hs) look e
    = subst (λ cs. Known cs look e) (sym same) (subst (Known callers look) (sym there.1) (all_known callers look middle passers parcels (place - from) e there.0)) in
    let once = back_once limits look before front e hs out whole known (subst (λ m. IsBack limits look before m hs out whole) longer back) in
    subst (λ l. IsBack limits look before front l more whole) (sym lists)
    (subst (λ l. IsBack limits look before front (shortened (sender_of e) hs) l whole) (sym taken) once)

pub back_end : (limits : Limits) (look : ℕ → Option Frame) (before middle : List Entry) (from place : ℕ) (hs : List Held) (out whole : List (List ℕ)) → place ≤ from
    → IsBack limits look before (take (place - from) middle) hs out whole → reverse out ≡ whole
back_end limits look before middle from place hs out whole least back =
    let none : place - from ≡ 0 = omega (arith, least) in
    sym (back.taken ∙ ap (λ n. all_sent limits look before (take n middle) ++ reverse out) none)

-- the callers stay
pub same_callers : (sender : Option Caller) (hs : List Held) → map (λ (h : Held). h.0) (shortened sender hs) ≡ map (λ (h : Held). h.0) hs
same_callers None hs = refl
same_callers (Some caller) hs = by hs where
  by : (hs : List Held) → map (λ (h : Held). h.0) (map (shortened_by caller.0) hs) ≡ map (λ (h : Held). h.0) hs
  by [] = refl
  by (h ∷ hs) = ap (λ l. h.0 ∷ l) (by hs)
