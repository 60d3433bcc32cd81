-- The seats of a new port.
use Rattle.std.proofs.Common.{◌≡◌, ◌+◌, ◌<◌, List, [], ◌∷◌, ◌++◌, map, length, drop, get_or, All, zero-add, length-append, append_assoc, sym, refl, ap, ◌∙◌, subst, arith}
use Rattle.std.specs.List.{range_with_len}
use Rattle.std.proofs.lemmas.List.{get_or-map, length-map}
use Rattle.std.proofs.lemmas.List.FromFn.{length-range_with_len, get_or-range_with_len}
use Rattle.std.proofs.lemmas.Simd.{map-map}
use Rattle.flow_rules.specs.declared.limits.Limits.{Limits}
use Rattle.flow_calls.specs.declared.caller.Caller.{Caller}
use Rattle.flow_calls.specs.declared.entry.Entry.{Entry}
use Rattle.turn_book.specs.declared.seat.Seat.{Seat}
use Rattle.turn_book.specs.Books as books
use Rattle.flow_port.specs.declared.held.Held.{Held}
use Rattle.flow_port.specs.declared.port.FlowPort.{FlowPort}
use Rattle.flow_calls.specs.Entries.{entries_by}
use Rattle.flow_port.specs.Owners.{place_of}
use Rattle.flow_port.specs.Holding.{history_in, fixed_in}
use Rattle.flow_port.specs.Ports.{opening_of, callers_of, since, whose, no_caller, with_caller, IsFreshAt, AreDifferent}
use Rattle.flow_port.proofs.Owning.{place_at, mine_is}

abbrev BookSeat : Type 0
BookSeat = Seat Held Entry (Limits × List Caller)

drop_all : (xs : List Entry) → drop (length xs) xs ≡ []
drop_all [] = refl
drop_all (x ∷ xs) = drop_all xs

-- read in order, a list is itself
read_all : (before cs : List Caller) → map (λ i. get_or (before ++ cs) i no_caller) (range_with_len (length before) (length cs)) ≡ cs
read_all before [] = refl
read_all before (c ∷ cs) =
    let rest = read_all (before ++ c ∷ []) cs in
    let count : length (before ++ c ∷ []) ≡ length before + 1 = length-append before (c ∷ []) in
    let moved : map (λ i. get_or (before ++ c ∷ cs) i no_caller) (range_with_len (length before + 1) (length cs)) ≡ cs
    = subst (λ l. map (λ i. get_or l i no_caller) (range_with_len (length before + 1) (length cs)) ≡ cs) (append_assoc before (c ∷ []) cs)
    (subst (λ n. map (λ i. get_or ((before ++ c ∷ []) ++ cs) i no_caller) (range_with_len n (length cs)) ≡ cs) count rest) in
    ap (λ x. x ∷ map (λ i. get_or (before ++ c ∷ cs) i no_caller) (range_with_len (length before + 1) (length cs))) (read_at before) ∙ ap (λ l. c ∷ l) moved
  where
    read_at : (xs : List Caller) → get_or (xs ++ c ∷ cs) (length xs) no_caller ≡ c
    read_at [] = refl
    read_at (x ∷ xs) = read_at xs

pub makes_callers : (cs : List Caller) (bs : List BookSeat) → map (λ (s : BookSeat). s.number) bs ≡ range_with_len 0 (length cs) → map whose (map (with_caller cs) bs) ≡ cs
makes_callers cs bs e =
    map-map whose (with_caller cs) bs ∙ sym (map-map (λ i. get_or cs i no_caller) (λ (s : BookSeat). s.number) bs) ∙ ap (map (λ i. get_or cs i no_caller)) e ∙ read_all [] cs

pub makes_fresh : (port : FlowPort) (bs : List BookSeat) → AreDifferent (callers_of port) → books.seats_of port.book ≡ length (callers_of port)
    → map (λ (s : BookSeat). s.number) bs ≡ range_with_len 0 (length (callers_of port)) → All (books.IsFresh history_in fixed_in port.book) bs
    → All (IsFreshAt port) (map (with_caller (callers_of port)) bs)
makes_fresh port bs differ full e fresh k d lt =
    let cs = callers_of port in
    let within : k < length bs = let h = length-map bs (with_caller cs) in omega arith in
    let few : length bs ≡ length cs = sym (length-map bs (λ (s : BookSeat). s.number)) ∙ ap length e ∙ length-range_with_len 0 (length cs) in
    let s = get_or bs k d.seat in
    let number : s.number ≡ k = sym (get_or-map (λ (s : BookSeat). s.number) bs k d.seat 0 within) ∙ ap (λ l. get_or l k 0) e ∙ get_or-range_with_len 0 (length cs) k 0 (omega arith) ∙ zero-add k in
    let place = ap (λ n. n) (place_at cs k no_caller differ (omega arith)) in
    let f = fresh k d.seat within in
    subst (IsFreshAt port) (sym (get_or-map (with_caller cs) bs k d.seat d within)) (
      record { seat = f.0; place = subst (λ n. place_of (get_or cs n no_caller).0 cs ≡ n) (sym number) place; known = omega arith; full = full },
      f.1,
      f.2,
      sym (mine_is port (with_caller cs s)) ∙ ap (λ h. entries_by (get_or cs s.number no_caller).0 (since port h)) f.2 ∙ ap (entries_by (get_or cs s.number no_caller).0) (drop_all (opening_of port)),
    )
