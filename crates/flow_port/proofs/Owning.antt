-- A seat's entries are those of its caller.
use Rattle.std.proofs.Common.{◌≡◌, ◌≢◌, ℕ, zero, suc, ◌<◌, ◌==◌, cond, List, [], ◌∷◌, ◌++◌, length, get_or, sym, refl, ap, ◌∙◌, subst, ⊎_elim, eq-eqb, ne_eqb, arith}
use Rattle.std.proofs.lemmas.Bool.Decides.{eqb_tells}
use Rattle.std.proofs.lemmas.List.Elements.{filter_agree}
use Rattle.flow_rules.specs.declared.limits.Limits.{Limits}
use Rattle.flow_calls.specs.declared.caller.Caller.{Caller}
use Rattle.flow_calls.specs.declared.entry.Entry.{Entry}
use Rattle.flow_calls.specs.Entries.{caller_of, is_by, entries_by}
use Rattle.turn_book.specs.declared.book.Book.{Book}
use Rattle.turn_book.specs.declared.seat.Seat.{Seat}
use Rattle.turn_book.specs.Books as books
use Rattle.flow_port.specs.declared.held.Held.{Held}
use Rattle.flow_port.specs.declared.port.FlowPort.{FlowPort}
use Rattle.flow_port.specs.declared.seat.PortSeat.{PortSeat}
use Rattle.flow_port.specs.Owners.{place_of}
use Rattle.flow_port.specs.Holding.{history_in, fixed_in, owner_by}
use Rattle.flow_port.specs.Ports.{callers_of, since, seen, mine, whose, no_caller, with_caller, IsSeatAt, AreDifferent}

place_here : (c : Caller) (cs : List Caller) (a : ℕ) → c.0 ≡ a → place_of a (c ∷ cs) ≡ 0
place_here c cs a e = ap (λ t. cond t 0 (suc (place_of a cs))) (eq-eqb c.0 a e)

place_there : (c : Caller) (cs : List Caller) (a : ℕ) → c.0 ≢ a → place_of a (c ∷ cs) ≡ suc (place_of a cs)
place_there c cs a e = ap (λ t. cond t 0 (suc (place_of a cs))) (ne_eqb c.0 a e)

-- two callers at one place are one
pub same_place : (cs : List Caller) (a b : ℕ) → place_of b cs < length cs → place_of a cs ≡ place_of b cs → a ≡ b
same_place [] a b lt e = absurd (omega arith)
same_place (c ∷ cs) a b lt e = ⊎_elim
    (λ here. ⊎_elim
    (λ also. sym here.1 ∙ also.1)
    (λ else. let p = place_here c cs a here.1 in let q = place_there c cs b else.1 in absurd (omega arith))
    (eqb_tells c.0 b))
    (λ there. let p = place_there c cs a there.1 in ⊎_elim
    (λ also. let q = place_here c cs b also.1 in absurd (omega arith))
    (λ else. let q = place_there c cs b else.1 in same_place cs a b (omega arith) (omega arith))
    (eqb_tells c.0 b))
    (eqb_tells c.0 a)

own_is : (cs : List Caller) (who n : ℕ) → place_of who cs ≡ n → n < length cs → (a : ℕ) → (place_of a cs == n) ≡ (a == who)
own_is cs who n at lt a = ⊎_elim
    (λ same. eq-eqb (place_of a cs) n (ap (λ x. place_of x cs) same.1 ∙ at) ∙ sym same.0)
    (λ differ. ne_eqb (place_of a cs) n (λ e. differ.1 (same_place cs a who (let h : place_of who cs < length cs = omega arith in h) (e ∙ sym at))) ∙ sym differ.0)
    (eqb_tells a who)

-- of any history, what the seat owns is what its caller entered
pub own_is_by : (port : FlowPort) (s : PortSeat) (h : List Entry) → IsSeatAt port s → books.own_entries history_in fixed_in owner_by port.book s.seat.number h ≡ entries_by (whose s).0 (since port h)
own_is_by port s h is = filter_agree (λ e. place_of (caller_of e) (callers_of port) == s.seat.number) (is_by (whose s).0)
    (λ e. own_is (callers_of port) (whose s).0 s.seat.number is.place is.known (caller_of e)) (since port h)

-- `mine` is what the caller entered behind the opening
pub mine_is : (port : FlowPort) (s : PortSeat) → entries_by (whose s).0 (since port (seen s)) ≡ mine port s
unfolding mine
mine_is port s = refl

-- it is the book's
pub mine_is_own : (port : FlowPort) (s : PortSeat) → IsSeatAt port s → books.mine history_in fixed_in owner_by port.book s.seat ≡ mine port s
mine_is_own port s is = own_is_by port s (seen s) is ∙ mine_is port s

-- the port's seat of a caller, behind a turn of the book's seat
abbrev pub behind_turn : PortSeat → Seat Held Entry (Limits × List Caller) → PortSeat
behind_turn old seat = record { seat = seat; caller = old.caller }

-- it has the entries from before, and what it gained in the turn
pub mine_grows : (port : FlowPort) (old : PortSeat) (seat : Seat Held Entry (Limits × List Caller)) (gained : List Entry) → IsSeatAt port old
    → books.IsSeatOf history_in fixed_in port.book seat → seat.number ≡ old.seat.number
    → books.mine history_in fixed_in owner_by port.book seat ≡ books.mine history_in fixed_in owner_by port.book old.seat ++ gained
    → mine port (behind_turn old seat) ≡ mine port old ++ gained
mine_grows port old seat gained was is same grew =
    let new : IsSeatAt port (behind_turn old seat) =
    record { seat = is; place = was.place ∙ sym same; known = subst (λ n. n < length (callers_of port)) (sym same) was.known; full = was.full } in
    sym (mine_is_own port (behind_turn old seat) new) ∙ grew ∙ ap (λ l. l ++ gained) (mine_is_own port old was)

-- over a turn of the book
pub owns_more : (opened in_turn : Book Held Entry (Limits × List Caller)) (before during after : Seat Held Entry (Limits × List Caller)) (gained : List Entry) → in_turn ≡ opened
    → books.mine history_in fixed_in owner_by in_turn after ≡ books.mine history_in fixed_in owner_by in_turn during ++ gained
    → books.mine history_in fixed_in owner_by opened during ≡ books.mine history_in fixed_in owner_by opened before
    → books.mine history_in fixed_in owner_by opened after ≡ books.mine history_in fixed_in owner_by opened before ++ gained
owns_more opened in_turn before during after gained same grew was =
    subst (λ b. books.mine history_in fixed_in owner_by b after ≡ books.mine history_in fixed_in owner_by b during ++ gained) same grew ∙ ap (λ l. l ++ gained) was

-- a caller of the list has a place in it
pub place_known : (cs : List Caller) (k : ℕ) (d : Caller) → k < length cs → place_of (get_or cs k d).0 cs < length cs
place_known [] k d lt = absurd (omega arith)
place_known (c ∷ cs) zero d lt = let p = place_here c cs c.0 refl in omega arith
place_known (c ∷ cs) (suc k) d lt = ⊎_elim
    (λ same. let p = place_here c cs (get_or cs k d).0 same.1 in omega arith)
    (λ differ. let p = place_there c cs (get_or cs k d).0 differ.1 in let q = place_known cs k d (omega arith) in omega arith)
    (eqb_tells c.0 (get_or cs k d).0)

-- where callers differ, each stands at its own place
pub place_at : (cs : List Caller) (k : ℕ) (d : Caller) → AreDifferent cs → k < length cs → place_of (get_or cs k d).0 cs ≡ k
place_at [] k d differ lt = absurd (omega arith)
place_at (c ∷ cs) zero d differ lt = place_here c cs c.0 refl
place_at (c ∷ cs) (suc k) d differ lt =
    place_there c cs (get_or cs k d).0 (differ 0 (suc k) d (omega arith) lt)
    ∙ ap suc (place_at cs k d (λ i j e less within. differ (suc i) (suc j) e (omega arith) (omega arith)) (omega arith))

-- and stands there
pub caller_there : (cs : List Caller) (c d : Caller) → place_of c.0 cs < length cs → get_or cs (place_of c.0 cs) d ≡ c
caller_there [] c d lt = absurd (omega arith)
caller_there (x ∷ cs) c d lt = ⊎_elim
    (λ here. ap (λ k. get_or (x ∷ cs) k d) (place_here x cs c.0 here.1) ∙ ap (λ n. let r : Caller = record { 0 = n } in r) here.1)
    (λ there. let p = place_there x cs c.0 there.1 in ap (λ k. get_or (x ∷ cs) k d) p ∙ caller_there cs c d (omega arith))
    (eqb_tells x.0 c.0)

-- a seat of the port is as a list of the port's seats has it
pub with_its_caller : (port : FlowPort) (cs : List Caller) (s : PortSeat) → cs ≡ callers_of port → IsSeatAt port s → with_caller cs s.seat ≡ s
with_its_caller port cs s e is =
    let there : get_or cs s.seat.number no_caller ≡ s.caller
    = ap (λ l. get_or l s.seat.number no_caller) e ∙ ap (λ n. get_or (callers_of port) n no_caller) (sym is.place)
    ∙ caller_there (callers_of port) s.caller no_caller (subst (λ n. n < length (callers_of port)) (sym is.place) is.known) in
    ap (λ c. let r : PortSeat = record { seat = s.seat; caller = c } in r) there
