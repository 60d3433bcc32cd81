-- The numbers of the frames that a seat's caller has let pass: what a seat has seen of them grows by its own entries alone, so a
-- worker whose frames' numbers rise may let burst after burst pass.
use Rattle.std.proofs.Common.{◌≡◌, ℕ, ◌<◌, ◌≤◌, ◌==◌, if◌then◌else◌, Bool, true, false, cond, List, [], ◌∷◌, ◌++◌, Some, None, map, length, drop, All, append_assoc, sym, refl, ap, ◌∙◌, subst, eq-eqb, arith}
use Rattle.std.specs.List.{cons_option}
use Rattle.std.specs.List.Sorted.{IsStrictlyIncreasing}
use Rattle.std.proofs.lemmas.List.{get_or-map, length-map}
use Rattle.std.proofs.lemmas.List.Elements.{All-append, All-weaker, filter_map-append}
use Rattle.flow_actions.specs.declared.verdict.Verdict.{Verdict}
use Rattle.flow_calls.specs.declared.call.Call.{Call}
use Rattle.flow_calls.specs.declared.caller.Caller.{Caller}
use Rattle.flow_calls.specs.declared.entry.Entry.{Entry}
use Rattle.flow_calls.specs.declared.entry.Entry.TheVariants.{Asked, Passed}
use Rattle.flow_calls.specs.declared.parcel.Parcel.{Parcel}
use Rattle.flow_calls.specs.declared.reply.Reply.{Reply}
use Rattle.flow_calls.specs.Entries.{entries_by, number_by, numbers_by}
use Rattle.flow_port.specs.declared.port.FlowPort.{FlowPort}
use Rattle.flow_port.specs.declared.seat.PortSeat.{PortSeat}
use Rattle.flow_port.specs.Bursts.{Rise, passed_all}
use Rattle.flow_port.specs.Ports.{IsSeatAt, mine, opening_of, seen, whose}
use Rattle.flow_port.proofs.Owning.{mine_is}

asked_kept : (who : ℕ) (caller : Caller) (call : Call) (reply : Reply) (es : List Entry) (b : Bool) → numbers_by who (cond b (Asked caller call reply ∷ es) es) ≡ numbers_by who es
asked_kept who caller call reply es true = refl
asked_kept who caller call reply es false = refl

passed_kept : (who : ℕ) (caller : Caller) (p : Parcel) (v : Verdict) (es : List Entry) (b : Bool) → caller.0 == who ≡ b
    → numbers_by who (cond b (Passed caller p v ∷ es) es) ≡ cons_option (number_by who (Passed caller p v)) (numbers_by who es)
passed_kept who caller p v es true e = refl
passed_kept who caller p v es false e = ap (λ b. cons_option (if b then Some p.number else None) (numbers_by who es)) (sym e)

-- the numbers of a caller's frames are those in its own entries
pub numbers_by-own : (who : ℕ) (es : List Entry) → numbers_by who (entries_by who es) ≡ numbers_by who es
numbers_by-own who [] = refl
numbers_by-own who (Asked caller call reply ∷ es) = asked_kept who caller call reply (entries_by who es) (caller.0 == who) ∙ numbers_by-own who es
numbers_by-own who (Passed caller p v ∷ es) =
    passed_kept who caller p v (entries_by who es) (caller.0 == who) refl ∙ ap (cons_option (number_by who (Passed caller p v))) (numbers_by-own who es)

-- those that a seat has seen are those in the opening, and behind them those in its own entries
pub numbers_seen : (port : FlowPort) (s : PortSeat) → IsSeatAt port s
    → numbers_by (whose s).0 (seen s) ≡ numbers_by (whose s).0 (opening_of port) ++ numbers_by (whose s).0 (mine port s)
numbers_seen port s is =
    let who = (whose s).0 in
    let rest = is.seat.2.0 in
    let begins : seen s ≡ opening_of port ++ rest = is.seat.2.1 in
    let own : numbers_by who rest ≡ numbers_by who (mine port s)
    = sym (numbers_by-own who rest) ∙ ap (λ l. numbers_by who (entries_by who l)) (sym (dropped (opening_of port) (seen s) rest begins)) ∙ ap (numbers_by who) (mine_is port s) in
    ap (numbers_by who) begins ∙ filter_map-append (number_by who) (opening_of port) rest ∙ ap (λ l. numbers_by who (opening_of port) ++ l) own
  where
    dropped : (front whole rest : List Entry) → whole ≡ front ++ rest → drop (length front) whole ≡ rest
    dropped front whole rest e = ap (drop (length front)) e ∙ behind front rest
      where
        behind : (front rest : List Entry) → drop (length front) (front ++ rest) ≡ rest
        behind [] rest = refl
        behind (x ∷ front) rest = behind front rest

-- a seat that gains entries of its own sees just their numbers more
pub numbers_grow : (port : FlowPort) (old new : PortSeat) (gained : List Entry) → IsSeatAt port old → IsSeatAt port new → whose new ≡ whose old → mine port new ≡ mine port old ++ gained
    → numbers_by (whose new).0 (seen new) ≡ numbers_by (whose old).0 (seen old) ++ numbers_by (whose old).0 gained
numbers_grow port old new gained was is same grew =
    let who = (whose old).0 in
    let opening = numbers_by who (opening_of port) in
    numbers_seen port new is
    ∙ ap (λ (c : Caller). numbers_by c.0 (opening_of port) ++ numbers_by c.0 (mine port new)) same
    ∙ ap (λ l. opening ++ numbers_by who l) grew
    ∙ ap (λ l. opening ++ l) (filter_map-append (number_by who) (mine port old) gained)
    ∙ sym (append_assoc opening (numbers_by who (mine port old)) (numbers_by who gained))
    ∙ ap (λ l. l ++ numbers_by who gained) (sym (numbers_seen port old was))

-- the entries of a burst have the numbers of its frames
pub numbers_passed : (caller : Caller) (ps : List Parcel) (vs : List Verdict) → length vs ≡ length ps → numbers_by caller.0 (passed_all caller ps vs) ≡ map (λ p. p.number) ps
numbers_passed caller [] vs same = refl
numbers_passed caller (p ∷ ps) [] same = absurd (omega arith)
numbers_passed caller (p ∷ ps) (v ∷ vs) same =
    ap (λ b. cons_option (if b then Some p.number else None) (numbers_by caller.0 (passed_all caller ps vs))) (eq-eqb caller.0 caller.0 refl)
    ∙ ap (λ l. p.number ∷ l) (numbers_passed caller ps vs (omega arith))

-- frames whose numbers rise from a bound on may pass behind frames whose numbers are below it
pub rises_from : (who next : ℕ) (history : List Entry) (ps : List Parcel) → All (λ n. n < next) (numbers_by who history)
    → IsStrictlyIncreasing (map (λ p. p.number) ps) → All (λ n. next ≤ n) (map (λ p. p.number) ps) → Rise who history ps
rises_from who next history ps below rising least =
    let above : (n : ℕ) → n < next → All (λ (p : Parcel). n < p.number) ps = λ n lt k d within.
    let from = least k d.number (omega (arith, within, length-map ps (λ (p : Parcel). p.number))) in
    let at = get_or-map (λ (p : Parcel). p.number) ps k d d.number within in
    omega (arith, lt, from, at) in
    (rising, All-weaker (λ n. n < next) (λ n. All (λ (p : Parcel). n < p.number) ps) above (numbers_by who history) below)

-- and behind such a burst those from a later bound on may pass, if its frames are below that one
pub below_passed : (port : FlowPort) (old new : PortSeat) (ps : List Parcel) (vs : List Verdict) (next later : ℕ) → IsSeatAt port old → IsSeatAt port new → whose new ≡ whose old
    → mine port new ≡ mine port old ++ passed_all (whose old) ps vs → length vs ≡ length ps → next ≤ later → All (λ n. n < later) (map (λ p. p.number) ps)
    → All (λ n. n < next) (numbers_by (whose old).0 (seen old)) → All (λ n. n < later) (numbers_by (whose new).0 (seen new))
below_passed port old new ps vs next later was is same grew count more above below =
    let who = (whose old).0 in
    let numbers : numbers_by (whose new).0 (seen new) ≡ numbers_by who (seen old) ++ map (λ p. p.number) ps
    = numbers_grow port old new (passed_all (whose old) ps vs) was is same grew ∙ ap (λ l. numbers_by who (seen old) ++ l) (numbers_passed (whose old) ps vs count) in
    subst (All (λ n. n < later)) (sym numbers)
    (All-append (λ n. n < later) (numbers_by who (seen old)) (map (λ p. p.number) ps) (All-weaker (λ n. n < next) (λ n. n < later) (λ n lt. omega (arith, lt, more)) (numbers_by who (seen old)) below) above)
