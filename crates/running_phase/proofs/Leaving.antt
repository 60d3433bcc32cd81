-- What actors leave, one actor more: whatever the history in which the port is closed, its replica stands in it, and its copies are all
-- that it sent.
use Rattle.std.proofs.Common.{◌≡◌, ℕ, ◌≤◌, Bool, true, false, Option, None, Some, List, [], ◌∷◌, ◌++◌, map, length, drop, All, Contains, is_some, Vec, append_assoc, sym, refl, ap, ◌∙◌, subst, arith}
use Rattle.std.specs.Global.{Global}
use Rattle.std.proofs.lemmas.Bool.{true≢false}
use Rattle.std.proofs.lemmas.List.{map-append}
use Rattle.std.proofs.lemmas.List.Elements.{All-append, All-cons, All-nil, All-pop, All-push, All-weaker, Contains-append_left, Contains-append_right}
use Rattle.capture_files.specs.Record.{Frame}
use Rattle.flow_calls.specs.declared.caller.Caller.{Caller}
use Rattle.flow_calls.specs.declared.entry.Entry.{Entry}
use Rattle.flow_calls.specs.Entries.{entries_by}
use Rattle.replica.specs.Caught.{ReplicaView}
use Rattle.turn_book.specs.Views.{BeginsWith}
use Rattle.turn_book.proofs.Mine.{drop_front}
use Rattle.flow_port.specs.declared.port.FlowPort.{FlowPort}
use Rattle.flow_port.specs.declared.seat.PortSeat.{PortSeat}
use Rattle.flow_port.specs.Ports.{IsSeatAt, limits_of, mine, opening_of, seen, since, whose}
use Rattle.flow_port.specs.Standing.{Stands}
use Rattle.flow_port.proofs.Owning.{mine_is}
use Rattle.flow_port.proofs.Standing.{Stands-later}
use Rattle.running_phase.specs.declared.actors.Actor.{Actor}
use Rattle.running_phase.specs.declared.actors.Plan.{Plan}
use Rattle.running_phase.specs.declared.actors.Role.{Role}
use Rattle.running_phase.specs.declared.actors.Role.TheVariants as roles
use Rattle.running_phase.specs.declared.copies.FrameCopy.{FrameCopy}
use Rattle.running_phase.specs.declared.order.SentBy.{SentBy}
use Rattle.running_phase.specs.Actors.{AreLeft, DidItsPart, IsAllSent, IsClosing, IsDone, IsDoneRole, list_of, replica_of, sent_as}
use Rattle.running_phase.specs.Copies.{Finds}
use Rattle.running_phase.specs.Sends.{AreKept, sent_by}
use Rattle.running_phase.proofs.Sent.{sent_by-kept}

-- in a history without further entries of its own a caller sent what it has sent as far as its seat saw
sent_whole : (port : FlowPort) (s : PortSeat) (look : ℕ → Option Frame) (history : List Entry) → IsSeatAt port s → BeginsWith history (seen s)
    → entries_by (whose s).0 (since port history) ≡ mine port s
    → sent_by (whose s).0 (limits_of port) look (opening_of port) (since port history) ≡ sent_by (whose s).0 (limits_of port) look (opening_of port) (since port (seen s))
sent_whole port s look history is begins own =
    let who = (whose s).0 in
    let opening = opening_of port in
    let past = is.seat.2.0 in
    let more = begins.0 in
    let known : since port (seen s) ≡ past = ap (drop (length opening)) is.seat.2.1 ∙ drop_front opening past in
    let whole : since port history ≡ past ++ more
    = ap (drop (length opening)) begins.1 ∙ ap (λ l. drop (length opening) (l ++ more)) is.seat.2.1 ∙ ap (drop (length opening)) (append_assoc opening past more) ∙ drop_front opening (past ++ more) in
    let none_own : entries_by who (past ++ more) ≡ entries_by who past = ap (entries_by who) (sym whole) ∙ own ∙ sym (mine_is port s) ∙ ap (entries_by who) known in
    ap (sent_by who (limits_of port) look opening) whole
    ∙ sent_by-kept who (limits_of port) look opening past more none_own
    ∙ ap (sent_by who (limits_of port) look opening) (sym known)

-- a history that closes over one seat more
module _ (port : FlowPort) (seats : List PortSeat) (s : PortSeat) (history : List Entry) (closing : IsClosing port (seats ++ s ∷ []) history) where
  closing_front : IsClosing port seats history
  closing_front = record {
    begins = (All-pop (λ (s : PortSeat). BeginsWith history (seen s)) (seats ++ s ∷ []) seats (Some s) refl closing.begins).0;
    own = (All-pop (λ (s : PortSeat). entries_by (whose s).0 (since port history) ≡ mine port s) (seats ++ s ∷ []) seats (Some s) refl closing.own).0;
  }

  closing_begins : BeginsWith history (seen s)
  closing_begins = (All-pop (λ (s : PortSeat). BeginsWith history (seen s)) (seats ++ s ∷ []) seats (Some s) refl closing.begins).1

  closing_own : entries_by (whose s).0 (since port history) ≡ mine port s
  closing_own = (All-pop (λ (s : PortSeat). entries_by (whose s).0 (since port history) ≡ mine port s) (seats ++ s ∷ []) seats (Some s) refl closing.own).1

module _ (port : FlowPort) (p : Plan) where
  replica_stands : (s : PortSeat) (failed : Bool) (history : List Entry) (role : Role) → BeginsWith history (seen s) → IsDoneRole port p s failed role
      → All (λ (r : ReplicaView). Stands (limits_of port) history r) (replica_of role)
  replica_stands s failed history roles.Asker begins done = All-nil (λ (r : ReplicaView). Stands (limits_of port) history r)
  replica_stands s failed history (roles.Passer w) begins done =
      let at = done.0.stands in
      All-cons (λ (r : ReplicaView). Stands (limits_of port) history r) w.replica []
      (Stands-later (limits_of port) (limits_of port) at.0 (seen s) history w.replica refl at.1 begins at.2)
      (All-nil (λ (r : ReplicaView). Stands (limits_of port) history r))

  copies_sent : (caller : Caller) (look : ℕ → Option Frame) (history : List Entry) (sent : List (List ℕ)) (kept : Option (Vec FrameCopy Global))
      → sent_by caller.0 (limits_of port) look (opening_of port) (since port history) ≡ sent → AreKept sent kept → All (IsAllSent port look history) (sent_as caller kept)
  copies_sent caller look history sent None same are = All-nil (IsAllSent port look history)
  copies_sent caller look history sent (Some copies) same are =
      let list : SentBy = record { caller = caller; copies = copies } in
      All-cons (IsAllSent port look history) list [] (are ∙ sym same) (All-nil (IsAllSent port look history))

  list_sent : (s : PortSeat) (failed : Bool) (look : ℕ → Option Frame) (history : List Entry) (role : Role) → IsSeatAt port s → BeginsWith history (seen s)
      → entries_by (whose s).0 (since port history) ≡ mine port s → failed ≡ false → Finds look p.phase.frames.now → IsDoneRole port p s failed role
      → All (IsAllSent port look history) (list_of (whose s) role)
  list_sent s failed look history roles.Asker is begins own well finds done = All-nil (IsAllSent port look history)
  list_sent s failed look history (roles.Passer w) is begins own well finds done =
      copies_sent (whose s) look history (sent_by (whose s).0 (limits_of port) look (opening_of port) (since port (seen s))) w.kept
      (sent_whole port s look history is begins own) (done.1 well look finds)

  sent_listed : (caller : Caller) (kept : Option (Vec FrameCopy Global)) → is_some kept ≡ true → Contains (map (λ (l : SentBy). l.caller.0) (sent_as caller kept)) caller.0
  sent_listed caller None e = absurd (true≢false (sym e))
  sent_listed caller (Some copies) e = (0, omega arith, refl)

  role_listed : (s : PortSeat) (failed : Bool) (role : Role) → p.phase.keeps ≡ true → IsDoneRole port p s failed role → 9 ≤ (whose s).0
      → Contains (map (λ (l : SentBy). l.caller.0) (list_of (whose s) role)) (whose s).0
  role_listed s failed roles.Asker keeps done least = absurd (omega arith)
  role_listed s failed (roles.Passer w) keeps done least = sent_listed (whose s) w.kept (done.0.keeps ∙ keeps)

  -- nothing was left yet
  pub AreLeft-none : AreLeft port p false [] [] []
  AreLeft-none = record {
    at = All-nil (IsSeatAt port);
    did = λ well. All-nil (DidItsPart port p);
    stand = λ history closing. All-nil (λ (r : ReplicaView). Stands (limits_of port) history r);
    sent = λ well look finds history closing. All-nil (IsAllSent port look history);
    listed = λ keeps. All-nil (λ (s : PortSeat). 9 ≤ (whose s).0 → Contains (map (λ (l : SentBy). l.caller.0) []) (whose s).0);
  }

  abbrev IsListed : List SentBy → PortSeat → Type 0
  IsListed lists s = 9 ≤ (whose s).0 → Contains (map (λ (l : SentBy). l.caller.0) lists) (whose s).0

  listed_more : (lists more : List SentBy) (s : PortSeat) → IsListed lists s → IsListed (lists ++ more) s
  listed_more lists more s listed least =
      subst (λ l. Contains l (whose s).0) (sym (map-append (λ (l : SentBy). l.caller.0) lists more))
      (Contains-append_left (map (λ (l : SentBy). l.caller.0) lists) (map (λ (l : SentBy). l.caller.0) more) (whose s).0 (listed least))

  listed_last : (lists more : List SentBy) (s : PortSeat) → IsListed more s → IsListed (lists ++ more) s
  listed_last lists more s listed least =
      subst (λ l. Contains l (whose s).0) (sym (map-append (λ (l : SentBy). l.caller.0) lists more))
      (Contains-append_right (map (λ (l : SentBy). l.caller.0) lists) (map (λ (l : SentBy). l.caller.0) more) (whose s).0 (listed least))

  -- an actor hands in
  pub AreLeft-more : (failed later : Bool) (seats : List PortSeat) (replicas : List ReplicaView) (lists : List SentBy) (a : Actor) → (later ≡ false → failed ≡ false) → (later ≡ false → a.failed ≡ false)
      → IsDone port p a → AreLeft port p failed seats replicas lists
      → AreLeft port p later (seats ++ a.seat ∷ []) (replicas ++ replica_of a.role) (lists ++ list_of (whose a.seat) a.role)
  AreLeft-more failed later seats replicas lists a before here done left = record {
    at = All-push (IsSeatAt port) seats a.seat left.at done.seat;
    did = λ well. All-push (DidItsPart port p) seats a.seat (left.did (before well)) (done.did (here well));
    stand = λ history closing. All-append (λ (r : ReplicaView). Stands (limits_of port) history r) replicas (replica_of a.role)
        (left.stand history (closing_front port seats a.seat history closing))
        (replica_stands a.seat a.failed history a.role (closing_begins port seats a.seat history closing) done.role);
    sent = λ well look finds history closing. All-append (IsAllSent port look history) lists (list_of (whose a.seat) a.role)
        (left.sent (before well) look finds history (closing_front port seats a.seat history closing))
        (list_sent a.seat a.failed look history a.role done.seat (closing_begins port seats a.seat history closing) (closing_own port seats a.seat history closing) (here well) finds done.role);
    listed = λ keeps. All-push (IsListed (lists ++ list_of (whose a.seat) a.role)) seats a.seat
        (All-weaker (IsListed lists) (IsListed (lists ++ list_of (whose a.seat) a.role)) (λ s. listed_more lists (list_of (whose a.seat) a.role) s) seats (left.listed keeps))
        (listed_last lists (list_of (whose a.seat) a.role) a.seat (role_listed a.seat a.failed a.role keeps done.role));
  }

  pub left_as : (failed : Bool) {seats seats' : List PortSeat} {replicas replicas' : List ReplicaView} {lists lists' : List SentBy} → seats' ≡ seats → replicas' ≡ replicas → lists' ≡ lists
      → AreLeft port p failed seats replicas lists → AreLeft port p failed seats' replicas' lists'
  left_as failed {seats} {seats'} {replicas} {replicas'} {lists} {lists'} e f g left =
      subst (λ l. AreLeft port p failed l replicas' lists') (sym e)
      (subst (λ l. AreLeft port p failed seats l lists') (sym f) (subst (λ l. AreLeft port p failed seats replicas l) (sym g) left))
