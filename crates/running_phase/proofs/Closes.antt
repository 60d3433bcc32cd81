-- From what the port's close tells of the seats to the middle of the phase and the lists of what was sent.
use Rattle.std.proofs.Common.{◌≡◌, ◌≢◌, ◌⊎◌, ℕ, zero, suc, ◌<◌, ◌≤◌, true, cond, Option, Some, is_some, List, [], ◌∷◌, map, length, get_or, All, Contains, sym, refl, ap, ◌∙◌, subst, inl, inr, ⊎_elim, ne_eqb, arith}
use Rattle.std.specs.List.Sorted.{IsStrictlyIncreasing}
use Rattle.std.proofs.lemmas.Bool.Decides.{eqb_tells}
use Rattle.std.proofs.lemmas.List.Sorted.{All-permutation}
use Rattle.std.proofs.lemmas.List.Elements.{All-contains, All-head, All-map, All-tail, All-weaker}
use Rattle.capture_files.specs.Record.{Frame}
use Rattle.flow_rules.specs.declared.limits.Limits.{Limits}
use Rattle.flow_calls.specs.declared.call.Call.{Call}
use Rattle.flow_calls.specs.declared.caller.Caller.{Caller}
use Rattle.flow_calls.specs.declared.entry.Entry.{Entry}
use Rattle.flow_calls.specs.declared.parcel.Parcel.{Parcel}
use Rattle.flow_calls.specs.Entries.{caller_of, entries_by, parcels_of, passers_of}
use Rattle.flow_grammar.specs.declared.part.Part.TheVariants as parts
use Rattle.whole_history.specs.Reach.{parcel_of}
use Rattle.whole_history.specs.Whole.{IsMiddle}
use Rattle.flow_port.specs.declared.port.FlowPort.{FlowPort}
use Rattle.flow_port.specs.declared.seat.PortSeat.{PortSeat}
use Rattle.flow_port.specs.Ports.{callers_of, limits_of, mine, opening_of, since, whose}
use Rattle.running_phase.specs.declared.actors.Plan.{Plan}
use Rattle.running_phase.specs.declared.copies.FrameCopy.{FrameCopy}
use Rattle.running_phase.specs.declared.order.SentBy.{SentBy}
use Rattle.running_phase.specs.Actors.{DidItsPart, HasLists, IsAllSent, IsPlan}
use Rattle.running_phase.specs.Copies.{Finds, frame_of, numbers, parcels, record_of}
use Rattle.running_phase.specs.Roster.{IsTaker, roster}
use Rattle.running_phase.specs.Sends.{sent_by}
use Rattle.running_phase.specs.Shares.{Did}
use Rattle.running_phase.proofs.Middles.{IsMiddle-did, all_pass, no_share, takers_pass}
use Rattle.running_phase.proofs.Rosters.{no_calls_outside, roster-has_takers}

contains_or : (xs : List ℕ) (x : ℕ) → Contains xs x ⊎ (Contains xs x → ⊥)
contains_or [] x = inr (λ h. let lt = h.1 in absurd (omega arith))
contains_or (y ∷ ys) x = ⊎_elim
    (λ here. inl (0, omega arith, here.1))
    (λ else. ⊎_elim
    (λ there. let lt = there.1 in inl (suc there.0, omega arith, there.2))
    (λ out. inr (λ h. nowhere h.0 h.1 h.2 else.1 out))
    (contains_or ys x))
    (eqb_tells y x)
  where
    nowhere : (k : ℕ) → k < length (y ∷ ys) → get_or (y ∷ ys) k x ≡ x → y ≢ x → (Contains ys x → ⊥) → ⊥
    nowhere zero lt e ne out = ne e
    nowhere (suc k) lt e ne out = out (k, omega arith, e)

-- who is none of the callers has no entry
none_by : (callers : List ℕ) (who : ℕ) → (Contains callers who → ⊥) → (es : List Entry) → All (λ e. Contains callers (caller_of e)) es → entries_by who es ≡ []
none_by callers who out [] owned = refl
none_by callers who out (e ∷ es) owned =
    ap (λ b. cond b (e ∷ entries_by who es) (entries_by who es))
    (ne_eqb (caller_of e) who (λ same. out (subst (Contains callers) same (All-head (λ e. Contains callers (caller_of e)) e es owned))))
    ∙ none_by callers who out es (All-tail (λ e. Contains callers (caller_of e)) e es owned)

numbers-parcels : (copies : List FrameCopy) → map (λ (p : Parcel). p.number) (parcels copies) ≡ numbers copies
numbers-parcels [] = refl
numbers-parcels (c ∷ copies) = ap (λ l. c.number ∷ l) (numbers-parcels copies)

module _ (port : FlowPort) (p : Plan) (seats : List PortSeat) (m : List Entry) (plan : IsPlan port p)
    (callers : callers_of port ≡ roster p.phase.agents.now p.workers)
    (all : All (λ (c : Caller). Contains (map (λ (s : PortSeat). (whose s).0) seats) c.0) (callers_of port)) where
  abbrev seated : List ℕ
  seated = map (λ (s : PortSeat). (whose s).0) seats

  -- all callers of the roster have a seat
  seated_all : (who : ℕ) → Contains (map (λ (c : Caller). c.0) (roster p.phase.agents.now p.workers)) who → Contains seated who
  seated_all who h = All-contains (Contains seated) (map (λ (c : Caller). c.0) (roster p.phase.agents.now p.workers)) who
      (All-map (Contains seated) (λ (c : Caller). c.0) (roster p.phase.agents.now p.workers) (subst (All (λ (c : Caller). Contains seated c.0)) callers all)) h

  abbrev taken : List Parcel
  taken = parcels p.phase.frames.now

  -- each caller's entries are its part, also where it has no seat
  did_each : All (λ (s : PortSeat). entries_by (whose s).0 m ≡ mine port s) seats → All (λ e. Contains seated (caller_of e)) m → All (DidItsPart port p) seats
      → (who : ℕ) → Did p.workers p.phase.shell.now p.phase.agents.now taken who (entries_by who m)
  did_each own owned did who = ⊎_elim
      (λ there. All-contains Part seated who
      (All-map Part (λ (s : PortSeat). (whose s).0) seats (λ k d lt. subst (Did p.workers p.phase.shell.now p.phase.agents.now taken (whose (get_or seats k d)).0) (sym (own k d lt)) (did k d lt))) there)
      (λ out. subst (Did p.workers p.phase.shell.now p.phase.agents.now taken who) (sym (none_by seated who out m owned)) (record {
        calls = sym (no_calls_outside p.phase.shell.now p.phase.agents.now p.workers who (λ h. out (seated_all who h)));
        frames = sym (no_share p.workers who plan.one (λ t. out (seated_all who (roster-has_takers p.phase.agents.now p.workers who t))) taken);
      }))
      (contains_or seated who)
    where
      Part : ℕ → Type 0
      Part who = Did p.workers p.phase.shell.now p.phase.agents.now taken who (entries_by who m)

  module _ (own : All (λ (s : PortSeat). entries_by (whose s).0 m ≡ mine port s) seats) (owned : All (λ e. Contains seated (caller_of e)) m) (did : All (DidItsPart port p) seats) where
    rising : IsStrictlyIncreasing (map (λ (c : Parcel). c.number) taken)
    rising = subst IsStrictlyIncreasing (sym (numbers-parcels p.phase.frames.now)) plan.rising

    pub closed_middle : (opening closing : Call) (count : Option ℕ) → IsMiddle p.workers (parts.Phase opening count p.phase.shell.now p.phase.agents.now closing) taken m
    closed_middle = IsMiddle-did p.workers p.phase.shell.now p.phase.agents.now taken m plan.one rising (did_each own owned did)

    -- who lets frames pass has a list
    closed_listed : (lists : List SentBy) → All (λ (s : PortSeat). 9 ≤ (whose s).0 → Contains (map (λ (l : SentBy). l.caller.0) lists) (whose s).0) seats
        → All (Contains (map (λ (l : SentBy). l.caller.0) lists)) (passers_of m)
    closed_listed lists listed =
        let Listed : ℕ → Type 0 = λ who. 9 ≤ who → Contains (map (λ (l : SentBy). l.caller.0) lists) who in
        All-weaker (IsTaker p.workers) (Contains (map (λ (l : SentBy). l.caller.0) lists))
        (λ who t. All-contains Listed seated who (All-map Listed (λ (s : PortSeat). (whose s).0) seats listed) (seated_all who (roster-has_takers p.phase.agents.now p.workers who t)) t.0)
        (passers_of m) (takers_pass p.workers p.phase.shell.now p.phase.agents.now taken m plan.one rising (did_each own owned did))

    -- and each frame that passes is found
    closed_found : (look : ℕ → Option Frame) → Finds look p.phase.frames.now → All (λ (q : Parcel). is_some (look q.number) ≡ true) (parcels_of m)
    closed_found look finds =
        let Found = λ (q : Parcel). is_some (look q.number) ≡ true in
        All-permutation Found taken (parcels_of m) (all_pass p.workers p.phase.shell.now p.phase.agents.now taken m plan.one rising (did_each own owned did))
        (All-map Found (λ (c : FrameCopy). parcel_of c.number (frame_of c)) p.phase.frames.now
        (All-weaker (λ (c : FrameCopy). look c.number ≡ Some (frame_of c)) (λ (c : FrameCopy). is_some (look c.number) ≡ true) (λ c e. ap is_some e) p.phase.frames.now finds))

    -- the lists of the middle m of a history that closes
    pub closed_lists : (limits : Limits) (look : ℕ → Option Frame) → Finds look p.phase.frames.now → (history middle : List Entry) (lists : List SentBy) → limits ≡ limits_of port → since port history ≡ middle → m ≡ middle
        → All (λ (s : PortSeat). 9 ≤ (whose s).0 → Contains (map (λ (l : SentBy). l.caller.0) lists) (whose s).0) seats
        → All (IsAllSent port look history) lists → HasLists limits look (opening_of port) middle lists
    closed_lists limits look finds history middle lists same rest is listed sent = record {
      each = subst (λ es. All (Contains (map (λ (l : SentBy). l.caller.0) lists)) (passers_of es)) is (closed_listed lists listed);
      found = subst (All (λ (q : Parcel). is_some (look q.number) ≡ true)) (ap parcels_of is) (closed_found look finds);
      sent = All-weaker (IsAllSent port look history) (λ (l : SentBy). map record_of l.copies.items ≡ sent_by l.caller.0 limits look (opening_of port) middle)
          (λ l e. e ∙ ap (sent_by l.caller.0 (limits_of port) look (opening_of port)) rest ∙ ap (λ (lim : Limits). sent_by l.caller.0 lim look (opening_of port) middle) (sym same)) lists sent;
    }
