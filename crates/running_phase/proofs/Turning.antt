-- A worker's turn: what its seat has entered, and what that sends.
use Rattle.std.proofs.Common.{◌≡◌, ℕ, List, [], ◌∷◌, ◌++◌, map, flat_map, length, drop, Option, refl, sym, ap, ◌∙◌, subst, append_assoc, append-nil, arith}
use Rattle.std.proofs.Math.Seq.{drop-append_seam}
use Rattle.capture_files.specs.Record.{Frame}
use Rattle.flow_actions.specs.declared.verdict.Verdict.{Verdict}
use Rattle.replica.specs.Caught.{ReplicaView}
use Rattle.flow_calls.specs.declared.caller.Caller.{Caller}
use Rattle.flow_calls.specs.declared.entry.Entry.{Entry}
use Rattle.flow_calls.specs.declared.parcel.Parcel.{Parcel}
use Rattle.flow_calls.specs.Entries.{calls_by, entries_by, numbers_by, parcels_of}
use Rattle.flow_calls.proofs.Entries.{calls_by-append, parcels_of-append}
use Rattle.port_state.specs.State.{flows_of, state_of}
use Rattle.adapter.specs.History.{IsLegal, IsLegalBehind}
use Rattle.flow_port.specs.declared.port.FlowPort.{FlowPort}
use Rattle.flow_port.specs.declared.seat.PortSeat.{PortSeat}
use Rattle.flow_port.specs.Bursts.{passed_all, verdicts_by}
use Rattle.flow_port.specs.Ports.{Grew, IsSeatAt, limits_of, mine, opening_of, seen, since, whose}
use Rattle.flow_port.specs.Standing.{IsCurrent}
use Rattle.flow_port.proofs.Numbers.{numbers_grow, numbers_passed}
use Rattle.flow_port.proofs.Owning.{mine_is}
use Rattle.flow_port.proofs.Standing.{flows-current}
use Rattle.running_phase.specs.declared.copies.FrameCopy.{FrameCopy}
use Rattle.running_phase.specs.Copies.{Finds, parcels}
use Rattle.running_phase.specs.Sends.{sent_by}
use Rattle.running_phase.specs.Turns.{goes_out}
use Rattle.running_phase.proofs.Sending.{flows-burst, judged-burst, legal-behind, none_between, own_burst, sent_by-burst}
use Rattle.running_phase.proofs.Sent.{sent_by-append, sent_by-none}

-- frames ask no calls, and are in the history as they passed
no_calls : (who : ℕ) (caller : Caller) (ps : List Parcel) (vs : List Verdict) → calls_by who (passed_all caller ps vs) ≡ []
no_calls who caller [] vs = refl
no_calls who caller (p ∷ ps) [] = refl
no_calls who caller (p ∷ ps) (v ∷ vs) = no_calls who caller ps vs

these_frames : (caller : Caller) (ps : List Parcel) (vs : List Verdict) → length vs ≡ length ps → parcels_of (passed_all caller ps vs) ≡ ps
these_frames caller [] vs same = refl
these_frames caller (p ∷ ps) [] same = absurd (omega arith)
these_frames caller (p ∷ ps) (v ∷ vs) same = ap (λ l. p ∷ l) (these_frames caller ps vs (omega arith))

-- of what a seat has seen, the entries behind the opening
since_is : (port : FlowPort) (history rest : List Entry) → history ≡ opening_of port ++ rest → since port history ≡ rest
since_is port history rest is = ap (drop (length (opening_of port))) is ∙ drop-append_seam (opening_of port) rest

seen_is : (port : FlowPort) (s : PortSeat) → IsSeatAt port s → seen s ≡ opening_of port ++ since port (seen s)
seen_is port s at = at.seat.2.1 ∙ ap (λ l. opening_of port ++ l) (sym (since_is port (seen s) at.seat.2.0 at.seat.2.1))

-- A seat's turn let these frames pass with these verdicts, by a replica that is current behind them
pub record IsTurn (port : FlowPort) (old new : PortSeat) (replica : ReplicaView) (ps : List Parcel) (vs : List Verdict) : Type 0 where
  pub was : IsSeatAt port old
  pub is : IsSeatAt port new
  pub same : whose new ≡ whose old
  pub legal : IsLegal (limits_of port) (seen new)
  pub own : entries_by (whose new).0 (since port (seen new)) ≡ mine port new
  pub grew : Grew (seen old) (seen new) (passed_all (whose old) ps vs)
  pub entered : mine port new ≡ mine port old ++ passed_all (whose old) ps vs
  pub count : length vs ≡ length ps
  pub current : IsCurrent (limits_of port) (seen new) replica

module _ (port : FlowPort) (old new : PortSeat) (replica : ReplicaView) (ps : List Parcel) (vs : List Verdict) (turn : IsTurn port old new replica ps vs) where
  flows_before : flows_of (state_of (limits_of port) (seen old ++ turn.grew.0)) ≡ replica.flows
  flows_before =
      let limits = limits_of port in
      let before = seen old ++ turn.grew.0 in
      sym (flows-burst limits (whose old) ps vs before) ∙ ap (λ h. flows_of (state_of limits h)) (sym turn.grew.1) ∙ sym (flows-current limits (seen new) replica turn.current)

  pub judged_turn : vs ≡ verdicts_by replica.flows ps
  judged_turn =
      let limits = limits_of port in
      let before = seen old ++ turn.grew.0 in
      judged-burst limits replica.flows (whose old) ps vs before turn.count flows_before
      (legal-behind limits [] before (passed_all (whose old) ps vs) (let P : List Entry → Type 0 = IsLegalBehind limits [] in subst P turn.grew.1 turn.legal))

  pub calls_turn : (who : ℕ) → calls_by who (mine port new) ≡ calls_by who (mine port old)
  calls_turn who =
      ap (calls_by who) turn.entered ∙ calls_by-append who (mine port old) (passed_all (whose old) ps vs)
      ∙ ap (λ l. calls_by who (mine port old) ++ l) (no_calls who (whose old) ps vs) ∙ append-nil (calls_by who (mine port old))

  pub frames_turn : parcels_of (mine port new) ≡ parcels_of (mine port old) ++ ps
  frames_turn =
      ap parcels_of turn.entered ∙ parcels_of-append (mine port old) (passed_all (whose old) ps vs)
      ∙ ap (λ l. parcels_of (mine port old) ++ l) (these_frames (whose old) ps vs turn.count)

  pub numbers_turn : numbers_by (whose old).0 (seen new) ≡ numbers_by (whose old).0 (seen old) ++ map (λ (p : Parcel). p.number) ps
  numbers_turn =
      ap (λ (c : Caller). numbers_by c.0 (seen new)) (sym turn.same)
      ∙ numbers_grow port old new (passed_all (whose old) ps vs) turn.was turn.is turn.same turn.entered
      ∙ ap (λ l. numbers_by (whose old).0 (seen old) ++ l) (numbers_passed (whose old) ps vs turn.count)

  -- behind the opening
  since_new : since port (seen new) ≡ (since port (seen old) ++ turn.grew.0) ++ passed_all (whose old) ps vs
  since_new =
      let past = since port (seen old) in
      let between = turn.grew.0 in
      let gained = passed_all (whose old) ps vs in
      since_is port (seen new) ((past ++ between) ++ gained)
      (turn.grew.1 ∙ ap (λ l. (l ++ between) ++ gained) (seen_is port old turn.was)
      ∙ ap (λ l. l ++ gained) (append_assoc (opening_of port) past between) ∙ append_assoc (opening_of port) (past ++ between) gained)

  others_between : entries_by (whose old).0 turn.grew.0 ≡ []
  others_between =
      let who = (whose old).0 in
      let past = since port (seen old) in
      let gained = passed_all (whose old) ps vs in
      none_between who past turn.grew.0 gained (own_burst (whose old) ps vs)
      (ap (entries_by who) (sym since_new) ∙ ap (λ (c : Caller). entries_by c.0 (since port (seen new))) (sym turn.same) ∙ turn.own ∙ turn.entered
      ∙ ap (λ l. l ++ gained) (sym (mine_is port old)))

  pub sent_turn : (look : ℕ → Option Frame) (copies : List FrameCopy) → ps ≡ parcels copies → Finds look copies
      → sent_by (whose old).0 (limits_of port) look (opening_of port) (since port (seen new))
      ≡ sent_by (whose old).0 (limits_of port) look (opening_of port) (since port (seen old)) ++ flat_map (goes_out replica.flows) copies
  sent_turn look copies packed finds =
      let who = (whose old).0 in
      let limits = limits_of port in
      let opening = opening_of port in
      let past = since port (seen old) in
      let between = turn.grew.0 in
      let gained = passed_all (whose old) ps vs in
      let before = sent_by who limits look opening past in
      let behind : opening ++ (past ++ between) ≡ seen old ++ between = sym (append_assoc opening past between) ∙ ap (λ l. l ++ between) (sym (seen_is port old turn.was)) in
      let here : sent_by who limits look (seen old ++ between) gained ≡ flat_map (goes_out replica.flows) copies
      = ap (λ l. sent_by who limits look (seen old ++ between) (passed_all (whose old) ps l)) judged_turn
      ∙ ap (λ l. sent_by who limits look (seen old ++ between) (passed_all (whose old) l (verdicts_by replica.flows l))) packed
      ∙ sent_by-burst limits look replica.flows (whose old) copies (seen old ++ between) finds flows_before in
      ap (sent_by who limits look opening) since_new
      ∙ sent_by-append who limits look opening (past ++ between) gained
      ∙ ap (λ l. l ++ sent_by who limits look (opening ++ (past ++ between)) gained)
      (sent_by-append who limits look opening past between ∙ ap (λ l. before ++ l) (sent_by-none who limits look (opening ++ past) between others_between) ∙ append-nil before)
      ∙ ap (λ b. before ++ sent_by who limits look b gained) behind
      ∙ ap (λ l. before ++ l) here
