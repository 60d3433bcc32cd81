-- A burst enters one frame after the other, with the verdicts of the rules in effect before it.
use Rattle.std.proofs.Common.{◌≡◌, ◌+◌, ◌<◌, ◌^◌, List, [], ◌∷◌, ◌++◌, length, sym, ap, ◌∙◌, subst, arith, append_assoc, length-append}
use Rattle.std.specs.List.{All}
use Rattle.std.proofs.lemmas.List.Elements.{All-head, All-tail, All-weaker}
use Rattle.flow_rules.specs.declared.change.Change.{Change}
use Rattle.flow_rules.specs.declared.limits.Limits.{Limits}
use Rattle.flow_rules.specs.Limits.{AreLimits}
use Rattle.flow_rules.specs.OnPort.{IsBelow}
use Rattle.flow_rules.specs.Walk.{verdict_of}
use Rattle.flow_calls.specs.declared.entry.Entry.{Entry}
use Rattle.flow_calls.specs.declared.entry.Entry.TheVariants.{Asked, Passed}
use Rattle.adapter.specs.declared.kept.tallies.Tally.{Tally}
use Rattle.adapter.specs.declared.spare.Spare.{Spare}
use Rattle.adapter.specs.History.{IsFrame}
use Rattle.adapter.specs.KeptHistory.{KeptHistory, IsReady}
use Rattle.adapter.specs.Sound.{Sound}
use Rattle.port_state.specs.Changes.{AreTold}
use Rattle.port_state.specs.Standing.{Standing, Counts}
use Rattle.port_state.specs.State.{State, flows_of}
use Rattle.adapter.specs.Tallies.{Tallies}
use Rattle.port_state.proofs.ChangesTold.{AreTold-passed}
use Rattle.port_state.proofs.StateKept.{state_of-push}
use Rattle.adapter.proofs.SoundGrowth.{Sound-passed, IsBelow-verdict}

-- a frame's entry leaves the verdicts of others
IsFrame-push : (limits : Limits) (h : List Entry) (e x : Entry) → IsFrame limits h e → IsFrame limits h x → IsFrame limits (h ++ e ∷ []) x
IsFrame-push limits h (Asked caller call reply) x frame is = absurd frame
IsFrame-push limits h (Passed caller parcel v) (Asked caller' call reply) frame is = is
IsFrame-push limits h (Passed caller parcel v) (Passed caller' parcel' v') frame is =
    (is.0, is.1, is.2 ∙ ap (λ (s : State). verdict_of (flows_of s) parcel'.key) (sym (state_of-push limits h (Passed caller parcel v))))

Sound-frame : (limits : Limits) (at at' : Standing) (h : List Entry) (e : Entry) (tally : Tally) → Sound limits at h → length h < 2 ^ 32 → IsFrame limits h e → Tallies e tally
    → Counts at at' tally.path.items tally.fate tally.bytes → Sound limits at' (h ++ e ∷ [])
Sound-frame limits at at' h (Asked caller call reply) tally sound more frame is counts = absurd frame
Sound-frame limits at at' h (Passed caller parcel v) tally sound more frame is counts =
    Sound-passed limits at at' h caller parcel v sound more frame.2 (subst (λ (t : Tally). Counts at at' t.path.items t.fate t.bytes) is counts)

AreTold-frame : (limits : Limits) (h : List Entry) (e : Entry) (list : List Change) → IsFrame limits h e → AreTold limits h list → AreTold limits (h ++ e ∷ []) list
AreTold-frame limits h (Asked caller call reply) list frame told = absurd frame
AreTold-frame limits h (Passed caller parcel v) list frame told = AreTold-passed limits h caller parcel v list told

-- the queue of a frame's fate is one that the totals count
IsBelow-frame : (limits : Limits) (h : List Entry) (e : Entry) (tally : Tally) → AreLimits limits → IsFrame limits h e → Tallies e tally → IsBelow 16 tally.fate
IsBelow-frame limits h (Asked caller call reply) tally ranges frame is = absurd frame
IsBelow-frame limits h (Passed caller parcel v) tally ranges frame is =
    subst (λ (t : Tally). IsBelow 16 t.fate) (sym is) (IsBelow-verdict limits h parcel.key v ranges frame.2)

-- so far as a burst was entered: the adapter is sound, the frames that are left can be entered, and there is room for them
pub record Entering (limits : Limits) (list : List Change) (whole : List Entry) (held : Spare) (at : Standing) (now : KeptHistory) (rest : List Entry) : Type 0 where
  pub sound : Sound limits at now.entries
  pub told : AreTold limits now.entries list
  pub frames : All (IsFrame limits now.entries) rest
  pub entries : now.entries ++ rest ≡ whole
  pub spare : now.spare ≡ held
  pub ready : IsReady (length rest) now

module _ (limits : Limits) (list : List Change) (whole : List Entry) (held : Spare) (at : Standing) (now : KeptHistory) (e : Entry) (rest : List Entry) where
  first-frame : Entering limits list whole held at now (e ∷ rest) → IsFrame limits now.entries e
  first-frame going = All-head (IsFrame limits now.entries) e rest going.frames

  pub first-below : (tally : Tally) → Entering limits list whole held at now (e ∷ rest) → Tallies e tally → IsBelow 16 tally.fate
  first-below tally going is = IsBelow-frame limits now.entries e tally going.sound.ranges (first-frame going) is

  -- the first of the frames that are left is counted and entered
  pub Entering-next : (at' : Standing) (now' : KeptHistory) (tally : Tally) → Entering limits list whole held at now (e ∷ rest) → Tallies e tally
      → Counts at at' tally.path.items tally.fate tally.bytes → now'.entries ≡ now.entries ++ e ∷ [] → now'.spare ≡ now.spare → now'.room + 1 ≡ now.room
      → Entering limits list whole held at' now' rest
  Entering-next at' now' tally going is counts entries spare room =
      let frame = first-frame going in
      let more : length now.entries < 2 ^ 32 = omega (arith, going.ready.short) in
      let longer : length now'.entries ≡ length now.entries + 1 = ap length entries ∙ length-append now.entries (e ∷ []) in
      record {
        sound = subst (Sound limits at') (sym entries) (Sound-frame limits at at' now.entries e tally going.sound more frame is counts);
        told = subst (λ h. AreTold limits h list) (sym entries) (AreTold-frame limits now.entries e list frame going.told);
        frames = subst (λ h. All (IsFrame limits h) rest) (sym entries)
            (All-weaker (IsFrame limits now.entries) (IsFrame limits (now.entries ++ e ∷ [])) (λ x. IsFrame-push limits now.entries e x frame) rest
            (All-tail (IsFrame limits now.entries) e rest going.frames));
        entries = ap (λ h. h ++ rest) entries ∙ append_assoc now.entries (e ∷ []) rest ∙ going.entries;
        spare = spare ∙ going.spare;
        ready = record {
          within = omega (arith, going.ready.within, room, ap (λ (s : Spare). s.lines) spare, ap (λ (s : Spare). s.frames) spare);
          short = omega (arith, going.ready.short, longer, ap (λ (s : Spare). s.lines) spare, ap (λ (s : Spare). s.frames) spare);
        };
      }
