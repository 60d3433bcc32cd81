-- What a caller did, once its calls are asked and its share of the frames has passed.
use Rattle.std.proofs.Common.{◌≡◌, ℕ, ◌+◌, ◌-◌, ◌<◌, ◌≤◌, ◌==◌, if◌then◌else◌, Bool, true, false, cond, Some, None, Result, Ok, Err, OnOk, All, ◌^◌, List, [], ◌∷◌, ◌++◌, length, get_or, take, append_assoc, append-nil, sym, ap, ◌∙◌, subst, ⊎_elim, eq-eqb, ne_eqb, arith}
use Rattle.std.proofs.lemmas.Bool.Decides.{leb_tells}
use Rattle.std.specs.List.{cons_option}
use Rattle.std.proofs.lemmas.List.{get_or_past, take_more}
use Rattle.flow_calls.specs.declared.call.Call.{Call}
use Rattle.flow_calls.specs.declared.caller.Caller.{Caller}
use Rattle.flow_calls.specs.declared.entry.Entry.{Entry}
use Rattle.flow_calls.specs.declared.entry.Entry.TheVariants.{Asked}
use Rattle.flow_calls.specs.declared.parcel.Parcel.{Parcel}
use Rattle.flow_calls.specs.declared.reply.Reply.{Reply}
use Rattle.flow_calls.specs.Entries.{calls_by, parcels_of}
use Rattle.flow_calls.proofs.Entries.{calls_by-append, parcels_of-append}
use Rattle.running_phase.specs.Roster.{IsTaker}
use Rattle.running_phase.specs.Shares.{Did, calls_in, share_of}
use Rattle.running_phase.proofs.Middles.{no_share}

-- one call more of a list of calls
pub calls_after : (who : ℕ) (calls : List Call) (i : ℕ) (start : List Call) (old new : List Entry) (caller : Caller) (call : Call) (reply : Reply)
    → caller.0 ≡ who → new ≡ old ++ Asked caller call reply ∷ [] → calls_by who old ≡ start ++ take i calls → i < length calls → call ≡ get_or calls i call
    → calls_by who new ≡ start ++ take (i + 1) calls
calls_after who calls i start old new caller call reply by grows so_far lt is =
    ap (calls_by who) grows
    ∙ calls_by-append who old (Asked caller call reply ∷ [])
    ∙ ap (λ b. calls_by who old ++ cons_option (if b then Some call else None) []) (eq-eqb caller.0 who by)
    ∙ ap (λ l. l ++ call ∷ []) so_far
    ∙ append_assoc start (take i calls) (call ∷ [])
    ∙ ap (λ l. start ++ l) (ap (λ x. take i calls ++ x ∷ []) is ∙ sym (take_more calls i call lt))

-- a call is no frame
pub frames_after : (old new : List Entry) (start : List Parcel) (caller : Caller) (call : Call) (reply : Reply) → new ≡ old ++ Asked caller call reply ∷ [] → parcels_of old ≡ start → parcels_of new ≡ start
frames_after old new start caller call reply grows so_far =
    ap parcels_of grows ∙ parcels_of-append old (Asked caller call reply ∷ []) ∙ append-nil (parcels_of old) ∙ so_far

module _ (workers : ℕ) (shell : List Call) (agents : List (List Call)) (taken : List Parcel) (who : ℕ) (old new : List Entry) (none : old ≡ []) where
  -- the shell or an agent
  pub did_ask : 1 ≤ workers → who ≤ 8 → calls_by who new ≡ calls_by who old ++ calls_in shell agents who → parcels_of new ≡ parcels_of old → Did workers shell agents taken who new
  did_ask one low calls frames = record {
    calls = calls ∙ ap (λ es. calls_by who es ++ calls_in shell agents who) none;
    frames = frames ∙ ap parcels_of none ∙ sym (no_share workers who one (λ t. let least = t.0 in absurd (omega arith)) taken);
  }

  -- a worker
  pub did_pass : length agents ≡ 8 → IsTaker workers who → calls_by who new ≡ calls_by who old → parcels_of new ≡ parcels_of old ++ share_of workers who taken → Did workers shell agents taken who new
  did_pass eight taker calls frames =
      let least = taker.0 in
      record {
        calls = calls ∙ ap (calls_by who) none
            ∙ sym (ap (λ b. cond b shell (get_or agents (who - 1) [])) (ne_eqb who 0 (λ e. absurd (omega arith))) ∙ get_or_past agents (who - 1) [] (omega arith));
        frames = frames ∙ ap (λ es. parcels_of es ++ share_of workers who taken) none;
      }

-- a caller has few calls
pub calls_few : (shell : List Call) (agents : List (List Call)) (who : ℕ) → length shell ≤ 2 ^ 32 → All (λ calls. length calls ≤ 2 ^ 32) agents → length (calls_in shell agents who) ≤ 2 ^ 32
calls_few shell agents who shells others = by (who == 0)
  where
    agent : (k : ℕ) → length (get_or agents k []) ≤ 2 ^ 32
    agent k = ⊎_elim
        (λ past. subst (λ l. length l ≤ 2 ^ 32) (sym (get_or_past agents k [] past.1)) (omega arith))
        (λ within. let lt = within.1 in others k [] (omega arith))
        (leb_tells (length agents) k)

    by : (b : Bool) → length (cond b shell (get_or agents (who - 1) [])) ≤ 2 ^ 32
    by true = shells
    by false = agent (who - 1)

pub on_ok_both : {T E P Q R : Type 0} (r : Result T E) → OnOk r P → OnOk r Q → (P → Q → R) → OnOk r R
on_ok_both (Ok x) p q f = f p q
on_ok_both (Err e) p q f = tt

pub on_ok_then : {T E P Q : Type 0} (r : Result T E) → OnOk r P → (P → Q) → OnOk r Q
on_ok_then (Ok x) p f = f p
on_ok_then (Err e) p f = tt
