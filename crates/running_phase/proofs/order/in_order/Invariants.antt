use Rattle.std.proofs.Common.{◌≡◌, ℕ, ◌-◌, ◌≤◌, ◌++◌, true, List, Option, All, map, length, take}
use Rattle.std.specs.List.{Contains}
use Rattle.std.specs.Option.{is_some}
use Rattle.capture_files.specs.Record.{Frame}
use Rattle.flow_calls.specs.declared.entry.Entry.{Entry}
use Rattle.flow_calls.specs.declared.parcel.Parcel.{Parcel}
use Rattle.flow_calls.specs.Entries.{parcels_of, passers_of}
use Rattle.running_phase.specs.Copies.{record_of}
use Rattle.running_phase.specs.Orders.{Held, held}
use Rattle.running_phase.specs.Sends.{all_sent, sent_by}
use Rattle.running_phase.proofs.Backward.{IsBack}
use Rattle.running_phase.proofs.order.in_order.Given as goal

abbrev pub decreases-loop-place : goal.decreases-loop-place
decreases-loop-place l = l.place

abbrev pub invariant-loop-place : goal.invariant-loop-place
invariant-loop-place l =
    let limits = l.adapter.limits in
    let first = map held l.fn.lists.items in
    record {
      within : l.place ≤ length l.adapter.history;
      callers : map (λ (h : Held). h.0) (map held l.lists.items) ≡ map (λ (h : Held). h.0) first;
      back : (look : ℕ → Option Frame) (before middle : List Entry) → l.adapter.history ≡ before ++ middle → l.from ≡ length before
          → All (Contains (map (λ (h : Held). h.0) first)) (passers_of middle) → All (λ (p : Parcel). is_some (look p.number) ≡ true) (parcels_of middle)
          → All (λ h. h.1 ≡ sent_by h.0 limits look before middle) first
          → IsBack limits look before (take (l.place - l.from) middle) (map held l.lists.items) (map record_of l.sent.items) (all_sent limits look before middle);
    }
