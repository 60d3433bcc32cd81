use Rattle.std.proofs.Common.{rules, ◌≡◌, ◌-◌, None, refl, arith}
use Rattle.frame_ring.specs.declared.pass.RingPasses.{RingPasses}
use Rattle.frame_ring.specs.declared.ring.FrameRing.{FrameRing}
use Rattle.crossbeam_queue.specs.Passes.{view}
use Rattle.frame_ring.specs.FreeRule.{filling}
use Rattle.frame_ring.proofs.Calls.{free_learns}
use Rattle.frame_ring.proofs.Making.{fills_last_from, fill_is_ok, all_made}
use Rattle.frame_ring.proofs.ring.FrameRing.new.Goals as goal

pub push_as-requires-clause-rule : goal.push_as-requires-clause-rule
push_as-requires-clause-rule g c =
    let there : view c.fill.new.pass ≡ filling (c.args.buffers - 1) = search rules in
    (fills_last_from _ _ _ _ _ there, free_learns _ _)

pub unwrap-requires : goal.unwrap-requires
unwrap-requires g c =
    let there : view c.fill.new.pass ≡ filling (c.args.buffers - 1) = search rules in
    fill_is_ok _ (c.args.buffers - 1) _ _ _ c.push_as.result there (let size = c.in_ok-free.ensures.0 in let some_buffer = c.requires.1 in omega arith) _ c.push_as.ensures.rule

pub returns-clause-all : goal.returns-clause-all
returns-clause-all g c =
    let r : FrameRing = record { ring = c.in_ok-ring.ring; free = c.in_ok-free.free; floor = c.args.floor; passes = c.args.passes; shut = c.new.result } in
    let list : RingPasses = record { items = c.hand_out-items.result; gathered = None } in
    all_made r list refl c.requires.2 c.hand_out-items.ensures.passes c.hand_out-items.ensures.numbers
