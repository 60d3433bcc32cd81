use Rattle.std.proofs.Common.{◌≡◌, ◌+◌, take, drop, fold}
use Rattle.flow_rules.specs.Changes.{changed}
use Rattle.flow_rules.specs.Lawful.{AreLawfulOn}
use Rattle.replica.proofs.replica.follow.Given as goal

-- so many changes were applied, and those that are left are lawful
abbrev pub invariant-loop-change : goal.invariant-loop-change
invariant-loop-change l = record {
  flows : l.flows ≡ fold changed l.initial.flows (take l.change-index l.changes);
  counted : l.version ≡ l.initial.version + l.change-index;
  lawful : AreLawfulOn l.flows.rxq l.flows (drop l.change-index l.changes);
  port : l.flows.rxq ≡ l.initial.flows.rxq;
}
