use Rattle.std.proofs.Common.{◌≡◌, length, arith, ap, ◌∙◌}
use Rattle.rule_index.specs.Rank.{present}
use Rattle.rule_index.proofs.Renewal.{present_kept, kept_few}
use Rattle.rule_index.proofs.index.make_room.Goals as goal

pub returns-clause-present : goal.returns-clause-present
returns-clause-present c = ap present c.in_ok-renew.ensures.ok ∙ present_kept c.args.slots.now.items

pub returns-clause-room : goal.returns-clause-room
returns-clause-room c =
    let long : length c.renew.new.slots.items ≡ length (present c.args.slots.now.items) = ap length c.in_ok-renew.ensures.ok ∙ kept_few c.args.slots.now.items in
    omega (arith, c.requires.few, long)
