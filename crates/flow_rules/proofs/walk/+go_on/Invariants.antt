use Rattle.flow_rules.proofs.walk.+go_on.Given as goal

-- each visit is one of those that are left
abbrev pub decreases-go_on : goal.decreases-go_on
decreases-go_on g l = l.more
