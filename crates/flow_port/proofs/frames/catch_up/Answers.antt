use Rattle.std.proofs.Common.{◌∙◌, drop, ap}
use Rattle.std.proofs.lemmas.Result.{on_ok_weaker}
use Rattle.port_state.specs.Changes.{changes_of}
use Rattle.flow_port.proofs.Standing.{Stands-followed, current-caught, lawful-left}
use Rattle.flow_port.proofs.frames.catch_up.Goals as goal

pub catch_up-requires-clause-lawful : goal.catch_up-requires-clause-lawful
catch_up-requires-clause-lawful c =
    lawful-left c.args.adapter.now.limits c.args.adapter.now.history c.args.replica.now c.version-version.result c.changes_from.result.now c.version-version.ensures c.requires c.changes_from.ensures.lawful

pub returns-clause-stands : goal.returns-clause-stands
returns-clause-stands c =
    let all = changes_of c.args.adapter.now.limits c.args.adapter.now.history in
    Stands-followed c.catch_up.result c.args.adapter.now.limits c.args.adapter.now.history c.args.replica.now c.catch_up.new.self c.changes_from.result.now c.requires
    (c.changes_from.ensures.changes ∙ ap (λ n. drop n all) c.version-version.ensures) c.catch_up.ensures.ok c.catch_up.ensures.err

pub returns-clause-current : goal.returns-clause-current
returns-clause-current c =
    let all = changes_of c.args.adapter.now.limits c.args.adapter.now.history in
    on_ok_weaker c.catch_up.result
    (current-caught c.args.adapter.now.limits c.args.adapter.now.history c.args.replica.now c.catch_up.new.self c.changes_from.result.now c.requires
    (c.changes_from.ensures.changes ∙ ap (λ n. drop n all) c.version-version.ensures))
    c.catch_up.ensures.ok
