use Rattle.std.proofs.Common.{◌∙◌, drop, sym, ap}
use Rattle.std.proofs.lemmas.Result.{on_ok_weaker}
use Rattle.port_state.specs.Changes.{changes_of}
use Rattle.flow_port.proofs.Standing.{current-caught, flows-current, lawful-left}
use Rattle.testpmd_shell.proofs.lead.catch_up.Goals as goal

pub catch_up-requires-clause-lawful : goal.catch_up-requires-clause-lawful
catch_up-requires-clause-lawful c =
    lawful-left c.args.adapter.now.limits c.args.adapter.now.history c.args.replica.now c.version-version.result c.changes_from.result.now c.version-version.ensures c.requires.stands c.changes_from.ensures.lawful

pub returns-clause-stands : goal.returns-clause-stands
returns-clause-stands c =
    let limits = c.args.adapter.now.limits in
    let history = c.args.adapter.now.history in
    let left = c.changes_from.ensures.changes ∙ ap (λ n. drop n (changes_of limits history)) c.version-version.ensures in
    on_ok_weaker c.catch_up.result
    (λ is. (current-caught limits history c.args.replica.now c.catch_up.new.self c.changes_from.result.now c.requires.stands left is).stands)
    c.catch_up.ensures.ok

pub returns-clause-now : goal.returns-clause-now
returns-clause-now c =
    let limits = c.args.adapter.now.limits in
    let history = c.args.adapter.now.history in
    let left = c.changes_from.ensures.changes ∙ ap (λ n. drop n (changes_of limits history)) c.version-version.ensures in
    on_ok_weaker c.catch_up.result
    (λ is. flows-current limits history c.catch_up.new.self (current-caught limits history c.args.replica.now c.catch_up.new.self c.changes_from.result.now c.requires.stands left is))
    c.catch_up.ensures.ok

pub returns-then-version-clause-now : goal.returns-then-version-clause-now
returns-then-version-clause-now c =
    flows-current c.args.adapter.now.limits c.args.adapter.now.history c.args.replica.now
    (record { stands = c.requires.stands; version = sym c.version-version.ensures ∙ c.if-version.true ∙ c.version.ensures.number })
