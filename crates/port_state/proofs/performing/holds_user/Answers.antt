use Rattle.std.proofs.Common.{◌||◌, sym, ap, ◌∙◌}
use Rattle.std.specs.List.{list_any}
use Rattle.std.proofs.lemmas.List.Folds.{list_any-append}
use Rattle.port_state.specs.State.{is_held_user}
use Rattle.port_state.proofs.performing.holds_user.Goals as goal

pub returns-then-uses_any : goal.returns-then-uses_any
returns-then-uses_any c =
    let p = is_held_user c.args.id in
    ap (λ b. b || list_any p c.held-halves.result.1.now) (sym c.if-uses_any.true ∙ c.uses_any.ensures) ∙ sym (list_any-append p c.held-halves.result.0.now c.held-halves.result.1.now) ∙ ap (list_any p) c.held-halves.ensures

pub returns : goal.returns
returns c =
    let p = is_held_user c.args.id in
    c.uses_any-2.ensures
    ∙ ap (λ b. b || list_any p c.held-halves.result.1.now) (sym c.if-uses_any.false ∙ c.uses_any.ensures) ∙ sym (list_any-append p c.held-halves.result.0.now c.held-halves.result.1.now) ∙ ap (list_any p) c.held-halves.ensures
