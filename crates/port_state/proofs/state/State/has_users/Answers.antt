use Rattle.std.proofs.Common.{◌||◌, sym, ap, ◌∙◌}
use Rattle.std.specs.List.{list_any}
use Rattle.op_queues.specs.OpQueue.{Queue}
use Rattle.rules_in_effect.specs.Entries.{is_user}
use Rattle.port_state.specs.declared.held.Held.{Held}
use Rattle.port_state.specs.KeptState.{KeptState, state_in}
use Rattle.port_state.specs.State.{all_held, is_held_user}
use Rattle.port_state.specs.StateInside.{state_kept}
use Rattle.port_state.proofs.Objects.{any-queue}
use Rattle.port_state.proofs.state.State.has_users.Goals as goal

pub returns-then-is_used : goal.returns-then-is_used
returns-then-is_used c =
    ap (λ b. b || list_any (is_held_user c.args.id) (all_held (state_in (state_kept c.self.inside)))) (sym c.if-is_used.true ∙ c.is_used.ensures)
    ∙ ap (λ (k : KeptState). list_any (is_user c.args.id) k.rules || list_any (is_held_user c.args.id) (all_held (state_in k))) c.self.view_is

pub returns : goal.returns
returns c =
    let s = c.self.inside in
    c.is_held_used.ensures
    ∙ ap (list_any (λ (queue : Queue Held). list_any (is_held_user c.args.id) queue.held)) c.as_slice.ensures.value
    ∙ any-queue (is_held_user c.args.id) s.queues.items
    ∙ ap (λ b. b || list_any (is_held_user c.args.id) (all_held (state_in (state_kept s)))) (sym c.if-is_used.false ∙ c.is_used.ensures)
    ∙ ap (λ (k : KeptState). list_any (is_user c.args.id) k.rules || list_any (is_held_user c.args.id) (all_held (state_in k))) c.self.view_is
