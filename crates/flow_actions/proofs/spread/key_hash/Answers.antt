use Rattle.std.proofs.Common.{refl, ap, sym, ◌∙◌}
use Rattle.flow_actions.specs.Hash.{windows_at, hash_of}
use Rattle.flow_actions.specs.Spread.{pair, input_of, stack_input}
use Rattle.flow_actions.proofs.Inputs.{hash_in-key}
use Rattle.flow_actions.proofs.spread.key_hash.Goals as goal

pub returns-in_default : goal.returns-in_default
unfolding windows_at
returns-in_default c =
    ap (λ o. hash_of (stack_input c.args.types o)) (sym c.in_default.is)
    ∙ hash_in-key c.args.types c.key.inside.outer c.key.inside.tunnel c.args.key.now c.key.view_is

pub returns-in-None : goal.returns-in-None
unfolding windows_at
returns-in-None c =
    ap (λ n. hash_of (input_of c.args.types n c.in-Some.stack.transport)) (sym c.in-None.is)
    ∙ (ap (λ o. hash_of (stack_input c.args.types o)) (sym c.in-Some.is)
    ∙ hash_in-key c.args.types c.key.inside.outer c.key.inside.tunnel c.args.key.now c.key.view_is)

pub returns-in-V4 : goal.returns-in-V4
unfolding pair
returns-in-V4 c =
    c.with_ports.ensures (pair 4 c.in-V4.header.src c.in-V4.header.dst) refl c.ipv4_part.ensures
    ∙ (ap (λ n. hash_of (input_of c.args.types n c.in-Some.stack.transport)) (sym c.in-V4.is)
    ∙ (ap (λ o. hash_of (stack_input c.args.types o)) (sym c.in-Some.is)
    ∙ hash_in-key c.args.types c.key.inside.outer c.key.inside.tunnel c.args.key.now c.key.view_is))

pub returns-in-V6 : goal.returns-in-V6
unfolding pair
returns-in-V6 c =
    c.with_ports-in-V6.ensures (pair 16 c.in-V6.header.src c.in-V6.header.dst) refl c.ipv6_part.ensures
    ∙ (ap (λ n. hash_of (input_of c.args.types n c.in-Some.stack.transport)) (sym c.in-V6.is)
    ∙ (ap (λ o. hash_of (stack_input c.args.types o)) (sym c.in-Some.is)
    ∙ hash_in-key c.args.types c.key.inside.outer c.key.inside.tunnel c.args.key.now c.key.view_is))
