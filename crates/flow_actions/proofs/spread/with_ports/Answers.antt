use Rattle.std.proofs.Common.{◌++◌, ap, sym, ◌∙◌}
use Rattle.std.specs.Int.{bytes_high_first}
use Rattle.std.specs.Option.{option_map}
use Rattle.flow_actions.specs.Hash.{hash_at}
use Rattle.flow_actions.specs.Spread.{pair}
use Rattle.flow_actions.proofs.Inputs.{hash-with_ports, hash-alone, hash-nothing}
use Rattle.flow_actions.proofs.spread.with_ports.Goals as goal

pub returns-in-Some : goal.returns-in-Some
unfolding pair
returns-in-Some c = λ bytes len is.
    let src = c.in-Some.src in
    let dst = c.in-Some.dst in
    let part = c.two_parts.ensures
    ∙ (ap (λ first. hash_at c.args.len (first ++ c.to_be_bytes-in-Some.result)) c.to_be_bytes.ensures
    ∙ (ap (λ second. hash_at c.args.len (bytes_high_first 2 src ++ second)) c.to_be_bytes-in-Some.ensures
    ∙ ap (λ n. hash_at n (pair 2 src dst)) (sym len))) in
    hash-with_ports c.args.types c.args.bit bytes (pair 2 src dst) _ c.args.addresses c.two_parts.result is part
    (ap (option_map (λ numbers. pair 2 numbers.0 numbers.1)) (sym c.in-Some.is) ∙ c.ports_of.ensures)

pub returns-then-has : goal.returns-then-has
returns-then-has c = λ bytes len is.
    hash-alone c.args.types c.args.bit bytes _ c.args.addresses is
    (ap (option_map (λ numbers. pair 2 numbers.0 numbers.1)) (sym c.in_default.is) ∙ c.ports_of.ensures) (sym c.has.ensures ∙ c.if-has.true)

pub returns : goal.returns
returns c = λ bytes len is.
    hash-nothing c.args.types c.args.bit bytes _
    (ap (option_map (λ numbers. pair 2 numbers.0 numbers.1)) (sym c.in_default.is) ∙ c.ports_of.ensures) (sym c.has.ensures ∙ c.if-has.false)
