use Rattle.std.proofs.Common.{◌≡◌, ℕ, sym, ap, ◌∙◌, map, None, Some, Option}
use Rattle.std.specs.Option.{option_map, option_copied}
use Rattle.flow_rules.specs.declared.counter.Counter.TheVariants as counters
use Rattle.flow_rules.specs.RuleView.{RuleView}
use Rattle.flow_rules.specs.Naming.{rule_at}
use Rattle.rules_in_effect.specs.declared.in_effect.InEffect.{InEffect}
use Rattle.rules_in_effect.specs.Entries as rules
use Rattle.flow_calls.specs.declared.reply.Reply.TheVariants as replies
use Rattle.port_state.specs.State.{rule_in}
use Rattle.port_state.specs.Reply.{reply_to_query, reply_of_count}
use Rattle.port_state.specs.KeptState.{KeptState, state_in, count_in, count_of_rule}
use Rattle.port_state.specs.StateInside.{state_kept}
use Rattle.port_state.proofs.RulesKept.{rule_at-placed}
use Rattle.std.specs.List.{list_any}
use Rattle.flow_rules.specs.Faults.{is_count}
use Rattle.port_state.proofs.state.State.query.Goals as goal

-- what the state answers, by what is kept
asked : (kept now : KeptState) → kept ≡ now → (id : ℕ) (o : Option InEffect) → rules.entry_at id kept.rules ≡ o
    → reply_to_query (rule_at id (map rule_in (state_in now).rules)) (count_in now (counters.Rule id)) ≡ reply_to_query (option_map rules.rule_in o) (count_of_rule o)
asked kept now same id o found =
    ap (λ (k : KeptState). reply_to_query (rule_at id (map rule_in (state_in k).rules)) (count_in k (counters.Rule id))) (sym same)
    ∙ ap (λ (r : Option RuleView). reply_to_query r (count_of_rule (rules.entry_at id kept.rules))) (rule_at-placed id kept.rules)
    ∙ ap (λ (e : Option InEffect). reply_to_query (option_map rules.rule_in e) (count_of_rule e)) found

pub returns-in_default : goal.returns-in_default
returns-in_default c =
    ap replies.Fault c.plain.ensures ∙ sym (asked (state_kept c.self.inside) _ c.self.view_is c.args.id None (sym c.get.ensures ∙ ap option_copied c.in_default.is))

pub returns : goal.returns
returns c =
    let entry = c.in-Some.entry.now in
    c.counted.ensures
    ∙ ap (λ b. reply_of_count b entry.count) (c.has_count.ensures ∙ ap (list_any is_count) (c.as_slice.ensures.value ∙ c.actions.ensures.list ∙ ap (λ (r : RuleView). r.actions) c.get-2.ensures))
    ∙ sym (asked (state_kept c.self.inside) _ c.self.view_is c.args.id (Some entry) (sym c.get.ensures ∙ ap option_copied c.in-Some.is))
