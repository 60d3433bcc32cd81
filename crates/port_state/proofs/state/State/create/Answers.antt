use Rattle.std.proofs.Common.{◌≡◌, refl, sym, subst, ap, ◌∙◌, map, List, [], ◌∷◌, ◌++◌, None}
use Rattle.std.specs.List.{All}
use Rattle.std.proofs.lemmas.List.{map-append}
use Rattle.std.proofs.lemmas.List.Elements.{All-push}
use Rattle.flow_rules.specs.Naming.{rule_at}
use Rattle.rules_in_effect.specs.declared.in_effect.InEffect.{InEffect}
use Rattle.rules_in_effect.specs.Entries as rules
use Rattle.port_state.specs.State.{Placed, rule_in, all_held}
use Rattle.port_state.specs.Kept.{AreKept}
use Rattle.port_state.specs.KeptState.{KeptState, state_in, placed}
use Rattle.port_state.specs.StateInside.{state_kept, HaveSettled, IsSettled}
use Rattle.port_state.proofs.Settling.{entry-free, kept-later, plain-pushed}
use Rattle.port_state.proofs.Carried.{carried-rules, CarriesRule, pushed_rule}
use Rattle.port_state.proofs.state.State.create.Goals as goal

pub push-requires-clause-fresh : goal.push-requires-clause-fresh
push-requires-clause-fresh c =
    let s = c.self.inside in
    entry-free c.args.rule.id s.rules.list (ap (λ (k : KeptState). rule_at c.args.rule.id (map rule_in (state_in k).rules)) c.self.view_is ∙ c.requires.fresh)

pub returns-clause-counts : goal.returns-clause-counts
returns-clause-counts c =
    let s = c.self.inside in
    carried-rules s _ c.self.view_is c.push.new.self.list s.isolated s.rxq c.len-number.ensures.sound.ids
    (λ q. subst (λ (list : List InEffect). CarriesRule (rules.entry_at q s.rules.list) (rules.entry_at q list)) (sym c.push.ensures.list)
    (pushed_rule q s.rules.list (record { rule = c.args.rule; table = None; count = record { hits = 0; bytes = 0 } }) refl))

pub returns-clause-kept : goal.returns-clause-kept
returns-clause-kept c = λ kept.
    let s = c.self.inside in
    kept-later s.ids s.templates s.shared.entries (all_held (state_in (state_kept s))) (subst AreKept (sym c.self.view_is) kept)

pub invariant_of-self : goal.invariant_of-self
invariant_of-self c =
    let s = c.self.inside in
    let entry : InEffect = record { rule = c.args.rule; table = None; count = record { hits = 0; bytes = 0 } } in
    let is : map placed c.push.new.self.list ≡ map placed s.rules.list ++ placed entry ∷ [] = ap (map placed) c.push.ensures.list ∙ map-append placed s.rules.list (entry ∷ []) in
    record {
      on_port = c.self.invariant.on_port;
      settled = subst (All (IsSettled s.templates)) (sym is) (All-push (IsSettled s.templates) (map placed s.rules.list) (placed entry) c.self.invariant.settled tt);
      slots = subst (λ (rs : List Placed). HaveSettled rs s.templates) (sym is) (plain-pushed (map placed s.rules.list) c.args.rule s.templates c.self.invariant.slots);
      queues = c.self.invariant.queues;
      tables = c.self.invariant.tables;
    }
