use Rattle.std.proofs.Common.{◌≡◌, ℕ, nat_eq, map, refl, sym, subst, ap, ◌∙◌, true, List, None}
use Rattle.std.specs.List.{IsDistinct}
use Rattle.std.specs.Map.{keys_of}
use Rattle.flow_rules.specs.Naming.{rule_at}
use Rattle.indirect_counters.proofs.Creating.{update-clear}
use Rattle.port_state.specs.declared.held.Held.{Held}
use Rattle.port_state.specs.Apart.{is_rule}
use Rattle.port_state.specs.Kept.{AreKept, AreKeptFor}
use Rattle.port_state.specs.Effect.{AreRulesDue}
use Rattle.port_state.specs.declared.effect.RuleEffect.{RuleEffect}
use Rattle.port_state.specs.declared.effect.RuleEffect.TheVariants as rules
use Rattle.port_state.specs.KeptState.{KeptState, state_in}
use Rattle.port_state.specs.State.{Placed, State, all_held, destroyed, is_plain, is_plain_of, rule_in, shared_gone, shared_set}
use Rattle.port_state.proofs.Alone.{first-part, fresh-id, rule-alone, shared-alone}
use Rattle.port_state.proofs.Objects.{CanAdd-entries, destroy-there, objects-update}
use Rattle.port_state.proofs.state.State.change_rules.Goals as goal

due-is : (k : KeptState) (effect effect' : RuleEffect) → effect ≡ effect' → AreRulesDue (state_in k) effect → AreRulesDue (state_in k) effect'
due-is k effect effect' is due = subst (AreRulesDue (state_in k)) is due

distinct-now : (k now : KeptState) → k ≡ now → IsDistinct nat_eq (keys_of k.shared) → IsDistinct nat_eq (keys_of now.shared)
distinct-now k now same ids = subst (λ (x : KeptState). IsDistinct nat_eq (keys_of x.shared)) same ids

pub create-requires-clause-fresh : goal.create-requires-clause-fresh
create-requires-clause-fresh c =
    let due = due-is c.args.self.now c.args.effect (rules.Created c.in-Created.rule c.in-Created.told) c.in-Created.is c.requires.due in
    subst (λ id. rule_at id (map rule_in (state_in c.args.self.now).rules) ≡ None) (sym due.0) (fresh-id (state_in c.args.self.now) c.requires.apart)

pub share-requires-clause-free : goal.share-requires-clause-free
share-requires-clause-free c =
    let due = due-is c.args.self.now c.args.effect (rules.SharedCreated c.in-SharedCreated.id c.in-SharedCreated.action) c.in-SharedCreated.is c.requires.due in
    CanAdd-entries c.args.self.now c.requires.kept c.in-SharedCreated.id c.in-SharedCreated.action due.0

pub replace-requires-clause-due : goal.replace-requires-clause-due
replace-requires-clause-due c =
    let now = c.args.self.now in
    objects-update now (distinct-now _ now c.self.view_is c.len-number.ensures.sound.ids) now.rxq c.in-SharedUpdated.id c.in-SharedUpdated.action
    ∙ due-is now c.args.effect (rules.SharedUpdated c.in-SharedUpdated.id c.in-SharedUpdated.action) c.in-SharedUpdated.is c.requires.due

pub unshare-requires : goal.unshare-requires
unshare-requires c =
    let now = c.args.self.now in
    record {
      there = destroy-there now (distinct-now _ now c.self.view_is c.len-number.ensures.sound.ids) c.in-SharedDestroyed.id
          (due-is now c.args.effect (rules.SharedDestroyed c.in-SharedDestroyed.id) c.in-SharedDestroyed.is c.requires.due);
    }

-- operations that are held behind a change that holds and takes none
held-as-before : (now new : KeptState) (change : State → State) (ops : List Held) → state_in new ≡ change (state_in now) → all_held (change (state_in now)) ≡ ops
    → AreKeptFor new.ids new.templates new.shared ops → AreKept new
held-as-before now new change ops is held kept = subst (AreKeptFor new.ids new.templates new.shared) (sym (ap all_held is ∙ held)) kept

pub returns-in-SharedUpdated-clause-kept : goal.returns-in-SharedUpdated-clause-kept
returns-in-SharedUpdated-clause-kept c =
    let now = c.args.self.now in
    let id = c.in-SharedUpdated.id in
    let action = c.in-SharedUpdated.action in
    let ids = distinct-now _ now c.self.view_is c.len-number.ensures.sound.ids in
    let due = objects-update now ids now.rxq id action ∙ due-is now c.args.effect (rules.SharedUpdated id action) c.in-SharedUpdated.is c.requires.due in
    held-as-before now c.replace.new.self (shared_set id action) (all_held (state_in now)) c.replace.ensures.state refl
    (c.replace.ensures.kept (all_held (state_in now)) (shared-alone now id c.requires.apart ids (update-clear now.rxq now.shared id action due).there) c.requires.kept)

pub returns-in-SharedDestroyed-clause-kept : goal.returns-in-SharedDestroyed-clause-kept
returns-in-SharedDestroyed-clause-kept c =
    let now = c.args.self.now in
    let id = c.in-SharedDestroyed.id in
    let ids = distinct-now _ now c.self.view_is c.len-number.ensures.sound.ids in
    let there = destroy-there now ids id (due-is now c.args.effect (rules.SharedDestroyed id) c.in-SharedDestroyed.is c.requires.due) in
    held-as-before now c.unshare.new.self (shared_gone id) (all_held (state_in now)) c.unshare.ensures.state refl
    (c.unshare.ensures.kept (all_held (state_in now)) (shared-alone now id c.requires.apart ids there) c.requires.kept)

plain-rule : (id : ℕ) (r : Placed) → is_plain_of id r ≡ true → is_rule id r ≡ true
plain-rule id r is = first-part (is_rule id r) (is_plain r) is

pub returns-in-Destroyed-clause-kept : goal.returns-in-Destroyed-clause-kept
returns-in-Destroyed-clause-kept c =
    let now = c.args.self.now in
    let id = c.in-Destroyed.id in
    let there = due-is now c.args.effect (rules.Destroyed id) c.in-Destroyed.is c.requires.due in
    held-as-before now c.destroy.new.self (destroyed id) (all_held (state_in now)) c.destroy.ensures.state refl
    (c.destroy.ensures.kept (all_held (state_in now)) (rule-alone (state_in now) (is_plain_of id) id (plain-rule id) c.requires.apart there) c.requires.kept)
