use Rattle.std.proofs.Common.{◌≡◌, ◌∷◌, List, refl, sym, subst}
use Rattle.port_state.specs.declared.held.Held.{Held}
use Rattle.port_state.specs.declared.held.Held.TheVariants as held
use Rattle.port_state.specs.Apart.{IsAlone}
use Rattle.port_state.specs.Kept.{AreKeptFor}
use Rattle.port_state.specs.KeptState.{KeptState}
use Rattle.port_state.proofs.Holding.{kept-without}
use Rattle.port_state.proofs.state.State.take.Goals as goal
use Rattle.port_state.proofs.state.State.take.Goals.{in-RuleCreated, in-RuleDestroyed, in-SharedCreated, in-SharedUpdated, in-SharedDestroyed}

behind : (new x : KeptState) (ops : List Held) → new ≡ x → AreKeptFor x.ids x.templates x.shared ops → AreKeptFor new.ids new.templates new.shared ops
behind new x ops is kept = subst (λ (k : KeptState). AreKeptFor k.ids k.templates k.shared ops) (sym is) kept

alone-is : (op op' : Held) (others : List Held) → op ≡ op' → IsAlone op others → IsAlone op' others
alone-is op op' others is alone = subst (λ (o : Held). IsAlone o others) is alone

kept-is : (k : KeptState) (op op' : Held) (others : List Held) → op ≡ op' → AreKeptFor k.ids k.templates k.shared (op ∷ others) → AreKeptFor k.ids k.templates k.shared (op' ∷ others)
kept-is k op op' others is kept = subst (λ (o : Held). AreKeptFor k.ids k.templates k.shared (o ∷ others)) is kept

pub returns-clause-kept : goal.returns-clause-kept
returns-clause-kept c = λ others alone kept.
    let now = c.args.self.now in
    let op = c.args.op in
    let without : (op' : Held) → _ → op ≡ op' → AreKeptFor now.ids now.templates now.shared others
    = λ op' nothing is. kept-without op' nothing now.ids now.templates now.shared others (kept-is now op op' others is kept) in
    elim c.match-op.branch [
      | in-RuleCreated w ↦ behind _ w.take_rule.new.self others w.self-is
          (w.take_rule.ensures.kept others (alone-is op _ others w.in-RuleCreated.is alone) (kept-is now op _ others w.in-RuleCreated.is kept))
      | in-RuleDestroyed w ↦ behind _ w.destroy-change.new.self others w.self-is
          (w.destroy-change.ensures.kept others (alone-is op _ others w.in-RuleDestroyed.is alone)
          (without (held.RuleDestroyed w.in-RuleDestroyed.id) (λ test q. (refl, refl, refl)) w.in-RuleDestroyed.is))
      | in-SharedCreated w ↦ behind _ w.activate-change.new.self others w.self-is
          (w.activate-change.ensures.kept others (alone-is op _ others w.in-SharedCreated.is alone) (kept-is now op _ others w.in-SharedCreated.is kept))
      | in-SharedUpdated w ↦ behind _ w.replace-change.new.self others w.self-is
          (w.replace-change.ensures.kept others (alone-is op _ others w.in-SharedUpdated.is alone)
          (without (held.SharedUpdated w.in-SharedUpdated.id w.in-SharedUpdated.action) (λ test q. (refl, refl, refl)) w.in-SharedUpdated.is))
      | in-SharedDestroyed w ↦ behind _ w.unshare-change.new.self others w.self-is
          (w.unshare-change.ensures.kept others (alone-is op _ others w.in-SharedDestroyed.is alone)
          (without (held.SharedDestroyed w.in-SharedDestroyed.id) (λ test q. (refl, refl, refl)) w.in-SharedDestroyed.is))
    ]
