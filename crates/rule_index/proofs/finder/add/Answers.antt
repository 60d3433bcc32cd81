use Rattle.std.proofs.Common.{◌≡◌, ℕ, List, Option, length, arith, refl, ap, sym, ◌∙◌, ◌++◌, ◌∷◌, [], None, Some, nat_eq, if◌then◌else◌}
use Rattle.std.specs.HashMap as hash
use Rattle.std.specs.Map.{lookup}
use Rattle.rule_index.specs.declared.chain.RulePlace.{RulePlace}
use Rattle.rule_index.specs.declared.chain.HomeChain.{HomeChain}
use Rattle.rule_index.specs.declared.table.Home.{Home}
use Rattle.rule_index.specs.Places.{same_home, linked_by, last_of, longer}
use Rattle.rule_index.specs.Index.{chain_of, place_of}
use Rattle.rule_index.proofs.Growth.{Indexed-push, Grows-none, on_err, stays}
use Rattle.rule_index.proofs.finder.add.Goals as goal

placed : (places kept : List RulePlace) (home : Home) (chain : Option HomeChain) (last : Option ℕ) (n : ℕ) → kept ≡ places → last ≡ last_of chain → n ≡ length places
    → linked_by kept last (length kept) ++ record { home = home; next = None } ∷ [] ≡ linked_by places (last_of chain) n ++ record { home = home; next = None } ∷ []
placed places kept home chain last n k l m =
    ap (λ (x : List RulePlace). linked_by x last (length x) ++ record { home = home; next = None } ∷ []) k
    ∙ ap (λ (x : Option ℕ). linked_by places x (length places) ++ record { home = home; next = None } ∷ []) l
    ∙ ap (λ (x : ℕ). linked_by places (last_of chain) x ++ record { home = home; next = None } ∷ []) (sym m)

pub overflow_cast-place : goal.overflow_cast-place
overflow_cast-place c = let long : length c.as_slice.result.now ≡ length c.args.finder.now.places.items = ap length (c.as_slice.ensures.value ∙ c.in_ok-reserve.ensures.items) in omega (arith, c.requires)

pub append-requires-clause-few : goal.append-requires-clause-few
append-requires-clause-few c = omega (arith, c.requires, ap length c.in_ok-reserve.ensures.items)

pub returns-clause-ok : goal.returns-clause-ok
returns-clause-ok c = λ slots ok few new.
    let old = c.args.finder.now in
    let long : length c.as_slice.result.now ≡ length c.args.finder.now.places.items = ap length (c.as_slice.ensures.value ∙ c.in_ok-reserve.ensures.items) in
    Indexed-push slots c.args.finder.now.tables.list c.home_of.new.tables.list c.args.finder.now.places.items c.append.new.places.items (chain_of c.args.finder.now) _ (place_of c.args.finder.now) _ c.args.rule.now c.in_ok-home.home
    (length c.as_slice.result.now) long c.home_of.ensures.grows c.in_ok-home.ensures.home
    (c.append.ensures ∙ placed c.args.finder.now.places.items c.reserve.new.self.items c.in_ok-home.home (chain_of c.args.finder.now c.in_ok-home.home) c.in_ok-last.last (length c.as_slice.result.now)
    c.in_ok-reserve.ensures.items c.in_ok-last.ensures.before long)
    (λ h. c.in_ok-last.ensures.ok h ∙ ap (λ (n : ℕ). if same_home c.in_ok-home.home h then Some (longer (chain_of old c.in_ok-home.home) (record { place = length c.as_slice.result.now; id = n })) else chain_of old h) c.id-2.ensures)
    (ap (λ (n : ℕ). hash.get nat_eq c.insert.new.self n) (sym c.id.ensures) ∙ c.in_ok-insert.ensures.updates.1)
    (λ q e. c.in_ok-insert.ensures.updates.2 q (ap (λ (n : ℕ). nat_eq n q) c.id.ensures ∙ e))
    new few ok

pub returns-in_err-reserve-clause-err : goal.returns-in_err-reserve-clause-err
returns-in_err-reserve-clause-err c = on_err _ _ (stays c.args.finder.now (record { tables = c.args.finder.now.tables; places = c.reserve.new.self; chains = c.args.finder.now.chains; ids = c.args.finder.now.ids }) c.args.rule.now
    (Grows-none c.args.finder.now.tables.list) c.in_err-reserve.ensures.items (λ h. refl) (λ q e. refl))

pub returns-in_err-home-clause-err : goal.returns-in_err-home-clause-err
returns-in_err-home-clause-err c = on_err _ _ (stays c.args.finder.now (record { tables = c.home_of.new.tables; places = c.reserve.new.self; chains = c.args.finder.now.chains; ids = c.args.finder.now.ids }) c.args.rule.now
    c.home_of.ensures.grows c.in_ok-reserve.ensures.items (λ h. refl) (λ q e. refl))

pub returns-in_err-insert-clause-err : goal.returns-in_err-insert-clause-err
returns-in_err-insert-clause-err c = on_err _ _ (stays c.args.finder.now (record { tables = c.home_of.new.tables; places = c.reserve.new.self; chains = c.args.finder.now.chains; ids = c.insert.new.self }) c.args.rule.now
    c.home_of.ensures.grows c.in_ok-reserve.ensures.items (λ h. refl) (λ q e. ap (lookup (nat_eq q)) c.in_err-insert.ensures.err))

pub returns-in_err-last-clause-err : goal.returns-in_err-last-clause-err
returns-in_err-last-clause-err c = on_err _ _ (stays c.args.finder.now (record { tables = c.home_of.new.tables; places = c.reserve.new.self; chains = c.note.new.chains; ids = c.insert.new.self }) c.args.rule.now
    c.home_of.ensures.grows c.in_ok-reserve.ensures.items c.in_err-last.ensures.err
    (λ q e. c.in_ok-insert.ensures.updates.2 q (ap (λ (n : ℕ). nat_eq n q) c.id.ensures ∙ e)))
