use Rattle.std.proofs.Common.{◌≡◌, refl, ap, ◌∙◌, map, List, [], ◌∷◌, Bor}
use Rattle.std.specs.Prelude.{Result, Ok, Err, IfOk}
use Rattle.rules_in_effect.specs.declared.in_effect.InEffect.{InEffect}
use Rattle.flow_calls.specs.declared.rows.ListRow.{ListRow}
use Rattle.flow_calls.specs.Rows.{row_of}
use Rattle.port_state.specs.Reply.{row_in}
use Rattle.port_state.specs.KeptState.{KeptState, placed}
use Rattle.port_state.proofs.state.State.list.Goals as goal

-- rows of lent entries are those of the rules of the state
rows-lent : (lent : List (Bor InEffect)) → map (λ (entry : Bor InEffect). row_of entry.now.rule) lent ≡ map row_in (map placed (map (λ (entry : Bor InEffect). entry.now) lent))
rows-lent [] = refl
rows-lent (entry ∷ lent) = ap (λ rows. row_of entry.now.rule ∷ rows) (rows-lent lent)

at-ok : {E : Type 0} (r : Result (List ListRow) E) (a b : List ListRow) → a ≡ b → IfOk r (λ x. x ≡ a) → IfOk r (λ x. x ≡ b)
at-ok (Ok x) a b same is = is ∙ same
at-ok (Err e) a b same is = is

pub returns : goal.returns
returns c =
    at-ok c.list_of.result _ _
    (ap (map (λ (entry : Bor InEffect). row_of entry.now.rule)) c.as_slice.ensures.value ∙ rows-lent c.in_ok-rules.rules.items
    ∙ ap (λ (list : List InEffect). map row_in (map placed list)) c.in_ok-rules.ensures ∙ ap (λ (k : KeptState). map row_in (map placed k.rules)) c.self.view_is)
    c.list_of.ensures
