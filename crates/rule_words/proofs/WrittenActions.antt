-- Actions that are written as the grammar says are read so, and what is read was written so.
use Rattle.std.proofs.Common.{◌≡◌, ℕ, ◌≤◌, false, true, cond, List, [], ◌∷◌, ◌++◌, length, codes, None, Some, refl, arith, sym, subst, ap, ◌∙◌}
use Rattle.std.specs.Option.{option_and_then, option_map}
use Rattle.std.specs.Str.{bytes_eq}
use Rattle.std.proofs.lemmas.Slice.Eq.{bytes_eq-Decides}
use Rattle.flow_actions.specs.declared.action.Action.{Action}
use Rattle.flow_actions.specs.declared.action.Action.TheVariants as actions
use Rattle.flow_actions.specs.declared.action.ActionKind.{ActionKind}
use Rattle.flow_actions.specs.declared.action.ActionKind.TheVariants as kinds
use Rattle.flow_actions.specs.declared.action.Actions.{Actions}
use Rattle.flow_actions.specs.declared.rss.Rss.{Rss}
use Rattle.flow_actions.specs.Kinds.{kind_of}
use Rattle.rule_words.specs.Vocabulary.{meaning_of}
use Rattle.rule_words.specs.Number.{number_of_bits}
use Rattle.rule_words.specs.Turns.{up_to}
use Rattle.rule_words.specs.RssLists.{all_types, list_words, rss_setting}
use Rattle.rule_words.specs.Actions.{words, with_value, with_word, value_setting, setting, with_action, begun, action_of, action_behind}
use Rattle.rule_words.specs.Written.{words_up_to, made_by, alone, list_with, WrittenSetting, Value, Listed, setting_words, action_with, WrittenAction, Named, Shared, action_words, action_of_kind, action_said, actions_with}
use Rattle.rule_words.proofs.WrittenLists.{rss-read, rss-only}
use Rattle.rule_words.proofs.TurnsWritten.{on_some, on_map, is_false, up_to-read, turns-only}

-- `end` begins no action, and `/` stands in front of no value
end-action : (kind : ActionKind) (word : List ℕ) → meaning_of words word ≡ Some kind → bytes_eq word (codes "end") ≡ false
end-action kind word is = is_false (bytes_eq word (codes "end")) (λ same.
    let none : meaning_of words (codes "end") ≡ Some kind = ap (meaning_of words) (sym ((bytes_eq-Decides word (codes "end")).0 same)) ∙ is in cc)

no_slash : (kind : ActionKind) (value : List ℕ) → with_word kind (codes "/") value ≡ None
no_slash kinds.Void value = refl
no_slash kind value = refl

-- a value or a list
setting-begins : (a b : Action) (s : WrittenSetting) → action_with a s ≡ Some b → (word : List ℕ) × (others : List (List ℕ)) × (setting_words s ≡ word ∷ others) × (bytes_eq word (codes "/") ≡ false)
setting-begins (actions.Rss rss) b (Listed name listed) is = (
  name,
  words_up_to (codes "end") alone listed,
  refl,
  is_false (bytes_eq name (codes "/")) (λ same.
      let none : None ≡ Some b = ap (λ n. option_map actions.Rss (option_and_then (list_with rss listed) (meaning_of list_words n))) (sym ((bytes_eq-Decides name (codes "/")).0 same)) ∙ is in cc),
)
setting-begins a b (Listed name listed) is = absurd cc
setting-begins a b (Value name value) is = (
  name,
  value ∷ [],
  refl,
  is_false (bytes_eq name (codes "/")) (λ same.
      let none : None ≡ Some b = sym (no_slash (kind_of a) value) ∙ ap (λ n. with_word (kind_of a) n value) (sym ((bytes_eq-Decides name (codes "/")).0 same)) ∙ is in cc),
)

setting-read : (a b : Action) (s : WrittenSetting) (rest : List (List ℕ)) → action_with a s ≡ Some b → setting a (setting_words s ++ rest) ≡ Some (b, rest)
setting-read (actions.Rss rss) b (Value name value) rest is = absurd cc
setting-read a b (Value name value) rest is = ap (option_map (λ after. (after, rest))) is
setting-read (actions.Rss rss) b (Listed name listed) rest is =
    let after = on_map (option_and_then (list_with rss listed) (meaning_of list_words name)) actions.Rss b is in
    ap (option_map (λ (read : Rss × List (List ℕ)). (actions.Rss read.0, read.1))) (rss-read rss after.0 name listed rest after.1) ∙ ap (λ a. Some (a, rest)) after.2
setting-read a b (Listed name listed) rest is = absurd cc

value-only : (a b : Action) (given rest : List (List ℕ)) → value_setting (kind_of a) given ≡ Some (b, rest) → (s : WrittenSetting) × (given ≡ setting_words s ++ rest) × (action_with a s ≡ Some b)
value-only a b [] rest is = absurd cc
value-only a b (name ∷ []) rest is = absurd cc
value-only a b (name ∷ value ∷ others) rest is =
    let after = on_map (with_word (kind_of a) name value) (λ after. (after, others)) (b, rest) is in
    (Value name value, ap (λ (p : Action × List (List ℕ)). name ∷ value ∷ p.1) after.2, after.1 ∙ ap (λ (p : Action × List (List ℕ)). Some p.0) after.2)

setting-only : (a b : Action) (given rest : List (List ℕ)) → setting a given ≡ Some (b, rest) → (s : WrittenSetting) × (given ≡ setting_words s ++ rest) × (action_with a s ≡ Some b)
setting-only (actions.Rss rss) b [] rest is = absurd cc
setting-only (actions.Rss rss) b (name ∷ others) rest is =
    let read = on_map (rss_setting rss (name ∷ others)) (λ read. (actions.Rss read.0, read.1)) (b, rest) is in
    let listed = rss-only rss read.0.0 name others read.0.1 read.1 in (
      Listed name listed.0,
      ap (λ ws. name ∷ ws) (listed.1 ∙ ap (λ (p : Action × List (List ℕ)). words_up_to (codes "end") alone listed.0 ++ p.1) read.2),
      ap (option_map actions.Rss) listed.2 ∙ ap (λ (p : Action × List (List ℕ)). Some p.0) read.2,
    )
setting-only a b given rest is = value-only a b given rest is

-- an action
some_words : (s : WrittenSetting) → 1 ≤ length (setting_words s)
some_words (Value name value) = omega arith
some_words (Listed name listed) = omega arith

-- the word of an action that is named by its word alone
unshared : (k : ActionKind) (a : Action) (rest : List (List ℕ)) → action_of_kind k ≡ Some a → begun all_types k rest ≡ Some (a, rest)
unshared kinds.Indirect a rest is = absurd cc
unshared k a rest is = ap (option_map (λ b. (b, rest))) is

-- a row of a table stands behind what its word means
abbrev EachRow : {X : Type 0} → (List ℕ → X → Type 0) → List (List ℕ × X) → Type 0
EachRow P [] = Unit
EachRow P (row ∷ rows) = P row.0 row.1 × EachRow P rows

row-of : {X : Type 0} (P : List ℕ → X → Type 0) (rows : List (List ℕ × X)) (word : List ℕ) (x : X) → EachRow P rows → meaning_of rows word ≡ Some x → P word x
row-of P [] word x each is = absurd cc
row-of P (row ∷ rows) word x each is =
    elim (bytes_eq row.0 word) as (λ t. bytes_eq row.0 word ≡ t → cond t (Some row.1) (meaning_of rows word) ≡ Some x → P word x) [
      | true ↦ λ same e.
          let meant : row.1 ≡ x = cc in
          let name : row.0 ≡ word = (bytes_eq-Decides row.0 word).0 same in
          subst (λ w. P w x) name (subst (P row.0) meant each.0)
      | false ↦ λ other e. row-of P rows word x each.1 e
    ] refl is

-- `indirect` is the word of an action that rules share, and of no other
abbrev IsIndirect : List ℕ → ActionKind → Type 0
IsIndirect word kinds.Indirect = word ≡ codes "indirect"
IsIndirect word k = Unit

indirect-word : (word : List ℕ) → meaning_of words word ≡ Some kinds.Indirect → word ≡ codes "indirect"
indirect-word word is = row-of IsIndirect words word kinds.Indirect (tt, (tt, (tt, (tt, (tt, (tt, (tt, (refl, (tt, (tt, (tt, (tt, (tt, (tt, (tt, (tt, (tt, (tt, (tt, tt))))))))))))))))))) is

pub action-read : (w : WrittenAction) (a : Action) (rest : List (List ℕ)) → action_said w ≡ Some a → action_of (action_words w ++ rest) ≡ Some (a, rest)
action-read (Named word settings) a rest is =
    let k = on_some (meaning_of words word) (λ k. option_and_then (λ a. made_by action_with a settings) (action_of_kind k)) a is in
    let begins = on_some (action_of_kind k.0) (λ a. made_by action_with a settings) a k.2 in
    let others = words_up_to (codes "/") setting_words settings ++ rest in
    ap (option_and_then (λ k. option_and_then (λ front. up_to (codes "/") setting front.0 front.1) (begun all_types k others))) k.1
    ∙ ap (option_and_then (λ (front : Action × List (List ℕ)). up_to (codes "/") setting front.0 front.1)) (unshared k.0 begins.0 others begins.1)
    ∙ up_to-read (codes "/") setting setting_words action_with some_words setting-read setting-begins settings begins.0 a rest begins.2
action-read (Shared id) a rest is =
    let n = on_map (number_of_bits 16 id) actions.Indirect a is in
    let others = codes "/" ∷ rest in
    ap (λ o. option_and_then (λ (front : Action × List (List ℕ)). up_to (codes "/") setting front.0 front.1)
    (option_map {T = ℕ × List (List ℕ)} (λ read. (actions.Indirect read.0, read.1)) (option_map (λ n. (n, others)) o))) n.1
    ∙ ap (λ b. Some (b, rest)) n.2

-- nothing stands inside an action that rules share
inside-shared : (n : ℕ) (a : Action) (settings : List WrittenSetting) → made_by action_with (actions.Indirect n) settings ≡ Some a → (settings ≡ []) × (actions.Indirect n ≡ a)
inside-shared n a [] is = (refl, cc)
inside-shared n a (Value name value ∷ settings) is = absurd cc
inside-shared n a (Listed name listed ∷ settings) is = absurd cc

-- an action of a kind, from what follows its word
only-of : (k : ActionKind) (word : List ℕ) (others : List (List ℕ)) (begins a : Action) (inside rest : List (List ℕ)) → meaning_of words word ≡ Some k
    → begun all_types k others ≡ Some (begins, inside) → (settings : List WrittenSetting) → inside ≡ words_up_to (codes "/") setting_words settings ++ rest
    → made_by action_with begins settings ≡ Some a
    → (w : WrittenAction) × (word ∷ others ≡ action_words w ++ rest) × (action_said w ≡ Some a)
only-of kinds.Indirect word [] begins a inside rest is front settings written made = absurd cc
only-of kinds.Indirect word (id ∷ others) begins a inside rest is front settings written made =
    let read = on_map (option_map (λ n. (n, others)) (number_of_bits 16 id)) (λ (read : ℕ × List (List ℕ)). (actions.Indirect read.0, read.1)) (begins, inside) front in
    let n = on_map (number_of_bits 16 id) (λ n. (n, others)) read.0 read.1 in
    let begun_with : actions.Indirect n.0 ≡ begins = ap (λ (r : ℕ × List (List ℕ)). actions.Indirect r.0) n.2 ∙ ap (λ (p : Action × List (List ℕ)). p.0) read.2 in
    let behind : others ≡ inside = ap (λ (r : ℕ × List (List ℕ)). r.1) n.2 ∙ ap (λ (p : Action × List (List ℕ)). p.1) read.2 in
    let none = inside-shared n.0 a settings (ap (λ b. made_by action_with b settings) begun_with ∙ made) in (
      Shared id,
      ap (λ w. w ∷ id ∷ others) (indirect-word word is)
          ∙ ap (λ ws. codes "indirect" ∷ id ∷ ws) (behind ∙ written ∙ ap (λ s. words_up_to (codes "/") setting_words s ++ rest) none.0),
      ap (option_map actions.Indirect) n.1 ∙ ap (λ b. Some b) none.1,
    )
only-of k word others begins a inside rest is front settings written made =
    let same : ◌≡◌ {A = Action × List (List ℕ)} (with_value k 0, others) (begins, inside) = cc in (
      Named word settings,
      ap (λ ws. word ∷ ws) (ap (λ (p : Action × List (List ℕ)). p.1) same ∙ written),
      ap (option_and_then (λ k. option_and_then (λ b. made_by action_with b settings) (action_of_kind k))) is
          ∙ ap (λ (p : Action × List (List ℕ)). made_by action_with p.0 settings) same ∙ made,
    )

pub action-only : (a : Action) (given rest : List (List ℕ)) → action_of given ≡ Some (a, rest) → (w : WrittenAction) × (given ≡ action_words w ++ rest) × (action_said w ≡ Some a)
action-only a [] rest is = absurd cc
action-only a (word ∷ others) rest is =
    let k = on_some (meaning_of words word) (λ k. option_and_then (λ front. up_to (codes "/") setting front.0 front.1) (begun all_types k others)) (a, rest) is in
    let front = on_some (begun all_types k.0 others) (λ (front : Action × List (List ℕ)). up_to (codes "/") setting front.0 front.1) (a, rest) k.2 in
    let settings = turns-only (codes "/") setting setting_words action_with setting-only front.0.1 front.0.0 a front.0.1 rest front.2 in
    only-of k.0 word others front.0.0 a front.0.1 rest k.1 front.1 settings.0 settings.1 settings.2

-- one more action
one-read : (a b : Actions) (w : WrittenAction) (rest : List (List ℕ)) → actions_with a w ≡ Some b → action_behind a (action_words w ++ rest) ≡ Some (b, rest)
one-read a b w rest is =
    let said = on_map (action_said w) (with_action a) b is in
    ap (option_map (λ (read : Action × List (List ℕ)). (with_action a read.0, read.1))) (action-read w said.0 rest said.1) ∙ ap (λ p. Some (p, rest)) said.2

one-begins : (a b : Actions) (w : WrittenAction) → actions_with a w ≡ Some b → (word : List ℕ) × (others : List (List ℕ)) × (action_words w ≡ word ∷ others) × (bytes_eq word (codes "end") ≡ false)
one-begins a b (Named word settings) is =
    let said = on_map (action_said (Named word settings)) (with_action a) b is in
    let k = on_some (meaning_of words word) (λ k. option_and_then (λ a. made_by action_with a settings) (action_of_kind k)) said.0 said.1 in
    (word, words_up_to (codes "/") setting_words settings, refl, end-action k.0 word k.1)
one-begins a b (Shared id) is = (codes "indirect", id ∷ codes "/" ∷ [], refl, refl)

one-only : (a b : Actions) (given rest : List (List ℕ)) → action_behind a given ≡ Some (b, rest) → (w : WrittenAction) × (given ≡ action_words w ++ rest) × (actions_with a w ≡ Some b)
one-only a b given rest is =
    let read = on_map (action_of given) (λ (read : Action × List (List ℕ)). (with_action a read.0, read.1)) (b, rest) is in
    let w = action-only read.0.0 given read.0.1 read.1 in (
      w.0,
      w.1 ∙ ap (λ (p : Actions × List (List ℕ)). action_words w.0 ++ p.1) read.2,
      ap (option_map (with_action a)) w.2 ∙ ap (λ (p : Actions × List (List ℕ)). Some p.0) read.2,
    )

some_action_words : (w : WrittenAction) → 1 ≤ length (action_words w)
some_action_words (Named word settings) = omega arith
some_action_words (Shared id) = omega arith

-- actions, and their `end`
pub actions-read : (actions : List WrittenAction) (a b : Actions) (rest : List (List ℕ)) → made_by actions_with a actions ≡ Some b
    → up_to (codes "end") action_behind a (words_up_to (codes "end") action_words actions ++ rest) ≡ Some (b, rest)
actions-read actions a b rest is = up_to-read (codes "end") action_behind action_words actions_with some_action_words one-read one-begins actions a b rest is

pub actions-only : (a b : Actions) (given rest : List (List ℕ)) → up_to (codes "end") action_behind a given ≡ Some (b, rest)
    → (actions : List WrittenAction) × (given ≡ words_up_to (codes "end") action_words actions ++ rest) × (made_by actions_with a actions ≡ Some b)
actions-only a b given rest is = turns-only (codes "end") action_behind action_words actions_with one-only given a b given rest is
