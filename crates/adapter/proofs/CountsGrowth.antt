-- What counters stand at behind one more entry.
use Rattle.std.proofs.Common.{◌≡◌, List, [], ◌∷◌, ◌++◌, fold, refl, ap, ◌∙◌}
use Rattle.std.proofs.lemmas.List.Sums.{fold-append}
use Rattle.flow_rules.specs.declared.limits.Limits.{Limits}
use Rattle.flow_rules.specs.declared.counter.Counter.{Counter}
use Rattle.flow_calls.specs.declared.entry.Entry.{Entry}
use Rattle.port_state.specs.State.{state_of, state_behind, opening}
use Rattle.port_state.specs.Counters.{Counting, count_of, count_behind, counting_behind, zero_count}

state-counting : (limits : Limits) (c : Counter) (at : Counting) (h : List Entry) → (fold (counting_behind limits c) at h).state ≡ fold (state_behind limits) at.state h
state-counting limits c at [] = refl
state-counting limits c at (e ∷ h) = state-counting limits c (counting_behind limits c at e) h

pub count_of-nil : (limits : Limits) (c : Counter) → count_of limits [] c ≡ zero_count
unfolding count_of
count_of-nil limits c = refl

pub count_of-push : (limits : Limits) (h : List Entry) (e : Entry) (c : Counter)
    → count_of limits (h ++ e ∷ []) c ≡ count_behind limits (state_of limits h) c (count_of limits h c) e
unfolding count_of state_of
count_of-push limits h e c =
    let start : Counting = record { state = opening limits; count = zero_count } in
    let before = fold (counting_behind limits c) start h in
    ap (λ (at : Counting). at.count) (fold-append (counting_behind limits c) start h (e ∷ []))
    ∙ ap (λ s. count_behind limits s c before.count e) (state-counting limits c start h)
