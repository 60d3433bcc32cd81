use Rattle.std.proofs.Common.{Some, sym, ap, ◌∙◌, true≢false}
use Rattle.slot_pool.proofs.Writes.{IsSound-put}
use Rattle.slot_pool.proofs.Views.{read_free, free_within, free_not_filled, pool_of-put, unchained-put, not_full, found-put, others-put}
use Rattle.slot_pool.proofs.pool.Pool.put.Goals as goal

pub unreachable-requires : goal.unreachable-requires
unreachable-requires g c =
    let sound = rw c.in-Some.is at c.self.invariant in
    let read = read_free _ _ _ _ sound.linked c.index_mut.ensures.value in
    free_not_filled _ _ _ _ sound.linked (read ∙ ap Some (sym c.replace.ensures.value ∙ c.in-Filled.is))

pub invariant_of-self : goal.invariant_of-self
invariant_of-self g c =
    let sound = rw c.in-Some.is at c.self.invariant in
    let found = read_free _ _ _ _ sound.linked c.index_mut.ensures.value ∙ ap Some (sym c.replace.ensures.value ∙ c.in-Free.is) in
    rw c.replace.ensures.after (IsSound-put _ _ _ _ c.args.value sound found)

pub returns-clause-full : goal.returns-clause-full
returns-clause-full g c =
    let sound = rw c.in-Some.is at c.self.invariant in
    let found = read_free _ _ _ _ sound.linked c.index_mut.ensures.value ∙ ap Some (sym c.replace.ensures.value ∙ c.in-Free.is) in
    (λ e. absurd (true≢false (sym e)), rw (← c.self.view_is) (λ full. absurd (not_full _ _ _ _ sound found full)))

pub returns-clause-put : goal.returns-clause-put
returns-clause-put g c =
    let sound = rw c.in-Some.is at c.self.invariant in
    let found = read_free _ _ _ _ sound.linked c.index_mut.ensures.value ∙ ap Some (sym c.replace.ensures.value ∙ c.in-Free.is) in
    rw (← c.self.view_is, c.replace.ensures.after) (pool_of-put _ _ _ _ c.args.value sound found)

pub returns-clause-place : goal.returns-clause-place
returns-clause-place g c =
    let sound = rw c.in-Some.is at c.self.invariant in
    rw (← c.self.view_is) (free_within _ _ _ sound.linked)

pub returns-clause-unchained : goal.returns-clause-unchained
returns-clause-unchained g c =
    let sound = rw c.in-Some.is at c.self.invariant in
    rw c.replace.ensures.after (unchained-put _ _ _ c.args.value (free_within _ _ _ sound.linked))

pub returns-clause-found : goal.returns-clause-found
returns-clause-found g c =
    let sound = rw c.in-Some.is at c.self.invariant in
    let found = read_free _ _ _ _ sound.linked c.index_mut.ensures.value ∙ ap Some (sym c.replace.ensures.value ∙ c.in-Free.is) in
    rw c.replace.ensures.after (found-put _ _ _ _ c.args.value sound found)

pub returns-clause-others : goal.returns-clause-others
returns-clause-others g c =
    let sound = rw c.in-Some.is at c.self.invariant in
    let found = read_free _ _ _ _ sound.linked c.index_mut.ensures.value ∙ ap Some (sym c.replace.ensures.value ∙ c.in-Free.is) in
    rw (← c.self.view_is, c.replace.ensures.after) (others-put _ _ _ _ c.args.value sound found)
