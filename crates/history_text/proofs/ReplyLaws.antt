-- Replies with one text are one reply.
use Rattle.std.proofs.Common.{◌≡◌, ◌≢◌, ℕ, ◌^◌, ◌<◌, Bool, true, false, List, [], ◌∷◌, ◌++◌, length, count_by, take, drop, get_or, codes, Option, Some, None, refl, sym, ap, ◌∙◌, subst, arith, rules, append_assoc, take-append-drop, lit≤, lit<}
use Rattle.std.proofs.lemmas.Option.{same_Some}
use Rattle.std.proofs.lemmas.List.Sums.{count_by-le-length}
use Rattle.std.proofs.NetLemmas.Options.{same_parts}
use Rattle.std.proofs.NetLemmas.Numbers.{NoDigit}
use Rattle.flow_rules.specs.declared.limits.Limits.{Limits}
use Rattle.flow_rules.specs.declared.fault.Cause.{Cause}
use Rattle.flow_rules.specs.declared.fault.Cause.TheVariants as causes
use Rattle.flow_calls.specs.declared.call.BadKind.TheVariants as bads
use Rattle.std.specs.List.{flat_map}
use Rattle.flow_calls.specs.declared.rows.ListRow.{ListRow}
use Rattle.history_text.specs.Rows.{row_text}
use Rattle.history_text.specs.Pulled.{is_outcome, letters_text}
use Rattle.flow_calls.specs.declared.reply.OpKind.TheVariants as opkinds
use Rattle.flow_calls.specs.declared.reply.Totals.{Totals}
use Rattle.flow_calls.specs.declared.reply.Reply.{Reply}
use Rattle.flow_calls.specs.declared.reply.Reply.TheVariants as replies
use Rattle.history_text.specs.declared.cause.FaultPlace.{FaultPlace}
use Rattle.history_text.specs.declared.cause.FaultPlace.TheVariants as places
use Rattle.history_text.specs.declared.kind.Kind.{Kind}
use Rattle.history_text.specs.declared.kind.Kind.TheVariants as kinds
use Rattle.history_text.specs.Forms.{form, filled}
use Rattle.history_text.specs.Causes.{told_of, place_numbers, number_in, refusal_form, refusal_numbers}
use Rattle.history_text.specs.Kinds.{kind_form, spell}
use Rattle.history_text.specs.KindRows.{kind_rows}
use Rattle.history_text.specs.Reading.{Fills, Ends, front_by}
use Rattle.history_text.specs.Replies.{behind_text, reply_text}
use Rattle.history_text.specs.Totals.{totals_text}
use Rattle.history_text.specs.Told.{PlaceIsTold, TotalsAreTold, RowsAreTold, ReplyIsTold}
use Rattle.history_text.proofs.KindLaws.{kind-back}
use Rattle.history_text.proofs.RowLaws.{rows-same}
use Rattle.history_text.proofs.PulledLaws.{letters-same}
use Rattle.history_text.proofs.Parts.{filled-same, listed, listed-same}

-- behind a text of a reply that ends in a number stands no digit
refusal-ends : (cause : Cause) (r : List ℕ) → Ends (form (refusal_form cause)) r
refusal-ends causes.GroupRange r = tt
refusal-ends cause r = tt

ends : (limits : Limits) (reply : Reply) (r : List ℕ) → Ends (form (kind_form (spell reply).kind)) (behind_text limits reply ++ 10 ∷ r)
ends limits (replies.Counted hits bytes) r = lit≤ tt
ends limits (replies.Fault fault) r = refusal-ends fault.cause (10 ∷ r)
ends limits (replies.Isolated true) r = tt
ends limits (replies.Isolated false) r = tt
ends limits (replies.Bad bads.Arguments) r = tt
ends limits (replies.Bad bads.Port) r = tt
ends limits (replies.Bad bads.NotStarted) r = tt
ends limits (replies.Bad bads.AlreadyStarted) r = tt
ends limits (replies.Enqueued opkinds.RuleCreate id) r = tt
ends limits (replies.Enqueued kind id) r = tt
ends limits reply r = tt

fault-fills : (cause : Cause) (at : ℕ) → at < 2 ^ 64 → Fills (form (refusal_form cause)) (refusal_numbers (record { cause = cause; at = at }))
fault-fills causes.TooManyItems at small = (lit< tt, (lit< tt, tt))
fault-fills causes.TooManyActions at small = (lit< tt, (lit< tt, tt))
fault-fills causes.GroupRange at small = (lit< tt, tt)
fault-fills cause at small = (lit< tt, search rules)

place-small : (place : FaultPlace) (at : ℕ) → PlaceIsTold place at → at < 2 ^ 64
place-small places.Nowhere at none = omega (arith, none)
place-small places.Item at small = small
place-small places.Action at small = small

count-small : (ok : Bool) (outcomes : List Bool) → length outcomes < 2 ^ 64 → count_by (is_outcome ok) outcomes < 2 ^ 64
count-small ok outcomes small = omega (arith, small, count_by-le-length (is_outcome ok) outcomes)

fills : (limits : Limits) (r : Reply) → ReplyIsTold limits r → Fills (form (kind_form (spell r).kind)) (spell r).numbers
fills limits (replies.Created id) told = (told, tt)
fills limits (replies.Destroyed id) told = (told, tt)
fills limits (replies.Counted hits bytes) told = (told.0, (told.1, tt))
fills limits (replies.IndirectCreated id) told = (told, tt)
fills limits (replies.IndirectUpdated id) told = (told, tt)
fills limits (replies.IndirectDestroyed id) told = (told, tt)
fills limits (replies.PatternTemplateCreated id) told = (told, tt)
fills limits (replies.PatternTemplateDestroyed id) told = (told, tt)
fills limits (replies.ActionsTemplateCreated id) told = (told, tt)
fills limits (replies.ActionsTemplateDestroyed id) told = (told, tt)
fills limits (replies.TableCreated id) told = (told, tt)
fills limits (replies.TableDestroyed id) told = (told, tt)
fills limits (replies.Configured queues size) told = (lit< tt, (told.0, (told.1, tt)))
fills limits (replies.Enqueued opkinds.RuleCreate id) told = (told, tt)
fills limits (replies.Enqueued kind id) told = (told, tt)
fills limits (replies.Pushed queue) told = (told, tt)
fills limits (replies.Pulled queue outcomes) told =
    (told.0, (told.1, (count-small false outcomes told.1, (count-small true outcomes told.1, tt))))
fills limits (replies.Listed rows) told = tt
fills limits (replies.Isolated true) told = tt
fills limits (replies.Isolated false) told = tt
fills limits (replies.Stopped totals) told = tt
fills limits (replies.Bad bads.Arguments) told = tt
fills limits (replies.Bad bads.Port) told = tt
fills limits (replies.Bad bads.NotStarted) told = tt
fills limits (replies.Bad bads.AlreadyStarted) told = tt
fills limits (replies.Fault fault) told = fault-fills fault.cause fault.at (place-small (told_of fault.cause).place fault.at told)
fills limits r told = tt

-- the reply of a text and its numbers, where no list stands behind
abbrev first : List ℕ → ℕ
first [] = 0
first (n ∷ ns) = n

abbrev rest : List ℕ → List ℕ
rest [] = []
rest (n ∷ ns) = ns

abbrev place_in : FaultPlace → List ℕ → ℕ
place_in places.Nowhere ns = 0
place_in places.Item ns = first ns
place_in places.Action ns = first ns

abbrev unspelled : Kind → List ℕ → Option Reply
unspelled kinds.Validated ns = Some replies.Validated
unspelled kinds.Created ns = Some (replies.Created (first ns))
unspelled kinds.Destroyed ns = Some (replies.Destroyed (first ns))
unspelled kinds.Flushed ns = Some replies.Flushed
unspelled kinds.Counted ns = Some (replies.Counted (first ns) (first (rest ns)))
unspelled kinds.Listed ns = None
unspelled (kinds.Isolated on) ns = Some (replies.Isolated on)
unspelled kinds.IndirectCreated ns = Some (replies.IndirectCreated (first ns))
unspelled kinds.IndirectUpdated ns = Some (replies.IndirectUpdated (first ns))
unspelled kinds.IndirectDestroyed ns = Some (replies.IndirectDestroyed (first ns))
unspelled kinds.PatternTemplateCreated ns = Some (replies.PatternTemplateCreated (first ns))
unspelled kinds.PatternTemplateDestroyed ns = Some (replies.PatternTemplateDestroyed (first ns))
unspelled kinds.ActionsTemplateCreated ns = Some (replies.ActionsTemplateCreated (first ns))
unspelled kinds.ActionsTemplateDestroyed ns = Some (replies.ActionsTemplateDestroyed (first ns))
unspelled kinds.TableCreated ns = Some (replies.TableCreated (first ns))
unspelled kinds.TableDestroyed ns = Some (replies.TableDestroyed (first ns))
unspelled kinds.Configured ns = Some (replies.Configured (first (rest ns)) (first (rest (rest ns))))
unspelled (kinds.Enqueued kind) ns = Some (replies.Enqueued kind (first ns))
unspelled kinds.Pushed ns = Some (replies.Pushed (first ns))
unspelled kinds.Pulled ns = None
unspelled kinds.Started ns = Some replies.Started
unspelled kinds.Stopped ns = None
unspelled kinds.Bye ns = Some replies.Bye
unspelled (kinds.Bad kind) ns = Some (replies.Bad kind)
unspelled (kinds.Refused cause) ns = Some (replies.Fault (record { cause = cause; at = place_in (told_of cause).place (rest ns) }))

abbrev IsPlain : Kind → Type 0
IsPlain kinds.Listed = ⊥
IsPlain kinds.Stopped = ⊥
IsPlain kinds.Pulled = ⊥
IsPlain kind = Unit

place-back : (place : FaultPlace) (at : ℕ) (own : List ℕ) → PlaceIsTold place at → place_in place (place_numbers place at ++ own) ≡ at
place-back places.Nowhere at own none = sym none
place-back places.Item at own small = refl
place-back places.Action at own small = refl

unspelled-back : (limits : Limits) (r : Reply) → ReplyIsTold limits r → IsPlain (spell r).kind → unspelled (spell r).kind (spell r).numbers ≡ Some r
unspelled-back limits (replies.Listed rows) told plain = absurd plain
unspelled-back limits (replies.Stopped totals) told plain = absurd plain
unspelled-back limits (replies.Pulled queue outcomes) told plain = absurd plain
unspelled-back limits (replies.Fault fault) told plain =
    let told_cause = told_of fault.cause in
    ap (λ at. Some (replies.Fault (record { cause = fault.cause; at = at }))) (place-back told_cause.place fault.at (number_in told_cause.number) told)
unspelled-back limits r told plain = refl

plain-behind : (limits : Limits) (r : Reply) → IsPlain (spell r).kind → behind_text limits r ≡ []
plain-behind limits (replies.Listed rows) plain = absurd plain
plain-behind limits (replies.Stopped totals) plain = absurd plain
plain-behind limits (replies.Pulled queue outcomes) plain = absurd plain
plain-behind limits r plain = refl

-- totals with one text
totals-is : (t u : Totals) → t.received ≡ u.received → t.dropped ≡ u.dropped → t.queues ≡ u.queues → t ≡ u
totals-is t u p q r =
    ap (λ x. record { received = x; dropped = t.dropped; queues = t.queues }) p ∙ ap (λ x. record { received = u.received; dropped = x; queues = t.queues }) q
    ∙ ap (λ x. record { received = u.received; dropped = u.dropped; queues = x }) r

pub totals-same : (limits : Limits) (t u : Totals) (r s : List ℕ) → TotalsAreTold limits t → TotalsAreTold limits u → NoDigit 10 r → NoDigit 10 s → get_or r 0 0 ≢ 44 → get_or s 0 0 ≢ 44
    → totals_text limits t ++ r ≡ totals_text limits u ++ s → (t ≡ u) × (r ≡ s)
totals-same limits t u r s told told' stop stop' end end' e =
    let front = codes "received 0 dropped 0 queues " in
    let mine = listed (take limits.rxq t.queues) in
    let yours = listed (take limits.rxq u.queues) in
    let (counts, lists) = filled-same front (t.received ∷ t.dropped ∷ []) (u.received ∷ u.dropped ∷ []) (mine ++ r) (yours ++ s) refl
    (told.received, (told.dropped, tt)) (told'.received, (told'.dropped, tt)) tt tt
    (sym (append_assoc (filled front (t.received ∷ t.dropped ∷ [])) mine r) ∙ e ∙ append_assoc (filled front (u.received ∷ u.dropped ∷ [])) yours s) in
    let (queues, rests) = listed-same (take limits.rxq t.queues) (take limits.rxq u.queues) r s told.queues told'.queues stop stop' end end' lists in
    let all : t.queues ≡ u.queues = sym (take-append-drop limits.rxq t.queues) ∙ ap (λ l. l ++ drop limits.rxq t.queues) queues
    ∙ ap (λ l. take limits.rxq u.queues ++ l) (told.others ∙ sym told'.others) ∙ take-append-drop limits.rxq u.queues in
    (totals-is t u (ap first counts) (ap (λ l. first (rest l)) counts) all, rests)

abbrev IsStopped : Kind → Type 0
IsStopped kinds.Stopped = Unit
IsStopped kind = ⊥

stopped-same : (limits : Limits) (t : Totals) (other : Reply) (r s : List ℕ) → TotalsAreTold limits t → ReplyIsTold limits other
    → kinds.Stopped ≡ (spell other).kind → totals_text limits t ++ 10 ∷ r ≡ behind_text limits other ++ 10 ∷ s → (replies.Stopped t ≡ other) × (r ≡ s)
stopped-same limits t (replies.Stopped u) r s told told' kind e =
    let (same, rests) = totals-same limits t u (10 ∷ r) (10 ∷ s) told told' (lit≤ tt) (lit≤ tt) (λ is. omega (arith, is)) (λ is. omega (arith, is)) e in
    (ap replies.Stopped same, ap (drop 1) rests)
stopped-same limits t other r s told told' kind e = absurd (subst IsStopped kind tt)

abbrev IsListed : Kind → Type 0
IsListed kinds.Listed = Unit
IsListed kind = ⊥

listed-rows-same : (limits : Limits) (rows : List ListRow) (other : Reply) (r s : List ℕ) → RowsAreTold rows → ReplyIsTold limits other → NoDigit 10 r → NoDigit 10 s
    → kinds.Listed ≡ (spell other).kind → flat_map row_text rows ++ 10 ∷ r ≡ behind_text limits other ++ 10 ∷ s → (replies.Listed rows ≡ other) × (r ≡ s)
listed-rows-same limits rows (replies.Listed others) r s told told' stop stop' kind e =
    let (same, rests) = rows-same rows others r s told told' stop stop' e in
    (ap replies.Listed same, rests)
listed-rows-same limits rows other r s told told' stop stop' kind e = absurd (subst IsListed kind tt)

abbrev IsPulled : Kind → Type 0
IsPulled kinds.Pulled = Unit
IsPulled kind = ⊥

pulled-same : (limits : Limits) (queue : ℕ) (outcomes : List Bool) (other : Reply) (r s : List ℕ) → kinds.Pulled ≡ (spell other).kind
    → (spell (replies.Pulled queue outcomes)).numbers ≡ (spell other).numbers → letters_text outcomes ++ 10 ∷ r ≡ behind_text limits other ++ 10 ∷ s
    → (replies.Pulled queue outcomes ≡ other) × (r ≡ s)
pulled-same limits queue outcomes (replies.Pulled queue' outcomes') r s kind numbers e =
    let (same, rests) = letters-same outcomes outcomes' (10 ∷ r) (10 ∷ s) e in
    (ap (λ q. replies.Pulled q outcomes) (ap first numbers) ∙ ap (replies.Pulled queue') same, ap (drop 1) rests)
pulled-same limits queue outcomes other r s kind numbers e = absurd (subst IsPulled kind tt)

plain-same : (limits : Limits) (a b : Reply) (r s : List ℕ) → ReplyIsTold limits a → ReplyIsTold limits b → IsPlain (spell a).kind
    → (spell a).kind ≡ (spell b).kind → (spell a).numbers ≡ (spell b).numbers → behind_text limits a ++ r ≡ behind_text limits b ++ s → (a ≡ b) × (r ≡ s)
plain-same limits a b r s told told' plain kind numbers e =
    let plain' = subst IsPlain kind plain in
    let same = sym (unspelled-back limits a told plain) ∙ ap (λ k. unspelled k (spell a).numbers) kind ∙ ap (unspelled (spell b).kind) numbers
    ∙ unspelled-back limits b told' plain' in
    (same_Some _ _ same, sym (ap (λ l. l ++ r) (plain-behind limits a plain)) ∙ e ∙ ap (λ l. l ++ s) (plain-behind limits b plain'))

behind-same : (limits : Limits) (a b : Reply) (r s : List ℕ) → ReplyIsTold limits a → ReplyIsTold limits b → NoDigit 10 r → NoDigit 10 s
    → (spell a).kind ≡ (spell b).kind → (spell a).numbers ≡ (spell b).numbers → behind_text limits a ++ 10 ∷ r ≡ behind_text limits b ++ 10 ∷ s → (a ≡ b) × (r ≡ s)
behind-same limits (replies.Listed rows) b r s told told' stop stop' kind numbers e = listed-rows-same limits rows b r s told told' stop stop' kind e
behind-same limits (replies.Stopped totals) b r s told told' stop stop' kind numbers e = stopped-same limits totals b r s told told' kind e
behind-same limits (replies.Pulled queue outcomes) b r s told told' stop stop' kind numbers e = pulled-same limits queue outcomes b r s kind numbers e
behind-same limits a b r s told told' stop stop' kind numbers e =
    let (same, rests) = plain-same limits a b (10 ∷ r) (10 ∷ s) told told' tt kind numbers e in
    (same, ap (drop 1) rests)

-- replies whose texts begin one text, each to the end of its line, are one reply, and what stands behind is one text
pub reply-same : (limits : Limits) (a b : Reply) (r s : List ℕ) → ReplyIsTold limits a → ReplyIsTold limits b → NoDigit 10 r → NoDigit 10 s
    → reply_text limits a ++ 10 ∷ r ≡ reply_text limits b ++ 10 ∷ s → (a ≡ b) × (r ≡ s)
reply-same limits a b r s told told' stop stop' e =
    let mine = filled (kind_form (spell a).kind) (spell a).numbers in
    let yours = filled (kind_form (spell b).kind) (spell b).numbers in
    let text = sym (append_assoc mine (behind_text limits a) (10 ∷ r)) ∙ e ∙ append_assoc yours (behind_text limits b) (10 ∷ s) in
    let (kind, rests) = same_parts ((spell a).kind, (spell a).numbers) ((spell b).kind, (spell b).numbers) (behind_text limits a ++ 10 ∷ r) (behind_text limits b ++ 10 ∷ s)
    (sym (kind-back (spell a).kind (spell a).numbers _ (fills limits a told) (ends limits a r)) ∙ ap (front_by kind_rows) text
    ∙ kind-back (spell b).kind (spell b).numbers _ (fills limits b told') (ends limits b s)) in
    behind-same limits a b r s told told' stop stop' (ap (λ p. p.0) kind) (ap (λ p. p.1) kind) rests

pub reply-text-same : (limits : Limits) (a b : Reply) → ReplyIsTold limits a → ReplyIsTold limits b → reply_text limits a ≡ reply_text limits b → a ≡ b
reply-text-same limits a b told told' e = (reply-same limits a b [] [] told told' (lit≤ tt) (lit≤ tt) (ap (λ t. t ++ 10 ∷ []) e)).0
