-- What a text can tell: numbers of at most 64 bits, and nothing where it has no word for it.
use Rattle.std.specs.Prelude.{◌≡◌, ℕ, ◌<◌, ◌^◌, List, [], ◌∷◌, length, take, drop, Option, None, Some}
use Rattle.std.specs.List.{repeat}
use Rattle.flow_actions.specs.declared.verdict.Fate.{Fate}
use Rattle.flow_actions.specs.declared.verdict.Fate.TheVariants as fates
use Rattle.flow_actions.specs.declared.verdict.Verdict.{Verdict}
use Rattle.flow_rules.specs.declared.limits.Limits.{Limits}
use Rattle.flow_calls.specs.declared.rows.ListRow.{ListRow}
use Rattle.flow_calls.specs.declared.reply.Totals.{Totals}
use Rattle.flow_calls.specs.declared.reply.Reply.{Reply}
use Rattle.flow_calls.specs.declared.reply.Reply.TheVariants as replies
use Rattle.history_text.specs.declared.cause.FaultPlace.{FaultPlace}
use Rattle.history_text.specs.declared.cause.FaultPlace.TheVariants as places
use Rattle.flow_calls.specs.declared.entry.Entry.{Entry}
use Rattle.flow_calls.specs.declared.entry.Entry.TheVariants.{Asked, Passed}
use Rattle.flow_calls.specs.Totals.{totals_of}
use Rattle.history_text.specs.declared.ending.Ending.{Ending}
use Rattle.history_text.specs.declared.ending.Ending.TheVariants as endings
use Rattle.history_text.specs.Causes.{told_of}

abbrev pub AllU64 : List ℕ → Type 0
AllU64 [] = Unit
AllU64 (n ∷ ns) = (n < 2 ^ 64) × AllU64 ns

-- a refusal has a place where its cause names one
abbrev pub PlaceIsTold : FaultPlace → ℕ → Type 0
PlaceIsTold places.Nowhere at = at ≡ 0
PlaceIsTold places.Item at = at < 2 ^ 64
PlaceIsTold places.Action at = at < 2 ^ 64

-- no frame went to a queue that the port hasn't
pub record TotalsAreTold (limits : Limits) (totals : Totals) : Type 0 where
  pub received : totals.received < 2 ^ 64
  pub dropped : totals.dropped < 2 ^ 64
  pub queues : AllU64 (take limits.rxq totals.queues)
  pub others : drop limits.rxq totals.queues ≡ drop limits.rxq (repeat 16 (0 ∷ []))

pub record RowIsTold (row : ListRow) : Type 0 where
  pub id : row.id < 2 ^ 64
  pub group : row.group < 2 ^ 64
  pub priority : row.priority < 2 ^ 64

abbrev pub RowsAreTold : List ListRow → Type 0
RowsAreTold [] = Unit
RowsAreTold (row ∷ rows) = RowIsTold row × RowsAreTold rows

abbrev pub ReplyIsTold : Limits → Reply → Type 0
ReplyIsTold limits (replies.Created id) = id < 2 ^ 64
ReplyIsTold limits (replies.Destroyed id) = id < 2 ^ 64
ReplyIsTold limits (replies.Counted hits bytes) = (hits < 2 ^ 64) × (bytes < 2 ^ 64)
ReplyIsTold limits (replies.Listed rows) = RowsAreTold rows
ReplyIsTold limits (replies.IndirectCreated id) = id < 2 ^ 64
ReplyIsTold limits (replies.IndirectUpdated id) = id < 2 ^ 64
ReplyIsTold limits (replies.IndirectDestroyed id) = id < 2 ^ 64
ReplyIsTold limits (replies.PatternTemplateCreated id) = id < 2 ^ 64
ReplyIsTold limits (replies.PatternTemplateDestroyed id) = id < 2 ^ 64
ReplyIsTold limits (replies.ActionsTemplateCreated id) = id < 2 ^ 64
ReplyIsTold limits (replies.ActionsTemplateDestroyed id) = id < 2 ^ 64
ReplyIsTold limits (replies.TableCreated id) = id < 2 ^ 64
ReplyIsTold limits (replies.TableDestroyed id) = id < 2 ^ 64
ReplyIsTold limits (replies.Configured queues size) = (queues < 2 ^ 64) × (size < 2 ^ 64)
ReplyIsTold limits (replies.Enqueued kind id) = id < 2 ^ 64
ReplyIsTold limits (replies.Pushed queue) = queue < 2 ^ 64
ReplyIsTold limits (replies.Pulled queue outcomes) = (queue < 2 ^ 64) × (length outcomes < 2 ^ 64)
ReplyIsTold limits (replies.Stopped totals) = TotalsAreTold limits totals
ReplyIsTold limits (replies.Fault fault) = PlaceIsTold (told_of fault.cause).place fault.at
ReplyIsTold limits reply = Unit

abbrev pub FateIsTold : Fate → Type 0
FateIsTold (fates.Queue queue) = queue < 2 ^ 64
FateIsTold fates.Drop = Unit

abbrev pub MarkIsTold : Option ℕ → Type 0
MarkIsTold None = Unit
MarkIsTold (Some mark) = mark < 2 ^ 64

-- a hash has 32 bits
abbrev pub HashIsTold : Option ℕ → Type 0
HashIsTold None = Unit
HashIsTold (Some hash) = hash < 2 ^ 32

pub record VerdictIsTold (verdict : Verdict) : Type 0 where
  pub fate : FateIsTold verdict.fate
  pub mark : MarkIsTold verdict.mark
  pub hash : HashIsTold verdict.hash
  pub path : AllU64 verdict.path.items

-- of a call its place, and of a frame its number
abbrev pub EntryIsTold : Limits → Entry → Type 0
EntryIsTold limits (Asked caller call reply) = (caller.0 < 2 ^ 64) × (call.at.line < 2 ^ 64) × (call.at.part < 2 ^ 64) × ReplyIsTold limits reply
EntryIsTold limits (Passed caller parcel verdict) = (caller.0 < 2 ^ 64) × (parcel.number < 2 ^ 64) × VerdictIsTold verdict

abbrev pub EntriesAreTold : Limits → List Entry → Type 0
EntriesAreTold limits [] = Unit
EntriesAreTold limits (entry ∷ entries) = EntryIsTold limits entry × EntriesAreTold limits entries

pub record HistoryIsTold (limits : Limits) (history : List Entry) : Type 0 where
  pub entries : EntriesAreTold limits history
  pub totals : TotalsAreTold limits (totals_of history)

abbrev pub EndingIsTold : Ending → Type 0
EndingIsTold (endings.Bad place kind) = place < 2 ^ 64
EndingIsTold (endings.Large place) = place < 2 ^ 64
EndingIsTold ending = Unit

-- two entries of which the same is told: caller, place and reply, or caller, number and verdict
abbrev pub AreOneTold : Entry → Entry → Type 0
AreOneTold (Asked caller call reply) (Asked caller' call' reply') = (caller.0 ≡ caller'.0) × (call.at ≡ call'.at) × (reply ≡ reply')
AreOneTold (Passed caller parcel verdict) (Passed caller' parcel' verdict') = (caller.0 ≡ caller'.0) × (parcel.number ≡ parcel'.number) × (verdict ≡ verdict')
AreOneTold entry entry' = ⊥

-- as many entries, each with the one at its place
abbrev pub AreAllTold : List Entry → List Entry → Type 0
AreAllTold [] [] = Unit
AreAllTold (entry ∷ entries) (entry' ∷ entries') = AreOneTold entry entry' × AreAllTold entries entries'
AreAllTold entries entries' = ⊥
