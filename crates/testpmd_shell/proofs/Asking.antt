-- One more call of a list, and one more list.
use Rattle.std.proofs.Common.{◌≡◌, ℕ, ◌+◌, ◌<◌, List, [], ◌∷◌, ◌++◌, length, get_or, drop, sym, ap, ◌∙◌, append_assoc}
use Rattle.std.proofs.lemmas.List.{at_drop_more}
use Rattle.flow_rules.specs.declared.limits.Limits.{Limits}
use Rattle.flow_calls.specs.declared.call.Call.{Call}
use Rattle.flow_calls.specs.declared.reply.Reply.{Reply}
use Rattle.flow_calls.specs.declared.entry.Entry.{Entry}
use Rattle.flow_calls.specs.declared.entry.Entry.TheVariants.{Asked}
use Rattle.adapter.specs.Seen.{Seen, Grows}
use Rattle.adapter.specs.History.{asked_by}
use Rattle.port_state.specs.Reply.{reply_to}
use Rattle.whole_history.specs.Serial.{caller_at, asks_of, all_asks_of}

-- the entry of a call is the one that it makes
entered-is : (L : Limits) (who : ℕ) (call : Call) (reply : Reply) (old new : Seen) → old.limits ≡ L → reply ≡ reply_to old.limits old.history call.op
    → Grows old new (Asked (caller_at who) call reply ∷ []) → new.history ≡ old.history ++ asked_by L old.history (caller_at who) call ∷ []
entered-is L who call reply old new limits replied grows =
    grows.history ∙ ap (λ r. old.history ++ Asked (caller_at who) call r ∷ []) (replied ∙ ap (λ l. reply_to l old.history call.op) limits)

pub asks-next : (L : Limits) (who i : ℕ) (calls : List Call) (call : Call) (reply : Reply) (start : List Entry) (old new : Seen) → old.limits ≡ L
    → i < length calls → call ≡ get_or calls i call → reply ≡ reply_to old.limits old.history call.op → Grows old new (Asked (caller_at who) call reply ∷ [])
    → old.history ++ asks_of L who (drop i calls) old.history ≡ start → new.history ++ asks_of L who (drop (i + 1) calls) new.history ≡ start
asks-next L who i calls call reply start old new limits within is replied grows so_far =
    let asked = asked_by L old.history (caller_at who) call ∷ [] in
    ap (λ h. h ++ asks_of L who (drop (i + 1) calls) h) (entered-is L who call reply old new limits replied grows)
    ∙ append_assoc old.history asked (asks_of L who (drop (i + 1) calls) (old.history ++ asked))
    ∙ ap (λ c. old.history ++ asks_of L who (c ∷ drop (i + 1) calls) old.history) is
    ∙ ap (λ l. old.history ++ l) (sym (at_drop_more (λ cs. asks_of L who cs old.history) calls i call within))
    ∙ so_far

pub all_asks-next : (L : Limits) (who i : ℕ) (lists : List (List Call)) (calls : List Call) (start : List Entry) (old new : Seen) → old.limits ≡ L
    → i < length lists → calls ≡ get_or lists i calls → Grows old new (asks_of old.limits who calls old.history)
    → old.history ++ all_asks_of L who (drop i lists) old.history ≡ start → new.history ++ all_asks_of L (who + 1) (drop (i + 1) lists) new.history ≡ start
all_asks-next L who i lists calls start old new limits within is grows so_far =
    let asked = asks_of L who calls old.history in
    let entered : new.history ≡ old.history ++ asked = grows.history ∙ ap (λ l. old.history ++ asks_of l who calls old.history) limits in
    ap (λ h. h ++ all_asks_of L (who + 1) (drop (i + 1) lists) h) entered
    ∙ append_assoc old.history asked (all_asks_of L (who + 1) (drop (i + 1) lists) (old.history ++ asked))
    ∙ ap (λ c. old.history ++ all_asks_of L who (c ∷ drop (i + 1) lists) old.history) is
    ∙ ap (λ l. old.history ++ l) (sym (at_drop_more (λ cs. all_asks_of L who cs old.history) lists i calls within))
    ∙ so_far
