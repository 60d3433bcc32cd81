-- Transcripts with one text tell one history and one ending.
use Rattle.std.proofs.Common.{◌≡◌, ◌≢◌, ℕ, ◌+◌, ◌-◌, ◌^◌, ◌<◌, nat_le, true, false, cond, List, [], ◌∷◌, ◌++◌, drop, get_or, codes, decimal, refl, sym, ap, ◌∙◌, arith, append_assoc, lit≤, subst}
use Rattle.std.proofs.lemmas.Bool.{leb-true, leb-false}
use Rattle.std.specs.List.{flat_map}
use Rattle.std.proofs.NetLemmas.Numbers.{NoDigit}
use Rattle.flow_actions.specs.declared.verdict.Verdict.{Verdict}
use Rattle.flow_rules.specs.declared.limits.Limits.{Limits}
use Rattle.flow_calls.specs.declared.call.At.{At}
use Rattle.flow_calls.specs.declared.call.Call.{Call}
use Rattle.flow_calls.specs.declared.caller.Caller.{Caller}
use Rattle.flow_calls.specs.declared.parcel.Parcel.{Parcel}
use Rattle.flow_calls.specs.declared.reply.Reply.{Reply}
use Rattle.flow_calls.specs.declared.entry.Entry.{Entry}
use Rattle.flow_calls.specs.declared.entry.Entry.TheVariants.{Asked, Passed}
use Rattle.flow_calls.specs.Totals.{totals_of}
use Rattle.history_text.specs.declared.ending.Ending.{Ending}
use Rattle.history_text.specs.Callers.{caller_text}
use Rattle.history_text.specs.Endings.{ending_text}
use Rattle.history_text.specs.Forms.{filled}
use Rattle.history_text.specs.Replies.{reply_text}
use Rattle.history_text.specs.Totals.{totals_text}
use Rattle.history_text.specs.Verdicts.{verdict_text}
use Rattle.history_text.specs.Text.{entry_text, text_of}
use Rattle.history_text.specs.Told.{EntryIsTold, EntriesAreTold, HistoryIsTold, EndingIsTold, AreOneTold, AreAllTold}
use Rattle.history_text.proofs.Parts.{decimal-same, decimal-other, filled-same}
use Rattle.history_text.proofs.EndingLaws.{ending-same}
use Rattle.history_text.proofs.ReplyLaws.{reply-same, totals-same}
use Rattle.history_text.proofs.VerdictLaws.{verdict-same}

-- who a caller is, and the text of that
data Role (caller : Caller) : Type 0 where
  Worker : (w : ℕ) → caller.0 ≡ w + 9 → caller_text caller ≡ codes "worker" ++ decimal w → Role caller
  Agent : (q : ℕ) → caller.0 ≡ q + 1 → caller_text caller ≡ codes "agent" ++ decimal q → Role caller
  Shell : caller.0 ≡ 0 → caller_text caller ≡ codes "shell" → Role caller

role : (caller : Caller) → Role caller
role caller =
    let n = caller.0 in
    let lower = cond (nat_le 1 n) (codes "agent" ++ decimal (n - 1)) (codes "shell") in
    elim (nat_le 9 n) as (λ b. nat_le 9 n ≡ b → Role caller) [
      | true ↦ λ e. Worker (n - 9) (omega (arith, leb-true 9 n e)) (ap (λ b. cond b (codes "worker" ++ decimal (n - 9)) lower) e)
      | false ↦ λ e. elim (nat_le 1 n) as (λ b. nat_le 1 n ≡ b → Role caller) [
        | true ↦ λ f. Agent (n - 1) (omega (arith, leb-true 1 n f))
            (ap (λ b. cond b (codes "worker" ++ decimal (n - 9)) lower) e ∙ ap (λ b. cond b (codes "agent" ++ decimal (n - 1)) (codes "shell")) f)
        | false ↦ λ f. Shell (omega (arith, leb-false 1 n f))
            (ap (λ b. cond b (codes "worker" ++ decimal (n - 9)) lower) e ∙ ap (λ b. cond b (codes "agent" ++ decimal (n - 1)) (codes "shell")) f)
      ] refl
    ] refl

spoken : (c d : Caller) (t u r s : List ℕ) → caller_text c ≡ t → caller_text d ≡ u → caller_text c ++ r ≡ caller_text d ++ s → t ++ r ≡ u ++ s
spoken c d t u r s is is' e = ap (λ x. x ++ r) (sym is) ∙ e ∙ ap (λ x. x ++ s) is'

-- a blank stands behind a caller
caller-same : (c d : Caller) (r s : List ℕ) → c.0 < 2 ^ 64 → d.0 < 2 ^ 64 → Role c → Role d → caller_text c ++ 32 ∷ r ≡ caller_text d ++ 32 ∷ s → (c.0 ≡ d.0) × (r ≡ s)
caller-same c d r s small small' (Worker v is text) (Worker w is' text') e =
    let (same, rests) = decimal-same v w (32 ∷ r) (32 ∷ s) (omega arith) (omega arith) (lit≤ tt) (lit≤ tt) (ap (drop 6) (spoken c d _ _ _ _ text text' e)) in
    (omega (arith, same), ap (drop 1) rests)
caller-same c d r s small small' (Worker v is text) (Agent w is' text') e = absurd (omega (arith, ap (λ t. get_or t 0 0) (spoken c d _ _ _ _ text text' e)))
caller-same c d r s small small' (Worker v is text) (Shell is' text') e = absurd (omega (arith, ap (λ t. get_or t 0 0) (spoken c d _ _ _ _ text text' e)))
caller-same c d r s small small' (Agent v is text) (Worker w is' text') e = absurd (omega (arith, ap (λ t. get_or t 0 0) (spoken c d _ _ _ _ text text' e)))
caller-same c d r s small small' (Agent v is text) (Agent w is' text') e =
    let (same, rests) = decimal-same v w (32 ∷ r) (32 ∷ s) (omega arith) (omega arith) (lit≤ tt) (lit≤ tt) (ap (drop 5) (spoken c d _ _ _ _ text text' e)) in
    (omega (arith, same), ap (drop 1) rests)
caller-same c d r s small small' (Agent v is text) (Shell is' text') e = absurd (omega (arith, ap (λ t. get_or t 0 0) (spoken c d _ _ _ _ text text' e)))
caller-same c d r s small small' (Shell is text) (Worker w is' text') e = absurd (omega (arith, ap (λ t. get_or t 0 0) (spoken c d _ _ _ _ text text' e)))
caller-same c d r s small small' (Shell is text) (Agent w is' text') e = absurd (omega (arith, ap (λ t. get_or t 0 0) (spoken c d _ _ _ _ text text' e)))
caller-same c d r s small small' (Shell is text) (Shell is' text') e = (omega arith, ap (drop 6) (spoken c d _ _ _ _ text text' e))

-- the first letter of a caller
caller-stops : (c : Caller) (r : List ℕ) → Role c → NoDigit 10 (caller_text c ++ r)
caller-stops c r (Worker w is text) = subst (λ t. NoDigit 10 (t ++ r)) (sym text) (lit≤ tt)
caller-stops c r (Agent w is text) = subst (λ t. NoDigit 10 (t ++ r)) (sym text) (lit≤ tt)
caller-stops c r (Shell is text) = subst (λ t. NoDigit 10 (t ++ r)) (sym text) (lit≤ tt)

caller-other : (c : Caller) (r s : List ℕ) → Role c → caller_text c ++ r ≢ codes "total " ++ s
caller-other c r s (Worker w is text) e = omega (arith, ap (λ t. get_or t 0 0) (ap (λ x. x ++ r) (sym text) ∙ e))
caller-other c r s (Agent w is text) e = omega (arith, ap (λ t. get_or t 0 0) (ap (λ x. x ++ r) (sym text) ∙ e))
caller-other c r s (Shell is text) e = omega (arith, ap (λ t. get_or t 0 0) (ap (λ x. x ++ r) (sym text) ∙ e))

abbrev at_numbers : Call → List ℕ
at_numbers call = call.at.line ∷ call.at.part ∷ []

-- a call's line and what stands behind, joined to the right
abbrev asked : Limits → Call → Reply → List ℕ → List ℕ
asked limits call reply r = filled (codes " 0.0: ") (at_numbers call) ++ (reply_text limits reply ++ 10 ∷ r)

asked-is : (limits : Limits) (caller : Caller) (call : Call) (reply : Reply) (r : List ℕ) → entry_text limits (Asked caller call reply) ++ r ≡ caller_text caller ++ asked limits call reply r
unfolding entry_text
asked-is limits caller call reply r =
    let at = filled (codes " 0.0: ") (at_numbers call) in
    let end = reply_text limits reply ++ codes "\n" in
    append_assoc (caller_text caller) (at ++ end) r ∙ ap (λ t. caller_text caller ++ t) (append_assoc at end r)
    ∙ ap (λ t. caller_text caller ++ (at ++ t)) (append_assoc (reply_text limits reply) (codes "\n") r)

abbrev passed : Parcel → Verdict → List ℕ → List ℕ
passed parcel verdict r = filled (codes " #0: ") (parcel.number ∷ []) ++ (verdict_text verdict ++ 10 ∷ r)

passed-is : (limits : Limits) (caller : Caller) (parcel : Parcel) (verdict : Verdict) (r : List ℕ) → entry_text limits (Passed caller parcel verdict) ++ r ≡ caller_text caller ++ passed parcel verdict r
unfolding entry_text
passed-is limits caller parcel verdict r =
    let number = filled (codes " #0: ") (parcel.number ∷ []) in
    let end = verdict_text verdict ++ codes "\n" in
    append_assoc (caller_text caller) (number ++ end) r ∙ ap (λ t. caller_text caller ++ t) (append_assoc number end r)
    ∙ ap (λ t. caller_text caller ++ (number ++ t)) (append_assoc (verdict_text verdict) (codes "\n") r)

abbrev first : List ℕ → ℕ
first [] = 0
first (n ∷ ns) = n

at-is : (a b : At) → a.line ≡ b.line → a.part ≡ b.part → a ≡ b
at-is a b p q = ap (λ x. record { line = x; part = a.part }) p ∙ ap (λ x. record { line = b.line; part = x }) q

entry-same : (limits : Limits) (a b : Entry) (r s : List ℕ) → EntryIsTold limits a → EntryIsTold limits b → NoDigit 10 r → NoDigit 10 s
    → entry_text limits a ++ r ≡ entry_text limits b ++ s → AreOneTold a b × (r ≡ s)
entry-same limits (Asked c call reply) (Asked d call' reply') r s told told' stop stop' e =
    let (caller, e1) = caller-same c d (drop 1 (asked limits call reply r)) (drop 1 (asked limits call' reply' s)) told.0 told'.0 (role c) (role d)
    (sym (asked-is limits c call reply r) ∙ e ∙ asked-is limits d call' reply' s) in
    let (numbers, e2) = filled-same (codes " 0.0: ") (at_numbers call) (at_numbers call') (reply_text limits reply ++ 10 ∷ r) (reply_text limits reply' ++ 10 ∷ s) refl
    (told.1, (told.2, tt)) (told'.1, (told'.2, tt)) tt tt (ap (λ t. 32 ∷ t) e1) in
    let (same, rests) = reply-same limits reply reply' r s told.3 told'.3 stop stop' e2 in
    ((caller, at-is call.at call'.at (ap first numbers) (ap (λ l. first (drop 1 l)) numbers), same), rests)
entry-same limits (Passed c parcel verdict) (Passed d parcel' verdict') r s told told' stop stop' e =
    let (caller, e1) = caller-same c d (drop 1 (passed parcel verdict r)) (drop 1 (passed parcel' verdict' s)) told.0 told'.0 (role c) (role d)
    (sym (passed-is limits c parcel verdict r) ∙ e ∙ passed-is limits d parcel' verdict' s) in
    let (numbers, e2) = filled-same (codes " #0: ") (parcel.number ∷ []) (parcel'.number ∷ []) (verdict_text verdict ++ 10 ∷ r) (verdict_text verdict' ++ 10 ∷ s) refl
    (told.1, tt) (told'.1, tt) tt tt (ap (λ t. 32 ∷ t) e1) in
    let (same, rests) = verdict-same verdict verdict' r s told.2 told'.2 e2 in
    ((caller, ap first numbers, same), rests)
entry-same limits (Asked c call reply) (Passed d parcel verdict) r s told told' stop stop' e =
    let (caller, e1) = caller-same c d (drop 1 (asked limits call reply r)) (drop 1 (passed parcel verdict s)) told.0 told'.0 (role c) (role d)
    (sym (asked-is limits c call reply r) ∙ e ∙ passed-is limits d parcel verdict s) in
    absurd (decimal-other call.at.line (filled (codes ".0: ") (call.at.part ∷ []) ++ (reply_text limits reply ++ 10 ∷ r)) (drop 1 (passed parcel verdict s)) told.1 (lit≤ tt)
    (sym (append_assoc (decimal call.at.line) (filled (codes ".0: ") (call.at.part ∷ [])) (reply_text limits reply ++ 10 ∷ r)) ∙ e1))
entry-same limits (Passed d parcel verdict) (Asked c call reply) s r told' told stop' stop e =
    let (caller, e1) = caller-same d c (drop 1 (passed parcel verdict s)) (drop 1 (asked limits call reply r)) told'.0 told.0 (role d) (role c)
    (sym (passed-is limits d parcel verdict s) ∙ e ∙ asked-is limits c call reply r) in
    absurd (decimal-other call.at.line (filled (codes ".0: ") (call.at.part ∷ []) ++ (reply_text limits reply ++ 10 ∷ r)) (drop 1 (passed parcel verdict s)) told.1 (lit≤ tt)
    (sym (append_assoc (decimal call.at.line) (filled (codes ".0: ") (call.at.part ∷ [])) (reply_text limits reply ++ 10 ∷ r)) ∙ sym e1))

entry-other : (limits : Limits) (a : Entry) (r s : List ℕ) → entry_text limits a ++ r ≢ codes "total " ++ s
entry-other limits (Asked c call reply) r s e = caller-other c (asked limits call reply r) s (role c) (sym (asked-is limits c call reply r) ∙ e)
entry-other limits (Passed c parcel verdict) r s e = caller-other c (passed parcel verdict r) s (role c) (sym (passed-is limits c parcel verdict r) ∙ e)

entry-stops : (limits : Limits) (a : Entry) (r : List ℕ) → NoDigit 10 (entry_text limits a ++ r)
entry-stops limits (Asked c call reply) r = subst (λ t. NoDigit 10 t) (sym (asked-is limits c call reply r)) (caller-stops c (asked limits call reply r) (role c))
entry-stops limits (Passed c parcel verdict) r = subst (λ t. NoDigit 10 t) (sym (passed-is limits c parcel verdict r)) (caller-stops c (passed parcel verdict r) (role c))

entries-stop : (limits : Limits) (h : List Entry) (r : List ℕ) → NoDigit 10 (flat_map (entry_text limits) h ++ (codes "total " ++ r))
entries-stop limits [] r = lit≤ tt
entries-stop limits (a ∷ h) r =
    subst (λ t. NoDigit 10 t) (sym (append_assoc (entry_text limits a) (flat_map (entry_text limits) h) (codes "total " ++ r)))
    (entry-stops limits a (flat_map (entry_text limits) h ++ (codes "total " ++ r)))

entries-same : (limits : Limits) (h g : List Entry) (r s : List ℕ) → EntriesAreTold limits h → EntriesAreTold limits g
    → flat_map (entry_text limits) h ++ (codes "total " ++ r) ≡ flat_map (entry_text limits) g ++ (codes "total " ++ s) → AreAllTold h g × (r ≡ s)
entries-same limits [] [] r s told told' e = (tt, ap (drop 6) e)
entries-same limits [] (b ∷ g) r s told told' e =
    absurd (entry-other limits b (flat_map (entry_text limits) g ++ (codes "total " ++ s)) r
    (sym (append_assoc (entry_text limits b) (flat_map (entry_text limits) g) (codes "total " ++ s)) ∙ sym e))
entries-same limits (a ∷ h) [] r s told told' e =
    absurd (entry-other limits a (flat_map (entry_text limits) h ++ (codes "total " ++ r)) s
    (sym (append_assoc (entry_text limits a) (flat_map (entry_text limits) h) (codes "total " ++ r)) ∙ e))
entries-same limits (a ∷ h) (b ∷ g) r s told told' e =
    let (one, behind) = entry-same limits a b (flat_map (entry_text limits) h ++ (codes "total " ++ r)) (flat_map (entry_text limits) g ++ (codes "total " ++ s)) told.0 told'.0
    (entries-stop limits h r) (entries-stop limits g s)
    (sym (append_assoc (entry_text limits a) (flat_map (entry_text limits) h) (codes "total " ++ r)) ∙ e
    ∙ append_assoc (entry_text limits b) (flat_map (entry_text limits) g) (codes "total " ++ s)) in
    let (others, rests) = entries-same limits h g r s told.1 told'.1 behind in
    ((one, others), rests)

pub transcript-same : (limits : Limits) (h g : List Entry) (a b : Ending) → HistoryIsTold limits h → HistoryIsTold limits g → EndingIsTold a → EndingIsTold b
    → text_of limits h a ≡ text_of limits g b → AreAllTold h g × (a ≡ b)
transcript-same limits h g a b told told' told-a told-b e =
    let (entries, totals) = entries-same limits h g (totals_text limits (totals_of h) ++ (codes "\n" ++ ending_text a)) (totals_text limits (totals_of g) ++ (codes "\n" ++ ending_text b))
    told.entries told'.entries e in
    let (same, ends) = totals-same limits (totals_of h) (totals_of g) (10 ∷ ending_text a) (10 ∷ ending_text b) told.totals told'.totals (lit≤ tt) (lit≤ tt)
    (λ is. omega (arith, is)) (λ is. omega (arith, is)) totals in
    (entries, ending-same a b told-a told-b (ap (drop 1) ends))
