-- One element more of lists that are gone through together.
use Rattle.std.proofs.Common.{◌≡◌, ℕ, ◌+◌, ◌<◌, ◌≤◌, Bool, zero, suc, length, take, drop, get_or, List, [], ◌∷◌, ◌++◌, refl, ap, sym, ◌∙◌, arith, add-one}
use Rattle.std.proofs.lemmas.List.{drop_all, take_more}
use Rattle.packet_headers.specs.declared.items.ItemKind.{ItemKind}
use Rattle.rule_index.specs.declared.line.ShapeLine.{ShapeLine}
use Rattle.pattern_items.specs.declared.pattern.Fields.{Fields}
use Rattle.rule_index.specs.Lines.{line_by, lines_by}
use Rattle.rule_index.specs.Digest.{mix_fields, mix_all}
use Rattle.rule_index.specs.Exact.{IsWithin, AreWithin}

lines_suc : (ks : List ItemKind) (ms : List Fields) (n : ℕ) (d : ItemKind) (e : Fields) → n < length ks → n < length ms
    → lines_by (take (suc n) ks) (take (suc n) ms) ≡ lines_by (take n ks) (take n ms) ++ line_by (get_or ks n d) (get_or ms n e) ∷ []
lines_suc [] ms n d e lt le = absurd (omega arith)
lines_suc (k ∷ ks) [] n d e lt le = absurd (omega arith)
lines_suc (k ∷ ks) (m ∷ ms) zero d e lt le = refl
lines_suc (k ∷ ks) (m ∷ ms) (suc n) d e lt le = ap (λ l. line_by k m ∷ l) (lines_suc ks ms n d e (omega arith) (omega arith))

pub lines_more : (ks : List ItemKind) (ms : List Fields) (n : ℕ) (d : ItemKind) (e : Fields) → n < length ks → n < length ms
    → lines_by (take (n + 1) ks) (take (n + 1) ms) ≡ lines_by (take n ks) (take n ms) ++ line_by (get_or ks n d) (get_or ms n e) ∷ []
lines_more ks ms n d e lt le = rw add-one (lines_suc ks ms n d e lt le)

mix_suc : (exact : Bool) (ms ns : List Fields) (n d : ℕ) (a b : Fields) → n < length ms → n < length ns
    → mix_all exact (drop n ms) (drop n ns) d ≡ mix_all exact (drop (suc n) ms) (drop (suc n) ns) (mix_fields exact (get_or ms n a) (get_or ns n b) d)
mix_suc exact [] ns n d a b lt le = absurd (omega arith)
mix_suc exact (m ∷ ms) [] n d a b lt le = absurd (omega arith)
mix_suc exact (m ∷ ms) (x ∷ ns) zero d a b lt le = refl
mix_suc exact (m ∷ ms) (x ∷ ns) (suc n) d a b lt le = mix_suc exact ms ns n d a b (omega arith) (omega arith)

pub mix_more : (exact : Bool) (ms ns : List Fields) (n d : ℕ) (a b : Fields) → n < length ms → n < length ns
    → mix_all exact (drop n ms) (drop n ns) d ≡ mix_all exact (drop (n + 1) ms) (drop (n + 1) ns) (mix_fields exact (get_or ms n a) (get_or ns n b) d)
mix_more exact ms ns n d a b lt le = rw add-one (mix_suc exact ms ns n d a b lt le)

within_suc : (ms ns : List Fields) (n : ℕ) (a b : Fields) → n < length ms → n < length ns → IsWithin (get_or ms n a) (get_or ns n b)
    → AreWithin (drop (suc n) ms) (drop (suc n) ns) → AreWithin (drop n ms) (drop n ns)
within_suc [] ns n a b lt le w r = absurd (omega arith)
within_suc (m ∷ ms) [] n a b lt le w r = absurd (omega arith)
within_suc (m ∷ ms) (x ∷ ns) zero a b lt le w r = (w, r)
within_suc (m ∷ ms) (x ∷ ns) (suc n) a b lt le w r = within_suc ms ns n a b (omega arith) (omega arith) w r

pub within_more : (ms ns : List Fields) (n : ℕ) (a b : Fields) → n < length ms → n < length ns → IsWithin (get_or ms n a) (get_or ns n b)
    → AreWithin (drop (n + 1) ms) (drop (n + 1) ns) → AreWithin (drop n ms) (drop n ns)
within_more ms ns n a b lt le w r = within_suc ms ns n a b lt le w (rw add-one at r)

pub within_end : (ms ns : List Fields) (n : ℕ) → length ms ≤ n → length ns ≤ n → AreWithin (drop n ms) (drop n ns)
within_end ms ns n a b = rw (drop_all n ms a) (rw (drop_all n ns b) tt)

pub lines_next : (lines : List ShapeLine) (ks : List ItemKind) (ms : List Fields) (n : ℕ) (c : ShapeLine) (d : ItemKind) (e : Fields) → n < length lines → n < length ks → n < length ms
    → get_or lines n c ≡ line_by (get_or ks n d) (get_or ms n e) → take n lines ≡ lines_by (take n ks) (take n ms)
    → take (n + 1) lines ≡ lines_by (take (n + 1) ks) (take (n + 1) ms)
lines_next lines ks ms n c d e l k m here so_far =
    take_more lines n c l ∙ ap (λ (xs : List ShapeLine). xs ++ get_or lines n c ∷ []) so_far
    ∙ ap (λ (x : ShapeLine). lines_by (take n ks) (take n ms) ++ x ∷ []) here ∙ sym (lines_more ks ms n d e k m)
