-- A rule is at home in the table that it wants.
use Rattle.std.proofs.Common.{◌≡◌, ℕ, ◌+◌, ◌<◌, ◌≤◌, zero, suc, Bool, true, false, slice_index, length, map, List, [], ◌∷◌, ◌++◌, Option, None, Some, IfSome, refl, sym, ap, subst, ◌∙◌, arith, if◌then◌else◌}
use Rattle.std.proofs.lemmas.List.{length-map}
use Rattle.std.proofs.lemmas.Nat.{and_le_r}
use Rattle.std.specs.List.{slice_get}
use Rattle.std.specs.Option.{option_map}
use Rattle.packet_headers.specs.declared.items.ItemKind.{ItemKind}
use Rattle.packet_headers.specs.declared.items.LayerAt.{LayerAt}
use Rattle.pattern_items.specs.declared.pattern.Fields.{Fields}
use Rattle.pattern_items.specs.declared.shape.Shape.{Shape}
use Rattle.pattern_items.specs.declared.test.ItemTest.{ItemTest}
use Rattle.pattern_items.specs.declared.test.Test.{Test}
use Rattle.packet_headers.specs.Key.{is_of}
use Rattle.pattern_items.specs.Matches.{accepts}
use Rattle.pattern_items.specs.Order.{is_vlan, is_vxlan}
use Rattle.pattern_items.specs.Shape.{masked_by, all_masked_by, option_masked_by, met_from, met_by, and_then, values_of_test, masks_of_test, kind_of_test}
use Rattle.flow_rules.specs.RuleView.{RuleView}
use Rattle.rule_index.specs.declared.line.ShapeLine.{ShapeLine}
use Rattle.rule_index.specs.declared.table.Home.{Home}
use Rattle.rule_index.specs.declared.table.Table.{Table}
use Rattle.rule_index.specs.declared.wanted.Wanted.{Wanted}
use Rattle.rule_index.specs.Lines.{lines_by, kind_in, masks_in}
use Rattle.rule_index.specs.Digest.{digest_by, mix_all}
use Rattle.rule_index.specs.Exact.{AreExact, IsWithin, AreWithin}
use Rattle.rule_index.specs.Tables.{digest_with, lines_in, digest_in, IsShapeOf, IsExact, own_digest, IsWantedBy, HasEven, IsEven, lines_of, IsOf, IsAt, IsHome, Grows}
use Rattle.rule_index.proofs.Digits.{AreSix, exact_numbers}

-- the numbers of layers are within their masks
masked_within : (masks : Fields) (l : LayerAt) → IsWithin masks (masked_by masks l)
masked_within masks l = record { each = each } where
  each : (field : ℕ) → field < 6 → slice_index (masked_by masks l).v field ≤ slice_index masks.v field
  each zero lt = and_le_r (slice_index l.layer.v 0) (slice_index masks.v 0)
  each (suc zero) lt = and_le_r (slice_index l.layer.v 1) (slice_index masks.v 1)
  each (suc (suc zero)) lt = and_le_r (slice_index l.layer.v 2) (slice_index masks.v 2)
  each (suc (suc (suc zero))) lt = and_le_r (slice_index l.layer.v 3) (slice_index masks.v 3)
  each (suc (suc (suc (suc zero)))) lt = and_le_r (slice_index l.layer.v 4) (slice_index masks.v 4)
  each (suc (suc (suc (suc (suc zero))))) lt = and_le_r (slice_index l.layer.v 5) (slice_index masks.v 5)
  each (suc (suc (suc (suc (suc (suc f)))))) lt = absurd (omega arith)

numbers_within : (ms : List Fields) (ls : List LayerAt) → length ls ≡ length ms → AreWithin ms (all_masked_by ms ls)
numbers_within [] ls e = tt
numbers_within (m ∷ ms) [] e = absurd (omega (arith, e))
numbers_within (m ∷ ms) (l ∷ ls) e = (masked_within m l, numbers_within ms ls (omega (arith, e)))

numbers_six : (ms : List Fields) (ls : List LayerAt) → AreSix (all_masked_by ms ls)
numbers_six [] ls = tt
numbers_six (m ∷ ms) [] = tt
numbers_six (m ∷ ms) (l ∷ ls) = (record { is = refl }, numbers_six ms ls)

values_six : (test : List ItemTest) → AreSix (map values_of_test test)
values_six [] = tt
values_six (i ∷ is) = (record { is = refl }, values_six is)

-- as many layers are met as there are kinds
and_then_length : (l : LayerAt) (o : Option (List LayerAt)) (n : ℕ) (xs : List LayerAt) → ((ys : List LayerAt) → o ≡ Some ys → length ys ≡ n) → and_then l o ≡ Some xs → length xs ≡ n + 1
and_then_length l None n xs h e = cc
and_then_length l (Some ys) n xs h e = let same : l ∷ ys ≡ xs = cc in let long : length ys ≡ n = h ys refl in omega (arith, ap length same)

met_from_length : (ks : List ItemKind) (ls xs : List LayerAt) → met_from ks ls ≡ Some xs → length xs ≡ length ks
met_from_length [] ls xs e = let same : [] ≡ xs = cc in ap length (sym same)
met_from_length (k ∷ ks) [] xs e = cc
met_from_length (k ∷ ks) (l ∷ ls) xs e = by (λ ys. met_from_length ks ls ys) (met_from_length (k ∷ ks) ls xs) (is_of k l) (is_vlan l.layer.kind) e where
  by : ((ys : List LayerAt) → met_from ks ls ≡ Some ys → length ys ≡ length ks) → (met_from (k ∷ ks) ls ≡ Some xs → length xs ≡ length (k ∷ ks)) → (b v : Bool) → (if b then and_then l (met_from ks ls) else (if v then met_from (k ∷ ks) ls else None)) ≡ Some xs → length xs ≡ length (k ∷ ks)
  by p q true v h = let n = and_then_length l (met_from ks ls) (length ks) xs p h in omega (arith, n)
  by p q false true h = q h
  by p q false false h = cc

met_by_length : (ks : List ItemKind) (ls xs : List LayerAt) → met_by ks ls ≡ Some xs → length xs ≡ length ks
met_by_length [] ls xs e = let same : [] ≡ xs = cc in ap length (sym same)
met_by_length (k ∷ ks) [] xs e = cc
met_by_length (k ∷ ks) (l ∷ ls) xs e = by (met_by_length (k ∷ ks) ls xs) (is_of k l) (is_vxlan l.layer.kind) e where
  by : (met_by (k ∷ ks) ls ≡ Some xs → length xs ≡ length (k ∷ ks)) → (b v : Bool) → (if b then met_from (k ∷ ks) (l ∷ ls) else (if v then None else met_by (k ∷ ks) ls)) ≡ Some xs → length xs ≡ length (k ∷ ks)
  by q true v h = met_from_length (k ∷ ks) (l ∷ ls) xs h
  by q false true h = cc
  by q false false h = q h

-- the lines of kinds and masks have these kinds and masks
kinds_back : (ks : List ItemKind) (ms : List Fields) → length ks ≡ length ms → map kind_in (lines_by ks ms) ≡ ks
kinds_back [] ms e = refl
kinds_back (k ∷ ks) [] e = absurd (omega (arith, e))
kinds_back (k ∷ ks) (m ∷ ms) e = ap (λ l. k ∷ l) (kinds_back ks ms (omega (arith, e)))

masks_back : (ks : List ItemKind) (ms : List Fields) → length ks ≡ length ms → map masks_in (lines_by ks ms) ≡ ms
masks_back [] [] e = refl
masks_back [] (m ∷ ms) e = absurd (omega (arith, e))
masks_back (k ∷ ks) [] e = absurd (omega (arith, e))
masks_back (k ∷ ks) (m ∷ ms) e = ap (λ l. m ∷ l) (masks_back ks ms (omega (arith, e)))

digest_of_lines : (exact : Bool) (ks : List ItemKind) (ms : List Fields) (ls : List LayerAt) → length ks ≡ length ms
    → digest_by exact (lines_by ks ms) ls ≡ option_map (λ (ns : List Fields). mix_all exact ms ns 0) (option_masked_by ms (met_by ks ls))
digest_of_lines exact ks ms ls e =
    ap (λ (x : List Fields). option_map (λ (ns : List Fields). mix_all exact x ns 0) (option_masked_by x (met_by (map kind_in (lines_by ks ms)) ls))) (masks_back ks ms e)
    ∙ ap (λ (x : List ItemKind). option_map (λ (ns : List Fields). mix_all exact ms ns 0) (option_masked_by ms (met_by x ls))) (kinds_back ks ms e)

-- a test\'s shape has as many kinds and values as masks
pub even_shape : (test : Test) (s : Shape) → IsShapeOf test s → HasEven s
even_shape test s h = record {
  kinds = ap (λ (x : Shape). length x.kinds.items) h.is ∙ length-map test kind_of_test ∙ sym (ap (λ (x : Shape). length x.masks.items) h.is ∙ length-map test masks_of_test);
  values = ap (λ (x : Shape). length x.masks.items) h.is ∙ length-map test masks_of_test ∙ sym (ap (λ (x : Shape). length x.values.items) h.is ∙ length-map test values_of_test);
}

pub is_even : (test : Test) (s : Option Shape) → IfSome s (IsShapeOf test) → IsEven s
is_even test None h = tt
is_even test (Some s) h = even_shape test s h

accepted : (test : Test) (exact : Bool) (s : Option Shape) → IfSome s (IsShapeOf test) → (ls : List LayerAt) → accepts test ls ≡ true → digest_with exact (lines_of s) ls ≡ Some (own_digest exact s)
accepted test exact None h ls t = refl
accepted test exact (Some s) h ls t =
    digest_of_lines exact s.kinds.items s.masks.items ls (even_shape test s h).kinds ∙ ap (option_map (λ (ns : List Fields). mix_all exact s.masks.items ns 0)) ((h.accepts ls).0 t)

-- by an exact digest other layers aren\'t accepted
only_values : (ms vs : List Fields) (ks : List ItemKind) (ls : List LayerAt) (o : Option (List LayerAt)) → met_by ks ls ≡ o → length ks ≡ length ms → AreExact ms → AreWithin ms vs → AreSix vs
    → option_map (λ (ns : List Fields). mix_all true ms ns 0) (option_masked_by ms o) ≡ Some (mix_all true ms vs 0) → option_masked_by ms o ≡ Some vs
only_values ms vs ks ls None met even exact within six e = cc
only_values ms vs ks ls (Some xs) met even exact within six e =
    let same : mix_all true ms (all_masked_by ms xs) 0 ≡ mix_all true ms vs 0 = cc in
    let long : length xs ≡ length ms = met_by_length ks ls xs met ∙ even in
    ap (λ (ns : List Fields). Some ns) (exact_numbers ms (all_masked_by ms xs) vs exact (numbers_within ms xs long) within (numbers_six ms xs) six same)

exactly : (test : Test) (exact : Bool) (s : Option Shape) → exact ≡ true → IfSome s (IsShapeOf test) → IsExact s → (ls : List LayerAt)
    → digest_with exact (lines_of s) ls ≡ Some (own_digest exact s) → accepts test ls ≡ true
exactly test false s e h x ls d = cc
exactly test true None e h x ls d = absurd x
exactly test true (Some s) e h x ls d =
    let even = (even_shape test s h).kinds in
    (h.accepts ls).1 (only_values s.masks.items s.values.items s.kinds.items ls (met_by s.kinds.items ls) refl even x h.within
    (subst AreSix (sym (ap (λ (y : Shape). y.values.items) h.is)) (values_six test))
    (sym (digest_of_lines true s.kinds.items s.masks.items ls even) ∙ d))

pub at_home : (tables : List Table) (rule : RuleView) (wanted : Wanted) (number : ℕ) → IsAt tables wanted number → IsWantedBy wanted rule
    → IsHome tables rule (record { digest = wanted.digest; table = number })
at_home tables rule wanted number at by = record {
  table = at.table;
  at = at.at;
  group = at.is.group ∙ by.group;
  priority = at.is.priority ∙ by.priority;
  accepted = λ ls t. digest_is ls ∙ accepted rule.test wanted.exact wanted.shape by.shape ls t ∙ ap (λ (n : ℕ). Some n) (sym by.digest);
  exact = λ e ls d. exactly rule.test wanted.exact wanted.shape (sym at.is.exact ∙ e) by.shape (by.exact (sym at.is.exact ∙ e)) ls (sym (digest_is ls) ∙ d ∙ ap (λ (n : ℕ). Some n) by.digest);
} where
  digest_is : (ls : List LayerAt) → digest_in at.table ls ≡ digest_with wanted.exact (lines_of wanted.shape) ls
  digest_is ls = ap (λ (x : Bool). digest_with x (lines_in at.table) ls) at.is.exact ∙ ap (λ (x : Option (List ShapeLine)). digest_with wanted.exact x ls) at.is.lines

-- more tables
pub get_front : {A : Type 0} (xs ys : List A) (p : ℕ) (x : A) → slice_get xs p ≡ Some x → slice_get (xs ++ ys) p ≡ Some x
get_front [] ys p x e = cc
get_front (a ∷ xs) ys zero x e = e
get_front (a ∷ xs) ys (suc p) x e = get_front xs ys p x e

pub get_last : {A : Type 0} (xs : List A) (x : A) → slice_get (xs ++ x ∷ []) (length xs) ≡ Some x
get_last [] x = refl
get_last (a ∷ xs) x = get_last xs x

pub IsHome-grows : (old new : List Table) (rule : RuleView) (home : Home) → Grows old new → IsHome old rule home → IsHome new rule home
IsHome-grows old new rule home g h = record {
  table = h.table;
  at = ap (λ (xs : List Table). slice_get xs home.table) g.is ∙ get_front old g.more home.table h.table h.at;
  group = h.group;
  priority = h.priority;
  accepted = h.accepted;
  exact = h.exact;
}

pub IsAt-push : (tables : List Table) (table : Table) (wanted : Wanted) (after : List Table) (number : ℕ) → number ≡ length tables → after ≡ tables ++ table ∷ [] → IsOf table wanted → IsAt after wanted number
IsAt-push tables table wanted after number n e is = record {
  table = table;
  at = ap (λ (xs : List Table). slice_get xs number) e ∙ ap (slice_get (tables ++ table ∷ [])) n ∙ get_last tables table;
  is = is;
}
