-- One turn more among turns that rise.
use Rattle.std.proofs.Common.{◌≡◌, ℕ, inl, inr, ◌^◌, ◌<◌, suc, length, map, get_or, length-append, List, [], ◌∷◌, ◌++◌, sym, ap, ◌∙◌, arith}
use Rattle.std.proofs.lemmas.Bool.Decides.{eqb_tells}
use Rattle.std.proofs.lemmas.List.Elements.{All-cons}
use Rattle.std.proofs.lemmas.List.Sorted.{IsNonDecreasingBy-insert, All-permutation, Contains-permutation, IsPermutation-insert, IsPermutation-map}
use Rattle.std.specs.List.{slice_get, insert, Contains}
use Rattle.rule_index.specs.declared.table.Table.{Table}
use Rattle.rule_index.specs.declared.turn.Turn.{Turn}
use Rattle.rule_index.specs.Turns.{order_of, order_in, number_in, IsTurnOf, AreInTurn, IsCut}
use Rattle.rule_index.proofs.Homes.{get_front, get_last}

more_tables : (tables : List Table) (table : Table) (turn : Turn) → IsTurnOf tables turn → IsTurnOf (tables ++ table ∷ []) turn
more_tables tables table turn h = record { table = h.table; at = get_front tables (table ∷ []) turn.number h.table h.at; is = h.is; low = h.low }

pub new_turn : (list : List Table) (table : Table) (turn : Turn) (n : ℕ) → n ≡ length list → turn ≡ record { order = order_of table.group table.priority; number = n } → table.priority < 2 ^ 32
    → IsTurnOf (list ++ table ∷ []) turn
new_turn list table turn n long is low = record {
  table = table;
  at = ap (slice_get (list ++ table ∷ [])) (ap (λ (t : Turn). t.number) is ∙ long) ∙ get_last list table;
  is = ap (λ (t : Turn). t.order) is;
  low = low;
}

one_more : (ns : List ℕ) (n m : ℕ) → Contains ns m → Contains (n ∷ ns) m
one_more ns n m c = (suc c.0, (let lt : c.0 < length ns = c.1 in omega arith), c.2)

pub AreInTurn-push : (list : List Table) (turns : List Turn) (table : Table) (turn : Turn) (place : ℕ) → AreInTurn (record { list = list; turns = turns }) → IsCut turns turn.order place
    → turn.number ≡ length list → IsTurnOf (list ++ table ∷ []) turn → AreInTurn (record { list = list ++ table ∷ []; turns = insert turns place turn })
AreInTurn-push list turns table turn place old cut is new = record {
  rising = IsNonDecreasingBy-insert order_in turns place turn old.rising cut.inside
      (λ k d lt. let h : (get_or turns k d).order < turn.order = cut.before k d (omega arith) lt in omega arith)
      (λ k d le lt. cut.behind k d le lt);
  each = All-permutation (IsTurnOf (list ++ table ∷ [])) (turn ∷ turns) (insert turns place turn) (IsPermutation-insert turns place turn)
      (All-cons (IsTurnOf (list ++ table ∷ [])) turn turns new (λ k d lt. more_tables list table (get_or turns k d) (old.each k d lt)));
  all = λ number lt. Contains-permutation (map number_in (turn ∷ turns)) (map number_in (insert turns place turn)) number
      (IsPermutation-map number_in (turn ∷ turns) (insert turns place turn) (IsPermutation-insert turns place turn))
      (elim (eqb_tells number (length list)) [
        | inl e ↦ (0, omega arith, is ∙ sym e.1)
        | inr e ↦ (let other = e.1 in let long = length-append list (table ∷ []) in one_more (map number_in turns) turn.number number (old.all number (omega (arith, long, lt, other))))
      ]);
}
