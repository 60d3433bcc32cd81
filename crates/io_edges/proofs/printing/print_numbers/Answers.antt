use Rattle.std.proofs.Common.{ℕ, List, ◌≡◌, ◌≤◌, ◌++◌, ◌∷◌, ◌∙◌, length, sym, ap, map, take}
use Rattle.std.proofs.lemmas.List.{take_all}
use Rattle.std.specs.List.{flat_map}
use Rattle.io_edges.specs.Gather.{Gather}
use Rattle.io_edges.specs.Prints.{Prints}
use Rattle.io_edges.specs.Commas.{with_commas}
use Rattle.io_edges.proofs.Joins.{Prints-then, Prints-as, with_commas-first}
use Rattle.io_edges.proofs.printing.print_numbers.Goals as goal

-- the first number, and then all the rest
listed : {A : Type 0} {a b d : Gather} (text : A → List ℕ) (xs rest : List A) (x : A) (i : ℕ) → xs ≡ x ∷ rest → length rest ≤ i
    → Prints a b (text x) → Prints b d (flat_map (λ n. 44 ∷ text n) (take i rest)) → Prints a d (with_commas (map text xs))
listed text xs rest x i is over first others =
    let whole = ap (λ l. text x ++ flat_map (λ n. 44 ∷ text n) l) (take_all i rest over) ∙ with_commas-first text x rest
    ∙ ap (λ l. with_commas (map text l)) (sym is) in
    Prints-as whole (Prints-then first others)

pub returns-clause-prints : goal.returns-clause-prints
returns-clause-prints g c =
    listed g.I.Integer.text _ _ _ _ c.in-Some.ensures.cases.0 c.loop-number-test.false c.print_number.ensures.prints c.loop-number.invariant.prints
