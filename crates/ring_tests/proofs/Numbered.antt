-- Passes with the numbers of their places.
use Rattle.std.proofs.Common.{◌≡◌, ◌+◌, ℕ, List, [], ◌∷◌, ◌++◌, length, map, ap, sym, ◌∙◌, Option, Some, option_to_list}
use Rattle.std.proofs.lemmas.List.{length-append, same_from_push, map_push}
use Rattle.std.specs.List.{range_with_len}
use Rattle.frame_ring.specs.declared.pass.RingPass.{RingPass}
use Rattle.frame_ring.specs.Passes.{number_of}
use Rattle.frame_ring.proofs.Making.{numbers_next}
use Rattle.ring_tests.specs.Numbered.{AreNumbered}

pub Numbered-new : (passes : List RingPass) (n : ℕ) → length passes ≡ n → map number_of passes ≡ range_with_len 0 n → AreNumbered passes
unfolding AreNumbered
Numbered-new passes n count is = is ∙ ap (range_with_len 0) (sym count)

-- the last one is that with the greatest number
pub Numbered-pop : (all rest : List RingPass) (r : Option RingPass) (p : RingPass) → all ≡ rest ++ option_to_list r → r ≡ Some p → AreNumbered all → AreNumbered rest × (number_of p ≡ length rest)
unfolding AreNumbered
Numbered-pop all rest r p popped some is =
    let e : all ≡ rest ++ p ∷ [] = popped ∙ ap (λ o. rest ++ option_to_list o) some in
    let count : length rest + 1 ≡ length all = sym (length-append rest (p ∷ [])) ∙ ap length (sym e) in
    same_from_push (map number_of rest) (range_with_len 0 (length rest)) (number_of p) (length rest)
    (sym (map_push number_of rest p) ∙ ap (map number_of) (sym e) ∙ is ∙ sym (numbers_next _ _ count))
