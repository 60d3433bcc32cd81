-- The bytes that a read gave stand behind those that were there.
use Rattle.std.proofs.Common.{◌≡◌, ℕ, ◌+◌, ◌≤◌, List, ◌++◌, length, take, sym, subst, ap, ◌∙◌, rules, length-take-le}
use Rattle.std.specs.Io.KnownBytes.{Consumes}
use Rattle.std.proofs.KnownBytes.{Consumes-trans}
use borrow.Rule.Slice.PartMut.{put_mid, post_of}
use lib.Seq.{take-append-le, take-append-add}
use Rattle.capture_files.proofs.fill.fill.Goals as goal

-- the first bytes of a buffer whose part from a on was written
take-put_mid_within : (a k n : ℕ) (xs ys : List ℕ) → a ≤ length xs → n ≤ length ys → take (a + n) (put_mid a k xs ys) ≡ take a xs ++ take n ys
take-put_mid_within a k n xs ys within fits =
    ap (λ m. take (m + n) (put_mid a k xs ys)) (sym (length-take-le a xs within))
    ∙ take-append-add (take a xs) (ys ++ post_of a k xs) n
    ∙ ap (λ l. take a xs ++ l) (take-append-le n ys (post_of a k xs) fits)

pub loop-got-preserved : goal.loop-got-preserved
loop-got-preserved g c =
    record {
      within = search rules;
      bytes = subst (Consumes _ _) (sym (take-put_mid_within _ _ _ _ _ c.loop-got.invariant.within c.in-Ok.ensures.reads.bound))
          (Consumes-trans _ _ _ _ _ c.loop-got.invariant.bytes c.in-Ok.ensures.reads.bytes.0);
      told = search rules;
      calm = search rules;
      keeps = search rules;
    }
