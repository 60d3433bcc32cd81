-- A cursor that moves on by some bytes, seen as bytes given and bytes left.
use Rattle.std.proofs.Common.{◌≡◌, ℕ, ◌+◌, ◌-◌, ◌<◌, ◌≤◌, min, List, ◌++◌, length, take, drop, Option, refl, sym, ◌∙◌, ap, take-add, [], take-append-drop, arith}
use Rattle.std.proofs.lemmas.List.{length-take-le, length-drop, drop-drop, drop_all}
use Rattle.io_edges.specs.declared.cursor.Cursor.{Cursor}
use Rattle.io_edges.specs.Plan.{allowed}
use Rattle.io_edges.specs.Reading.{reading_of}

-- behind `place` bytes there are just as many given, and the rest is left
pub allowed-reading : (fail_at : Option ℕ) (bytes : List ℕ) (place most : ℕ) → place ≤ length bytes →
    allowed fail_at (length (take place bytes)) (min most (length (drop place bytes)))
    ≡ allowed fail_at place (min most (length bytes - place))
allowed-reading fail_at bytes place most within =
    rw (length-take-le place bytes within, length-drop place bytes) refl

pub reading_of-add : (cursor : Cursor) (bytes : List ℕ) (count : ℕ) →
    reading_of bytes (record cursor { place = cursor.place + count })
    ≡ record (reading_of bytes cursor) {
      given = take cursor.place bytes ++ take count (drop cursor.place bytes);
      left = drop count (drop cursor.place bytes);
    }
reading_of-add cursor bytes count = rw (take-add cursor.place count bytes, drop-drop count cursor.place bytes) refl

-- what a read gave stands in front of what is left
pub drop-add : (bytes front : List ℕ) (place count : ℕ) → front ≡ take count (drop place bytes) →
    drop place bytes ≡ front ++ drop (place + count) bytes
drop-add bytes front place count given =
    sym (take-append-drop count (drop place bytes))
    ∙ ap (λ (x : List ℕ). x ++ drop count (drop place bytes)) (sym given)
    ∙ ap (λ (x : List ℕ). front ++ x) (drop-drop count place bytes)

-- a read that gave nothing stands at the end
pub nothing_left : (bytes : List ℕ) (place most : ℕ) → 0 < most → min most (length bytes - place) ≡ 0 →
    drop place bytes ≡ []
nothing_left bytes place most some none = drop_all place bytes (omega arith)
