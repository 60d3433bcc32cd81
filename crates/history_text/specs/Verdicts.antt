-- What is told of a frame's verdict. What it doesn't have is a `-`.
use Rattle.std.specs.Prelude.{ℕ, ◌+◌, ◌/◌, ◌%◌, List, [], ◌∷◌, ◌++◌, map, nat_lt, if◌then◌else◌, Option, None, Some, codes, decimal}
use Rattle.io_edges.specs.Commas.{with_commas}
use Rattle.flow_actions.specs.declared.verdict.Verdict.{Verdict}
use Rattle.flow_actions.specs.declared.verdict.Fate.{Fate}
use Rattle.flow_actions.specs.declared.verdict.Fate.TheVariants as fates

-- the last hexadecimal digit of a number, in lower case
abbrev pub last_digit : ℕ → ℕ
last_digit n = if nat_lt (n % 16) 10 then 48 + n % 16 else 87 + n % 16

-- the eight hexadecimal digits of a number of 32 bits
abbrev pub hexadecimal : ℕ → List ℕ
hexadecimal n = last_digit (n / 0x10000000) ∷ last_digit (n / 0x1000000) ∷ last_digit (n / 0x100000)
    ∷ last_digit (n / 0x10000) ∷ last_digit (n / 0x1000) ∷ last_digit (n / 0x100) ∷ last_digit (n / 0x10) ∷ last_digit n ∷ []

abbrev pub fate_text : Fate → List ℕ
fate_text (fates.Queue queue) = codes "queue " ++ decimal queue
fate_text fates.Drop = codes "drop"

abbrev pub mark_text : Option ℕ → List ℕ
mark_text None = codes "-"
mark_text (Some mark) = decimal mark

abbrev pub hash_text : Option ℕ → List ℕ
hash_text None = codes "-"
hash_text (Some hash) = hexadecimal hash

-- what stands between the fate and the way
abbrev pub marks_text : Option ℕ → Option ℕ → List ℕ
marks_text mark hash = codes " mark " ++ (mark_text mark ++ (codes " hash " ++ (hash_text hash ++ codes " path ")))

-- the ids of the rules on a frame's way
abbrev pub path_text : List ℕ → List ℕ
path_text [] = codes "-"
path_text (id ∷ ids) = with_commas (map decimal (id ∷ ids))

abbrev pub verdict_text : Verdict → List ℕ
verdict_text verdict = fate_text verdict.fate ++ (codes " mark " ++ (mark_text verdict.mark
    ++ (codes " hash " ++ (hash_text verdict.hash ++ (codes " path " ++ path_text verdict.path.items)))))
