-- The first file of a name, found from the front on.
use Rattle.std.proofs.Common.{◌≡◌, ℕ, ◌+◌, ◌<◌, true, false, List, [], length, drop, get_or, Some, refl, sym, ◌∙◌, ap, add-one, drop-cons, String, Vec, Global, string_bytes}
use Rattle.std.specs.Str.{bytes_eq}
use Rattle.std.proofs.lemmas.List.{get_or-map}
use Rattle.io_edges.specs.MemFiles.{plain, bytes_at}
use Rattle.io_edges.specs.MemShelfState.{file_named}

pub bytes_at-plain : (files : List (String Global × Vec ℕ Global)) (i : ℕ) (file : String Global × Vec ℕ Global) →
    i < length files → bytes_at (plain files) (Some i) ≡ (get_or files i file).1.items
bytes_at-plain files i file below =
    ap (λ (f : List ℕ × List ℕ). f.1) (get_or-map (λ (f : String Global × Vec ℕ Global). (string_bytes f.0, f.1.items))
    files i file ([], []) below)

-- the file in front has another name
pub file_named-past : (files : List (String Global × Vec ℕ Global)) (name : List ℕ) (i : ℕ) (file : String Global × Vec ℕ Global) →
    i < length files → file ≡ get_or files i file → bytes_eq (string_bytes file.0) name ≡ false →
    file_named name (plain (drop i files)) ≡ file_named name (plain (drop (i + 1) files))
file_named-past files name i file below is other =
    rw (add-one, drop-cons files i file below, sym is, other) refl

-- the file in front has the name
pub file_named-here : (files : List (String Global × Vec ℕ Global)) (name : List ℕ) (i : ℕ) (file : String Global × Vec ℕ Global) →
    i < length files → file ≡ get_or files i file → bytes_eq (string_bytes file.0) name ≡ true →
    file_named name (plain (drop i files)) ≡ Some (bytes_at (plain files) (Some i))
file_named-here files name i file below is same =
    rw (drop-cons files i file below, sym is, same) (ap Some (ap (λ (f : String Global × Vec ℕ Global). f.1.items) is ∙ sym (bytes_at-plain files i file below)))
