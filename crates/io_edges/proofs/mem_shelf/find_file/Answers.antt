use Rattle.std.proofs.Common.{◌≡◌, ℕ, List, true, false, sym, ◌∙◌, ap, string_bytes}
use Rattle.std.specs.Str.{bytes_eq}
use Rattle.io_edges.proofs.NamedFiles.{file_named-past, file_named-here}
use Rattle.io_edges.proofs.mem_shelf.find_file.Goals as goal

pub loop-place-preserved : goal.loop-place-preserved
loop-place-preserved c =
    let other : bytes_eq (string_bytes c.index-files-place.result.0) c.args.name.now ≡ false =
    sym (ap (λ (x : List ℕ). bytes_eq x c.args.name.now) c.as_str.ensures.value) ∙ sym c.eq.ensures ∙ c.if-eq.false in
    c.loop-place.invariant ∙ file_named-past c.args.files.now c.args.name.now c.loop-place.place c.index-files-place.result
    c.loop-place-test.true c.index-files-place.is other

pub returns-then-eq : goal.returns-then-eq
returns-then-eq c =
    let same : bytes_eq (string_bytes c.index-files-place.result.0) c.args.name.now ≡ true =
    sym (ap (λ (x : List ℕ). bytes_eq x c.args.name.now) c.as_str.ensures.value) ∙ sym c.eq.ensures ∙ c.if-eq.true in (
      c.loop-place-test.true,
      c.loop-place.invariant ∙ file_named-here c.args.files.now c.args.name.now c.loop-place.place c.index-files-place.result
          c.loop-place-test.true c.index-files-place.is same,
    )
