use Rattle.std.proofs.Common.{ℕ, Option, sym, ◌∙◌, ap}
use Rattle.io_edges.specs.MemFiles.{plain, bytes_at}
use Rattle.io_edges.proofs.NamedFiles.{bytes_at-plain}
use Rattle.io_edges.proofs.mem_shelf.file_bytes.Goals as goal

pub returns : goal.returns
returns c = c.as_slice.ensures.value
    ∙ sym (bytes_at-plain c.args.files.now c.in-Some.place c.index-files-place.result (c.requires c.in-Some.place c.in-Some.is))
    ∙ ap (λ (file : Option ℕ). bytes_at (plain c.args.files.now) file) (sym c.in-Some.is)
