use Rattle.std.proofs.Common.{◌≡◌, drop}
use Rattle.io_edges.specs.MemFiles.{plain}
use Rattle.io_edges.specs.MemShelfState.{file_named}
use Rattle.io_edges.proofs.mem_shelf.find_file.Given as goal

-- no file so far has the name
abbrev pub invariant-loop-place : goal.invariant-loop-place
invariant-loop-place l = file_named l.name (plain l.files) ≡ file_named l.name (plain (drop l.place l.files))
