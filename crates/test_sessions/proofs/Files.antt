-- Bytes that begin as a capture do so with more behind them.
use Rattle.std.proofs.Common.{◌≡◌, ℕ, List, ◌++◌, ap, ◌∙◌, append_assoc}
use Rattle.test_sessions.specs.Captures.{BeginsAsFile, file_header}

pub BeginsAsFile-longer : {xs ys : List ℕ} (more : List ℕ) → BeginsAsFile xs → ys ≡ xs ++ more → BeginsAsFile ys
BeginsAsFile-longer more (records, is) longer = (records ++ more, longer ∙ ap (λ bytes. bytes ++ more) is ∙ append_assoc file_header records more)
