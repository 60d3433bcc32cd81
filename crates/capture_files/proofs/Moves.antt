-- What a source gave, and what its bytes were.
use Rattle.std.proofs.Common.{◌≡◌, ℕ, List, ◌++◌, Option, None, Some, IfSome, subst, sym, ap, ◌∙◌, append_assoc}
use Rattle.std.specs.Io.KnownBytes.{Consumes}
use Rattle.std.proofs.KnownBytes.{Consumes-trans}
use Rattle.capture_files.specs.declared.parts.Halt.{Halt}
use Rattle.capture_files.specs.declared.parts.Halt.TheVariants.{Stopped, Faulted}
use Rattle.capture_files.specs.Record.{Frame}
use Rattle.capture_files.specs.Capture.{Capture, with_frame}
use Rattle.capture_files.specs.Parts.{Gave, HaltTells, IsUnfinished}

-- what holds of the bytes that were given, whatever is behind them, holds of the bytes that were left
pub IfSome-Consumes : (old new : Option (List ℕ)) (given : List ℕ) (P : List ℕ → Type 0) → Consumes old new given
    → ((rest : List ℕ) → P (given ++ rest)) → IfSome old P
IfSome-Consumes None new given P consumed holds = tt
IfSome-Consumes (Some xs) None given P consumed holds = absurd consumed
IfSome-Consumes (Some xs) (Some ys) given P consumed holds = subst P (sym consumed) (holds ys)

-- what is told of the bytes that a source has left, it tells of those that it had
IfSome-behind : (old mid : Option (List ℕ)) (given : List ℕ) (P Q : List ℕ → Type 0) → Consumes old mid given
    → ((rest : List ℕ) → Q rest → P (given ++ rest)) → IfSome mid Q → IfSome old P
IfSome-behind None mid given P Q consumed holds tells = tt
IfSome-behind (Some xs) None given P Q consumed holds tells = absurd consumed
IfSome-behind (Some xs) (Some ys) given P Q consumed holds tells = subst P (sym consumed) (holds ys tells)

module _ (old mid new : Option (List ℕ)) (before between : List ℕ → Capture) (front : Gave old mid (λ given. (rest : List ℕ) → before (given ++ rest) ≡ between rest)) where
  -- a part came, and the next did not
  pub HaltTells-behind : (halt : Halt) → HaltTells between mid new halt → HaltTells before old new halt
  HaltTells-behind (Stopped stop) tells =
      IfSome-behind old mid front.given _ _ front.consumed (λ rest is. front.holds rest ∙ is) tells
  HaltTells-behind Faulted tells = record {
    given = front.given ++ tells.given;
    consumed = Consumes-trans old mid new front.given tells.given front.consumed tells.consumed;
    holds = subst IsUnfinished (sym (front.holds tells.given)) tells.holds;
  }

  -- a part came, and a frame behind it
  pub Gave-behind : (frame : Frame) (after : List ℕ → Capture) → Gave mid new (λ given. (rest : List ℕ) → between (given ++ rest) ≡ with_frame frame (after rest))
      → Gave old new (λ given. (rest : List ℕ) → before (given ++ rest) ≡ with_frame frame (after rest))
  Gave-behind frame after tells = record {
    given = front.given ++ tells.given;
    consumed = Consumes-trans old mid new front.given tells.given front.consumed tells.consumed;
    holds = λ rest. ap before (append_assoc front.given tells.given rest) ∙ front.holds (tells.given ++ rest) ∙ tells.holds rest;
  }
