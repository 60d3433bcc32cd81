-- What is seen of a sink and the page before it.
use Rattle.std.specs.Prelude.{◌≡◌, ℕ, Bool, false, List, Option, take}
use Rattle.io_edges.specs.declared.page.Page.{Page}
use Rattle.io_edges.specs.declared.page.Sending.{Sending}

-- The bytes that the sink took (where told) and its count of faults; whether a write of the page failed, and the number
-- of the page's bytes that the sink took; and the bytes that wait in the page.
pub record Gather : Type 0 where
  pub taken : Option (List ℕ)
  pub faults : ℕ
  pub failed : Bool
  pub sent : ℕ
  pub pending : List ℕ

abbrev pub gather_with : {S : Type 0} → (S → Option (List ℕ)) → (S → ℕ) → S → Sending → List ℕ → Gather
gather_with taken faults sink sending pending = record {
  taken = taken sink;
  faults = faults sink;
  failed = sending.failed;
  sent = sending.sent;
  pending = pending;
}

abbrev pub gather_of : {S : Type 0} → (S → Option (List ℕ)) → (S → ℕ) → S → Page → Gather
gather_of taken faults sink page = gather_with taken faults sink page.sending (take page.fill page.buffer)

-- nothing was printed on the page
pub record IsFresh (page : Page) : Type 0 where
  pub empty : page.fill ≡ 0
  pub unfailed : page.sending.failed ≡ false
  pub unsent : page.sending.sent ≡ 0
