use Rattle.std.proofs.Common.{ℕ, ◌+◌, List, ◌++◌, take, drop, refl, sym, ◌∙◌, ap, arith, take-add, add-zero}
use Rattle.io_edges.specs.Plan.{allowed}
use Rattle.io_edges.proofs.Readings.{allowed-reading, reading_of-add, drop-add, nothing_left}
use Rattle.io_edges.proofs.cursor.Cursor.read.Goals as goal

pub returns-clause-exact : goal.returns-clause-exact
returns-clause-exact c = (
  allowed-reading c.args.self.now.fail_at c.args.bytes.now c.args.self.now.place c.args.most c.requires.within
      ∙ ap (λ (n : ℕ). allowed c.args.self.now.fail_at c.args.self.now.place n) (sym c.min.ensures)
      ∙ sym c.in-Some.ensures.value,
  c.copy_from.ensures,
  reading_of-add c.args.self.now c.args.bytes.now c.in-Some.count,
)

pub returns-clause-given : goal.returns-clause-given
returns-clause-given c = take-add c.args.self.now.place c.in-Some.count c.args.bytes.now
    ∙ ap (λ (x : List ℕ). take c.args.self.now.place c.args.bytes.now ++ x) (sym c.copy_from.ensures)

pub returns-clause-left : goal.returns-clause-left
returns-clause-left c = record {
  bytes = (
    drop-add c.args.bytes.now (take c.in-Some.count c.copy_from.new.buf) c.args.self.now.place c.in-Some.count c.copy_from.ensures,
    λ none _. ap (λ (n : ℕ). drop (c.args.self.now.place + n) c.args.bytes.now) none
        ∙ rw add-zero (nothing_left c.args.bytes.now c.args.self.now.place c.args.most c.requires.some_byte
        (sym c.min.ensures ∙ c.in-Some.ensures.some_byte none)),
  );
  bound = omega (arith, c.in-Some.ensures.bound);
  told = refl;
}
