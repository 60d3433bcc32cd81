use Rattle.std.proofs.Common.{◌≡◌, ℕ, List, [], Option, None, Some, refl, sym, ap, ◌∙◌, subst, arith, option_copied}
use Rattle.std.specs.Option.{option_map}
use Rattle.capture_files.specs.Reader.{ReaderState}
use Rattle.io_edges.specs.ShelfState.{SlotState}
use Rattle.history_text.specs.declared.ending.Ending.TheVariants as endings
use Rattle.testpmd_shell.specs.Parts.{StartsOver}
use Rattle.testpmd_shell.proofs.Reading.{HasRead-none}
use Rattle.testpmd_shell.proofs.fetch.open_capture.Goals as goal

-- nothing is given out of a slot that was just opened
nothing : (o : Option (List ℕ)) (gone : List ℕ) → option_map (λ _. []) o ≡ Some gone → gone ≡ []
nothing None gone e = cc
nothing (Some x) gone e = cc

pub returns-clause-opened : goal.returns-clause-opened
returns-clause-opened g c = (
  record {
    room = omega (arith, c.in_ok-buffer.ensures.len, c.in_ok-buffer.buffer.ok.0);
    counted = λ _. ap (λ (r : ReaderState). r.progress.frames) (sym c.new.ensures);
    going_on = λ _. refl;
  },
  ap (λ (s : SlotState). s.opened) c.in-Ok.ensures.opens,
)

pub returns-clause-starts : goal.returns-clause-starts
returns-clause-starts g c =
    let before = g.S.Shelf.state c.args.shelf.now in
    let slot = (g.S.Shelf.state c.open_read.new.self).capture in
    subst (λ (n : Option (List ℕ)). StartsOver n (Some (record { reader = c.new.result; taken = 0; buffer = c.in_ok-buffer.buffer; ending = endings.Whole })) before (g.S.Shelf.state c.open_read.new.self)) (sym (ap option_copied c.in-Some.is)) (
      refl,
      refl,
      ap (λ (r : ReaderState). r.ended) c.new.ensures,
      (λ content known. HasRead-none _ slot content c.new.ensures
          (λ gone given. nothing before.capture.given gone (sym (ap (λ (s : SlotState). s.given) c.in-Ok.ensures.opens) ∙ given))
          (ap (λ (s : SlotState). s.left) c.in-Ok.ensures.opens ∙ known)),
    )
