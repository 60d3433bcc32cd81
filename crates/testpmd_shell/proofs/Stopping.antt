-- Why no history came, out of what opening and reading the files says.
use Rattle.std.proofs.Common.{◌≡◌, ℕ, ◌+◌, ◌<◌, true, false, List, Option, None, Some, IfSome, ap, ◌∙◌, subst, arith, inl, inr}
use Rattle.io_edges.specs.ShelfState.{ShelfState, SlotState, WrittenState}
use Rattle.flow_grammar.specs.Program.{program_of}
use Rattle.whole_history.specs.Reach.{has_phase}
use Rattle.testpmd_shell.specs.declared.fetch.Stopped.{Stopped}
use Rattle.testpmd_shell.specs.declared.fetch.Stopped.TheVariants as stopped
use Rattle.testpmd_shell.specs.Options.{Given}
use Rattle.testpmd_shell.specs.Run.{early_faults}
use Rattle.testpmd_shell.specs.Found.{is_over}
use Rattle.testpmd_shell.specs.Transmitted.{IsAsOpened}
use Rattle.testpmd_shell.specs.Session.{AsksForNone, IsWhy, IsSizedFirst, IsReadBy}
use Rattle.testpmd_shell.specs.Fetch.{IsScriptStop, IsOver, IsFilesStop, OthersThanScript, OthersThanBoth, status_of_stop}

told : (known : Option (List ℕ)) (P : List ℕ → Type 0) → ((script : List ℕ) → P script) → IfSome known P
told None P p = tt
told (Some script) P p = p script

-- the script wasn't read
pub IsWhy-script : (given : Given) (s t : ShelfState) (why : Stopped) → IsScriptStop IsOver (s.contents given.script) (early_faults s) (early_faults t) why
    → OthersThanScript s t → IsWhy given s t (status_of_stop why)
IsWhy-script given s t stopped.ReadFault stop others = (stop, ap (λ (slot : SlotState). slot.faults) others.capture, inl (record { capture = others.capture; written = others.written }))
IsWhy-script given s t stopped.WriteFault stop others = absurd stop
IsWhy-script given s t stopped.TooLarge stop others =
    (ap (λ n. n + t.capture.faults) stop.0 ∙ ap (λ (slot : SlotState). early_faults s + slot.faults) others.capture, others.written, stop.1)
IsWhy-script given s t stopped.NoMemory stop others = (stop, inl (record { capture = others.capture; written = others.written }))

pub sized-script : (given : Given) (s t : ShelfState) → OthersThanScript s t → IsSizedFirst given s t
sized-script given s t others =
    told (s.contents given.script) (λ script. is_over script ≡ true → AsksForNone s t) (λ script over. record { capture = others.capture; written = others.written })

-- where no read of the capture failed
pub reads-same : (given : Given) (s t : ShelfState) → t.capture.faults ≡ s.capture.faults → IsReadBy (Some given) s t
reads-same given s t same =
    told (s.contents given.script) (λ script. has_phase (program_of script) ≡ false → t.capture.faults ≡ s.capture.faults) (λ script none. same)

-- what follows from the openings behind the script
pub behind-script : (s s1 t : ShelfState) → early_faults s1 ≡ early_faults s → OthersThanBoth s1 t → t.open_faults ≡ s1.open_faults → early_faults t ≡ early_faults s
behind-script s s1 t calm others same =
    ap (λ n. n + t.script.faults) same ∙ ap (λ (slot : SlotState). s1.open_faults + slot.faults) others.script ∙ calm

-- the transmit file or the capture wasn't opened
pub IsWhy-files : (given : Given) (s s1 t : ShelfState) (why : Stopped) → early_faults s1 ≡ early_faults s → OthersThanScript s s1
    → IsFilesStop given.transmit s1 t why → OthersThanBoth s1 t → t.capture.faults ≡ s1.capture.faults → IsWhy given s t (status_of_stop why)
IsWhy-files given s s1 t stopped.ReadFault calm script stop both faults =
    let same : t.script.faults ≡ s1.script.faults = ap (λ (slot : SlotState). slot.faults) both.script in (
      omega (arith, stop.0),
      faults ∙ ap (λ (slot : SlotState). slot.faults) script.capture,
      inr (subst (λ w. IsAsOpened given.transmit w t.written) script.written stop.1),
    )
IsWhy-files given s s1 t stopped.WriteFault calm script stop both faults =
    let early = behind-script s s1 t calm both stop.1 in record {
      failed = subst (λ (w : WrittenState). w.open_faults < t.written.open_faults) script.written stop.0.0;
      calm = ap (λ n. n + t.capture.faults) early ∙ ap (λ n. early_faults s + n) (faults ∙ ap (λ (slot : SlotState). slot.faults) script.capture);
      writes = stop.0.1 ∙ ap (λ (w : WrittenState). w.faults) script.written;
      capture = stop.2 ∙ script.capture;
    }
IsWhy-files given s s1 t stopped.TooLarge calm script stop both faults = absurd stop
IsWhy-files given s s1 t stopped.NoMemory calm script stop both faults =
    (behind-script s s1 t calm both stop.0, inr (subst (λ w. IsAsOpened given.transmit w t.written) script.written stop.1))
