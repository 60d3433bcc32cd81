-- From the files that were opened to the run of their script.
use Rattle.std.proofs.Common.{◌≡◌, ℕ, ◌-◌, ◌^◌, ◌<◌, ◌≤◌, false, List, [], Option, None, Some, IfSome, is_some, sym, ap, ◌∙◌, subst, inr}
use Rattle.capture_files.specs.Record.{Frame}
use Rattle.io_edges.specs.declared.shelf.Slot.TheVariants.{Capture}
use Rattle.io_edges.specs.Lent.{KeepsSlot}
use Rattle.io_edges.specs.ShelfState.{ShelfState, SlotState}
use Rattle.flow_rules.specs.declared.limits.Limits.{Limits}
use Rattle.flow_calls.specs.declared.entry.Entry.{Entry}
use Rattle.adapter.specs.Seen.{Seen}
use Rattle.flow_grammar.specs.declared.part.Part.{Part}
use Rattle.flow_grammar.specs.Limits.{calls_in}
use Rattle.flow_grammar.specs.Program.{program_of}
use Rattle.whole_history.specs.Reach.{has_phase}
use Rattle.history_text.specs.declared.ending.Ending.{Ending}
use Rattle.testpmd_shell.specs.declared.feed.Feed.{Feed}
use Rattle.testpmd_shell.specs.declared.status.Status.TheVariants as status
use Rattle.testpmd_shell.specs.Options.{Given}
use Rattle.testpmd_shell.specs.Feed.{IsFaultOf}
use Rattle.testpmd_shell.specs.Run.{early_faults}
use Rattle.testpmd_shell.specs.Found.{found_in, is_over}
use Rattle.testpmd_shell.specs.Parts.{IsOpen, StartsOver}
use Rattle.testpmd_shell.specs.Sending.{AreKept}
use Rattle.testpmd_shell.specs.Session.{AsksForNone, IsReadBy, IsSizedFirst, IsWhy}
use Rattle.testpmd_shell.specs.Transmitted.{IsAsOpened}
use Rattle.testpmd_shell.specs.Ways.{AreRun, Way}
use Rattle.testpmd_shell.specs.Fetch.{HasFinished, HasOpened, HasRun, OthersThanBoth, OthersThanScript, Runs}
use Rattle.testpmd_shell.proofs.Keeping.{AreKept-start}
use Rattle.testpmd_shell.proofs.Running.{HasRun-fault, HasRun-runs, unread-reads, within-sized}
use Rattle.testpmd_shell.proofs.Stopping.{behind-script}

-- the capture is that of a shelf with the same files
pub StartsOver-same : (name : Option (List ℕ)) (feed : Option Feed) (s o t : ShelfState) → o.contents ≡ s.contents → StartsOver name feed o t → StartsOver name feed s t
StartsOver-same None None s o t same starts = tt
StartsOver-same None (Some feed) s o t same starts = absurd starts
StartsOver-same (Some name) None s o t same starts = absurd starts
StartsOver-same (Some name) (Some feed) s o t same starts =
    (starts.0, starts.1, starts.2, λ content is. starts.3 content (ap (λ (contents : List ℕ → Option (List ℕ)). contents name) same ∙ is))

-- they are open
pub HasOpened-both : (given : Given) (s s1 o : ShelfState) (program : List Part) (feed : Option Feed) → early_faults s1 ≡ early_faults s → OthersThanScript s s1 → OthersThanBoth s1 o
    → o.open_faults ≡ s1.open_faults → IsAsOpened given.transmit s1.written o.written → o.capture.faults ≡ s1.capture.faults → StartsOver given.capture feed s1 o → IsOpen feed o
    → IfSome (s.contents given.script) (λ script. is_over script ≡ false) → IfSome (s.contents given.script) (λ script. program ≡ program_of script) → calls_in program ≤ 65536
    → HasOpened given s o program feed
HasOpened-both given s s1 o program feed calm script both same written faults starts open_feed within is few = record {
  calm = behind-script s s1 o calm both same;
  within = within;
  reads = is;
  few = few;
  open_feed = open_feed;
  starts = StartsOver-same given.capture feed s s1 o script.contents starts;
  written = subst (λ w. IsAsOpened given.transmit w o.written) script.written written;
  faults = faults ∙ ap (λ (slot : SlotState). slot.faults) script.capture;
}

-- ---- the run

still-opened : (given : Given) (s o t : ShelfState) → KeepsSlot Capture o t → IsAsOpened given.transmit s.written o.written → IsAsOpened given.transmit s.written t.written
still-opened given s o t keeps opened = subst (λ w. IsAsOpened given.transmit s.written w) (sym (ap (λ (shelf : ShelfState). shelf.written) keeps.others)) opened

pub HasRun-finished : (way : Way) (P : Limits → List Part → List Frame → List Entry → Type 0)
    → ((limits : Limits) (program : List Part) (frames : List Frame) (history : List Entry) → AreRun way limits 1 frames program [] history → P limits program frames history)
    → (given : Given) (s o t : ShelfState) (program : List Part) (start : Option Feed) (adapter : Seen) (sent : Option (List ℕ)) (ending : Ending)
    → s.capture.faults < 2 ^ 64 - 1 → HasOpened given s o program start → HasFinished way given program start o t adapter sent ending → HasRun P given s t adapter sent ending
HasRun-finished way P whole given s o t program start adapter sent ending fresh opened ran =
    let fault : IsFaultOf ending s.capture.faults t.capture.faults =
    HasRun-fault given.capture start ending s o s.capture.faults o.capture.faults t.capture.faults opened.starts opened.faults ran.fault in
    let kept : AreKept ran.none_sent 0 [] ran.opened =
    subst (λ k. AreKept k 0 [] ran.opened) (sym ran.empty) (AreKept-start (is_some given.transmit) ran.opened ran.opening.1) in
    record {
      calm = ap early_faults ran.others.others ∙ opened.calm;
      within = opened.within;
      limits = ran.limits;
      fault = fault;
      opened = still-opened given s o t ran.others opened.written;
      keeps = ran.keeps;
      runs = subst (λ (e : Ending). IfSome (found_in given s t) (λ found. Runs P given found s t adapter sent e)) (sym ran.ends)
          (HasRun-runs way P whole given (s.contents given.script) s o t program start ran.feed ran.opened adapter ran.none_sent sent ran.opening.0 ran.limits ran.opening.1 kept
          opened.reads opened.starts fresh ran.open_feed (subst (λ (e : Ending). IsFaultOf e s.capture.faults t.capture.faults) ran.ends fault) ran.runs);
    }

-- there was no memory for it
pub IsWhy-run : (given : Given) (s o t : ShelfState) (program : List Part) (start : Option Feed) → HasOpened given s o program start → KeepsSlot Capture o t → IsWhy given s t status.NoMemory
IsWhy-run given s o t program start opened keeps = (ap early_faults keeps.others ∙ opened.calm, inr (still-opened given s o t keeps opened.written))

-- ---- its script, and its reads

pub sized-run : (given : Given) (s o t : ShelfState) (program : List Part) (start : Option Feed) → HasOpened given s o program start → IsSizedFirst given s t
sized-run given s o t program start opened = within-sized (s.contents given.script) (AsksForNone s t) opened.within

pub reads-run : (given : Given) (s o t : ShelfState) (program : List Part) (start : Option Feed) → HasOpened given s o program start → (has_phase program ≡ false → t ≡ o) → IsReadBy (Some given) s t
reads-run given s o t program start opened unread =
    unread-reads (s.contents given.script) program (t.capture.faults ≡ s.capture.faults) opened.reads
    (λ none. ap (λ (shelf : ShelfState). shelf.capture.faults) (unread none) ∙ opened.faults)
