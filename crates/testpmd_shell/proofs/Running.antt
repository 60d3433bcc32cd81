-- A run of the files, out of the run of its parts.
use Rattle.std.proofs.Common.{◌≡◌, ℕ, ◌+◌, ◌-◌, ◌^◌, ◌<◌, Bool, true, false, ◌||◌, cond, List, [], ◌++◌, nat_lt, Option, None, Some, IfSome, option_and_then, refl, sym, ap, ◌∙◌, subst, append-nil, arith}
use Rattle.std.specs.Option.{option_map}
use Rattle.std.proofs.lemmas.Bool.{lt-ltb, le-ltb}
use Rattle.capture_files.specs.Capture.{Capture, capture}
use Rattle.capture_files.specs.Record.{Frame}
use Rattle.capture_files.specs.Reader.{rest_of, told}
use Rattle.io_edges.specs.ShelfState.{ShelfState, SlotState}
use Rattle.flow_rules.specs.declared.limits.Limits.{Limits}
use Rattle.flow_calls.specs.declared.entry.Entry.{Entry}
use Rattle.adapter.specs.Seen.{Seen}
use Rattle.flow_grammar.specs.declared.part.Part.{Part}
use Rattle.flow_grammar.specs.Program.{program_of}
use Rattle.whole_history.specs.Reach.{has_phase, program_asks_stop}
use Rattle.history_text.specs.declared.ending.Ending.{Ending}
use Rattle.history_text.specs.declared.ending.Ending.TheVariants as endings
use Rattle.testpmd_shell.specs.declared.feed.Feed.{Feed}
use Rattle.testpmd_shell.specs.Options.{Given}
use Rattle.testpmd_shell.specs.Feed.{IsReady, HasRead, HasEnded, IsFaultOf, CarriesFault}
use Rattle.testpmd_shell.specs.Parts.{IsOpen, WasRead, MayRemain, RunsParts, StartsOver, ended_in, ending_in, taken_in}
use Rattle.testpmd_shell.specs.Found.{Supply, ending_at, supply_of, supply_until_fault, supply_by, supply_in, no_supply, found_by, is_over, limits_of}
use Rattle.testpmd_shell.specs.Fetch.{Runs}
use Rattle.capture_files.specs.Writing.{header_bytes}
use Rattle.history_text.specs.Transmit.{records_of_entries, transmit_of}
use Rattle.testpmd_shell.specs.Sending.{AreKept}
use Rattle.testpmd_shell.specs.Ways.{AreRun, Way}
use Rattle.testpmd_shell.proofs.WaysRun.{AreRun-as}

-- What phases found of the capture: the frames that were taken, and what remains behind them.
record Supplied (supply : Supply) (taken : List Frame) (ended : Bool) (ending : Ending) : Type 0 where
  rest : List Frame
  may : MayRemain ended rest
  frames : supply.frames ≡ taken ++ rest
  behind : ended ≡ true → supply.ending ≡ ending
  open_still : ended ≡ false → ending ≡ endings.Whole

some-same : {X : Type 0} (x y : X) → Some x ≡ Some y → x ≡ y
some-same x y e = cc

none-some : {X Y : Type 0} (x : X) → None ≡ Some x → Y
none-some x e = absurd (never e) where
  never : None ≡ Some x → ⊥
  never e = cc

not-both : {X : Type 0} (b : Bool) → b ≡ true → b ≡ false → X
not-both true e f = absurd (let both : true ≡ false = f in cc)
not-both false e f = absurd (let both : false ≡ true = e in cc)

calm-supply : (ending : Ending) (content : List ℕ) (taken : List Frame) (ended : Bool) (before now : ℕ) (given : Option (List ℕ)) (supply : Supply)
    → ended ≡ true → (capture content).frames ≡ taken → ending_at (capture content).stop ≡ ending → now ≡ before
    → supply_by (nat_lt before now) content given ≡ Some supply → Supplied supply taken ended ending
calm-supply ending content taken ended before now given supply at_end frames stop calm is =
    let same : supply_of content ≡ supply = some-same (supply_of content) supply (ap (λ b. supply_by b content given) (sym (le-ltb before now (omega arith))) ∙ is) in
    record {
      rest = [];
      may = λ e. refl;
      frames = ap (λ (s : Supply). s.frames) (sym same) ∙ frames ∙ sym (append-nil taken);
      behind = λ e. ap (λ (s : Supply). s.ending) (sym same) ∙ stop;
      open_still = λ e. not-both ended at_end e;
    }

failed-supply : (given : Option (List ℕ)) (content : List ℕ) (taken : List Frame) (ended : Bool) (supply : Supply)
    → ended ≡ true → ((gone : List ℕ) → given ≡ Some gone → (capture gone).frames ≡ taken)
    → option_map supply_until_fault given ≡ Some supply → Supplied supply taken ended endings.ReadFault
failed-supply None content taken ended supply at_end has is = none-some supply is
failed-supply (Some gone) content taken ended supply at_end has is =
    let same : supply_until_fault gone ≡ supply = some-same (supply_until_fault gone) supply is in
    record {
      rest = [];
      may = λ e. refl;
      frames = ap (λ (s : Supply). s.frames) (sym same) ∙ has gone refl ∙ sym (append-nil taken);
      behind = λ e. ap (λ (s : Supply). s.ending) (sym same);
      open_still = λ e. not-both ended at_end e;
    }

ended-supply : (ending : Ending) (slot : SlotState) (content : List ℕ) (taken : List Frame) (ended : Bool) (before now : ℕ) (supply : Supply)
    → ended ≡ true → HasEnded ending slot content taken → before < 2 ^ 64 - 1 → IsFaultOf ending before now
    → supply_by (nat_lt before now) content slot.given ≡ Some supply → Supplied supply taken ended ending
ended-supply endings.Whole slot content taken ended before now supply at_end has fresh fault is =
    calm-supply endings.Whole content taken ended before now slot.given supply at_end (ap (λ (c : Capture). c.frames) has) (ap (λ (c : Capture). ending_at c.stop) has) fault is
ended-supply (endings.Bad place kind) slot content taken ended before now supply at_end has fresh fault is =
    calm-supply (endings.Bad place kind) content taken ended before now slot.given supply at_end (ap (λ (c : Capture). c.frames) has) (ap (λ (c : Capture). ending_at c.stop) has) fault is
ended-supply (endings.Large place) slot content taken ended before now supply at_end has fresh fault is =
    calm-supply (endings.Large place) content taken ended before now slot.given supply at_end (ap (λ (c : Capture). c.frames) has) (ap (λ (c : Capture). ending_at c.stop) has) fault is
ended-supply endings.ReadFault slot content taken ended before now supply at_end has fresh fault is =
    let rose : nat_lt before now ≡ true = lt-ltb before now (fault fresh) in
    failed-supply slot.given content taken ended supply at_end has (ap (λ b. supply_by b content slot.given) (sym rose) ∙ is)

-- the reader still runs
open-supply : (feed : Feed) (slot : SlotState) (content : List ℕ) (taken : List Frame) (before now : ℕ) (supply : Supply)
    → feed.reader.ended ≡ false → HasRead feed slot content taken → feed.ending ≡ endings.Whole → now ≡ before
    → supply_by (nat_lt before now) content slot.given ≡ Some supply → Supplied supply taken feed.reader.ended feed.ending
open-supply feed slot content taken before now supply running has whole calm is =
    let same : supply_of content ≡ supply = some-same (supply_of content) supply (ap (λ b. supply_by b content slot.given) (sym (le-ltb before now (omega arith))) ∙ is) in
    let rest = rest_of feed.reader (told slot.left) in
    record {
      rest = rest.frames;
      may = λ e. not-both feed.reader.ended e running;
      frames = ap (λ (s : Supply). s.frames) (sym same) ∙ ap (λ (c : Capture). c.frames) (has.running running);
      behind = λ e. not-both feed.reader.ended e running;
      open_still = λ e. whole;
    }

supplied : (feed : Feed) (slot : SlotState) (content : List ℕ) (taken : List Frame) (before now : ℕ) (supply : Supply)
    → IsReady feed → HasRead feed slot content taken → before < 2 ^ 64 - 1 → IsFaultOf feed.ending before now
    → supply_by (nat_lt before now) content slot.given ≡ Some supply → Supplied supply taken feed.reader.ended feed.ending
supplied feed slot content taken before now supply ready has fresh fault is = by feed.reader.ended refl where
  by : (b : Bool) → feed.reader.ended ≡ b → Supplied supply taken feed.reader.ended feed.ending
  by true e = ended-supply feed.ending slot content taken feed.reader.ended before now supply e (has.ended e) fresh fault is
  by false e =
      let whole = ready.going_on e in
      open-supply feed slot content taken before now supply e has whole (subst (λ ending. IsFaultOf ending before now) whole fault) is

cond-whole : (b : Bool) → cond b endings.Whole endings.Whole ≡ endings.Whole
cond-whole true = refl
cond-whole false = refl

-- what is kept is the transmit file without its header
sends-kept : (given : Given) (sent : Option (List ℕ)) (taken : ℕ) (more rest all : List Frame) (after : Seen) → after.limits ≡ limits_of given → all ≡ more ++ rest
    → AreKept sent taken more after → IfSome sent (λ bytes. header_bytes ++ bytes ≡ transmit_of (limits_of given) all after.history)
sends-kept given sent taken more rest all after limits same are = by sent are.records where
  by : (k : Option (List ℕ)) → IfSome k (λ bytes. (rest : List Frame) → bytes ≡ records_of_entries after.limits (more ++ rest) [] after.history)
      → IfSome k (λ bytes. header_bytes ++ bytes ≡ transmit_of (limits_of given) all after.history)
  by None records = tt
  by (Some bytes) records =
      ap (λ l. header_bytes ++ l) (records rest
      ∙ ap (λ l. records_of_entries l (more ++ rest) [] after.history) limits
      ∙ ap (λ fs. records_of_entries (limits_of given) fs [] after.history) (sym same))

module _ (way : Way) (P : Limits → List Part → List Frame → List Entry → Type 0)
    (whole : (limits : Limits) (program : List Part) (frames : List Frame) (history : List Entry) → AreRun way limits 1 frames program [] history → P limits program frames history) where
  -- with what phases found
  Runs-supplied : (given : Given) (script : List ℕ) (supply : Supply) (s t : ShelfState) (start : Option Feed) (feed : Option Feed) (content : List ℕ) (opened after : Seen) (none_sent sent : Option (List ℕ))
      → opened.limits ≡ limits_of given → after.limits ≡ limits_of given → opened.history ≡ [] → taken_in start ≡ 0 → ended_in start ≡ false
      → AreKept none_sent (taken_in start) [] opened → (ran : RunsParts way (program_of script) start feed t content [] opened after none_sent sent)
      → Supplied supply ran.more (ended_in feed) (ending_in feed) → (ending_in feed ≡ endings.Whole → t.capture.faults ≡ s.capture.faults)
      → Runs P given (record { script = script; capture = supply }) s t after sent (ending_in feed)
  Runs-supplied given script supply s t start feed content opened after none_sent sent limits limits' empty none running are ran found calm =
      let program = program_of script in
      let asks : program_asks_stop program supply.frames ≡ ended_in feed =
      ap (program_asks_stop program) found.frames ∙ ap (λ b. b || program_asks_stop program (ran.more ++ found.rest)) (sym running) ∙ ran.asked found.rest found.may in
      let all = ran.history found.rest found.may in
      let from_start : all.0 ≡ after.history = sym (all.1 ∙ ap (λ h. h ++ all.0) empty) in
      record {
        history = whole (limits_of given) program supply.frames after.history
            (AreRun-as way program limits (ap (λ n. n + 1) none) (sym found.frames) empty from_start all.2);
        ends = by (ended_in feed) refl asks;
        asked = λ rose. by_asked (ended_in feed) refl asks rose;
        sends = sends-kept given sent (taken_in feed) ran.more found.rest supply.frames after limits' found.frames (ran.keeps are);
      } where
        by : (b : Bool) → ended_in feed ≡ b → program_asks_stop (program_of script) supply.frames ≡ ended_in feed
            → ending_in feed ≡ cond (program_asks_stop (program_of script) supply.frames) supply.ending endings.Whole
        by true e asks = sym (found.behind e) ∙ sym (ap (λ b. cond b supply.ending endings.Whole) (asks ∙ e))
        by false e asks = found.open_still e ∙ sym (ap (λ b. cond b supply.ending endings.Whole) (asks ∙ e))

        by_asked : (b : Bool) → ended_in feed ≡ b → program_asks_stop (program_of script) supply.frames ≡ ended_in feed
            → s.capture.faults < t.capture.faults → program_asks_stop (program_of script) supply.frames ≡ true
        by_asked true e asks rose = asks ∙ e
        by_asked false e asks rose = let same = calm (found.open_still e) in absurd (omega arith)

  -- without a capture
  Runs-without : (given : Given) (script : List ℕ) (s t : ShelfState) (opened after : Seen) (none_sent sent : Option (List ℕ))
      → opened.limits ≡ limits_of given → after.limits ≡ limits_of given → opened.history ≡ []
      → AreKept none_sent 0 [] opened → (ran : RunsParts way (program_of script) None None t [] [] opened after none_sent sent) → t.capture.faults ≡ s.capture.faults
      → Runs P given (record { script = script; capture = no_supply }) s t after sent endings.Whole
  Runs-without given script s t opened after none_sent sent limits limits' empty are ran calm =
      let program = program_of script in
      let all = ran.history [] (λ e. refl) in
      let from_start : all.0 ≡ after.history = sym (all.1 ∙ ap (λ h. h ++ all.0) empty) in
      let no_frames : ran.more ++ [] ≡ [] = append-nil ran.more ∙ ran.read in
      record {
        history = whole (limits_of given) program [] after.history (AreRun-as way program limits refl no_frames empty from_start all.2);
        ends = sym (cond-whole (program_asks_stop program []));
        asked = λ rose. absurd (omega arith);
        sends = sends-kept given sent 0 ran.more [] [] after limits' (sym ran.read ∙ sym (append-nil ran.more)) (ran.keeps are);
      }

  -- where the capture's bytes are told
  runs-told : (given : Given) (script content : List ℕ) (supply : Supply) (s o t : ShelfState) (start : Feed) (feed : Option Feed) (opened after : Seen) (none_sent sent : Option (List ℕ))
      → opened.limits ≡ limits_of given → after.limits ≡ limits_of given → opened.history ≡ [] → AreKept none_sent 0 [] opened → start.taken ≡ 0 → start.reader.ended ≡ false → HasRead start o.capture content []
      → s.capture.faults < 2 ^ 64 - 1 → IsOpen feed t → IsFaultOf (ending_in feed) s.capture.faults t.capture.faults
      → RunsParts way (program_of script) (Some start) feed t content [] opened after none_sent sent
      → supply_by (nat_lt s.capture.faults t.capture.faults) content t.capture.given ≡ Some supply
      → Runs P given (record { script = script; capture = supply }) s t after sent (ending_in feed)
  runs-told given script content supply s o t start None opened after none_sent sent limits limits' empty are none running has fresh ready fault ran is = absurd (never ran.kept) where
    never : false ≡ true → ⊥
    never e = cc
  runs-told given script content supply s o t start (Some feed) opened after none_sent sent limits limits' empty are none running has fresh ready fault ran is =
      Runs-supplied given script supply s t (Some start) (Some feed) content opened after none_sent sent limits limits' empty none running
      (subst (λ n. AreKept none_sent n [] opened) (sym none) are) ran
      (supplied feed t.capture content ran.more s.capture.faults t.capture.faults supply ready.0 ran.read fresh fault is)
      (λ whole. subst (λ ending. IsFaultOf ending s.capture.faults t.capture.faults) whole fault)

  IsRunOf : Given → List ℕ → ShelfState → ShelfState → Seen → Option (List ℕ) → Ending → Option Supply → Type 0
  IsRunOf given script s t after sent ending supply = IfSome (found_by (Some script) supply) (λ found. Runs P given found s t after sent ending)

  by-supply : (given : Given) (script content : List ℕ) (found : Option Supply) (s o t : ShelfState) (start : Feed) (feed : Option Feed) (opened after : Seen) (none_sent sent : Option (List ℕ))
      → opened.limits ≡ limits_of given → after.limits ≡ limits_of given → opened.history ≡ [] → AreKept none_sent 0 [] opened → start.taken ≡ 0 → start.reader.ended ≡ false → HasRead start o.capture content []
      → s.capture.faults < 2 ^ 64 - 1 → IsOpen feed t → IsFaultOf (ending_in feed) s.capture.faults t.capture.faults
      → RunsParts way (program_of script) (Some start) feed t content [] opened after none_sent sent
      → supply_by (nat_lt s.capture.faults t.capture.faults) content t.capture.given ≡ found
      → IsRunOf given script s t after sent (ending_in feed) found
  unfolding IsRunOf
  by-supply given script content None s o t start feed opened after none_sent sent limits limits' empty are none running has fresh ready fault ran is = tt
  by-supply given script content (Some supply) s o t start feed opened after none_sent sent limits limits' empty are none running has fresh ready fault ran is =
      runs-told given script content supply s o t start feed opened after none_sent sent limits limits' empty are none running has fresh ready fault ran is

  by-content : (given : Given) (script name : List ℕ) (known : Option (List ℕ)) (s o t : ShelfState) (start feed : Option Feed) (opened after : Seen) (none_sent sent : Option (List ℕ))
      → opened.limits ≡ limits_of given → after.limits ≡ limits_of given → opened.history ≡ [] → AreKept none_sent 0 [] opened → StartsOver (Some name) start s o → s.contents name ≡ known
      → s.capture.faults < 2 ^ 64 - 1 → IsOpen feed t → IsFaultOf (ending_in feed) s.capture.faults t.capture.faults
      → ((content : List ℕ) → (frames : List Frame) → WasRead start o content frames → RunsParts way (program_of script) start feed t content frames opened after none_sent sent)
      → IsRunOf given script s t after sent (ending_in feed) (option_and_then (λ bytes. supply_by (nat_lt s.capture.faults t.capture.faults) bytes t.capture.given) known)
  unfolding IsRunOf
  by-content given script name None s o t start feed opened after none_sent sent limits limits' empty are starts is fresh ready fault ran = tt
  by-content given script name (Some content) s o t None feed opened after none_sent sent limits limits' empty are starts is fresh ready fault ran = absurd starts
  by-content given script name (Some content) s o t (Some start) feed opened after none_sent sent limits limits' empty are starts is fresh ready fault ran =
      by-supply given script content (supply_by (nat_lt s.capture.faults t.capture.faults) content t.capture.given) s o t start feed opened after none_sent sent limits limits' empty are starts.0 starts.2 (starts.3 content is)
      fresh ready fault (ran content [] (starts.3 content is)) refl

  by-none : (given : Given) (script : List ℕ) (s o t : ShelfState) (start feed : Option Feed) (opened after : Seen) (none_sent sent : Option (List ℕ))
      → opened.limits ≡ limits_of given → after.limits ≡ limits_of given → opened.history ≡ [] → AreKept none_sent 0 [] opened → StartsOver None start s o
      → IsFaultOf (ending_in feed) s.capture.faults t.capture.faults
      → ((content : List ℕ) → (frames : List Frame) → WasRead start o content frames → RunsParts way (program_of script) start feed t content frames opened after none_sent sent)
      → IsRunOf given script s t after sent (ending_in feed) (Some no_supply)
  unfolding IsRunOf
  by-none given script s o t (Some start) feed opened after none_sent sent limits limits' empty are starts fault ran = absurd starts
  by-none given script s o t None None opened after none_sent sent limits limits' empty are starts fault ran =
      Runs-without given script s t opened after none_sent sent limits limits' empty are (ran [] [] refl) fault
  by-none given script s o t None (Some feed) opened after none_sent sent limits limits' empty are starts fault ran = absurd (never (ran [] [] refl).kept) where
    never : true ≡ false → ⊥
    never e = cc

  by-name : (given : Given) (script : List ℕ) (name : Option (List ℕ)) (s o t : ShelfState) (start feed : Option Feed) (opened after : Seen) (none_sent sent : Option (List ℕ))
      → opened.limits ≡ limits_of given → after.limits ≡ limits_of given → opened.history ≡ [] → AreKept none_sent 0 [] opened → StartsOver name start s o
      → s.capture.faults < 2 ^ 64 - 1 → IsOpen feed t → IsFaultOf (ending_in feed) s.capture.faults t.capture.faults
      → ((content : List ℕ) → (frames : List Frame) → WasRead start o content frames → RunsParts way (program_of script) start feed t content frames opened after none_sent sent)
      → IsRunOf given script s t after sent (ending_in feed) (supply_in name s t)
  by-name given script None s o t start feed opened after none_sent sent limits limits' empty are starts fresh ready fault ran =
      by-none given script s o t start feed opened after none_sent sent limits limits' empty are starts fault ran
  by-name given script (Some name) s o t start feed opened after none_sent sent limits limits' empty are starts fresh ready fault ran =
      by-content given script name (s.contents name) s o t start feed opened after none_sent sent limits limits' empty are starts refl fresh ready fault ran

  -- the run of the files that the options name: `o` is the shelf behind their openings
  pub HasRun-runs : (given : Given) (known : Option (List ℕ)) (s o t : ShelfState) (program : List Part) (start feed : Option Feed) (opened after : Seen) (none_sent sent : Option (List ℕ))
      → opened.limits ≡ limits_of given → after.limits ≡ limits_of given → opened.history ≡ [] → AreKept none_sent 0 [] opened → IfSome known (λ bytes. program ≡ program_of bytes)
      → StartsOver given.capture start s o
      → s.capture.faults < 2 ^ 64 - 1 → IsOpen feed t → IsFaultOf (ending_in feed) s.capture.faults t.capture.faults
      → ((content : List ℕ) → (frames : List Frame) → WasRead start o content frames → RunsParts way program start feed t content frames opened after none_sent sent)
      → IfSome (found_by known (supply_in given.capture s t)) (λ found. Runs P given found s t after sent (ending_in feed))
  unfolding IsRunOf
  HasRun-runs given None s o t program start feed opened after none_sent sent limits limits' empty are is starts fresh ready fault ran = tt
  HasRun-runs given (Some script) s o t program start feed opened after none_sent sent limits limits' empty are is starts fresh ready fault ran =
      by-name given script given.capture s o t start feed opened after none_sent sent limits limits' empty are starts fresh ready fault
      (λ content frames was. subst (λ (p : List Part). RunsParts way p start feed t content frames opened after none_sent sent) is (ran content frames was))

-- a capture that was just opened hasn't ended
whole-start : (name : Option (List ℕ)) (start : Option Feed) (s t : ShelfState) → StartsOver name start s t → ending_in start ≡ endings.Whole
whole-start None None s t starts = refl
whole-start None (Some feed) s t starts = absurd starts
whole-start (Some name) None s t starts = absurd starts
whole-start (Some name) (Some feed) s t starts = starts.1

pub HasRun-fault : (name : Option (List ℕ)) (start : Option Feed) (ending : Ending) (s t : ShelfState) (base before now : ℕ) → StartsOver name start s t → before ≡ base
    → CarriesFault (ending_in start) ending before now → IsFaultOf ending base now
HasRun-fault name start ending s t base before now starts same carries =
    carries base (subst (λ (e : Ending). IsFaultOf e base before) (sym (whole-start name start s t starts)) same)

-- a script within its limits isn't over them
pub within-sized : (known : Option (List ℕ)) (X : Type 0) → IfSome known (λ script. is_over script ≡ false) → IfSome known (λ script. is_over script ≡ true → X)
within-sized None X within = tt
within-sized (Some script) X within = λ over. not-both (is_over script) over within

-- what holds of a program without phases holds where the script has none
pub unread-reads : (known : Option (List ℕ)) (program : List Part) (X : Type 0) → IfSome known (λ script. program ≡ program_of script)
    → (has_phase program ≡ false → X) → IfSome known (λ script. has_phase (program_of script) ≡ false → X)
unread-reads None program X is unread = tt
unread-reads (Some script) program X is unread = λ none. unread (ap has_phase is ∙ none)
