-- What the statuses say, out of what the calls below say.
use Rattle.std.proofs.Common.{◌≡◌, ℕ, ◌-◌, ◌^◌, ◌<◌, true, false, Bool, cond, List, ◌++◌, Option, None, Some, is_some, IfSome, refl, sym, ap, ◌∙◌, subst, arith, inl, inr}
use Rattle.std.specs.Prelude.{◌⊎◌}
use Rattle.std.specs.Io.KnownBytes.{Appends}
use Rattle.io_edges.specs.ShelfState.{ShelfState, WrittenState, read_faults, write_faults}
use Rattle.capture_files.specs.Writing.{header_bytes}
use Rattle.io_edges.specs.Front.{TakesFront}
use Rattle.capture_files.specs.Record.{Frame}
use Rattle.flow_calls.specs.declared.entry.Entry.{Entry}
use Rattle.adapter.specs.Seen.{Seen}
use Rattle.flow_rules.specs.declared.limits.Limits.{Limits}
use Rattle.flow_grammar.specs.declared.part.Part.{Part}
use Rattle.flow_grammar.specs.Program.{program_of}
use Rattle.whole_history.specs.Reach.{has_phase}
use Rattle.history_text.specs.declared.ending.Ending.{Ending}
use Rattle.history_text.specs.declared.ending.Ending.TheVariants as endings
use Rattle.history_text.specs.Text.{text_of}
use Rattle.history_text.specs.Transmit.{transmit_of}
use Rattle.testpmd_shell.specs.declared.status.Status.{Status}
use Rattle.testpmd_shell.specs.declared.status.Status.TheVariants as status
use Rattle.testpmd_shell.specs.Options.{Given}
use Rattle.testpmd_shell.specs.Feed.{IsFaultOf}
use Rattle.testpmd_shell.specs.Run.{Edges, early_faults}
use Rattle.testpmd_shell.specs.Found.{Found, Supply, found_by, found_in, supply_in, limits_of, is_over, ending_of, status_at, due_status}
use Rattle.testpmd_shell.specs.Transmitted.{opened_empty, IsAsOpened, IsOpened, WasOpened, TookJust, TookFront}
use Rattle.testpmd_shell.specs.Fetch.{Runs, HasRun, StaysOpen, TakesAll, TakesSome, CutsTranscript, CutsFile, IsTold}
use Rattle.testpmd_shell.specs.Session.{AreWritesCalm, IsEndOf, Wrote, IsStatusOf, Tells, Ends, AsksForNone, IsWhy, IsSizedFirst, SaysBy, CompletesBy, IsReadBy, IsTooLargeBy}

IfSome-weaker : {X : Type 0} (o : Option X) (P Q : X → Type 0) → ((x : X) → P x → Q x) → IfSome o P → IfSome o Q
IfSome-weaker None P Q weaker p = tt
IfSome-weaker (Some x) P Q weaker p = weaker x p

-- ---- what became of the transmit file

is-opened : (s t w : WrittenState) → t ≡ opened_empty s → StaysOpen t w → IsOpened s w
is-opened s t w opened stays = record {
  asked = stays.asked ∙ ap (λ (x : WrittenState). x.asked) opened;
  opened = stays.opened ∙ ap (λ (x : WrittenState). x.opened) opened;
  openings = stays.openings ∙ ap (λ (x : WrittenState). x.open_faults) opened;
}

false-true : {X : Type 0} → false ≡ true → X
false-true e = absurd (never e) where
  never : false ≡ true → ⊥
  never e = cc

true-false : {X : Type 0} → true ≡ false → X
true-false e = absurd (never e) where
  never : true ≡ false → ⊥
  never e = cc

-- where frames are kept it is open, and no write of it has failed
pub open-for : (name sent : Option (List ℕ)) (s t : WrittenState) → IsAsOpened name s t → is_some sent ≡ is_some name → is_some sent ≡ true → t.opened ≡ true
open-for None sent s t opened same kept = true-false (sym kept ∙ same)
open-for (Some name) sent s t opened same kept = ap (λ (x : WrittenState). x.opened) opened

pub calm-opening : (name : Option (List ℕ)) (s t : WrittenState) → IsAsOpened name s t → t.faults ≡ s.faults
calm-opening None s t opened = ap (λ (x : WrittenState). x.faults) opened
calm-opening (Some name) s t opened = ap (λ (x : WrittenState). x.faults) opened

-- it was left as it was opened
as-opened : (name : Option (List ℕ)) (s w : WrittenState) → IsAsOpened name s w → WasOpened name s w
as-opened None s w is = is
as-opened (Some name) s w is = is-opened s w w is (record { asked = refl; opened = refl; openings = refl })

-- all was written, or a write failed
told-all : (name sent : Option (List ℕ)) (s t w : WrittenState) → IsAsOpened name s t → is_some sent ≡ is_some name → TakesAll sent t w → WasOpened name s w × (w.faults ≡ s.faults)
told-all None None s t w opened same takes = let is = takes ∙ opened in (is, ap (λ (x : WrittenState). x.faults) is)
told-all None (Some records) s t w opened same takes = true-false same
told-all (Some name) None s t w opened same takes = false-true same
told-all (Some name) (Some records) s t w opened same takes = (is-opened s t w opened takes.0, takes.1 ∙ ap (λ (x : WrittenState). x.faults) opened)

told-some : (name sent : Option (List ℕ)) (s t w : WrittenState) → IsAsOpened name s t → is_some sent ≡ is_some name → TakesSome sent t w → WasOpened name s w × (s.faults < w.faults)
told-some None None s t w opened same takes = absurd takes
told-some None (Some records) s t w opened same takes = true-false same
told-some (Some name) None s t w opened same takes = false-true same
told-some (Some name) (Some records) s t w opened same takes =
    (is-opened s t w opened takes.0, subst (λ n. n < w.faults) (ap (λ (x : WrittenState). x.faults) opened) takes.1)

sent-all : (name sent : Option (List ℕ)) (s t w : WrittenState) (bytes : List ℕ) → IsAsOpened name s t → is_some sent ≡ is_some name → TakesAll sent t w
    → IfSome sent (λ records. header_bytes ++ records ≡ bytes) → TookJust name s w bytes
sent-all None None s t w bytes opened same takes are = takes ∙ opened
sent-all None (Some records) s t w bytes opened same takes are = true-false same
sent-all (Some name) None s t w bytes opened same takes are = false-true same
sent-all (Some name) (Some records) s t w bytes opened same takes are =
    subst (λ (o : Option (List ℕ)). Appends o w.taken bytes) (ap (λ (x : WrittenState). x.taken) opened) (subst (Appends t.taken w.taken) are takes.2)

sent-some : (name sent : Option (List ℕ)) (s t w : WrittenState) (bytes : List ℕ) → IsAsOpened name s t → is_some sent ≡ is_some name → TakesSome sent t w
    → IfSome sent (λ records. header_bytes ++ records ≡ bytes) → TookFront name s w bytes
sent-some None None s t w bytes opened same takes are = absurd takes
sent-some None (Some records) s t w bytes opened same takes are = true-false same
sent-some (Some name) None s t w bytes opened same takes are = false-true same
sent-some (Some name) (Some records) s t w bytes opened same takes are = (
  takes.2.0,
  subst (λ (o : Option (List ℕ)). TakesFront o w.taken bytes takes.2.0) (ap (λ (x : WrittenState). x.taken) opened)
      (subst (λ b. TakesFront t.taken w.taken b takes.2.0) are takes.2.1),
)

-- ---- the transcript of a script that was run

-- behind the run the written file alone has changed
abbrev edges_behind : ShelfState → WrittenState → Option (List ℕ) → ℕ → Edges
edges_behind t written taken faults = record { shelf = record t { written = written }; taken = taken; faults = faults }

same-supply : (name : Option (List ℕ)) (s t : ShelfState) (written : WrittenState) → supply_in name s t ≡ supply_in name s (record t { written = written })
same-supply None s t written = refl
same-supply (Some name) s t written = refl

found-behind : (given : Given) (s t : ShelfState) (written : WrittenState) (P : Found → Type 0) → IfSome (found_in given s t) P → IfSome (found_in given s (record t { written = written })) P
found-behind given s t written P is = subst (λ (supply : Option Supply). IfSome (found_by (s.contents given.script) supply) P) (same-supply given.capture s t written) is

-- what was told of an ending, with no write fault
end-of : (ending : Ending) (before after : Edges) → before.shelf.capture.faults < 2 ^ 64 - 1 → IsFaultOf ending before.shelf.capture.faults after.shelf.capture.faults
    → AreWritesCalm before after → IsEndOf before after (status_at ending)
end-of endings.Whole before after fresh fault calm = (fault, calm)
end-of (endings.Bad place kind) before after fresh fault calm = (fault, calm)
end-of (endings.Large place) before after fresh fault calm = (fault, calm)
end-of endings.ReadFault before after fresh fault calm = (fault fresh, calm)

wrote-at : (ending : Ending) (given : Given) (before after : Edges) (text bytes : List ℕ) → Appends before.taken after.taken text
    → TookJust given.transmit before.shelf.written after.shelf.written bytes → Wrote given before after text bytes (status_at ending)
wrote-at endings.Whole given before after text bytes wrote sent = (wrote, sent)
wrote-at (endings.Bad place kind) given before after text bytes wrote sent = (wrote, sent)
wrote-at (endings.Large place) given before after text bytes wrote sent = (wrote, sent)
wrote-at endings.ReadFault given before after text bytes wrote sent = (wrote, sent)

status-of : (found : Found) (ending : Ending) → ending ≡ ending_of found → IsStatusOf found (status_at ending)
status-of found endings.Whole same = ap status_at same
status-of found (endings.Bad place kind) same = ap status_at same
status-of found (endings.Large place) same = ap status_at same
status-of found endings.ReadFault same = ap status_at same

same-text : (given : Given) (found : Found) (adapter : Seen) (ending : Ending) → adapter.limits ≡ limits_of given → ending ≡ ending_of found
    → text_of adapter.limits adapter.history ending ≡ text_of (limits_of given) adapter.history (ending_of found)
same-text given found adapter ending limits same = ap (λ l. text_of l adapter.history ending) limits ∙ ap (text_of (limits_of given) adapter.history) same

not-more : {X : Type 0} (m n : ℕ) → n ≡ m → m < n → X
not-more m n same more = absurd (omega arith)

ends-whole : (P : Limits → List Part → List Frame → List Entry → Type 0) (given : Given) (before : Edges) (t : ShelfState) (w : WrittenState) (taken : Option (List ℕ)) (faults : ℕ) (adapter : Seen) (sent : Option (List ℕ)) (ending : Ending)
    → before.shelf.capture.faults < 2 ^ 64 - 1 → HasRun P given before.shelf t adapter sent ending → faults ≡ before.faults
    → Appends before.taken taken (text_of adapter.limits adapter.history ending) → TakesAll sent t.written w
    → Ends P given before (edges_behind t w taken faults) (status_at ending)
ends-whole P given before t w taken faults adapter sent ending fresh ran calm wrote takes =
    let s = before.shelf in
    let after = edges_behind t w taken faults in
    let told = told-all given.transmit sent s.written t.written w ran.opened ran.keeps takes in
    record {
      calm = ran.calm;
      within = ran.within;
      opened = told.0;
      cause = end-of ending before after fresh ran.fault (record { sink = calm; file = told.1 });
      unsent = λ rose. not-more before.faults faults calm rose;
      tells = found-behind given s t w (λ found. Tells P given found before after (status_at ending))
          (IfSome-weaker (found_in given s t) (λ found. Runs P given found s t adapter sent ending)
          (λ found. Tells P given found before after (status_at ending))
          (λ found runs. record {
            history = adapter.history;
            is = runs.history;
            written = wrote-at ending given before after (text_of (limits_of given) adapter.history (ending_of found)) (transmit_of (limits_of given) found.capture.frames adapter.history)
                (subst (Appends before.taken taken) (same-text given found adapter ending ran.limits runs.ends) wrote)
                (sent-all given.transmit sent s.written t.written w (transmit_of (limits_of given) found.capture.frames adapter.history) ran.opened ran.keeps takes runs.sends);
            due = status-of found ending runs.ends;
            asked = runs.asked;
          }) ran.runs);
    }

-- a write of the sink failed
ends-front : (P : Limits → List Part → List Frame → List Entry → Type 0) (given : Given) (before : Edges) (t : ShelfState) (w : WrittenState) (taken : Option (List ℕ)) (faults : ℕ) (adapter : Seen) (sent : Option (List ℕ)) (ending : Ending)
    → HasRun P given before.shelf t adapter sent ending
    → CutsTranscript (text_of adapter.limits adapter.history ending) before.taken taken before.faults faults t.written w
    → Ends P given before (edges_behind t w taken faults) status.WriteFault
ends-front P given before t w taken faults adapter sent ending ran cuts =
    let s = before.shelf in
    let after = edges_behind t w taken faults in
    let opened = subst (IsAsOpened given.transmit s.written) (sym cuts.2) ran.opened in
    record {
      calm = ran.calm;
      within = ran.within;
      opened = as-opened given.transmit s.written w opened;
      cause = inl cuts.0;
      unsent = λ rose. opened;
      tells = found-behind given s t w (λ found. Tells P given found before after status.WriteFault)
          (IfSome-weaker (found_in given s t) (λ found. Runs P given found s t adapter sent ending)
          (λ found. Tells P given found before after status.WriteFault)
          (λ found runs. record {
            history = adapter.history;
            is = runs.history;
            written = record {
              transcript = λ rose. (cuts.1.0, subst (λ text. TakesFront before.taken taken text cuts.1.0) (same-text given found adapter ending ran.limits runs.ends) cuts.1.1);
              file = λ calm. not-more before.faults faults calm cuts.0;
            };
            due = tt;
            asked = runs.asked;
          }) ran.runs);
    }

-- a write of the transmit file failed
ends-file : (P : Limits → List Part → List Frame → List Entry → Type 0) (given : Given) (before : Edges) (t : ShelfState) (w : WrittenState) (taken : Option (List ℕ)) (faults : ℕ) (adapter : Seen) (sent : Option (List ℕ)) (ending : Ending)
    → HasRun P given before.shelf t adapter sent ending
    → CutsFile (text_of adapter.limits adapter.history ending) sent before.taken taken before.faults faults t.written w
    → Ends P given before (edges_behind t w taken faults) status.WriteFault
ends-file P given before t w taken faults adapter sent ending ran cuts =
    let s = before.shelf in
    let after = edges_behind t w taken faults in
    let told = told-some given.transmit sent s.written t.written w ran.opened ran.keeps cuts.2 in
    record {
      calm = ran.calm;
      within = ran.within;
      opened = told.0;
      cause = inr (cuts.0, told.1);
      unsent = λ rose. not-more before.faults faults cuts.0 rose;
      tells = found-behind given s t w (λ found. Tells P given found before after status.WriteFault)
          (IfSome-weaker (found_in given s t) (λ found. Runs P given found s t adapter sent ending)
          (λ found. Tells P given found before after status.WriteFault)
          (λ found runs. record {
            history = adapter.history;
            is = runs.history;
            written = record {
              transcript = λ rose. not-more before.faults faults cuts.0 rose;
              file = λ calm. (
                subst (Appends before.taken taken) (same-text given found adapter ending ran.limits runs.ends) cuts.1,
                sent-some given.transmit sent s.written t.written w (transmit_of (limits_of given) found.capture.frames adapter.history) ran.opened ran.keeps cuts.2 runs.sends,
              );
            };
            due = tt;
            asked = runs.asked;
          }) ran.runs);
    }

-- what was told with that status
pub Ends-told : (P : Limits → List Part → List Frame → List Entry → Type 0) (given : Given) (before : Edges) (t : ShelfState) (w : WrittenState) (taken : Option (List ℕ)) (faults : ℕ) (adapter : Seen) (sent : Option (List ℕ)) (ending : Ending) (answer : Status)
    → before.shelf.capture.faults < 2 ^ 64 - 1 → HasRun P given before.shelf t adapter sent ending
    → IsTold adapter sent ending before.taken taken before.faults faults t.written w answer
    → Ends P given before (edges_behind t w taken faults) answer
Ends-told P given before t w taken faults adapter sent ending status.WriteFault fresh ran (inl cuts) = ends-front P given before t w taken faults adapter sent ending ran cuts
Ends-told P given before t w taken faults adapter sent ending status.WriteFault fresh ran (inr cuts) = ends-file P given before t w taken faults adapter sent ending ran cuts
Ends-told P given before t w taken faults adapter sent ending status.Done fresh ran told =
    subst (Ends P given before (edges_behind t w taken faults)) (sym told.0) (ends-whole P given before t w taken faults adapter sent ending fresh ran told.1 told.2 told.3)
Ends-told P given before t w taken faults adapter sent ending status.Usage fresh ran told =
    subst (Ends P given before (edges_behind t w taken faults)) (sym told.0) (ends-whole P given before t w taken faults adapter sent ending fresh ran told.1 told.2 told.3)
Ends-told P given before t w taken faults adapter sent ending status.ReadFault fresh ran told =
    subst (Ends P given before (edges_behind t w taken faults)) (sym told.0) (ends-whole P given before t w taken faults adapter sent ending fresh ran told.1 told.2 told.3)
Ends-told P given before t w taken faults adapter sent ending status.BadCapture fresh ran told =
    subst (Ends P given before (edges_behind t w taken faults)) (sym told.0) (ends-whole P given before t w taken faults adapter sent ending fresh ran told.1 told.2 told.3)
Ends-told P given before t w taken faults adapter sent ending status.TooLarge fresh ran told =
    subst (Ends P given before (edges_behind t w taken faults)) (sym told.0) (ends-whole P given before t w taken faults adapter sent ending fresh ran told.1 told.2 told.3)
Ends-told P given before t w taken faults adapter sent ending status.NoMemory fresh ran told =
    subst (Ends P given before (edges_behind t w taken faults)) (sym told.0) (ends-whole P given before t w taken faults adapter sent ending fresh ran told.1 told.2 told.3)

-- ---- what an answer says of more histories

pub SaysBy-weaker : (P Q : Given → Limits → List Part → List Frame → List Entry → Type 0)
    → ((given : Given) (limits : Limits) (program : List Part) (frames : List Frame) (history : List Entry) → P given limits program frames history → Q given limits program frames history)
    → (given : Option Given) (before after : Edges) (answer : Status) → SaysBy P given before after answer → SaysBy Q given before after answer
SaysBy-weaker P Q weaker None before after answer says = says
SaysBy-weaker P Q weaker (Some given) before after answer (inl ends) = inl (record {
  calm = ends.calm;
  within = ends.within;
  opened = ends.opened;
  cause = ends.cause;
  unsent = ends.unsent;
  tells = IfSome-weaker (found_in given before.shelf after.shelf) (λ found. Tells (P given) given found before after answer) (λ found. Tells (Q given) given found before after answer)
      (λ found tells. record {
        history = tells.history;
        is = weaker given (limits_of given) (program_of found.script) found.capture.frames tells.history tells.is;
        written = tells.written;
        due = tells.due;
        asked = tells.asked;
      }) ends.tells;
})
SaysBy-weaker P Q weaker (Some given) before after answer (inr stops) = inr stops

-- ---- an answer

-- behind a run
pub SaysBy-told : (P : Given → Limits → List Part → List Frame → List Entry → Type 0) (given : Given) (before : Edges) (t u : ShelfState) (taken : Option (List ℕ)) (faults : ℕ)
    (adapter : Seen) (sent : Option (List ℕ)) (ending : Ending) (answer : Status)
    → before.shelf.capture.faults < 2 ^ 64 - 1 → HasRun (P given) given before.shelf t adapter sent ending
    → IsTold adapter sent ending before.taken taken before.faults faults t.written u.written answer → u ≡ record t { written = u.written }
    → SaysBy P (Some given) before (record { shelf = u; taken = taken; faults = faults }) answer
SaysBy-told P given before t u taken faults adapter sent ending answer fresh ran told others =
    inl (subst (λ (shelf : ShelfState). Ends (P given) given before (record { shelf = shelf; taken = taken; faults = faults }) answer) (sym others)
    (Ends-told (P given) given before t u.written taken faults adapter sent ending answer fresh ran told))

-- where no history came
pub SaysBy-stopped : (P : Given → Limits → List Part → List Frame → List Entry → Type 0) (given : Given) (before : Edges) (t : ShelfState) (answer : Status)
    → IsWhy given before.shelf t answer → IsSizedFirst given before.shelf t → SaysBy P (Some given) before (record { shelf = t; taken = before.taken; faults = before.faults }) answer
SaysBy-stopped P given before t answer why sized = inr (record { unwritten = refl; calm = refl; why = why; sized = sized })

-- with options it isn't that the words give none
never-usage : (given : Given) (before after : Edges) (answer : Status) → answer ≡ status.Usage → IsEndOf before after answer ⊎ IsWhy given before.shelf after.shelf answer → ⊥
never-usage given before after answer is (inl cause) = subst (IsEndOf before after) is cause
never-usage given before after answer is (inr why) = subst (IsWhy given before.shelf after.shelf) is why

pub SaysBy-usage : (P : Given → Limits → List Part → List Frame → List Entry → Type 0) (given : Given) (before after : Edges) (answer : Status)
    → SaysBy P (Some given) before after answer → answer ≡ status.Usage → ⊥
SaysBy-usage P given before after answer (inl ends) is = never-usage given before after answer is (inl ends.cause)
SaysBy-usage P given before after answer (inr stops) is = never-usage given before after answer is (inr stops.why)

-- ---- no memory to tell what the words give

IfSome-always : {X : Type 0} (o : Option X) (P : X → Type 0) → ((x : X) → P x) → IfSome o P
IfSome-always None P p = tt
IfSome-always (Some x) P p = p x

pub SaysBy-no_memory : (P : Given → Limits → List Part → List Frame → List Entry → Type 0) (given : Option Given) (edges : Edges) → SaysBy P given edges edges status.NoMemory
SaysBy-no_memory P None edges = (inr refl, refl)
SaysBy-no_memory P (Some given) edges = inr (record {
  unwritten = refl;
  calm = refl;
  why = (refl, inl (record { capture = refl; written = refl }));
  sized = IfSome-always (edges.shelf.contents given.script) (λ script. is_over script ≡ true → AsksForNone edges.shelf edges.shelf) (λ script over. record { capture = refl; written = refl });
})

pub IsReadBy-unread : (given : Option Given) (state : ShelfState) → IsReadBy given state state
IsReadBy-unread None state = tt
IsReadBy-unread (Some given) state =
    IfSome-always (state.contents given.script) (λ script. has_phase (program_of script) ≡ false → state.capture.faults ≡ state.capture.faults) (λ script none. refl)

-- ---- what follows

-- what is found has the script that is told
script-found : (given : Given) (s t : ShelfState) (P : List ℕ → Type 0) → IfSome (s.contents given.script) P → IfSome (found_in given s t) (λ found. P found.script)
script-found given s t P told = by (s.contents given.script) (supply_in given.capture s t) told where
  by : (known : Option (List ℕ)) (supply : Option Supply) → IfSome known P → IfSome (found_by known supply) (λ found. P found.script)
  by None supply p = tt
  by (Some script) None p = tt
  by (Some script) (Some supply) p = p

IfSome-both : {X : Type 0} (o : Option X) (P Q R : X → Type 0) → ((x : X) → P x → Q x → R x) → IfSome o P → IfSome o Q → IfSome o R
IfSome-both None P Q R both p q = tt
IfSome-both (Some x) P Q R both p q = both x p q

cond-at : {X : Type 0} (b : Bool) (x y : X) → b ≡ true → cond b x y ≡ x
cond-at b x y e = ap (λ c. cond c x y) e

cond-else : {X : Type 0} (b : Bool) (x y : X) → b ≡ false → cond b x y ≡ y
cond-else b x y e = ap (λ c. cond c x y) e

Owes : Status → Found → Type 0
Owes answer found = (answer ≡ status.NoMemory) ⊎ (answer ≡ due_status found)

opened-calm : (name : Option (List ℕ)) (s w : WrittenState) → WasOpened name s w → w.open_faults ≡ s.open_faults
opened-calm None s w opened = ap (λ (x : WrittenState). x.open_faults) opened
opened-calm (Some name) s w opened = opened.openings

owes-end : (P : Limits → List Part → List Frame → List Entry → Type 0) (given : Given) (before after : Edges) (answer : Status) (found : Found)
    → IsEndOf before after answer → write_faults after.shelf ≡ write_faults before.shelf → WasOpened given.transmit before.shelf.written after.shelf.written → after.faults ≡ before.faults → is_over found.script ≡ false → Tells P given found before after answer → Owes answer found
unfolding Owes
owes-end P given before after status.Done found cause files opened calm within tells = inr (tells.due ∙ sym (cond-else (is_over found.script) status.TooLarge (status_at (ending_of found)) within))
owes-end P given before after status.Usage found cause files opened calm within tells = absurd cause
owes-end P given before after status.ReadFault found cause files opened calm within tells = inr (tells.due ∙ sym (cond-else (is_over found.script) status.TooLarge (status_at (ending_of found)) within))
owes-end P given before after status.WriteFault found (inl rose) files opened calm within tells = not-more before.faults after.faults calm rose
owes-end P given before after status.WriteFault found (inr failed) files opened calm within tells =
    let openings = opened-calm given.transmit before.shelf.written after.shelf.written opened in absurd (omega (arith, failed.1))
owes-end P given before after status.BadCapture found cause files opened calm within tells = inr (tells.due ∙ sym (cond-else (is_over found.script) status.TooLarge (status_at (ending_of found)) within))
owes-end P given before after status.TooLarge found cause files opened calm within tells = inr (tells.due ∙ sym (cond-else (is_over found.script) status.TooLarge (status_at (ending_of found)) within))
owes-end P given before after status.NoMemory found cause files opened calm within tells = absurd cause

completes-end : (P : Limits → List Part → List Frame → List Entry → Type 0) (given : Given) (before after : Edges) (answer : Status)
    → Ends P given before after answer → write_faults after.shelf ≡ write_faults before.shelf → after.faults ≡ before.faults → IfSome (found_in given before.shelf after.shelf) (Owes answer)
completes-end P given before after answer ends files calm =
    IfSome-both (found_in given before.shelf after.shelf) (λ found. is_over found.script ≡ false) (λ found. Tells P given found before after answer) (Owes answer)
    (λ found within tells. owes-end P given before after answer found ends.cause files ends.opened calm within tells)
    (script-found given before.shelf after.shelf (λ script. is_over script ≡ false) ends.within) ends.tells

no-memory : (o : Option Found) → IfSome o (Owes status.NoMemory)
unfolding Owes
no-memory None = tt
no-memory (Some found) = inl refl

owes-large : (found : Found) → is_over found.script ≡ true → Owes status.TooLarge found
unfolding Owes
owes-large found over = inr (sym (cond-at (is_over found.script) status.TooLarge (status_at (ending_of found)) over))

completes-stop : (given : Given) (before after : Edges) (answer : Status) → IsWhy given before.shelf after.shelf answer → read_faults after.shelf ≡ read_faults before.shelf → write_faults after.shelf ≡ write_faults before.shelf
    → IfSome (found_in given before.shelf after.shelf) (Owes answer)
completes-stop given before after status.Done why calm files = absurd why
completes-stop given before after status.Usage why calm files = absurd why
completes-stop given before after status.ReadFault why calm files = absurd (omega arith)
completes-stop given before after status.WriteFault why calm files = absurd (omega (arith, why.failed, why.writes))
completes-stop given before after status.BadCapture why calm files = absurd why
completes-stop given before after status.TooLarge why calm files =
    IfSome-weaker (found_in given before.shelf after.shelf) (λ found. is_over found.script ≡ true) (Owes status.TooLarge) owes-large
    (script-found given before.shelf after.shelf (λ script. is_over script ≡ true) why.2)
completes-stop given before after status.NoMemory why calm files = no-memory (found_in given before.shelf after.shelf)

-- with no failed call the status is the one that the files owe, or there was no memory
pub CompletesBy-says : (P : Given → Limits → List Part → List Frame → List Entry → Type 0) (given : Option Given) (before after : Edges) (answer : Status)
    → SaysBy P given before after answer → CompletesBy given before after answer
unfolding Owes
CompletesBy-says P None before after answer says = tt
CompletesBy-says P (Some given) before after answer (inl ends) = λ calm files written. completes-end (P given) given before after answer ends files written
CompletesBy-says P (Some given) before after answer (inr stops) = λ calm files written. completes-stop given before after answer stops.why calm files

-- a script over its limits
is-too-large : (given : Given) (s t : ShelfState) (answer : Status) → IsWhy given s t answer → AsksForNone s t → early_faults t ≡ early_faults s → (answer ≡ status.NoMemory) ⊎ (answer ≡ status.TooLarge)
is-too-large given s t status.Done why none calm = absurd why
is-too-large given s t status.Usage why none calm = absurd why
is-too-large given s t status.ReadFault why none calm = absurd (omega arith)
is-too-large given s t status.WriteFault why none calm =
    let same : t.written.open_faults ≡ s.written.open_faults = ap (λ (x : WrittenState). x.open_faults) none.written in not-more s.written.open_faults t.written.open_faults same why.failed
is-too-large given s t status.BadCapture why none calm = absurd why
is-too-large given s t status.TooLarge why none calm = inr refl
is-too-large given s t status.NoMemory why none calm = inl refl

apart : {X : Type 0} (b : Bool) → b ≡ false → b ≡ true → X
apart b e f = absurd (never e f) where
  never : b ≡ false → b ≡ true → ⊥
  never e f = cc

pub IsTooLargeBy-says : (P : Given → Limits → List Part → List Frame → List Entry → Type 0) (given : Option Given) (before after : Edges) (answer : Status)
    → SaysBy P given before after answer → IsTooLargeBy given before.shelf after.shelf answer
IsTooLargeBy-says P None before after answer says = tt
IsTooLargeBy-says P (Some given) before after answer (inl ends) =
    IfSome-weaker (before.shelf.contents given.script) (λ script. is_over script ≡ false)
    (λ script. is_over script ≡ true → AsksForNone before.shelf after.shelf
    × (early_faults after.shelf ≡ early_faults before.shelf → (answer ≡ status.NoMemory) ⊎ (answer ≡ status.TooLarge)))
    (λ script within over. apart (is_over script) within over) ends.within
IsTooLargeBy-says P (Some given) before after answer (inr stops) =
    IfSome-weaker (before.shelf.contents given.script) (λ script. is_over script ≡ true → AsksForNone before.shelf after.shelf)
    (λ script. is_over script ≡ true → AsksForNone before.shelf after.shelf
    × (early_faults after.shelf ≡ early_faults before.shelf → (answer ≡ status.NoMemory) ⊎ (answer ≡ status.TooLarge)))
    (λ script sized over. (sized over, is-too-large given before.shelf after.shelf answer stops.why (sized over))) stops.sized
