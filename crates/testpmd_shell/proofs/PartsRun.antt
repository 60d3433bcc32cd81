-- A part of a program, and all of them, out of what is asked and taken.
use Rattle.std.proofs.Common.{◌≡◌, ℕ, ◌+◌, ◌≤◌, Bool, true, false, ◌||◌, List, [], ◌∷◌, ◌++◌, length, take, drop, Option, None, Some, refl, sym, ap, ◌∙◌, subst, append_assoc, append-nil, add-zero, length-append, arith, nat_lt}
use Rattle.std.proofs.Math.Seq.{take-append_seam, drop-append_seam}
use Rattle.std.proofs.lemmas.Bool.{lt-ltb, le-ltb}
use Rattle.std.proofs.lemmas.Grind.{common_steps}
use Rattle.flow_rules.specs.declared.limits.Limits.{Limits}
use Rattle.capture_files.specs.Record.{Frame}
use Rattle.io_edges.specs.ShelfState.{ShelfState}
use Rattle.flow_calls.specs.declared.call.Call.{Call}
use Rattle.flow_calls.specs.declared.entry.Entry.{Entry}
use Rattle.adapter.specs.Seen.{Seen, Grows}
use Rattle.flow_grammar.specs.declared.part.Part.{Part}
use Rattle.flow_grammar.specs.declared.part.Part.TheVariants.{Section, Phase}
use Rattle.whole_history.specs.Reach.{first, behind_first, asks_stop, has_phase, is_phase, left_by, taken_by, part_asks_stop, program_asks_stop}
use Rattle.whole_history.specs.Serial.{asks_of, all_asks_of, passes_of, in_turn, part_of}
use Rattle.testpmd_shell.specs.declared.feed.Feed.{Feed}
use Rattle.testpmd_shell.specs.Phase.{AreEntered, IsFull, Takes}
use Rattle.testpmd_shell.specs.Ways.{AreRun, Way, serially}
use Rattle.testpmd_shell.proofs.WaysRun.{AreRun-as}
use Rattle.testpmd_shell.specs.Sending.{AreKept}
use Rattle.testpmd_shell.proofs.Keeping.{AreKept-none, AreKept-asks, AreKept-all_asks}
use Rattle.testpmd_shell.specs.Parts.{ended_in, taken_in, WasRead, MayRemain, TakesIn, RunsPart, PartsToGo, RunsParts}

or-false : (b : Bool) → (b || false) ≡ b
or-false true = refl
or-false false = refl

-- ---- the frames of a phase, whatever stands behind them

no_more : {X : Type 0} (xs ys : List X) → ys ≡ [] → xs ++ ys ≡ xs
no_more xs ys none = ap (λ l. xs ++ l) none ∙ append-nil xs

take-short : (n : ℕ) (xs : List Frame) → length xs ≤ n → take n xs ≡ xs
take-short n xs short = grind (arith, common_steps)

drop-short : (n : ℕ) (xs : List Frame) → length xs ≤ n → drop n xs ≡ []
drop-short n xs short = grind (arith, common_steps)

record Full (count : Option ℕ) (more rest : List Frame) (ended ended' : Bool) : Type 0 where
  taken : first count (more ++ rest) ≡ more
  left : behind_first count (more ++ rest) ≡ rest
  asked : (ended || asks_stop count (more ++ rest)) ≡ ended'

full : (count : Option ℕ) (more rest : List Frame) (ended ended' : Bool) → IsFull count (length more) ended ended' → (ended ≡ true → ended' ≡ true) → MayRemain ended' rest → Full count more rest ended ended'
full None more rest ended ended' is stays may = record {
  taken = no_more more rest (may is);
  left = sym (may is);
  asked = or-true ended ∙ sym is;
} where
  or-true : (b : Bool) → (b || true) ≡ true
  or-true true = refl
  or-true false = refl
full (Some n) more rest true ended' is stays may =
    let none = may (stays refl) in record {
      taken = ap (take n) (no_more more rest none) ∙ take-short n more is.0;
      left = ap (drop n) (no_more more rest none) ∙ drop-short n more is.0 ∙ sym none;
      asked = sym (stays refl);
    }
full (Some n) more rest false true is stays may =
    let none = may refl in record {
      taken = ap (take n) (no_more more rest none) ∙ take-short n more is.0;
      left = ap (drop n) (no_more more rest none) ∙ drop-short n more is.0 ∙ sym none;
      asked = ap (λ l. nat_lt (length l) n) (no_more more rest none) ∙ lt-ltb (length more) n (is.2 refl refl);
    }
full (Some n) more rest false false is stays may =
    let same : length more ≡ n = is.1 refl in record {
      taken = ap (λ m. take m (more ++ rest)) (sym same) ∙ take-append_seam more rest;
      left = ap (λ m. drop m (more ++ rest)) (sym same) ∙ drop-append_seam more rest;
      asked = le-ltb (length (more ++ rest)) n (omega (arith, length-append more rest));
    }

module _ (Dealt : List Frame → Type 0) (count : Option ℕ) (state' : ShelfState) (content : List ℕ) (frames : List Frame) where
  -- a session with a capture
  pub TakesIn-takes : (feed feed' : Feed) → Takes Dealt count feed feed' state'.capture content frames → TakesIn Dealt count (Some feed) (Some feed') state' content frames
  TakesIn-takes feed feed' took =
      let more = took.takes.more in
      let whole = λ (rest : List Frame) (may : MayRemain feed'.reader.ended rest).
      full count more rest feed.reader.ended feed'.reader.ended took.full (λ e. (took.takes.none e).1) may in
      record {
        more = more;
        kept = refl;
        read = took.takes.read;
        counted = took.takes.counted;
        dealt = took.takes.dealt;
        taken = λ rest may. (whole rest may).taken;
        left = λ rest may. (whole rest may).left;
        asked = λ rest may. (whole rest may).asked;
        none = took.takes.none;
      }

  -- a session without one
  pub TakesIn-none : Dealt [] → frames ≡ [] → TakesIn Dealt count None None state' content frames
  TakesIn-none dealt none = record {
    more = [];
    kept = refl;
    read = append-nil frames ∙ none;
    counted = refl;
    dealt = dealt;
    taken = λ rest may. ap (first count) (may refl) ∙ nothing count;
    left = λ rest may. ap (behind_first count) (may refl) ∙ nothing_left count ∙ sym (may refl);
    asked = λ rest may. refl;
    none = λ e. (refl, refl);
  } where
    nothing : (count : Option ℕ) → first count [] ≡ []
    nothing None = refl
    nothing (Some n) = take-short n [] (omega arith)

    nothing_left : (count : Option ℕ) → behind_first count [] ≡ []
    nothing_left None = refl
    nothing_left (Some n) = drop-short n [] (omega arith)

-- ---- a part

-- what steps add in turn
grows-turn : (step : List Entry → List Entry) (steps : List (List Entry → List Entry)) (s0 s1 s2 : Seen)
    → Grows s0 s1 (step s0.history) → Grows s1 s2 (in_turn steps s1.history) → Grows s0 s2 (in_turn (step ∷ steps) s0.history)
grows-turn step steps s0 s1 s2 one more = record {
  limits = more.limits ∙ one.limits;
  history = more.history ∙ ap (λ h. h ++ in_turn steps h) one.history ∙ append_assoc s0.history (step s0.history) (in_turn steps (s0.history ++ step s0.history));
}

grows-none : (s : Seen) → Grows s s (in_turn [] s.history)
grows-none s = record { limits = refl; history = sym (append-nil s.history) }

pub RunsPart-section : (way : Way) (calls : List Call) (feed : Option Feed) (state' : ShelfState) (content : List ℕ) (frames : List Frame) (before after : Seen) (sent : Option (List ℕ))
    → WasRead feed state' content frames → Grows before after (asks_of before.limits 0 calls before.history)
    → ((limits : Limits) (number : ℕ) (fs : List Frame) (h : List Entry) → way limits number fs (Section calls) h (asks_of limits 0 calls h))
    → RunsPart way (Section calls) feed feed state' content frames before after sent sent
RunsPart-section way calls feed state' content frames before after sent was grows may_add = record {
  more = [];
  kept = refl;
  read = subst (WasRead feed state' content) (sym (append-nil frames)) was;
  counted = sym (add-zero (taken_in feed));
  keeps = λ are. AreKept-none sent (taken_in feed) frames after
      (AreKept-asks sent (taken_in feed) frames before.limits 0 calls before.history before after grows are);
  adds = λ rest may. record {
    entries = asks_of before.limits 0 calls before.history;
    grows = grows;
    may = may_add before.limits (taken_in feed + 1) rest before.history;
  };
  taken = λ rest may. refl;
  left = λ rest may. refl;
  asked = λ rest may. or-false (ended_in feed);
  none = λ e. (refl, e);
}

-- the opening, and then the shell's calls
grows-opening : (L : Limits) (opening : Call) (calls : List Call) (s0 s1 s2 : Seen) → s0.limits ≡ L → s1.limits ≡ L
    → Grows s0 s1 (asks_of s0.limits 0 (opening ∷ []) s0.history) → Grows s1 s2 (asks_of s1.limits 0 calls s1.history)
    → Grows s0 s2 (asks_of L 0 (opening ∷ calls) s0.history)
grows-opening L opening calls s0 s1 s2 l0 l1 g1 g2 =
    let one : Grows s0 s1 (asks_of L 0 (opening ∷ []) s0.history) = subst (λ l. Grows s0 s1 (asks_of l 0 (opening ∷ []) s0.history)) l0 g1 in
    let two : Grows s1 s2 (asks_of L 0 calls s1.history) = subst (λ l. Grows s1 s2 (asks_of l 0 calls s1.history)) l1 g2 in
    let asked = asks_of L 0 (opening ∷ []) s0.history in
    record {
      limits = two.limits ∙ one.limits;
      history = two.history ∙ ap (λ h. h ++ asks_of L 0 calls h) one.history ∙ append_assoc s0.history asked (asks_of L 0 calls (s0.history ++ asked));
    }

pub RunsPart-phase : (opening closing : Call) (count : Option ℕ) (calls : List Call) (agents : List (List Call)) (feed feed' : Option Feed) (state' : ShelfState)
    (content : List ℕ) (frames : List Frame) (s0 s1 s2 s3 s4 s5 : Seen) (sent sent' : Option (List ℕ))
    → Grows s0 s1 (asks_of s0.limits 0 (opening ∷ []) s0.history) → Grows s1 s2 (asks_of s1.limits 0 calls s1.history)
    → Grows s2 s3 (all_asks_of s2.limits 1 agents s2.history) → TakesIn (AreEntered (taken_in feed) frames s3 s4 sent sent') count feed feed' state' content frames
    → Grows s4 s5 (asks_of s4.limits 0 (closing ∷ []) s4.history)
    → RunsPart serially (Phase opening count calls agents closing) feed feed' state' content frames s0 s5 sent sent'
RunsPart-phase opening closing count calls agents feed feed' state' content frames s0 s1 s2 s3 s4 s5 sent sent' g1 g2 g3 took g5 =
    let L = s0.limits in
    let more = took.more in
    let number = taken_in feed + 1 in
    let entered = took.dealt in
    let l2 : s2.limits ≡ L = g2.limits ∙ g1.limits in
    let l3 : s3.limits ≡ L = g3.limits ∙ l2 in
    let l4 : s4.limits ≡ L = entered.grows.limits ∙ l3 in
    let opens = asks_of L 0 (opening ∷ calls) in
    let tells = all_asks_of L 1 agents in
    let closes = asks_of L 0 (closing ∷ []) in
    let opened : Grows s0 s2 (opens s0.history) = grows-opening L opening calls s0 s1 s2 refl g1.limits g1 g2 in
    let told : Grows s2 s3 (tells s2.history) = subst (λ l. Grows s2 s3 (all_asks_of l 1 agents s2.history)) l2 g3 in
    let closed : Grows s4 s5 (closes s4.history) = subst (λ l. Grows s4 s5 (asks_of l 0 (closing ∷ []) s4.history)) l4 g5 in
    let passed : Grows s3 s4 (passes_of L number more s3.history) = subst (λ l. Grows s3 s4 (passes_of l number more s3.history)) l3 entered.grows in
    record {
      more = more;
      kept = took.kept;
      read = took.read;
      keeps = λ are. AreKept-asks sent' (taken_in feed') (frames ++ more) s4.limits 0 (closing ∷ []) s4.history s4 s5 g5
          (subst (λ n. AreKept sent' n (frames ++ more) s4) (sym took.counted) (entered.keeps
          (AreKept-all_asks sent (taken_in feed) frames s2.limits 1 agents s2.history s2 s3 g3
          (AreKept-asks sent (taken_in feed) frames s1.limits 0 calls s1.history s1 s2 g2
          (AreKept-asks sent (taken_in feed) frames s0.limits 0 (opening ∷ []) s0.history s0 s1 g1 are)))));
      counted = took.counted;
      adds = λ rest may.
          let passes = passes_of L number (first count (more ++ rest)) in
          let all : Grows s3 s4 (passes s3.history) = subst (λ fs. Grows s3 s4 (passes_of L number fs s3.history)) (sym (took.taken rest may)) passed in
          record {
            entries = part_of L number (more ++ rest) (Phase opening count calls agents closing) s0.history;
            grows = grows-turn opens (tells ∷ passes ∷ closes ∷ []) s0 s2 s5 opened
                (grows-turn tells (passes ∷ closes ∷ []) s2 s3 s5 told
                (grows-turn passes (closes ∷ []) s3 s4 s5 all
                (grows-turn closes [] s4 s5 s5 closed (grows-none s5))));
            may = refl;
          };
      taken = took.taken;
      left = took.left;
      asked = took.asked;
      none = took.none;
    }

-- ---- all parts

split : (a b : Bool) → (a || b) ≡ false → (a ≡ false) × (b ≡ false)
split true b e = cc
split false b e = (refl, e)

-- a program without phases has none in front, and none behind
pub no_phase : (part : Part) (others : List Part) → has_phase (part ∷ others) ≡ false → (is_phase part ≡ false) × (has_phase others ≡ false)
no_phase part others e = split (is_phase part) (has_phase others) e

or_assoc : (a b c : Bool) → (a || (b || c)) ≡ ((a || b) || c)
or_assoc true b c = refl
or_assoc false b c = refl

module _ (way : Way) (parts : List Part) (start : Option Feed) (content : List ℕ) (frames : List Frame) (before : Seen) where
  pub PartsToGo-start : (state' : ShelfState) (sent : Option (List ℕ)) → WasRead start state' content frames → PartsToGo way parts parts start start state' content frames before before sent sent
  PartsToGo-start state' sent was = record {
    more = [];
    kept = refl;
    read = subst (WasRead start state' content) (sym (append-nil frames)) was;
    keeps = AreKept-none sent (taken_in start) frames before;
    go = λ rest may es are. (es, refl, are);
    asked = λ rest may. refl;
  }

  -- one more part was run
  pub PartsToGo-next : (part : Part) (others : List Part) (feed feed' : Option Feed) (state state' : ShelfState) (mid after : Seen) (first sent sent' : Option (List ℕ))
      → (so_far : PartsToGo way parts (part ∷ others) start feed state content frames before mid first sent) → mid.limits ≡ before.limits
      → RunsPart way part feed feed' state' content (frames ++ so_far.more) mid after sent sent'
      → PartsToGo way parts others start feed' state' content frames before after first sent'
  PartsToGo-next part others feed feed' state state' mid after first sent sent' so_far limits ran =
      let more = ran.more in
      let number = taken_in feed + 1 in
      let may' = λ (rest : List Frame) (may : MayRemain (ended_in feed') rest) (ended : ended_in feed ≡ true).
      let none = ran.none ended in no_more more rest (may none.1) ∙ none.0 in
      record {
        more = so_far.more ++ more;
        kept = ran.kept ∙ so_far.kept;
        read = subst (WasRead feed' state' content) (append_assoc frames so_far.more more) ran.read;
        keeps = λ are. subst (λ fs. AreKept sent' (taken_in feed') fs after) (append_assoc frames so_far.more more) (ran.keeps (so_far.keeps are));
        go = λ rest may es are.
            let fs = more ++ rest in
            let added = ran.adds rest may in
            let one = added.entries in
            let count : taken_in feed' + 1 ≡ number + length (taken_by part fs) =
            let counted = ran.counted in omega (arith, ap length (ran.taken rest may)) in
            let here : way before.limits number fs part mid.history one = subst (λ l. way l number fs part mid.history one) limits added.may in
            let behind : AreRun way before.limits (number + length (taken_by part fs)) (left_by part fs) others (mid.history ++ one) es =
            AreRun-as way others refl count (sym (ran.left rest may)) added.grows.history refl are in
            let all = so_far.go fs (may' rest may) (one ++ es) (one, es, refl, here, behind) in (
              all.0,
              all.1 ∙ sym (append_assoc mid.history one es) ∙ ap (λ h. h ++ es) (sym added.grows.history),
              subst (λ l. AreRun way before.limits (taken_in start + 1) l parts before.history all.0) (sym (append_assoc so_far.more more rest)) all.2,
            );
        asked = λ rest may.
            let fs = more ++ rest in
            ap (λ l. ended_in start || program_asks_stop parts l) (append_assoc so_far.more more rest)
            ∙ so_far.asked fs (may' rest may)
            ∙ or_assoc (ended_in feed) (part_asks_stop part fs) (program_asks_stop others (left_by part fs))
            ∙ ap (λ b. b || program_asks_stop others (left_by part fs)) (ran.asked rest may)
            ∙ ap (λ l. ended_in feed' || program_asks_stop others l) (ran.left rest may);
      }

  -- no part is left
  pub RunsParts-end : (feed : Option Feed) (state' : ShelfState) (after : Seen) (sent sent' : Option (List ℕ))
      → PartsToGo way parts [] start feed state' content frames before after sent sent' → RunsParts way parts start feed state' content frames before after sent sent'
  RunsParts-end feed state' after sent sent' so_far = record {
    more = so_far.more;
    kept = so_far.kept;
    read = so_far.read;
    keeps = so_far.keeps;
    history = λ rest may. let all = so_far.go rest may [] refl in (all.0, sym (append-nil after.history) ∙ sym all.1, all.2);
    asked = λ rest may. so_far.asked rest may ∙ or-false (ended_in feed);
  }
