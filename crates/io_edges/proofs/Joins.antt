-- Printing over a page: one piece behind another, and what a page sends to its sink.
use Rattle.std.proofs.Common.{zero, suc, Some, add-one, take, refl, ◌≡◌, ℕ, ◌+◌, ◌-◌, ◌^◌, ◌≤◌, min, Bool, true, false, List, [], ◌∷◌, ◌++◌, length, map, Option, sym, ap, ◌∙◌, subst, append_assoc, append-nil, arith, length-append}
use Rattle.std.proofs.Math.Seq.{take-append-add}
use Rattle.std.proofs.lemmas.List.{take-append-le}
use Rattle.std.proofs.KnownBytes.{Appends-trans, Appends-nil}
use Rattle.std.specs.Option.{is_some}
use Rattle.std.specs.Io.KnownBytes.{Appends}
use Rattle.std.specs.List.{flat_map, slice_get}
use Rattle.io_edges.specs.Commas.{with_commas}
use Rattle.io_edges.specs.Faults.{Rose}
use Rattle.io_edges.specs.Front.{TakesFront}
use Rattle.io_edges.specs.declared.page.Page.{Page}
use Rattle.io_edges.specs.Gather.{Gather, gather_of, IsFresh}
use Rattle.io_edges.specs.Prints.{start_of, Gathered, Prints}

-- a front of a text is a front of each longer text
pub TakesFront-longer : (a b : Option (List ℕ)) (xs ys : List ℕ) (sent : ℕ) → TakesFront a b xs sent → TakesFront a b (xs ++ ys) sent
TakesFront-longer a b xs ys sent h = record {
  count = h.count;
  within = omega (arith, length-append xs ys, h.within);
  front = let within = h.within in rw (take-append-le h.count xs ys within) h.front;
  counted = h.counted;
}

-- some bytes were taken, and behind them a front of the rest
pub TakesFront-behind : (a b c : Option (List ℕ)) (xs ys : List ℕ) (sent more all : ℕ) → Appends a b xs → TakesFront b c ys more
    → sent ≡ min (length xs) (2 ^ 64 - 1) → all ≡ min (sent + more) (2 ^ 64 - 1) → TakesFront a c (xs ++ ys) all
TakesFront-behind a b c xs ys sent more all took h was is = record {
  count = length xs + h.count;
  within = omega (arith, length-append xs ys, h.within);
  front = rw (take-append-add xs ys h.count) (Appends-trans a b c xs _ took h.front);
  counted = omega (arith, h.counted);
}

-- one text behind another
pub Prints-then : {a b c : Gather} {xs ys : List ℕ} → Prints a b xs → Prints b c ys → Prints a c (xs ++ ys)
Prints-then {a} {b} {c} {xs} {ys} p q = record {
  on = λ start before h. subst (Gathered start c) (append_assoc before xs ys) (q.on start (before ++ xs) (p.on start before h));
}

-- the same text in other words
pub Prints-as : {a b : Gather} {xs ys : List ℕ} → xs ≡ ys → Prints a b xs → Prints a b ys
Prints-as {a} {b} e p = subst (Prints a b) e p

-- nothing was printed
pub Prints-none : (a : Gather) → Prints a a []
Prints-none a = record { on = λ start before h. subst (Gathered start a) (sym (append-nil before)) h }

-- a piece waits in the page
pub Prints-kept : (taken : Option (List ℕ)) (faults : ℕ) (failed : Bool) (sent : ℕ) (pending piece : List ℕ)
    → Prints (record { taken = taken; faults = faults; failed = failed; sent = sent; pending = pending })
    (record { taken = taken; faults = faults; failed = failed; sent = sent; pending = pending ++ piece }) piece
Prints-kept taken faults failed sent pending piece = record {
  on = λ start before h. record {
    whole = λ e. let w = h.whole e in record {
      written = w.written;
      splits = sym (append_assoc w.written pending piece) ∙ ap (λ l. l ++ piece) w.splits;
      took = w.took;
      calm = w.calm;
      counted = w.counted;
    };
    part = λ e. let p = h.part e in record {
      front = TakesFront-longer _ _ before piece sent p.front;
      rose = p.rose;
    };
    later = h.later;
    told = h.told;
  };
}

-- of what waited a front was written, and then a write failed
pub Prints-failed : (taken taken' : Option (List ℕ)) (faults faults' : ℕ) (failed : Bool) (sent more sent' : ℕ) (pending : List ℕ)
    → failed ≡ false → TakesFront taken taken' pending more → faults ≤ faults' → Rose faults faults' → is_some taken' ≡ is_some taken
    → sent' ≡ min (sent + more) (2 ^ 64 - 1)
    → Prints (record { taken = taken; faults = faults; failed = failed; sent = sent; pending = pending })
    (record { taken = taken'; faults = faults'; failed = true; sent = sent'; pending = [] }) []
Prints-failed taken taken' faults faults' failed sent more sent' pending is took later rose told counts = record {
  on = λ start before h. let w = h.whole is in record {
    whole = λ e. cc;
    part = λ e. record {
      front = subst (λ l. TakesFront start.taken taken' l sent') (w.splits ∙ sym (append-nil before))
          (TakesFront-behind _ _ _ w.written pending sent more sent' w.took took w.counted counts);
      rose = subst (λ n. Rose n faults') w.calm rose;
    };
    later = omega (arith, h.later);
    told = told ∙ h.told;
  };
}

-- the page was emptied, and a piece was sent past it
pub Prints-past : {a : Gather} (taken taken' : Option (List ℕ)) (faults faults' : ℕ) (failed failed' : Bool) (sent sent' : ℕ) (pending piece : List ℕ)
    → pending ≡ []
    → Prints a (record { taken = taken; faults = faults; failed = failed; sent = sent; pending = pending }) []
    → Prints (record { taken = taken; faults = faults; failed = failed; sent = sent; pending = piece })
    (record { taken = taken'; faults = faults'; failed = failed'; sent = sent'; pending = [] }) []
    → Prints a (record { taken = taken'; faults = faults'; failed = failed'; sent = sent'; pending = pending }) piece
Prints-past {a} taken taken' faults faults' failed failed' sent sent' pending piece empty flushed passed =
    let emptied = subst (λ ps. Prints a (record { taken = taken; faults = faults; failed = failed; sent = sent; pending = ps }) []) empty flushed in
    let kept = Prints-kept taken faults failed sent [] piece in
    subst (λ ps. Prints a (record { taken = taken'; faults = faults'; failed = failed'; sent = sent'; pending = ps }) piece) (sym empty)
    (Prints-as (append-nil piece) (Prints-then (Prints-then emptied kept) passed))

-- the first of a list, and behind it each with a comma before it
pub with_commas-first : {A : Type 0} (text : A → List ℕ) (x : A) (xs : List A)
    → text x ++ flat_map (λ n. 44 ∷ text n) xs ≡ with_commas (map text (x ∷ xs))
with_commas-first text x [] = append-nil (text x)
with_commas-first text x (y ∷ ys) = ap (λ l. text x ++ (44 ∷ l)) (with_commas-first text y ys)

-- at an empty page a text begins
pub Gathered-start : {S : Type 0} (taken : S → Option (List ℕ)) (faults : S → ℕ) (sink : S) (page : Page) → IsFresh page
    → Gathered (start_of taken faults sink) (gather_of taken faults sink page) []
Gathered-start taken faults sink page fresh = record {
  whole = λ e. record {
    written = [];
    splits = rw fresh.empty refl;
    took = Appends-nil (taken sink);
    calm = refl;
    counted = fresh.unsent;
  };
  part = λ e. let unfailed = fresh.unfailed in cc;
  later = omega arith;
  told = refl;
}

flat_map-next : {A : Type 0} (text : A → List ℕ) (xs : List A) (i : ℕ) (x : A) → slice_get xs i ≡ Some x
    → flat_map text (take i xs) ++ text x ≡ flat_map text (take (suc i) xs)
flat_map-next text [] i x is = cc
flat_map-next text (y ∷ ys) zero x is = let same : x ≡ y = cc in ap text same ∙ sym (append-nil (text y))
flat_map-next text (y ∷ ys) (suc i) x is =
    append_assoc (text y) (flat_map text (take i ys)) (text x) ∙ ap (λ l. text y ++ l) (flat_map-next text ys i x is)

-- one more item of a list
pub Prints-next : {A : Type 0} {a b d : Gather} (text : A → List ℕ) (xs : List A) (i : ℕ) (x : A) → slice_get xs i ≡ Some x
    → Prints a b (flat_map text (take i xs)) → Prints b d (text x) → Prints a d (flat_map text (take (i + 1) xs))
Prints-next text xs i x is before next =
    Prints-as (flat_map-next text xs i x is ∙ ap (λ n. flat_map text (take n xs)) (sym (add-one i))) (Prints-then before next)
