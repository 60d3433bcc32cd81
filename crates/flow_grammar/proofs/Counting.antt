-- How many calls the parts of a program have.
use Rattle.std.proofs.Common.{◌≡◌, ℕ, ◌+◌, ◌≤◌, false, List, [], ◌∷◌, ◌++◌, length, is_some, Option, None, Some, refl, arith, sym, ap, length-append, zero-add, suc}
use Rattle.flow_calls.specs.declared.call.Call.{Call}
use Rattle.flow_calls.specs.declared.call.Op.{Op}
use Rattle.flow_calls.specs.declared.call.Op.TheVariants as ops
use Rattle.flow_grammar.specs.declared.line.Line.{Line}
use Rattle.flow_grammar.specs.declared.line.Line.TheVariants as lines
use Rattle.flow_grammar.specs.declared.part.Part.{Part}
use Rattle.flow_grammar.specs.declared.part.Part.TheVariants as parts
use Rattle.flow_grammar.specs.declared.draft.Opening.{Opening}
use Rattle.flow_grammar.specs.declared.draft.Draft.{Draft}
use Rattle.flow_grammar.specs.Program.{call_at, calls_at, ops_of, opening_at, section_of, phase_of, parts_from}
use Rattle.flow_grammar.specs.Limits.{calls_in}
use Rattle.flow_grammar.specs.Draft.{program_with, open_calls, IsCounted}
use Rattle.flow_grammar.proofs.Dealing.{length-dealt}

pub calls_in-append : (a b : List Part) → calls_in (a ++ b) ≡ calls_in a + calls_in b
calls_in-append [] b = sym (zero-add (calls_in b))
calls_in-append (parts.Section calls ∷ a) b = let step = calls_in-append a b in omega (arith, step)
calls_in-append (parts.Phase opening count shell agents closing ∷ a) b = let step = calls_in-append a b in omega (arith, step)

pub calls_in-section : (calls : List Call) → calls_in (section_of calls) ≡ length calls
calls_in-section [] = refl
calls_in-section (call ∷ calls) = omega arith

pub length-calls_at : (line part : ℕ) (asked : List Op) → length (calls_at line part asked) ≡ length asked
length-calls_at line part [] = refl
length-calls_at line part (op ∷ asked) = ap suc (length-calls_at line (part + 1) asked)

-- more calls of the open part
pub open_calls-append : (opening : Option Opening) (calls more : List Call) → open_calls opening (calls ++ more) ≡ open_calls opening calls + length more
open_calls-append None calls more = length-append calls more
open_calls-append (Some opening) calls more = omega (arith, length-append calls more)

-- a phase begins behind a section
pub counted-start : (old new : List Part) (opening : Option Opening) (calls : List Call) (count : ℕ) → is_some opening ≡ false
    → count ≡ calls_in old + open_calls opening calls → new ≡ old ++ section_of calls → count ≡ calls_in new
counted-start old new None calls count none counted is = omega (arith, ap calls_in is, calls_in-append old (section_of calls), calls_in-section calls, counted)
counted-start old new (Some opening) calls count none counted is = cc

-- a phase ends
pub counted-end : (old new : List Part) (opening : Opening) (before : Option Opening) (calls : List Call) (n count : ℕ) → before ≡ Some opening
    → count ≡ calls_in old + open_calls before calls → new ≡ old ++ phase_of opening calls n ∷ [] → count ≡ calls_in new
counted-end old new opening before calls n count some counted is =
    omega (arith, ap calls_in is, calls_in-append old (phase_of opening calls n ∷ []), length-dealt calls, counted, ap (λ o. open_calls o calls) some)

-- a line's calls add to those of the open part
more : (opening : Option Opening) (calls added : List Call) (n : ℕ) (rest : List Line)
    → open_calls opening (calls ++ added) ≤ calls_in (parts_from opening (calls ++ added) n rest) → open_calls opening calls ≤ calls_in (parts_from opening (calls ++ added) n rest)
more opening calls added n rest h = omega (arith, h, open_calls-append opening calls added)

-- the lines that follow add calls, and take none away
pub open_calls-le : (opening : Option Opening) (calls : List Call) (n : ℕ) (said : List Line) → open_calls opening calls ≤ calls_in (parts_from opening calls n said)
open_calls-le None calls n [] = omega (arith, calls_in-section calls)
open_calls-le (Some opening) calls n [] = omega (arith, length-dealt calls)
open_calls-le None calls n (lines.Start count ∷ rest) =
    omega (arith, calls_in-append (section_of calls) (parts_from (Some (opening_at n count)) [] (n + 1) rest), calls_in-section calls)
open_calls-le None calls n (lines.Quit ∷ rest) =
    omega (arith, calls_in-section (calls ++ call_at n 1 ops.Quit ∷ []), length-append calls (call_at n 1 ops.Quit ∷ []))
open_calls-le None calls n (lines.Calls asked ∷ rest) = more None calls (calls_at n 1 asked) (n + 1) rest (open_calls-le None (calls ++ calls_at n 1 asked) (n + 1) rest)
open_calls-le None calls n (lines.Stop ∷ rest) = more None calls (calls_at n 1 (ops_of lines.Stop)) (n + 1) rest (open_calls-le None (calls ++ calls_at n 1 (ops_of lines.Stop)) (n + 1) rest)
open_calls-le None calls n (lines.Blank ∷ rest) = more None calls [] (n + 1) rest (open_calls-le None (calls ++ []) (n + 1) rest)
open_calls-le None calls n (lines.Bad kind ∷ rest) = more None calls (calls_at n 1 (ops_of (lines.Bad kind))) (n + 1) rest (open_calls-le None (calls ++ calls_at n 1 (ops_of (lines.Bad kind))) (n + 1) rest)
open_calls-le (Some opening) calls n (lines.Stop ∷ rest) = omega (arith, length-dealt calls)
open_calls-le (Some opening) calls n (lines.Quit ∷ rest) = omega (arith, length-dealt calls)
open_calls-le (Some opening) calls n (lines.Calls asked ∷ rest) = more (Some opening) calls (calls_at n 1 asked) (n + 1) rest (open_calls-le (Some opening) (calls ++ calls_at n 1 asked) (n + 1) rest)
open_calls-le (Some opening) calls n (lines.Start count ∷ rest) = more (Some opening) calls (calls_at n 1 (ops_of (lines.Start count))) (n + 1) rest (open_calls-le (Some opening) (calls ++ calls_at n 1 (ops_of (lines.Start count))) (n + 1) rest)
open_calls-le (Some opening) calls n (lines.Blank ∷ rest) = more (Some opening) calls [] (n + 1) rest (open_calls-le (Some opening) (calls ++ []) (n + 1) rest)
open_calls-le (Some opening) calls n (lines.Bad kind ∷ rest) = more (Some opening) calls (calls_at n 1 (ops_of (lines.Bad kind))) (n + 1) rest (open_calls-le (Some opening) (calls ++ calls_at n 1 (ops_of (lines.Bad kind))) (n + 1) rest)

-- the script ends here
end-is : (opening : Option Opening) (calls : List Call) (n : ℕ) → calls_in (parts_from opening calls n []) ≡ open_calls opening calls
end-is None calls n = calls_in-section calls
end-is (Some opening) calls n = omega (arith, length-dealt calls)

-- what a draft has counted is in the program
pub count-le : (draft : Draft) (n : ℕ) (said : List Line) → IsCounted draft → draft.count ≤ calls_in (program_with draft n said)
count-le draft n said counted =
    omega (arith, counted, calls_in-append draft.parts.items (parts_from draft.opening draft.calls n said), open_calls-le draft.opening draft.calls n said)

pub count-is : (draft : Draft) (n : ℕ) → IsCounted draft → draft.count ≡ calls_in (program_with draft n [])
count-is draft n counted =
    omega (arith, counted, calls_in-append draft.parts.items (parts_from draft.opening draft.calls n []), end-is draft.opening draft.calls n)
