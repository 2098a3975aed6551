-- Free. The script with a line for each choice of some steps.
--     lines_apart        no two of its lines have one step and one path
--     lines_make         it makes all choices
--     some_script        some script makes the choices of a step
--     needed_alike       what is picked by it is picked if the lines of first candidates are left
--                        out
--     needed_make        so that those make all choices too
--     for_counted        steps count from 1
use Rattle.std.proofs.Common.{◌≡◌, ◌≢◌, ◌≤◌, ℕ, suc, Bool, true, false, not, cond, ◌&&◌, List, [], ◌∷◌, ◌++◌, length, Some, None, refl, sym, ap, ◌∙◌, arith}
use Rattle.std.specs.Bool.{Decides, nat_eq}
use Rattle.std.specs.Cmp.Lexicographic.{pointwise}
use Rattle.std.specs.List.{AllByRecursion, IsDistinct}
use Rattle.std.specs.Option.{option_or, unwrap_or}
use Rattle.std.proofs.lemmas.Bool.Decides.{Decides-eqb}
use Rattle.std.proofs.lemmas.Bool.{false_from_ne_true}
use Rattle.std.proofs.lemmas.Map.Keys.{IsDistinct-cons, IsDistinct-head, IsDistinct-tail}
use Rattle.std.proofs.lemmas.Slice.Eq.{slice_eq-Decides}
use Rattle.asm_reader.specs.ExactLines.{exactly}
use Rattle.asm_reader.specs.ScriptLines.{Line, Script, exact_choice, is_line_of, pick}
use Rattle.asm_meaning.specs.Scripts.{have_one_key, IsUnrepeated}
use Rattle.asm_meaning.specs.Yields.{Path}
use Rattle.asm_explore.specs.declared.outcomes.listed_outcome.Choice.{Choice}
use Rattle.asm_explore.specs.ListElements.{Each}
use Rattle.asm_explore.specs.code.OutcomeLists.{AreTaken}
use Rattle.asm_explore.specs.code.ChoicePaths.{HaveOwnPaths}
use Rattle.asm_explore.specs.code.ReachedStates.{MakesAll}
use Rattle.asm_explore.specs.ChoiceLines.{lines_for, lines_of, needed}
use Rattle.asm_explore.proofs.Elements.{each_append, each_first, each_last, each_weaker}

-- ---- keys

one_path : (p q : Path) → Decides (pointwise nat_eq p q) (p ≡ q)
one_path p q = slice_eq-Decides Decides-eqb p q (pointwise nat_eq p q) refl

both_true : (a b : Bool) → (a && b) ≡ true → (a ≡ true) × (b ≡ true)
both_true true b e = (refl, e)
both_true false b e = cc

key_is : (step : ℕ) (p : Path) (l : Line) → is_line_of step p l ≡ true → (l.step ≡ step) × (l.path ≡ p)
key_is step p l e =
    let both = both_true _ _ e in
    ((Decides-eqb l.step step).0 both.0, (one_path l.path p).0 both.1)

own_key : (l : Line) → is_line_of l.step l.path l ≡ true
own_key l = ap (λ b. b && pointwise nat_eq l.path l.path) ((Decides-eqb l.step l.step).1 refl) ∙ (one_path l.path l.path).1 refl

-- two lines have different steps or different paths
abbrev AreUnlike : Line → Line → Type 0
AreUnlike l m = ¬ ((l.step ≡ m.step) × (l.path ≡ m.path))

other_key : (l m : Line) → AreUnlike l m → is_line_of m.step m.path l ≡ false
other_key l m apart = false_from_ne_true (is_line_of m.step m.path l) (λ one. apart (key_is m.step m.path l one))

other_key_behind : (l m : Line) → AreUnlike l m → have_one_key l m ≡ false
other_key_behind l m apart =
    false_from_ne_true (have_one_key l m) (λ one. let same = key_is l.step l.path m one in apart (sym same.0, sym same.1))

abbrev AllUnlike : List Line → Type 0
AllUnlike [] = Unit {0}
AllUnlike (l ∷ ls) = Each (AreUnlike l) ls × AllUnlike ls

by_recursion : (P : Line → Type 0) (ls : List Line) → Each P ls → AllByRecursion P ls
by_recursion P [] h = tt
by_recursion P (l ∷ ls) h = (h.0, by_recursion P ls h.1)

distinct : (ls : List Line) → AllUnlike ls → IsDistinct have_one_key ls
unfolding IsDistinct
distinct [] h = tt
distinct (l ∷ ls) h =
    IsDistinct-cons have_one_key l ls
    (by_recursion (λ m. have_one_key l m ≡ false) ls (each_weaker (AreUnlike l) (λ m. have_one_key l m ≡ false) (other_key_behind l) ls h.0))
    (distinct ls h.1)

unlike_both : (ls ms : List Line) → AllUnlike ls → AllUnlike ms → Each (λ l. Each (AreUnlike l) ms) ls → AllUnlike (ls ++ ms)
unlike_both [] ms h g apart = g
unlike_both (l ∷ ls) ms h g apart = (each_append (AreUnlike l) ls ms h.0 apart.0, unlike_both ls ms h.1 g apart.1)

-- ---- each line is picked

abbrev IsSaid : List Line → Line → Type 0
IsSaid lines l = exact_choice lines l.step l.path ≡ Some l.choice

abbrev IsPicked : Script → Line → Type 0
IsPicked script l = pick script l.step l.path ≡ l.choice

said_later : (l : Line) (ls ms : List Line) → Each (AreUnlike l) ms → Each (IsSaid ls) ms → Each (IsSaid (l ∷ ls)) ms
said_later l ls [] apart h = tt
said_later l ls (m ∷ ms) apart h = (
  ap (λ b. cond b (Some l.choice) (exact_choice ls m.step m.path)) (other_key l m apart.0) ∙ h.0,
  said_later l ls ms apart.1 h.1,
)

all_said : (ls : List Line) → AllUnlike ls → Each (IsSaid ls) ls
all_said [] h = tt
all_said (l ∷ ls) h = (
  ap (λ b. cond b (Some l.choice) (exact_choice ls l.step l.path)) (own_key l),
  said_later l ls ls h.0 (all_said ls h.1),
)

all_picked : (ls : List Line) → AllUnlike ls → Each (IsPicked (exactly ls)) ls
all_picked ls h = each_weaker (IsSaid ls) (IsPicked (exactly ls)) (λ l said. ap (λ o. unwrap_or (option_or o None) 0) said) ls (all_said ls h)

-- ---- the lines of steps

for_step : (step : ℕ) (cs : List Choice) → Each (λ l. l.step ≡ step) (lines_for step cs)
for_step step [] = tt
for_step step (c ∷ cs) = (refl, for_step step cs)

for_others : (step : ℕ) (c : Choice) (cs : List Choice) → Each (λ d. c.path ≢ d.path) cs
    → Each (AreUnlike (record { step = step; path = c.path; choice = c.number })) (lines_for step cs)
for_others step c [] h = tt
for_others step c (d ∷ cs) h = (λ same. h.0 same.1, for_others step c cs h.1)

for_apart : (step : ℕ) (cs : List Choice) → HaveOwnPaths cs → AllUnlike (lines_for step cs)
for_apart step [] h = tt
for_apart step (c ∷ cs) h = (for_others step c cs h.0, for_apart step cs h.1)

for_taken : (script : Script) (step : ℕ) (cs : List Choice) → Each (IsPicked script) (lines_for step cs) → AreTaken (record { script = script; step = step }) cs
for_taken script step [] h = tt
for_taken script step (c ∷ cs) h = (h.0, for_taken script step cs h.1)

-- those of a step after those of earlier ones
steps_apart : (d : ℕ) (ls ms : List Line) → Each (λ l. l.step ≤ d) ls → Each (λ m. m.step ≡ suc d) ms → Each (λ l. Each (AreUnlike l) ms) ls
steps_apart d ls ms h g =
    each_weaker (λ l. l.step ≤ d) (λ l. Each (AreUnlike l) ms)
    (λ l low. each_weaker (λ m. m.step ≡ suc d) (AreUnlike l) (λ m is same. let one = same.0 in omega (arith, low, is, one)) ms g) ls h

lines_low : (back : List (List Choice)) → Each (λ l. l.step ≤ length back) (lines_of back)
lines_low [] = tt
lines_low (cs ∷ back) =
    let own = lines_for (suc (length back)) cs in
    each_append (λ l. l.step ≤ suc (length back)) (lines_of back) own
    (each_weaker (λ l. l.step ≤ length back) (λ l. l.step ≤ suc (length back)) (λ l low. omega (arith, low)) (lines_of back) (lines_low back))
    (each_weaker (λ l. l.step ≡ suc (length back)) (λ l. l.step ≤ suc (length back)) (λ l is. omega (arith, is)) own (for_step (suc (length back)) cs))

all_unlike : (back : List (List Choice)) → Each HaveOwnPaths back → AllUnlike (lines_of back)
all_unlike [] apart = tt
all_unlike (cs ∷ back) apart =
    let own = lines_for (suc (length back)) cs in
    unlike_both (lines_of back) own (all_unlike back apart.1) (for_apart (suc (length back)) cs apart.0)
    (steps_apart (length back) (lines_of back) own (lines_low back) (for_step (suc (length back)) cs))

all_made : (script : Script) (back : List (List Choice)) → Each (IsPicked script) (lines_of back) → MakesAll script back
all_made script [] h = tt
all_made script (cs ∷ back) h =
    let own = lines_for (suc (length back)) cs in (
      for_taken script (suc (length back)) cs (each_last (IsPicked script) (lines_of back) own h),
      all_made script back (each_first (IsPicked script) (lines_of back) own h),
    )

-- ---- the whole script

pub lines_apart : (back : List (List Choice)) → Each HaveOwnPaths back → IsUnrepeated (exactly (lines_of back))
unfolding IsDistinct
lines_apart back apart = (distinct (lines_of back) (all_unlike back apart), tt)

pub lines_make : (back : List (List Choice)) → Each HaveOwnPaths back → MakesAll (exactly (lines_of back)) back
lines_make back apart = all_made (exactly (lines_of back)) back (all_picked (lines_of back) (all_unlike back apart))

-- so that a script makes the choices of a step, in whatever step
pub some_script : (step : ℕ) (cs : List Choice) → HaveOwnPaths cs → (script : Script) × AreTaken (record { script = script; step = step }) cs
some_script step cs apart =
    let lines = lines_for step cs in
    (exactly lines, for_taken (exactly lines) step cs (all_picked lines (for_apart step cs apart)))

-- ---- the lines of first candidates left out

-- no line has the key of one that is before it
not_said : (l : Line) (ls : List Line) → AllByRecursion (λ m. have_one_key l m ≡ false) ls → exact_choice ls l.step l.path ≡ None
not_said l [] h = refl
not_said l (m ∷ ls) h = ap (λ b. cond b (Some m.choice) (exact_choice ls l.step l.path)) h.0 ∙ not_said l ls h.1

pick_first : (l : Line) (ls : List Line) (step : ℕ) (p : Path) (b : Bool) → is_line_of step p l ≡ b
    → pick (exactly (l ∷ ls)) step p ≡ unwrap_or (option_or (cond b (Some l.choice) (exact_choice ls step p)) None) 0
pick_first l ls step p b is = ap (λ b. unwrap_or (option_or (cond b (Some l.choice) (exact_choice ls step p)) None) 0) is

pick_none : (l : Line) (ls : List Line) (step : ℕ) (p : Path) → AllByRecursion (λ m. have_one_key l m ≡ false) ls → is_line_of step p l ≡ true → pick (exactly ls) step p ≡ 0
pick_none l ls step p h one =
    let same = key_is step p l one in
    ap (λ o. unwrap_or (option_or o None) 0) ((λ i. exact_choice ls (sym same.0 i) (sym same.1 i)) ∙ not_said l ls h)

pick_without : (l : Line) (ls : List Line) (step : ℕ) (p : Path) → AllByRecursion (λ m. have_one_key l m ≡ false) ls → l.choice ≡ 0
    → (b : Bool) → is_line_of step p l ≡ b → pick (exactly ls) step p ≡ pick (exactly (l ∷ ls)) step p
pick_without l ls step p h none true is = pick_none l ls step p h is ∙ sym none ∙ sym (pick_first l ls step p true is)
pick_without l ls step p h none false is = sym (pick_first l ls step p false is)

pick_with : (k : ℕ) (ls ms : List Line) (step : ℕ) (p : Path) → pick (exactly ls) step p ≡ pick (exactly ms) step p → (b : Bool)
    → unwrap_or (option_or (cond b (Some k) (exact_choice ls step p)) None) 0 ≡ unwrap_or (option_or (cond b (Some k) (exact_choice ms step p)) None) 0
pick_with k ls ms step p same true = refl
pick_with k ls ms step p same false = same

pub needed_alike : (ls : List Line) → IsDistinct have_one_key ls → (step : ℕ) (p : Path) → pick (exactly (needed ls)) step p ≡ pick (exactly ls) step p
needed_alike [] h step p = refl
needed_alike (l ∷ ls) h step p =
    let rest = needed_alike ls (IsDistinct-tail have_one_key l ls h) step p in
    elim (nat_eq l.choice 0) as (λ b. nat_eq l.choice 0 ≡ b
    → pick (exactly (cond (not b) (l ∷ needed ls) (needed ls))) step p ≡ pick (exactly (l ∷ ls)) step p) [
      | true ↦ λ first. rest ∙ pick_without l ls step p (IsDistinct-head have_one_key l ls h) ((Decides-eqb l.choice 0).0 first) (is_line_of step p l) refl
      | false ↦ λ other. pick_with l.choice (needed ls) ls step p rest (is_line_of step p l)
    ] refl

-- ---- the lines that are needed make all choices too

pub needed_make : (back : List (List Choice)) → Each HaveOwnPaths back → MakesAll (exactly (needed (lines_of back))) back
needed_make back apart =
    let lines = lines_of back in
    let unlike = all_unlike back apart in
    all_made (exactly (needed lines)) back
    (each_weaker (IsPicked (exactly lines)) (IsPicked (exactly (needed lines))) (λ l picked. needed_alike lines (distinct lines unlike) l.step l.path ∙ picked) lines (all_picked lines unlike))

pub for_counted : (step : ℕ) (cs : List Choice) → 1 ≤ step → Each (λ l. 1 ≤ l.step) (lines_for step cs)
for_counted step cs some = each_weaker (λ l. l.step ≡ step) (λ l. 1 ≤ l.step) (λ l is. omega (arith, is, some)) (lines_for step cs) (for_step step cs)
