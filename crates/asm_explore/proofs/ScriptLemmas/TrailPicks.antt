-- Free. What the script of some steps picks, which are given last first.
--     or_nothing     what stands for no step in particular is nothing
--     at_none        in a step that isn't one of them nothing
--     at_step        in one of them what its choices say
use Rattle.std.proofs.Common.{◌≡◌, ◌∙◌, ℕ, zero, suc, ◌+◌, ◌<◌, ◌≤◌, ◌&&◌, Bool, true, false, cond, nat_eq, List, [], ◌∷◌, ◌++◌, length, Option, Some, None, refl, ap, arith, slice_get}
use Rattle.std.specs.Cmp.Lexicographic.{pointwise}
use Rattle.std.specs.Option.{option_or}
use Rattle.asm_reader.specs.ScriptLines.{Line, exact_choice, is_line_of}
use Rattle.asm_explore.specs.declared.outcomes.listed_outcome.Choice.{Choice}
use Rattle.asm_explore.specs.ChoiceLines.{lines_for, lines_of}

other_step : (s step : ℕ) → ¬ (s ≡ step) → nat_eq s step ≡ false
other_step s step other = grind (arith)

-- ---- the choices of a step

for_none : (s step : ℕ) (p : List ℕ) (cs : List Choice) → ¬ (s ≡ step) → exact_choice (lines_for s cs) step p ≡ None
for_none s step p [] other = refl
for_none s step p (c ∷ cs) other =
    ap (λ t. cond (t && pointwise nat_eq c.path p) (Some c.number) (exact_choice (lines_for s cs) step p)) (other_step s step other) ∙ for_none s step p cs other

-- ---- those of some steps

said_or : (b : Bool) (c : ℕ) (x y : Option ℕ) → cond b (Some c) (option_or x y) ≡ option_or (cond b (Some c) x) y
said_or true c x y = refl
said_or false c x y = refl

behind : (ks ls : List Line) (step : ℕ) (p : List ℕ) → exact_choice (ks ++ ls) step p ≡ option_or (exact_choice ks step p) (exact_choice ls step p)
behind [] ls step p = refl
behind (k ∷ ks) ls step p = ap (cond (is_line_of step p k) (Some k.choice)) (behind ks ls step p) ∙ said_or (is_line_of step p k) k.choice (exact_choice ks step p) (exact_choice ls step p)

pub or_nothing : (x : Option ℕ) → option_or x None ≡ x
or_nothing None = refl
or_nothing (Some n) = refl

pub at_none : (back : List (List Choice)) (step : ℕ) (p : List ℕ) → ((s : ℕ) → 0 < s → s ≤ length back → ¬ (s ≡ step)) → exact_choice (lines_of back) step p ≡ None
at_none [] step p apart = refl
at_none (cs ∷ back) step p apart =
    behind (lines_of back) (lines_for (suc (length back)) cs) step p
    ∙ ap (λ o. option_or o (exact_choice (lines_for (suc (length back)) cs) step p)) (at_none back step p (λ s some low. apart s some (omega (arith, low))))
    ∙ for_none (suc (length back)) step p cs (apart (suc (length back)) (omega arith) (omega arith))

pub at_step : (back : List (List Choice)) (k step : ℕ) (p : List ℕ) (cs : List Choice) → slice_get back k ≡ Some cs → step + k ≡ length back
    → exact_choice (lines_of back) step p ≡ exact_choice (lines_for step cs) step p
at_step [] k step p cs is count = cc
at_step (ds ∷ back) zero step p cs is count =
    let here : suc (length back) ≡ step = omega (arith, count) in
    let one : ds ≡ cs = cc in
    behind (lines_of back) (lines_for (suc (length back)) ds) step p
    ∙ ap (λ o. option_or o (exact_choice (lines_for (suc (length back)) ds) step p)) (at_none back step p (λ s some low same. omega (arith, low, same, count)))
    ∙ (λ i. exact_choice (lines_for (here i) (one i)) step p)
at_step (ds ∷ back) (suc k) step p cs is count =
    behind (lines_of back) (lines_for (suc (length back)) ds) step p
    ∙ ap (option_or (exact_choice (lines_of back) step p)) (for_none (suc (length back)) step p ds (λ same. omega (arith, same, count)))
    ∙ or_nothing (exact_choice (lines_of back) step p)
    ∙ at_step back k step p cs is (omega (arith, count))
