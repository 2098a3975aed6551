-- Free. What spelled a script before a line could hold for every step spells one that picks the
-- same.
use Rattle.std.proofs.Common.{◌≡◌, ℕ, Bool, true, false, cond, not, ◌&&◌, ◌||◌, List, [], ◌∷◌, ◌++◌, nat_le, Option, None, Some, is_none, append_assoc, codes, refl, sym, ap, ◌∙◌, true≢false}
use Rattle.std.proofs.lemmas.Bool.{or_parts}
use Rattle.std.proofs.lemmas.List.{map-append}
use Rattle.std.proofs.lemmas.Slice.Eq.{bytes_eq-Decides}
use Rattle.std.specs.Prelude.{map}
use Rattle.std.specs.List.{slice_split}
use Rattle.std.specs.Option.{option_map}
use Rattle.std.specs.Str.{bytes_eq}
use Rattle.asm_reader.specs.ScriptLines.{Line, ForStep, Script, script_of, is_line_of, pick}
use Rattle.asm_reader.specs.ScriptText.{lines_of, number_of, path_of, step_with, when_of, line_with, line_of_fields, line_of, is_skipped, said, said_in, script_in, is_bad, is_repeated, says_again, AreFaultless}
use Rattle.asm_reader.specs.declared.script.When.TheVariants.{Step, EveryStep}
use Rattle.asm_reader.specs.OldScripts.{old_pick, old_line_with, old_line_of_fields, old_line_of, old_said, old_script_in, old_says_again, was_faulty, StillIsScript}
use Rattle.asm_reader.specs.ExactLines.{exactly}
use Rattle.asm_reader.proofs.ScriptLemmas.MoreLines.{pick_line}

exact_script : (lines : List Line) → script_of (map ForStep lines) ≡ exactly lines
exact_script [] = refl
exact_script (line ∷ lines) = ap (λ (s : Script). record { exact = line ∷ s.exact; every = s.every }) (exact_script lines)

picks_alike : (lines : List Line) (step : ℕ) (p : List ℕ) → pick (exactly lines) step p ≡ old_pick lines step p
picks_alike [] step p = refl
picks_alike (line ∷ lines) step p = pick_line line lines step p ∙ ap (cond (is_line_of step p line) line.choice) (picks_alike lines step p)

-- ---- one line

-- a number isn't `*`
still_step : (w : List ℕ) (i : ℕ) → number_of w ≡ Some i → when_of w ≡ step_with (Some i)
still_step w i e = by_test (bytes_eq w (codes "*")) refl
  where
    by_test : (b : Bool) → bytes_eq w (codes "*") ≡ b → cond b (Some EveryStep) (step_with (number_of w)) ≡ step_with (Some i)
    by_test true is =
        let star : w ≡ codes "*" = (bytes_eq-Decides w (codes "*")).0 is in
        let none : None ≡ Some i = ap number_of (sym star) ∙ e in
        absurd cc
    by_test false is = ap step_with e

still_with : (w : List ℕ) (p : Option (List ℕ)) (k : Option ℕ) (i : Option ℕ) → number_of w ≡ i → (line : Line) → old_line_with i p k ≡ Some line → line_with (when_of w) p k ≡ Some (ForStep line)
still_with w (Some p) (Some k) (Some i) e line is = ap (λ o. line_with o (Some p) (Some k)) (still_step w i e) ∙ by_test (nat_le 1 i) is
  where
    by_test : (b : Bool) → cond b (Some (record { step = i; path = p; choice = k })) None ≡ Some line → line_with (cond b (Some (Step i)) None) (Some p) (Some k) ≡ Some (ForStep line)
    by_test true is = ap (option_map ForStep) is
    by_test false is = absurd cc
still_with w None k None e line is = absurd cc
still_with w None k (Some i) e line is = absurd cc
still_with w (Some p) None None e line is = absurd cc
still_with w (Some p) None (Some i) e line is = absurd cc
still_with w (Some p) (Some k) None e line is = absurd cc

still_fields : (fields : List (List ℕ)) (line : Line) → old_line_of_fields fields ≡ Some line → line_of_fields fields ≡ Some (ForStep line)
still_fields [] line is = absurd cc
still_fields (a ∷ []) line is = absurd cc
still_fields (a ∷ b ∷ []) line is = absurd cc
still_fields (w ∷ p ∷ k ∷ []) line is = still_with w (path_of p) (number_of k) (number_of w) refl line is
still_fields (a ∷ b ∷ c ∷ d ∷ more) line is = absurd cc

-- a line that had a form says the same
still_said : (bytes : List ℕ) → not (is_skipped bytes) && is_none (old_line_of bytes) ≡ false
    → (is_bad bytes ≡ false) × (said (is_skipped bytes) (line_of bytes) ≡ map ForStep (old_said (is_skipped bytes) (old_line_of bytes)))
still_said bytes = by (is_skipped bytes) (old_line_of bytes) refl
  where
    by : (s : Bool) (o : Option Line) → old_line_of bytes ≡ o → not s && is_none o ≡ false → (not s && is_none (line_of bytes) ≡ false) × (said s (line_of bytes) ≡ map ForStep (old_said s o))
    by true o is fine = (refl, refl)
    by false None is fine = absurd (true≢false fine)
    by false (Some line) is fine =
        let still : line_of bytes ≡ Some (ForStep line) = still_fields (slice_split _ bytes) line is in
        (ap is_none still, ap (said false) still)

-- ---- all lines

abbrev HadForms : List (List ℕ) → Type 0
HadForms lines = (before after : List (List ℕ)) (bytes : List ℕ) → lines ≡ before ++ bytes ∷ after → not (is_skipped bytes) && is_none (old_line_of bytes) ≡ false

still_in : (lines : List (List ℕ)) → HadForms lines → said_in lines ≡ map ForStep (old_script_in lines)
still_in [] had = refl
still_in (bytes ∷ lines) had =
    let first = (still_said bytes (had [] lines bytes refl)).1 in
    let rest = still_in lines (λ before after b e. had (bytes ∷ before) after b (ap (λ ls. bytes ∷ ls) e)) in
    (λ j. first j ++ rest j) ∙ sym (map-append ForStep (old_said (is_skipped bytes) (old_line_of bytes)) (old_script_in lines))

again_alike : (before line : List Line) → says_again (exactly before) (map ForStep line) ≡ old_says_again before line
again_alike before [] = refl
again_alike before (line ∷ more) = refl

parts_of : (before : List (List ℕ)) (bytes : List ℕ) → was_faulty before bytes ≡ false
    → (not (is_skipped bytes) && is_none (old_line_of bytes) ≡ false) × (old_says_again (old_script_in before) (old_said (is_skipped bytes) (old_line_of bytes)) ≡ false)
parts_of before bytes = or_parts (not (is_skipped bytes) && is_none (old_line_of bytes)) (old_says_again (old_script_in before) (old_said (is_skipped bytes) (old_line_of bytes)))

pub still_is_script : StillIsScript
still_is_script text s old = (
  exactly s,
  record { fits = old.fits; faultless = fine; says = ap exactly old.says ∙ sym (spelled (lines_of text) had) },
  picks_alike s,
)
  where
    had : HadForms (lines_of text)
    had before after bytes e = (parts_of before bytes (old.faultless before after bytes e)).0

    spelled : (lines : List (List ℕ)) → HadForms lines → script_in lines ≡ exactly (old_script_in lines)
    spelled lines forms = ap script_of (still_in lines forms) ∙ exact_script (old_script_in lines)

    fine : AreFaultless (lines_of text)
    fine before after bytes e =
        let forms : HadForms before = λ front back b f. had front (back ++ bytes ∷ after) b (e ∙ ap (λ ls. ls ++ bytes ∷ after) f ∙ append_assoc front (b ∷ back) (bytes ∷ after)) in
        let one = still_said bytes (had before after bytes e) in
        let new = (parts_of before bytes (old.faultless before after bytes e)).1 in
        let again : is_repeated before bytes ≡ false = (λ j. says_again (spelled before forms j) (one.1 j)) ∙ again_alike (old_script_in before) (old_said (is_skipped bytes) (old_line_of bytes)) ∙ new in
        λ j. one.0 j || again j
