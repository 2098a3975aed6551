-- Free. Lines that are left out, since what they say holds without them.
--     AreApart, apart_of             no two lines have one step and path
--     steps_written, apart_written   what holds of lines holds of those of them that are written
--     same_picks                     a script picks the same without the lines that are left out
use Rattle.std.proofs.Common.{◌≡◌, ℕ, ◌≤◌, Bool, true, false, cond, ◌&&◌, nat_eq, List, [], ◌∷◌, Option, Some, None, refl, sym, ap, ◌∙◌, arith, eq-eqb}
use Rattle.std.specs.Cmp.Derive.{both_true}
use Rattle.std.specs.Cmp.Lexicographic.{pointwise}
use Rattle.std.specs.List.{AllByRecursion, IsDistinct}
use Rattle.std.specs.Option.{option_or, unwrap_or}
use Rattle.std.proofs.lemmas.Bool.{both_ways, eqb-true}
use Rattle.std.proofs.lemmas.Bool.Decides.{nat_tests}
use Rattle.std.proofs.lemmas.Map.Keys.{IsDistinct-head, IsDistinct-tail}
use Rattle.std.proofs.lemmas.Slice.Eq.{bytes_eq-Decides}
use Rattle.asm_reader.specs.ExactLines.{exactly}
use Rattle.asm_reader.specs.ScriptLines.{Line, exact_choice, is_line_of, pick}
use Rattle.asm_meaning.specs.Scripts.{IsUnrepeated, have_one_key}
use Rattle.asm_explore.specs.declared.scripts.script_line.Zeros.{Zeros}
use Rattle.asm_explore.specs.declared.scripts.script_line.Zeros.TheVariants.{Written, LeftOut}
use Rattle.asm_explore.specs.code.OutcomeLists.{Each}
use Rattle.asm_explore.specs.WrittenScripts.{AreSteps, is_written, written}
use Rattle.asm_explore.proofs.OutcomeLemmas.ListLemmas.{each_weaker}

-- ---- lines that are apart

abbrev pub IsApart : Line → Line → Type 0
IsApart line other = ¬ ((line.step ≡ other.step) × (line.path ≡ other.path))

abbrev pub AreApart : List Line → Type 0
AreApart [] = Unit {0}
AreApart (line ∷ lines) = Each (IsApart line) lines × AreApart lines

same_key : (line other : Line) → (line.step ≡ other.step) × (line.path ≡ other.path) → have_one_key line other ≡ true
same_key line other same = both_true (eq-eqb other.step line.step (sym same.0)) ((bytes_eq-Decides other.path line.path).1 (sym same.1))

each_apart : (line : Line) (lines : List Line) → AllByRecursion (λ other. have_one_key line other ≡ false) lines → Each (IsApart line) lines
each_apart line [] h = tt
each_apart line (other ∷ lines) h = ((λ same. both_ways (have_one_key line other) h.0 (same_key line other same)), each_apart line lines h.1)

apart_lines : (lines : List Line) → IsDistinct have_one_key lines → AreApart lines
apart_lines [] h = tt
apart_lines (line ∷ lines) h = (each_apart line lines (IsDistinct-head have_one_key line lines h), apart_lines lines (IsDistinct-tail have_one_key line lines h))

pub apart_of : (lines : List Line) → IsUnrepeated (exactly lines) → AreApart lines
apart_of lines h = apart_lines lines h.0

-- ---- what is written

each_kept : (P : Line → Type 0) (b : Bool) (line : Line) (rest : List Line) → P line → Each P rest → Each P (cond b (line ∷ rest) rest)
each_kept P true line rest h g = (h, g)
each_kept P false line rest h g = g

each_written : (P : Line → Type 0) (zeros : Zeros) (lines : List Line) → Each P lines → Each P (written zeros lines)
each_written P zeros [] h = tt
each_written P zeros (line ∷ lines) h = each_kept P (is_written zeros line.choice) line (written zeros lines) h.0 (each_written P zeros lines h.1)

pub steps_written : (zeros : Zeros) (lines : List Line) → AreSteps lines → AreSteps (written zeros lines)
steps_written zeros lines h = each_written (λ line. 1 ≤ line.step) zeros lines h

apart_kept : (b : Bool) (line : Line) (rest : List Line) → Each (IsApart line) rest → AreApart rest → AreApart (cond b (line ∷ rest) rest)
apart_kept true line rest h g = (h, g)
apart_kept false line rest h g = g

pub apart_written : (zeros : Zeros) (lines : List Line) → AreApart lines → AreApart (written zeros lines)
apart_written zeros [] h = tt
apart_written zeros (line ∷ lines) h =
    apart_kept (is_written zeros line.choice) line (written zeros lines) (each_written (IsApart line) zeros lines h.0) (apart_written zeros lines h.1)

-- ---- picks

abbrev picked_of : List Line → ℕ → List ℕ → ℕ
picked_of lines step p = pick (exactly lines) step p

first_or : (b : Bool) (k : ℕ) (o : Option ℕ) → unwrap_or (option_or (cond b (Some k) o) None) 0 ≡ cond b k (unwrap_or (option_or o None) 0)
first_or true k o = refl
first_or false k o = refl

picked_more : (line : Line) (lines : List Line) (step : ℕ) (p : List ℕ) → picked_of (line ∷ lines) step p ≡ cond (is_line_of step p line) line.choice (picked_of lines step p)
picked_more line lines step p = first_or (is_line_of step p line) line.choice (exact_choice lines step p)

abbrev IsOfOther : ℕ → List ℕ → Line → Type 0
IsOfOther step p line = ¬ ((line.step ≡ step) × (line.path ≡ p))

same_of : (step : ℕ) (p : List ℕ) (line : Line) → is_line_of step p line ≡ true → (line.step ≡ step) × (line.path ≡ p)
same_of step p line is = by_tests (nat_eq line.step step) (pointwise nat_eq line.path p) refl refl is
  where
    by_tests : (a b : Bool) → nat_eq line.step step ≡ a → pointwise nat_eq line.path p ≡ b → (a && b) ≡ true → (line.step ≡ step) × (line.path ≡ p)
    by_tests true true e f both = (eqb-true line.step step e, (bytes_eq-Decides line.path p).0 f)
    by_tests true false e f both = cc
    by_tests false b e f both = cc

other_of : (step : ℕ) (p : List ℕ) (line : Line) → IsOfOther step p line → is_line_of step p line ≡ false
other_of step p line other = by_test (is_line_of step p line) refl
  where
    by_test : (b : Bool) → is_line_of step p line ≡ b → is_line_of step p line ≡ false
    by_test true e = absurd (other (same_of step p line e))
    by_test false e = e

none_picked : (lines : List Line) (step : ℕ) (p : List ℕ) → Each (IsOfOther step p) lines → picked_of lines step p ≡ 0
none_picked [] step p h = refl
none_picked (line ∷ lines) step p h =
    picked_more line lines step p ∙ (ap (λ b. cond b line.choice (picked_of lines step p)) (other_of step p line h.0) ∙ none_picked lines step p h.1)

left_out : (zeros : Zeros) (k : ℕ) → is_written zeros k ≡ false → k ≡ 0
left_out Written k h = cc
left_out LeftOut k h = grind (arith, nat_tests)

-- the others of lines that are apart are of other steps or paths
others : (line : Line) (lines : List Line) (step : ℕ) (p : List ℕ) → Each (IsApart line) lines → is_line_of step p line ≡ true → Each (IsOfOther step p) lines
others line lines step p apart is =
    let same = same_of step p line is in
    each_weaker (IsApart line) (IsOfOther step p) (λ other h it. h (same.0 ∙ sym it.0, same.1 ∙ sym it.1)) lines apart

module _ (zeros : Zeros) (step : ℕ) (p : List ℕ) where
  pub same_picks : (lines : List Line) → AreApart lines → picked_of (written zeros lines) step p ≡ picked_of lines step p
  same_picks [] h = refl
  same_picks (line ∷ lines) h = by_tests (same_picks lines h.1) (is_written zeros line.choice) refl (is_line_of step p line) refl ∙ sym (picked_more line lines step p)
    where
      by_tests : picked_of (written zeros lines) step p ≡ picked_of lines step p → (b : Bool) → is_written zeros line.choice ≡ b → (t : Bool) → is_line_of step p line ≡ t
          → picked_of (cond b (line ∷ written zeros lines) (written zeros lines)) step p ≡ cond (is_line_of step p line) line.choice (picked_of lines step p)
      by_tests rest true e t is = picked_more line (written zeros lines) step p ∙ ap (cond (is_line_of step p line) line.choice) rest
      by_tests rest false e true is =
          none_picked (written zeros lines) step p (each_written (IsOfOther step p) zeros lines (others line lines step p h.0 is))
          ∙ (sym (left_out zeros line.choice e) ∙ ap (λ t. cond t line.choice (picked_of lines step p)) (sym is))
      by_tests rest false e false is = rest ∙ ap (λ t. cond t line.choice (picked_of lines step p)) (sym is)
