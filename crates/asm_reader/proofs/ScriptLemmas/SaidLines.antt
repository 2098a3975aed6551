-- Free. What the lines of a script are: each that isn't skipped says something, no two are for one
-- step and path, and no two of one path are for every step.
use Rattle.std.proofs.Common.{◌≡◌, ℕ, Bool, true, false, not, ◌&&◌, ◌||◌, List, [], ◌∷◌, ◌++◌, length, Option, Some, None, is_none, append_assoc, refl, sym, ap, subst, ◌∙◌, inl, inr, arith}
use Rattle.std.proofs.lemmas.Bool.{both_ways, eq-eqb, or_parts, or_right}
use Rattle.std.proofs.lemmas.List.{append-nil, length-append}
use Rattle.std.proofs.lemmas.List.Folds.{list_any-append}
use Rattle.std.proofs.lemmas.Slice.Eq.{bytes_eq-Decides}
use Rattle.std.specs.Cmp.Derive.{both_true}
use Rattle.std.specs.List.{list_any}
use Rattle.std.specs.Prelude.{IsSome}
use Rattle.asm_reader.specs.ScriptLines.{Line, EveryLine, SaidLine, ForStep, ForEvery, Script, no_lines, script_of, is_line_of, is_line_at}
use Rattle.asm_reader.specs.code.LinesSaid.{then_line}
use Rattle.asm_reader.specs.ScriptText.{line_of, is_skipped, said, said_in, script_in, has_line_of, is_bad, is_repeated, says_again, lines_of, AreFaultless, IsScript}
use Rattle.asm_reader.proofs.ScriptLemmas.FirstFaults.{said_push}
use Rattle.asm_reader.proofs.TokenFronts.{two_fronts}
use Rattle.asm_reader.proofs.ScriptLemmas.MoreLines.{script_of_push}

pub each_says : (text : List ℕ) (s : Script) → IsScript text s → (before after : List (List ℕ)) (bytes : List ℕ) → lines_of text ≡ before ++ bytes ∷ after → is_skipped bytes ≡ false → IsSome (line_of bytes)
each_says text s k before after bytes e read = by (line_of bytes) refl (subst (λ b. not b && is_none (line_of bytes) ≡ false) read (or_parts (is_bad bytes) (is_repeated before bytes) (k.faultless before after bytes e)).0)
  where
    by : (o : Option SaidLine) → line_of bytes ≡ o → is_none o ≡ false → IsSome o
    by None is none = absurd cc
    by (Some line) is none = refl

-- no line says what it says of the same as one before it
abbrev AreApart : {L : Type 0} → (L → L → Bool) → List L → Type 0
AreApart {L} again lines = (before after : List L) (line : L) → lines ≡ before ++ line ∷ after → list_any (again line) before ≡ false

none_apart : {L : Type 0} (again : L → L → Bool) → AreApart again []
none_apart again before after line e = absurd (omega (arith, ap length e, length-append before (line ∷ after)))

apart_push : {L : Type 0} (again : L → L → Bool) (lines : List L) (line : L) → AreApart again lines → list_any (again line) lines ≡ false → AreApart again (lines ++ line ∷ [])
apart_push again lines line apart new before after l e = elim (two_fronts lines before line l [] after e) [
  | inl p ↦ rw (← p.0, ← p.1) new
  | inr (inl p) ↦ absurd (omega (arith, ap length e, ap length p.1, length-append lines (line ∷ []), length-append before (l ∷ after), length-append lines (line ∷ p.0)))
  | inr (inr p) ↦ apart before p.0 l p.1
]

two_lines : {L : Type 0} (before between after : List L) (k l : L) → before ++ k ∷ between ++ l ∷ after ≡ (before ++ k ∷ between) ++ l ∷ after
two_lines [] between after k l = refl
two_lines (line ∷ before) between after k l = ap (λ s. line ∷ s) (two_lines before between after k l)

never_again : {L : Type 0} (again : L → L → Bool) (lines : List L) → AreApart again lines → (before between after : List L) (k l : L) → lines ≡ before ++ k ∷ between ++ l ∷ after → ¬ (again l k ≡ true)
never_again again lines apart before between after k l e same =
    let none = apart (before ++ k ∷ between) after l (e ∙ two_lines before between after k l) in
    let found : list_any (again l) (k ∷ between) ≡ true = ap (λ b. b || list_any (again l) between) same in
    both_ways (list_any (again l) (before ++ k ∷ between)) none (list_any-append (again l) before (k ∷ between) ∙ or_right (list_any (again l) before) (list_any (again l) (k ∷ between)) found)

-- ---- the lines of a script

abbrev again_exact : Line → Line → Bool
again_exact line = is_line_of line.step line.path

abbrev again_every : EveryLine → EveryLine → Bool
again_every line = is_line_at line.path

record IsApart (s : Script) : Type 0 where
  exact : AreApart again_exact s.exact
  every : AreApart again_every s.every

apart_then : (s : Script) (line : SaidLine) → IsApart s → has_line_of s line ≡ false → IsApart (then_line s line)
apart_then s (ForStep line) apart new = record { exact = apart_push again_exact s.exact line apart.exact new; every = apart.every }
apart_then s (ForEvery line) apart new = record { exact = apart.exact; every = apart_push again_every s.every line apart.every new }

apart_more : (lines : List SaidLine) (skipped : Bool) (o : Option SaidLine) → IsApart (script_of lines) → says_again (script_of lines) (said skipped o) ≡ false → IsApart (script_of (lines ++ said skipped o))
apart_more lines true o apart new = subst (λ ls. IsApart (script_of ls)) (sym (append-nil lines)) apart
apart_more lines false None apart new = subst (λ ls. IsApart (script_of ls)) (sym (append-nil lines)) apart
apart_more lines false (Some line) apart new = subst IsApart (sym (script_of_push lines line)) (apart_then (script_of lines) line apart new)

apart_behind : (before after : List (List ℕ)) → AreFaultless (before ++ after) → IsApart (script_in before) → IsApart (script_in (before ++ after))
apart_behind before [] faultless apart = subst (λ lines. IsApart (script_in lines)) (sym (append-nil before)) apart
apart_behind before (bytes ∷ after) faultless apart =
    let whole = append_assoc before (bytes ∷ []) after in
    let new = (or_parts (is_bad bytes) (is_repeated before bytes) (faultless before after bytes refl)).1 in
    subst (λ lines. IsApart (script_in lines)) whole
    (apart_behind (before ++ bytes ∷ []) after (subst AreFaultless (sym whole) faultless)
    (subst (λ lines. IsApart (script_of lines)) (sym (said_push before bytes)) (apart_more (said_in before) (is_skipped bytes) (line_of bytes) apart new)))

module _ (text : List ℕ) (s : Script) (is : IsScript text s) where
  all_apart : IsApart s
  all_apart =
      let none : IsApart no_lines = record { exact = none_apart again_exact; every = none_apart again_every } in
      subst IsApart (sym is.says) (apart_behind [] (lines_of text) is.faultless none)

  pub exact_apart : (before between after : List Line) (k l : Line) → s.exact ≡ before ++ k ∷ between ++ l ∷ after → ¬ ((k.step ≡ l.step) × (k.path ≡ l.path))
  exact_apart before between after k l e same =
      never_again again_exact s.exact all_apart.exact before between after k l e (both_true (eq-eqb k.step l.step same.0) ((bytes_eq-Decides k.path l.path).1 same.1))

  pub every_apart : (before between after : List EveryLine) (k l : EveryLine) → s.every ≡ before ++ k ∷ between ++ l ∷ after → ¬ (k.path ≡ l.path)
  every_apart before between after k l e same =
      never_again again_every s.every all_apart.every before between after k l e ((bytes_eq-Decides k.path l.path).1 same)
