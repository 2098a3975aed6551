-- Free. A reader of scripts as lists, which computes, and what it returns is right. So each text
-- has a script or a refusal as one.
use Rattle.std.proofs.Common.{◌≡◌, ◌⊎◌, ℕ, suc, ◌<◌, ◌≤◌, Bool, true, false, ◌||◌, List, [], ◌∷◌, ◌++◌, length, Option, Some, None, Result, Ok, Err, append_assoc, refl, sym, subst, inl, inr, arith}
use Rattle.std.proofs.lemmas.List.{append-nil}
use Rattle.std.specs.Prelude.{nat_le, if◌then◌else◌}
use Rattle.asm_reader.specs.ScriptLines.{Script}
use Rattle.asm_reader.specs.ScriptText.{script_in, is_bad, is_repeated, AreFaultless, IsRefusalOfLines, IsScript, IsScriptRefusal, lines_of, max_script}
use Rattle.asm_reader.specs.declared.script_error.ScriptError.{ScriptError}
use Rattle.asm_reader.specs.declared.script_error.ScriptError.TheVariants.{BadLine, Repeated, TooLong}
use Rattle.asm_reader.proofs.ScriptLemmas.FirstFaults.{no_lines_faulty, faultless_push}

-- the fault of line number n, by whether it is bad and whether it repeats another, or else that of
-- the lines after it
abbrev fault_by : (bad again : Bool) → ℕ → Option ScriptError → Option ScriptError
fault_by true again n more = Some (BadLine n)
fault_by false true n more = Some (Repeated n)
fault_by false false n more = more

-- the first fault after these lines
abbrev fault_behind : (before after : List (List ℕ)) → Option ScriptError
fault_behind before [] = None
fault_behind before (bytes ∷ after) = fault_by (is_bad bytes) (is_repeated before bytes) (suc (length before)) (fault_behind (before ++ bytes ∷ []) after)

abbrev HasFault : List (List ℕ) → Option ScriptError → Type 0
HasFault lines None = AreFaultless lines
HasFault lines (Some e) = IsRefusalOfLines lines e

fault_more : (before : List (List ℕ)) (bytes : List ℕ) (after : List (List ℕ)) (o : Option ScriptError) → AreFaultless before → (AreFaultless (before ++ bytes ∷ []) → HasFault ((before ++ bytes ∷ []) ++ after) o)
    → HasFault (before ++ bytes ∷ after) (fault_by (is_bad bytes) (is_repeated before bytes) (suc (length before)) o)
fault_more before bytes after o faultless more = by (is_bad bytes) (is_repeated before bytes) refl refl
  where
    by : (x y : Bool) → is_bad bytes ≡ x → is_repeated before bytes ≡ y → HasFault (before ++ bytes ∷ after) (fault_by x y (suc (length before)) o)
    by true y bad again = record { before = before; bytes = bytes; after = after; parts = refl; number = refl; fault = bad; first = faultless }
    by false true bad again = record { before = before; bytes = bytes; after = after; parts = refl; number = refl; fault = again; first = faultless }
    by false false bad again = subst (λ lines. HasFault lines o) (append_assoc before (bytes ∷ []) after) (more (faultless_push before bytes faultless (λ j. bad j || again j)))

has_fault : (before after : List (List ℕ)) → AreFaultless before → HasFault (before ++ after) (fault_behind before after)
has_fault before [] faultless = subst AreFaultless (sym (append-nil before)) faultless
has_fault before (bytes ∷ after) faultless = fault_more before bytes after (fault_behind (before ++ bytes ∷ []) after) faultless (λ one_more. has_fault (before ++ bytes ∷ []) after one_more)

-- ---- texts

abbrev unless : Option ScriptError → Script → Result Script ScriptError
unless None script = Ok script
unless (Some e) script = Err e

-- what a text says, or its refusal
abbrev pub read : List ℕ → Result Script ScriptError
read text = if nat_le (length text) max_script then unless (fault_behind [] (lines_of text)) (script_in (lines_of text)) else Err TooLong

module _ (text : List ℕ) where
  -- the result is right
  abbrev pub IsRight : Result Script ScriptError → Type 0
  IsRight (Ok s) = IsScript text s
  IsRight (Err e) = IsScriptRefusal text e

  right_unless : length text ≤ max_script → (o : Option ScriptError) → HasFault (lines_of text) o → IsRight (unless o (script_in (lines_of text)))
  right_unless fits None faultless = record { fits = fits; faultless = faultless; says = refl }
  right_unless fits (Some (BadLine n)) p = (fits, p)
  right_unless fits (Some (Repeated n)) p = (fits, p)
  right_unless fits (Some TooLong) p = absurd p

  is_right : IsRight (read text)
  is_right = by (nat_le (length text) max_script) refl
    where
      by : (r : Bool) → nat_le (length text) max_script ≡ r → IsRight (if r then unless (fault_behind [] (lines_of text)) (script_in (lines_of text)) else Err TooLong)
      by true h = right_unless (grind (arith, h)) (fault_behind [] (lines_of text)) (has_fault [] (lines_of text) no_lines_faulty)
      by false h = let long : max_script < length text = grind (arith, h) in long

  -- what the reader returns, when it is known
  pub answers : (r : Result Script ScriptError) → read text ≡ r → IsRight r
  answers r e = subst IsRight e is_right

  pub script_or_a_refusal : ((s : Script) × IsScript text s) ⊎ ((e : ScriptError) × IsScriptRefusal text e)
  script_or_a_refusal = by (read text) is_right
    where
      by : (r : Result Script ScriptError) → IsRight r → ((s : Script) × IsScript text s) ⊎ ((e : ScriptError) × IsScriptRefusal text e)
      by (Ok s) right = inl (s, right)
      by (Err e) right = inr (e, right)
