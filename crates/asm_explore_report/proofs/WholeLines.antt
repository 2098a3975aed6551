-- Free. Lines that are written one by one, and all of them.
--     written_all         with those that have number 0, these are all lines
--     no_text             lines that are refused have no text
--     refused_within      what refuses the text of one line refuses that of all
--     longer_already      the first entries with their comments are no longer than all of them with
--                         the last comments
use Rattle.std.proofs.Common.{◌≡◌, ℕ, zero, suc, ◌<◌, ◌≤◌, List, [], ◌∷◌, ◌++◌, length, codes, take, get_or, inl, inr, ap, refl, arith, length-append}
use Rattle.std.proofs.lemmas.List.Folds.{length-flat_map-take}
use Rattle.asm_reader.specs.ScriptLines.{Line}
use Rattle.asm_reader.specs.ScriptText.{max_script}
use Rattle.asm_syntax.specs.declared.input_error.InputError.{InputError}
use Rattle.asm_syntax.specs.declared.input_error.InputError.TheVariants.{Memory, Named}
use Rattle.asm_explore.specs.declared.scripts.script_line.Zeros.TheVariants.{Written}
use Rattle.asm_explore.specs.declared.scripts.writing_error.WritingError.{WritingError}
use Rattle.asm_explore.specs.declared.scripts.writing_error.WritingError.TheVariants.{TooLong, LongNumber}
use Rattle.asm_explore.specs.WrittenScripts.{AnyIsLong, IsLong, IsTextRefusal, line_said, line_text, lines_text, numbers_in, numbers_of_line, written}
use Rattle.asm_explore.specs.ListElements.{AnyOf}
use Rattle.asm_explore_texts.specs.Comments.{comments}
use Rattle.asm_explore_report.specs.Commented.{HasNoText, commented, entries_text, entry_text, said_by}
use Rattle.asm_explore_report.specs.Printed.{left_out}
use Rattle.asm_explore_report.specs.declared.commented.Entry.{Entry}

pub written_all : (lines : List Line) → written Written lines ≡ lines
written_all [] = refl
written_all (line ∷ lines) = ap (λ ls. line ∷ ls) (written_all lines)

-- ---- refusals

any_first : {X : Type 0} (P : X → Type 0) (xs ys : List X) → AnyOf P xs → AnyOf P (xs ++ ys)
any_first P [] ys h = absurd h
any_first P (x ∷ xs) ys (inl h) = inl h
any_first P (x ∷ xs) ys (inr h) = inr (any_first P xs ys h)

any_last : {X : Type 0} (P : X → Type 0) (xs ys : List X) → AnyOf P ys → AnyOf P (xs ++ ys)
any_last P [] ys h = h
any_last P (x ∷ xs) ys h = inr (any_last P xs ys h)

module _ (d : Entry) where
  abbrev pub line_at : List Entry → ℕ → Line
  line_at entries i = line_said (get_or entries i d).line

  long_within : (entries : List Entry) (i : ℕ) → i < length entries → AnyIsLong (numbers_of_line (line_at entries i)) → AnyIsLong (numbers_in (said_by entries))
  long_within [] i low h = absurd (omega (arith, low))
  long_within (entry ∷ entries) zero low h = any_first IsLong (numbers_of_line (line_said entry.line)) (numbers_in (said_by entries)) h
  long_within (entry ∷ entries) (suc i) low h = any_last IsLong (numbers_of_line (line_said entry.line)) (numbers_in (said_by entries)) (long_within entries i (omega (arith, low)) h)

  no_longer : (entries : List Entry) (i : ℕ) → i < length entries → length (line_text (line_at entries i)) ≤ length (lines_text (said_by entries))
  no_longer [] i low = absurd (omega (arith, low))
  no_longer (entry ∷ entries) zero low = omega (arith, length-append (line_text (line_said entry.line)) (lines_text (said_by entries)))
  no_longer (entry ∷ entries) (suc i) low =
      omega (arith, no_longer entries i (omega (arith, low)), length-append (line_text (line_said entry.line)) (lines_text (said_by entries)))

  pub refused_within : (entries : List Entry) (i : ℕ) (e : InputError WritingError) → i < length entries → IsTextRefusal (numbers_of_line (line_at entries i)) (line_text (line_at entries i)) e
      → IsTextRefusal (numbers_in (said_by entries)) (lines_text (said_by entries)) e
  refused_within entries i Memory low h = tt
  refused_within entries i (Named TooLong) low h = omega (arith, h, no_longer entries i low)
  refused_within entries i (Named LongNumber) low h = long_within entries i low h

pub no_text : (first : List ℕ) (lines : List Line) (e : WritingError) → IsTextRefusal (numbers_in lines) (lines_text lines) (Named e) → HasNoText first lines
no_text first lines TooLong long = inr (omega (arith, long, length-append (comments (first ∷ left_out (codes "the comments" ∷ []))) (lines_text lines)))
no_text first lines LongNumber long = inl long

-- ---- lengths

pub longer_already : (front : List ℕ) (entries : List Entry) (last : List (List ℕ)) (i : ℕ) (d : Entry) → i < length entries
    → max_script < length ((front ++ entries_text (take i entries)) ++ entry_text (get_or entries i d)) → max_script < length (front ++ commented entries last)
longer_already front entries last i d low long = omega (
  arith,
  long,
  length-append (front ++ entries_text (take i entries)) (entry_text (get_or entries i d)),
  length-append front (entries_text (take i entries)),
  length-append front (commented entries last),
  length-flat_map-take entry_text entries i d low,
  length-append (entries_text entries) (comments last),
)
