-- Free. The text of the script that a run needs.
--     needed_lines     the lines of the choices of a run that are needed
--     needed_text      their text makes the run again, and its choices
--     too_long         why there is no text
use Rattle.std.proofs.Common.{◌≡◌, ℕ, List, inl, inr, sym, ap}
use Rattle.asm_syntax.specs.declared.input_error.InputError.TheVariants.{Named}
use Rattle.asm_reader.specs.ExactLines.{exactly}
use Rattle.asm_reader.specs.ScriptLines.{Line, Script}
use Rattle.asm_reader.specs.ScriptText.{IsScript}
use Rattle.asm_meaning.specs.Run.{Specification}
use Rattle.asm_explore.specs.declared.outcomes.listed_outcome.Choice.{Choice}
use Rattle.asm_explore.specs.declared.scripts.writing_error.WritingError.{WritingError}
use Rattle.asm_explore.specs.declared.scripts.writing_error.WritingError.TheVariants.{LongNumber, TooLong}
use Rattle.asm_explore.specs.ChosenLines.{AreTooLong, IsChosenText, chosen_lines}
use Rattle.asm_explore.specs.RunChoices.{chosen_from, lines_forward, of_run}
use Rattle.asm_explore.specs.ChoiceLines.{needed}
use Rattle.asm_explore.specs.WrittenScripts.{IsTextOf, IsTextRefusal, lines_text, numbers_in}
use Rattle.asm_explore.proofs.ChoiceLemmas.SameRun.{needed_again}

pub too_long : (lines : List Line) (e : WritingError) → IsTextRefusal (numbers_in lines) (lines_text lines) (Named e) → AreTooLong lines
too_long lines TooLong h = inr h
too_long lines LongNumber h = inl h

module _ (specification : Specification) (turns : ℕ) (script : Script) (limit : ℕ) (steps : List (List Choice)) (are : steps ≡ of_run specification turns (chosen_from specification turns) script limit) where
  pub needed_lines : needed (lines_forward steps) ≡ chosen_lines specification turns script limit
  needed_lines = ap (λ cs. needed (lines_forward cs)) are

  pub needed_text : (text : List ℕ) → IsTextOf (needed (lines_forward steps)) text → IsScript text (exactly (needed (lines_forward steps))) → IsChosenText specification turns script limit text
  needed_text text is spelled =
      let both = needed_again specification turns script limit steps are in
      record {
        lines = needed (lines_forward steps);
        is = is;
        spelled = spelled;
        chosen = ap (λ cs. needed (lines_forward cs)) (sym both.1);
        again = both.0;
      }
