-- Definition. The script that a run needs, and when it can't be written.
--     chosen_lines script limit    a line for each choice that the run under a script makes, in
--                                  their order, except for those of a first candidate, which is
--                                  taken without a line
--     AreTooLong lines             a number in them has more than nine digits, or their text is
--                                  longer than a script may be
--     IsChosenText script limit text    the text is that of a script under which the run is the
--                                  same, with a line for each choice that it makes so, and no other
use Rattle.std.specs.Prelude.{◌≡◌, ◌<◌, ◌⊎◌, ℕ, not, nat_eq, List, length}
use Rattle.std.specs.List.{filter}
use Rattle.asm_reader.specs.ExactLines.{exactly}
use Rattle.asm_reader.specs.ScriptLines.{Line, Script}
use Rattle.asm_reader.specs.ScriptText.{IsScript, max_script}
use Rattle.asm_meaning.specs.Run.{Specification, run}
use Rattle.asm_explore.specs.RunChoices.{chosen_from, lines_forward, of_run}
use Rattle.asm_explore.specs.WrittenScripts.{AnyIsLong, IsTextOf, lines_text, numbers_in}

abbrev pub chosen_lines : Specification → (turns : ℕ) → Script → (limit : ℕ) → List Line
chosen_lines specification turns script limit =
    filter (λ line. not (nat_eq line.choice 0)) (lines_forward (of_run specification turns (chosen_from specification turns) script limit))

abbrev pub AreTooLong : List Line → Type 0
AreTooLong lines = AnyIsLong (numbers_in lines) ⊎ (max_script < length (lines_text lines))

pub record IsChosenText (specification : Specification) (turns : ℕ) (script : Script) (limit : ℕ) (text : List ℕ) : Type 0 where
  pub lines : List Line
  pub is : IsTextOf lines text
  pub spelled : IsScript text (exactly lines)
  pub chosen : lines ≡ chosen_lines specification turns (exactly lines) limit
  pub again : run specification turns (exactly lines) limit ≡ run specification turns script limit
