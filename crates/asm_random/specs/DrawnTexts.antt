-- Definition. The script of a run that is drawn.
--     AreDrawn seed number step asked
--                             the choices take the candidates that the run with this number from a
--                             seed draws for them in this step
--     redrawn .. A rounds     the lines of a step from the state, whose choices were drawn in so many
--                             rounds: in each a line for each choice that the step makes under those
--                             of the round before, with the number that is drawn for it; in the first
--                             under none
--     IsUndrawnAfter .. A rounds
--                             a choice that the step makes under these lines takes another candidate
--                             than the one that is drawn for it
--     IsStill A               nothing goes on from the state: whatever is chosen, the step from it
--                             changes nothing, and no choice is made in it
--     IsOver right made       a run has ended by a step that has a fault, or come to a state that
--                             isn't right, or to one from which nothing goes on
--     IsDrawnTo script n      the run under a script makes n steps, the last of which may have a
--                             fault. Each begins in a state that is right, and its choices are those
--                             that run 0 from the seed draws
--     IsDrawnRun script n     these are as many steps as are asked for, or the run is over then
--     IsDrawnText text        the text is that of the script of such a run: it has a line for each
--                             choice that the run under it makes, unless it takes the first
--                             candidate, and no other
--     IsLongDraw              the lines of such a run are too long for a script
--     IsUnsettled             the steps up to one are drawn and lead to a state that is right, and
--                             that one is undrawn after most_rounds rounds
use Rattle.std.specs.Prelude.{◌≡◌, ◌≢◌, ◌≤◌, ◌<◌, ◌⊎◌, ℕ, zero, suc, Bool, true, false, List, [], length, map}
use Rattle.asm_state.specs.Location.{State}
use Rattle.asm_reader.specs.ExactLines.{exactly}
use Rattle.asm_reader.specs.ScriptLines.{Line, Script}
use Rattle.asm_reader.specs.ScriptText.{IsScript}
use Rattle.asm_meaning.specs.Run.{AtLimit, Run, Specification, run}
use Rattle.asm_explore.specs.ChoicePoints.{Asking}
use Rattle.asm_explore.specs.ChosenLines.{AreTooLong, chosen_lines}
use Rattle.asm_explore.specs.ListElements.{Each}
use Rattle.asm_explore.specs.RunChoices.{asked_from}
use Rattle.asm_explore.specs.Search.{IsQuiet}
use Rattle.asm_explore.specs.TakenChoices.{Situation}
use Rattle.asm_explore.specs.WrittenScripts.{IsTextOf}
use Rattle.asm_random.specs.DrawnNumbers.{drawn_number}

abbrev pub IsDrawn : (seed number step : ℕ) → Asking → Type 0
IsDrawn seed number step asking = asking.choice.number ≡ drawn_number seed number step asking.choice.path (length asking.candidates)

abbrev pub AreDrawn : (seed number step : ℕ) → List Asking → Type 0
AreDrawn seed number step asked = Each (IsDrawn seed number step) asked

-- the line by which the choice takes the candidate that is drawn for it
abbrev pub drawn_line : (seed number step : ℕ) → Asking → Line
drawn_line seed number step asking =
    record { step = step; path = asking.choice.path; choice = drawn_number seed number step asking.choice.path (length asking.candidates) }

-- a step is given up after so many
abbrev pub most_rounds : ℕ
most_rounds = 4_294_967_295

-- who says what is taken in a step
abbrev pub at_step : Script → (step : ℕ) → Situation
at_step script step = record { script = script; step = step }

module _ (specification : Specification) (turns : ℕ) where
  -- what is asked in the step after the first k steps of the run
  abbrev pub asked_after : Script → (k : ℕ) → List Asking
  asked_after script k = asked_from specification turns (run specification turns script k).last (at_step script (suc k))

  module _ (seed number step : ℕ) (A : State) where
    unfoldable pub redrawn : (rounds : ℕ) → List Line
    redrawn zero = []
    redrawn (suc rounds) = map (drawn_line seed number step) (asked_from specification turns A (at_step (exactly (redrawn rounds)) step))

    abbrev pub IsUndrawnAfter : (rounds : ℕ) → Type 0
    IsUndrawnAfter rounds = ¬ (AreDrawn seed number step (asked_from specification turns A (at_step (exactly (redrawn rounds)) step)))

  pub record IsStill (A : State) : Type 0 where
    pub quiet : IsQuiet specification turns A
    pub silent : (script : Script) (step : ℕ) → asked_from specification turns A (at_step script step) ≡ []

  abbrev pub IsOver : (right : State → Bool) → Run → Type 0
  IsOver right made = (made.end ≢ AtLimit) ⊎ ((right made.last ≡ false) ⊎ IsStill made.last)

  module _ (right : State → Bool) (seed : ℕ) where
    pub record IsDrawnTo (script : Script) (n : ℕ) : Type 0 where
      pub begins : (k : ℕ) → k < n → (run specification turns script k).end ≡ AtLimit
      pub are_right : (k : ℕ) → k < n → right (run specification turns script k).last ≡ true
      pub drawn : (k : ℕ) → k < n → AreDrawn seed 0 (suc k) (asked_after script k)

    module _ (steps : ℕ) where
      pub record IsDrawnRun (script : Script) (n : ℕ) : Type 0 where
        pub limited : n ≤ steps
        pub so_far : IsDrawnTo script n
        pub whole : (n ≡ steps) ⊎ IsOver right (run specification turns script n)

      pub record IsDrawnText (text : List ℕ) : Type 0 where
        pub lines : List Line
        pub is : IsTextOf lines text
        pub spelled : IsScript text (exactly lines)
        pub made : ℕ
        pub drawn : IsDrawnRun (exactly lines) made
        pub chosen : lines ≡ chosen_lines specification turns (exactly lines) made

      pub record IsLongDraw : Type 0 where
        pub script : Script
        pub made : ℕ
        pub drawn : IsDrawnRun script made
        pub long : AreTooLong (chosen_lines specification turns script made)

      pub record IsUnsettled : Type 0 where
        pub script : Script
        pub made : ℕ
        pub limited : made < steps
        pub drawn : IsDrawnTo script made
        pub comes : (run specification turns script made).end ≡ AtLimit
        pub is_right : right (run specification turns script made).last ≡ true
        pub undrawn : IsUndrawnAfter seed 0 (suc made) (run specification turns script made).last most_rounds
