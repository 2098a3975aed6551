-- Free. The lines of a run that is drawn.
--     needed_alike     with a line for each choice of a run, unless it takes the first candidate, each
--                      step tells the same
--     is_drawn_text    their text is that of the script of a run that is drawn
--     too_long         why they have none
use Rattle.std.proofs.Common.{◌≡◌, ◌∙◌, ℕ, suc, ◌+◌, ◌<◌, Bool, List, [], Option, None, Some, unwrap_or, inl, inr, sym, ap, subst, arith, slice_get}
use Rattle.std.specs.Option.{option_or}
use Rattle.std.specs.Prelude.{nat_eq, not}
use Rattle.std.specs.List.{filter}
use Rattle.asm_state.specs.Location.{State}
use Rattle.asm_syntax.specs.declared.input_error.InputError.TheVariants.{Named}
use Rattle.asm_reader.specs.ExactLines.{exactly}
use Rattle.asm_reader.specs.ScriptLines.{Line, Script, pick}
use Rattle.asm_reader.specs.ScriptText.{IsScript}
use Rattle.asm_meaning.specs.Program.{nothing_bound}
use Rattle.asm_meaning.specs.Run.{AtLimit, Specification, run}
use Rattle.asm_meaning.specs.Scripts.{IsUnrepeated}
use Rattle.asm_meaning.specs.StoryLaws.{AreToldOutcomes}
use Rattle.asm_explore.specs.ChoicesMadeLaws.{MakingLaws, Takes}
use Rattle.asm_explore.specs.ChosenLines.{AreTooLong}
use Rattle.asm_explore.specs.RunChoices.{chosen_from, lines_forward, of_run}
use Rattle.asm_explore.specs.WrittenScripts.{IsTextOf, IsTextRefusal, lines_text, numbers_in, written}
use Rattle.asm_explore.specs.declared.outcomes.listed_outcome.Choice.{Choice}
use Rattle.asm_explore.specs.declared.scripts.script_line.Zeros.{Zeros}
use Rattle.asm_explore.specs.declared.scripts.script_line.Zeros.TheVariants.{LeftOut}
use Rattle.asm_explore.specs.declared.scripts.writing_error.WritingError.{WritingError}
use Rattle.asm_explore.specs.declared.scripts.writing_error.WritingError.TheVariants.{TooLong, LongNumber}
use Rattle.asm_random.specs.DrawnTexts.{IsDrawnRun, IsDrawnText, at_step}
use Rattle.asm_random.proofs.DrawnSoFar.{drawn_alike}
use Rattle.asm_random.proofs.PickedLines.{IsIn, each_in, line_in, picked_line}
use Rattle.asm_random.proofs.StoriesAlike.{AreToldAlikeTo, chosen_at, lists_alike}

pub too_long : (lines : List Line) (e : WritingError) → IsTextRefusal (numbers_in lines) (lines_text lines) (Named e) → AreTooLong lines
too_long lines TooLong h = inr h
too_long lines LongNumber h = inl h

module _ (specification : Specification) (turns : ℕ) where
  abbrev pub Making : Type 0
  Making = (script : Script) (step : ℕ) (A : State) → MakingLaws specification.program turns script step A nothing_bound [] specification.main

  abbrev pub PicksWithoutZeros : Type 0
  PicksWithoutZeros = (zeros : Zeros) (lines : List Line) → IsUnrepeated (exactly lines) → (step : ℕ) (path : List ℕ) → pick (exactly (written zeros lines)) step path ≡ pick (exactly lines) step path

  module _ (making : Making) (zeros : PicksWithoutZeros) (s : Script) (n : ℕ) where
    abbrev made : List (List Choice)
    made = of_run specification turns (chosen_from specification turns) s n

    abbrev needed : List Line
    needed = written LeftOut (lines_forward made)

    module _ (apart : IsUnrepeated (exactly (lines_forward made))) (begins : (k : ℕ) → k < n → (run specification turns s k).end ≡ AtLimit) where
      takes : (k : ℕ) → k < n → Takes (pick (exactly needed) (suc k)) (chosen_from specification turns (run specification turns s k).last (at_step s (suc k)))
      takes k low = each_in (λ (c : Choice). pick (exactly needed) (suc k) c.path ≡ c.number) cs one
        where
          cs : List Choice
          cs = chosen_from specification turns (run specification turns s k).last (at_step s (suc k))

          next : 1 + k ≡ suc k
          next = omega arith

          here : slice_get made k ≡ Some (chosen_from specification turns (run specification turns s k).last (at_step s (suc k)))
          here =
              subst (λ (m : ℕ). slice_get made k ≡ Some (chosen_from specification turns (run specification turns s k).last (at_step s m))) next
              (chosen_at specification turns s k n low (begins k low))

          one : (c : Choice) → IsIn c (chosen_from specification turns (run specification turns s k).last (at_step s (suc k))) → pick (exactly needed) (suc k) c.path ≡ c.number
          one c is =
              let there = subst (λ (m : ℕ). IsIn (record { step = m; path = c.path; choice = c.number }) (lines_forward made)) next
              (line_in 1 k c (chosen_from specification turns (run specification turns s k).last (at_step s (suc k))) made here is) in
              zeros LeftOut (lines_forward made) apart (suc k) c.path
              ∙ ap (λ (o : Option ℕ). unwrap_or (option_or o None) 0) (picked_line (lines_forward made) (record { step = suc k; path = c.path; choice = c.number }) apart.0 there)

      pub needed_alike : AreToldAlikeTo specification turns s (exactly needed) n
      needed_alike = record {
        begins = begins;
        alike = λ k low. (making s (suc k) (run specification turns s k).last).alike (exactly needed) (suc k) (takes k low);
      }

    pub is_drawn_text : AreToldOutcomes → (right : State → Bool) (seed steps : ℕ) (text : List ℕ) → IsUnrepeated (exactly (lines_forward made))
        → IsDrawnRun specification turns right seed steps s n → IsTextOf needed text → IsScript text (exactly needed)
        → IsDrawnText specification turns right seed steps text
    is_drawn_text told right seed steps text apart h is spelled =
        let alike = needed_alike apart h.so_far.begins in
        record {
          lines = needed;
          is = is;
          spelled = spelled;
          made = n;
          drawn = drawn_alike specification turns right seed steps told s (exactly needed) n alike h;
          chosen = ap (λ (cs : List (List Choice)). filter (λ (line : Line). not (nat_eq line.choice 0)) (lines_forward cs)) (sym (lists_alike specification turns told s (exactly needed) n alike));
        }
