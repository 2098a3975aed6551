-- Bridge to the code. What resolved rules yield in the state of an exploration.
--     exploration_shape, exploration_state   the shape of the state, and the state
--     outcome_on on f p R s A                what R yields under a frame, at a path, in a situation
--                                            and a state
--     here_on, yields_on                     its result, and that in the state of the exploration
--     parts_on, in_order_on                  the results of rules beside and after each other
--     made_on, makes_on                      the choices that R makes in a situation and a state,
--                                            and in the state of the exploration
--     parts_made_on, order_made_on           those of rules beside and after each other
use Rattle.std.specs.Prelude.{ℕ, List}
use Rattle.asm_state.specs.Location.{State}
use Rattle.asm_state.specs.Signature.{Shape}
use Rattle.asm_meaning.specs.Does.{Outcome, parts, in_order, turns_of}
use Rattle.asm_meaning.specs.Program.{nothing_bound}
use Rattle.asm_eval.specs.code.ShownViews.{shown}
use Rattle.asm_meaning.specs.Yields.{Path, Result}
use Rattle.asm_code.specs.code.RuleMeaning.{meaning, meanings}
use Rattle.asm_code.specs.code.RuleTree.{RuleCode, RuleCodes}
use Rattle.asm_eval.specs.code.Frames.{readings_of}
use Rattle.asm_eval.specs.code.Evaluation.{frame_locations}
use Rattle.asm_eval.specs.declared.frame.Frame.{Frame}
use Rattle.asm_explore.specs.declared.exploration.Exploration.{Exploration}
use Rattle.asm_explore.specs.declared.outcomes.listed_outcome.Choice.{Choice}
use Rattle.asm_explore.specs.code.OutcomeLists.{Situation, picked}
use Rattle.asm_explore.specs.code.ChoicesMade.{made, parts_made, order_made, turns_made}

module _ (on : Exploration) where
  abbrev pub exploration_shape : Shape
  exploration_shape = on.view.now.signature.now

  abbrev pub exploration_state : State
  exploration_state = shown on.view.now

  abbrev pub outcome_on : Frame → Path → RuleCode → Situation → State → Outcome
  outcome_on f p R s A = meaning exploration_shape on.turns (picked s) R (readings_of exploration_shape f) (frame_locations exploration_shape f) A p

  abbrev pub here_on : Frame → Path → RuleCode → Situation → State → Result
  here_on f p R s A = (outcome_on f p R s A).result

  abbrev pub yields_on : Frame → Path → RuleCode → Situation → Result
  yields_on f p R s = here_on f p R s exploration_state

  -- rules beside each other, and after each other, from number k on
  abbrev pub parts_from : Frame → Path → ℕ → RuleCodes → Situation → Outcome
  parts_from f p k Rs s = parts (meanings exploration_shape on.turns (picked s) Rs (readings_of exploration_shape f) (frame_locations exploration_shape f)) k exploration_state nothing_bound p

  abbrev pub in_order_from : Frame → Path → ℕ → RuleCodes → Situation → State → Outcome
  in_order_from f p k Rs s A = in_order (meanings exploration_shape on.turns (picked s) Rs (readings_of exploration_shape f) (frame_locations exploration_shape f)) k A nothing_bound p

  -- turns from number t on, `left` of them
  abbrev pub turns_from : Frame → Path → (left t : ℕ) → RuleCode → Situation → State → Outcome
  turns_from f p left t R s A = turns_of (λ A e p. outcome_on f p R s A) left t A nothing_bound p

  abbrev pub parts_on : Frame → Path → RuleCodes → Situation → Result
  parts_on f p Rs s = (parts_from f p 0 Rs s).result

  abbrev pub in_order_on : Frame → Path → RuleCodes → Situation → Result
  in_order_on f p Rs s = (in_order_from f p 0 Rs s exploration_state).result

  -- ---- which choices are made

  abbrev pub made_on : Frame → Path → RuleCode → Situation → State → List Choice
  made_on f p R s A = made exploration_shape on.turns (picked s) R (readings_of exploration_shape f) (frame_locations exploration_shape f) A p

  abbrev pub makes_on : Frame → Path → RuleCode → Situation → List Choice
  makes_on f p R s = made_on f p R s exploration_state

  abbrev pub parts_made_from : Frame → Path → ℕ → RuleCodes → Situation → List Choice
  parts_made_from f p k Rs s = parts_made exploration_shape on.turns (picked s) Rs (readings_of exploration_shape f) (frame_locations exploration_shape f) k exploration_state p

  abbrev pub order_made_from : Frame → Path → ℕ → RuleCodes → Situation → State → List Choice
  order_made_from f p k Rs s A = order_made exploration_shape on.turns (picked s) Rs (readings_of exploration_shape f) (frame_locations exploration_shape f) k A p

  abbrev pub turns_made_from : Frame → Path → (left t : ℕ) → RuleCode → Situation → State → List Choice
  turns_made_from f p left t R s A = turns_made exploration_shape on.turns (picked s) R (readings_of exploration_shape f) (frame_locations exploration_shape f) left t A p

  abbrev pub parts_made_on : Frame → Path → RuleCodes → Situation → List Choice
  parts_made_on f p Rs = parts_made_from f p 0 Rs

  abbrev pub order_made_on : Frame → Path → RuleCodes → Situation → List Choice
  order_made_on f p Rs s = order_made_from f p 0 Rs s exploration_state
