-- Bridge to the code. Which choices a resolved rule makes under a script: those of its story.
--     made shape turns chosen P rs ls A p     those that P makes in the state A and at the path p,
--                                             when the positions stand for rs, and for the
--                                             locations ls, if they stand for any
--     parts_made, order_made, turns_made      those of rules beside each other and in order, from
--                                             number k on, and of turns
--     made_in shape turns P A s   those that P makes in a situation with no name bound, from the
--                                 top on
use Rattle.std.specs.Prelude.{ℕ, List, []}
use Rattle.asm_state.specs.Location.{State}
use Rattle.asm_state.specs.Signature.{Shape}
use Rattle.asm_meaning.specs.Program.{nothing_bound}
use Rattle.asm_meaning.specs.Story.{parts_tell}
use Rattle.asm_meaning.specs.Value.{Reading}
use Rattle.asm_meaning.specs.Yields.{Path}
use Rattle.asm_code.specs.code.RuleMeaning.{Locations}
use Rattle.asm_code.specs.code.RuleStories.{tellings}
use Rattle.asm_code.specs.code.RuleTree.{RuleCode, RuleCodes}
use Rattle.asm_explore.specs.declared.outcomes.listed_outcome.Choice.{Choice}
use Rattle.asm_explore.specs.ChoicePoints.{asked, choices_of}
use Rattle.asm_explore.specs.code.AskedRules.{asks, order_asks, turns_ask}
pub use Rattle.asm_explore.specs.code.OverLimit.{AreMade, IsWay}
use Rattle.asm_explore.specs.code.OutcomeLists.{Situation, picked}

module _ (shape : Shape) (turns : ℕ) (chosen : Path → ℕ) where
  abbrev pub made : RuleCode → List Reading → Locations → State → Path → List Choice
  made P rs ls A p = choices_of (asks shape turns chosen P rs ls A p)

  abbrev pub parts_made : RuleCodes → List Reading → Locations → ℕ → State → Path → List Choice
  parts_made Ps rs ls k A p = choices_of (asked (parts_tell (tellings shape turns chosen Ps rs ls []) k A nothing_bound p))

  abbrev pub order_made : RuleCodes → List Reading → Locations → ℕ → State → Path → List Choice
  order_made Ps rs ls k A p = choices_of (order_asks shape turns chosen Ps rs ls k A p)

  abbrev pub turns_made : RuleCode → List Reading → Locations → (left t : ℕ) → State → Path → List Choice
  turns_made P rs ls left t A p = choices_of (turns_ask shape turns chosen P rs ls left t A p)

abbrev pub made_in : Shape → (turns : ℕ) → RuleCode → State → Situation → List Choice
made_in shape turns P A s = made shape turns (picked s) P [] [] A []
