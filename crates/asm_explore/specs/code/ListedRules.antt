-- Bridge to the code. What a call promises that lists the outcomes of a rule.
--     ListsOutcomes    they are what the rule yields in each situation, with the choices that it
--                      makes at paths below its own, and no two take the same candidates; or there
--                      are too many, of a rule at a path that it comes to
use Rattle.std.specs.Prelude.{List, Result as Returned, IfOk, IfErr}
use Rattle.std.proofs.Common.{Vec, Global}
use Rattle.asm_meaning.specs.Yields.{Path, Result}
use Rattle.asm_explore.specs.declared.exploration.Exploration.{Exploration}
use Rattle.asm_explore.specs.declared.outcomes.listed_outcome.Choice.{Choice}
use Rattle.asm_explore.specs.declared.outcomes.listed_outcome.ListedOutcome.{ListedOutcome}
use Rattle.asm_explore.specs.declared.outcomes.outcomes_error.OutcomesError.{OutcomesError}
use Rattle.asm_explore.specs.code.ChoiceLists.{choice_lists}
use Rattle.asm_explore.specs.code.ChoicePaths.{LieBelow}
use Rattle.asm_explore.specs.code.ChoicesMade.{AreMade, IsWay}
use Rattle.asm_explore.specs.code.ExploredRules.{exploration_shape}
use Rattle.asm_explore.specs.code.OutcomeLists.{Situation, HaveChoices, Lists}
use Rattle.asm_explore.specs.code.OverLimit.{AreDifferent, Refuses}

-- of a rule at this path that yields this in a situation, and makes these choices
pub record ListsOutcomes (exploration : Exploration) (path : Path) (yields : Situation → Result) (makes : Situation → List Choice) (result : Returned (Vec ListedOutcome Global) OutcomesError) : Type 0 where
  pub lists : IfOk result (λ fs. Lists (exploration_shape exploration) yields fs.items)
  pub placed : IfOk result (λ fs. HaveChoices (LieBelow path) fs.items)
  pub differ : IfOk result (λ fs. AreDifferent path (choice_lists fs.items))
  pub made : IfOk result (λ fs. HaveChoices (AreMade makes) fs.items)
  pub crowded : IfErr result (Refuses exploration.limit (λ q. IsWay path makes))
