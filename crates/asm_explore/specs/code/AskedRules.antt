-- Bridge to the code. Which choices a resolved rule makes under a script, each with its candidates.
--     after_turn_set r rest   what comes after a turn
--     asks shape turns chosen P rs ls A p     what is asked in P in the state A and at the path p,
--                                             when the positions stand for rs, and for the
--                                             locations ls, if they stand for any; with which
--                                             arguments makes no difference
--     order_asks, turns_ask       the same of rules in order, from number k on, and of turns
--     asks_in shape turns P A s   in a situation with no name bound, from the top on
use Rattle.std.specs.Prelude.{ℕ, cond, not, ◌||◌, List, []}
use Rattle.asm_state.specs.Location.{State}
use Rattle.asm_state.specs.Signature.{Shape}
use Rattle.asm_state.specs.Updates.{UpdateSet, is_consistent, is_none}
use Rattle.asm_meaning.specs.Program.{nothing_bound}
use Rattle.asm_meaning.specs.Story.{order_tells, turns_tell}
use Rattle.asm_meaning.specs.Value.{Reading}
use Rattle.asm_meaning.specs.Yields.{Path, Result, Gives, Exhausted}
use Rattle.asm_code.specs.code.RuleMeaning.{Locations}
use Rattle.asm_code.specs.code.RuleStories.{telling, tellings}
use Rattle.asm_code.specs.code.RuleTree.{RuleCode, RuleCodes}
use Rattle.asm_explore.specs.ChoicePoints.{Asking, asked}
use Rattle.asm_explore.specs.code.OutcomeLists.{Situation, picked}

abbrev pub after_turn_set : {X : Type 0} → Result → (UpdateSet → List X) → List X
after_turn_set (Exhausted q) rest = []
after_turn_set (Gives U) rest = cond (is_none U || not (is_consistent U)) [] (rest U)

module _ (shape : Shape) (turns : ℕ) (chosen : Path → ℕ) where
  abbrev pub asks : RuleCode → List Reading → Locations → State → Path → List Asking
  asks P rs ls A p = asked (telling shape turns chosen P rs ls [] A p)

  abbrev pub order_asks : RuleCodes → List Reading → Locations → ℕ → State → Path → List Asking
  order_asks Ps rs ls k A p = asked (order_tells (tellings shape turns chosen Ps rs ls []) k A nothing_bound p)

  abbrev pub turns_ask : RuleCode → List Reading → Locations → (left t : ℕ) → State → Path → List Asking
  turns_ask P rs ls left t A p = asked (turns_tell (λ A e p. telling shape turns chosen P rs ls [] A p) left t A nothing_bound p)

abbrev pub asks_in : Shape → (turns : ℕ) → RuleCode → State → Situation → List Asking
asks_in shape turns P A s = asks shape turns (picked s) P [] [] A []
