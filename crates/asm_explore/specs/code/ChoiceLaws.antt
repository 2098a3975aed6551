-- Bridge to the code. Complete and sound lists have just what a step may yield, for
-- whatever choices.
--     ChoiceLaws      each result that `Yields` relates is shown, and each outcome shows one that
--                     it relates, if a script makes its choices
use Rattle.std.specs.Prelude.{ℕ, List, []}
use Rattle.asm_state.specs.Location.{State}
use Rattle.asm_state.specs.Signature.{Shape}
use Rattle.asm_syntax.specs.Tree.{Name}
use Rattle.asm_meaning.specs.Program.{nothing_bound}
use Rattle.asm_meaning.specs.Ranks.{CallsBelow, IsRanked}
use Rattle.asm_meaning.specs.Run.{Specification}
use Rattle.asm_meaning.specs.Value.{nesting}
use Rattle.asm_meaning.specs.Yields.{Result, Yields}
use Rattle.asm_explore.specs.declared.outcomes.listed_outcome.ListedOutcome.{ListedOutcome}
use Rattle.asm_explore.specs.code.OutcomeLists.{Situation, Each, AreTaken, Shows, Shown, Lists}
use Rattle.asm_explore.specs.code.ReachedStates.{steps_from}

abbrev pub MayYield : Specification → (turns : ℕ) → State → Result → Type 0
MayYield specification turns A r = Yields specification.program turns A nothing_bound [] specification.main r

pub record ChoiceLaws : Type 0 where
  pub complete : (specification : Specification) (rank : Name → ℕ) (turns : ℕ) (shape : Shape) (A : State) (fs : List ListedOutcome)
      → IsRanked specification.program rank → CallsBelow specification.program rank nesting specification.main
      → Lists shape (steps_from specification turns A) fs → (r : Result) → MayYield specification turns A r → Shown shape fs r
  pub sound : (specification : Specification) (rank : Name → ℕ) (turns : ℕ) (shape : Shape) (A : State) (fs : List ListedOutcome)
      → IsRanked specification.program rank → CallsBelow specification.program rank nesting specification.main
      → Lists shape (steps_from specification turns A) fs
      → Each (λ f. (s : Situation) → AreTaken s f.choices → (r : Result) × MayYield specification turns A r × Shows shape f.answer r) fs
