-- Bridge to the code. The outcomes of the step from a state.
--     IsStep A fs            a list has what the step from a state yields, with choices at paths of
--                            their own
--     IsListed A r           of a state there is such a list, or a refusal that says this
use Rattle.std.specs.Prelude.{ℕ, List, Result as Returned, IfOk, IfErr}
use Rattle.std.proofs.Common.{Vec, Global}
use Rattle.asm_state.specs.Location.{State}
use Rattle.asm_state.specs.Signature.{Shape}
use Rattle.asm_meaning.specs.Run.{Specification}
use Rattle.asm_explore.specs.declared.outcomes.listed_outcome.Choice.{Choice}
use Rattle.asm_explore.specs.declared.outcomes.listed_outcome.ListedOutcome.{ListedOutcome}
use Rattle.asm_explore.specs.declared.outcomes.outcomes_error.OutcomesError.{OutcomesError}
pub use Rattle.asm_explore.specs.TooManyOutcomes.{IsOverLimitOf}
use Rattle.asm_explore.specs.TooManyOutcomes.{AreMade}
use Rattle.asm_explore.specs.code.OverLimit.{Refuses}
use Rattle.asm_explore.specs.code.OutcomeLists.{Situation, HaveChoices, Lists}
use Rattle.asm_explore.specs.code.ChoicePaths.{HaveOwnPaths}
use Rattle.asm_explore.specs.code.ReachedStates.{steps_from}

module _ (shape : Shape) (specification : Specification) (turns : ℕ) where
  pub record IsStep (A : State) (fs : List ListedOutcome) : Type 0 where
    pub lists : Lists shape (steps_from specification turns A) fs
    pub apart : HaveChoices HaveOwnPaths fs

  module _ (makes : State → Situation → List Choice) (limit : ℕ) where
    pub record IsListed (A : State) (r : Returned (Vec ListedOutcome Global) OutcomesError) : Type 0 where
      pub step : IfOk r (λ fs. IsStep A fs.items)
      pub refuses : IfErr r (Refuses limit (λ p cs. HaveOwnPaths cs × AreMade (makes A) cs))
