-- Bridge to the code. The steps of a run, and how they go wrong.
--     yields specification turns script i A            what the step from the state yields
--     IsSameForAll specification turns A               the step from the state yields the same under
--                                                      each script, in each step
--     GoesWrong .. right dead i A f                    the step from the state has this fault, or
--                                                      leads to a state that isn't right, or stays
--                                                      in a dead one
--     MakesStep .. contents i shape old ended          the contents that the step leads to, or how
--                                                      it goes wrong
use Rattle.std.specs.Prelude.{◌≡◌, ℕ, Bool, false, List, Result as Returned, IfErr, IfOk}
use Rattle.asm_state.specs.code.Contents.{IsStateOf}
use Rattle.asm_state.specs.declared.value.Value.{Value}
use Rattle.asm_state.specs.Location.{State}
use Rattle.asm_state.specs.Signature.{Shape, state_of}
use Rattle.asm_state.specs.Updates.{UpdateSet, IsConsistent}
use Rattle.asm_reader.specs.ScriptLines.{Script}
use Rattle.asm_meaning.specs.Run.{IsStep, Specification, step}
use Rattle.asm_meaning.specs.Yields.{Path, Result, Gives, Exhausted}
use Rattle.asm_explore.specs.declared.fault.Fault.{Fault}
use Rattle.asm_explore.specs.declared.fault.Fault.TheVariants as fault

module _ (specification : Specification) (turns : ℕ) (script : Script) where
  abbrev pub yields : ℕ → State → Result
  yields i A = (step specification turns script i A).result

  module _ (right : State → Bool) (dead : State → Type 0) where
    abbrev pub GoesWrong : ℕ → State → Fault → Type 0
    GoesWrong i A fault.Exhausted = (q : Path) × (yields i A ≡ Exhausted q)
    GoesWrong i A fault.Inconsistent = (U : UpdateSet) × (yields i A ≡ Gives U) × ¬ (IsConsistent U)
    GoesWrong i A fault.Wrong = (B : State) × IsStep specification turns script i A B × (right B ≡ false)
    GoesWrong i A fault.Deadlock = (B : State) × IsStep specification turns script i A B × (B ≡ A) × dead B

    -- the step from a state with these contents
    pub record MakesStep {X : Type 0} (contents : X → List Value) (i : ℕ) (shape : Shape) (old : List Value) (ended : Returned X Fault) : Type 0 where
      pub kept : IfOk ended (λ x. IsStateOf shape (contents x))
      pub leads : IfOk ended (λ x. IsStep specification turns script i (state_of shape old) (state_of shape (contents x)))
      pub wrong : IfErr ended (GoesWrong i (state_of shape old))

abbrev pub IsSameForAll : Specification → (turns : ℕ) → State → Type 0
IsSameForAll specification turns A =
    (script other : Script) (i j : ℕ) → yields specification turns script i A ≡ yields specification turns other j A
