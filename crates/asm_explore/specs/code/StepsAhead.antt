-- Bridge to the code. What is known of steps before a search that has reached some nodes expands
-- the states that they are made from.
--     IsReached nodes B       a node has the state
--     IsFound A n             the step from the state may lead to the state of the node
--     IsAhead nodes A a       the step leads to such states alone, whatever is chosen, or to those
--                             that are reached. And whether the state is quiet
--     AreAhead nodes As rs    so it is of each state of which something is known
use Rattle.std.specs.Prelude.{◌≡◌, ◌↔◌, ◌⊎◌, ℕ, List, [], ◌∷◌, IsTrue, Option, IfSome}
use Rattle.asm_state.specs.code.Contents.{IsStateOf}
use Rattle.asm_state.specs.Location.{State}
use Rattle.asm_state.specs.Signature.{Shape, state_of}
use Rattle.asm_state.specs.declared.value.Value.{Value}
use Rattle.asm_meaning.specs.Run.{Specification}
use Rattle.asm_explore.specs.declared.step_ahead.StepAhead.{StepAhead}
use Rattle.asm_explore.specs.code.PackedNodes.{Node}
use Rattle.asm_explore.specs.code.OutcomeLists.{Situation, Each, AnyOf}
use Rattle.asm_explore.specs.code.ReachedStates.{MayLead, steps_from, state_at}
use Rattle.asm_explore.specs.Search.{LeadsOn, IsQuiet}

module _ (shape : Shape) where
  abbrev pub IsReached : List Node → State → Type 0
  IsReached nodes B = AnyOf (λ n. state_at shape n ≡ B) nodes

  module _ (specification : Specification) (turns : ℕ) where
    abbrev pub IsFound : State → Node → Type 0
    IsFound A n = IsStateOf shape n.state × MayLead shape specification turns A (state_at shape n)

    pub record IsAhead (nodes : List Node) (A : State) (a : StepAhead) : Type 0 where
      pub found : Each (IsFound A) a.states
      pub leads : (s : Situation) → LeadsOn (steps_from specification turns A s) A (λ B. IsReached nodes B ⊎ IsReached a.states B)
      pub quiet : IsTrue a.is_quiet ↔ IsQuiet specification turns A

    abbrev pub AreAhead : List Node → List (List Value) → List (Option StepAhead) → Type 0
    AreAhead nodes [] [] = Unit {0}
    AreAhead nodes (A ∷ As) (r ∷ rs) = IfSome r (IsAhead nodes (state_of shape A)) × AreAhead nodes As rs
    AreAhead nodes [] (r ∷ rs) = ⊥
    AreAhead nodes (A ∷ As) [] = ⊥
