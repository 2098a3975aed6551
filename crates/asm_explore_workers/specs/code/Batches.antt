-- Bridge to the code. What the workers find of a batch of states.
--     IsMainCode checked R          the code is that of the main rule
--     IsAheadOf .. nodes A r        what is known of the step from a state, if these nodes are
--                                   reached, is so
--     AreAheadOf .. nodes As rs     so it is of some states
--     IsTask                        each state has its task, and all are states of the
--                                   specification, those of the nodes too
--     LooksAhead .. nodes As n out  the task of the first state finds something, or nothing that is
--                                   known of its step, and any other one does so, or is left out
--     firsts outs                   what the first tasks found, up to the first one that was left
--                                   out
use Rattle.std.specs.Prelude.{◌≡◌, ℕ, ◌<◌, List, [], ◌∷◌, Option, Some, None, IfSome, MatchOption, length, slice_get}
use Rattle.asm_state.specs.code.Contents.{IsStateOf}
use Rattle.asm_state.specs.Signature.{count_of, state_of}
use Rattle.asm_state.specs.declared.value.Value.{Value}
use Rattle.asm_syntax.specs.code.Views.{spec_of}
use Rattle.asm_check.specs.Faults.{inits}
use Rattle.asm_check.specs.Shapes.{shape_of}
use Rattle.asm_check.specs.declared.checked.Checked.{Checked}
use Rattle.asm_meaning.specs.Declarations.{main_rule, specification_of}
use Rattle.asm_code.specs.code.RuleTree.{RuleCode}
use Rattle.asm_resolve.specs.code.RuleScopes.{resolved_rule_in}
use Rattle.asm_explore.specs.code.StepsAhead.{IsAhead, AreAhead}
use Rattle.asm_explore.specs.declared.step_ahead.StepAhead.{StepAhead}
use Rattle.asm_explore.specs.code.PackedNodes.{Node}
use Rattle.asm_explore.specs.code.OutcomeLists.{Each}

abbrev pub IsMainCode : Checked → RuleCode → Type 0
IsMainCode checked R = let s = spec_of checked.spec in resolved_rule_in s [] (main_rule s (inits s)) R

module _ (checked : Checked) where
  abbrev pub IsTask : RuleCode → List Node → List (List Value) → ℕ → Type 0
  IsTask R nodes As n = let shape = shape_of (spec_of checked.spec) in
      (n < length As) × IsMainCode checked R × Each (IsStateOf shape) As × Each (λ m. length m.state ≡ count_of shape) nodes

  module _ (turns : ℕ) where
    abbrev pub IsAheadOf : List Node → List Value → Option StepAhead → Type 0
    IsAheadOf nodes A r = let s = spec_of checked.spec in IfSome r (IsAhead (shape_of s) (specification_of s) turns nodes (state_of (shape_of s) A))

    abbrev pub AreAheadOf : List Node → List (List Value) → List (Option StepAhead) → Type 0
    AreAheadOf nodes As rs = let s = spec_of checked.spec in AreAhead (shape_of s) (specification_of s) turns nodes As rs

    abbrev pub LooksAhead : List Node → List (List Value) → ℕ → Option (Option StepAhead) → Type 0
    LooksAhead nodes As n out = MatchOption out (0 < n) (λ r. (A : List Value) → slice_get As n ≡ Some A → IsAheadOf nodes A r)

abbrev pub firsts : {X : Type 0} → List (Option X) → List X
firsts [] = []
firsts (None ∷ outs) = []
firsts (Some x ∷ outs) = x ∷ firsts outs
