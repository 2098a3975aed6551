-- Bridge to the code. A resolved specification, and what comes of its steps.
--     shape_in m, specification_in m     its shape, and what it says
--     HasMainRule m                      its code stands for the rule that its `init` names
--     step_in m script i contents        what the step with number i yields under a script, if the
--                                        locations have these contents
--     Comes shape r old made             what comes of a step that yields this from these contents:
--                                        the next ones, or why there are none
use Rattle.std.specs.Prelude.{◌≡◌, ℕ, List, [], length}
use Rattle.asm_state.specs.code.Contents.{IsStateOf}
use Rattle.asm_state.specs.declared.value.Value.{Value}
use Rattle.asm_state.specs.Signature.{Shape, count_of, state_of}
use Rattle.asm_state.specs.Updates.{UpdateSet, IsConsistent, IsFirstFault, fire}
use Rattle.asm_syntax.specs.code.Views.{spec_of}
use Rattle.asm_check.specs.Faults.{inits}
use Rattle.asm_check.specs.Shapes.{shape_of}
use Rattle.asm_reader.specs.ScriptLines.{Script}
use Rattle.asm_updates.specs.Faults.{fault_of}
use Rattle.asm_meaning.specs.Declarations.{main_rule, specification_of}
use Rattle.asm_meaning.specs.Does.{Outcome}
use Rattle.asm_meaning.specs.Run.{Specification, step}
use Rattle.asm_meaning.specs.Yields.{Result, Gives, Exhausted}
use Rattle.asm_code.specs.code.RuleViews.{rule_of}
use Rattle.asm_resolve.specs.code.RuleScopes.{resolved_rule_in}
use Rattle.asm_step.specs.declared.resolved_specification.ResolvedSpecification.{ResolvedSpecification}
use Rattle.asm_step.specs.declared.step.Step.{Step}
use Rattle.asm_step.specs.declared.step.Step.TheVariants as made

module _ (m : ResolvedSpecification) where
  abbrev pub shape_in : Shape
  shape_in = shape_of (spec_of m.checked.now.spec)

  abbrev pub specification_in : Specification
  specification_in = specification_of (spec_of m.checked.now.spec)

  abbrev pub HasMainRule : Type 0
  HasMainRule = let s = spec_of m.checked.now.spec in resolved_rule_in s [] (main_rule s (inits s)) (rule_of m.code.now)

  abbrev pub step_in : Script → (i : ℕ) → (contents : List Value) → Outcome
  step_in script i contents = step specification_in m.turns script i (state_of shape_in contents)

abbrev pub Comes : Shape → Result → (old : List Value) → Step → Type 0
Comes shape r old (made.Next new) =
    (length new ≡ count_of shape) × (IsStateOf shape old → IsStateOf shape new)
    × (U : UpdateSet) × (r ≡ Gives U) × IsConsistent U × (state_of shape new ≡ fire (state_of shape old) U)
Comes shape r old (made.Faulty f) = (U : UpdateSet) × (r ≡ Gives U) × ¬ (IsConsistent U) × IsFirstFault U (fault_of shape f)
Comes shape r old (made.Exhausted p) = r ≡ Exhausted p
