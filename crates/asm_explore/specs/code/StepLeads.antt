-- Bridge to the code. A step that is made, and where it leads.
--     situation_of script choices     the script by which a `P` picks, and the step
--     LeadsUpon shape A U next        the state that firing a set leads to, or none if the set
--                                     isn't consistent
--     LeadsTo shape A r next          where a step that yields this leads
use Rattle.std.specs.Prelude.{◌≡◌, List, Option, Some, None}
use Rattle.asm_reader.specs.ScriptLines.{Script}
use Rattle.asm_state.specs.Location.{State}
use Rattle.asm_state.specs.Signature.{Shape, state_of}
use Rattle.asm_state.specs.Updates.{UpdateSet, IsConsistent, fire}
use Rattle.asm_state.specs.declared.value.Value.{Value}
use Rattle.asm_meaning.specs.Yields.{Result, Gives, Exhausted}
use Rattle.asm_eval.specs.declared.choices.Choices.{Choices}
use Rattle.asm_explore.specs.code.OutcomeLists.{Situation}

abbrev pub situation_of : {P : Type 0} → (script : P → Script) → Choices P → Situation
situation_of script choices = record { script = script choices.script.now; step = choices.step }

abbrev pub LeadsUpon : Shape → State → UpdateSet → Option (List Value) → Type 0
LeadsUpon shape A U None = ¬ (IsConsistent U)
LeadsUpon shape A U (Some next) = IsConsistent U × (state_of shape next ≡ fire A U)

abbrev pub LeadsTo : Shape → State → Result → Option (List Value) → Type 0
LeadsTo shape A (Exhausted q) None = Unit {0}
LeadsTo shape A (Exhausted q) (Some next) = ⊥
LeadsTo shape A (Gives U) next = LeadsUpon shape A U next
