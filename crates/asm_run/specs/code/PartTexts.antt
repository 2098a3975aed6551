-- Bridge to the code. Texts that the code adds by themselves.
--     arguments_text     what follows the function of a location
--     at_step_of         what a trace has between the kind of an end and what it is
use Rattle.std.specs.Prelude.{ℕ, List, [], ◌∷◌, ◌++◌, Option, None, Some, codes}
use Rattle.asm_state.specs.declared.value.Value.{Value}
use Rattle.asm_run.specs.Ends.{step_of}
use Rattle.asm_run.specs.Trace.{TraceNames, at_step, values_text}
use Rattle.asm_run.specs.declared.end.End.{End}

abbrev pub arguments_text : TraceNames → List Value → List ℕ
arguments_text names [] = []
arguments_text names (v ∷ vs) = codes "(" ++ (values_text names.elements v vs ++ codes ")")

abbrev pub at_step_if_any : Option ℕ → List ℕ
at_step_if_any None = []
at_step_if_any (Some i) = at_step i

abbrev pub at_step_of : End → List ℕ
at_step_of end = at_step_if_any (step_of end)
