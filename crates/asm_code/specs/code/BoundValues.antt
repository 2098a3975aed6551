-- Bridge to the code. What an assignment of a resolved rule reads beside its value.
--     arguments_of to rs gs A     the values of the arguments of a target: none if it has none; gs
--                                 if it is `result`, which stands for a location with these
--     optional_arguments          the same of the target of a call, if it has one
--     bound_of rs ls A            the values of what is bound, the innermost first, without
--                                 `result`'s
use Rattle.std.specs.Prelude.{List, [], ◌∷◌, Option, Some, None}
use Rattle.asm_state.specs.declared.value.Value.{Value}
use Rattle.asm_state.specs.Location.{State}
use Rattle.asm_state.specs.Signature.{Shape}
use Rattle.asm_meaning.specs.Value.{Reading}
use Rattle.asm_code.specs.code.Readings.{reading, readings}
use Rattle.asm_code.specs.code.RuleMeaning.{Locations}
use Rattle.asm_code.specs.code.RuleTree.{Place, Answer, Cell, Row, Grid, Held}

module _ (shape : Shape) where
  abbrev pub arguments_of : Place → List Reading → (given : List Value) → State → List Value
  arguments_of (Answer i) rs gs A = gs
  arguments_of (Cell n) rs gs A = []
  arguments_of (Row first low many t) rs gs A = reading shape t rs A ∷ []
  arguments_of (Grid first low rows left columns s t) rs gs A = reading shape s rs A ∷ reading shape t rs A ∷ []
  arguments_of (Held f ts) rs gs A = readings shape ts rs A

  abbrev pub optional_arguments : Option Place → List Reading → (given : List Value) → State → List Value
  optional_arguments None rs gs A = []
  optional_arguments (Some to) rs gs A = arguments_of to rs gs A

abbrev pub bound_of : List Reading → Locations → State → List Value
bound_of [] ls A = []
bound_of (r ∷ rs) [] A = r A ∷ bound_of rs [] A
bound_of (r ∷ rs) (None ∷ ls) A = r A ∷ bound_of rs ls A
bound_of (r ∷ rs) (Some l ∷ ls) A = bound_of rs ls A
