-- Bridge to the code. Steps from a declaration, as the code finds them.
--     stepping_to spec in_rule us     the names whose uses are steps, if the uses are in a rule or
--                                     else in a derived function
--     onward_from spec m              the names to which the steps of what is declared so lead
use Rattle.std.specs.Prelude.{Bool, cond, List, ◌++◌, map, filter, Option}
use Rattle.asm_syntax.specs.SourceTree.{Spec}
use Rattle.asm_check.specs.Names.{Text, Meaning, Use, declared}
use Rattle.asm_check.specs.CallGraph.{is_call, is_use, calls_in, uses_in}

abbrev pub is_stepping : Spec → Bool → Use → Bool
is_stepping spec in_rule u = cond in_rule (is_call u.role (declared spec u.name.text)) (is_use u.role u.is_bound (declared spec u.name.text))

abbrev pub stepping_to : Spec → Bool → List Use → List Text
stepping_to spec in_rule us = map (λ u. u.name.text) (filter (is_stepping spec in_rule) us)

abbrev pub onward_from : Spec → Option Meaning → List Text
onward_from spec m = map (λ u. u.name.text) (calls_in spec m) ++ map (λ u. u.name.text) (uses_in spec m)
