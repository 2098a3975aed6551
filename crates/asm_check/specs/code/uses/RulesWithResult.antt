-- Bridge to the code. Which declarations of the table are rules with a result, as the code keeps
-- it.
--     is_with_result e      whether the declaration is a rule in whose body the word `result` is
--     AreWithResult es bs   the same of each declaration, by its position
use Rattle.std.specs.Prelude.{◌≡◌, Bool, List, map, Some}
use Rattle.asm_check.specs.Names.{has_result_in_body}
use Rattle.asm_check.specs.code.names.Tables.{Entry, declared_as_view}

abbrev pub is_with_result : Entry → Bool
is_with_result e = has_result_in_body (Some (declared_as_view e.1.meaning))

abbrev pub AreWithResult : List Entry → List Bool → Type 0
AreWithResult entries flags = flags ≡ map is_with_result entries
