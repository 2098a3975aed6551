-- Bridge to the code. What the update set of a part of a sequence is.
--     IsPartSet U part     the set is as the part says: empty, or with updates and consistent, or
--                          not consistent
--     ends_parts part      a sequence ends with the part
--     ends_turns part      an iteration ends with the turn
use Rattle.std.specs.Prelude.{◌≡◌, ◌≢◌, Bool, true, false}
use Rattle.asm_state.specs.Updates.{UpdateSet, IsConsistent, none}
use Rattle.asm_eval.specs.declared.part_set.PartSet.{PartSet}
use Rattle.asm_eval.specs.declared.part_set.PartSet.TheVariants.{Empty, Consistent, Inconsistent}

abbrev pub IsPartSet : UpdateSet → PartSet → Type 0
IsPartSet U Empty = U ≡ none
IsPartSet U Consistent = (U ≢ none) × IsConsistent U
IsPartSet U Inconsistent = ¬ (IsConsistent U)

abbrev pub ends_parts : PartSet → Bool
ends_parts Empty = false
ends_parts Consistent = false
ends_parts Inconsistent = true

abbrev pub ends_turns : PartSet → Bool
ends_turns Empty = true
ends_turns Consistent = false
ends_turns Inconsistent = true
