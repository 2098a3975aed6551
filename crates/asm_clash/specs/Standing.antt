-- Definition. Which assignments' updates stand at a location, in the set that a story gives.
--     Assigned                an assignment: its path, the value that it gives, the values of its
--                             target's arguments, and those of what is bound there, the innermost
--                             first
--     assigned_of, all_assigned     an assignment that the code has found, and a list of them
--     AreValuesAt U l found   the values of the location in the set are those of the assignments
--     later earlier last      the last ones if there are some, and else the earlier ones
--     stands l story          the assignments of a story whose updates stand at the location, if it
--                             gives a set
use Rattle.std.specs.Prelude.{◌↔◌, ◌++◌, cond, List, [], ◌∷◌, map, Contains}
use Rattle.asm_state.specs.declared.value.Value.{Value}
use Rattle.asm_state.specs.Location.{Location}
use Rattle.asm_state.specs.Signature.{is_location}
use Rattle.asm_state.specs.Updates.{UpdateSet, Has}
use Rattle.asm_meaning.specs.Story.{Story, Silent, Assigns, Chooses, Instance, Beside, Then, Exhausts}
use Rattle.asm_meaning.specs.Yields.{Path}
use Rattle.asm_clash.specs.declared.assignment.Assignment.{Assignment}

pub record Assigned : Type 0 where
  pub path : Path
  pub value : Value
  pub arguments : List Value
  pub bound : List Value

abbrev pub assigned_of : Assignment → Assigned
assigned_of a = record { path = a.path; value = a.value; arguments = a.arguments.items; bound = a.bound.items }

abbrev pub all_assigned : List Assignment → List Assigned
all_assigned found = map assigned_of found

abbrev pub values_of : List Assigned → List Value
values_of found = map (λ (a : Assigned). a.value) found

abbrev pub AreValuesAt : UpdateSet → Location → List Assigned → Type 0
AreValuesAt U l found = (v : Value) → Has U l v ↔ Contains (values_of found) v

-- a later update takes the place of an earlier one of the same location
abbrev pub later : {X : Type 0} → (earlier last : List X) → List X
later earlier [] = earlier
later earlier (a ∷ more) = a ∷ more

abbrev pub stands : Location → Story → List Assigned
stands l Silent = []
stands l (Assigns p m v ws bs) = cond (is_location l m) (record { path = p; value = v; arguments = ws; bound = bs } ∷ []) []
stands l (Chooses p k vs s) = stands l s
stands l (Instance s) = stands l s
stands l (Beside s t) = stands l s ++ stands l t
stands l (Then s t) = later (stands l s) (stands l t)
stands l (Exhausts p) = []
