-- Bridge to the code. The first of some assignments, and how many there are.
--     IsFound most all found      those that were found are the first of all, at most so many, and
--                                 their number is that of all
use Rattle.std.specs.Prelude.{◌≡◌, ℕ, List, length, min, take}
use Rattle.asm_eval.specs.code.FormedOutcomes.{greatest_count}
use Rattle.asm_clash.specs.Standing.{Assigned, all_assigned}
use Rattle.asm_clash.specs.declared.found.Found.{Found}

pub record IsFound (most : ℕ) (all : List Assigned) (found : Found) : Type 0 where
  pub first : all_assigned found.first.items ≡ take most all
  pub count : found.count ≡ min (length all) greatest_count
