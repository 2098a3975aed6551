-- Bridge to the code. A number that falls from a part to the one that decides it.
--     part_weight spec p     the weight of its term under the bound names
--     PartsAreLighter        the part that decides another one weighs less
use Rattle.std.specs.Prelude.{◌≡◌, ◌<◌, ℕ, Some}
use Rattle.asm_state.specs.Location.{State}
use Rattle.asm_syntax.specs.PlainTree.{plain_term}
use Rattle.asm_syntax.specs.SourceTree.{Spec}
use Rattle.asm_check.specs.Faults.{IsWellFormed}
use Rattle.asm_meaning.specs.Declarations.{program_of}
use Rattle.asm_meaning.specs.code.Weights.{weight}
use Rattle.asm_explore_because.specs.Parts.{Part, environment_of, next}

abbrev pub part_weight : Spec → Part → ℕ
part_weight s p = weight (program_of s) (environment_of p.bound) (plain_term p.term)

abbrev pub PartsAreLighter : Type 0
PartsAreLighter = (s : Spec) (A : State) (p q : Part) → IsWellFormed s → next s A p ≡ Some q → part_weight s q < part_weight s p
