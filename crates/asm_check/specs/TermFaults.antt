-- Definition. The faults of a term that is asked of a specification, and is none of its
-- declarations: those of its uses of names, with nothing bound around it.
--     IsTermFault spec t at number          one rule for each number
--     IsLeastTermFault spec t at number     the fault with the least offset, and there the least
--                                           number
--     IsWellFormedTerm spec t               no fault
use Rattle.std.specs.Prelude.{◌≡◌, ◌≢◌, ℕ, false, List, [], Contains, Some}
use Rattle.asm_syntax.specs.SourceTree.{Term, Spec}
use Rattle.asm_check.specs.Names.{Use, AsResult, uses_of_term, arguments_of, declared}
use Rattle.asm_check.specs.Faults.{is_known_use, IsUpTo}

abbrev pub uses_in : Term → List Use
uses_in t = uses_of_term t []

pub data IsTermFault (spec : Spec) (t : Term) (at : ℕ) : ℕ → Type 0 where
  unknown : (u : Use) → Contains (uses_in t) u → is_known_use spec u ≡ false → u.name.at ≡ at → IsTermFault spec t at 9
  arity : (u : Use) → Contains (uses_in t) u → (count : ℕ) → arguments_of u.role u.is_bound (declared spec u.name.text) ≡ Some count → u.count ≢ count → u.name.at ≡ at → IsTermFault spec t at 10
  -- the word `result`, which only a rule binds
  result_use : (u : Use) → Contains (uses_in t) u → u.role ≡ AsResult → u.is_bound ≡ false → u.name.at ≡ at → IsTermFault spec t at 17

pub record IsLeastTermFault (spec : Spec) (t : Term) (at number : ℕ) : Type 0 where
  pub fault : IsTermFault spec t at number
  pub least : (at' number' : ℕ) → IsTermFault spec t at' number' → IsUpTo at number at' number'

abbrev pub IsWellFormedTerm : Spec → Term → Type 0
IsWellFormedTerm spec t = (at number : ℕ) → ¬ (IsTermFault spec t at number)
