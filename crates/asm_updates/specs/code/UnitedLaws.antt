-- Bridge to the code. Laws of unions of many sets.
use Rattle.std.specs.Prelude.{◌≡◌, ℕ, List, ◌++◌, map}
use Rattle.std.specs.List.{concat}
use Rattle.std.specs.List.Sorted.{IsPermutation}
use Rattle.asm_state.specs.Updates.{UpdateSet, together}
use Rattle.asm_updates.specs.code.Unions.{union_of, united}

pub record UnitedLaws : Type 0 where
  -- a list that is made of others
  pub of_append : (f : ℕ → UpdateSet) (ns ms : List ℕ) → united f (ns ++ ms) ≡ together (united f ns) (united f ms)
  pub of_lists : (f : ℕ → UpdateSet) (lists : List (List ℕ)) → union_of (map (united f) lists) ≡ united f (concat lists)
  -- the order makes no difference
  pub of_permutation : (f : ℕ → UpdateSet) (ns ms : List ℕ) → IsPermutation ns ms → united f ns ≡ united f ms
