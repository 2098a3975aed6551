-- Bridge to the code. Laws of parts beside each other: they may be grouped, ordered and
-- cut as one likes.
use Rattle.std.specs.Prelude.{◌≡◌, ◌+◌, ◌++◌, ℕ, Bool, List, length}
use Rattle.asm_state.specs.declared.value.Value.{Value}
use Rattle.asm_state.specs.Location.{State}
use Rattle.asm_meaning.specs.Program.{Environment}
use Rattle.asm_meaning.specs.Yields.{Path}
use Rattle.asm_meaning.specs.Does.{Outcome, Meaning, nothing, both, parts, each}

pub record BesideLaws : Type 0 where
  pub first_unit : (o : Outcome) → both nothing o ≡ o
  pub last_unit : (o : Outcome) → both o nothing ≡ o
  pub swap : (o q : Outcome) → both o q ≡ both q o
  pub group : (o q s : Outcome) → both (both o q) s ≡ both o (both q s)

pub record SplitLaws : Type 0 where
  -- a list of parts, cut in two
  pub of_parts : (ms ns : List Meaning) (k : ℕ) (A : State) (e : Environment) (p : Path)
      → parts (ms ++ ns) k A e p ≡ both (parts ms k A e p) (parts ns (length ms + k) A e p)
  -- an interval of the elements, cut in two: each element keeps its position
  pub of_elements : (m : Value → ℕ → Outcome) (test : Value → Bool) (vs ws : List Value) (k : ℕ)
      → each m test k (vs ++ ws) ≡ both (each m test k vs) (each m test (length vs + k) ws)
