-- Bridge to the code. Paths that lie within the path of a rule.
--     IsWithin p q, IsBehind p k q     q is p or below it;  q is in a descent of p whose number is
--                                      k or more
--     Within, Behind                   the same of a result, if it is exhausted
--     Nests, AllNest                   a meaning that is exhausted within its path alone;  all of
--                                      some
use Rattle.std.specs.Prelude.{◌≡◌, ℕ, ◌≤◌, List, [], ◌∷◌, ◌++◌}
use Rattle.asm_state.specs.Location.{State}
use Rattle.asm_meaning.specs.Does.{Meaning}
use Rattle.asm_meaning.specs.Program.{Environment}
use Rattle.asm_meaning.specs.Yields.{Path, Result, Gives, Exhausted}

pub record IsWithin (p q : Path) : Type 0 where
  pub rest : Path
  pub is : q ≡ p ++ rest

pub record IsBehind (p : Path) (k : ℕ) (q : Path) : Type 0 where
  pub number : ℕ
  pub rest : Path
  pub from : k ≤ number
  pub is : q ≡ p ++ (number ∷ rest)

abbrev pub Within : Path → Result → Type 0
Within p (Gives U) = Unit {0}
Within p (Exhausted q) = IsWithin p q

abbrev pub Behind : Path → ℕ → Result → Type 0
Behind p k (Gives U) = Unit {0}
Behind p k (Exhausted q) = IsBehind p k q

abbrev pub Nests : Meaning → Type 0
Nests m = (A : State) (e : Environment) (p : Path) → Within p (m A e p).result

abbrev pub AllNest : List Meaning → Type 0
AllNest [] = Unit {0}
AllNest (m ∷ ms) = Nests m × AllNest ms
