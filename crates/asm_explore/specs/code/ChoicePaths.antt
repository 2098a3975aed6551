-- Bridge to the code. The paths of the choices of an outcome: each `choose` that is reached has a
-- path of its own, at or below that of the rule.
--     LieBelow p cs            no two choices have one path, and each of them lies at the path p
--     IsPlacedIn p N cs        besides, each of them lies at a part of p, of a number of this kind
--     IsPlacedFrom p k cs      of number k or a greater one
--     IsPlacedBefore p k cs    of a number below k
use Rattle.std.specs.Prelude.{◌≤◌, ◌<◌, ℕ, List}
use Rattle.asm_meaning.specs.Yields.{Path, at}
use Rattle.asm_explore.specs.declared.outcomes.listed_outcome.Choice.{Choice}
use Rattle.asm_explore.specs.ListElements.{Each}
pub use Rattle.asm_explore.specs.TakenChoices.{LiesAt, HaveOwnPaths}

pub record LieBelow (p : Path) (cs : List Choice) : Type 0 where
  pub apart : HaveOwnPaths cs
  pub below : Each (λ c. LiesAt p c.path) cs

pub record IsPlacedIn (p : Path) (N : ℕ → Type 0) (cs : List Choice) : Type 0 where
  pub apart : HaveOwnPaths cs
  pub below : Each (λ c. (k : ℕ) × N k × LiesAt (at p k) c.path) cs

abbrev pub IsPlacedFrom : Path → ℕ → List Choice → Type 0
IsPlacedFrom p k = IsPlacedIn p (λ i. k ≤ i)

abbrev pub IsPlacedBefore : Path → ℕ → List Choice → Type 0
IsPlacedBefore p k = IsPlacedIn p (λ i. i < k)
