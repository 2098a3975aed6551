-- Definition. What is said of a run beside its rows.
--     RunWords     the name of the specification's file; how the run ends, and why; a call of `asm`
--                  that makes it; the assignments by which it ends; the lines of its script that
--                  name no choice of it; and whether it ends by a fault
use Rattle.std.specs.Prelude.{ℕ, Bool, List}

pub record RunWords : Type 0 where
  pub name : List ℕ
  pub end : List ℕ
  pub because : List (List ℕ)
  pub command : List ℕ
  pub assignments : List (List ℕ)
  pub unmet : List (List ℕ)
  pub is_fault : Bool
