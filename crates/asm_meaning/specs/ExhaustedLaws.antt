-- Law. Where parts beside each other are exhausted: at the path of one of them, and none is less.
--     IsUpTo p q         p isn't greater than q
--     IsFrom q r         if r is exhausted, its path isn't less than q
--     ExhaustedLaws      of any results, and of parts and elements, whose paths begin with their
--                        numbers
use Rattle.std.specs.Prelude.{◌≡◌, ℕ, suc, Bool, false, List, All}
use Rattle.std.specs.List.{Any}
use Rattle.std.specs.Cmp.Lexicographic.{slice_cmp}
use Rattle.std.specs.Ordering.{nat_cmp, is_gt}
use Rattle.asm_state.specs.declared.value.Value.{Value}
use Rattle.asm_state.specs.Location.{State}
use Rattle.asm_syntax.specs.Tree.{Name, Rule, Rules}
use Rattle.asm_reader.specs.ScriptLines.{Script}
use Rattle.asm_meaning.specs.Cases.{all_run}
use Rattle.asm_meaning.specs.Does.{does, parts, each}
use Rattle.asm_meaning.specs.Program.{Program, Environment, with_value}
use Rattle.asm_meaning.specs.Yields.{Path, at, Result, Gives, Exhausted, beside, all_beside}

abbrev pub IsUpTo : Path → Path → Type 0
IsUpTo p q = is_gt (slice_cmp nat_cmp p q) ≡ false

abbrev pub IsFrom : Path → Result → Type 0
IsFrom q (Gives U) = Unit {0}
IsFrom q (Exhausted p) = IsUpTo q p

pub record ExhaustedLaws : Type 0 where
  pub is_one : (rs : List Result) (q : Path) → all_beside rs ≡ Exhausted q → Any (λ r. r ≡ Exhausted q) rs
  pub is_least : (rs : List Result) (q : Path) → all_beside rs ≡ Exhausted q → All (IsFrom q) rs
  -- if one is exhausted, all of them together are
  pub is_exhausted : (rs : List Result) (p : Path) → Any (λ r. r ≡ Exhausted p) rs → (q : Path) × (all_beside rs ≡ Exhausted q)
  -- a part whose path is the least of it and the parts after it
  pub first_part : (program : Program) (turns : ℕ) (script : Script) (step : ℕ) (A : State) (e : Environment) (p q : Path) (k : ℕ) (R : Rule) (Ps : Rules)
      → (does program turns script step A e (at p k) R).result ≡ Exhausted q
      → beside (does program turns script step A e (at p k) R).result (parts (all_run program turns script step Ps) (suc k) A e p).result ≡ Exhausted q
  -- an element whose path is the least of it and the elements after it
  pub first_element : (program : Program) (turns : ℕ) (script : Script) (step : ℕ) (A : State) (e : Environment) (p q : Path) (x : Name) (test : Value → Bool) (k : ℕ) (v : Value) (vs : List Value) (R : Rule)
      → (does program turns script step A (with_value x v e) (at p k) R).result ≡ Exhausted q
      → beside (does program turns script step A (with_value x v e) (at p k) R).result
      (each (λ w n. does program turns script step A (with_value x w e) (at p n) R) test (suc k) vs).result ≡ Exhausted q
