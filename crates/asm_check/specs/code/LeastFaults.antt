-- Bridge to the code. The least of some faults, as a search keeps it.
--     IsLeastOf P found     found is the least fault of P, or there is none
--     lesser_fault          the lesser of two
--     is_before             whether a fault changes what was found
use Rattle.std.specs.Prelude.{◌≡◌, ◌⊎◌, ℕ, Bool, true, not, cond, ◌&&◌, ◌||◌, nat_eq, nat_lt, nat_le, List, [], ◌∷◌, Option, Some, None}
use Rattle.asm_check.specs.Faults.{IsUpTo}

abbrev pub IsLeastOf : (ℕ → ℕ → Type 0) → Option (ℕ × ℕ) → Type 0
IsLeastOf P None = (at number : ℕ) → ¬ (P at number)
IsLeastOf P (Some f) = P f.0 f.1 × ((at number : ℕ) → P at number → IsUpTo f.0 f.1 at number)

abbrev pub is_at_most : ℕ × ℕ → ℕ × ℕ → Bool
is_at_most f g = nat_lt f.0 g.0 || (nat_eq f.0 g.0 && nat_le f.1 g.1)

abbrev pub lesser_fault : Option (ℕ × ℕ) → Option (ℕ × ℕ) → Option (ℕ × ℕ)
lesser_fault None found = found
lesser_fault (Some f) None = Some f
lesser_fault (Some f) (Some g) = cond (is_at_most f g) (Some f) (Some g)

-- whether a fault comes before what was found
abbrev pub is_before : ℕ × ℕ → Option (ℕ × ℕ) → Bool
is_before f None = true
is_before f (Some found) = not (is_at_most found f)

-- the least after these faults were met too
abbrev pub least_after : Option (ℕ × ℕ) → List (ℕ × ℕ) → Option (ℕ × ℕ)
least_after found [] = found
least_after found (f ∷ fs) = least_after (lesser_fault found (Some f)) fs

-- what is found is the fault, or one before it
abbrev pub IsFoundOrLess : Option (ℕ × ℕ) → (at number : ℕ) → Type 0
IsFoundOrLess found at number = (f : ℕ × ℕ) × (found ≡ Some f) × IsUpTo f.0 f.1 at number

-- the least of what was found and of the faults of P
pub record IsLeastWith (P : ℕ → ℕ → Type 0) (before after : Option (ℕ × ℕ)) : Type 0 where
  pub from : (at number : ℕ) → after ≡ Some (at, number) → (before ≡ Some (at, number)) ⊎ P at number
  pub kept : (at number : ℕ) → before ≡ Some (at, number) → IsFoundOrLess after at number
  pub covers : (at number : ℕ) → P at number → IsFoundOrLess after at number
