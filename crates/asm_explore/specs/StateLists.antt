-- Definition. What is said of lists of states.
--     AreDifferent xs        no two of them are the same
--     Counts P xs n          it holds of n of them, and doesn't of the others
--     IsAmongFirst n xs x    one of the first n of them is this one
use Rattle.std.specs.Prelude.{◌≡◌, ◌≢◌, ◌<◌, ◌⊎◌, ℕ, suc, List, [], ◌∷◌, length, Some, slice_get}

abbrev pub AreDifferent : {X : Type 0} → List X → Type 0
AreDifferent xs = (i j : ℕ) → i < j → j < length xs → slice_get xs i ≢ slice_get xs j

abbrev pub Counts : {X : Type 0} → (X → Type 0) → List X → ℕ → Type 0
Counts P [] n = n ≡ 0
Counts P (x ∷ xs) n = (¬ (P x) × Counts P xs n) ⊎ (P x × ((m : ℕ) × (n ≡ suc m) × Counts P xs m))

abbrev pub IsAmongFirst : {X : Type 0} → ℕ → List X → X → Type 0
IsAmongFirst n xs x = (i : ℕ) × (i < n) × (slice_get xs i ≡ Some x)
