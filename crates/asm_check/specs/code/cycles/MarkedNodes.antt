-- Bridge to the code. The nodes to which steps lead, as they are marked one after another.
--     is_marked marks n                    whether the node n is marked
--     HasMarked ns old before new after    of the list ns each node is marked, and those that
--                                          weren't before wait
--     unmarked marks                       how many nodes aren't marked
use Rattle.std.specs.Prelude.{◌≡◌, ◌≤◌, ◌⊎◌, ◌+◌, ℕ, Bool, true, false, cond, List, Contains, length, slice_index_or, sum_by}

abbrev pub is_marked : List Bool → ℕ → Bool
is_marked marks n = slice_index_or marks n false

abbrev pub unmarked : List Bool → ℕ
unmarked marks = sum_by (λ b. cond b 0 1) marks

-- old and before are the marks and the waiting nodes at first, new and after are those at the end
pub record HasMarked (ns : List ℕ) (old : List Bool) (before : List ℕ) (new : List Bool) (after : List ℕ) : Type 0 where
  pub len : length new ≡ length old
  pub each : (n : ℕ) → Contains ns n → is_marked new n ≡ true
  pub kept : (n : ℕ) → is_marked old n ≡ true → is_marked new n ≡ true
  pub new_ones : (n : ℕ) → is_marked new n ≡ true → (is_marked old n ≡ true) ⊎ (Contains ns n × Contains after n)
  pub still_waiting : (n : ℕ) → Contains before n → Contains after n
  pub waiting : (n : ℕ) → Contains after n → Contains before n ⊎ Contains ns n
  pub work : unmarked new + length after ≤ unmarked old + length before

-- some of the nodes is marked
abbrev pub HasMarkedStep : List ℕ → List Bool → Type 0
HasMarkedStep ns marks = (n : ℕ) × Contains ns n × (is_marked marks n ≡ true)
