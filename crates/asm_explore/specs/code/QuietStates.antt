-- Bridge to the code. Quiet states that a search has found.
--     AreJust P k xs ks      of a list whose elements have the numbers from k on these are the
--                            numbers of those of which it holds, in order
--     IsLookedAt             runs are followed from the state of a node, so that its step is looked
--                            at
--     IsRested               of the first nodes the quiet ones are listed, and none is a deadlock
--     RestsSo                of one more node it is told whether it is quiet
--     IsFirstQuiet           the first quiet one has no more steps before it than any other
use Rattle.std.specs.Prelude.{◌≡◌, ◌<◌, ◌⊎◌, ℕ, suc, Bool, true, List, [], ◌∷◌, ◌++◌, take, slice_get, Some}
use Rattle.asm_state.specs.Location.{State}
use Rattle.asm_state.specs.Signature.{Shape}
use Rattle.asm_meaning.specs.Run.{Specification}
use Rattle.asm_explore.specs.ListElements.{Each}
use Rattle.asm_explore.specs.code.PackedNodes.{Node}
use Rattle.asm_explore.specs.code.ReachedStates.{state_at}
use Rattle.asm_explore.specs.Search.{IsQuiet, IsDeadlock, HoldsBefore}

abbrev pub AreJust : {X : Type 0} → (X → Type 0) → ℕ → List X → List ℕ → Type 0
AreJust P k [] ks = ks ≡ []
AreJust P k (x ∷ xs) ks = (¬ (P x) × AreJust P (suc k) xs ks) ⊎ (P x × ((rest : List ℕ) × (ks ≡ k ∷ rest) × AreJust P (suc k) xs rest))

module _ (shape : Shape) (specification : Specification) (turns : ℕ) where
  abbrev pub IsLookedAt : (within : State → Bool) → (depth : ℕ) → Node → Type 0
  IsLookedAt within depth n = (n.depth < depth) × (within (state_at shape n) ≡ true)

  pub record IsRested (rests within : State → Bool) (depth i : ℕ) (nodes : List Node) (quiet : List ℕ) : Type 0 where
    pub just : AreJust (λ n. IsLookedAt within depth n × IsQuiet specification turns (state_at shape n)) 0 (take i nodes) quiet
    pub alive : Each (λ n. IsLookedAt within depth n → ¬ (IsDeadlock specification turns rests (state_at shape n))) (take i nodes)

  -- where the first of the quiet ones is
  abbrev pub IsFirstQuiet : (within : State → Bool) → List Node → List ℕ → Type 0
  IsFirstQuiet within nodes [] = Unit {0}
  IsFirstQuiet within nodes (i ∷ quiet) =
      (n : Node) × (slice_get nodes i ≡ Some n) × (within (state_at shape n) ≡ true) × IsQuiet specification turns (state_at shape n)
      × HoldsBefore specification turns within (λ A. ¬ (IsQuiet specification turns A)) n.depth

-- the state is quiet and listed, or neither
abbrev pub RestsSo : Specification → (turns : ℕ) → (rests : State → Bool) → State → (number : ℕ) → (old new : List ℕ) → Type 0
RestsSo specification turns rests A number old new =
    ¬ (IsDeadlock specification turns rests A)
    × ((IsQuiet specification turns A × (new ≡ old ++ number ∷ [])) ⊎ (¬ (IsQuiet specification turns A) × (new ≡ old)))
