-- Bridge to the code. The outcomes of a rule through all scripts.
--     Shows shape a r      a result of the code is this result
--     IsShownBy a b        whatever the result a shows, b shows too
--     Shown shape fs r     some result of a list is
--     HaveChoices P fs     the choices of each outcome of a list are so
--     ListGrows, IsJoined  how lists grow by one outcome, and by one beside each of a list
--     IsPicked             and by those of a candidate that is taken
--     Lists shape o fs     a list has what a rule yields in each situation, and nothing else: each
--                          of its results comes in every situation whose script takes the result's
--                          choices
use Rattle.std.specs.Prelude.{◌≡◌, ℕ, ◌+◌, List, [], ◌∷◌, ◌++◌, ◌⊎◌}
use Rattle.asm_state.specs.Signature.{Shape, count_of}
use Rattle.asm_updates.specs.code.Stands.{Stands}
use Rattle.asm_meaning.specs.Yields.{Path, Result, Gives, Exhausted, at, beside}
use Rattle.asm_explore.specs.declared.outcomes.listed_outcome.Choice.{Choice}
use Rattle.asm_explore.specs.declared.outcomes.listed_outcome.RuleResult.{RuleResult}
use Rattle.asm_explore.specs.declared.outcomes.listed_outcome.RuleResult.TheVariants as answer
use Rattle.asm_explore.specs.declared.outcomes.listed_outcome.ListedOutcome.{ListedOutcome}
pub use Rattle.asm_explore.specs.ListElements.{Each, AnyOf}
pub use Rattle.asm_explore.specs.TakenChoices.{Situation, picked, IsTaken, AreTaken}
use Rattle.asm_explore.specs.code.ChoicePaths.{LieBelow, IsPlacedFrom}
use Rattle.asm_explore.specs.code.ChoiceLists.{choice_lists, AreSomeOf, behind, with_choice}

abbrev pub Shows : Shape → RuleResult → Result → Type 0
Shows shape (answer.Set updates) (Gives U) = Stands shape updates.set U
Shows shape (answer.Set updates) (Exhausted q) = ⊥
Shows shape (answer.Exhausted p) (Gives U) = ⊥
Shows shape (answer.Exhausted p) (Exhausted q) = p ≡ q

-- whatever the one shows the other shows too
abbrev pub IsShownBy : RuleResult → RuleResult → Type 0
IsShownBy a b = (shape : Shape) (r : Result) → Shows shape a r → Shows shape b r

abbrev pub Shown : Shape → List ListedOutcome → Result → Type 0
Shown shape fs r = AnyOf (λ f. Shows shape f.answer r) fs

-- the sets of a list have this count of locations
abbrev pub IsCounted : ℕ → RuleResult → Type 0
IsCounted count (answer.Set updates) = updates.set.count ≡ count
IsCounted count (answer.Exhausted p) = Unit {0}

abbrev pub AreCounted : ℕ → List ListedOutcome → Type 0
AreCounted count fs = Each (λ f. IsCounted count f.answer) fs

abbrev pub HaveChoices : (List Choice → Type 0) → List ListedOutcome → Type 0
HaveChoices P fs = Each (λ f. P f.choices) fs

-- what is found in each situation that makes the choices
abbrev pub IsSound : Shape → (Situation → Result) → ListedOutcome → Type 0
IsSound shape o f = (s : Situation) → AreTaken s f.choices → Shows shape f.answer (o s)

pub record Lists (shape : Shape) (o : Situation → Result) (fs : List ListedOutcome) : Type 0 where
  pub counted : AreCounted (count_of shape) fs
  pub complete : (s : Situation) → Shown shape fs (o s)
  pub sound : Each (IsSound shape o) fs

-- a list with one more outcome, or with none more if its result is in it
pub record ListGrows (old : List ListedOutcome) (one : ListedOutcome) (new : List ListedOutcome) : Type 0 where
  pub kept : (new ≡ old) ⊎ (new ≡ old ++ one ∷ [])
  pub shown : (shape : Shape) (r : Result) → Shows shape one.answer r → Shown shape new r

-- a list with one outcome beside each of another list
pub record IsJoined (shape : Shape) (left : ListedOutcome) (right old new : List ListedOutcome) : Type 0 where
  pub counted : AreCounted (count_of shape) old → AreCounted (count_of shape) new
  pub older : (r : Result) → Shown shape old r → Shown shape new r
  pub shown : (x y : Result) → Shows shape left.answer x → Shown shape right y → Shown shape new (beside x y)
  pub sound : (o q : Situation → Result) → IsSound shape o left → Each (IsSound shape q) right
      → Each (IsSound shape (λ s. beside (o s) (q s))) old → Each (IsSound shape (λ s. beside (o s) (q s))) new
  pub placed : (p : Path) (k : ℕ) → LieBelow (at p k) left.choices → HaveChoices (IsPlacedFrom p (k + 1)) right
      → HaveChoices (IsPlacedFrom p k) old → HaveChoices (IsPlacedFrom p k) new
  pub chosen : (ways : List (List Choice)) → AreSomeOf (choice_lists old) ways → AreSomeOf (choice_lists new) (ways ++ behind left.choices (choice_lists right))

-- a list with the outcomes of a part, each with one more choice
pub record IsPicked (p : Path) (k : ℕ) (part old new : List ListedOutcome) : Type 0 where
  pub counted : (n : ℕ) → AreCounted n part → AreCounted n old → AreCounted n new
  pub older : (shape : Shape) (r : Result) → Shown shape old r → Shown shape new r
  pub shown : (shape : Shape) (r : Result) → Shown shape part r → Shown shape new r
  pub sound : (shape : Shape) (o q : Situation → Result) → Each (IsSound shape o) part → ((s : Situation) → picked s p ≡ k → o s ≡ q s)
      → Each (IsSound shape q) old → Each (IsSound shape q) new
  pub placed : HaveChoices (LieBelow (at p 0)) part → HaveChoices (LieBelow p) old → HaveChoices (LieBelow p) new
  pub chosen : AreSomeOf (choice_lists new) (choice_lists old ++ with_choice p k (choice_lists part))
