-- Definition. When the step from a state has too many outcomes.
--     IsAmong c cs                      a choice is one of these
--     Differ p cs ds                    of some choose at the path or below it they take different
--                                       candidates
--     AreDifferent p css                each two of them do
--     AreDifferentFrom p k css          each two of them do at a part of p, of number k or a greater
--                                       one, or below it
--     AreBeside p first others P        so many lists of choices differ within one part of p, and
--                                       so many in the parts after it; this holds of each
--     Counts p first others P n         n is the sum of both numbers; or it is their product, and
--                                       they count what is within a part, and in the parts after it
--     AreMany limit crowd P             there are more lists of choices than the limit says, as many
--                                       as both numbers come to; each two differ at the path that is
--                                       named or below it, and this holds of each
--     AreMade makes cs                  each situation that takes these choices makes them
--     IsOverLimitOf makes limit A crowd     more lists of choices than the limit says are made by
--                                       the step from a state, each in each situation that takes it
--     IsCrowded specification turns limit A crowd     of the main rule
use Rattle.std.specs.Prelude.{◌≡◌, ◌≢◌, ◌<◌, ◌≤◌, ◌+◌, ◌*◌, ◌⊎◌, ℕ, List, [], ◌∷◌, length}
use Rattle.asm_state.specs.Location.{State}
use Rattle.asm_meaning.specs.Run.{Specification}
use Rattle.asm_meaning.specs.Yields.{Path, at}
use Rattle.asm_explore.specs.declared.outcomes.listed_outcome.Choice.{Choice}
use Rattle.asm_explore.specs.declared.outcomes.outcomes_error.RuleOverLimit.{RuleOverLimit}
use Rattle.asm_explore.specs.ListElements.{Each, AnyOf}
use Rattle.asm_explore.specs.RunChoices.{chosen_from}
use Rattle.asm_explore.specs.TakenChoices.{Situation, AreTaken, LiesAt, HaveOwnPaths}

abbrev pub IsAmong : Choice → List Choice → Type 0
IsAmong c cs = AnyOf (λ d. d ≡ c) cs

pub record Differ (p : Path) (cs ds : List Choice) : Type 0 where
  pub one : Choice
  pub other : Choice
  pub first : IsAmong one cs
  pub second : IsAmong other ds
  pub same : one.path ≡ other.path
  pub below : LiesAt p one.path
  pub differ : one.number ≢ other.number

abbrev pub AreDifferent : Path → List (List Choice) → Type 0
AreDifferent p [] = Unit {0}
AreDifferent p (cs ∷ css) = Each (Differ p cs) css × AreDifferent p css

abbrev pub DifferFrom : Path → ℕ → (cs ds : List Choice) → Type 0
DifferFrom p k cs ds = (j : ℕ) × (k ≤ j) × Differ (at p j) cs ds

abbrev pub AreDifferentFrom : Path → ℕ → List (List Choice) → Type 0
AreDifferentFrom p k [] = Unit {0}
AreDifferentFrom p k (cs ∷ css) = Each (DifferFrom p k cs) css × AreDifferentFrom p k css

pub record AreBeside (p : Path) (first others : ℕ) (P : List Choice → Type 0) : Type 0 where
  pub number : ℕ
  pub part : List (List Choice)
  pub part_count : length part ≡ first
  pub part_different : AreDifferent (at p number) part
  pub part_each : Each P part
  pub after : List (List Choice)
  pub after_count : length after ≡ others
  pub after_different : AreDifferentFrom p (number + 1) after
  pub after_each : Each P after

abbrev pub Counts : (p : Path) (first others : ℕ) (P : List Choice → Type 0) (n : ℕ) → Type 0
Counts p first others P n = (n ≡ first + others) ⊎ ((n ≡ first * others) × AreBeside p first others P)

pub record AreMany (limit : ℕ) (crowd : RuleOverLimit) (P : List Choice → Type 0) : Type 0 where
  pub ways : List (List Choice)
  pub more : limit < length ways
  pub counts : Counts crowd.path crowd.first crowd.others P (length ways)
  pub different : AreDifferent crowd.path ways
  pub each : Each P ways

abbrev pub AreMade : (makes : Situation → List Choice) → List Choice → Type 0
AreMade makes cs = (s : Situation) → AreTaken s cs → Each (λ c. IsAmong c (makes s)) cs

-- the step from a state has too many outcomes: of the rule at the path that is named
abbrev pub IsOverLimitOf : (makes : State → Situation → List Choice) → (limit : ℕ) → State → RuleOverLimit → Type 0
IsOverLimitOf makes limit A crowd = AreMany limit crowd (λ cs. HaveOwnPaths cs × AreMade (makes A) cs)

abbrev pub IsCrowded : Specification → (turns limit : ℕ) → State → RuleOverLimit → Type 0
IsCrowded specification turns limit = IsOverLimitOf (chosen_from specification turns) limit
