-- Bridge to the code. What a refusal of too many outcomes says.
--     NamesRule p first others refusal  the path of the rule, and how many outcomes its parts have
--     IfTooMany X overflow              what is so if a list has too many
--     IsOverLimit limit ways refusal    if there are too many, these lists of choices are more than
--                                       the limit says
--     TakesBefore p k cs                of the choose at the path they take a candidate before this
--                                       one
--     Refuses limit P refusal           if there are too many, this is so of the refusal
--     IsWay p makes cs                  so it is, and each of them lies at the path p, at one of its
--                                       own
use Rattle.std.specs.Prelude.{◌≡◌, ◌<◌, ℕ, List, length}
use Rattle.asm_meaning.specs.Yields.{Path}
pub use Rattle.asm_explore.specs.TooManyOutcomes.{IsAmong, Differ, AreDifferent, DifferFrom, AreDifferentFrom, AreBeside, Counts, AreMany, AreMade}
use Rattle.asm_explore.specs.declared.outcomes.listed_outcome.Choice.{Choice}
use Rattle.asm_explore.specs.declared.outcomes.list_error.ListError.{ListError}
use Rattle.asm_explore.specs.declared.outcomes.list_error.ListError.TheVariants as overflow
use Rattle.asm_explore.specs.declared.outcomes.outcomes_error.OutcomesError.{OutcomesError}
use Rattle.asm_explore.specs.declared.outcomes.outcomes_error.OutcomesError.TheVariants as refusal
use Rattle.asm_explore.specs.code.ChoicePaths.{LieBelow}
use Rattle.asm_explore.specs.code.OutcomeLists.{Situation}

abbrev pub NamesRule : Path → (first others : ℕ) → OutcomesError → Type 0
NamesRule p first others refusal.Memory = Unit {0}
NamesRule p first others (refusal.TooMany crowd) = (crowd.path ≡ p) × (crowd.first ≡ first) × (crowd.others ≡ others)

abbrev pub IfTooMany : Type 0 → ListError → Type 0
IfTooMany X overflow.Memory = Unit {0}
IfTooMany X overflow.TooMany = X

abbrev pub IsOverLimit : (limit : ℕ) → List (List Choice) → OutcomesError → Type 0
IsOverLimit limit ways refusal.Memory = Unit {0}
IsOverLimit limit ways (refusal.TooMany crowd) = limit < length ways

abbrev pub TakesBefore : Path → ℕ → List Choice → Type 0
TakesBefore p k cs = (j : ℕ) × (j < k) × IsAmong (record { path = p; number = j }) cs

abbrev pub Refuses : (limit : ℕ) → (Path → List Choice → Type 0) → OutcomesError → Type 0
Refuses limit P refusal.Memory = Unit {0}
Refuses limit P (refusal.TooMany crowd) = AreMany limit crowd (P crowd.path)

pub record IsWay (p : Path) (makes : Situation → List Choice) (cs : List Choice) : Type 0 where
  pub placed : LieBelow p cs
  pub made : AreMade makes cs
