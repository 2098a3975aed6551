-- Bridge to the code. How a search has ended.
--     IfBad        what is said if a step goes wrong
--     IsDone       all nodes are expanded
--     IsRefused    the search was refused
--     IfOverLimit  what is said if a step has too many outcomes
--     HaltsSo      why a search is cut off: if it is by the limit of states, or of outcomes, this
--                  is so
use Rattle.asm_explore.specs.declared.search_result.BadStep.{BadStep}
use Rattle.asm_explore.specs.declared.search_error.SearchError.{SearchError}
use Rattle.asm_explore.specs.declared.search_error.SearchError.TheVariants as halt
use Rattle.asm_explore.specs.declared.outcomes.outcomes_error.RuleOverLimit.{RuleOverLimit}
use Rattle.asm_explore.specs.declared.search_result.SearchEnd.{SearchEnd}
use Rattle.asm_explore.specs.declared.search_result.SearchEnd.TheVariants as ended

abbrev pub IfBad : SearchEnd → (BadStep → Type 0) → Type 0
IfBad (ended.BadStep bad) P = P bad
IfBad _ P = Unit {0}

abbrev pub IsDone : SearchEnd → Type 0
IsDone ended.Closed = Unit {0}
IsDone ended.AtLimit = Unit {0}
IsDone _ = ⊥

abbrev pub IsRefused : SearchEnd → Type 0
IsRefused ended.TooManyStates = Unit {0}
IsRefused (ended.TooManyOutcomes crowd) = Unit {0}
IsRefused ended.Memory = Unit {0}
IsRefused _ = ⊥

abbrev pub IfOverLimit : SearchEnd → (RuleOverLimit → Type 0) → Type 0
IfOverLimit (ended.TooManyOutcomes crowd) P = P crowd
IfOverLimit _ P = Unit {0}

abbrev pub HaltsSo : (full : Type 0) → (crowded : RuleOverLimit → Type 0) → SearchError → Type 0
HaltsSo full crowded halt.Memory = Unit {0}
HaltsSo full crowded halt.States = full
HaltsSo full crowded (halt.Outcomes crowd) = crowded crowd
