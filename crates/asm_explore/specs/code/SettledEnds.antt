-- Bridge to the code. The end of a search, when deadlocks have been looked for.
--     IsSettled ended deadlocks whole s     a deadlock comes first; then what has ended the search,
--                                           if it is known of all states that `whole` steps lead to
--                                           whether they are deadlocks
--     IsLastEnd deadlocks e                 the end of a search that nothing else has ended
--     comes_first ended last                whether it comes before what else has ended the search
use Rattle.std.specs.Prelude.{◌≡◌, ◌⊎◌, ℕ, Bool, true, false, []}
use Rattle.asm_explore.specs.declared.search_result.BadStep.{BadStep}
use Rattle.asm_explore.specs.declared.fault.Fault.TheVariants as fault
use Rattle.asm_explore.specs.declared.search_result.SearchEnd.{SearchEnd}
use Rattle.asm_explore.specs.declared.search_result.SearchEnd.TheVariants as ended
use Rattle.asm_explore.specs.declared.settled.Settled.{Settled}
use Rattle.asm_explore.specs.declared.states.deadlocks.Deadlocks.{Deadlocks}
use Rattle.asm_explore.specs.declared.states.deadlocks.Deadlocks.TheVariants as found
use Rattle.asm_explore.specs.code.Deadlocks.{AreTold, safe_of}
use Rattle.asm_explore.specs.code.SearchEnds.{IfBad, IfOverLimit}

pub record IsSettled (was : SearchEnd) (deadlocks : Deadlocks) (whole : ℕ) (settled : Settled) : Type 0 where
  pub closed : settled.ended ≡ ended.Closed → was ≡ ended.Closed
  pub at_limit : settled.ended ≡ ended.AtLimit → (was ≡ ended.AtLimit) × (deadlocks ≡ found.None)
  pub full : settled.ended ≡ ended.TooManyStates → was ≡ ended.TooManyStates
  pub crowded : IfOverLimit settled.ended (λ crowd. (was ≡ ended.TooManyOutcomes crowd) ⊎ ((number : ℕ) × (deadlocks ≡ found.Unknown number crowd)))
  pub bad : IfBad settled.ended (λ bad. ((was ≡ ended.BadStep bad) × AreTold deadlocks) ⊎ ((deadlocks ≡ found.At bad.from) × (bad.choices.items ≡ []) × (bad.fault ≡ fault.Deadlock)))
  pub safe : settled.safe ≡ safe_of whole deadlocks

abbrev pub IsLastEnd : Deadlocks → SearchEnd → Type 0
IsLastEnd found.None e = e ≡ ended.AtLimit
IsLastEnd (found.At number) e = (bad : BadStep) × (e ≡ ended.BadStep bad) × (bad.from ≡ number) × (bad.choices.items ≡ []) × (bad.fault ≡ fault.Deadlock)
IsLastEnd (found.Unknown number crowd) e = e ≡ ended.TooManyOutcomes crowd
IsLastEnd found.NoMemory e = e ≡ ended.Memory

-- before a fault in the next step
abbrev pub outranks_fault : SearchEnd → Bool
outranks_fault ended.AtLimit = false
outranks_fault (ended.TooManyOutcomes crowd) = false
outranks_fault _ = true

abbrev pub is_fault : SearchEnd → Bool
is_fault (ended.BadStep bad) = true
is_fault _ = false

abbrev pub comes_first : (ended last : SearchEnd) → Bool
comes_first ended.AtLimit last = true
comes_first (ended.BadStep bad) last = outranks_fault last
comes_first _ last = is_fault last
