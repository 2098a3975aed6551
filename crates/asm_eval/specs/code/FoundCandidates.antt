-- Bridge to the code. Where a walk along candidates ends.
--     found_among n v          what a walk to a candidate of n meets, if the candidate is v
--     found_candidate k vs     what a walk to candidate number k meets
use Rattle.std.specs.Prelude.{ℕ, List, Option, Some, None, length, slice_get}
use Rattle.asm_state.specs.declared.value.Value.{Value}
use Rattle.asm_eval.specs.declared.found_candidate.FoundCandidate.{FoundCandidate}
use Rattle.asm_eval.specs.declared.found_candidate.FoundCandidate.TheVariants.{At, TooFew}

abbrev pub found_among : ℕ → Option Value → FoundCandidate
found_among n (Some v) = At v
found_among n None = TooFew n

abbrev pub found_candidate : ℕ → List Value → FoundCandidate
found_candidate k vs = found_among (length vs) (slice_get vs k)
