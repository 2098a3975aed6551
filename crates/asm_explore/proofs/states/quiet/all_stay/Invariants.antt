use Rattle.std.proofs.Common.{◌≡◌, take}
use Rattle.asm_state.specs.Signature.{state_of}
use Rattle.asm_meaning.specs.Yields.{Result}
use Rattle.asm_explore.specs.declared.outcomes.listed_outcome.ListedOutcome.{ListedOutcome}
use Rattle.asm_explore.specs.code.OutcomeLists.{Each, Shows}
use Rattle.asm_explore.specs.Search.{LeadsOn}
use Rattle.asm_explore.proofs.states.quiet.all_stay.Given as goal

-- the first outcomes leave the state as it is
abbrev pub invariant-loop-k : goal.invariant-loop-k
invariant-loop-k l =
    let A = state_of l.signature l.state in
    Each (λ (f : ListedOutcome). (r : Result) → Shows l.signature f.answer r → LeadsOn r A (λ B. B ≡ A)) (take l.k l.outcomes)
