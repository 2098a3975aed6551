use Rattle.std.proofs.Common.{◌≡◌, take}
use Rattle.asm_state.specs.Signature.{state_of}
use Rattle.asm_meaning.specs.Yields.{Result}
use Rattle.asm_explore.specs.code.OutcomeLists.{Each, Shows}
use Rattle.asm_explore.specs.Search.{LeadsOn}
use Rattle.asm_explore.proofs.states.trail.choices_between.Given as goal

-- none of the first outcomes leads there
abbrev pub invariant-loop-k : goal.invariant-loop-k
invariant-loop-k g l =
    Each (λ f. (r : Result) → Shows (g.M.Machine.shape l.machine) f.answer r
    → LeadsOn r (state_of (g.M.Machine.shape l.machine) l.from) (λ B. B ≡ state_of (g.M.Machine.shape l.machine) l.to) → ⊥) (take l.k l.outcomes.items)
