use Rattle.std.proofs.Common.{subst, ◌≢◌, ◌∙◌}
use Rattle.asm_state.specs.code.Codes.{code_of}
use Rattle.asm_state.specs.declared.value.Value.{Value}
use Rattle.asm_explore.proofs.StateLemmas.Bytes.{none_is_undef}
use Rattle.asm_explore.proofs.states.byte.content_of.Goals as goal

pub returns-in-None : goal.returns-in-None
returns-in-None c =
    c.undef.ensures ∙ none_is_undef c.args.byte c.ranges.byte.fits (subst (λ n. (v : Value) → code_of v ≢ n) c.code_of.ensures c.in-None.ensures.none)
