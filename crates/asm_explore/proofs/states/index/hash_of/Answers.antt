use Rattle.std.proofs.Common.{◌∙◌, ap, arith, get_or, sym}
use Rattle.std.proofs.lemmas.List.{take_all}
use Rattle.asm_state.specs.code.Codes.{code_of}
use Rattle.asm_state.specs.declared.value.Value.TheVariants.{Undef}
use Rattle.asm_explore.specs.code.StateHashes.{hash_of_contents, next_hash}
use Rattle.asm_explore.proofs.StateLemmas.IndexedNodes.{hash_more}
use Rattle.asm_explore.proofs.states.index.hash_of.Goals as goal

pub loop-n-preserved : goal.loop-n-preserved
loop-n-preserved c =
    let l = c.loop-n in
    c.with_content-hash.ensures ∙ ap (next_hash l.hash) (c.code.ensures.code ∙ ap code_of c.content.ensures.content)
    ∙ ap (λ h. next_hash h (code_of (get_or c.args.state.now l.n Undef))) l.invariant
    ∙ sym (hash_more c.args.state.now l.n Undef (omega (arith, c.requires)))

pub returns : goal.returns
returns c =
    c.loop-n.invariant ∙ ap hash_of_contents (take_all c.loop-n.n c.args.state.now (omega (arith, c.requires)))
