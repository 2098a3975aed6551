use Rattle.std.proofs.Common.{◌≡◌, ◌+◌, ◌<◌, ◌∙◌, ℕ, arith, ap, get_or, length, sym, take}
use Rattle.std.proofs.lemmas.List.{get_or_default, take_all}
use Rattle.asm_state.specs.code.Codes.{code_of}
use Rattle.asm_state.specs.declared.value.Value.TheVariants.{Undef}
use Rattle.asm_explore.specs.code.PackedNodes.{contents_of}
use Rattle.asm_explore.specs.code.StateHashes.{hash_of_contents, next_hash}
use Rattle.asm_explore.proofs.StateLemmas.IndexedNodes.{hash_more}
use Rattle.asm_explore.proofs.StateLemmas.PackedNodes.{contents_byte, contents_word, contents_count}
use Rattle.asm_explore.proofs.states.nodes.hash_of_parts.Goals as goal

pub loop-i-preserved : goal.loop-i-preserved
loop-i-preserved c =
    let a = c.args in
    let l = c.loop-i in
    let all = contents_of a.bytes.now a.words.now in
    let low : l.i < length all = omega (arith, contents_count a.bytes.now a.words.now) in
    c.with_content-hash.ensures
    ∙ ap (next_hash l.hash) (c.code.ensures.code ∙ ap code_of (c.content_of.ensures ∙ sym (contents_byte a.bytes.now a.words.now l.i 0 Undef (omega arith))))
    ∙ ap (λ h. next_hash h (code_of (get_or all l.i Undef))) l.invariant
    ∙ sym (hash_more all l.i Undef low)

pub loop-i-2-preserved : goal.loop-i-2-preserved
loop-i-2-preserved c =
    let a = c.args in
    let l = c.loop-i-2 in
    let all = contents_of a.bytes.now a.words.now in
    let k : ℕ = length a.bytes.now + l.i in
    let low : k < length all = omega (arith, contents_count a.bytes.now a.words.now) in
    let next : length a.bytes.now + (l.i + 1) ≡ k + 1 = omega arith in
    c.with_content-hash-in-loop-i-2.ensures
    ∙ ap (next_hash l.hash) (c.code-in-loop-i-2.ensures.code ∙ ap code_of (c.index-words-i.is ∙ get_or_default a.words.now l.i c.index-words-i.result Undef (omega arith) ∙ sym (contents_word a.bytes.now a.words.now l.i Undef)))
    ∙ ap (λ h. next_hash h (code_of (get_or all k Undef))) l.invariant
    ∙ sym (hash_more all k Undef low)
    ∙ ap (λ n. hash_of_contents (take n all)) (sym next)

pub returns : goal.returns
returns c =
    let a = c.args in
    let all = contents_of a.bytes.now a.words.now in
    c.loop-i-2.invariant ∙ ap hash_of_contents (take_all (length a.bytes.now + c.loop-i-2.i) all (omega (arith, contents_count a.bytes.now a.words.now)))
