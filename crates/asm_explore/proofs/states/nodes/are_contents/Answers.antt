use Rattle.std.proofs.Common.{◌≡◌, ◌+◌, ◌<◌, arith, get_or, length, sym, ap, ◌∙◌}
use Rattle.std.proofs.lemmas.Bool.{false≢true}
use Rattle.std.proofs.lemmas.List.{take_more_same, get_or_default}
use Rattle.asm_state.specs.declared.value.Value.TheVariants.{Undef}
use Rattle.asm_explore.specs.code.PackedNodes.{contents_of}
use Rattle.asm_explore.proofs.StateLemmas.PackedNodes.{contents_byte, contents_word, contents_count}
use Rattle.asm_explore.proofs.states.nodes.are_contents.Goals as goal

pub loop-i-preserved : goal.loop-i-preserved
loop-i-preserved c =
    let a = c.args in
    let all = contents_of a.bytes.now a.words.now in
    let count : length all ≡ length a.state.now = contents_count a.bytes.now a.words.now ∙ c.requires in
    let low : c.loop-i.i < length all = omega (arith, contents_count a.bytes.now a.words.now) in
    take_more_same all a.state.now c.loop-i.i Undef low (omega (arith, low, count)) c.loop-i.invariant
    (contents_byte a.bytes.now a.words.now c.loop-i.i 0 Undef (omega arith) ∙ c.is_of.ensures.same c.if-not-is_of.false ∙ c.content.ensures.content)

pub loop-i-2-preserved : goal.loop-i-2-preserved
loop-i-2-preserved c =
    let a = c.args in
    let all = contents_of a.bytes.now a.words.now in
    let k = length a.bytes.now + c.loop-i-2.i in
    let next : length a.bytes.now + (c.loop-i-2.i + 1) ≡ k + 1 = omega arith in
    let count : length all ≡ length a.state.now = contents_count a.bytes.now a.words.now ∙ c.requires in
    let low : k < length all = omega (arith, contents_count a.bytes.now a.words.now) in
    rw next (take_more_same all a.state.now k Undef low (omega (arith, low, count)) c.loop-i-2.invariant
    (contents_word a.bytes.now a.words.now c.loop-i-2.i Undef ∙ get_or_default a.words.now c.loop-i-2.i Undef c.index-words-i.result (omega arith) ∙ sym c.index-words-i.is ∙ c.is_same_value.ensures.0 c.if-not-is_same_value.false ∙ c.content-in-loop-i-2.ensures.content))

pub returns-then-not-is_of-clause-other : goal.returns-then-not-is_of-clause-other
returns-then-not-is_of-clause-other c = λ no same.
    let a = c.args in
    c.is_of.ensures.other c.if-not-is_of.true
    (sym (contents_byte a.bytes.now a.words.now c.loop-i.i 0 Undef (omega arith)) ∙ ap (λ xs. get_or xs c.loop-i.i Undef) same ∙ sym c.content.ensures.content)

pub returns-then-not-is_same_value-clause-other : goal.returns-then-not-is_same_value-clause-other
returns-then-not-is_same_value-clause-other c = λ no same.
    let a = c.args in
    let i = c.loop-i-2.i in
    let here = c.index-words-i.is ∙ get_or_default a.words.now i c.index-words-i.result Undef (omega arith) ∙ sym (contents_word a.bytes.now a.words.now i Undef)
    ∙ ap (λ xs. get_or xs (length a.bytes.now + i) Undef) same ∙ sym c.content-in-loop-i-2.ensures.content in
    false≢true (sym c.if-not-is_same_value.true ∙ c.is_same_value.ensures.1 here)
