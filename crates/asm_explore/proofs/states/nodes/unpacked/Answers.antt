use Rattle.std.proofs.Common.{◌≡◌, ℕ, ◌+◌, ◌<◌, ◌++◌, ◌∷◌, [], arith, length, sym, ap, ◌∙◌, take}
use Rattle.std.proofs.lemmas.List.{take_more, take_more_set, get_or_default}
use Rattle.asm_state.specs.declared.value.Value.TheVariants.{Undef}
use Rattle.asm_explore.specs.code.PackedNodes.{contents_of}
use Rattle.asm_explore.proofs.StateLemmas.PackedNodes.{contents_byte, contents_word, contents_count}
use Rattle.asm_explore.proofs.states.nodes.unpacked.Goals as goal

pub loop-i-preserved : goal.loop-i-preserved
loop-i-preserved c =
    let a = c.args in
    let l = c.loop-i in
    let all = contents_of a.bytes.now a.words.now in
    let count : length all ≡ length a.like.now = contents_count a.bytes.now a.words.now ∙ c.requires in
    let low : l.i < length all = omega (arith, contents_count a.bytes.now a.words.now) in
    record {
      so_far = ap (take (l.i + 1)) c.set.ensures.set ∙ take_more_set l.state l.i _ (omega (arith, low, count, l.invariant.whole))
          ∙ ap (λ xs. xs ++ c.content_of.result ∷ []) l.invariant.so_far
          ∙ ap (λ v. take l.i all ++ v ∷ []) (c.content_of.ensures ∙ sym (contents_byte a.bytes.now a.words.now l.i 0 Undef (omega arith)))
          ∙ sym (take_more all l.i Undef low);
      whole = c.set.ensures.whole ∙ l.invariant.whole;
    }

pub loop-i-2-preserved : goal.loop-i-2-preserved
loop-i-2-preserved c =
    let a = c.args in
    let l = c.loop-i-2 in
    let k : ℕ = length a.bytes.now + l.i in
    let all = contents_of a.bytes.now a.words.now in
    let count : length all ≡ length a.like.now = contents_count a.bytes.now a.words.now ∙ c.requires in
    let low : k < length all = omega (arith, contents_count a.bytes.now a.words.now) in
    let next : length a.bytes.now + (l.i + 1) ≡ k + 1 = omega arith in
    record {
      so_far = ap (λ n. take n c.set-in-loop-i-2.new.self) next
          ∙ ap (take (k + 1)) c.set-in-loop-i-2.ensures.set ∙ take_more_set l.state k c.index-words-i.result (omega (arith, low, count, l.invariant.whole))
          ∙ ap (λ xs. xs ++ c.index-words-i.result ∷ []) l.invariant.so_far
          ∙ ap (λ v. take k all ++ v ∷ []) (c.index-words-i.is ∙ get_or_default a.words.now l.i c.index-words-i.result Undef (omega arith) ∙ sym (contents_word a.bytes.now a.words.now l.i Undef))
          ∙ sym (take_more all k Undef low) ∙ ap (λ n. take n all) (sym next);
      whole = c.set-in-loop-i-2.ensures.whole ∙ l.invariant.whole;
    }
