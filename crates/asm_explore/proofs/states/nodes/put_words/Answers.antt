use Rattle.std.proofs.Common.{◌≡◌, ◌+◌, ◌-◌, ◌<◌, ◌++◌, ◌∷◌, [], arith, length, sym, ap, ◌∙◌, take, drop, append_assoc}
use Rattle.std.proofs.lemmas.List.{take_more, length-drop}
use Rattle.asm_state.specs.declared.value.Value.TheVariants.{Undef}
use Rattle.asm_explore.proofs.StateLemmas.PackedNodes.{get_or_drop}
use Rattle.asm_explore.proofs.states.nodes.put_words.Goals as goal

pub loop-n-preserved : goal.loop-n-preserved
loop-n-preserved c =
    let a = c.args in
    let l = c.loop-n in
    let xs = drop a.first a.state.now in
    let i = l.n - a.first in
    let next : l.n + 1 - a.first ≡ i + 1 = omega (arith, c.loop-n.auto.n) in
    let low : i < length xs = omega (arith, length-drop a.first a.state.now, c.requires.whole) in
    rw next (c.in_ok-push.ensures.items ∙ ap (λ ws. ws ++ c.content.result ∷ []) l.invariant
    ∙ append_assoc a.words.now.items (take i xs) (c.content.result ∷ [])
    ∙ ap (λ ys. a.words.now.items ++ ys)
    (ap (λ v. take i xs ++ v ∷ []) (c.content.ensures.content ∙ sym (get_or_drop a.state.now a.first l.n Undef (omega arith)))
    ∙ sym (take_more xs i Undef low)))
