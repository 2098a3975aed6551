use Rattle.std.proofs.Common.{◌≡◌, ◌∙◌, ◌∷◌, ◌++◌, [], take, ap, append_assoc}
use Rattle.std.proofs.lemmas.List.{take_all}
use Rattle.std.specs.List.{flat_map}
use Rattle.asm_explore_report.specs.Commands.{quoted_byte}
use Rattle.asm_explore_report.proofs.command.push_quoted.Goals as goal

pub returns : goal.returns
returns c =
    let text = c.args.text.now in
    let old = c.args.out.now.items in
    let i = c.loop-byte.byte-index in
    let all : c.loop-byte.out.items ≡ (old ++ 39 ∷ []) ++ flat_map quoted_byte text =
    c.loop-byte.invariant ∙ (ap (λ xs. xs ++ flat_map quoted_byte (take i text)) c.in_ok-push.ensures.items
    ∙ ap (λ t. (old ++ 39 ∷ []) ++ flat_map quoted_byte t) (take_all i text c.loop-byte-test.false)) in
    c.in_ok-push-2.ensures.items ∙ (ap (λ xs. xs ++ 39 ∷ []) all
    ∙ (append_assoc (old ++ 39 ∷ []) (flat_map quoted_byte text) (39 ∷ []) ∙ append_assoc old (39 ∷ []) (flat_map quoted_byte text ++ 39 ∷ [])))
