use Rattle.std.proofs.Common.{◌≡◌, ◌∙◌, ◌<◌, ◌∷◌, [], Bool, ap, false, subst, sym, true}
use Rattle.std.specs.Prelude.{◌&&◌, ◌||◌}
use Rattle.asm_state.specs.Location.{Location}
use Rattle.asm_state.specs.Signature.{Shape, count_of, location_at}
use Rattle.asm_state.specs.Updates.{is_proper}
use Rattle.asm_syntax.specs.code.Views.{spec_of}
use Rattle.asm_check.specs.Shapes.{shape_of}
use Rattle.asm_explore_table.specs.Tables.{is_named, numbered}
use Rattle.asm_explore_table.proofs.ChangeLists.{any_below, any_more}
use Rattle.asm_explore_table.proofs.names.is_known.Goals as goal

pub returns-then-branch : goal.returns-then-branch
returns-then-branch c =
    let s = spec_of c.args.checked.now.spec in
    let n = c.loop-n.n in
    let named : Location → Bool = λ l. is_proper l && is_named s (c.args.name.now ∷ []) l in
    let low : n < count_of (shape_of s) = subst (λ (sh : Shape). n < count_of sh) c.signature.ensures (subst (λ m. n < m) c.count-n-end.ensures.count c.loop-n-test.true) in
    let at : named (numbered s n) ≡ true = ap named (sym (c.in_ok-location.ensures ∙ ap (λ (sh : Shape). location_at sh n) c.signature-in-loop-n.ensures)) ∙ sym c.in_ok-is_named.ensures ∙ c.if-branch.true in
    sym (any_below (λ m. named (numbered s m)) n (count_of (shape_of s)) low at)

pub loop-n-preserved : goal.loop-n-preserved
loop-n-preserved c =
    let s = spec_of c.args.checked.now.spec in
    let n = c.loop-n.n in
    let named : Location → Bool = λ l. is_proper l && is_named s (c.args.name.now ∷ []) l in
    let at : named (numbered s n) ≡ false = ap named (sym (c.in_ok-location.ensures ∙ ap (λ (sh : Shape). location_at sh n) c.signature-in-loop-n.ensures)) ∙ sym c.in_ok-is_named.ensures ∙ c.if-branch.false in
    any_more (λ m. named (numbered s m)) n ∙ ap (λ b. b || named (numbered s n)) c.loop-n.invariant ∙ at
