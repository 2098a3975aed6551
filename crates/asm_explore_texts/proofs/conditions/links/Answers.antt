use Rattle.std.proofs.Common.{length, refl}
use Rattle.std.proofs.lemmas.Option.{IfSome_then, slice_get_read}
use Rattle.std.proofs.lemmas.Result.{err_from_is_err_and}
use Rattle.asm_syntax.specs.code.Views.{spec_of}
use Rattle.asm_explore_texts.specs.RefusedTexts.{refused_in}
use Rattle.asm_explore_texts.proofs.Links.{one_more}
use Rattle.asm_explore_texts.proofs.conditions.links.Goals as goal

pub loop-k-preserved : goal.loop-k-preserved
loop-k-preserved c =
    one_more (spec_of c.args.checked.now.spec) c.args.conditions.now c.loop-k.k c.index-conditions-k.result c.in_ok-term.term
    c.loop-k.links.items c.push.new.self.items c.loop-k-test.true c.index-conditions-k.is c.loop-k.invariant c.in_ok-term.ensures.found c.in_ok-push.ensures.items

pub returns-in_err-term-clause-refused : goal.returns-in_err-term-clause-refused
returns-in_err-term-clause-refused c =
    let p = err_from_is_err_and c.from_residual.result c.from_residual.ensures.1 in
    let conditions = c.args.conditions.now in
    let k = c.loop-k.k in
    let one = c.index-conditions-k.result in
    let there = slice_get_read conditions (length conditions) k one refl c.loop-k-test.true c.index-conditions-k.is in
    let refused = c.in_err-term.ensures.refused in
    rw (p.1, p.2) (IfSome_then (refused_in c.in_err-term.field-0.0) refused.0 (λ r is. (k, one, there, is)), refused.1)
