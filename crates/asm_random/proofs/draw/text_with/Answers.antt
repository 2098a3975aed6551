use Rattle.std.proofs.Common.{◌⊎◌, subst}
use Rattle.std.specs.Prelude.{IfNone, IfOk, IfSome}
use Rattle.std.specs.String.{string_bytes}
use Rattle.asm_syntax.specs.code.Views.{spec_of}
use Rattle.asm_meaning.specs.Declarations.{specification_of}
use Rattle.asm_random.specs.DrawnTexts.{IsDrawnText, IsLongDraw, IsUnsettled}
use Rattle.asm_random.proofs.draw.text_with.Goals as goal

pub returns-clause-some : goal.returns-clause-some
returns-clause-some c =
    let q = c.args.question.now in
    let s = specification_of (spec_of c.args.checked.now.spec) in
    subst (λ right. IfOk c.text_of_draw.result (λ found. IfSome found (λ text. IsDrawnText s q.turns right q.seed q.steps (string_bytes text))))
    (λ i A. c.requires.always.means A i) c.text_of_draw.ensures.some

pub returns-clause-none : goal.returns-clause-none
returns-clause-none c =
    let q = c.args.question.now in
    let s = specification_of (spec_of c.args.checked.now.spec) in
    subst (λ right. IfOk c.text_of_draw.result (λ found. IfNone found (IsLongDraw s q.turns right q.seed q.steps ⊎ IsUnsettled s q.turns right q.seed q.steps)))
    (λ i A. c.requires.always.means A i) c.text_of_draw.ensures.none
