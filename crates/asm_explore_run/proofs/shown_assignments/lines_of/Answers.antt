use Rattle.std.proofs.Common.{◌∙◌, ◌++◌, ◌∷◌, [], List, Vec, Global, ℕ, ap, subst, sym, take}
use Rattle.std.proofs.lemmas.List.{map_push, take_more}
use Rattle.asm_syntax.specs.code.Views.{spec_of}
use Rattle.asm_run.specs.Written.{names_in}
use Rattle.asm_clash.specs.declared.assignment.Assignment.{Assignment}
use Rattle.asm_explore_texts.specs.Comments.{lines_of}
use Rattle.asm_explore_run.specs.ClashText.{AreLinesOf}
use Rattle.asm_explore_run.proofs.ClashLines.{lines_more}
use Rattle.asm_explore_run.proofs.shown_assignments.lines_of.Goals as goal

pub loop-k-preserved : goal.loop-k-preserved
loop-k-preserved c =
    let names = names_in (spec_of c.args.checked.now.spec) in
    let text = c.args.text.now in
    let end = c.args.end.now in
    let all = c.args.assignments.now in
    let k = c.loop-k.k in
    let a = c.index-assignments-k.result in
    let line = c.in_ok-line.line in
    let old = c.loop-k.lines.items in
    subst (λ (xs : List Assignment). AreLinesOf text names end xs (lines_of c.push.new.self.items)) (sym (take_more all k a c.loop-k-test.true ∙ ap (λ (x : Assignment). take k all ++ x ∷ []) (sym c.index-assignments-k.is)))
    (subst (λ ls. AreLinesOf text names end (take k all ++ a ∷ []) ls) (sym (ap lines_of c.in_ok-push.ensures.items ∙ map_push (λ (l : Vec ℕ Global). l.items) old line))
    (lines_more text names end (take k all) (lines_of old) a line.items c.loop-k.invariant c.in_ok-line.ensures))
