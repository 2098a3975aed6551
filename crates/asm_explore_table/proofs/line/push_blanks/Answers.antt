use Rattle.std.proofs.Common.{◌∙◌, ◌++◌, ◌∷◌, [], ap, append_assoc}
use Rattle.asm_explore_table.specs.Lines.{blanks}
use Rattle.asm_explore_table.proofs.TableLines.{blanks_more}
use Rattle.asm_explore_table.proofs.line.push_blanks.Goals as goal

pub loop-preserved : goal.loop-preserved
loop-preserved c =
    let line = c.args.line.now.items in
    c.in_ok-push.ensures.items ∙ ap (λ bs. bs ++ 32 ∷ []) c.loop.invariant ∙ append_assoc line (blanks c.loop.counter) (32 ∷ [])
    ∙ ap (λ bs. line ++ bs) (blanks_more c.loop.counter)
