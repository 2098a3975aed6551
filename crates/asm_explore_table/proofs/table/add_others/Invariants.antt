use Rattle.std.proofs.Common.{◌≡◌, ◌++◌, take}
use Rattle.asm_syntax.specs.code.Views.{spec_of}
use Rattle.asm_meaning.specs.Declarations.{specification_of}
use Rattle.asm_explore_texts.specs.Comments.{comments}
use Rattle.asm_explore_table.specs.Rows.{rows_of}
use Rattle.asm_explore_table.specs.Tables.{behind_lines}
use Rattle.asm_explore_table.proofs.table.add_others.Given as goal

-- the first blocks
abbrev pub invariant-loop-k : goal.invariant-loop-k
invariant-loop-k g l =
    let m = l.run.resolved in
    let s = spec_of m.checked.now.spec in
    l.out.items ≡ l.fn.out.items
    ++ comments (behind_lines s l.width (specification_of s).initial (rows_of s m.turns (g.P.Picks.script l.run.script.now) l.run.steps) (take l.k l.blocks))
