use Rattle.std.proofs.Common.{◌≡◌, ◌++◌, drop}
use Rattle.asm_syntax.specs.code.Views.{spec_of}
use Rattle.asm_explore_table.specs.Pages.{marked_from, page_columns}
use Rattle.asm_explore_table.proofs.page_columns.page_columns.Given as goal

-- with those of the other locations they are all
abbrev pub invariant-loop-k : goal.invariant-loop-k
invariant-loop-k l = let s = spec_of l.checked.spec in l.columns.items ++ marked_from s l.before l.spanned (drop l.k l.numbers) ≡ page_columns s l.numbers
