use Rattle.std.proofs.Common.{◌≡◌, take, true}
use Rattle.std.specs.Prelude.{All}
use Rattle.asm_syntax.specs.code.Views.{spec_of}
use Rattle.asm_explore_table.specs.Tables.{is_known}
use Rattle.asm_explore_table.specs.code.StepsMade.{names_said}
use Rattle.asm_explore_table.proofs.names.unknown_name.Given as goal

-- the first names are known
abbrev pub invariant-loop-k : goal.invariant-loop-k
invariant-loop-k l = All (λ name. is_known (spec_of l.checked.spec) name ≡ true) (names_said (take l.k l.names))
