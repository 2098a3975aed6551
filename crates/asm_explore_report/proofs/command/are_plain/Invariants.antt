use Rattle.std.proofs.Common.{◌≡◌, true, take}
use Rattle.std.specs.List.{list_all}
use Rattle.asm_explore_report.specs.Commands.{is_plain}
use Rattle.asm_explore_report.proofs.command.are_plain.Given as goal

abbrev pub invariant-loop-k : goal.invariant-loop-k
invariant-loop-k l = list_all is_plain (take l.k l.text) ≡ true
