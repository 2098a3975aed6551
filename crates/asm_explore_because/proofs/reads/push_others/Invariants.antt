use Rattle.std.proofs.Common.{◌≡◌, ◌++◌, drop}
use Rattle.asm_syntax.specs.code.Views.{spec_of}
use Rattle.asm_run.specs.Written.{names_in}
use Rattle.asm_explore_because.specs.PrintedTerms.{other_arguments}
use Rattle.asm_explore_because.proofs.reads.push_others.Given as goal

abbrev pub invariant-loop-value : goal.invariant-loop-value
invariant-loop-value l =
    l.line.items ++ other_arguments (names_in (spec_of l.checked.spec)).elements (drop l.value-index l.values)
    ≡ l.fn.line.items ++ other_arguments (names_in (spec_of l.checked.spec)).elements l.values
