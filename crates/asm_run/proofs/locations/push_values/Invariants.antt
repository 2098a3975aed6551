use Rattle.std.proofs.Common.{◌≡◌, ◌++◌, take}
use Rattle.asm_syntax.specs.code.Views.{spec_of}
use Rattle.asm_run.specs.Trace.{values_text}
use Rattle.asm_run.specs.Written.{names_in}
use Rattle.asm_run.proofs.locations.push_values.Given as goal

abbrev pub invariant-loop-value : goal.invariant-loop-value
invariant-loop-value l = l.out.items ≡ l.fn.out.items ++ values_text (names_in (spec_of l.checked.spec)).elements l.fn.first (take l.value-index l.rest)
