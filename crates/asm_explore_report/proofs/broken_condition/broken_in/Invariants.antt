use Rattle.std.proofs.Common.{◌≡◌, true, take}
use Rattle.std.specs.List.{list_all}
use Rattle.asm_state.specs.Signature.{state_of}
use Rattle.asm_syntax.specs.code.Views.{spec_of, term_of}
use Rattle.asm_check.specs.Shapes.{shape_of}
use Rattle.asm_meaning.specs.Value.{is_true}
use Rattle.asm_explore_report.specs.FaultWords.{value_in}
use Rattle.asm_explore_report.proofs.broken_condition.broken_in.Given as goal

abbrev pub invariant-loop-k : goal.invariant-loop-k
invariant-loop-k l = list_all (λ link. is_true (value_in (spec_of l.checked.spec) (term_of link.1) (state_of (shape_of (spec_of l.checked.spec)) l.state))) (take l.k l.links) ≡ true
