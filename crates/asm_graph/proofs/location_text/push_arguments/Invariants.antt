use Rattle.std.proofs.Common.{◌≡◌, ◌++◌, take}
use Rattle.std.specs.List.{join_by}
use Rattle.std.specs.Prelude.{codes}
use Rattle.asm_syntax.specs.code.Views.{spec_of}
use Rattle.asm_graph.specs.Labels.{value_text}
use Rattle.asm_graph.proofs.Texts.{mark}
use Rattle.asm_graph.proofs.location_text.push_arguments.Given as goal

-- the first are written
abbrev pub invariant-loop-argument : goal.invariant-loop-argument
invariant-loop-argument l = record {
  so_far : l.label.items ≡ l.initial.label.items ++ join_by (value_text (spec_of l.checked.spec)) (codes ", ") (take l.argument-index l.arguments);
  next : l.before ≡ mark (codes ", ") (take l.argument-index l.arguments);
}
