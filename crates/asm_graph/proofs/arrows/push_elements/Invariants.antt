use Rattle.std.proofs.Common.{◌≡◌, ◌++◌, codes, take}
use Rattle.std.specs.List.{join_by}
use Rattle.asm_syntax.specs.code.Views.{spec_of}
use Rattle.asm_explore_texts.specs.code.TextPlaces.{elements_said}
use Rattle.asm_graph.specs.Arrows.{given_text}
use Rattle.asm_graph.proofs.arrows.push_elements.Given as goal

-- the elements so far are written
abbrev pub invariant-loop-k : goal.invariant-loop-k
invariant-loop-k l = l.label.items ≡ l.fn.label.items ++ join_by (given_text (spec_of l.checked.spec)) (codes ", ") (take l.k (elements_said l.variables l.elements))
