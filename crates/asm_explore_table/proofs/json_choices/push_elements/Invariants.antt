use Rattle.std.proofs.Common.{◌≡◌, ◌++◌, drop, map}
use Rattle.std.specs.Prelude.{codes}
use Rattle.std.specs.List.{join_by}
use Rattle.asm_syntax.specs.code.Views.{spec_of}
use Rattle.asm_explore_texts.specs.code.TextPlaces.{elements_said}
use Rattle.asm_explore_table.specs.JsonRows.{element_member, unhidden}
use Rattle.asm_explore_table.specs.JsonTexts.{member_text}
use Rattle.asm_explore_table.specs.code.JsonParts.{listed_from}
use Rattle.asm_explore_table.proofs.json_choices.push_elements.Given as goal

-- with the members of the other elements the object is whole
abbrev pub invariant-loop-k : goal.invariant-loop-k
invariant-loop-k l =
    let s = spec_of l.checked.spec in
    l.out.items ++ listed_from member_text l.is_first (map (element_member s) (unhidden (elements_said (drop l.k l.variables) (drop l.k l.elements))))
    ≡ (l.fn.out.items ++ codes "{") ++ join_by member_text (codes ",") (map (element_member s) (unhidden (elements_said l.variables l.elements)))
