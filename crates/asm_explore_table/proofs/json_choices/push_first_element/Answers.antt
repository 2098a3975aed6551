use Rattle.std.proofs.Common.{◌<◌, ◌++◌, ap, arith, length, map}
use Rattle.asm_syntax.specs.code.Views.{spec_of}
use Rattle.asm_explore_table.specs.JsonRows.{element_member, unhidden}
use Rattle.asm_explore_table.specs.JsonTexts.{member_text}
use Rattle.asm_explore_table.specs.code.JsonParts.{listed_from}
use Rattle.asm_explore_table.proofs.JsonElements.{none_first}
use Rattle.asm_explore_table.proofs.json_choices.push_first_element.Goals as goal

pub returns-in_default-elements : goal.returns-in_default-elements
returns-in_default-elements c =
    let few : length c.args.elements.now < 1 = omega arith in
    ap (λ es. c.args.out.now.items ++ listed_from member_text c.args.is_first (map (element_member (spec_of c.args.checked.now.spec)) (unhidden es))) (none_first c.args.variables.now c.args.elements.now few)
