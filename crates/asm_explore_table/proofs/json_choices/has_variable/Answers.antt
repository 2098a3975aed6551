use Rattle.asm_explore_table.proofs.JsonElements.{any_of_said}
use Rattle.asm_explore_table.proofs.json_choices.has_variable.Goals as goal

pub returns : goal.returns
returns c = any_of_said c.args.name.now c.min-end.result c.args.variables.now c.args.elements.now c.min-end.ensures c.is_among.result c.is_among.ensures
