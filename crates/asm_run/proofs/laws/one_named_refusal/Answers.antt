use Rattle.asm_run.proofs.Exclusion.{once}
use Rattle.asm_run.proofs.laws.one_named_refusal.Goals as goal

pub returns : goal.returns
returns c = once c.one_tree.ensures c.no_tree_beside_a_refusal.ensures c.no_script_beside_a_refusal.ensures c.one_refusal.ensures c.least_is_only.ensures c.one_script_refusal.ensures
