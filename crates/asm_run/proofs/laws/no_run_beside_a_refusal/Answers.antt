use Rattle.asm_run.proofs.Exclusion.{excludes}
use Rattle.asm_run.proofs.laws.no_run_beside_a_refusal.Goals as goal

pub returns : goal.returns
returns c = excludes c.one_tree.ensures c.no_tree_beside_a_refusal.ensures c.no_script_beside_a_refusal.ensures
