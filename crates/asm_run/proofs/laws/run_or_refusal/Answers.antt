use Rattle.asm_run.proofs.RunOrRefusal.{run_or_refusal}
use Rattle.asm_run.proofs.laws.run_or_refusal.Goals as goal

pub returns : goal.returns
returns c = run_or_refusal c.tree_or_a_refusal.ensures c.least_exists.ensures c.script_or_a_refusal.ensures
