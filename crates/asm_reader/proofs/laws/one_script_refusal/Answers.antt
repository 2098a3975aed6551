use Rattle.asm_reader.proofs.ScriptLemmas.FirstFaults.{one_script_refusal}
use Rattle.asm_reader.proofs.laws.one_script_refusal.Goals as goal

pub returns : goal.returns
returns c = one_script_refusal
