use Rattle.asm_reader.proofs.ScriptLemmas.EachScript.{script_or_a_refusal}
use Rattle.asm_reader.proofs.laws.script_or_a_refusal.Goals as goal

pub returns : goal.returns
returns c = script_or_a_refusal
