use Rattle.asm_striped.proofs.BoardLaws.{rule_laws}
use Rattle.asm_striped.proofs.laws.BoardShowsLogs.rule_laws.Goals as goal

pub returns : goal.returns
returns c = rule_laws
