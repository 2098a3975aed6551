use Rattle.std.proofs.Common.{refl}
use Rattle.asm_syntax.specs.code.ViewCases.{rule_of-SetResult}
use Rattle.asm_reader.specs.code.RuleReading.{result_rule_at}
use Rattle.asm_reader.proofs.parser.Parser.result_rule.Goals as goal

pub returns : goal.returns
unfolding result_rule_at
returns c =
    let value = rw c.in_ok-name.ensures.text at c.in_ok-value.ensures.read in record {
      read = rw (c.in_ok-name.ensures.read, value) (rw (rule_of-SetResult c.in_ok-name.name c.in_ok-value.value) refl);
      text = cc;
    }
