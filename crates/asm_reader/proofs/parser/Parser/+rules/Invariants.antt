use Rattle.std.proofs.Common.{◌≡◌, ◌+◌, ◌*◌, length}
use Rattle.asm_syntax.specs.code.Views.{rule_of}
use Rattle.asm_reader.specs.code.RuleReading.{rule_starts, rule_at}
use Rattle.asm_reader.specs.code.Steps.{each_of, repeated_of}
use Rattle.asm_reader.proofs.Loops.{with_front}
use Rattle.asm_reader.proofs.parser.Parser.+rules.Given as goal

abbrev pub decreases-par : goal.decreases-par
decreases-par l = l.levels * 8

abbrev pub decreases-seq : goal.decreases-seq
decreases-seq l = l.levels * 8

abbrev pub decreases-conditional : goal.decreases-conditional
decreases-conditional l = l.levels * 8

abbrev pub decreases-let_rule : goal.decreases-let_rule
decreases-let_rule l = l.levels * 8

abbrev pub decreases-forall : goal.decreases-forall
decreases-forall l = l.levels * 8

abbrev pub decreases-choose : goal.decreases-choose
decreases-choose l = l.levels * 8

abbrev pub decreases-iterate : goal.decreases-iterate
decreases-iterate l = l.levels * 8

abbrev pub decreases-while_rule : goal.decreases-while_rule
decreases-while_rule l = l.levels * 8

abbrev pub decreases-block : goal.decreases-block
decreases-block l = l.levels * 8 + 1

abbrev pub decreases-rule : goal.decreases-rule
decreases-rule l = l.levels * 8 + 2

abbrev pub decreases-several : goal.decreases-several
decreases-several l = l.levels * 8 + 3

abbrev pub decreases-boxed : goal.decreases-boxed
decreases-boxed l = l.levels * 8 + 3

abbrev pub decreases-body : goal.decreases-body
decreases-body l = l.levels * 8 + 4

abbrev pub decreases-branch : goal.decreases-branch
decreases-branch l = l.levels * 8 + 4

abbrev pub decreases-last_branch : goal.decreases-last_branch
decreases-last_branch l = l.levels * 8 + 5

abbrev pub invariant-several-loop-self : goal.invariant-several-loop-self
invariant-several-loop-self l = record {
  read : with_front (each_of rule_of l.all) (repeated_of rule_starts (rule_at l.fn.self.text.now l.levels) l.self.tokens.rest.now)
      ≡ with_front (each_of rule_of l.initial.all) (repeated_of rule_starts (rule_at l.fn.self.text.now l.levels) l.initial.self.tokens.rest.now);
  text : l.self.text.now ≡ l.fn.self.text.now;
}

abbrev pub decreases-several-loop-self : goal.decreases-several-loop-self
decreases-several-loop-self l = length l.self.tokens.rest.now
