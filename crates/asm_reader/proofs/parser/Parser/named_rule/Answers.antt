use Rattle.std.proofs.Common.{sym}
use Rattle.std.proofs.lemmas.Result.{err_from_is_err_and}
use Rattle.asm_syntax.specs.code.ViewCases.{rule_of-Assign}
use Rattle.asm_syntax.specs.code.Views.{term_of}
use Rattle.asm_reader.specs.code.ViewsOfParts.{applied_of}
use Rattle.asm_reader.specs.code.Steps.{below}
use Rattle.asm_reader.specs.code.TermReading.{term_at}
use Rattle.asm_reader.specs.code.RuleReading.{rule_at}
use Rattle.asm_reader.proofs.RuleSteps.{assignment_is, value_fails}
use Rattle.asm_reader.proofs.parser.Parser.named_rule.Goals as goal

pub returns-in_err-value : goal.returns-in_err-value
returns-in_err-value c =
    let p = err_from_is_err_and c.from_residual-in_err-value.result c.from_residual-in_err-value.ensures.1 in
    let old = c.args.self.now in record {
      read = rw (p.1, p.2) (λ reason is.
          let value = rw c.in_ok-first.ensures.text at (c.in_err-value.ensures.read reason is) in
          value_fails old.text.now c.args.levels (below (term_at old.text.now) c.args.levels) (below (rule_at old.text.now) c.args.levels) old.tokens.rest.now c.applied.new.self.tokens.rest.now
          (applied_of c.in_ok-first.first) c.in_ok-first.ensures.read (sym c.if-sees.ensures) reason value);
      text = cc;
    }

pub returns-then-sees : goal.returns-then-sees
returns-then-sees c =
    let old = c.args.self.now in
    let value = rw c.in_ok-first.ensures.text at c.in_ok-value.ensures.read in record {
      read = rw (rule_of-Assign c.in_ok-first.first.0 c.in_ok-first.first.1 c.in_ok-value.value)
          (assignment_is old.text.now c.args.levels (below (term_at old.text.now) c.args.levels) (below (rule_at old.text.now) c.args.levels) old.tokens.rest.now c.applied.new.self.tokens.rest.now
          (applied_of c.in_ok-first.first) c.in_ok-first.ensures.read (sym c.if-sees.ensures) c.assigned.new.self.tokens.rest.now (term_of c.in_ok-value.value) value);
      text = cc;
    }
