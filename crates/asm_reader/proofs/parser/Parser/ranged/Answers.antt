use Rattle.std.proofs.Common.{refl}
use Rattle.asm_reader.specs.code.TermReading.{term_at}
use Rattle.asm_reader.proofs.TermSteps.{below_less}
use Rattle.asm_reader.proofs.parser.Parser.ranged.Goals as goal

pub returns-clause-parsed : goal.returns-clause-parsed
returns-clause-parsed c =
    let test = rw c.in_ok-names.ensures.text at c.in_ok-test.ensures.read in record {
      read = rw (below_less (term_at c.args.self.now.text.now) c.args.levels c.in_ok-enter.ensures.left, c.in_ok-enter.ensures.read, c.in_ok-names.ensures.read, test, c.in_ok-expect.ensures.read) refl;
      text = cc;
    }
