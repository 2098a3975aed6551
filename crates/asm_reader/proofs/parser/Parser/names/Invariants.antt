use Rattle.std.proofs.Common.{◌≡◌, length}
use Rattle.asm_syntax.specs.code.Views.{name_of}
use Rattle.asm_reader.specs.code.TermReading.{name_at}
use Rattle.asm_reader.proofs.Separated.{so_far}
use Rattle.asm_reader.proofs.parser.Parser.names.Given as goal

abbrev pub invariant-loop-between : goal.invariant-loop-between
invariant-loop-between l = record {
  read : so_far name_of l.between (name_at l.fn.self.text.now) l.all.items l.self.tokens.rest.now
      ≡ so_far name_of l.between (name_at l.fn.self.text.now) l.initial.all.items l.initial.self.tokens.rest.now;
  text : l.self.text.now ≡ l.fn.self.text.now;
}

abbrev pub decreases-loop-between : goal.decreases-loop-between
decreases-loop-between l = length l.self.tokens.rest.now
