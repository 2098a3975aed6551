use Rattle.std.proofs.Common.{◌≡◌, length}
use Rattle.asm_syntax.specs.declared.token.Kind.TheVariants.{Symbol}
use Rattle.asm_syntax.specs.declared.token.Symbol.TheVariants.{Comma}
use Rattle.asm_syntax.specs.code.Views.{entry_of}
use Rattle.asm_reader.specs.code.Reading.{entry_at}
use Rattle.asm_reader.proofs.Separated.{so_far}
use Rattle.asm_reader.proofs.parser.Parser.entries.Given as goal

abbrev pub invariant-loop-self : goal.invariant-loop-self
invariant-loop-self l = record {
  read : so_far entry_of (Symbol Comma) (entry_at l.fn.self.text.now l.levels) l.all.items l.self.tokens.rest.now
      ≡ so_far entry_of (Symbol Comma) (entry_at l.fn.self.text.now l.levels) l.initial.all.items l.initial.self.tokens.rest.now;
  text : l.self.text.now ≡ l.fn.self.text.now;
}

abbrev pub decreases-loop-self : goal.decreases-loop-self
decreases-loop-self l = length l.self.tokens.rest.now
