use Rattle.std.proofs.Common.{◌≡◌, length}
use Rattle.asm_syntax.specs.code.Views.{item_of}
use Rattle.asm_reader.specs.code.Reading.{item_starts, item_at}
use Rattle.asm_reader.specs.code.Steps.{each_of, repeated_of}
use Rattle.asm_reader.proofs.Loops.{with_front}
use Rattle.asm_reader.proofs.parser.Parser.items.Given as goal

abbrev pub invariant-loop-self : goal.invariant-loop-self
invariant-loop-self l = record {
  read : with_front (each_of item_of l.all) (repeated_of item_starts (item_at l.fn.self.text.now l.levels) l.self.tokens.rest.now)
      ≡ with_front (each_of item_of l.initial.all) (repeated_of item_starts (item_at l.fn.self.text.now l.levels) l.initial.self.tokens.rest.now);
  text : l.self.text.now ≡ l.fn.self.text.now;
}

abbrev pub decreases-loop-self : goal.decreases-loop-self
decreases-loop-self l = length l.self.tokens.rest.now
