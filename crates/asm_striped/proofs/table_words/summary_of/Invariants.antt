use Rattle.std.specs.Mem.Slots.{slots_items}
use Rattle.asm_state.specs.Signature.{Shape}
use Rattle.asm_updates.specs.code.Stands.{MarksFaults}
use Rattle.asm_striped.proofs.FilledSummaries.{IsFilled}
use Rattle.asm_striped.proofs.table_words.summary_of.Given as goal

abbrev pub invariant-loop-n : goal.invariant-loop-n
invariant-loop-n l = record {
  filled : IsFilled (slots_items l.closed.words) l.n l.count l.summary;
  marks : (shape : Shape) → MarksFaults shape l.summary;
}
