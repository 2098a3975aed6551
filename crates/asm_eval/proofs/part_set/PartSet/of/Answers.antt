use Rattle.std.proofs.Common.{sym, ◌∙◌}
use Rattle.std.proofs.lemmas.Bool.{false≢true}
use Rattle.asm_updates.specs.code.Faults.{fault_of}
use Rattle.asm_eval.proofs.SequenceLaws.{first_is_fault}
use Rattle.asm_eval.proofs.part_set.PartSet.of.Goals as goal

pub returns-then-is_empty : goal.returns-then-is_empty
returns-then-is_empty c U stands = (c.is_empty.ensures.empty c.args.signature.now U stands).0 c.if-is_empty.true

pub returns-in-Some : goal.returns-in-Some
returns-in-Some c U stands = first_is_fault U (fault_of c.args.signature.now c.in-Some.field-0) (c.in-Some.ensures.first U stands)

pub returns-in-None : goal.returns-in-None
returns-in-None c U stands = (
  λ is. false≢true (sym c.if-is_empty.false ∙ (c.is_empty.ensures.empty c.args.signature.now U stands).1 is),
  c.in-None.ensures.consistent U stands,
)
