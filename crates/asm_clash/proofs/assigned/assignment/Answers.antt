use Rattle.asm_clash.proofs.assigned.assignment.Goals as goal

pub returns : goal.returns
returns c i = record {
  path = c.in_ok-path.ensures i;
  value = c.value-value.ensures i;
  arguments = c.in_ok-arguments.ensures i;
  bound = c.in_ok-bound.ensures i;
}
