use Rattle.asm_graph.proofs.build_graph.Walk.new_node.Goals as goal

pub returns-clause-kept : goal.returns-clause-kept
returns-clause-kept c = record {
  kept = c.requires.kept;
  led = c.requires.led;
  is_right = c.is_right-right.ensures;
  is_rest = c.may_rest-rests.ensures;
  hashed = c.hash_of-hash.ensures;
}
