use Rattle.asm_explore_table.proofs.step_row.step_row.Goals as goal

pub returns-clause-state : goal.returns-clause-state
returns-clause-state g c = (c.next_of-next.ensures _ _ _ c.requires.state c.in_ok-made.ensures).0
