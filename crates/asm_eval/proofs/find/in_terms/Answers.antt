use Rattle.asm_eval.proofs.find.in_terms.Goals as goal

pub returns-in_default-clause-sound : goal.returns-in_default-clause-sound
returns-in_default-clause-sound c = λ shape answered sound framed. c.named_at.ensures.sound shape sound framed

pub returns-clause-sound : goal.returns-clause-sound
returns-clause-sound c = λ shape answered sound framed. c.named_at-2.ensures.sound shape sound framed
