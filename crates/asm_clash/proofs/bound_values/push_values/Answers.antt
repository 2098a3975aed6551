use Rattle.asm_clash.proofs.bound_values.push_values.Goals as goal

pub value-requires-clause-sound : goal.value-requires-clause-sound
value-requires-clause-sound c =
    let l = c.loop-i in
    c.member_laws.ensures.codes c.args.view.now.signature.now c.args.terms.now l.i c.index-terms-i.result c.loop-i-test.true c.index-terms-i.is c.requires.sound
