use Rattle.asm_syntax.specs.code.Views.{spec_of}
use Rattle.asm_explore_texts.specs.Conditions.{texts_of}
use Rattle.asm_explore_texts.specs.code.CodedConditions.{terms_in}
use Rattle.asm_explore_run.proofs.FirstBroken.{found_of}
use Rattle.asm_explore_run.proofs.asked_end.broken_of.Goals as goal

pub returns-clause-found : goal.returns-clause-found
returns-clause-found c =
    let s = spec_of c.args.checked.now.spec in
    let texts = texts_of c.args.conditions.now in
    let settings = c.args.settings.now in
    let joined = c.in_ok-always.ensures.found in
    let asked = c.all_asked_law.ensures texts c.args.checked.now c.in_ok-always.always joined in
    let broken = c.in_ok-broken in (
      terms_in joined.links,
      asked.each,
      found_of s texts settings.turns c.args.script.now settings.steps (terms_in joined.links) broken.broken (broken.ensures.some joined.links joined.joined) (broken.ensures.none joined.links joined.joined),
    )
