use Rattle.std.proofs.Common.{subst}
use Rattle.asm_explore_tool.specs.GivenTexts.{AreAlwaysGiven}
use Rattle.asm_explore_tool.proofs.given_texts.conditions.Goals as goal

pub returns-clause-given : goal.returns-clause-given
returns-clause-given g c =
    let settings = c.args.settings.now in
    let contents = g.F.Folder.contents c.args.folder.now in
    let always = c.in_ok-always.always.items in
    record {
      always = subst (λ names. AreAlwaysGiven contents settings.always.items names always) c.as_slice.ensures.value
          (subst (λ words. AreAlwaysGiven contents words c.as_slice.result.now always) c.as_slice-words.ensures.value c.in_ok-always.ensures.given);
      when_quiet = c.in_ok-when_quiet.ensures.text;
      within = c.in_ok-within.ensures.text;
      quiet_source = c.in_ok-when_quiet.ensures.source;
      within_source = c.in_ok-within.ensures.source;
    }
