use Rattle.std.proofs.Common.{◌++◌, ◌∙◌, ap}
use Rattle.asm_explore_tool.specs.GivenTexts.{file_sources}
use Rattle.asm_explore_tool.proofs.given_texts.always_given.Goals as goal

pub returns-clause-given : goal.returns-clause-given
returns-clause-given g c =
    let found = c.in_ok-all.ensures.files in
    record {
      sources = c.in_ok-all.ensures.sources ∙ ap (λ front. front ++ file_sources c.args.names.now) c.in_ok-first.ensures.sources;
      files = found.0;
      are_files = found.1;
      all = found.2 ∙ ap (λ front. front ++ found.0) c.in_ok-first.ensures.texts;
    }
