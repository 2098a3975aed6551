use Rattle.std.proofs.Common.{◌∙◌}
use Rattle.clap.specs.Matches.{found_of}
use Rattle.asm_explore_words.proofs.SaidWords.{odds_found}
use Rattle.asm_explore_words.proofs.show_words.forms_at_odds.Goals as goal

pub returns : goal.returns
returns c =
    c.form_odds.ensures
    ∙ odds_found (found_of c.args.given.now) c.is_set-page.result c.is_set-json.result c.is_said.result c.is_set-page.ensures c.is_set-json.ensures c.is_said.ensures
