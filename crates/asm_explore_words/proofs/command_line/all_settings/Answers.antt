use Rattle.std.proofs.Common.{subst}
use Rattle.asm_explore_words.specs.WordsSaid.{AreRead}
use Rattle.asm_explore_words.proofs.command_line.all_settings.Goals as goal

pub returns-clause-read : goal.returns-clause-read
returns-clause-read g c = subst (λ rows. AreRead rows c.in_ok-settings.field-0) c.in_ok-given.ensures.parsed.rows c.in_ok-settings.ensures.read
