use Rattle.std.proofs.Common.{subst}
use Rattle.asm_explore_words.specs.WordsSaid.{AreRandomRead}
use Rattle.asm_explore_words.proofs.random_words.random_settings.Goals as goal

pub returns-clause-said : goal.returns-clause-said
returns-clause-said g c = subst (λ rows. AreRandomRead rows c.in_ok-settings.field-0) c.in_ok-given.ensures.parsed.rows c.in_ok-settings.ensures.read
