use Rattle.std.proofs.Common.{refl}
use Rattle.asm_explore_table.specs.Pages.{opening}
use Rattle.asm_explore_table.proofs.page_words.opening.Goals as goal

pub returns : goal.returns
unfolding opening
returns c = refl
