use Rattle.std.proofs.Common.{refl}
use Rattle.asm_explore_table.specs.PageStyle.{style}
use Rattle.asm_explore_table.proofs.page_style.style.Goals as goal

pub returns : goal.returns
unfolding style
returns c = refl
