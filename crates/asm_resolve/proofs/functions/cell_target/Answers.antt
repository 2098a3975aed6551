use Rattle.asm_resolve.proofs.TargetLocations.{cell_located}
use Rattle.asm_resolve.proofs.functions.cell_target.Goals as goal

pub returns-then-is_single : goal.returns-then-is_single
returns-then-is_single c = cell_located c.args.signature.now c.args.f c.requires.fits (c.is_single.ensures c.if-is_single.true) c.first.result c.first.ensures
