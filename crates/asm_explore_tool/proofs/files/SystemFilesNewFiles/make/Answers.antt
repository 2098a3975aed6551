use Rattle.std.proofs.Common.{[], inl, refl}
use Rattle.asm_explore_tool.proofs.OutputBytes.{on_err}
use Rattle.asm_explore_tool.proofs.files.SystemFilesNewFiles.make.Goals as goal

pub returns-in_err-file-clause-stopped : goal.returns-in_err-file-clause-stopped
returns-in_err-file-clause-stopped g c =
    on_err c.from_residual.result _ (record { before = []; file = (c.args.name.now, c.args.bytes.now); others = []; split = refl; named = refl; made = inl tt })

pub returns-clause-stopped : goal.returns-clause-stopped
returns-clause-stopped g c =
    on_err c.write_whole.result _ (record { before = []; file = (c.args.name.now, c.args.bytes.now); others = []; split = refl; named = refl; made = inl tt })
