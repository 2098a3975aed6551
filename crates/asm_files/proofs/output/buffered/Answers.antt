use Rattle.std.proofs.Common.{ℕ, List, Option, None, Some, [], append-nil}
use Rattle.std.specs.Io.KnownBytes.{Keeps, append_known}
use Rattle.asm_files.proofs.output.buffered.Goals as goal

nothing_more : (o : Option (List ℕ)) → Keeps o (append_known o [])
nothing_more None = tt
nothing_more (Some xs) = append-nil xs

pub returns-in-Ok-clause-bytes : goal.returns-in-Ok-clause-bytes
returns-in-Ok-clause-bytes g c = rw (c.in-Ok.ensures.inner, c.in-Ok.ensures.empty) (nothing_more (g.W.Write.contents c.args.writer))
