-- Definition. What a sink over a writer shows.
use Rattle.std.specs.Prelude.{Bool}
use Rattle.asm_run.specs.declared.through.Through.{Through}

-- the writer that the bytes go to
abbrev pub writer_of : {W : Type 0} → Through W → W
writer_of t = t.writer

-- whether a write has failed
abbrev pub writer_has_failed : {W : Type 0} → Through W → Bool
writer_has_failed t = t.has_failed
