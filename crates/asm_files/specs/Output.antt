-- Definition. What a clause reads of an output.
--     output_bytes contents o    the writer's bytes and those that are kept back, where known
--     output_has_failed o        whether a write to it has failed, or what it kept back could not be
--                                handed on
use Rattle.std.specs.Prelude.{ℕ, Bool, List, Option}
use Rattle.std.specs.Io.Buffered.{writer_contents}
use Rattle.asm_files.specs.declared.output.Output.{Output}

abbrev pub output_bytes : {W : Type 0} → (W → Option (List ℕ)) → Output W → Option (List ℕ)
output_bytes contents o = writer_contents contents o.writer

abbrev pub output_has_failed : {W : Type 0} → Output W → Bool
output_has_failed o = o.has_failed
