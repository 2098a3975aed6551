-- Free. Files that are made.
--     makes_none      the files that are known to be made stay as they are
use Rattle.std.proofs.Common.{[], List, Option, None, Some, append-nil, sym}
use Rattle.asm_explore_all.specs.MadeFiles.{MadeFile, Makes}

pub makes_none : (known : Option (List MadeFile)) → Makes known known []
makes_none None = tt
makes_none (Some files) = sym (append-nil files)
