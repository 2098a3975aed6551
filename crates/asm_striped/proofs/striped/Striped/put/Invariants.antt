use Rattle.asm_striped.specs.code.Log.{put_of}
use Rattle.asm_striped.proofs.striped.Striped.put.Given as goal

abbrev pub ghosts-put_entry : goal.ghosts-put_entry
ghosts-put_entry a = record { put = put_of a.task a.n a.low a.high }

-- a put that waited, as for a lock, would need a measure here,
-- and there is none that falls
