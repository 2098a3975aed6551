-- Definition. Scripts whose lines are all for one step each.
--     exactly lines      the script with these lines, and with none for every step
use Rattle.std.specs.Prelude.{List, []}
use Rattle.asm_reader.specs.ScriptLines.{Line, Script}

abbrev pub exactly : List Line → Script
exactly lines = record { exact = lines; every = [] }
