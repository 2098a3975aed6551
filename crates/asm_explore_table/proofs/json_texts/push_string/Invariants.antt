use Rattle.std.proofs.Common.{◌≡◌, ◌++◌, take}
use Rattle.std.specs.Prelude.{codes}
use Rattle.std.specs.List.{flat_map}
use Rattle.asm_explore_table.specs.JsonTexts.{escaped}
use Rattle.asm_explore_table.proofs.json_texts.push_string.Given as goal

-- the first bytes
abbrev pub invariant-loop-k : goal.invariant-loop-k
invariant-loop-k l = l.out.items ≡ (l.fn.out.items ++ codes "\"") ++ flat_map escaped (take l.k l.text)
