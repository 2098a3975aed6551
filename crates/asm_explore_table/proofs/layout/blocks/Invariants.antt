use Rattle.std.proofs.Common.{◌≡◌, ◌⊎◌, ◌++◌, ◌∷◌, [], take}
use Rattle.std.specs.Prelude.{All}
use Rattle.std.specs.List.{flat_map}
use Rattle.asm_syntax.specs.code.Views.{spec_of}
use Rattle.asm_explore_table.specs.Tables.{HasColumn, numbers_in}
use Rattle.asm_explore_table.specs.code.Layouts.{IsLaid, reached_by}
use Rattle.asm_explore_table.specs.code.StepsMade.{AreBlocks}
use Rattle.asm_explore_table.proofs.layout.blocks.Given as goal

-- the blocks that are ended, and the one that is begun, have the first columns
abbrev pub invariant-loop-k : goal.invariant-loop-k
invariant-loop-k l =
    let s = spec_of l.checked.spec in
    record {
      all : flat_map numbers_in (l.blocks.items ++ l.begun.block ∷ []) ≡ take l.k l.columns;
      chosen : AreBlocks l.extent.chooses (l.blocks.items ++ l.begun.block ∷ []);
      laid : All (IsLaid s l.extent l.width) (l.blocks.items ++ l.begun.block ∷ []);
      reached : l.begun.reached ≡ reached_by s l.extent l.begun.block;
      filled : All HasColumn l.blocks.items;
      begins : (l.blocks.items ≡ []) ⊎ HasColumn l.begun.block;
    }
