use Rattle.std.proofs.Common.{◌≡◌, take}
use Rattle.std.specs.Prelude.{All}
use Rattle.asm_syntax.specs.code.Views.{spec_of}
use Rattle.asm_explore_table.specs.code.JsonParts.{IsKeyed, locations_in}
use Rattle.asm_explore_table.proofs.json_state.json_columns.Given as goal

-- those of the first locations
abbrev pub invariant-loop-k : goal.invariant-loop-k
invariant-loop-k l =
    record {
      keyed : All (IsKeyed (spec_of l.checked.spec)) l.columns.items;
      locations : locations_in l.columns.items ≡ take l.k l.shown;
    }
