use Rattle.std.proofs.Common.{◌≡◌, ◌++◌, ℕ, List, drop, map, nat_eq}
use Rattle.std.specs.Prelude.{codes}
use Rattle.std.specs.List.{join_by}
use Rattle.asm_state.specs.Signature.{state_of}
use Rattle.asm_syntax.specs.code.Views.{spec_of}
use Rattle.asm_check.specs.Shapes.{shape_of}
use Rattle.asm_explore_table.specs.JsonRows.{location_member}
use Rattle.asm_explore_table.specs.JsonTexts.{member_text}
use Rattle.asm_explore_table.specs.code.JsonParts.{listed_from, locations_in}
use Rattle.asm_explore_table.specs.declared.json_state.JsonColumn.{JsonColumn}
use Rattle.asm_explore_table.proofs.json_state.push_state.Given as goal

-- with the values of the other columns the object is whole
abbrev pub invariant-loop-k : goal.invariant-loop-k
invariant-loop-k l =
    let s = spec_of l.checked.spec in
    let member : JsonColumn → List ℕ × List ℕ = λ c. location_member s (state_of (shape_of s) l.state) c.location in
    l.out.items ++ listed_from member_text (nat_eq l.k 0) (map member (drop l.k l.columns))
    ≡ (l.fn.out.items ++ codes "{") ++ join_by member_text (codes ",") (map (location_member s (state_of (shape_of s) l.state)) (locations_in l.columns))
