use Rattle.std.proofs.Common.{◌≡◌, ◌∷◌, [], false}
use Rattle.std.specs.Prelude.{◌&&◌}
use Rattle.std.specs.List.{list_any, range_with_len}
use Rattle.asm_state.specs.Updates.{is_proper}
use Rattle.asm_syntax.specs.code.Views.{spec_of}
use Rattle.asm_explore_table.specs.Tables.{is_named, numbered}
use Rattle.asm_explore_table.proofs.names.is_known.Given as goal

-- none of the first locations has the name
abbrev pub invariant-loop-n : goal.invariant-loop-n
invariant-loop-n l =
    let s = spec_of l.checked.spec in
    list_any (λ n. let x = numbered s n in is_proper x && is_named s (l.name ∷ []) x) (range_with_len 0 l.n) ≡ false
