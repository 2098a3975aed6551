use Rattle.std.proofs.Common.{◌≡◌, ◌++◌, map, drop}
use Rattle.std.specs.Prelude.{flat_map}
use Rattle.asm_syntax.specs.code.Views.{item_of}
use Rattle.asm_explore_hints.specs.code.DeclaredNames.{seen_in, seen_of}
use Rattle.asm_explore_hints.proofs.declarations.declarations.Given as goal

-- what is declared by the items so far, and by those that are left
abbrev pub invariant-loop-item : goal.invariant-loop-item
invariant-loop-item l =
    map seen_of l.all.items ++ flat_map seen_in (map item_of (drop l.item-index l.spec.items.items)) ≡ flat_map seen_in (map item_of l.spec.items.items)
