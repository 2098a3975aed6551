use Rattle.std.proofs.Common.{◌≡◌, ◌++◌, map, drop}
use Rattle.asm_syntax.specs.code.Views.{name_of}
use Rattle.asm_explore_hints.specs.code.DeclaredNames.{seen_of}
use Rattle.asm_explore_hints.specs.declared.declarations.Meaning.TheVariants.{Element}
use Rattle.asm_explore_hints.proofs.declarations.push_elements.Given as goal

-- the elements so far, and those that are left
abbrev pub invariant-loop-name : goal.invariant-loop-name
invariant-loop-name l =
    map seen_of l.all.items ++ map (λ y. (name_of y, Element)) (drop l.name-index l.elements) ≡ map seen_of l.fn.all.items ++ map (λ y. (name_of y, Element)) l.elements
