use Rattle.std.proofs.Common.{◌≡◌, ◌++◌, drop}
use Rattle.std.specs.List.{flat_map}
use Rattle.std.specs.Prelude.{codes}
use Rattle.asm_explore_because.specs.code.CodedParts.{texts_of}
use Rattle.asm_explore_because.proofs.line.push_each.Given as goal

abbrev pub invariant-loop-text : goal.invariant-loop-text
invariant-loop-text l =
    l.line.items ++ flat_map (λ text. codes ", " ++ text) (texts_of (drop l.text-index l.texts)) ≡ l.fn.line.items ++ flat_map (λ text. codes ", " ++ text) (texts_of l.texts)
