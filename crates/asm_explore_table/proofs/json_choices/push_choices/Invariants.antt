use Rattle.std.proofs.Common.{◌≡◌, ◌++◌, drop, map, nat_eq}
use Rattle.std.specs.Prelude.{codes}
use Rattle.std.specs.List.{join_by}
use Rattle.asm_syntax.specs.code.Views.{spec_of}
use Rattle.asm_explore.specs.RunChoices.{asked_said}
use Rattle.asm_explore_table.specs.JsonRows.{choice_json}
use Rattle.asm_explore_table.specs.code.JsonParts.{listed_from}
use Rattle.asm_explore_table.proofs.json_choices.push_choices.Given as goal

-- with the other choices the list is whole
abbrev pub invariant-loop-k : goal.invariant-loop-k
invariant-loop-k l =
    let s = spec_of l.checked.spec in
    l.out.items ++ listed_from (choice_json s) (nat_eq l.k 0) (map asked_said (drop l.k l.asked))
    ≡ (l.fn.out.items ++ codes "[") ++ join_by (choice_json s) (codes ",") (map asked_said l.asked)
