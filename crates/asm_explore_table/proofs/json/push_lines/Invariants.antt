use Rattle.std.proofs.Common.{◌≡◌, ◌++◌, drop, nat_eq}
use Rattle.std.specs.Prelude.{codes}
use Rattle.std.specs.List.{join_by}
use Rattle.asm_explore_texts.specs.Comments.{lines_of}
use Rattle.asm_explore_table.specs.JsonTexts.{string_text}
use Rattle.asm_explore_table.specs.code.JsonParts.{listed_from}
use Rattle.asm_explore_table.proofs.json.push_lines.Given as goal

-- with the other lines the list is whole
abbrev pub invariant-loop-k : goal.invariant-loop-k
invariant-loop-k l =
    l.out.items ++ listed_from string_text (nat_eq l.k 0) (lines_of (drop l.k l.lines)) ≡ (l.fn.out.items ++ codes "[") ++ join_by string_text (codes ",") (lines_of l.lines)
