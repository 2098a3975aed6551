use Rattle.std.proofs.Common.{◌≡◌, ◌++◌, take}
use Rattle.asm_explore_table.specs.Pages.{escaped}
use Rattle.asm_explore_table.proofs.page_text.push_escaped.Given as goal

-- the first bytes
abbrev pub invariant-loop-byte : goal.invariant-loop-byte
invariant-loop-byte l = l.out.items ≡ l.fn.out.items ++ escaped (take l.byte-index l.text)
