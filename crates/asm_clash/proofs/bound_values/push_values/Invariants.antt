use Rattle.std.proofs.Common.{◌≡◌, ◌++◌, map, take}
use Rattle.asm_eval.specs.code.Frames.{code_value}
use Rattle.asm_clash.proofs.bound_values.push_values.Given as goal

abbrev pub invariant-loop-i : goal.invariant-loop-i
invariant-loop-i l = l.values.items ≡ l.initial.values.items ++ map (code_value l.view l.frame) (take l.i l.terms)
