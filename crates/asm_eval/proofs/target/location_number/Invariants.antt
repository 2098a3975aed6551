use Rattle.std.proofs.Common.{◌≡◌, length, map, take}
use Rattle.asm_eval.specs.code.Frames.{code_value}
use Rattle.asm_eval.proofs.target.location_number.Given as goal

abbrev pub invariant-loop-i : goal.invariant-loop-i
invariant-loop-i l = record {
  valued : take l.i l.values ≡ map (code_value l.view l.frame) (take l.i l.arguments);
  room : length l.values ≡ 4;
}

abbrev pub invariant-loop-argument : goal.invariant-loop-argument
invariant-loop-argument l = l.values.items ≡ map (code_value l.view l.frame) (take l.argument-index l.arguments)
