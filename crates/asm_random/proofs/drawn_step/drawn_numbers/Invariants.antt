use Rattle.std.proofs.Common.{◌≡◌, ℕ, List, take, unwrap_or}
use Rattle.asm_reader.specs.ScriptLines.{exact_choice}
use Rattle.asm_explore.specs.code.AskedPieces.{all_said}
use Rattle.asm_random.specs.code.Drafts.{lines_in}
use Rattle.asm_random.proofs.RedrawnLines.{lines_by}
use Rattle.asm_random.proofs.drawn_step.drawn_numbers.Given as goal

abbrev pub invariant-loop-k : goal.invariant-loop-k
invariant-loop-k l =
    let s = l.fn.source in
    let step = l.fn.step in
    (p : List ℕ)
    → unwrap_or (exact_choice (lines_in step l.numbers.entries) step p) 0 ≡ unwrap_or (exact_choice (lines_by s.seed s.run step (all_said (take l.k l.fn.asked))) step p) 0
