use Rattle.std.proofs.Common.{◌≡◌, ◌<◌, List, [], ◌∷◌, Some, length, refl, ap, arith}
use Rattle.std.specs.Prelude.{slice_get}
use Rattle.asm_eval.specs.declared.piece.Piece.{Piece}
use Rattle.asm_run_tests.proofs.regions.tasks.run_first_task.Goals as goal

first : (ps : List Piece) → 0 < length ps → (p : Piece) × (slice_get ps 0 ≡ Some p)
first [] some = absurd (omega (arith, some))
first (p ∷ ps) some = (p, refl)

pub returns-clause-parts : goal.returns-clause-parts
returns-clause-parts c =
    let same = ap (λ ps. length ps) c.new-job.ensures.pieces in
    let some : 0 < length c.new-job.result.pieces.now = omega (arith, same, c.requires.pieces.1) in
    let (piece, at) = first c.new-job.result.pieces.now some in
    let kept = (c.in_ok-run.ensures.run piece at).0.grows.parts in
    let own = ap (λ s. s.parts) c.new-hand.ensures.seat in
    omega (arith, kept, own)
