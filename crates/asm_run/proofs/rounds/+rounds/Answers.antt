use Rattle.std.proofs.Common.{◌≡◌, List, [], ◌∷◌, length, refl, subst, arith, rules}
use Rattle.std.proofs.lemmas.Result.{IfOk-weaker}
use Rattle.asm_meaning.specs.Does.{both}
use Rattle.asm_eval.specs.code.Evaluation.{evaluation_shape}
use Rattle.asm_eval.specs.code.OpenedPieces.{pieces_yield}
use Rattle.asm_eval.specs.declared.piece.Piece.{Piece}
use Rattle.asm_run.specs.code.Rounds.{Holds}
use Rattle.asm_run.proofs.RoundLemmas.RoundLaw.{held_before_none, held_through}
use Rattle.asm_run.proofs.rounds.+rounds.Goals as goal

empty_from : (ps : List Piece) → length ps ≡ 0 → ps ≡ []
empty_from [] none = refl
empty_from (p ∷ ps) none = absurd (omega (arith, none))

pub returns-then-is_empty-clause-holds : goal.returns-then-is_empty-clause-holds
returns-then-is_empty-clause-holds g t c o held =
    let a = c.args in
    let at = a.region.now.evaluation.now in
    held_before_none at (evaluation_shape at) o a.pieces.now a.so_far.hands.items a.so_far.instances a.so_far.exhausted (empty_from a.pieces.now (search rules)) held

pub returns-then-left-eq0-clause-holds : goal.returns-then-left-eq0-clause-holds
returns-then-left-eq0-clause-holds g t c o held =
    let a = c.args in
    let at = a.region.now.evaluation.now in
    let shape = evaluation_shape at in
    let last = c.in_ok-last.last in
    let h = last.so_far.hands.items in
    let n = last.so_far.instances in
    let p = last.so_far.exhausted in
    held_through at shape o a.pieces.now last.next.items h h n n p p (c.in_ok-last.ensures.holds o held)
    (λ q before. held_before_none at shape q last.next.items h n p c.in_ok-last.ensures.whole before)

pub returns-clause-holds : goal.returns-clause-holds
returns-clause-holds g t c =
    let a = c.args in
    let at = a.region.now.evaluation.now in
    let shape = evaluation_shape at in
    let round = c.in_ok-next.field-0 in
    let h = round.so_far.hands.items in
    let n = round.so_far.instances in
    let p = round.so_far.exhausted in
    IfOk-weaker c.work_rounds.result _ _ (λ r behind o held.
    held_through at shape o a.pieces.now round.next.items h r.hands.items n r.instances p r.exhausted (c.in_ok-next.ensures.holds o held)
    (λ q before. subst (λ ps. Holds shape (both q (pieces_yield at ps)) r.hands.items r.instances r.exhausted) c.as_slice.ensures.value (behind q before)))
    c.work_rounds.ensures.holds
