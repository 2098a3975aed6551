use denote.Ref.{NamedLft}
use denote.Param.Send.{sendable}
use mir.Syntax.{erased}
use Rattle.std.proofs.Common.{◌≡◌, List, [], All, map, length, sym, subst, arith}
use Rattle.std.specs.Prelude.{IfNone}
use Rattle.asm_eval.specs.code.Evaluation.{evaluation_shape}
use Rattle.asm_eval.specs.code.Pieces.{IsPiece}
use Rattle.asm_eval.specs.declared.piece.Piece.{Piece}
use Rattle.asm_run.specs.code.Hands.{TakesHand}
use Rattle.asm_run.specs.code.Rounds.{IsRound, outs_of, new_pieces, count_instances}
use Rattle.asm_run.proofs.RoundLemmas.SharedRounds.{job_shared, out_sent}
use Rattle.asm_run.proofs.RoundLemmas.RoundLaw.{new_are_pieces, nothing_left, round_law, same_parts}
use Rattle.asm_run.proofs.rounds.work_round.Goals as goal

pub work_by-requires-send-O : goal.work_by-requires-send-O
work_by-requires-send-O g c κs within =
    let e = c.views_and_pieces_are_shared.ensures in
    search (sendable, out_sent, e.sent) depth 20

pub work_by-requires-sync-J : goal.work_by-requires-sync-J
work_by-requires-sync-J g c κs within =
    let e = c.views_and_pieces_are_shared.ensures in
    let l : NamedLft = record { mir = erased; lft = κs.1.1.1.1.0 } in
    let job = job_shared l _ _ (e.views _) (e.pieces _) c.striped_is_shared.ensures c.type_bounds.sync-P in
    record { shared = job.shared }

pub returns-clause-pieces : goal.returns-clause-pieces
returns-clause-pieces g c =
    let a = c.args in
    let at = a.region.now.evaluation.now in
    let worked = c.in_ok-worked.worked in
    let long : length worked.outs.items ≡ length a.pieces.now = omega (arith, c.in_ok-worked.ensures.work.len.0, worked.outs.ok) in
    subst (λ (ps : List Piece). All (IsPiece (evaluation_shape at)) ps) (sym c.in_ok-all.ensures.next)
    (new_are_pieces at (evaluation_shape at) (TakesHand (evaluation_shape at) a.region.now.striped.now.table) a.cut _ a.pieces.now worked.outs.items long
    c.in_ok-all.ensures.ok c.in_ok-worked.ensures.work.outs)

pub returns-clause-whole : goal.returns-clause-whole
returns-clause-whole g c =
    let a = c.args in
    let at = a.region.now.evaluation.now in
    let worked = c.in_ok-worked.worked in
    let long : length worked.outs.items ≡ length a.pieces.now = omega (arith, c.in_ok-worked.ensures.work.len.0, worked.outs.ok) in
    subst (λ (ps : List Piece). IfNone a.cut (ps ≡ [])) (sym c.in_ok-all.ensures.next)
    (nothing_left at (evaluation_shape at) (TakesHand (evaluation_shape at) a.region.now.striped.now.table) a.cut _ a.pieces.now worked.outs.items long
    c.in_ok-all.ensures.ok c.in_ok-worked.ensures.work.outs)

pub returns-clause-parts : goal.returns-clause-parts
returns-clause-parts g c =
    let a = c.args in
    let at = a.region.now.evaluation.now in
    let worked = c.in_ok-worked.worked in
    let long : length worked.outs.items ≡ length a.pieces.now = omega (arith, c.in_ok-worked.ensures.work.len.0, worked.outs.ok) in
    same_parts at (evaluation_shape at) (TakesHand (evaluation_shape at) a.region.now.striped.now.table) a.cut _ a.pieces.now worked.outs.items long
    c.in_ok-all.ensures.ok c.in_ok-worked.ensures.work.outs a.so_far.hands.items worked.hands.items (map (λ list. list.items) worked.lists.items) c.in_ok-worked.ensures.work.hands

pub returns-clause-holds : goal.returns-clause-holds
returns-clause-holds g c o held =
    let a = c.args in
    let at = a.region.now.evaluation.now in
    let worked = c.in_ok-worked.worked in
    let outs = worked.outs.items in
    let all = c.in_ok-all.all in
    let long : length outs ≡ length a.pieces.now = omega (arith, c.in_ok-worked.ensures.work.len.0, worked.outs.ok) in
    let law = round_law at (evaluation_shape at) (TakesHand (evaluation_shape at) a.region.now.striped.now.table) a.cut _ a.pieces.now outs long
    c.in_ok-all.ensures.ok c.in_ok-worked.ensures.work.outs o a.so_far.hands.items worked.hands.items (map (λ list. list.items) worked.lists.items)
    a.so_far.instances a.so_far.exhausted c.in_ok-worked.ensures.work.once c.in_ok-worked.ensures.work.hands held in
    subst (λ ps. IsRound at (evaluation_shape at) o a.pieces.now ps worked.hands.items all.instances all.exhausted) (sym c.in_ok-all.ensures.next)
    (subst (λ n. IsRound at (evaluation_shape at) o a.pieces.now (new_pieces (outs_of outs)) worked.hands.items n all.exhausted) (sym c.in_ok-all.ensures.instances)
    (subst (λ m. IsRound at (evaluation_shape at) o a.pieces.now (new_pieces (outs_of outs)) worked.hands.items (count_instances a.so_far.instances (outs_of outs)) m) (sym c.in_ok-all.ensures.exhausted) law))
