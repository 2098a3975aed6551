use Rattle.std.proofs.Common.{rules, ◌<◌, ◌∙◌, ◌++◌, ◌-◌, [], length, map, ap, sym, subst, refl, arith}
use Rattle.std.specs.Prelude.{IfOk}
use Rattle.asm_state.specs.Signature.{location_at}
use Rattle.asm_state.specs.Updates.{fire}
use Rattle.asm_eval.specs.code.FormedOutcomes.{IsFormed}
use Rattle.asm_eval.specs.code.ShownViews.{shown}
use Rattle.asm_meaning.specs.Yields.{at}
use Rattle.asm_code.specs.code.RuleMeaning.{meaning}
use Rattle.asm_code.specs.code.RuleViews.{rule_of}
use Rattle.asm_eval.specs.code.Frames.{readings_of}
use Rattle.asm_eval.specs.code.Opening.{work_of}
use Rattle.asm_eval.specs.code.Evaluation.{evaluation_choices, frame_locations, evaluation_shape, evaluation_state}
use Rattle.asm_clash.specs.code.FirstFound.{IsFound}
use Rattle.asm_clash.specs.code.StandingRules.{stands_at}
use Rattle.asm_clash.proofs.ClosedRules.{assign_here, seq_here, other_here, closed_here, next_piece, pieces_here, piece_here, sound_part, size_of_part}
use Rattle.asm_clash.proofs.OpenedRules.{works_stand}
use Rattle.asm_clash.proofs.NextParts.{next_set}
use Rattle.asm_clash.proofs.Sequences.{order_end, order_goes, order_left, turns_begin, turns_end, turns_go, turns_left, walk_begins, walk_ends, walk_none, walk_off, walk_on}
use Rattle.asm_clash.proofs.standing.+walk.Goals as goal

-- ---- pieces

pub standing_in-loop-i-init : goal.standing_in-loop-i-init
standing_in-loop-i-init g t c =
    let a = c.args in
    let r = a.evaluation.now in
    let shape = evaluation_shape r in
    let l = location_at shape a.sought.now.location in
    let gs = a.sought.now.given.now in
    let pieces = c.in-Pieces.pieces in (
      [],
      c.none-all.ensures a.sought.now.most,
      (pieces_here r a.piece.now c.requires.whole _ _ c.in_ok-pieces.ensures l gs pieces c.in-Pieces.instances c.in-Pieces.is c.whole_cut-cut.ensures.whole).0
          ∙ ap (λ given. works_stand shape r.turns (evaluation_choices r) l (evaluation_state r) given (map (work_of shape) pieces.items)) (sym c.in_ok-given-in-Pieces.ensures),
    )

pub standing_in-standing_in-requires : goal.standing_in-standing_in-requires
standing_in-standing_in-requires g t c κs within =
    let a = c.args in
    let r = a.evaluation.now in
    let l = location_at (evaluation_shape r) a.sought.now.location in
    let pieces = c.in-Pieces.pieces in
    let low : c.loop-i.i < length pieces.items = omega (arith, c.loop-i-test.true, c.len-i-end.ensures, pieces.ok) in
    let one = piece_here r a.piece.now c.requires.whole _ _ c.in_ok-pieces.ensures l a.sought.now.given.now pieces c.in-Pieces.instances c.in-Pieces.is c.whole_cut-cut.ensures.whole c.loop-i.i c.index.result.now low c.index.ensures in
    (omega (arith, c.decreases, one.0), (search rules, (one.1, (one.2, c.requires.number))))

pub standing_in-loop-i-preserved : goal.standing_in-loop-i-preserved
standing_in-loop-i-preserved g t c =
    let a = c.args in
    let r = a.evaluation.now in
    let shape = evaluation_shape r in
    let l = location_at shape a.sought.now.location in
    let i = c.loop-i in
    let pieces = c.in-Pieces.pieces in
    let low : i.i < length pieces.items = omega (arith, c.loop-i-test.true, c.len-i-end.ensures, pieces.ok) in
    let whole = stands_at r l a.sought.now.given.now a.piece.now.frame a.piece.now.path (rule_of a.piece.now.rule.now) in
    let x = c.index.result.now in
    let given = c.in_ok-given-in-Pieces.given.items in
    let found = c.in_ok-found-in-Pieces.found in
    let room = a.sought.now.most - length i.all.first.items in
    let own = stands_at r l given x.frame x.path (rule_of x.rule.now) in
    let listed = stands_at r l c.as_slice.result.now x.frame x.path (rule_of x.rule.now) in
    let kept : IsFound room listed found = subst (λ k. IsFound k listed found) c.room.ensures c.in_ok-found-in-Pieces.ensures in
    let kept_own : IsFound room own found =
    subst (λ ws. IsFound room (stands_at r l ws x.frame x.path (rule_of x.rule.now)) found) c.as_slice.ensures.value kept in (
      i.invariant.0 ++ own,
      c.in_ok-append-in-Pieces.ensures a.sought.now.most i.invariant.0 own i.invariant.1 kept_own,
      next_piece r l given pieces.items a.sought.now.most whole i.invariant.0 i.i x low c.index.ensures i.invariant.2,
    )

pub standing_in-returns-in-Assign : goal.standing_in-returns-in-Assign
standing_in-returns-in-Assign g t c =
    let a = c.args in
    let r = a.evaluation.now in
    let shape = evaluation_shape r in
    let l = location_at shape a.sought.now.location in
    subst (λ xs. IfOk c.assigned.result (IsFound a.sought.now.most xs))
    (assign_here r l a.sought.now.given.now a.piece.now.frame a.piece.now.path c.as_slice-path.result.now c.as_slice-path.ensures a.piece.now.rule.now c.in-Assign.place c.in-Assign.value c.in-Assign.is)
    c.assigned.ensures

pub standing_in-returns-in-Seq : goal.standing_in-returns-in-Seq
standing_in-returns-in-Seq g t c =
    let a = c.args in
    let r = a.evaluation.now in
    let shape = evaluation_shape r in
    let l = location_at shape a.sought.now.location in
    subst (λ xs. IfOk c.standing_in_order.result (IsFound a.sought.now.most xs))
    (seq_here r l a.sought.now.given.now a.piece.now.frame a.piece.now.path c.as_slice-path.result.now c.as_slice-path.ensures a.piece.now.rule.now c.in-Seq.parts c.in-Seq.is c.as_slice-in-Seq.result.now c.as_slice-in-Seq.ensures.value)
    c.standing_in_order.ensures

pub standing_in-returns-in_default : goal.standing_in-returns-in_default
standing_in-returns-in_default g t c =
    let a = c.args in
    let r = a.evaluation.now in
    let shape = evaluation_shape r in
    let l = location_at shape a.sought.now.location in
    let closed = closed_here r a.piece.now c.requires.whole _ _ c.in_ok-pieces.ensures (c.opening_laws.ensures r) c.requires.piece c.in-Closed.is c.whole_cut-cut.ensures.some in
    subst (λ xs. IsFound a.sought.now.most xs c.none.result)
    (other_here r l a.sought.now.given.now a.piece.now.frame a.piece.now.path a.piece.now.path refl a.piece.now.rule.now closed c.in_default.not-Assign c.in_default.not-Seq c.in_default.not-Iterate)
    (c.none.ensures a.sought.now.most)

-- ---- parts in order

pub standing_in_order-loop-i-init : goal.standing_in_order-loop-i-init
standing_in_order-loop-i-init g t c =
    let a = c.args in
    let r = a.evaluation.now in
    let shape = evaluation_shape r in
    record {
      counted = c.new-so_far.ensures.count ∙ c.count.ensures.count;
      stand = [];
      kept = c.none-found.ensures a.sought.now.most;
      walked = walk_begins (order_left r a.sought.now.given.now a.frame.now a.path.now a.parts.now 0) c.new-so_far.result refl
          (c.new-so_far.ensures.empty shape c.count.ensures.sound c.count.ensures.count);
    }

pub standing_in_order-standing_next-requires : goal.standing_in_order-standing_next-requires
standing_in_order-standing_next-requires g t c κs within =
    let a = c.args in
    let l = c.loop-i in
    let small = size_of_part a.parts.now l.i c.index-parts-i.result c.loop-i-test.true c.index-parts-i.is in
    (omega (arith, c.decreases, small), (search rules, (sound_part (evaluation_shape a.evaluation.now) a.parts.now l.i c.index-parts-i.result c.loop-i-test.true c.index-parts-i.is c.requires.sound, (c.requires.framed, (c.requires.number, l.invariant.counted)))))

pub standing_in_order-returns-in_default : goal.standing_in_order-returns-in_default
standing_in_order-returns-in_default g t c =
    let a = c.args in
    let r = a.evaluation.now in
    let i = c.loop-i in
    let under = i.invariant.walked in
    let next = c.in_ok-next.ensures.next under.set i.invariant.stand under.made under.consistent i.invariant.kept in
    let goes = order_goes r a.sought.now.given.now a.frame.now a.path.now a.parts.now i.i c.index-parts-i.result (fire (evaluation_state r) under.set) c.loop-i-test.true c.index-parts-i.is in
    subst (λ xs. IsFound a.sought.now.most xs c.standing_next.new.found) (walk_none under goes c.standing_next.new.so_far _ next.1 c.in_default.not-Some) next.0

pub standing_in_order-returns-then-ends_parts : goal.standing_in_order-returns-then-ends_parts
standing_in_order-returns-then-ends_parts g t c =
    let a = c.args in
    let r = a.evaluation.now in
    let i = c.loop-i in
    let under = i.invariant.walked in
    let next = c.in_ok-next.ensures.next under.set i.invariant.stand under.made under.consistent i.invariant.kept in
    let goes = order_goes r a.sought.now.given.now a.frame.now a.path.now a.parts.now i.i c.index-parts-i.result (fire (evaluation_state r) under.set) c.loop-i-test.true c.index-parts-i.is in
    subst (λ xs. IsFound a.sought.now.most xs c.standing_next.new.found)
    (walk_off under goes c.standing_next.new.so_far _ next.1 c.in-Some.part c.in-Some.is (sym c.ends_parts.ensures ∙ c.if-ends_parts.true))
    next.0

pub standing_in_order-loop-i-preserved : goal.standing_in_order-loop-i-preserved
standing_in_order-loop-i-preserved g t c =
    let a = c.args in
    let r = a.evaluation.now in
    let i = c.loop-i in
    let under = i.invariant.walked in
    let next = c.in_ok-next.ensures.next under.set i.invariant.stand under.made under.consistent i.invariant.kept in
    let goes = order_goes r a.sought.now.given.now a.frame.now a.path.now a.parts.now i.i c.index-parts-i.result (fire (evaluation_state r) under.set) c.loop-i-test.true c.index-parts-i.is in
    record {
      counted = c.in_ok-next.ensures.count ∙ i.invariant.counted;
      stand = _;
      kept = next.0;
      walked = walk_on under goes c.standing_next.new.so_far _ next.1 c.in-Some.part c.in-Some.is (sym c.ends_parts.ensures ∙ c.if-ends_parts.false);
    }

pub standing_in_order-returns : goal.standing_in_order-returns
standing_in_order-returns g t c =
    let a = c.args in
    let r = a.evaluation.now in
    let shape = evaluation_shape r in
    let l = location_at shape a.sought.now.location in
    let i = c.loop-i in
    subst (λ xs. IsFound a.sought.now.most xs i.found)
    (walk_ends i.invariant.walked
    (order_end r a.sought.now.given.now a.frame.now a.path.now a.parts.now i.i l (fire (evaluation_state r) i.invariant.walked.set) (omega (arith, c.loop-i-test.false))))
    i.invariant.kept

-- ---- turns

pub standing_in_turns-loop-turn-init : goal.standing_in_turns-loop-turn-init
standing_in_turns-loop-turn-init g t c =
    let a = c.args in
    let r = a.evaluation.now in
    let shape = evaluation_shape r in
    record {
      counted = c.new-so_far.ensures.count ∙ c.count.ensures.count;
      stand = [];
      kept = c.none-found.ensures a.sought.now.most;
      walked = walk_begins (turns_left r a.sought.now.given.now a.frame.now a.path.now (rule_of a.body.now) 0) c.new-so_far.result
          (turns_begin r a.sought.now.given.now a.frame.now a.path.now (rule_of a.body.now) (evaluation_state r))
          (c.new-so_far.ensures.empty shape c.count.ensures.sound c.count.ensures.count);
    }

pub standing_in_turns-returns-in_default : goal.standing_in_turns-returns-in_default
standing_in_turns-returns-in_default g t c =
    let a = c.args in
    let r = a.evaluation.now in
    let i = c.loop-turn in
    let under = i.invariant.walked in
    let next = c.in_ok-next.ensures.next under.set i.invariant.stand under.made under.consistent i.invariant.kept in
    let goes = turns_go r a.sought.now.given.now a.frame.now a.path.now (rule_of a.body.now) i.turn c.from-number.result (fire (evaluation_state r) under.set) c.loop-turn-test.true c.from-number.ensures in
    subst (λ xs. IsFound a.sought.now.most xs c.standing_next.new.found) (walk_none under goes c.standing_next.new.so_far _ next.1 c.in_default.not-Some) next.0

pub standing_in_turns-returns-then-ends_turns : goal.standing_in_turns-returns-then-ends_turns
standing_in_turns-returns-then-ends_turns g t c =
    let a = c.args in
    let r = a.evaluation.now in
    let i = c.loop-turn in
    let under = i.invariant.walked in
    let next = c.in_ok-next.ensures.next under.set i.invariant.stand under.made under.consistent i.invariant.kept in
    let goes = turns_go r a.sought.now.given.now a.frame.now a.path.now (rule_of a.body.now) i.turn c.from-number.result (fire (evaluation_state r) under.set) c.loop-turn-test.true c.from-number.ensures in
    subst (λ xs. IsFound a.sought.now.most xs c.standing_next.new.found)
    (walk_off under goes c.standing_next.new.so_far _ next.1 c.in-Some.part c.in-Some.is (sym c.ends_turns.ensures ∙ c.if-ends_turns.true))
    next.0

pub standing_in_turns-loop-turn-preserved : goal.standing_in_turns-loop-turn-preserved
standing_in_turns-loop-turn-preserved g t c =
    let a = c.args in
    let r = a.evaluation.now in
    let i = c.loop-turn in
    let under = i.invariant.walked in
    let next = c.in_ok-next.ensures.next under.set i.invariant.stand under.made under.consistent i.invariant.kept in
    let goes = turns_go r a.sought.now.given.now a.frame.now a.path.now (rule_of a.body.now) i.turn c.from-number.result (fire (evaluation_state r) under.set) c.loop-turn-test.true c.from-number.ensures in
    record {
      counted = c.in_ok-next.ensures.count ∙ i.invariant.counted;
      stand = _;
      kept = next.0;
      walked = walk_on under goes c.standing_next.new.so_far _ next.1 c.in-Some.part c.in-Some.is (sym c.ends_turns.ensures ∙ c.if-ends_turns.false);
    }

pub standing_in_turns-returns : goal.standing_in_turns-returns
standing_in_turns-returns g t c =
    let a = c.args in
    let r = a.evaluation.now in
    let l = location_at (evaluation_shape r) a.sought.now.location in
    let i = c.loop-turn in
    subst (λ xs. IsFound a.sought.now.most xs i.found)
    (walk_ends i.invariant.walked (turns_end r a.sought.now.given.now a.frame.now a.path.now (rule_of a.body.now) i.turn l (fire (evaluation_state r) i.invariant.walked.set) (omega (arith, c.loop-turn-test.false))))
    i.invariant.kept

-- ---- the next part

pub standing_next-returns-clause-next : goal.standing_next-returns-clause-next
standing_next-returns-clause-next g t c = λ U before stands consistent kept.
    let a = c.args in
    let r = a.evaluation.now in
    let shape = evaluation_shape r in
    let v = c.upon-view.result in
    let upper = v.signature.now in
    let at_number = c.in_ok-path.path in
    let yielded = meaning upper r.turns (evaluation_choices r) (rule_of a.rule.now) (readings_of upper a.frame.now) (frame_locations upper a.frame.now) (shown v) at_number in
    next_set r.turns (evaluation_choices r) (rule_of a.rule.now) a.frame.now a.sought.now.location a.sought.now.given.now shape upper c.upon-view.ensures.signature
    (fire (evaluation_state r) U) (shown v) (c.upon-view.ensures.fired U stands consistent) (at a.path.now a.number) at_number c.in_ok-path.ensures
    U a.sought.now.most before c.put_later.new.self c.merge_with.new.self (c.put_later.ensures a.sought.now.most before _ kept c.in_ok-own.ensures)
    c.of-part.result c.in-Set.set c.in-Set.instances (subst (IsFormed upper yielded) c.in-Set.is c.in_ok-outcome.ensures) c.of-part.ensures
    (λ V there. c.in_ok-merge_with-in-Set.ensures.merge shape U V stands there)
