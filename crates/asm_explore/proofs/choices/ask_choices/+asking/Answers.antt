use Rattle.std.proofs.Common.{◌≡◌, ◌∙◌, ◌+◌, ◌-◌, ◌++◌, rules, sym, ap, subst, arith, append-nil, append_assoc}
use Rattle.std.specs.List.{flat_map}
use Rattle.std.proofs.lemmas.List.{take_all}
use Rattle.asm_state.specs.Location.{State}
use Rattle.asm_state.specs.Signature.{count_of}
use Rattle.asm_state.specs.Updates.{fire}
use Rattle.asm_eval.specs.code.FormedOutcomes.{IsFormed, IsSet}
use Rattle.asm_meaning.specs.Yields.{at}
use Rattle.asm_code.specs.code.CodeViews.{code_of}
use Rattle.asm_code.specs.code.RuleViews.{target_code_of, rule_of}
use Rattle.asm_eval.specs.code.Evaluation.{rule_in, rule_upon, evaluation_shape, evaluation_state}
use Rattle.asm_explore.specs.code.AskedRules.{after_turn_set}
use Rattle.asm_explore.specs.code.AskedPieces.{HasCount, IsUpon, all_said, asks_at, own_at, piece_asks}
use Rattle.asm_explore.proofs.ChoiceLemmas.AskedOrder.{begins, gone, part_on, part_ends, part_exhausted, turn_on, turn_ends, turn_exhausted, parts_left, seq_asks, order_next, order_end, turns_left, iterate_asks, turns_step, skip_none, assign_none}
use Rattle.asm_explore.proofs.CodeLists.{sound_part, size_of_part}
use Rattle.asm_explore.proofs.CodeRules.{skip_form, assign_form}
use Rattle.asm_explore.proofs.ChoiceLemmas.OpenedAsks.{formed_counted, piece_falls, pieces_ask}
use Rattle.asm_explore.proofs.choices.ask_choices.+asking.Goals as goal

-- src/choices/ask_choices.rt:131:17
pub add_asked-add_asked-requires : goal.add_asked-add_asked-requires
add_asked-add_asked-requires g t c κs within =
    let a = c.args in
    let low = c.loop-i-test.true in
    let falls = piece_falls a.evaluation.now a.piece.now c.whole_cut-cut.result c.requires.whole c.whole_cut-cut.ensures.whole c.in_ok-pieces.field-0 c.in_ok-pieces.ensures
    c.in-Pieces.pieces c.in-Pieces.instances c.in-Pieces.is c.loop-i.i c.index.result.now (omega (arith, low, c.len-i-end.ensures)) c.index.ensures in
    let small = falls.0 in
    (omega (arith, c.decreases, small), (search rules, (falls.2, falls.1)))

pub add_asked-returns-after-loop-i : goal.add_asked-returns-after-loop-i
add_asked-returns-after-loop-i g t c =
    let a = c.args in
    let r = a.evaluation.now in
    let old = all_said a.into.now.items in
    let pieces = c.in-Pieces.pieces in
    let all = take_all c.loop-i.i pieces.items (omega (arith, c.loop-i-test.false, c.len-i-end.ensures)) in
    c.loop-i.invariant
    ∙ ap (λ xs. (old ++ own_at r a.piece.now) ++ flat_map (piece_asks r) xs) all
    ∙ append_assoc old (own_at r a.piece.now) (flat_map (piece_asks r) pieces.items)
    ∙ ap (λ xs. old ++ xs) (sym (pieces_ask r a.piece.now c.whole_cut-cut.result c.requires.whole c.whole_cut-cut.ensures.whole c.in_ok-pieces.field-0 c.in_ok-pieces.ensures
    pieces c.in-Pieces.instances c.in-Pieces.is))

pub add_closed-returns-in-Skip : goal.add_closed-returns-in-Skip
add_closed-returns-in-Skip g t c =
    let a = c.args in
    let old = all_said a.into.now.items in
    sym (append-nil old)
    ∙ ap (λ xs. old ++ xs) (sym (skip_none a.evaluation.now a.piece.now.frame a.piece.now.path (rule_of a.piece.now.rule.now) (evaluation_state a.evaluation.now) (skip_form a.piece.now.rule.now c.in-Skip.is)))

pub add_closed-returns-in-Assign : goal.add_closed-returns-in-Assign
add_closed-returns-in-Assign g t c =
    let a = c.args in
    let old = all_said a.into.now.items in
    sym (append-nil old)
    ∙ ap (λ xs. old ++ xs) (sym (assign_none a.evaluation.now a.piece.now.frame a.piece.now.path (rule_of a.piece.now.rule.now) (target_code_of c.in-Assign.place) (code_of c.in-Assign.value) (evaluation_state a.evaluation.now)
    (assign_form a.piece.now.rule.now c.in-Assign.place c.in-Assign.value c.in-Assign.is)))

-- ---- parts in order

pub add_in_order-loop-i-init : goal.add_in_order-loop-i-init
add_in_order-loop-i-init g t c =
    let a = c.args in
    let r = a.evaluation.now in
    record {
      counted = c.new-so_far.ensures.count ∙ c.count.ensures.count;
      asking = begins (evaluation_shape r) (evaluation_state r) c.new-so_far.result (parts_left r a.frame.now a.path.now a.parts.now 0) (all_said a.into.now.items) _
          (c.new-so_far.ensures.empty (evaluation_shape r) c.count.ensures.sound c.count.ensures.count) (seq_asks r a.frame.now a.path.now a.parts.now (evaluation_state r));
    }

pub add_in_order-add_next-requires : goal.add_in_order-add_next-requires
add_in_order-add_next-requires g t c κs within =
    let a = c.args in
    let l = c.loop-i in
    let small = size_of_part a.parts.now l.i c.index-parts-i.result c.loop-i-test.true c.index-parts-i.is in
    (omega (arith, c.decreases, small), (search rules, (sound_part (evaluation_shape a.evaluation.now) a.parts.now l.i c.index-parts-i.result c.loop-i-test.true c.index-parts-i.is c.requires.sound, (c.requires.framed, l.invariant.counted))))

pub add_in_order-returns-in_default : goal.add_in_order-returns-in_default
add_in_order-returns-in_default g t c =
    let a = c.args in
    let r = a.evaluation.now in
    let l = c.loop-i in
    part_exhausted r a.frame.now (at a.path.now l.i) (rule_of c.index-parts-i.result) l.so_far c.add_next.new.so_far
    (parts_left r a.frame.now a.path.now a.parts.now l.i) (parts_left r a.frame.now a.path.now a.parts.now (l.i + 1)) _ (all_said l.into.items) (all_said c.add_next.new.into.items)
    (order_next r a.frame.now a.path.now a.parts.now l.i c.index-parts-i.result c.loop-i-test.true c.index-parts-i.is)
    (λ U stands consistent. subst (IsUpon r a.frame.now (at a.path.now l.i) (rule_of c.index-parts-i.result) U c.add_next.new.so_far (all_said l.into.items) (all_said c.add_next.new.into.items))
    c.in_default.is (c.in_ok-next.ensures.upon U stands consistent))
    l.invariant.asking

pub add_in_order-returns-then-ends_parts : goal.add_in_order-returns-then-ends_parts
add_in_order-returns-then-ends_parts g t c =
    let a = c.args in
    let r = a.evaluation.now in
    let l = c.loop-i in
    part_ends r a.frame.now (at a.path.now l.i) (rule_of c.index-parts-i.result) l.so_far c.add_next.new.so_far
    (parts_left r a.frame.now a.path.now a.parts.now l.i) (parts_left r a.frame.now a.path.now a.parts.now (l.i + 1)) _ (all_said l.into.items) (all_said c.add_next.new.into.items)
    (order_next r a.frame.now a.path.now a.parts.now l.i c.index-parts-i.result c.loop-i-test.true c.index-parts-i.is)
    c.in-Some.part (sym c.ends_parts.ensures ∙ c.if-ends_parts.true)
    (λ U stands consistent. subst (IsUpon r a.frame.now (at a.path.now l.i) (rule_of c.index-parts-i.result) U c.add_next.new.so_far (all_said l.into.items) (all_said c.add_next.new.into.items))
    c.in-Some.is (c.in_ok-next.ensures.upon U stands consistent))
    l.invariant.asking

pub add_in_order-loop-i-preserved : goal.add_in_order-loop-i-preserved
add_in_order-loop-i-preserved g t c =
    let a = c.args in
    let r = a.evaluation.now in
    let l = c.loop-i in
    record {
      counted = c.in_ok-next.ensures.counted ∙ l.invariant.counted;
      asking = part_on r a.frame.now (at a.path.now l.i) (rule_of c.index-parts-i.result) l.so_far c.add_next.new.so_far
          (parts_left r a.frame.now a.path.now a.parts.now l.i) (parts_left r a.frame.now a.path.now a.parts.now (l.i + 1)) _ (all_said l.into.items) (all_said c.add_next.new.into.items)
          (order_next r a.frame.now a.path.now a.parts.now l.i c.index-parts-i.result c.loop-i-test.true c.index-parts-i.is)
          c.in-Some.part (sym c.ends_parts.ensures ∙ c.if-ends_parts.false)
          (λ U stands consistent. subst (IsUpon r a.frame.now (at a.path.now l.i) (rule_of c.index-parts-i.result) U c.add_next.new.so_far (all_said l.into.items) (all_said c.add_next.new.into.items))
          c.in-Some.is (c.in_ok-next.ensures.upon U stands consistent))
          l.invariant.asking;
    }

pub add_in_order-returns : goal.add_in_order-returns
add_in_order-returns g t c =
    let a = c.args in
    let r = a.evaluation.now in
    let l = c.loop-i in
    gone (evaluation_shape r) (evaluation_state r) l.so_far (parts_left r a.frame.now a.path.now a.parts.now l.i) _ (all_said l.into.items)
    (order_end r a.frame.now a.path.now a.parts.now l.i (omega (arith, c.loop-i-test.false))) l.invariant.asking

-- ---- the next part

pub add_next-of-part-requires : goal.add_next-of-part-requires
add_next-of-part-requires g t c = subst (HasCount (count_of (evaluation_shape c.args.evaluation.now))) c.in-Set.is c.in_ok-asked_upon.ensures.counted

pub add_next-merge_with-requires : goal.add_next-merge_with-requires
add_next-merge_with-requires g t c = subst (HasCount (count_of (evaluation_shape c.args.evaluation.now))) c.in-Set.is c.in_ok-asked_upon.ensures.counted ∙ sym c.requires.counted

pub add_next-returns-clause-upon : goal.add_next-returns-clause-upon
add_next-returns-clause-upon g t c = λ U stands consistent.
    let a = c.args in
    let r = a.evaluation.now in
    let f = a.frame.now in
    let R = rule_of a.rule.now in
    let shape = evaluation_shape r in
    let p = c.in_ok-path.path in
    let same : p ≡ at a.path.now a.number = c.in_ok-path.ensures in
    let formed : IsSet shape (rule_upon r U f p R) c.in-Set.set c.in-Set.instances = subst (IsFormed shape (rule_upon r U f p R)) c.in-Set.is (c.in_ok-asked_upon.ensures.formed U stands consistent) in
    record {
      asked = subst (λ q. all_said c.asked_upon.new.into.items ≡ all_said a.into.now.items ++ asks_at r f q R (fire (evaluation_state r) U)) same (c.in_ok-asked_upon.ensures.asked U stands consistent);
      joins = (
        formed.set,
        ap (λ q. (rule_upon r U f q R).result) (sym same) ∙ formed.gives,
        c.of-part.ensures formed.set formed.stands,
        c.in_ok-merge_with-in-Set.ensures.merge shape U formed.set stands formed.stands,
      );
    }

-- ---- turns

pub add_turns-loop-turn-init : goal.add_turns-loop-turn-init
add_turns-loop-turn-init g t c =
    let a = c.args in
    let r = a.evaluation.now in
    let every : r.turns - 0 ≡ r.turns = omega arith in
    record {
      counted = c.new-so_far.ensures.count ∙ c.count.ensures.count;
      asking = begins (evaluation_shape r) (evaluation_state r) c.new-so_far.result (turns_left r a.frame.now a.path.now (rule_of a.body.now) (r.turns - 0) 0) (all_said a.into.now.items) _
          (c.new-so_far.ensures.empty (evaluation_shape r) c.count.ensures.sound c.count.ensures.count)
          (ap (λ n. turns_left r a.frame.now a.path.now (rule_of a.body.now) n 0 (evaluation_state r)) every ∙ iterate_asks r a.frame.now a.path.now (rule_of a.body.now) (evaluation_state r));
    }

pub add_turns-returns-in_default : goal.add_turns-returns-in_default
add_turns-returns-in_default g t c =
    let a = c.args in
    let r = a.evaluation.now in
    let f = a.frame.now in
    let R = rule_of a.body.now in
    let l = c.loop-turn in
    let q = at a.path.now c.from-number.result in
    let steps = subst (λ n. (B : State) → turns_left r f a.path.now R (r.turns - l.turn) l.turn B
    ≡ asks_at r f (at a.path.now n) R B ++ after_turn_set (rule_in r f (at a.path.now n) R B).result (λ V. turns_left r f a.path.now R (r.turns - (l.turn + 1)) (l.turn + 1) (fire B V)))
    (sym c.from-number.ensures) (turns_step r f a.path.now R r.turns l.turn c.loop-turn-test.true) in
    turn_exhausted r f q R l.so_far c.add_next.new.so_far (turns_left r f a.path.now R (r.turns - l.turn) l.turn) (turns_left r f a.path.now R (r.turns - (l.turn + 1)) (l.turn + 1)) _
    (all_said l.into.items) (all_said c.add_next.new.into.items) steps
    (λ U stands consistent. subst (IsUpon r f q R U c.add_next.new.so_far (all_said l.into.items) (all_said c.add_next.new.into.items)) c.in_default.is (c.in_ok-next.ensures.upon U stands consistent))
    l.invariant.asking

pub add_turns-returns-then-ends_turns : goal.add_turns-returns-then-ends_turns
add_turns-returns-then-ends_turns g t c =
    let a = c.args in
    let r = a.evaluation.now in
    let f = a.frame.now in
    let R = rule_of a.body.now in
    let l = c.loop-turn in
    let q = at a.path.now c.from-number.result in
    let steps = subst (λ n. (B : State) → turns_left r f a.path.now R (r.turns - l.turn) l.turn B
    ≡ asks_at r f (at a.path.now n) R B ++ after_turn_set (rule_in r f (at a.path.now n) R B).result (λ V. turns_left r f a.path.now R (r.turns - (l.turn + 1)) (l.turn + 1) (fire B V)))
    (sym c.from-number.ensures) (turns_step r f a.path.now R r.turns l.turn c.loop-turn-test.true) in
    turn_ends r f q R l.so_far c.add_next.new.so_far (turns_left r f a.path.now R (r.turns - l.turn) l.turn) (turns_left r f a.path.now R (r.turns - (l.turn + 1)) (l.turn + 1)) _
    (all_said l.into.items) (all_said c.add_next.new.into.items) steps
    c.in-Some.part (sym c.ends_turns.ensures ∙ c.if-ends_turns.true)
    (λ U stands consistent. subst (IsUpon r f q R U c.add_next.new.so_far (all_said l.into.items) (all_said c.add_next.new.into.items)) c.in-Some.is (c.in_ok-next.ensures.upon U stands consistent))
    l.invariant.asking

pub add_turns-loop-turn-preserved : goal.add_turns-loop-turn-preserved
add_turns-loop-turn-preserved g t c =
    let a = c.args in
    let r = a.evaluation.now in
    let f = a.frame.now in
    let R = rule_of a.body.now in
    let l = c.loop-turn in
    let q = at a.path.now c.from-number.result in
    let steps = subst (λ n. (B : State) → turns_left r f a.path.now R (r.turns - l.turn) l.turn B
    ≡ asks_at r f (at a.path.now n) R B ++ after_turn_set (rule_in r f (at a.path.now n) R B).result (λ V. turns_left r f a.path.now R (r.turns - (l.turn + 1)) (l.turn + 1) (fire B V)))
    (sym c.from-number.ensures) (turns_step r f a.path.now R r.turns l.turn c.loop-turn-test.true) in
    record {
      counted = c.in_ok-next.ensures.counted ∙ l.invariant.counted;
      asking = turn_on r f q R l.so_far c.add_next.new.so_far (turns_left r f a.path.now R (r.turns - l.turn) l.turn) (turns_left r f a.path.now R (r.turns - (l.turn + 1)) (l.turn + 1)) _
          (all_said l.into.items) (all_said c.add_next.new.into.items) steps
          c.in-Some.part (sym c.ends_turns.ensures ∙ c.if-ends_turns.false)
          (λ U stands consistent. subst (IsUpon r f q R U c.add_next.new.so_far (all_said l.into.items) (all_said c.add_next.new.into.items)) c.in-Some.is (c.in_ok-next.ensures.upon U stands consistent))
          l.invariant.asking;
    }

-- ---- in a state further on

pub asked_upon-returns-clause-counted : goal.asked_upon-returns-clause-counted
asked_upon-returns-clause-counted g t c =
    subst (λ sh. HasCount (count_of sh) c.in_ok-outcome.outcome) c.upon-view.ensures.signature (formed_counted _ _ c.in_ok-outcome.outcome c.in_ok-outcome.ensures)
