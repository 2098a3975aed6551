use Rattle.std.proofs.Common.{◌≡◌, ℕ, ◌∷◌, map, Some, None, sym, ap, subst, ◌∙◌, refl, arith, rules, suc, ◌+◌, ◌-◌, ◌++◌, [], take, drop, filter}
use Rattle.std.specs.Prelude.{Ok, option_map}
use Rattle.asm_state.specs.Signature.{Shape, location_at}
use Rattle.asm_state.specs.Updates.{none, one, merge, fire}
use Rattle.asm_state.proofs.UpdateLemmas.UnionsAndMerges.{merge_laws}
use Rattle.asm_state.proofs.UpdateLemmas.Summaries.{fire_laws}
use Rattle.asm_updates.specs.code.SummaryRanges.{SummaryRanges}
use Rattle.asm_state.specs.Words.{value_of_code}
use Rattle.asm_state.specs.code.Codes as values
use Rattle.asm_meaning.specs.code.Intervals.{between}
use Rattle.asm_meaning.specs.Does.{Outcome}
use Rattle.asm_eval.specs.code.FormedOutcomes.{Follows, Forms, IsMergedPart}
use Rattle.asm_meaning.specs.Taken.{taken}
use Rattle.asm_eval.specs.code.ShownViews.{shown}
use Rattle.asm_eval.specs.declared.outcome.Forming.{Forming}
use Rattle.asm_meaning.specs.Yields.{Path, at, Exhausted}
use Rattle.asm_eval.proofs.FollowsLaws.{following_laws-same as follows_same, following_laws-nothing as follows_nothing, following_laws-both as follows_both, following_laws-counted as follows_counted, following_laws-stopped as follows_stopped, following_laws-forms_same as forms_same}
use Rattle.asm_eval.proofs.SequenceLaws.{none_consistent, sequence_laws-goes_upon as goes_upon, part_laws-consistent_part as consistent_part, part_laws-ending_part as ending_part, part_laws-some_turn as some_turn, part_laws-consistent_turn as consistent_turn, part_laws-ending_turn as ending_turn, stopping_laws-memory as stopped_for_memory}
use Rattle.asm_code.specs.code.CodeViews.{code_of}
use Rattle.asm_eval.specs.code.Frames.{readings_of}
use Rattle.asm_reader.specs.declared.picks.Picks.{Ghosts}
use Rattle.asm_state.specs.declared.value.Value.{Value}
use Rattle.asm_code.specs.declared.rule_code.RuleCode.{RuleCode}
use Rattle.asm_code.specs.code.Readings.{always, universe_at}
use Rattle.asm_code.specs.code.RuleMeaning.{meaning}
use Rattle.asm_code.specs.code.RuleTree as tree
use Rattle.asm_code.specs.code.RuleViews.{rule_of, rules_of}
use Rattle.asm_eval.specs.declared.frame.Frame.{Frame}
use Rattle.asm_eval.specs.declared.evaluation.Evaluation.{Evaluation}
use Rattle.asm_eval.specs.code.Regions.{IsFormedOrLeft}
use Rattle.asm_eval.specs.declared.regions.RegionOutcome.{RegionOutcome}
use Rattle.asm_eval.specs.declared.regions.RegionOutcome.TheVariants as regions
use Rattle.asm_eval.specs.code.Evaluation.{evaluation_shape, evaluation_state, evaluation_choices, frame_locations, in_order_at, in_order_in, rule_at, rule_in, rule_upon, passing_in, is_passing, span_at}
use Rattle.asm_eval.proofs.RuleYields.{skip_yields, assign_yields, par_yields, seq_yields, if_is, if_yes, if_no, if_left_out, let_is, let_with, choose_is, choose_some, choose_none, call_is, call_with, iterate_yields, forall_yields, next_yields, none_yields, exhausted_yields, size_here, sound_part, size_of_part, universe_here}
use Rattle.asm_eval.proofs.SpanElements.{left_begins, left_same, left_ends, next_of, between_block, none_between, none_more, one_more, codes_between}
use Rattle.asm_eval.proofs.CodeSequences.{parts_left, turns_left, part_goes_on, part_ends, part_stops, parts_end, turn_goes_on, turn_ends, turn_stops, turns_stop, iterate_yields_turns}
use Rattle.asm_eval.proofs.SequencesUpon.{upon_begins, upon_same, alone_forms, alone_stops, popped}
use Rattle.asm_eval.proofs.SingleUpdates.{single_shown, single_upon, goes_by_none, goes_by_one}
use Rattle.asm_eval.specs.declared.one_update.OneUpdate.TheVariants as single
use Rattle.std.proofs.lemmas.Result.{on_ok_weaker}
use Rattle.asm_eval.proofs.+form.Goals as goal

-- what the body yields for a value
abbrev element_does : {P : Type 0} {picks : Ghosts P} → Evaluation P picks → Frame → Path → ℕ → Value → RuleCode → Outcome
element_does r f q k v body = meaning (evaluation_shape r) r.turns (evaluation_choices r) (rule_of body) (always v ∷ readings_of (evaluation_shape r) f) (None ∷ frame_locations (evaluation_shape r) f) (evaluation_state r) (at q k)

-- if a region was left
nothing_done : (shape : Shape) (o : Outcome) (old new : Forming) (region : RegionOutcome) → region ≡ regions.Left → IsFormedOrLeft shape o old new (Ok region) → new ≡ old
nothing_done shape o old new region is taken = subst (λ it. IsFormedOrLeft shape o old new (Ok it)) is taken

pub form::form-returns-in-Skip-clause-formed : goal.form::form-returns-in-Skip-clause-formed
form::form-returns-in-Skip-clause-formed g t c =
    let a = c.args in
    let r = a.evaluation.now in
    let shape = evaluation_shape r in
    follows_nothing shape tt _ a.forming.now (skip_yields shape r.turns (evaluation_choices r) (readings_of shape a.frame.now) (frame_locations shape a.frame.now) (evaluation_state r) a.forming.now.path.items a.rule.now c.in-Skip.is)

pub form::form-returns-in-Assign-clause-formed : goal.form::form-returns-in-Assign-clause-formed
form::form-returns-in-Assign-clause-formed g t c =
    let a = c.args in
    let r = a.evaluation.now in
    let shape = evaluation_shape r in
    follows_same shape c.assign.result _ _ _ _ (assign_yields shape r.turns (evaluation_choices r) (readings_of shape a.frame.now) (frame_locations shape a.frame.now) (evaluation_state r) a.forming.now.path.items a.rule.now c.in-Assign.place c.in-Assign.value c.in-Assign.is _ _ refl refl) c.assign.ensures

pub form::form-returns-in-Left-clause-formed : goal.form::form-returns-in-Left-clause-formed
form::form-returns-in-Left-clause-formed g t c =
    let a = c.args in
    let r = a.evaluation.now in
    let shape = evaluation_shape r in
    let left = c.region.new.forming in
    let same = nothing_done shape _ a.forming.now left _ c.in-Left.is c.in_ok-region-in-Par.ensures.taken in
    subst (λ (m : Forming). Follows shape (rule_at r a.frame.now m.path.items (rule_of a.rule.now)) m c.form_all.new.forming c.form_all.result) same (
    follows_same shape c.form_all.result _ _ _ _
    (par_yields shape r.turns (evaluation_choices r) (readings_of shape a.frame.now) (frame_locations shape a.frame.now) (evaluation_state r) left.path.items a.rule.now c.in-Par.parts c.in-Par.is c.as_slice.result.now c.as_slice.ensures.value)
    c.form_all.ensures.formed)

pub form::form-returns-in-Seq-clause-formed : goal.form::form-returns-in-Seq-clause-formed
form::form-returns-in-Seq-clause-formed g t c =
    let a = c.args in
    let r = a.evaluation.now in
    let shape = evaluation_shape r in
    follows_same shape c.form_in_order.result _ _ _ _
    (seq_yields shape r.turns (evaluation_choices r) (readings_of shape a.frame.now) (frame_locations shape a.frame.now) (evaluation_state r) a.forming.now.path.items a.rule.now c.in-Seq.parts c.in-Seq.is c.as_slice-in-Seq.result.now c.as_slice-in-Seq.ensures.value)
    c.form_in_order.ensures.formed

pub form::form-returns-in-If-clause-formed : goal.form::form-returns-in-If-clause-formed
form::form-returns-in-If-clause-formed g t c =
    let a = c.args in
    let r = a.evaluation.now in
    let shape = evaluation_shape r in
    follows_same shape c.form_if.result _ _ _ _
    (if_is shape r.turns (evaluation_choices r) (readings_of shape a.frame.now) (frame_locations shape a.frame.now) (evaluation_state r) a.forming.now.path.items a.rule.now c.in-If.test c.in-If.yes c.in-If.no c.in-If.is _ c.deref.result.now c.deref-in-If.result.now refl c.deref.ensures c.deref-in-If.ensures)
    c.form_if.ensures.formed

pub form::form_if-returns-then-holds-clause-formed : goal.form::form_if-returns-then-holds-clause-formed
form::form_if-returns-then-holds-clause-formed g t c =
    let a = c.args in
    let r = a.evaluation.now in
    let shape = evaluation_shape r in
    follows_same shape c.form_part.result _ _ _ _
    (if_yes shape r.turns (evaluation_choices r) (readings_of shape a.frame.now) (frame_locations shape a.frame.now) (evaluation_state r) a.forming.now.path.items a.test.now a.yes.now a.no.now (sym c.holds.ensures ∙ c.if-holds.true)) c.form_part.ensures.formed

pub form::form_if-returns-in-Skip-clause-formed : goal.form::form_if-returns-in-Skip-clause-formed
form::form_if-returns-in-Skip-clause-formed g t c =
    let a = c.args in
    let r = a.evaluation.now in
    let shape = evaluation_shape r in
    follows_nothing shape tt _ _ (if_left_out shape r.turns (evaluation_choices r) (readings_of shape a.frame.now) (frame_locations shape a.frame.now) (evaluation_state r) a.forming.now.path.items a.test.now a.yes.now a.no.now (sym c.holds.ensures ∙ c.if-holds.false) c.in-Skip.is)

pub form::form_if-returns-in_default-clause-formed : goal.form::form_if-returns-in_default-clause-formed
form::form_if-returns-in_default-clause-formed g t c =
    let a = c.args in
    let r = a.evaluation.now in
    let shape = evaluation_shape r in
    follows_same shape c.form_part-in_default.result _ _ _ _
    (if_no shape r.turns (evaluation_choices r) (readings_of shape a.frame.now) (frame_locations shape a.frame.now) (evaluation_state r) a.forming.now.path.items a.test.now a.yes.now a.no.now (sym c.holds.ensures ∙ c.if-holds.false)) c.form_part-in_default.ensures.formed

pub form::form-returns-in-Let-clause-formed : goal.form::form-returns-in-Let-clause-formed
form::form-returns-in-Let-clause-formed g t c =
    let a = c.args in
    let r = a.evaluation.now in
    let shape = evaluation_shape r in
    follows_same shape c.form_let.result _ _ _ _
    (let_is shape r.turns (evaluation_choices r) (readings_of shape a.frame.now) (frame_locations shape a.frame.now) (evaluation_state r) a.forming.now.path.items a.rule.now c.in-Let.value c.in-Let.body c.in-Let.is _ c.deref-in-Let.result.now refl c.deref-in-Let.ensures)
    c.form_let.ensures.formed

pub form::form_let-returns-clause-formed : goal.form::form_let-returns-clause-formed
form::form_let-returns-clause-formed g t c =
    let a = c.args in
    let r = a.evaluation.now in
    let shape = evaluation_shape r in
    follows_same shape c.form_part.result _ _ _ _
    (let_with shape r.turns (evaluation_choices r) (readings_of shape a.frame.now) (frame_locations shape a.frame.now) (evaluation_state r) a.forming.now.path.items a.term.now a.body.now (value_of_code c.unbranded_code.result.value) (c.unbranded_code.ensures ∙ c.value-value.ensures)) c.form_part.ensures.formed

pub form::form_all-form_part-requires : goal.form::form_all-form_part-requires
form::form_all-form_part-requires g t c κs within =
    let a = c.args in
    let r = a.evaluation.now in
    let shape = evaluation_shape r in
    let small = size_of_part a.parts.now c.loop-i.i c.index-parts-i.result c.loop-i-test.true c.index-parts-i.is in
    (omega (arith, c.decreases, small), (search rules, (search rules, (sound_part shape a.parts.now c.loop-i.i c.index-parts-i.result c.loop-i-test.true c.index-parts-i.is c.requires.sound, (c.requires.framed, (c.loop-i.invariant.ready, c.loop-i.invariant.same_count ∙ c.requires.fits))))))

pub form::form_all-loop-i-preserved : goal.form::form_all-loop-i-preserved
form::form_all-loop-i-preserved g t c =
    let a = c.args in
    let r = a.evaluation.now in
    let shape = evaluation_shape r in
    let l = c.loop-i in
    record {
      ready = c.in_ok-form_part.ensures.ready;
      same_count = c.in_ok-form_part.ensures.formed.count ∙ l.invariant.same_count;
      same_path = c.in_ok-form_part.ensures.formed.path ∙ l.invariant.same_path;
      follows = λ new result rest. l.invariant.follows new result (follows_same shape result _ _ _ _
          (next_yields shape r.turns (evaluation_choices r) (readings_of shape a.frame.now) (frame_locations shape a.frame.now) (evaluation_state r) a.forming.now.path.items a.parts.now l.i c.index-parts-i.result c.loop-i-test.true c.index-parts-i.is)
          (follows_both shape tt result _ _ _ _ _
          (follows_same shape _ _ _ _ _ (ap (λ q. rule_at r a.frame.now (at q l.i) (rule_of c.index-parts-i.result)) l.invariant.same_path) c.in_ok-form_part.ensures.formed)
          rest));
    }

pub form::form_all-returns-clause-formed : goal.form::form_all-returns-clause-formed
form::form_all-returns-clause-formed g t c =
    let a = c.args in
    let r = a.evaluation.now in
    let shape = evaluation_shape r in
    let l = c.loop-i in
    l.invariant.follows _ _ (follows_nothing shape tt _ _ (none_yields shape r.turns (evaluation_choices r) (readings_of shape a.frame.now) (frame_locations shape a.frame.now) (evaluation_state r) a.forming.now.path.items a.parts.now l.i (omega arith)))

pub form::form_all-returns-in_err-form_part-clause-formed : goal.form::form_all-returns-in_err-form_part-clause-formed
form::form_all-returns-in_err-form_part-clause-formed g t c =
    let a = c.args in
    let r = a.evaluation.now in
    let shape = evaluation_shape r in
    let l = c.loop-i in
    l.invariant.follows _ _ (follows_stopped shape c.form_part.result c.from_residual.result c.in_err-form_part.field-0.0 _ _ _ _ _ refl c.in_err-form_part.was c.from_residual.ensures.1
    (λ last ends. exhausted_yields shape r.turns (evaluation_choices r) (readings_of shape a.frame.now) (frame_locations shape a.frame.now) (evaluation_state r) a.forming.now.path.items a.parts.now l.i c.index-parts-i.result last c.loop-i-test.true c.index-parts-i.is
    (sym (ap (λ q. (rule_at r a.frame.now (at q l.i) (rule_of c.index-parts-i.result)).result) l.invariant.same_path) ∙ ends))
    c.form_part.ensures.formed)

-- ---- sequences

pub sequences::form_in_order-returns-clause-formed : goal.sequences::form_in_order-returns-clause-formed
sequences::form_in_order-returns-clause-formed g t c =
    let a = c.args in
    let r = a.evaluation.now in
    let shape = evaluation_shape r in
    let Rs = rules_of (map rule_of a.parts.now) in
    let on = c.in_ok-merge_in_order.ensures.formed.formed none (c.new-so_far.ensures.empty shape c.count.ensures.sound c.count.ensures.count) none_consistent in
    record {
      count = c.put_back.ensures.count ∙ ap (λ (s : SummaryRanges). s.count) c.set_aside-before.ensures.before;
      path = search rules;
      formed = alone_forms shape _ _ (ap (in_order_in r a.frame.now a.forming.now.path.items 0 Rs) (fire_laws.of_none (evaluation_state r)))
          _ _ a.forming.now.set c.put_back.new.forming.set _ a.forming.now.instances _ c.put_back.new.forming.instances c.put_back.result on
          c.set_aside-before.ensures.before c.put_back.ensures.instances (c.put_back.ensures.adds shape);
      exhausted = stopped_for_memory (in_order_at r a.frame.now a.forming.now.path.items Rs) _ c.put_back.result c.put_back.ensures.stopped;
    }

pub sequences::form_in_order-returns-in_err-merge_in_order-clause-formed : goal.sequences::form_in_order-returns-in_err-merge_in_order-clause-formed
sequences::form_in_order-returns-in_err-merge_in_order-clause-formed g t c =
    let a = c.args in
    let r = a.evaluation.now in
    let shape = evaluation_shape r in
    let Rs = rules_of (map rule_of a.parts.now) in
    record {
      count = c.merge_in_order.ensures.formed.count ∙ c.set_aside-before.ensures.count;
      path = search rules;
      formed = search rules;
      exhausted = alone_stops shape _ _ (ap (in_order_in r a.frame.now a.forming.now.path.items 0 Rs) (fire_laws.of_none (evaluation_state r)))
          c.merge_in_order.new.forming.path.items c.merge_in_order.result c.from_residual.result c.in_err-merge_in_order.field-0.0 c.in_err-merge_in_order.was c.from_residual.ensures.1
          (c.merge_in_order.ensures.formed.exhausted none (c.new-so_far.ensures.empty shape c.count.ensures.sound c.count.ensures.count) none_consistent);
    }

pub sequences::form_turns-returns-clause-formed : goal.sequences::form_turns-returns-clause-formed
sequences::form_turns-returns-clause-formed g t c =
    let a = c.args in
    let r = a.evaluation.now in
    let shape = evaluation_shape r in
    let R = tree.Iterate (rule_of a.body.now) in
    let on = c.in_ok-merge_turns.ensures.formed.formed none (c.new-so_far.ensures.empty shape c.count.ensures.sound c.count.ensures.count) none_consistent in
    record {
      count = c.put_back.ensures.count ∙ ap (λ (s : SummaryRanges). s.count) c.set_aside-before.ensures.before;
      path = search rules;
      formed = alone_forms shape _ _ (ap (rule_in r a.frame.now a.forming.now.path.items R) (fire_laws.of_none (evaluation_state r)))
          _ _ a.forming.now.set c.put_back.new.forming.set _ a.forming.now.instances _ c.put_back.new.forming.instances c.put_back.result on
          c.set_aside-before.ensures.before c.put_back.ensures.instances (c.put_back.ensures.adds shape);
      exhausted = stopped_for_memory (rule_at r a.frame.now a.forming.now.path.items R) _ c.put_back.result c.put_back.ensures.stopped;
    }

pub sequences::form_turns-returns-in_err-merge_turns-clause-formed : goal.sequences::form_turns-returns-in_err-merge_turns-clause-formed
sequences::form_turns-returns-in_err-merge_turns-clause-formed g t c =
    let a = c.args in
    let r = a.evaluation.now in
    let shape = evaluation_shape r in
    let R = tree.Iterate (rule_of a.body.now) in
    record {
      count = c.merge_turns.ensures.formed.count ∙ c.set_aside-before.ensures.count;
      path = search rules;
      formed = search rules;
      exhausted = alone_stops shape _ _ (ap (rule_in r a.frame.now a.forming.now.path.items R) (fire_laws.of_none (evaluation_state r)))
          c.merge_turns.new.forming.path.items c.merge_turns.result c.from_residual.result c.in_err-merge_turns.field-0.0 c.in_err-merge_turns.was c.from_residual.ensures.1
          (c.merge_turns.ensures.formed.exhausted none (c.new-so_far.ensures.empty shape c.count.ensures.sound c.count.ensures.count) none_consistent);
    }

-- ---- parts

pub sequences::merge_in_order-loop-i-init : goal.sequences::merge_in_order-loop-i-init
sequences::merge_in_order-loop-i-init g t c =
    let a = c.args in
    let r = a.evaluation.now in
    let shape = evaluation_shape r in
    record {
      ready = c.requires.ready;
      same_count = refl;
      same_path = refl;
      counted = c.requires.so_far;
      underway = λ U stands consistent. upon_begins shape U (fire (evaluation_state r) U) _
          (parts_left shape r.turns (evaluation_choices r) (readings_of shape a.frame.now) (frame_locations shape a.frame.now) a.forming.now.path.items a.parts.now 0)
          a.so_far.now a.forming.now.instances refl (omega (arith, a.forming.now.in_range)) stands;
    }

pub sequences::merge_in_order-form_next-requires : goal.sequences::merge_in_order-form_next-requires
sequences::merge_in_order-form_next-requires g t c κs within =
    let a = c.args in
    let r = a.evaluation.now in
    let shape = evaluation_shape r in
    let l = c.loop-i in
    let small = size_of_part a.parts.now l.i c.index-parts-i.result c.loop-i-test.true c.index-parts-i.is in
    let alone = l.invariant.same_count ∙ c.requires.fits in
    (omega (arith, c.decreases, small), (search rules, (search rules, (sound_part shape a.parts.now l.i c.index-parts-i.result c.loop-i-test.true c.index-parts-i.is c.requires.sound, (c.requires.framed, (l.invariant.ready, (alone, l.invariant.counted)))))))

pub sequences::merge_in_order-loop-i-preserved : goal.sequences::merge_in_order-loop-i-preserved
sequences::merge_in_order-loop-i-preserved g t c =
    let a = c.args in
    let r = a.evaluation.now in
    let shape = evaluation_shape r in
    let l = c.loop-i in
    record {
      ready = c.in_ok-part.ensures.ready;
      same_count = c.in_ok-part.ensures.formed.count ∙ l.invariant.same_count;
      same_path = c.in_ok-part.ensures.formed.path ∙ l.invariant.same_path;
      counted = c.in_ok-part.ensures.formed.so_far_count ∙ l.invariant.counted;
      underway = λ U stands consistent.
          let under = l.invariant.underway U stands consistent in
          let on = c.in_ok-part.ensures.formed.formed (merge U under.set) under.stands (merge_laws.consistent U under.set consistent under.consistent) in
          part_goes_on shape r.turns (evaluation_choices r) (readings_of shape a.frame.now) (frame_locations shape a.frame.now) a.forming.now.path.items (evaluation_state r) U _ _ _ _ _ a.parts.now l.i under
          l.forming.path.items c.index-parts-i.result l.invariant.same_path c.loop-i-test.true c.index-parts-i.is
          c.form_next.new.so_far c.in_ok-part.part c.joined-whole.result c.form_next.new.forming.instances on
          (consistent_part on.set c.in_ok-part.part on.is (sym c.ends_parts.ensures ∙ c.if-ends_parts.false))
          (c.joined-whole.ensures under.set on.set under.consistent under.is on.is);
    }

pub sequences::merge_in_order-returns-clause-formed : goal.sequences::merge_in_order-returns-clause-formed
sequences::merge_in_order-returns-clause-formed g t c =
    let a = c.args in
    let r = a.evaluation.now in
    let shape = evaluation_shape r in
    let l = c.loop-i in
    record {
      count = l.invariant.same_count;
      so_far_count = l.invariant.counted ∙ sym c.requires.so_far;
      path = l.invariant.same_path;
      formed = λ U stands consistent.
          parts_end shape r.turns (evaluation_choices r) (readings_of shape a.frame.now) (frame_locations shape a.frame.now) a.forming.now.path.items (evaluation_state r) U _ _ _ _ _ a.parts.now l.i (l.invariant.underway U stands consistent) c.loop-i-test.false;
      exhausted = λ U stands consistent. tt;
    }

pub sequences::merge_in_order-returns-then-ends_parts-clause-formed : goal.sequences::merge_in_order-returns-then-ends_parts-clause-formed
sequences::merge_in_order-returns-then-ends_parts-clause-formed g t c =
    let a = c.args in
    let r = a.evaluation.now in
    let shape = evaluation_shape r in
    let l = c.loop-i in
    record {
      count = c.in_ok-part.ensures.formed.count ∙ l.invariant.same_count;
      so_far_count = c.in_ok-part.ensures.formed.so_far_count ∙ l.invariant.counted ∙ sym c.requires.so_far;
      path = c.in_ok-part.ensures.formed.path ∙ l.invariant.same_path;
      formed = λ U stands consistent.
          let under = l.invariant.underway U stands consistent in
          let on = c.in_ok-part.ensures.formed.formed (merge U under.set) under.stands (merge_laws.consistent U under.set consistent under.consistent) in
          part_ends shape r.turns (evaluation_choices r) (readings_of shape a.frame.now) (frame_locations shape a.frame.now) a.forming.now.path.items (evaluation_state r) U _ _ _ _ _ a.parts.now l.i under
          l.forming.path.items c.index-parts-i.result l.invariant.same_path c.loop-i-test.true c.index-parts-i.is
          c.form_next.new.so_far c.in_ok-part.part c.joined-whole.result c.form_next.new.forming.instances on
          (ending_part on.set c.in_ok-part.part on.is (sym c.ends_parts.ensures ∙ c.if-ends_parts.true))
          (c.joined-whole.ensures under.set on.set under.consistent under.is on.is);
      exhausted = λ U stands consistent. tt;
    }

pub sequences::merge_in_order-returns-in_err-part-clause-formed : goal.sequences::merge_in_order-returns-in_err-part-clause-formed
sequences::merge_in_order-returns-in_err-part-clause-formed g t c =
    let a = c.args in
    let r = a.evaluation.now in
    let shape = evaluation_shape r in
    let l = c.loop-i in
    record {
      count = c.form_next.ensures.formed.count ∙ l.invariant.same_count;
      so_far_count = search rules;
      path = search rules;
      formed = search rules;
      exhausted = λ U stands consistent.
          let under = l.invariant.underway U stands consistent in
          part_stops shape r.turns (evaluation_choices r) (readings_of shape a.frame.now) (frame_locations shape a.frame.now) a.forming.now.path.items (evaluation_state r) U _ _ _ _ _ a.parts.now l.i under
          l.forming.path.items c.index-parts-i.result l.invariant.same_path c.loop-i-test.true c.index-parts-i.is
          c.form_next.new.forming.path.items c.form_next.result c.from_residual.result c.in_err-part.field-0.0 c.in_err-part.was c.from_residual.ensures.1
          (c.form_next.ensures.formed.exhausted (merge U under.set) under.stands (merge_laws.consistent U under.set consistent under.consistent));
    }

pub sequences::form_next-merge_update-requires-clause-location : goal.sequences::form_next-merge_update-requires-clause-location
sequences::form_next-merge_update-requires-clause-location g t c =
    let a = c.args in
    (single_shown a.evaluation.now c.upon-view.result a.frame.now (rule_of a.rule.now) (at a.forming.now.path.items a.number) c.upon-view.ensures.signature
    c.in_ok-single_update.field-0 (single.Update c.in-Update.n c.in-Update.value) c.in-Update.is c.in_ok-single_update.ensures).0

pub sequences::form_next-returns-in-Nothing-clause-formed : goal.sequences::form_next-returns-in-Nothing-clause-formed
sequences::form_next-returns-in-Nothing-clause-formed g t c =
    let a = c.args in
    let r = a.evaluation.now in
    record {
      count = refl;
      so_far_count = refl;
      path = refl;
      formed = λ U stands consistent.
          goes_by_none (evaluation_shape r) _ U a.so_far.now a.forming.now.instances
          (single_upon r c.upon-view.result a.frame.now (rule_of a.rule.now) (at a.forming.now.path.items a.number) c.upon-view.ensures.signature
          c.in_ok-single_update.field-0 single.Nothing U c.in-Nothing.is (c.upon-view.ensures.fired U stands consistent) c.in_ok-single_update.ensures)
          (omega (arith, a.forming.now.in_range)) stands;
      exhausted = λ U stands consistent. tt;
    }

pub sequences::form_next-returns-in-Update-clause-formed : goal.sequences::form_next-returns-in-Update-clause-formed
sequences::form_next-returns-in-Update-clause-formed g t c =
    let a = c.args in
    let r = a.evaluation.now in
    let shape = evaluation_shape r in
    record {
      count = c.merge_update.ensures.keeps.count;
      so_far_count = search rules;
      path = search rules;
      formed = λ U stands consistent.
          goes_by_one shape _ U (one (location_at shape c.in-Update.n) c.in-Update.value) c.merge_update.new.so_far a.forming.now.instances c.merge_update.new.forming.instances c.merge_update.result
          (single_upon r c.upon-view.result a.frame.now (rule_of a.rule.now) (at a.forming.now.path.items a.number) c.upon-view.ensures.signature
          c.in_ok-single_update.field-0 (single.Update c.in-Update.n c.in-Update.value) U c.in-Update.is (c.upon-view.ensures.fired U stands consistent) c.in_ok-single_update.ensures).1
          (omega (arith, a.forming.now.in_range)) c.merge_update.ensures.keeps.instances c.merge_update.ensures.part
          (on_ok_weaker c.merge_update.result (λ merges. merges U stands) c.merge_update.ensures.merge);
      exhausted = λ U stands consistent. stopped_for_memory (rule_upon r U a.frame.now (at a.forming.now.path.items a.number) (rule_of a.rule.now)) _ c.merge_update.result c.merge_update.ensures.keeps.stopped;
    }

pub sequences::merge_numbered-returns-clause-formed : goal.sequences::merge_numbered-returns-clause-formed
sequences::merge_numbered-returns-clause-formed g t c =
    let a = c.args in
    let r = a.evaluation.now in
    let shape = evaluation_shape r in
    let v = c.merge_rule.new.forming.path in
    record {
      count = c.in_ok-part.ensures.formed.count;
      so_far_count = c.in_ok-part.ensures.formed.so_far_count;
      path = popped v.items c.pop.new.self.items a.forming.now.path.items v.len a.number (omega (arith, v.ok.0)) c.pop.ensures.rest (c.in_ok-part.ensures.formed.path ∙ c.in_ok-push.ensures.items);
      formed = λ U stands consistent.
          subst (λ q. IsMergedPart shape (rule_upon r U a.frame.now q (rule_of a.rule.now)) U c.merge_rule.new.so_far c.in_ok-part.part a.forming.now.instances c.merge_rule.new.forming.instances)
          c.in_ok-push.ensures.items (c.in_ok-part.ensures.formed.formed U stands consistent);
      exhausted = λ U stands consistent. tt;
    }

pub sequences::merge_rule-returns-in-Seq-clause-formed : goal.sequences::merge_rule-returns-in-Seq-clause-formed
sequences::merge_rule-returns-in-Seq-clause-formed g t c =
    let a = c.args in
    let r = a.evaluation.now in
    let shape = evaluation_shape r in
    upon_same shape _ _ _ _ _ _ c.merge_in_order.result
    (λ U stands consistent.
    seq_yields shape r.turns (evaluation_choices r) (readings_of shape a.frame.now) (frame_locations shape a.frame.now) (fire (evaluation_state r) U) a.forming.now.path.items a.rule.now c.in-Seq.parts c.in-Seq.is c.as_slice.result.now c.as_slice.ensures.value)
    c.merge_in_order.ensures.formed

pub sequences::merge_rule-returns-in-If-clause-formed : goal.sequences::merge_rule-returns-in-If-clause-formed
sequences::merge_rule-returns-in-If-clause-formed g t c =
    let a = c.args in
    let r = a.evaluation.now in
    let shape = evaluation_shape r in
    upon_same shape _ _ _ _ _ _ c.merge_if.result
    (λ U stands consistent.
    if_is shape r.turns (evaluation_choices r) (readings_of shape a.frame.now) (frame_locations shape a.frame.now) (fire (evaluation_state r) U) a.forming.now.path.items a.rule.now c.in-If.test c.in-If.yes c.in-If.no c.in-If.is _ c.deref.result.now c.deref-in-If.result.now refl c.deref.ensures c.deref-in-If.ensures)
    c.merge_if.ensures.formed

pub sequences::merge_rule-returns-in-Iterate-clause-formed : goal.sequences::merge_rule-returns-in-Iterate-clause-formed
sequences::merge_rule-returns-in-Iterate-clause-formed g t c =
    let a = c.args in
    let r = a.evaluation.now in
    let shape = evaluation_shape r in
    upon_same shape _ _ _ _ _ _ c.merge_turns.result
    (λ U stands consistent.
    iterate_yields shape r.turns (evaluation_choices r) (readings_of shape a.frame.now) (frame_locations shape a.frame.now) (fire (evaluation_state r) U) a.forming.now.path.items a.rule.now c.in-Iterate.body c.in-Iterate.is c.deref-in-Iterate.result.now c.deref-in-Iterate.ensures)
    c.merge_turns.ensures.formed

pub sequences::merge_rule-returns-in-Call-clause-formed : goal.sequences::merge_rule-returns-in-Call-clause-formed
sequences::merge_rule-returns-in-Call-clause-formed g t c =
    let a = c.args in
    let r = a.evaluation.now in
    let shape = evaluation_shape r in
    upon_same shape _ _ _ _ _ _ c.merge_call.result
    (λ U stands consistent.
    call_is shape r.turns (evaluation_choices r) (readings_of shape a.frame.now) (frame_locations shape a.frame.now) (fire (evaluation_state r) U) a.forming.now.path.items a.rule.now c.in-Call.body c.in-Call.answer c.in-Call.arguments c.in-Call.is c.deref-in-Call.result.now _ c.as_slice-in-Call.result.now c.deref-in-Call.ensures refl c.as_slice-in-Call.ensures.value)
    c.merge_call.ensures.formed

pub sequences::merge_if-returns-then-holds_upon-clause-formed : goal.sequences::merge_if-returns-then-holds_upon-clause-formed
sequences::merge_if-returns-then-holds_upon-clause-formed g t c =
    let a = c.args in
    let r = a.evaluation.now in
    let shape = evaluation_shape r in
    upon_same shape _ _ _ _ _ _ c.form_next.result
    (λ U stands consistent.
    if_yes shape r.turns (evaluation_choices r) (readings_of shape a.frame.now) (frame_locations shape a.frame.now) (fire (evaluation_state r) U) a.forming.now.path.items a.test.now a.yes.now a.no.now (sym (c.holds_upon.ensures U stands consistent) ∙ c.if-holds_upon.true))
    c.form_next.ensures.formed

pub sequences::merge_if-returns-clause-formed : goal.sequences::merge_if-returns-clause-formed
sequences::merge_if-returns-clause-formed g t c =
    let a = c.args in
    let r = a.evaluation.now in
    let shape = evaluation_shape r in
    upon_same shape _ _ _ _ _ _ c.form_next-2.result
    (λ U stands consistent.
    if_no shape r.turns (evaluation_choices r) (readings_of shape a.frame.now) (frame_locations shape a.frame.now) (fire (evaluation_state r) U) a.forming.now.path.items a.test.now a.yes.now a.no.now (sym (c.holds_upon.ensures U stands consistent) ∙ c.if-holds_upon.false))
    c.form_next-2.ensures.formed

pub sequences::merge_call-returns-clause-formed : goal.sequences::merge_call-returns-clause-formed
sequences::merge_call-returns-clause-formed g t c =
    let a = c.args in
    let r = a.evaluation.now in
    let shape = evaluation_shape r in
    upon_same shape _ _ _ _ _ _ c.form_next.result
    (λ U stands consistent.
    call_with shape r.turns (evaluation_choices r) (readings_of shape a.frame.now) (frame_locations shape a.frame.now) (fire (evaluation_state r) U) a.forming.now.path.items a.body.now a.answer.now a.arguments.now c.in_ok-answer.answer (c.in_ok-answer.ensures.location U stands consistent))
    c.form_next.ensures.formed

pub sequences::form_upon-returns-clause-formed : goal.sequences::form_upon-returns-clause-formed
sequences::form_upon-returns-clause-formed g t c =
    let a = c.args in
    let r = a.evaluation.now in
    let shape = evaluation_shape r in
    record {
      count = search rules;
      so_far_count = search rules;
      path = search rules;
      formed = λ U stands consistent.
          let v = c.upon-view.result in
          subst (λ n. IsMergedPart shape (rule_upon r U a.frame.now a.forming.now.path.items (rule_of a.rule.now)) U c.merge_part.new.so_far c.of-part.result a.forming.now.instances n) (sym c.merge_part.ensures.keeps.instances)
          (goes_upon shape _ U c.clear.new.self a.so_far.now c.merge_part.new.so_far c.form.new.forming.set c.of-part.result a.forming.now.instances c.form.new.forming.instances
          (c.clear.ensures.empty shape r.view.now.sound c.requires.fits)
          stands
          (c.in_ok-merge_part.ensures.merge shape)
          c.of-part.ensures
          (forms_same shape _ _ _ _ _ _
          (ap (rule_in r a.frame.now a.forming.now.path.items (rule_of a.rule.now)) (c.upon-view.ensures.fired U stands consistent))
          (subst (λ s. Forms s (meaning s r.turns (evaluation_choices r) (rule_of a.rule.now) (readings_of s a.frame.now) (frame_locations s a.frame.now) (shown v) a.forming.now.path.items) c.clear.new.self c.form.new.forming.set a.forming.now.instances c.form.new.forming.instances) c.upon-view.ensures.signature
          c.in_ok-form.ensures.formed.formed)));
      exhausted = λ U stands consistent. tt;
    }

-- ---- turns

pub sequences::merge_turns-loop-turn-init : goal.sequences::merge_turns-loop-turn-init
sequences::merge_turns-loop-turn-init g t c =
    let a = c.args in
    let r = a.evaluation.now in
    let shape = evaluation_shape r in
    record {
      ready = c.requires.ready;
      same_count = refl;
      same_path = refl;
      counted = c.requires.so_far;
      underway = λ U stands consistent. upon_begins shape U (fire (evaluation_state r) U) _
          (turns_left shape r.turns (evaluation_choices r) (readings_of shape a.frame.now) (frame_locations shape a.frame.now) a.forming.now.path.items r.turns (rule_of a.body.now) 0)
          a.so_far.now a.forming.now.instances
          (sym (iterate_yields_turns shape r.turns (evaluation_choices r) (readings_of shape a.frame.now) (frame_locations shape a.frame.now) a.forming.now.path.items (rule_of a.body.now) (fire (evaluation_state r) U)))
          (omega (arith, a.forming.now.in_range)) stands;
    }

pub sequences::merge_turns-loop-turn-preserved : goal.sequences::merge_turns-loop-turn-preserved
sequences::merge_turns-loop-turn-preserved g t c =
    let a = c.args in
    let r = a.evaluation.now in
    let shape = evaluation_shape r in
    let l = c.loop-turn in
    record {
      ready = c.in_ok-part.ensures.ready;
      same_count = c.in_ok-part.ensures.formed.count ∙ l.invariant.same_count;
      same_path = c.in_ok-part.ensures.formed.path ∙ l.invariant.same_path;
      counted = c.in_ok-part.ensures.formed.so_far_count ∙ l.invariant.counted;
      underway = λ U stands consistent.
          let under = l.invariant.underway U stands consistent in
          let on = c.in_ok-part.ensures.formed.formed (merge U under.set) under.stands (merge_laws.consistent U under.set consistent under.consistent) in
          turn_goes_on shape r.turns (evaluation_choices r) (readings_of shape a.frame.now) (frame_locations shape a.frame.now) a.forming.now.path.items (evaluation_state r) U _ _ _ _ _ r.turns (rule_of a.body.now) l.turn under
          l.forming.path.items c.from.result l.invariant.same_path c.loop-turn-test.true c.from.ensures
          c.form_next.new.so_far c.in_ok-part.part c.joined-whole.result c.form_next.new.forming.instances on
          (some_turn on.set c.in_ok-part.part on.is (sym c.ends_turns.ensures ∙ c.if-ends_turns.false))
          (consistent_turn on.set c.in_ok-part.part on.is (sym c.ends_turns.ensures ∙ c.if-ends_turns.false))
          (c.joined-whole.ensures under.set on.set under.consistent under.is on.is);
    }

pub sequences::merge_turns-returns-then-ends_turns-clause-formed : goal.sequences::merge_turns-returns-then-ends_turns-clause-formed
sequences::merge_turns-returns-then-ends_turns-clause-formed g t c =
    let a = c.args in
    let r = a.evaluation.now in
    let shape = evaluation_shape r in
    let l = c.loop-turn in
    record {
      count = c.in_ok-part.ensures.formed.count ∙ l.invariant.same_count;
      so_far_count = c.in_ok-part.ensures.formed.so_far_count ∙ l.invariant.counted ∙ sym c.requires.so_far;
      path = c.in_ok-part.ensures.formed.path ∙ l.invariant.same_path;
      formed = λ U stands consistent.
          let under = l.invariant.underway U stands consistent in
          let on = c.in_ok-part.ensures.formed.formed (merge U under.set) under.stands (merge_laws.consistent U under.set consistent under.consistent) in
          turn_ends shape r.turns (evaluation_choices r) (readings_of shape a.frame.now) (frame_locations shape a.frame.now) a.forming.now.path.items (evaluation_state r) U _ _ _ _ _ r.turns (rule_of a.body.now) l.turn under
          l.forming.path.items c.from.result l.invariant.same_path c.loop-turn-test.true c.from.ensures
          c.form_next.new.so_far c.in_ok-part.part c.joined-whole.result c.form_next.new.forming.instances on
          (ending_turn on.set c.in_ok-part.part on.is (sym c.ends_turns.ensures ∙ c.if-ends_turns.true))
          (c.joined-whole.ensures under.set on.set under.consistent under.is on.is);
      exhausted = λ U stands consistent. tt;
    }

pub sequences::merge_turns-returns-in_err-part-clause-formed : goal.sequences::merge_turns-returns-in_err-part-clause-formed
sequences::merge_turns-returns-in_err-part-clause-formed g t c =
    let a = c.args in
    let r = a.evaluation.now in
    let shape = evaluation_shape r in
    let l = c.loop-turn in
    record {
      count = c.form_next.ensures.formed.count ∙ l.invariant.same_count;
      so_far_count = search rules;
      path = search rules;
      formed = search rules;
      exhausted = λ U stands consistent.
          let under = l.invariant.underway U stands consistent in
          turn_stops shape r.turns (evaluation_choices r) (readings_of shape a.frame.now) (frame_locations shape a.frame.now) a.forming.now.path.items (evaluation_state r) U _ _ _ _ _ r.turns (rule_of a.body.now) l.turn under
          l.forming.path.items c.from.result l.invariant.same_path c.loop-turn-test.true c.from.ensures
          c.form_next.new.forming.path.items c.form_next.result c.from_residual.result c.in_err-part.field-0.0 c.in_err-part.was c.from_residual.ensures.1
          (c.form_next.ensures.formed.exhausted (merge U under.set) under.stands (merge_laws.consistent U under.set consistent under.consistent));
    }

pub sequences::merge_turns-returns-clause-formed : goal.sequences::merge_turns-returns-clause-formed
sequences::merge_turns-returns-clause-formed g t c =
    let a = c.args in
    let r = a.evaluation.now in
    let shape = evaluation_shape r in
    let l = c.loop-turn in
    record {
      count = l.invariant.same_count;
      so_far_count = tt;
      path = tt;
      formed = λ U stands consistent. tt;
      exhausted = λ U stands consistent.
          turns_stop shape r.turns (evaluation_choices r) (readings_of shape a.frame.now) (frame_locations shape a.frame.now) a.forming.now.path.items (evaluation_state r) U _ _ _ _ _ r.turns (rule_of a.body.now) l.turn (l.invariant.underway U stands consistent) c.loop-turn-test.false ∙ ap Exhausted (sym l.invariant.same_path);
    }

pub form::form-returns-in-Iterate-clause-formed : goal.form::form-returns-in-Iterate-clause-formed
form::form-returns-in-Iterate-clause-formed g t c =
    let a = c.args in
    let r = a.evaluation.now in
    let shape = evaluation_shape r in
    follows_same shape c.form_turns.result _ _ _ _
    (iterate_yields shape r.turns (evaluation_choices r) (readings_of shape a.frame.now) (frame_locations shape a.frame.now) (evaluation_state r) a.forming.now.path.items a.rule.now c.in-Iterate.body c.in-Iterate.is c.deref-in-Iterate.result.now c.deref-in-Iterate.ensures)
    c.form_turns.ensures.formed

-- ---- values of a universe

pub form::form_span-loop-i-init : goal.form::form_span-loop-i-init
form::form_span-loop-i-init g t c =
    let a = c.args in
    let r = a.evaluation.now in
    let shape = evaluation_shape r in
    let us = universe_at shape a.over in
    let passes = is_passing r.view.now a.frame.now a.test.now in
    record {
      ready = c.requires.ready;
      same_count = refl;
      same_path = refl;
      left = left_begins shape r.turns (evaluation_choices r) (readings_of shape a.frame.now) (frame_locations shape a.frame.now) (evaluation_state r) a.forming.now.path.items passes (rule_of a.body.now) c.first_code-low.result a.from (between a.from a.to us) a.forming.now
          (codes_between c.first_code-low.result c.universe-universe.result.now us c.first_code-low.ensures (universe_here shape.universes a.over c.universe-universe.result.now c.universe-universe.ensures) a.from a.to);
    }

pub form::form_span-loop-k-init : goal.form::form_span-loop-k-init
form::form_span-loop-k-init g t c =
    let a = c.args in
    let r = a.evaluation.now in
    let shape = evaluation_shape r in
    let us = universe_at shape a.over in
    let passes = is_passing r.view.now a.frame.now a.test.now in
    let l = c.loop-i in
    let same = universe_here shape.universes a.over c.universe-universe.result.now c.universe-universe.ensures in
    record {
      ready = l.invariant.ready;
      same_count = l.invariant.same_count;
      same_path = l.invariant.same_path;
      left = left_same shape r.turns (evaluation_choices r) (readings_of shape a.frame.now) (frame_locations shape a.frame.now) (evaluation_state r) a.forming.now.path.items passes (rule_of a.body.now) c.first_code-low.result (span_at r a.frame.now a.forming.now.path.items a.over (option_map code_of a.test.now) (rule_of a.body.now) a.from a.to) a.forming.now l.forming _ _
          (between_block passes l.i c.min-count.result a.to us (take c.min-count.result c.elements_from-elements.result) _ (omega (arith, c.min-count.ensures))
          (c.elements_from-elements.ensures ∙ ap (λ vs. take c.min-count.result (drop l.i vs)) (sym same)) c.keep_passing-kept.ensures.kept)
          l.invariant.left;
    }

pub form::form_span-overflow_sub-number : goal.form::form_span-overflow_sub-number
form::form_span-overflow_sub-number g t c =
    let a = c.args in
    let r = a.evaluation.now in
    let shape = evaluation_shape r in
    let us = universe_at shape a.over in
    let passes = is_passing r.view.now a.frame.now a.test.now in
    let l = c.loop-k in
    let v = value_of_code c.unbranded_code.result.value in
    let others = drop (l.k + 1) (take c.keep_passing-kept.result c.keep_passing-kept.new.elements) ++ filter passes (between (c.loop-i.i + c.min-count.result) a.to us) in
    let here = one_more l.k c.keep_passing-kept.result c.keep_passing-kept.new.elements (filter passes (between (c.loop-i.i + c.min-count.result) a.to us)) v c.index-elements-k.result c.loop-k-test.true (omega (arith, c.keep_passing-kept.ensures.few, c.min-count.ensures)) c.unbranded_code.ensures in
    let under = left_same shape r.turns (evaluation_choices r) (readings_of shape a.frame.now) (frame_locations shape a.frame.now) (evaluation_state r) a.forming.now.path.items passes (rule_of a.body.now) c.first_code-low.result (span_at r a.frame.now a.forming.now.path.items a.over (option_map code_of a.test.now) (rule_of a.body.now) a.from a.to) a.forming.now l.forming _ (v ∷ others) here l.invariant.left in
    let next = next_of shape r.turns (evaluation_choices r) (readings_of shape a.frame.now) (frame_locations shape a.frame.now) (evaluation_state r) a.forming.now.path.items passes (rule_of a.body.now) c.first_code-low.result (span_at r a.frame.now a.forming.now.path.items a.over (option_map code_of a.test.now) (rule_of a.body.now) a.from a.to) a.forming.now l.forming v others under in
    omega (arith, next.code, ap values.code_of c.unbranded_code.ensures, c.code.ensures.code)

pub form::form_span-loop-k-preserved : goal.form::form_span-loop-k-preserved
form::form_span-loop-k-preserved g t c =
    let a = c.args in
    let r = a.evaluation.now in
    let shape = evaluation_shape r in
    let us = universe_at shape a.over in
    let passes = is_passing r.view.now a.frame.now a.test.now in
    let l = c.loop-k in
    let v = value_of_code c.unbranded_code.result.value in
    let others = drop (l.k + 1) (take c.keep_passing-kept.result c.keep_passing-kept.new.elements) ++ filter passes (between (c.loop-i.i + c.min-count.result) a.to us) in
    let here = one_more l.k c.keep_passing-kept.result c.keep_passing-kept.new.elements (filter passes (between (c.loop-i.i + c.min-count.result) a.to us)) v c.index-elements-k.result c.loop-k-test.true (omega (arith, c.keep_passing-kept.ensures.few, c.min-count.ensures)) c.unbranded_code.ensures in
    let under = left_same shape r.turns (evaluation_choices r) (readings_of shape a.frame.now) (frame_locations shape a.frame.now) (evaluation_state r) a.forming.now.path.items passes (rule_of a.body.now) c.first_code-low.result (span_at r a.frame.now a.forming.now.path.items a.over (option_map code_of a.test.now) (rule_of a.body.now) a.from a.to) a.forming.now l.forming _ (v ∷ others) here l.invariant.left in
    let next = next_of shape r.turns (evaluation_choices r) (readings_of shape a.frame.now) (frame_locations shape a.frame.now) (evaluation_state r) a.forming.now.path.items passes (rule_of a.body.now) c.first_code-low.result (span_at r a.frame.now a.forming.now.path.items a.over (option_map code_of a.test.now) (rule_of a.body.now) a.from a.to) a.forming.now l.forming v others under in
    let number : c.code.result - c.first_code-low.result ≡ next.place = omega (arith, next.code, ap values.code_of c.unbranded_code.ensures, c.code.ensures.code) in
    record {
      ready = c.in_ok-form_part.ensures.ready;
      same_count = c.in_ok-form_part.ensures.formed.count ∙ l.invariant.same_count;
      same_path = c.in_ok-form_part.ensures.formed.path ∙ l.invariant.same_path;
      left = record {
        place = suc next.place;
        rest = next.rest;
        left = next.left;
        codes = next.codes;
        follows = λ new result rest. under.follows new result (follows_same shape result _ _ _ _ (sym next.yields)
            (follows_counted shape result _ _ _ _ refl refl c.saturating_add-forming.ensures
            (follows_both shape tt result _ _ _ _ _
            (follows_same shape _ _ _ _ _ (λ i. element_does r a.frame.now (l.invariant.same_path i) (number i) v a.body.now) c.in_ok-form_part.ensures.formed)
            rest)));
      };
    }

pub form::form_span-loop-i-preserved : goal.form::form_span-loop-i-preserved
form::form_span-loop-i-preserved g t c =
    let a = c.args in
    let r = a.evaluation.now in
    let shape = evaluation_shape r in
    let us = universe_at shape a.over in
    let passes = is_passing r.view.now a.frame.now a.test.now in
    let l = c.loop-k in
    record {
      ready = l.invariant.ready;
      same_count = l.invariant.same_count;
      same_path = l.invariant.same_path;
      left = left_same shape r.turns (evaluation_choices r) (readings_of shape a.frame.now) (frame_locations shape a.frame.now) (evaluation_state r) a.forming.now.path.items passes (rule_of a.body.now) c.first_code-low.result (span_at r a.frame.now a.forming.now.path.items a.over (option_map code_of a.test.now) (rule_of a.body.now) a.from a.to) a.forming.now l.forming _ _ (none_more l.k c.keep_passing-kept.result c.keep_passing-kept.new.elements _ c.loop-k-test.false) l.invariant.left;
    }

pub form::form_span-returns-clause-formed : goal.form::form_span-returns-clause-formed
form::form_span-returns-clause-formed g t c =
    let a = c.args in
    let r = a.evaluation.now in
    let shape = evaluation_shape r in
    let us = universe_at shape a.over in
    let passes = is_passing r.view.now a.frame.now a.test.now in
    let l = c.loop-i in
    let under = left_same shape r.turns (evaluation_choices r) (readings_of shape a.frame.now) (frame_locations shape a.frame.now) (evaluation_state r) a.forming.now.path.items passes (rule_of a.body.now) c.first_code-low.result (span_at r a.frame.now a.forming.now.path.items a.over (option_map code_of a.test.now) (rule_of a.body.now) a.from a.to) a.forming.now l.forming _ [] (none_between passes l.i a.to us c.loop-i-test.false) l.invariant.left in
    under.follows _ _ (follows_nothing shape tt _ _ (sym (left_ends shape r.turns (evaluation_choices r) (readings_of shape a.frame.now) (frame_locations shape a.frame.now) (evaluation_state r) a.forming.now.path.items passes (rule_of a.body.now) c.first_code-low.result (span_at r a.frame.now a.forming.now.path.items a.over (option_map code_of a.test.now) (rule_of a.body.now) a.from a.to) a.forming.now l.forming under)))

pub form::form_span-returns-in_err-form_part-clause-formed : goal.form::form_span-returns-in_err-form_part-clause-formed
form::form_span-returns-in_err-form_part-clause-formed g t c =
    let a = c.args in
    let r = a.evaluation.now in
    let shape = evaluation_shape r in
    let us = universe_at shape a.over in
    let passes = is_passing r.view.now a.frame.now a.test.now in
    let l = c.loop-k in
    let v = value_of_code c.unbranded_code.result.value in
    let others = drop (l.k + 1) (take c.keep_passing-kept.result c.keep_passing-kept.new.elements) ++ filter passes (between (c.loop-i.i + c.min-count.result) a.to us) in
    let here = one_more l.k c.keep_passing-kept.result c.keep_passing-kept.new.elements (filter passes (between (c.loop-i.i + c.min-count.result) a.to us)) v c.index-elements-k.result c.loop-k-test.true (omega (arith, c.keep_passing-kept.ensures.few, c.min-count.ensures)) c.unbranded_code.ensures in
    let under = left_same shape r.turns (evaluation_choices r) (readings_of shape a.frame.now) (frame_locations shape a.frame.now) (evaluation_state r) a.forming.now.path.items passes (rule_of a.body.now) c.first_code-low.result (span_at r a.frame.now a.forming.now.path.items a.over (option_map code_of a.test.now) (rule_of a.body.now) a.from a.to) a.forming.now l.forming _ (v ∷ others) here l.invariant.left in
    let next = next_of shape r.turns (evaluation_choices r) (readings_of shape a.frame.now) (frame_locations shape a.frame.now) (evaluation_state r) a.forming.now.path.items passes (rule_of a.body.now) c.first_code-low.result (span_at r a.frame.now a.forming.now.path.items a.over (option_map code_of a.test.now) (rule_of a.body.now) a.from a.to) a.forming.now l.forming v others under in
    let number : c.code.result - c.first_code-low.result ≡ next.place = omega (arith, next.code, ap values.code_of c.unbranded_code.ensures, c.code.ensures.code) in
    let residual = c.from_residual in
    under.follows _ _ (follows_stopped shape c.form_part.result residual.result c.in_err-form_part.field-0.0 _ _ _ _ _ refl c.in_err-form_part.was residual.ensures.1
    (λ last ends. next.stops last (sym (λ i. (element_does r a.frame.now (l.invariant.same_path i) (number i) v a.body.now).result) ∙ ends))
    c.form_part.ensures.formed)

pub form::form-returns-in-Left-2-clause-formed : goal.form::form-returns-in-Left-2-clause-formed
form::form-returns-in-Left-2-clause-formed g t c =
    let a = c.args in
    let r = a.evaluation.now in
    let shape = evaluation_shape r in
    let left = c.region-in-Forall.new.forming in
    let same = nothing_done shape _ a.forming.now left _ c.in-Left-2.is c.in_ok-region-in-Forall.ensures.taken in
    subst (λ (m : Forming). Follows shape (rule_at r a.frame.now m.path.items (rule_of a.rule.now)) m c.form_span.new.forming c.form_span.result) same (
    follows_same shape c.form_span.result _ _ _ _
    (forall_yields shape r.turns (evaluation_choices r) (readings_of shape a.frame.now) (frame_locations shape a.frame.now) (evaluation_state r) left.path.items a.rule.now c.in-Forall.over c.in-Forall.test c.in-Forall.body c.in-Forall.is _ refl c.deref-in-Left-2.result.now c.deref-in-Left-2.ensures _
    (size_here shape.universes c.in-Forall.over c.universe.result.now c.size-size.result c.universe.ensures c.size-size.ensures.size))
    c.form_span.ensures.formed)

pub form::form-returns-in-Choose-clause-formed : goal.form::form-returns-in-Choose-clause-formed
form::form-returns-in-Choose-clause-formed g t c =
    let a = c.args in
    let r = a.evaluation.now in
    let shape = evaluation_shape r in
    follows_same shape c.form_choose.result _ _ _ _
    (choose_is shape r.turns (evaluation_choices r) (readings_of shape a.frame.now) (frame_locations shape a.frame.now) (evaluation_state r) a.forming.now.path.items a.rule.now c.in-Choose.over c.in-Choose.test c.in-Choose.body c.in-Choose.none c.in-Choose.is _ c.deref-in-Choose.result.now c.deref-in-Choose-2.result.now refl c.deref-in-Choose.ensures c.deref-in-Choose-2.ensures)
    c.form_choose.ensures.formed

pub form::form_choose-returns-clause-formed : goal.form::form_choose-returns-clause-formed
form::form_choose-returns-clause-formed g t c =
    let a = c.args in
    let r = a.evaluation.now in
    let shape = evaluation_shape r in
    follows_same shape c.form_part-2.result _ _ _ _
    (choose_some shape r.turns (evaluation_choices r) (readings_of shape a.frame.now) (frame_locations shape a.frame.now) (evaluation_state r) a.forming.now.path.items a.over a.test.now a.body.now a.none.now (value_of_code c.unbranded_code.result.value)
    (ap Some c.unbranded_code.ensures ∙ sym c.in-Some.is ∙ c.chosen.ensures ∙ ap (λ q. taken (evaluation_choices r q) (passing_in r.view.now a.frame.now a.over a.test.now)) c.as_slice.ensures.value))
    c.form_part-2.ensures.formed

pub form::form_choose-returns-in_default-clause-formed : goal.form::form_choose-returns-in_default-clause-formed
form::form_choose-returns-in_default-clause-formed g t c =
    let a = c.args in
    let r = a.evaluation.now in
    let shape = evaluation_shape r in
    follows_same shape c.form_part.result _ _ _ _
    (choose_none shape r.turns (evaluation_choices r) (readings_of shape a.frame.now) (frame_locations shape a.frame.now) (evaluation_state r) a.forming.now.path.items a.over a.test.now a.body.now a.none.now
    (sym c.in_default.is ∙ c.chosen.ensures ∙ ap (λ q. taken (evaluation_choices r q) (passing_in r.view.now a.frame.now a.over a.test.now)) c.as_slice.ensures.value))
    c.form_part.ensures.formed

-- ---- calls

pub form::form-returns-in-Call-clause-formed : goal.form::form-returns-in-Call-clause-formed
form::form-returns-in-Call-clause-formed g t c =
    let a = c.args in
    let r = a.evaluation.now in
    let shape = evaluation_shape r in
    follows_same shape c.form_call.result _ _ _ _
    (call_is shape r.turns (evaluation_choices r) (readings_of shape a.frame.now) (frame_locations shape a.frame.now) (evaluation_state r) a.forming.now.path.items a.rule.now c.in-Call.body c.in-Call.answer c.in-Call.arguments c.in-Call.is c.deref-in-Call.result.now _ c.as_slice-in-Call.result.now c.deref-in-Call.ensures refl c.as_slice-in-Call.ensures.value)
    c.form_call.ensures.formed

pub form::form_call-returns-clause-formed : goal.form::form_call-returns-clause-formed
form::form_call-returns-clause-formed g t c =
    let a = c.args in
    let r = a.evaluation.now in
    let shape = evaluation_shape r in
    follows_same shape c.form_part.result _ _ _ _
    (call_with shape r.turns (evaluation_choices r) (readings_of shape a.frame.now) (frame_locations shape a.frame.now) (evaluation_state r) a.forming.now.path.items a.body.now a.answer.now a.arguments.now c.in_ok-answer.answer c.in_ok-answer.ensures.location) c.form_part.ensures.formed
