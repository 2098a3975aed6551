use Rattle.std.proofs.Common.{drop, ◌+◌, get_or, refl, sym, ◌∙◌, arith}
use Rattle.std.proofs.lemmas.List.{at_drop_all}
use Rattle.asm_state.specs.declared.value.Value.TheVariants.{Undef}
use Rattle.asm_state.specs.Updates.{overwritten}
use Rattle.asm_updates.specs.code.SummaryRanges.{first_range}
use Rattle.asm_updates.proofs.IndexedRanges.{AreEntries-drop, drop_one}
use Rattle.asm_updates.proofs.RangesFound.{one_more}
use Rattle.asm_updates.proofs.Firing.{fired_state, fired_is_state, changed_content}
use Rattle.asm_updates.proofs.summary.Summary.fire_into.Goals as goal

pub loop-i-preserved : goal.loop-i-preserved
loop-i-preserved c =
    let es = c.args.self.now.ranges in
    let i = c.loop-i.i in
    let e = c.entry_at-n.result in
    let at = c.loop-i.invariant in record {
      whole = c.set.ensures.whole ∙ at.whole;
      own = at.own;
      fires = λ k.
          one_more (λ v r. overwritten r v) (λ v. refl) (drop i es) (drop (i + 1) es) e.0 (e.1, e.2)
          (drop_one es i (e.0, (e.1, e.2)) c.entry_at-n.ensures.position)
          (AreEntries-drop c.args.self.now.count i es at.own).unique
          (λ n. get_or c.loop-i.state n Undef) (λ n. get_or c.set.new.self n Undef)
          (changed_content c.loop-i.state c.set.new.self _ _ (omega (arith, c.entry_at-n.ensures.in_range, at.whole, c.requires)) c.set.ensures.set) k
          ∙ at.fires k;
    }

pub returns-clause-fired : goal.returns-clause-fired
returns-clause-fired c = λ shape U stands consistent.
    fired_state shape c.args.self.now U c.args.state.now c.loop-i.state stands
    (c.requires ∙ stands.has_count)
    (c.loop-i.invariant.whole ∙ c.requires ∙ stands.has_count)
    (λ n.
    sym (at_drop_all (λ es. overwritten (first_range es n) (get_or c.loop-i.state n Undef)) c.args.self.now.ranges c.loop-i.i (omega (arith, c.loop-i-test.false, c.len-i-end.ensures.len)))
    ∙ c.loop-i.invariant.fires n)
    consistent

pub returns-clause-state : goal.returns-clause-state
returns-clause-state c = λ shape U stands consistent before.
    fired_is_state shape c.args.self.now U c.args.state.now c.loop-i.state stands
    (c.requires ∙ stands.has_count)
    (c.loop-i.invariant.whole ∙ c.requires ∙ stands.has_count)
    (λ n.
    sym (at_drop_all (λ es. overwritten (first_range es n) (get_or c.loop-i.state n Undef)) c.args.self.now.ranges c.loop-i.i (omega (arith, c.loop-i-test.false, c.len-i-end.ensures.len)))
    ∙ c.loop-i.invariant.fires n)
    consistent before
