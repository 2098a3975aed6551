use Rattle.std.proofs.Common.{◌≡◌, ℕ, ◌+◌, None, Vec, Global, sym, subst, arith}
use Rattle.asm_state.specs.declared.word.Word.{Word}
use Rattle.asm_updates.specs.code.SummaryRanges.{first_range}
use Rattle.asm_updates.specs.code.IndexedRanges.{IsAt}
use Rattle.asm_updates.proofs.RangesGathered.{AreGathered, gathered-none, gathered-skip, gathered-read, gathered-all}
use Rattle.asm_updates.proofs.ranges.gather_entries.Goals as goal
use Rattle.asm_updates.proofs.ranges.gather_entries.Goals.{in-Some+in_ok-push, in_default}

pub loop-n-init : goal.loop-n-init
loop-n-init c = gathered-none c.args.count c.args.entries.now.items _ (c.in_ok-gathered.ensures.items)

pub loop-n-preserved : goal.loop-n-preserved
loop-n-preserved c =
    let es = c.args.entries.now.items in
    let n = c.loop-n.n in
    elim c.match-known_position.branch [
      | in-Some+in_ok-push w ↦
          let at : IsAt es w.in-Some.i n = subst (λ fs. IsAt fs w.in-Some.i n) c.deref.ensures.value w.in-Some.ensures.some in
          subst (λ (v : Vec (ℕ × (Word × Word)) Global). AreGathered c.args.count es v.items (n + 1)) (sym w.gathered-is)
          (gathered-read c.args.count es c.loop-n.gathered.items w.push.new.self.items w.in-Some.i n w.index.result.now c.requires.sound c.loop-n-test.true at w.index.ensures w.in_ok-push.ensures.items c.loop-n.invariant)
      | in_default w ↦
          subst (λ (v : Vec (ℕ × (Word × Word)) Global). AreGathered c.args.count es v.items (n + 1)) (sym w.gathered-is)
          (gathered-skip c.args.count es c.loop-n.gathered.items n (subst (λ fs. first_range fs n ≡ None) c.deref.ensures.value w.in_default.ensures.none) c.loop-n.invariant)
    ]

pub returns-clause-same : goal.returns-clause-same
returns-clause-same c = gathered-all c.args.count c.args.entries.now.items c.loop-n.gathered.items c.loop-n.n c.requires.sound (omega (arith, c.loop-n-test.false)) c.loop-n.invariant
