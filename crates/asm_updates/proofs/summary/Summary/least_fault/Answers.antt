use Rattle.std.proofs.Common.{◌≡◌, None, Some, drop, ◌+◌, sym, subst, arith, rules}
use Rattle.std.proofs.lemmas.List.{drop_all}
use Rattle.std.proofs.lemmas.Option.{MatchOption-at_none}
use Rattle.asm_updates.proofs.IndexedRanges.{drop_one}
use Rattle.asm_updates.proofs.Faults.{IsSoFar, fault_so_far, settled_so_far, all_consistent, all_first}
use Rattle.asm_updates.proofs.summary.Summary.least_fault.Goals as goal
use Rattle.asm_updates.proofs.summary.Summary.least_fault.Goals.{then-n-end+in-Some, else-n-end, else-n-end-via-else-n-end, else-n-end-via-then-n-end+in-None-1}

pub loop-i-preserved : goal.loop-i-preserved
loop-i-preserved c =
    let shape = c.args.signature.now in
    let s = c.args.self.now in
    let e = c.entry_at-n.result in
    let left = drop (c.loop-i.i + 1) s.ranges in
    let now = subst (λ es. IsSoFar shape s es c.loop-i.end c.loop-i.first) (drop_one s.ranges c.loop-i.i (e.0, (e.1, e.2)) c.entry_at-n.ensures.position) c.loop-i.invariant in
    elim c.if-n-end.branch [
      | then-n-end+in-Some w ↦
          subst (IsSoFar shape s left c.if-n-end.end) (sym w.first-is)
          (subst (λ m. IsSoFar shape s left m (Some w.in-Some.fault)) (sym w.end-is)
          (fault_so_far shape s e.0 (e.1, e.2) left c.loop-i.end c.loop-i.first now w.in-Some.fault w.if-n-end.true w.in-Some.ensures.fault))
      | else-n-end w ↦
          subst (IsSoFar shape s left c.if-n-end.end) (sym w.first-is)
          (subst (λ m. IsSoFar shape s left m c.loop-i.first) (sym w.end-is)
          (settled_so_far shape s e.0 (e.1, e.2) left c.loop-i.end c.loop-i.first now
          (λ less. elim w.else-n-end.branch [
            | else-n-end-via-else-n-end v ↦ absurd (omega (arith, v.if-n-end.false))
            | else-n-end-via-then-n-end+in-None-1 v ↦
                let none : v.fault_at.result ≡ None = search rules in
                MatchOption-at_none _ _ none v.fault_at.ensures.settled
          ])))
    ]

pub returns-clause-consistent : goal.returns-clause-consistent
returns-clause-consistent c =
    all_consistent c.args.signature.now c.args.self.now c.loop-i.end c.loop-i.first c.requires
    (subst (λ es. IsSoFar c.args.signature.now c.args.self.now es c.loop-i.end c.loop-i.first) (drop_all c.loop-i.i c.args.self.now.ranges (omega (arith, c.loop-i-test.false, c.len-i-end.ensures.len))) c.loop-i.invariant)

pub returns-clause-first : goal.returns-clause-first
returns-clause-first c =
    all_first c.args.signature.now c.args.self.now c.loop-i.end c.loop-i.first c.requires
    (subst (λ es. IsSoFar c.args.signature.now c.args.self.now es c.loop-i.end c.loop-i.first) (drop_all c.loop-i.i c.args.self.now.ranges (omega (arith, c.loop-i-test.false, c.len-i-end.ensures.len))) c.loop-i.invariant)
