use Rattle.std.proofs.Common.{sym, subst}
use Rattle.asm_explore.specs.code.QuietStates.{IsRested}
use Rattle.asm_explore.specs.code.ReachedStates.{IsStopped}
use Rattle.asm_explore.specs.code.StepOutcomes.{IsOverLimitOf}
use Rattle.asm_explore.proofs.search.Search.look.Goals as goal

pub returns-clause-rests : goal.returns-clause-rests
returns-clause-rests g c =
    let machine = c.args.self.now.machine.now in
    subst (λ nodes. IsRested (g.M.Machine.shape machine) (g.M.Machine.specification machine) (g.M.Machine.turns machine) (g.M.Machine.rests machine) (g.M.Machine.within machine) c.args.self.now.steps
    c.expand_all-so_far.result.expanded nodes c.expand_all-so_far.new.quiet.items) (sym c.into_nodes.ensures.same) c.expand_all-so_far.ensures.rests

pub returns-clause-stopped : goal.returns-clause-stopped
returns-clause-stopped g c =
    let machine = c.args.self.now.machine.now in
    subst (λ nodes. IsStopped (g.M.Machine.shape machine) (g.M.Machine.specification machine) (g.M.Machine.turns machine) (IsOverLimitOf (g.M.Machine.made machine) (g.M.Machine.limit machine))
    (g.M.Machine.right machine) (g.M.Machine.rests machine) (g.M.Machine.within machine) c.args.self.now.steps c.args.self.now.limit nodes c.expand_all-so_far.result) (sym c.into_nodes.ensures.same) c.expand_all-so_far.ensures.stopped
