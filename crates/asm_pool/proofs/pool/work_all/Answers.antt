use Rattle.std.proofs.Common.{All, subst, sym, arith}
use Rattle.std.proofs.lemmas.List.Elements.{All-append, All-drop}
use Rattle.asm_pool.specs.code.Pool.{IsRun}
use Rattle.asm_pool.proofs.JoinedWorkers.{both-hands, idle-behind, idle-done, idle-fit, idle-once, zip-length}
use Rattle.asm_pool.proofs.pool.work_all.Goals as goal

pub returns-clause-ran : goal.returns-clause-ran
returns-clause-ran g c =
    let takes = g.J.Job.takes_hand c.args.job.now in
    let runs = IsRun takes (g.J.Job.runs c.args.job.now) in
    let cut = c.in_ok-others.ensures in
    let behind = c.in_ok-all.ensures in
    let ran = c.in_ok-workers.ensures in
    let fit = subst (All takes) (sym cut.tail) (All-drop takes _ c.args.hands.items c.requires.hands) in
    record {
      once = idle-once runs c.args.count c.in_ok-workers.workers.items behind.idle c.in_ok-all.all.items behind.added behind.none ran.once;
      fit = subst (All (λ w. takes w.hand)) (sym behind.added)
          (All-append (λ w. takes w.hand) c.in_ok-workers.workers.items behind.idle ran.fit (idle-fit takes c.in_ok-others.others.items behind.idle behind.hands_are fit));
      hands = both-hands runs c.args.hands.items c.split_off.new.self.items c.in_ok-others.others.items _ c.in_ok-workers.workers.items behind.idle c.in_ok-all.all.items
          cut.items cut.tail behind.added ran.hands (idle-done runs c.in_ok-others.others.items behind.idle behind.hands_are behind.none);
    }

pub returns-clause-idle : goal.returns-clause-idle
returns-clause-idle g c =
    let cut = c.in_ok-others.ensures in
    let behind = c.in_ok-all.ensures in
    let zip = zip-length _ c.split_off.new.self.items c.in_ok-workers.workers.items c.in_ok-workers.ensures.hands in
    idle-behind c.args.max_workers c.in_ok-workers.workers.items behind.idle c.in_ok-all.all.items behind.added
    (omega (arith, zip, cut.len, c.split_off.new.self.ok.0, c.min-busy.ensures, c.min.ensures)) behind.none
