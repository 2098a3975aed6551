use Rattle.std.proofs.Common.{All, ◌∙◌, subst, sym, vec_len}
use Rattle.std.proofs.lemmas.List.Elements.{All-map}
use Rattle.asm_pool.proofs.JoinedWorkers.{no-tasks-behind}
use Rattle.asm_pool.proofs.Runs.{worked-once, worked-count, worked-lists, worked-runs}
use Rattle.asm_pool.proofs.pool.work_by.Goals as goal

pub returns-clause-work : goal.returns-clause-work
returns-clause-work g c =
    let takes = g.J.Job.takes_hand c.args.job.now in
    let runs = g.J.Job.runs c.args.job.now in
    let made = c.in_ok-gather.ensures in
    let outs = c.in_ok-gather.field-0.outs.items in
    let hands = c.in_ok-gather.field-0.hands.items in
    let lists = c.in_ok-gather.field-0.lists.items in
    let workers = c.in_ok-workers.workers.items in
    let once = c.in_ok-workers.ensures.ran.once in
    let did = c.in_ok-workers.ensures.ran.hands in
    let counts = worked-count takes runs (λ v. v.items) c.args.count outs c.args.hands.items hands lists workers once made.lists made.hands made.outs did in
    let lanes = sym c.args.hands.ok.0 ∙ c.requires.hands in
    record {
      len = (made.count, c.in_ok-gather.field-0.hands.ok.0 ∙ (counts.0 ∙ lanes), c.in_ok-gather.field-0.lists.ok.0 ∙ (counts.1 ∙ lanes));
      once = worked-once takes runs (λ v. v.items) c.args.count outs c.args.hands.items hands lists workers once made.lists;
      outs = worked-runs takes runs (λ v. v.items) c.args.count outs c.args.hands.items hands lists workers once made.lists made.hands made.outs did;
      fit = subst (All takes) (sym made.hands) (All-map takes (λ w. w.hand) workers c.in_ok-workers.ensures.ran.fit);
      hands = worked-lists takes runs (λ v. v.items) c.args.count outs c.args.hands.items hands lists workers once made.lists made.hands made.outs did;
    }

pub returns-clause-idle : goal.returns-clause-idle
returns-clause-idle g c = no-tasks-behind (λ v. v.items) vec_len (λ v. v.ok.0) c.args.max_workers c.in_ok-gather.field-0.lists.items c.in_ok-workers.workers.items c.in_ok-gather.ensures.lists c.in_ok-workers.ensures.idle
