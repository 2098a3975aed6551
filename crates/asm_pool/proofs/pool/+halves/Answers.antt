use Rattle.std.proofs.Common.{rules, ◌≡◌, ◌-◌, ◌/◌, ◌<◌, length, ap, arith}
use Rattle.std.proofs.lemmas.Bool.Decides.{nat_tests}
use Rattle.std.proofs.lemmas.Result.{IfOk-weaker}
use Rattle.asm_pool.specs.code.WorkersAndSeats.{HaveWorked}
use Rattle.asm_pool.proofs.CutWorkers.{stays, goes, joins, both-worked}
use Rattle.asm_pool.proofs.pool.+halves.Goals as goal

pub split-slot-requires-clause-seat : goal.split-slot-requires-clause-seat
split-slot-requires-clause-seat g t c = (c.requires.ready.table, ap (λ m. m.1) c.requires.ready.blank)

pub split-slot-requires-clause-parts : goal.split-slot-requires-clause-parts
split-slot-requires-clause-parts g t c =
    let parts : c.args.seat.me.0.parts ≡ length c.args.hands.items = ap (λ m. m.0.parts) c.requires.ready.blank in
    grind (arith, nat_tests, parts, c.if-len-eq1.false, c.len.ensures, c.args.hands.ok.0, c.requires.ready.some)

pub split-slot-requires-clause-none : goal.split-slot-requires-clause-none
split-slot-requires-clause-none g t c = ap (λ m. m.0.drawn) c.requires.ready.blank

pub joined_halves-requires-clause-seat : goal.joined_halves-requires-clause-seat
joined_halves-requires-clause-seat g t c =
    let takes = g.J.Job.takes_hand c.args.job.now in
    let runs = g.J.Job.runs c.args.job.now in
    let it = c.args.lanes.now in
    let cut = c.in_ok-others.ensures in
    let many : 1 < c.args.hands.len = grind (arith, nat_tests, c.if-len-eq1.false, c.len.ensures, c.args.hands.ok.0, c.requires.ready.some) in
    let stay : c.len-2.result - c.len-half.result / 2 ≡ c.args.hands.len - c.args.hands.len / 2 = omega (arith, c.len-2.ensures, c.len-half.ensures) in
    let here =
    stays (g.J.Job.has_task c.args.job.now) takes it c.args.first c.args.hands.items c.args.seat c.requires.ready c.args.hands.len (c.len-2.result - c.len-half.result / 2) c.args.hands.ok.0 many stay
    c.split_off.new.self.items c.split-slot.new.seat cut.items c.split-slot.ensures.left.0 c.split-slot.ensures.left.1 in
    IfOk-weaker c.join-those.result.1 _ _ (λ a w. joins takes runs it c.split_off.new.self.items a.0.items a.1 here.some w) c.join-those.ensures.second

pub joined_halves-requires-clause-other : goal.joined_halves-requires-clause-other
joined_halves-requires-clause-other g t c = IfOk-weaker c.join-those.result.0 _ _ (λ b w. (w.table, w.empty)) c.join-those.ensures.first

pub returns : goal.returns
returns g t c =
    let takes = g.J.Job.takes_hand c.args.job.now in
    let runs = g.J.Job.runs c.args.job.now in
    let it = c.args.lanes.now in
    let cut = c.in_ok-others.ensures in
    IfOk-weaker c.joined_halves.result _ (λ r. HaveWorked takes runs it c.args.hands.items r.0.items r.1)
    (λ r b. both-worked takes runs it (λ v. v.items) c.args.hands.items c.split_off.new.self.items c.in_ok-others.others.items (c.len-2.result - c.len-half.result / 2) c.join-those.result.1 c.join-those.result.0 r.0.items r.1
    cut.items cut.tail b.0 b.1 b.2 c.join-those.ensures.second c.join-those.ensures.first)
    c.joined_halves.ensures

pub join-those-requires-after_bounds : goal.join-those-requires-after_bounds
join-those-requires-after_bounds g t c κs within =
    let takes = g.J.Job.takes_hand c.args.job.now in
    let it = c.args.lanes.now in
    let cut = c.in_ok-others.ensures in
    let many : 1 < c.args.hands.len = grind (arith, nat_tests, c.if-len-eq1.false, c.len.ensures, c.args.hands.ok.0, c.requires.ready.some) in
    let stay : c.len-2.result - c.len-half.result / 2 ≡ c.args.hands.len - c.args.hands.len / 2 = omega (arith, c.len-2.ensures, c.len-half.ensures) in
    let here =
    stays (g.J.Job.has_task c.args.job.now) takes it c.args.first c.args.hands.items c.args.seat c.requires.ready c.args.hands.len (c.len-2.result - c.len-half.result / 2) c.args.hands.ok.0 many stay
    c.split_off.new.self.items c.split-slot.new.seat cut.items c.split-slot.ensures.left.0 c.split-slot.ensures.left.1 in
    let there =
    goes (g.J.Job.has_task c.args.job.now) takes it c.args.first c.args.hands.items c.args.seat c.requires.ready c.args.hands.len (c.len-2.result - c.len-half.result / 2) c.args.hands.ok.0 many stay
    c.in_ok-others.others.items c.split-slot.result cut.tail c.split-slot.ensures.right.0 c.split-slot.ensures.right.1 in (
      (search rules, ((λ a m. m), ((λ a m. m), ((λ a m. m), ((λ a m. m), ((λ a m. m), ((search rules, search rules, search rules, search rules, search rules, there), (search rules, search rules, search rules, search rules, search rules)))))))),
      (search rules, ((λ a m. m), ((λ a m. m), ((λ a m. m), ((λ a m. m), ((λ a m. m), ((search rules, search rules, search rules, search rules, search rules, here), (search rules, search rules, search rules, search rules, search rules)))))))),
    )
