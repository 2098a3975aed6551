use Rattle.std.proofs.Common.{ap}
use Rattle.std.specs.Result.{is_ok}
use Rattle.std.proofs.lemmas.Result.{IfOk-at_ok}
use Rattle.asm_pool.proofs.pool.joined_halves.Goals as goal

pub join-requires-clause-seat : goal.join-requires-clause-seat
join-requires-clause-seat g c = IfOk-at_ok _ c.in_ok-workers.was c.requires.seat

pub join-requires-clause-other : goal.join-requires-clause-other
join-requires-clause-other g c = IfOk-at_ok _ c.in_ok-more.was c.requires.other

pub returns : goal.returns
returns g c = (ap is_ok c.in_ok-workers.was, ap is_ok c.in_ok-more.was, rw (c.in_ok-workers.was, c.in_ok-more.was) (record { list = c.in_ok-append.ensures.items; table = c.join.ensures.0; draws = c.join.ensures.1 }))
