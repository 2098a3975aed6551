use Rattle.asm_pool.proofs.pool.with_idle.Goals as goal

pub returns : goal.returns
returns g c = record {
  idle = c.in_ok-idle.idle.items;
  added = c.in_ok-append.ensures.items;
  none = c.in_ok-idle.ensures.idle;
  hands_are = c.in_ok-idle.ensures.hands;
}
