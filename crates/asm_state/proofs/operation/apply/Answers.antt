use Rattle.asm_state.proofs.Numbers.{sum_is, difference_is, negative_is}
use Rattle.asm_state.proofs.operation.apply.Goals as goal

pub returns-in-Add-Number-Number : goal.returns-in-Add-Number-Number
returns-in-Add-Number-Number c =
    rw (c.in-Add-Number-Number.is-0, c.in-Add-Number-Number.is-1, c.in-Add-Number-Number.is-2) (sum_is c.in-Add-Number-Number.m c.in-Add-Number-Number.n _ c.number.ensures)

pub returns-in-Subtract-Number-Number : goal.returns-in-Subtract-Number-Number
returns-in-Subtract-Number-Number c =
    rw (c.in-Subtract-Number-Number.is-0, c.in-Subtract-Number-Number.is-1, c.in-Subtract-Number-Number.is-2) (difference_is c.in-Subtract-Number-Number.m c.in-Subtract-Number-Number.n _ c.number-in-Subtract-Number-Number.ensures)

pub returns-in-Negate-Number-default : goal.returns-in-Negate-Number-default
returns-in-Negate-Number-default c =
    rw (c.in-Negate-Number-default.is-0, c.in-Negate-Number-default.is-1) (negative_is c.in-Negate-Number-default.m _ c.number-in-Negate-Number-default.ensures)
