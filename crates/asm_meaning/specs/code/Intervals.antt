-- Bridge to the code. Intervals of positions in a universe.
--     between from to vs   the values at the positions from one to before another
use Rattle.std.specs.Prelude.{ℕ, ◌-◌, List, take, drop}
use Rattle.asm_state.specs.declared.value.Value.{Value}

abbrev pub between : (from to : ℕ) → List Value → List Value
between from to vs = take (to - from) (drop from vs)
