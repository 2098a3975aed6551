-- Bridge to the code. Powers of two.
--     IsPower n e      if e isn't 0, n is 2 to the power of e, which is no more than 62
use Rattle.std.specs.Prelude.{◌≡◌, ◌<◌, ◌≤◌, ◌^◌, ℕ, pos}
use Rattle.asm_state.specs.declared.number.Number.{Number}

abbrev pub IsPower : Number → ℕ → Type 0
IsPower n e = 0 < e → (e ≤ 62) × (n.value ≡ pos (2 ^ e))
