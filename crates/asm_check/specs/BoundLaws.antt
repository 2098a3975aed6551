-- Law. The bounds that are the checker's own, which the constants of the code are.
use Rattle.std.specs.Prelude.{◌≡◌}
use Rattle.asm_check.specs.declared.cycles.step_faults.TheConstants.{MAX_RANK}
use Rattle.asm_check.specs.declared.limits.limit_faults.TheConstants.{MAX_RULES}

pub record BoundLaws : Type 0 where
  pub rules : MAX_RULES ≡ 256
  pub rank : MAX_RANK ≡ 16
