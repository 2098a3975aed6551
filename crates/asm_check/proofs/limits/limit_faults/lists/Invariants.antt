use Rattle.std.proofs.Common.{◌≡◌, ◌≤◌, ◌*◌, ◌^◌, drop}
use Rattle.asm_state.specs.declared.signature_limits.TheConstants.{MAX_VALUES}
use Rattle.asm_syntax.specs.SourceTree as source
use Rattle.asm_check.specs.code.limits.CountedSizes.{AreCountedSizes}
use Rattle.asm_check.specs.code.names.Tables.{IsTableOf}
use Rattle.asm_check.proofs.LimitLemmas.ArgumentCounts.{product_of}
use Rattle.asm_check.proofs.limits.limit_faults.lists.Given as goal

abbrev pub invariant-loop-name : goal.invariant-loop-name
invariant-loop-name l = record {
  small : l.product ≤ MAX_VALUES ^ l.name-index;
  product : (spec : source.Spec) → IsTableOf spec l.names → AreCountedSizes spec l.names l.sizes
      → l.product * product_of spec (drop l.name-index l.domain) ≡ product_of spec l.domain;
}
