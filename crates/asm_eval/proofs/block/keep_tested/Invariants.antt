use Rattle.std.specs.Prelude.{◌≡◌, ◌<◌, ◌≤◌, ℕ, Bool, length}
use Rattle.asm_state.specs.declared.value.Value.{Value}
use Rattle.asm_state.specs.declared.value.Value.TheVariants.{Undef}
use Rattle.asm_eval.specs.code.Blocks.{at}
use Rattle.asm_meaning.specs.Value.{is_true}
use Rattle.asm_eval.proofs.BlockLemmas.{KeepsSoFar}
use Rattle.asm_eval.proofs.block.keep_tested.Given as goal

abbrev pub invariant-loop-k : goal.invariant-loop-k
invariant-loop-k l = record {
  room : length l.elements ≡ 16;
  behind : l.kept ≤ l.k;
  so_far : (p : Value → Bool) → ((j : ℕ) → j < l.count → is_true (at l.tests j) ≡ p (at l.initial.elements j)) → KeepsSoFar Undef p l.initial.elements l.elements l.kept l.k;
}
