use Rattle.std.proofs.Common.{◌≡◌, ℕ, ◌+◌, ◌-◌}
use Rattle.asm_run.specs.code.KeptTexts.{span_at}
use Rattle.asm_run.proofs.location_texts.make_span.Given as goal

abbrev pub invariant-loop-spans : goal.invariant-loop-spans
invariant-loop-spans l = (m : ℕ) → span_at l.spans.items m ≡ span_at l.initial.spans.items m

abbrev pub decreases-loop-spans : goal.decreases-loop-spans
decreases-loop-spans l = l.n + 1 - l.spans.len
