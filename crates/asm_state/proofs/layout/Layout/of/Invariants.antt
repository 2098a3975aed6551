use Rattle.asm_state.proofs.LayoutsSoFar.{UpTo}
use Rattle.asm_state.proofs.layout.Layout.of.Given as goal

abbrev pub invariant-loop-f : goal.invariant-loop-f
invariant-loop-f l = UpTo (record { universes = l.universes; functions = l.functions }) l.f l.layout
