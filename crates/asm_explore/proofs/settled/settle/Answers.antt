use Rattle.std.proofs.Common.{◌∙◌, refl, sym}
use Rattle.asm_explore.proofs.SettledEnds.{else_settles, last_settles}
use Rattle.asm_explore.proofs.settled.settle.Goals as goal

pub returns-then-comes_first : goal.returns-then-comes_first
returns-then-comes_first c =
    last_settles c.args.ended c.last_end-last.result c.args.whole record { ended = c.last_end-last.result; safe = c.safe_to-safe.result } c.args.deadlocks c.last_end-last.ensures
    (sym c.comes_first.ensures ∙ c.if-comes_first.true) refl c.safe_to-safe.ensures

pub returns : goal.returns
returns c =
    else_settles c.args.ended c.last_end-last.result c.args.whole record { ended = c.args.ended; safe = c.safe_to-safe.result } c.args.deadlocks c.last_end-last.ensures
    (sym c.comes_first.ensures ∙ c.if-comes_first.false) refl c.safe_to-safe.ensures
