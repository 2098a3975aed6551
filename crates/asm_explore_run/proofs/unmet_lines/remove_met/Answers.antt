use Rattle.std.proofs.Common.{◌≤◌, ◌∙◌, ap, arith, cond, false, length, refl}
use Rattle.std.proofs.lemmas.List.{take_all}
use Rattle.asm_reader.specs.ScriptLines.{ForStep, ForEvery}
use Rattle.asm_explore.specs.WrittenScripts.{lines_said}
use Rattle.asm_explore_run.specs.UnmetLines.{is_met}
use Rattle.asm_explore_run.specs.code.LineKeys.{has_line}
use Rattle.asm_explore_run.proofs.KeySets.{none_removed, nothing_in}
use Rattle.asm_explore_run.proofs.UnmetTexts.{removed_at}
use Rattle.asm_explore_run.proofs.unmet_lines.remove_met.Goals as goal

pub loop-k-init : goal.loop-k-init
loop-k-init c (ForStep line) = refl
loop-k-init c (ForEvery line) = refl

pub loop-k-preserved : goal.loop-k-preserved
loop-k-preserved c line =
    removed_at c.args.made.now c.loop-k.k _ line (has_line line c.args.keys.now) (has_line line c.loop-k.keys) (has_line line c.remove_met.new.self) c.loop-k-test.true (c.loop-k.invariant line)
    (c.in_ok-remove_met.ensures line)

pub returns-then-is_empty : goal.returns-then-is_empty
returns-then-is_empty c line =
    none_removed (has_line line c.args.keys.now) (is_met (lines_said c.args.made.now) line) (nothing_in c.args.keys.now line (c.is_empty.ensures.0 c.if-is_empty.true))

pub returns : goal.returns
returns c line =
    let made = c.args.made.now in
    let past : length made ≤ c.loop-k.k = omega (arith, c.loop-k-test.false) in
    c.loop-k.invariant line ∙ ap (λ lines. cond (is_met (lines_said lines) line) false (has_line line c.args.keys.now)) (take_all c.loop-k.k made past)
