use Rattle.asm_explore.specs.WrittenScripts.{line_said}
use Rattle.asm_explore_run.specs.declared.line_keys.LineKeys.{LineKeys}
use Rattle.asm_explore_run.proofs.KeySets.{met_removed}
use Rattle.asm_explore_run.proofs.line_keys.LineKeys.remove_met.Goals as goal

pub returns : goal.returns
returns c line =
    let left : LineKeys = record { in_step = c.remove.new.self; in_every_step = c.remove-2.new.self } in
    met_removed (line_said c.args.choice.now) c.in_ok-key.key.items c.args.self.now left c.in_ok-key.ensures c.remove.ensures.updates c.remove-2.ensures.updates line
