use Rattle.std.proofs.Common.{rules}
use Rattle.asm_explore.specs.code.Sequences.{both_ways}
use Rattle.asm_explore.proofs.outcomes.over_limit.close.Goals as goal

pub returns-in-Ok : goal.returns-in-Ok
returns-in-Ok c = record {
  lists = c.in-Ok.ensures.lists;
  placed = c.in-Ok.ensures.placed c.args.path.now;
  chosen = c.in-Ok.ensures.chosen;
  names = tt;
  crowd = tt;
}

pub returns-in-Err : goal.returns-in-Err
returns-in-Err c = record {
  lists = λ shape A total left ends under. tt;
  placed = λ both. tt;
  chosen = tt;
  names = search rules;
  crowd = c.refused.ensures.crowd c.args.limit (both_ways c.args.sorted) c.in-Err.ensures.crowd;
}
