use Rattle.std.proofs.Common.{None, unwrap_or, sym, ap, arith}
use Rattle.std.specs.Option.{option_or}
use Rattle.asm_graph.proofs.DrawnArrows.{other_step}
use Rattle.asm_graph.proofs.edge_script.EdgeScriptPicks.pick.Goals as goal

pub returns : goal.returns
returns c = sym (ap (λ o. unwrap_or (option_or o None) 0) (other_step c.args.step c.args.path.now c.args.self.now.choices.now (λ same. omega (arith, same, c.if-step-eq1.false))))
