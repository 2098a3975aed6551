use Rattle.std.proofs.Common.{arith}
use Rattle.asm_syntax.specs.code.Views.{spec_of}
use Rattle.asm_check.proofs.NumberLemmas.BodyIndices.{rules_counted}
use Rattle.asm_check.proofs.checked.Checked.rules.Goals as goal

pub returns : goal.returns
returns c =
    let self = c.args.self.now in
    omega (arith, c.len.ensures, self.bodies.rules.ok.0, rules_counted (spec_of self.spec) self.well_formed self.bodies self.indexed)
