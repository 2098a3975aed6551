use Rattle.asm_syntax.specs.code.Views.{spec_of}
use Rattle.asm_check.proofs.CheckedCalls.{one_start}
use Rattle.asm_check.proofs.checked.Checked.main.Goals as goal

pub returns-clause-one : goal.returns-clause-one
returns-clause-one c = one_start (spec_of c.args.self.now.spec) c.args.self.now.well_formed
