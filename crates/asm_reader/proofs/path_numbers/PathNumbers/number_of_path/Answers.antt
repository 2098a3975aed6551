use Rattle.std.proofs.Common.{◌∙◌}
use Rattle.asm_reader.proofs.ScriptLemmas.FoundLines.{leads_on, leads_nowhere}
use Rattle.asm_reader.proofs.path_numbers.PathNumbers.number_of_path.Goals as goal

pub returns-in_err-path_number : goal.returns-in_err-path_number
returns-in_err-path_number c =
    c.from_residual.ensures
    ∙ leads_nowhere c.args.self.now.ways.entries c.args.path.now c.loop-number.number-index 0 c.loop-number.path_number c.loop-number-test.true c.loop-number.invariant c.in_err-path_number.ensures

pub loop-number-preserved : goal.loop-number-preserved
loop-number-preserved c =
    leads_on c.args.self.now.ways.entries c.args.path.now c.loop-number.number-index 0 c.loop-number.path_number c.loop-number-test.true c.loop-number.invariant c.in_ok-path_number.path_number c.in_ok-path_number.ensures
