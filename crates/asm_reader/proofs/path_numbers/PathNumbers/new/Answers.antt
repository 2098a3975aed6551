use Rattle.asm_reader.proofs.ScriptLemmas.FoundLines.{nothing_kept}
use Rattle.asm_reader.proofs.path_numbers.PathNumbers.new.Goals as goal

pub returns-clause-says : goal.returns-clause-says
returns-clause-says c = nothing_kept c.new.result.entries c.new-2.result.entries c.new-3.result.items c.new.ensures.empty c.new-2.ensures.empty c.new-3.ensures.items
