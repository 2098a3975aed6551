use Rattle.asm_reader.proofs.ScriptLemmas.FoundLines.{put_short}
use Rattle.asm_reader.proofs.path_numbers.put_exact.Goals as goal

pub returns-clause-at : goal.returns-clause-at
returns-clause-at c n s = c.in_ok-before.ensures.updates.0 (n, s)

pub returns-clause-short : goal.returns-clause-short
returns-clause-short c =
    put_short c.args.exact.now.entries c.insert.new.self.entries c.args.path_number c.args.step c.args.number (λ n s. c.in_ok-before.ensures.updates.0 (n, s)) c.ranges.step.fits
