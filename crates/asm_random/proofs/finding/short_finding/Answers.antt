use Rattle.asm_random.proofs.Shortened.{last_shown}
use Rattle.asm_random.proofs.finding.short_finding.Goals as goal

pub returns-clause-claims : goal.returns-clause-claims
returns-clause-claims c = λ most wrong. c.in_ok-finding.ensures.claims most (c.in_ok-shortest.ensures.wrong most wrong)

pub returns-clause-counts : goal.returns-clause-counts
returns-clause-counts c = λ most asked runs total last.
    c.in_ok-finding.ensures.counts most asked runs total (last_shown c.args.specified.now c.args.run c.shorten.new.run most asked runs total c.args.number c.in_ok-shortest.ensures last)
