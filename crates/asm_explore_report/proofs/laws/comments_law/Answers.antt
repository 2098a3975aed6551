use Rattle.asm_explore_report.proofs.SkippedLines.{comments_say}
use Rattle.asm_explore_report.proofs.laws.comments_law.Goals as goal

pub returns : goal.returns
returns c = comments_say
