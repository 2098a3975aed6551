use Rattle.asm_explore_texts.specs.Comments.{lines_of}
use Rattle.asm_explore_report.proofs.PrintedScripts.{printed_says}
use Rattle.asm_explore_report.proofs.printed.printed.Goals as goal

pub returns : goal.returns
returns c lines given =
    let first = c.args.first.now in
    let facts = lines_of c.args.facts.now in
    let trace = lines_of c.args.trace.now in
    let script = c.args.script.now in
    let whole = c.in_ok-whole.whole.items in
    let is = c.in_ok-whole.ensures lines given in
    record {
      is = is;
      says = printed_says first facts lines trace script whole is;
    }
