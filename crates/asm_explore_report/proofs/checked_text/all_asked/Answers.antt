use Rattle.asm_explore_report.proofs.AndLinks.{ands_of}
use Rattle.asm_explore_report.proofs.checked_text.all_asked.Goals as goal

pub returns-clause-found : goal.returns-clause-found
returns-clause-found c =
    let links = c.in_ok-links.links.items in
    record {
      links = links;
      each = c.in_ok-links.ensures.found;
      joined = c.in_ok-term.ensures;
      all = c.joined_law.ensures links c.in_ok-term.term (ands_of _ _ _ c.in_ok-links.ensures.found) c.in_ok-term.ensures;
    }
