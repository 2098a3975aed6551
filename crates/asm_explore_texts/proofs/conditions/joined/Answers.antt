use Rattle.std.proofs.Common.{ap, length, arith}
use Rattle.std.proofs.lemmas.Bool.Decides.{nat_tests}
use Rattle.asm_explore_texts.proofs.Links.{joined_is}
use Rattle.asm_explore_texts.proofs.conditions.joined.Goals as goal

pub returns : goal.returns
returns c =
    joined_is c.in_ok-first.first c.args.links
    (λ none. let short = ap length none in grind (arith, nat_tests, short, c.args.links.ok.0, c.is_empty.ensures, c.if-is_empty.false))
    c.in_ok-first.ensures.ok
