use Rattle.asm_syntax.specs.code.Views.{spec_of}
use Rattle.asm_check.specs.Ranks.{derived_rank}
use Rattle.asm_meaning.specs.Program.{nothing_bound}
use Rattle.asm_meaning.specs.code.TermValues.{program}
use Rattle.asm_explore_report.proofs.JoinedTerms.{all_hold}
use Rattle.asm_explore_report.proofs.laws.joined_law.Goals as goal

pub returns : goal.returns
returns c links t ands is A =
    let checked = c.args.checked.now in
    let spec = spec_of checked.spec in
    all_hold (program checked) A (derived_rank spec)
    (c.valued_by_cases.ensures (program checked) (derived_rank spec) A nothing_bound (c.declared_ranks.ensures.derived spec c.args.checked.now.well_formed))
    c.plain_terms.ensures.constant c.plain_terms.ensures.chain links t ands is
