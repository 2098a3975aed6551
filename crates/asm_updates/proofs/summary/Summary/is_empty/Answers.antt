use Rattle.std.proofs.Common.{◌≡◌, eqb, sym, ◌∙◌, arith}
use Rattle.std.proofs.lemmas.Bool.Decides.{nat_tests}
use Rattle.asm_updates.proofs.RangesFound.{none_found}
use Rattle.asm_updates.proofs.StandingSummaries.{empty_set, empty_entries}
use Rattle.asm_updates.proofs.summary.Summary.is_empty.Goals as goal

pub returns-clause-entries : goal.returns-clause-entries
returns-clause-entries c =
    let len = c.len.ensures.len in
    none_found c.args.self.now.ranges (eqb c.len.result 0) (
      λ yes. let zero : c.len.result ≡ 0 = grind (arith, nat_tests) in sym len ∙ zero,
      λ none. let zero : c.len.result ≡ 0 = len ∙ none in grind (arith, nat_tests),
    )

pub returns-clause-empty : goal.returns-clause-empty
returns-clause-empty c = λ shape U stands.
    let both = returns-clause-entries c in (
      λ yes. empty_set shape c.args.self.now U stands (both.0 yes),
      λ empty. both.1 (empty_entries shape c.args.self.now U c.len.ensures.sound stands empty),
    )
