use Rattle.std.proofs.Common.{ap, sym, ◌∙◌, nat_eq}
use Rattle.std.specs.Cmp.Lexicographic.{pointwise}
use Rattle.std.specs.Map.{lookup}
use Rattle.asm_check.proofs.NameLemmas.NamedTexts.{lookup_texts}
use Rattle.asm_check.proofs.numbers.numbered_names.NumberedNames.get_index.Goals as goal

pub returns-clause-value : goal.returns-clause-value
returns-clause-value c =
    ap (λ x. lookup (pointwise nat_eq x) c.args.self.now) c.as_slice.ensures.value
    ∙ (ap (lookup (pointwise nat_eq c.in_ok-name.name.now.items)) (sym c.self.view_is)
    ∙ (lookup_texts (λ k. k.items) (pointwise nat_eq c.in_ok-name.name.now.items) c.self.inside.table.entries
    ∙ c.in_ok-name.ensures.value))
