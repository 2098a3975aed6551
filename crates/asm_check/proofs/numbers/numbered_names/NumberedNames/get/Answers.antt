use Rattle.std.proofs.Common.{ap, sym, ◌∙◌, nat_eq}
use Rattle.std.specs.Cmp.Lexicographic.{pointwise}
use Rattle.std.specs.Map.{lookup}
use Rattle.asm_check.proofs.NameLemmas.NamedTexts.{lookup_texts}
use Rattle.asm_check.proofs.numbers.numbered_names.NumberedNames.get.Goals as goal

pub returns : goal.returns
returns c = record {
  value =
      c.copied.ensures
      ∙ (c.get.ensures.value
      ∙ (sym (lookup_texts (λ k. k.items) (pointwise nat_eq c.args.name.now) c.self.inside.table.entries)
      ∙ ap (lookup (pointwise nat_eq c.args.name.now)) c.self.view_is));
}
