use Rattle.std.proofs.Common.{ap, sym, ◌∙◌, ◌++◌, ◌∷◌, []}
use Rattle.indexmap.proofs.CallerLemmas.{insert_entry-new}
use Rattle.asm_check.proofs.NameLemmas.Lookups.{none_of}
use Rattle.asm_check.proofs.names.name_table.NameTable.put.Goals as goal

pub returns-clause-entries : goal.returns-clause-entries
returns-clause-entries c =
    c.in_ok-insert.ensures.entries
    ∙ insert_entry-new _ c.self.inside.table c.args.name c.args.declared (none_of _ (sym c.get_index_of.ensures.found ∙ sym c.is_some.ensures ∙ c.if-is_some.false))
    ∙ ap (λ es. es ++ (c.args.name, c.args.declared) ∷ []) c.self.view_is
