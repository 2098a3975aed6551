use Rattle.std.proofs.Common.{length, map, ap, ◌∙◌}
use Rattle.asm_state.specs.Signature.{domain_in}
use Rattle.asm_state.specs.Tables.{argument_lists, table_value}
use Rattle.asm_state.proofs.Layouts.{each_ok, controlled_next}
use Rattle.asm_state.proofs.layout.Layout.push.Goals as goal

pub returns-in-Controlled : goal.returns-in-Controlled
returns-in-Controlled c =
    each_ok c.push_controlled.result
    (controlled_next c.args.universes.now c.args.f c.args.function.now c.args.self.now c.push_controlled.new.self c.list_count-lists.result c.deref.result.now c.in-Controlled.is
    (c.list_count-lists.ensures.count ∙ ap (λ ns. length (argument_lists (domain_in c.args.universes.now ns))) c.as_slice-domain.ensures)
    (c.deref.ensures.value ∙ c.in_ok-values.ensures ∙ ap (λ ns. map (table_value c.args.function.now.table) (argument_lists (domain_in c.args.universes.now ns))) c.as_slice-domain.ensures))
    c.push_controlled.ensures.extents c.push_controlled.ensures.owners c.push_controlled.ensures.initial c.push_controlled.ensures.given
