use Rattle.std.proofs.Common.{not, map, ap, ◌∙◌}
use Rattle.std.proofs.Math.Bool.{not-not}
use Rattle.asm_syntax.specs.code.Views.{const_of, entry_of}
use Rattle.asm_check.specs.code.tables.EntryArguments.{key}
use Rattle.asm_check.proofs.TableLemmas.EntryArguments.{ordered_arguments, found_before, seen_more}
use Rattle.asm_check.proofs.tables.entry_faults.put_arguments.Goals as goal

pub returns-clause-repeated : goal.returns-clause-repeated
returns-clause-repeated c before seen =
    ap not c.in_ok-is_new.ensures.added ∙ (not-not _
    ∙ found_before _ (λ q v. ordered_arguments q.items v.items) before c.args.seen.now.keys c.in_ok-arguments.arguments (map const_of c.args.entry.now.arguments.items) seen
    (c.in_ok-arguments.ensures ∙ ap (λ cs. map key (map const_of cs)) c.deref.ensures.value))

pub returns-clause-seen : goal.returns-clause-seen
returns-clause-seen c before seen =
    seen_more _ (λ q v. ordered_arguments q.items v.items) before (entry_of c.args.entry.now) c.args.seen.now.keys _ c.in_ok-arguments.arguments seen
    (c.in_ok-arguments.ensures ∙ ap (λ cs. map key (map const_of cs)) c.deref.ensures.value) c.in_ok-is_new.ensures.updates.0
