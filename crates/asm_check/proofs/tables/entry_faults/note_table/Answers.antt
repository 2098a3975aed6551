use Rattle.std.proofs.Common.{◌≡◌, [], ◌∷◌, ◌+◌, cond, map, take, drop, length, sym, ap, subst, ◌∙◌, arith, ◌<◌}
use Rattle.std.specs.Prelude.{option_map}
use Rattle.asm_syntax.specs.code.Views.{name_of, entry_of}
use Rattle.asm_check.specs.code.tables.EntryArguments.{HasSeen}
use Rattle.asm_check.specs.Errors.{found_of}
use Rattle.asm_check.specs.code.FaultLists.{bad_entries}
use Rattle.asm_check.specs.code.LeastFaults.{least_after}
use Rattle.asm_check.specs.code.names.Tables.{declared_as_view}
use Rattle.asm_check.proofs.TableLemmas.BadEntries.{bad_is, next_taken, next_left, one_entry}
use Rattle.asm_check.proofs.tables.entry_faults.note_table.Goals as goal
use Rattle.asm_check.proofs.tables.entry_faults.note_table.Goals.{then-is_bad, else-is_bad}

pub loop-entry-preserved : goal.loop-entry-preserved
loop-entry-preserved c =
    let entries = c.args.entries.now in
    let i = c.loop-entry.entry-index in
    let x = c.entry-item.result in
    let inside : i < length entries = omega (arith, c.loop-entry-test.true) in
    let before = map entry_of (take i entries) in
    let domain = map name_of c.args.domain.now in
    let rest = map entry_of (drop (i + 1) entries) in
    let found = found_of c.loop-entry.least.found in
    let taken = next_taken entry_of entries i x inside c.entry-item.is in
    let met : found_of c.if-is_bad.least.found ≡ least_after found (cond c.is_bad.result ((x.at, 16) ∷ []) []) = elim c.if-is_bad.branch [
      | then-is_bad w ↦ ap (λ l. found_of l.found) w.least-is ∙ (w.note.ensures ∙ ap (λ b. least_after found (cond b ((x.at, 16) ∷ []) [])) (sym w.if-is_bad.true))
      | else-is_bad w ↦ ap (λ l. found_of l.found) w.least-is ∙ ap (λ b. least_after found (cond b ((x.at, 16) ∷ []) [])) (sym w.if-is_bad.false)
    ] in
    record {
      kept = subst (λ b. HasSeen b c.put_arguments.new.seen.keys) (sym taken) (c.in_ok-is_repeated.ensures.seen before c.loop-entry.invariant.kept);
      found = λ spec table.
          ap (λ b. least_after (found_of c.if-is_bad.least.found) (bad_entries spec domain b rest)) taken
          ∙ (one_entry spec domain before (entry_of x) rest c.is_bad.result found (found_of c.if-is_bad.least.found)
          (bad_is spec domain before (entry_of x) (map (option_map declared_as_view) c.deref.result.now) c.in_ok-is_repeated.is_repeated c.is_bad.result
          (ap (map (option_map declared_as_view)) c.deref.ensures.value ∙ c.in_ok-universes.ensures spec table)
          (c.in_ok-is_repeated.ensures.repeated before c.loop-entry.invariant.kept) (c.is_bad.ensures spec table))
          met
          ∙ (ap (λ es. least_after found (bad_entries spec domain before es)) (sym (next_left entry_of entries i x inside c.entry-item.is)) ∙ c.loop-entry.invariant.found spec table));
    }
