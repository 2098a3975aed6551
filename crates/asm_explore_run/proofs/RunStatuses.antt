-- Free. The status of a run that ends by assignments.
--     clash_told           the status of a run that ends by these
--     found_of_count       how many of them are found
use Rattle.std.proofs.Common.{◌≡◌, ◌∙◌, ℕ, [], length, min, take, refl, sym, ap, arith}
use Rattle.std.proofs.lemmas.List.{length-map, length-take}
use Rattle.asm_syntax.specs.SourceTree.{Spec}
use Rattle.asm_reader.specs.ScriptLines.{Script}
use Rattle.asm_meaning.specs.Run.{End, Run}
use Rattle.asm_clash.specs.ClashOfRun.{EndsSo, of_main}
use Rattle.asm_clash.specs.Standing.{assigned_of}
use Rattle.asm_clash.specs.declared.clash.ClashOfRun.{ClashOfRun}
use Rattle.asm_clash.specs.declared.clash.ClashOfRun.TheVariants as clash
use Rattle.asm_explore_run.specs.AskedRun.{is_fault, run_status}
use Rattle.asm_explore_run.specs.ClashText.{greatest_shown}
use Rattle.asm_explore_run.specs.code.EndStatuses.{clash_status}
use Rattle.asm_explore_run.specs.RunReport.{assignments_in, count_in}

-- if all lines of its script are met
abbrev status : End → ℕ
status end = run_status (is_fault end) []

pub clash_told : (tree : Spec) (turns : ℕ) (script : Script) (most : ℕ) (r : Run) (ended : ClashOfRun) → EndsSo tree turns script most r ended
    → clash_status ended ≡ run_status (is_fault r.end) []
clash_told tree turns script most r clash.Limit ends = sym (ap status ends)
clash_told tree turns script most r (clash.Exhausted step q) ends = sym (ap status ends)
clash_told tree turns script most r (clash.Faulty step fault found count) ends = sym (ap status ends.1)

-- as many are found as there are, or as may be
pub found_of_count : (tree : Spec) (turns : ℕ) (script : Script) (r : Run) (ended : ClashOfRun) → EndsSo tree turns script greatest_shown r ended
    → length (assignments_in ended) ≡ min greatest_shown (count_in ended)
found_of_count tree turns script r clash.Limit ends = refl
found_of_count tree turns script r (clash.Exhausted step q) ends = refl
found_of_count tree turns script r (clash.Faulty step fault found count) ends =
    let all = of_main tree turns script greatest_shown step r.last fault in
    let shown : length found.items ≡ length (take greatest_shown all) = sym (length-map found.items assigned_of) ∙ ap length ends.2.shown in
    omega (arith, shown, length-take greatest_shown all, ends.2.number)
