use Rattle.std.proofs.Common.{◌≡◌, ◌++◌, ℕ, subst}
use Rattle.std.specs.Prelude.{OnOk}
use Rattle.asm_syntax.specs.code.Views.{spec_of}
use Rattle.asm_meaning.specs.Declarations.{specification_of}
use Rattle.asm_explore_table.specs.Pages.{shown_table}
use Rattle.asm_explore_table.specs.Rows.{rows_of}
use Rattle.asm_explore_table.specs.code.StepsMade.{names_said}
use Rattle.asm_explore_table.proofs.page.add_run.Goals as goal

pub invariant_of-page : goal.invariant_of-page
invariant_of-page g c = record { turns_in_range = c.turns_of.type_inv }

pub returns : goal.returns
returns g c =
    let run = c.args.run.now in
    let s = spec_of run.checked.now.spec in
    let script = g.P.Picks.script run.script.now in
    subst
    (λ (k : ℕ). OnOk c.add_found-added.result
    (c.add_found-added.new.out.items ≡ c.args.out.now.items ++ shown_table s (names_said c.args.names.now) c.args.is_fault (specification_of s).initial (rows_of s k script run.steps)))
    c.turns_of.ensures c.add_found-added.ensures
