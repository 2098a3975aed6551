use Rattle.std.proofs.Common.{map, ◌∙◌, sym}
use Rattle.std.specs.Prelude.{option_map}
use Rattle.std.proofs.lemmas.List.{length-map}
use Rattle.asm_syntax.specs.code.Views.{const_of}
use Rattle.asm_check.specs.code.names.Tables.{declared_as_view}
use Rattle.asm_check.proofs.TableLemmas.EntryArguments.{other_length}
use Rattle.asm_check.proofs.tables.entry_faults.fits.Goals as goal

pub returns-then-universes-arguments : goal.returns-then-universes-arguments
returns-then-universes-arguments c spec _ =
    other_length spec (map (option_map declared_as_view) c.args.universes.now) (map const_of c.args.arguments.now)
    (λ e. c.if-universes-arguments.true (sym (length-map c.args.universes.now _) ∙ (e ∙ length-map c.args.arguments.now _)))
