use Rattle.std.proofs.Common.{ap, refl, ◌∙◌, None}
use Rattle.std.specs.Prelude.{option_map}
use Rattle.asm_check.specs.code.names.Tables.{declared_as_view}
use Rattle.asm_check.proofs.NameLemmas.Lookups.{got_declared}
use Rattle.asm_check.proofs.names.first_names.meaning.Goals as goal

pub returns-in_err-declared : goal.returns-in_err-declared
returns-in_err-declared c = λ spec table.
    ap (option_map declared_as_view) c.from_residual.ensures
    ∙ got_declared spec c.args.names.now c.args.name.now c.args.name.now None table refl c.in_err-declared.ensures.value

pub returns : goal.returns
returns c = λ spec table. got_declared spec c.args.names.now c.args.name.now c.args.name.now _ table refl c.in_ok-declared.ensures.value
