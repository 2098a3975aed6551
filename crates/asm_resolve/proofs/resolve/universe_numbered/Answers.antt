use Rattle.std.proofs.Common.{sym, ap, ◌∙◌}
use Rattle.asm_syntax.specs.code.Views.{spec_of}
use Rattle.asm_meaning.specs.Declarations.{universe_number}
use Rattle.asm_meaning.proofs.MeantDeclarations.{universe_names-none as no_universe, universe_names-in_range as universe_numbered}
use Rattle.asm_resolve.proofs.resolve.universe_numbered.Goals as goal

pub returns-in-Some : goal.returns-in-Some
returns-in-Some c =
    let number = sym c.number_of_universe.ensures ∙ c.in-Some.is in record {
      number = ap universe_number (sym c.named_text.ensures.named) ∙ number;
      known = universe_numbered (spec_of c.args.checked.now.spec) c.named_text.result c.in-Some.n c.args.checked.now.well_formed c.named_text.ensures.in_range number;
      none = tt;
    }

pub returns-in-None-clause-none : goal.returns-in-None-clause-none
returns-in-None-clause-none c =
    no_universe (spec_of c.args.checked.now.spec) c.args.name.now.text (ap universe_number (sym c.named_text.ensures.named) ∙ sym c.number_of_universe.ensures ∙ c.in-None.is)
