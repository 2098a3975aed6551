use Rattle.std.proofs.Common.{codes}
use Rattle.std.proofs.lemmas.Result.{on_ok_weaker}
use Rattle.asm_state.specs.Location.{Proper}
use Rattle.asm_syntax.specs.code.Views.{spec_of}
use Rattle.asm_run.specs.Trace.{location_text, value_text}
use Rattle.asm_run.specs.Written.{names_in}
use Rattle.asm_run.proofs.TextLemmas.GrowingTexts.{five_pieces}
use Rattle.asm_run.proofs.end_words.push_clash.Goals as goal

pub returns : goal.returns
returns c =
    let names = names_in (spec_of c.args.checked.now.spec) in
    on_ok_weaker c.push_value-2.result
    (five_pieces c.args.out.now.items (location_text names (Proper c.args.function c.args.arguments.now)) (codes " least ") (value_text names.elements c.args.least) (codes " greatest ")
    (value_text names.elements c.args.greatest) _ _ _ _ _
    c.in_ok-push_location.ensures c.in_ok-push_text.ensures.ok c.in_ok-push_value.ensures c.in_ok-push_text-2.ensures.ok)
    c.push_value-2.ensures
