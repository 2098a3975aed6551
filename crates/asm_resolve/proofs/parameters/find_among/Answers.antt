use Rattle.std.proofs.Common.{map, Some, false, sym, ap, ◌∙◌}
use Rattle.std.specs.Prelude.{option_map}
use Rattle.asm_meaning.specs.code.MeantTrees.{text_of}
use Rattle.asm_resolve.proofs.FoundNames.{value_at, values_found}
use Rattle.asm_resolve.proofs.parameters.find_among.Goals as goal

pub returns-in-None : goal.returns-in-None
returns-in-None c = let a = c.args in sym (values_found a.first (map text_of a.names.now) a.name.now.text ∙ ap (option_map (value_at a.first)) (sym c.index_of.ensures ∙ c.in-None.is))

pub returns-in_ok-position-in-Some : goal.returns-in_ok-position-in-Some
returns-in_ok-position-in-Some c =
    let a = c.args in
    ap (λ n. Some (n, false)) c.in_ok-position-in-Some.ensures.position
    ∙ sym (values_found a.first (map text_of a.names.now) a.name.now.text ∙ ap (option_map (value_at a.first)) (sym c.index_of.ensures ∙ c.in-Some.is))
