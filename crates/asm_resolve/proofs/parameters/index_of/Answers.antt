use Rattle.std.proofs.Common.{map, ap, ◌∙◌}
use Rattle.asm_meaning.specs.code.MeantTrees.{text_of}
use Rattle.asm_resolve.specs.code.Slots.{position_of}
use Rattle.asm_resolve.proofs.FoundNames.{position_among}
use Rattle.asm_resolve.proofs.parameters.index_of.Goals as goal

pub returns-in-None : goal.returns-in-None
returns-in-None c = c.index_among.ensures ∙ position_among c.args.names.now c.args.name.now.text

pub returns-in-Some : goal.returns-in-Some
returns-in-Some c = c.copied.ensures ∙ c.get.ensures.value ∙ c.requires c.in-Some.positions c.in-Some.is c.as_bytes.result.now ∙ ap (position_of (map text_of c.args.names.now)) c.as_bytes.ensures
