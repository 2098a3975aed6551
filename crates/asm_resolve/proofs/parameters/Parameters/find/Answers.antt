use Rattle.std.proofs.Common.{map, sym, ◌∙◌}
use Rattle.asm_meaning.specs.code.MeantTrees.{text_of}
use Rattle.asm_resolve.proofs.FoundNames.{without_answer}
use Rattle.asm_resolve.proofs.parameters.Parameters.find.Goals as goal

pub returns-then-not-self : goal.returns-then-not-self
returns-then-not-self c = let a = c.args in c.in_ok-found.ensures ∙ sym (without_answer a.before a.self.now.answers (map text_of a.self.now.names.now) a.name.now.text c.if-not-self.true)
