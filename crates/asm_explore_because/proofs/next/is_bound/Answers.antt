use Rattle.std.proofs.Common.{◌∙◌, sym}
use Rattle.asm_meaning.specs.Program.{is_name}
use Rattle.asm_explore_because.specs.code.CodedParts.{bound_name}
use Rattle.asm_explore_because.proofs.Lists.{any_mapped}
use Rattle.asm_explore_because.proofs.next.is_bound.Goals as goal

pub returns : goal.returns
returns c = c.has_name.ensures ∙ sym (any_mapped (λ b. is_name b.0 c.args.name.now.text) bound_name c.args.bound.now)
