use Rattle.std.proofs.Common.{ap, ◌∙◌}
use Rattle.std.specs.List.{list_any}
use Rattle.asm_check.specs.code.names.TextKeys.{is_key}
use Rattle.asm_check.proofs.UseLemmas.TextsInSets.{has_text}
use Rattle.asm_check.proofs.uses.collector.Collector.is_parameter.Goals as goal

pub returns : goal.returns
returns c =
    let keys = c.args.self.now.parameters.keys in
    c.contains.ensures ∙ has_text keys c.as_bytes.result.now ∙ ap (λ x. list_any (is_key x) keys) c.as_bytes.ensures
