use Rattle.std.proofs.Common.{[], flat_map, ap, sym, ◌∙◌}
use Rattle.std.proofs.lemmas.List.Folds.{flat_map-map}
use Rattle.sha2.specs.Sha256.{sha256}
use Rattle.asm_syntax.specs.code.Views.{item_of}
use Rattle.asm_check.specs.code.names.NameHash.{hasher_under, item_bytes}
use Rattle.asm_check.proofs.names.name_hash.declared_names.Goals as goal

pub returns : goal.returns
returns c =
    c.declared.ensures _ (c.items.ensures [] c.new.ensures)
    ∙ ap (λ bytes. hasher_under (sha256 bytes)) (ap (flat_map (λ x. item_bytes (item_of x))) c.deref.ensures.value ∙ sym (flat_map-map item_bytes item_of c.args.spec.now.items.items))
