use Rattle.std.proofs.Common.{◌-◌, map, take, length, ap, ◌∙◌, arith}
use Rattle.std.specs.Map.{lookup}
use Rattle.std.proofs.lemmas.List.{length-take-le}
use Rattle.asm_resolve.proofs.SpelledTexts.{lookup_inserted}
use Rattle.asm_meaning.specs.code.MeantTrees.{text_of}
use Rattle.asm_resolve.specs.code.Slots.{is_spelled}
use Rattle.asm_resolve.proofs.FoundNames.{first_or, first_or_none, found_by, one_more_known}
use Rattle.asm_resolve.proofs.parameters.first_positions.Goals as goal

pub loop-rest-init : goal.loop-rest-init
loop-rest-init c = record {
  found = λ x. ap (λ es. first_or 0 (map text_of c.args.names.now) (found_by es x) x) c.new-positions.ensures.empty ∙ first_or_none (map text_of c.args.names.now) x;
  within = omega arith;
}

pub loop-rest-preserved : goal.loop-rest-preserved
loop-rest-preserved c =
    let rest = c.loop-rest.rest.now in
    let key = c.in_ok-text.text in
    let old = c.loop-rest.positions.entries in
    let shorter = length-take-le (length rest - 1) rest (omega arith) in record {
      found = one_more_known rest c.args.names.now c.name-item.result old c.insert.new.self.entries key (length (take (length rest - 1) rest)) (omega (arith, c.in-len1-up.len_at_least)) c.name-item.is
          (c.in_ok-text.ensures.items_if_clones_equal (λ x y same. same) ∙ c.as_bytes.ensures) shorter
          (λ x. ap (lookup (λ r. is_spelled x r.items)) c.in_ok-insert.ensures.entries ∙ lookup_inserted (λ r. r.items) key (length (take (length rest - 1) rest)) old x)
          c.loop-rest.invariant.found;
      within = omega (arith, c.loop-rest.invariant.within, shorter);
    }
