use Rattle.std.proofs.Common.{◌≡◌, Bool, true, false, not, [], refl}
use Rattle.asm_meaning.specs.Value.{is_true}
use Rattle.asm_explore_because.specs.Parts.{value_under, whole}
use Rattle.asm_explore_because.proofs.Deciding.{follows, still_fails, valued_of}
use Rattle.asm_explore_because.proofs.laws.deciding_laws.Goals as goal

untrue : (b : Bool) → not b ≡ true → b ≡ false
untrue true is = cc
untrue false is = refl

pub returns : goal.returns
returns c =
    let valued = valued_of c.specifications_are_ranked.ensures c.valued_by_cases.ensures c.term_weights_fall.ensures c.program_declares.ensures in record {
      part = λ s A p q good decides wrong. follows s A (valued s A good) p q decides wrong;
      in_part = λ s A p q good decides wrong. still_fails s A (valued s A good) p q decides wrong;
      line = λ s A t line good it. untrue (is_true (value_under s A [] t)) (follows s A (valued s A good) (whole t) it.part it.decides it.wrong);
    }
