-- Free. Links that are those of conditions.
--     ands_of       each link is an `and`
use Rattle.std.proofs.Common.{ℕ, List, [], ◌∷◌}
use Rattle.asm_state.specs.declared.operation.Op.{Op}
use Rattle.asm_syntax.specs.SourceTree.{Spec}
use Rattle.asm_syntax.specs.declared.term.Term.{Term}
use Rattle.asm_explore_texts.specs.code.CodedConditions.{AreAnds, AreConditionsOf}

pub ands_of : (spec : Spec) (texts : List (List ℕ)) (links : List (Op × Term)) → AreConditionsOf spec texts links → AreAnds links
ands_of spec [] [] are = tt
ands_of spec [] (link ∷ links) are = absurd are
ands_of spec (one ∷ texts) [] are = tt
ands_of spec (one ∷ texts) (link ∷ links) are = (are.0, ands_of spec texts links are.2)
