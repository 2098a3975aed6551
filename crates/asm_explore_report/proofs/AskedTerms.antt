-- Free. The terms of conditions that are joined.
--     all_terms           what is so of all terms is so of all links
--     all_asked_law       the term that joins conditions is true just when each of their terms is
use Rattle.std.proofs.Common.{◌≡◌, ◌∙◌, ℕ, Bool, ◌&&◌, List, [], ◌∷◌, Option, Some, refl, ap, sym}
use Rattle.std.specs.List.{list_all}
use Rattle.asm_state.specs.declared.operation.Op.{Op}
use Rattle.asm_syntax.specs.SourceTree as source
use Rattle.asm_syntax.specs.code.Views.{spec_of, term_of, test_of}
use Rattle.asm_syntax.specs.declared.term.Term.{Term}
use Rattle.asm_check.specs.declared.checked.Checked.{Checked}
use Rattle.asm_explore.specs.Conditions.{condition_holds}
use Rattle.asm_explore_texts.specs.Conditions.{AreAskedOf}
use Rattle.asm_explore_texts.specs.code.CodedConditions.{AreConditionsOf, terms_in}
use Rattle.asm_explore_report.specs.AskedConditions.{AreAllAsked}
use Rattle.asm_explore_report.specs.code.JoinedConditions.{AreAllJoined}

pub all_terms : (p : source.Term → Bool) (links : List (Op × Term)) → list_all p (terms_in links) ≡ list_all (λ link. p (term_of link.1)) links
all_terms p [] = refl
all_terms p (link ∷ links) = ap (λ b. p (term_of link.1) && b) (all_terms p links)

asked_of : (spec : source.Spec) (texts : List (List ℕ)) (links : List (Op × Term)) → AreConditionsOf spec texts links → AreAskedOf spec texts (terms_in links)
asked_of spec [] [] are = tt
asked_of spec [] (link ∷ links) are = absurd are
asked_of spec (asked ∷ texts) [] are = absurd are
asked_of spec (asked ∷ texts) (link ∷ links) are = (are.1, asked_of spec texts links are.2)

pub all_asked_law : (texts : List (List ℕ)) (checked : Checked) (t : Option Term) (joined : AreAllJoined texts checked t) → AreAllAsked texts (spec_of checked.spec) (test_of t) (terms_in joined.links)
all_asked_law texts checked t joined = record {
  each = asked_of (spec_of checked.spec) texts joined.links joined.each;
  all = λ A. joined.all A ∙ sym (all_terms (λ one. condition_holds (spec_of checked.spec) (Some one) A) joined.links);
}
