-- Free. Links of a chain of conditions.
--     one_more      one condition more
use Rattle.std.proofs.Common.{◌≡◌, ◌≢◌, ℕ, ◌+◌, ◌<◌, true, List, [], ◌∷◌, ◌++◌, length, take, Some, Vec, Box, Global, refl, ap, sym, subst, ◌∙◌}
use Rattle.std.specs.Prelude.{slice_index_or}
use Rattle.std.proofs.lemmas.List.{map-append, take_more}
use Rattle.asm_state.specs.declared.operation.Op.{Op}
use Rattle.asm_state.specs.declared.operation.Op.TheVariants.{And}
use Rattle.asm_syntax.specs.SourceTree.{Spec}
use Rattle.asm_syntax.specs.declared.term.Literal.TheVariants.{Truth}
use Rattle.asm_syntax.specs.declared.term.Term.{Term}
use Rattle.asm_syntax.specs.declared.term.Term.TheVariants.{Chain, Constant}
use Rattle.asm_explore_texts.specs.Conditions.{texts_of}
use Rattle.asm_explore_texts.specs.code.CodedConditions.{AreConditionsOf, IsConditionOf, IsJoined}
use Rattle.asm_explore_texts.specs.declared.conditions.Condition.{Condition}

pub joined_is : (first : Box Term Global) (links : Vec (Op × Term) Global) → links.items ≢ [] → first.value ≡ Constant (Truth true)
    → IsJoined links.items (Some (Chain first links))
joined_is first links some begins = go links.items refl
  where
    go : (items : List (Op × Term)) → links.items ≡ items → IsJoined items (Some (Chain first links))
    go [] is = absurd (some is)
    go (link ∷ more) is = (first, links, refl, begins, is)

snoc : (spec : Spec) (texts : List (List ℕ)) (links : List (Op × Term)) (asked : List ℕ) (t : Term) → AreConditionsOf spec texts links
    → IsConditionOf spec asked t → AreConditionsOf spec (texts ++ asked ∷ []) (links ++ (And, t) ∷ [])
snoc spec [] [] asked t are is = (refl, is, tt)
snoc spec [] (link ∷ links) asked t are is = absurd are
snoc spec (one ∷ texts) [] asked t are is = absurd are
snoc spec (one ∷ texts) (link ∷ links) asked t are is = (are.0, are.1, snoc spec texts links asked t are.2 is)

pub one_more : (spec : Spec) (conditions : List Condition) (k : ℕ) (condition : Condition) (t : Term) (old new : List (Op × Term))
    → k < length conditions → condition ≡ slice_index_or conditions k condition
    → AreConditionsOf spec (texts_of (take k conditions)) old → IsConditionOf spec condition.text.items t → new ≡ old ++ (And, t) ∷ []
    → AreConditionsOf spec (texts_of (take (k + 1) conditions)) new
one_more spec conditions k condition t old new low at are is grown =
    let taken : texts_of (take (k + 1) conditions) ≡ texts_of (take k conditions) ++ condition.text.items ∷ [] =
    ap texts_of (take_more conditions k condition low ∙ ap (λ y. take k conditions ++ y ∷ []) (sym at)) ∙ map-append (λ c. c.text.items) (take k conditions) (condition ∷ []) in
    subst (λ links. AreConditionsOf spec (texts_of (take (k + 1) conditions)) links) (sym grown)
    (subst (λ texts. AreConditionsOf spec texts (old ++ (And, t) ∷ [])) (sym taken) (snoc spec (texts_of (take k conditions)) old condition.text.items t are is))
