-- Free. Conditions that are joined by `and` hold together just when each of them does.
--     all_hold      a chain of them after `true`
use Rattle.std.proofs.Common.{◌≡◌, ℕ, Bool, true, false, ◌&&◌, List, [], ◌∷◌, map, Option, Some, refl, ap, ◌∙◌}
use Rattle.std.proofs.Common.{Vec, Box, Global}
use Rattle.std.specs.List.{list_all}
use Rattle.asm_state.specs.Location.{State}
use Rattle.asm_state.specs.Operation.{op}
use Rattle.asm_state.specs.declared.operation.Op.{Op}
use Rattle.asm_state.specs.declared.operation.Op.TheVariants.{And}
use Rattle.asm_state.specs.declared.value.Value.{Value}
use Rattle.asm_state.specs.declared.value.Value.TheVariants as value
use Rattle.asm_syntax.specs.PlainTree.{literal_value, plain_links, plain_term}
use Rattle.asm_syntax.specs.Tree as tree
use Rattle.asm_syntax.specs.Tree.{Name}
use Rattle.asm_syntax.specs.code.Views.{links_of, term_of}
use Rattle.asm_syntax.specs.declared.term.Literal.{Literal}
use Rattle.asm_syntax.specs.declared.term.Literal.TheVariants.{Truth}
use Rattle.asm_syntax.specs.declared.term.Term.{Term}
use Rattle.asm_syntax.specs.declared.term.Term.TheVariants as term
use Rattle.asm_meaning.specs.Program.{Program, nothing_bound}
use Rattle.asm_meaning.specs.TermCases.{TermCases, chain_value}
use Rattle.asm_meaning.specs.code.TreeWeights.{link_of}
use Rattle.asm_meaning.specs.Value.{holds, is_true, value}
use Rattle.asm_meaning.specs.code.TermValues.{condition}
use Rattle.asm_explore_texts.specs.code.CodedConditions.{AreAnds, IsJoined}

both_hold : (v w : Value) → is_true (op And v w) ≡ is_true v && is_true w
both_hold (value.Truth true) (value.Truth q) = refl
both_hold (value.Truth true) value.Undef = refl
both_hold (value.Truth true) (value.Number n) = refl
both_hold (value.Truth true) (value.Element e) = refl
both_hold (value.Truth false) (value.Truth q) = refl
both_hold (value.Truth false) value.Undef = refl
both_hold (value.Truth false) (value.Number n) = refl
both_hold (value.Truth false) (value.Element e) = refl
both_hold value.Undef w = refl
both_hold (value.Number n) w = refl
both_hold (value.Element e) w = refl

and_more : (a b c : Bool) → (a && b) && c ≡ a && (b && c)
and_more true b c = refl
and_more false b c = refl

module _ (program : Program) (A : State) where
  abbrev truth : Op × Term → Bool
  truth link = holds program A nothing_bound (condition (Some link.1))

  chain_holds : (links : List (Op × Term)) (v : Value) → AreAnds links
      → is_true (chain_value program A nothing_bound (plain_links (links_of (map link_of links))) v) ≡ is_true v && list_all truth links
  chain_holds [] v ands = with_true (is_true v)
    where
      with_true : (b : Bool) → b ≡ b && true
      with_true true = refl
      with_true false = refl
  chain_holds (link ∷ links) v ands =
      let next = value program A nothing_bound (plain_term (term_of link.1)) in
      ap (λ o. is_true (chain_value program A nothing_bound (plain_links (links_of (map link_of links))) (op o v next))) ands.0
      ∙ (chain_holds links (op And v next) ands.1
      ∙ (ap (λ b. b && list_all truth links) (both_hold v next) ∙ and_more (is_true v) (is_true next) (list_all truth links)))

  module _ (rank : Name → ℕ) (cases : TermCases program rank A nothing_bound)
      (constant : (t : Term) (l : Literal) → t ≡ term.Constant l → plain_term (term_of t) ≡ tree.Constant (literal_value l))
      (chain : (t : Term) (first : Box Term Global) (rest : Vec (Op × Term) Global) → t ≡ term.Chain first rest
      → plain_term (term_of t) ≡ tree.Chain (plain_term (term_of first.value)) (plain_links (links_of (map link_of rest.items)))) where
    pub all_hold : (links : List (Op × Term)) (t : Option Term) → AreAnds links → IsJoined links t
        → holds program A nothing_bound (condition t) ≡ list_all truth links
    all_hold [] t ands is = ap (λ it. holds program A nothing_bound (condition it)) is
    all_hold (link ∷ links) t ands (first, rest, is, begins, items) =
        let whole : plain_term (term_of (term.Chain first rest)) ≡ tree.Chain (tree.Constant (value.Truth true)) (plain_links (links_of (map link_of (link ∷ links)))) =
        chain (term.Chain first rest) first rest refl
        ∙ (ap (λ x. tree.Chain x (plain_links (links_of (map link_of rest.items)))) (constant first.value (Truth true) begins)
        ∙ ap (λ x. tree.Chain (tree.Constant (value.Truth true)) (plain_links (links_of (map link_of x)))) items) in
        ap (λ it. holds program A nothing_bound (condition it)) is
        ∙ (ap (λ x. is_true (value program A nothing_bound x)) whole
        ∙ (ap is_true (cases.of_chain (tree.Constant (value.Truth true)) (plain_links (links_of (map link_of (link ∷ links)))))
        ∙ (ap (λ v. is_true (chain_value program A nothing_bound (plain_links (links_of (map link_of (link ∷ links)))) v)) (cases.of_constant (value.Truth true))
        ∙ chain_holds (link ∷ links) (value.Truth true) ands)))
