-- Free. Lists of arguments and links, resolved one after the other.
use Rattle.std.proofs.Common.{Result, Ok, Err, IfOk, ◌≡◌, ℕ, zero, suc, ◌+◌, ◌<◌, List, [], ◌∷◌, ◌++◌, length, map, take, get_or, refl, sym, ap, subst, ◌∙◌, arith}
use Rattle.std.proofs.lemmas.List.{take_more}
use Rattle.asm_state.specs.declared.operation.Op.{Op}
use Rattle.asm_state.specs.Signature.{Shape}
use Rattle.asm_syntax.specs.PlainTree.{plain_term, plain_terms, plain_links}
use Rattle.asm_syntax.specs.Tree as tree
use Rattle.asm_syntax.specs.Tree.{Name}
use Rattle.asm_syntax.specs.code.Views.{term_of, terms_of, links_of}
use Rattle.asm_syntax.specs.declared.term.Term.{Term}
use Rattle.asm_meaning.specs.code.TreeWeights.{link_of, term_weight}
use Rattle.asm_meaning.specs.Program.{Program, Environment}
use Rattle.asm_meaning.specs.code.Weights.{weight, WeightsFall}
use Rattle.asm_code.specs.code.CodeTree as codes
use Rattle.asm_code.specs.code.CodeViews.{code_of, codes_of}
use Rattle.asm_code.specs.code.CodeViews as code
use Rattle.asm_code.specs.declared.code.Code.{Code}
use Rattle.asm_resolve.specs.code.ResolvedTerms.{IsResolved, AreResolved, AreResolvedLinks}

module _ (program : Program) (shape : Shape) (names : List Name) where
  abbrev pub Resolved : Term → Code → Type 0
  Resolved t c = IsResolved program shape names (plain_term (term_of t)) (code_of c)

  abbrev pub AllResolved : List Term → List Code → Type 0
  AllResolved ts cs = AreResolved program shape names (plain_terms (terms_of (map term_of ts))) (codes_of (map code_of cs))

  abbrev pub AllLinksResolved : List (Op × Term) → List (Op × Code) → Type 0
  AllLinksResolved ts cs = AreResolvedLinks program shape names (plain_links (links_of (map link_of ts))) (code.links_of (map code.link_of cs))

  behind : (ts : List Term) (cs : List Code) (t : Term) (c : Code) → AllResolved ts cs → Resolved t c → AllResolved (ts ++ t ∷ []) (cs ++ c ∷ [])
  behind [] [] t c are it = (it, tt)
  behind [] (d ∷ cs) t c are it = absurd are
  behind (u ∷ ts) [] t c are it = absurd are
  behind (u ∷ ts) (d ∷ cs) t c are it = (are.0, behind ts cs t c are.1 it)

  -- one more argument
  pub one_more : (ts : List Term) (cs : List Code) (i : ℕ) (t : Term) (c : Code) → i < length ts → t ≡ get_or ts i t → AllResolved (take i ts) cs → Resolved t c → AllResolved (take (i + 1) ts) (cs ++ c ∷ [])
  one_more ts cs i t c below is are it =
      subst (λ us. AllResolved us (cs ++ c ∷ [])) (sym (take_more ts i t below ∙ ap (λ u. take i ts ++ u ∷ []) (sym is))) (behind (take i ts) cs t c are it)

  links_behind : (ts : List (Op × Term)) (cs : List (Op × Code)) (t : Op × Term) (c : Op × Code) → AllLinksResolved ts cs → t.0 ≡ c.0 → Resolved t.1 c.1 → AllLinksResolved (ts ++ t ∷ []) (cs ++ c ∷ [])
  links_behind [] [] t c are same it = (same, it, tt)
  links_behind [] (d ∷ cs) t c are same it = absurd are
  links_behind (u ∷ ts) [] t c are same it = absurd are
  links_behind (u ∷ ts) (d ∷ cs) t c are same it = (are.0, are.1, links_behind ts cs t c are.2 same it)

  pub one_more_link : (ts : List (Op × Term)) (cs : List (Op × Code)) (i : ℕ) (t : Op × Term) (c : Op × Code) → i < length ts → t ≡ get_or ts i t → AllLinksResolved (take i ts) cs → t.0 ≡ c.0 → Resolved t.1 c.1
      → AllLinksResolved (take (i + 1) ts) (cs ++ c ∷ [])
  one_more_link ts cs i t c below is are same it =
      subst (λ us. AllLinksResolved us (cs ++ c ∷ [])) (sym (take_more ts i t below ∙ ap (λ u. take i ts ++ u ∷ []) (sym is))) (links_behind (take i ts) cs t c are same it)

  -- one argument and two of them
  pub only_one : (ts : List Term) (t : Term) (c : Code) → length ts ≡ 1 → t ≡ get_or ts 0 t → Resolved t c → AreResolved program shape names (plain_terms (terms_of (map term_of ts))) (codes.code_then (code_of c) codes.no_codes)
  only_one [] t c many is it = absurd (omega (arith, many))
  only_one (u ∷ []) t c many is it = (subst (λ (v : Term). Resolved v c) is it, tt)
  only_one (u ∷ v ∷ ts) t c many is it = absurd (omega (arith, many))

  pub only_two : (ts : List Term) (t u : Term) (c d : Code) → length ts ≡ 2 → t ≡ get_or ts 0 t → u ≡ get_or ts 1 u → Resolved t c → Resolved u d
      → AreResolved program shape names (plain_terms (terms_of (map term_of ts))) (codes.code_then (code_of c) (codes.code_then (code_of d) codes.no_codes))
  only_two [] t u c d many is is' it it' = absurd (omega (arith, many))
  only_two (v ∷ []) t u c d many is is' it it' = absurd (omega (arith, many))
  only_two (v ∷ w ∷ []) t u c d many is is' it it' = (subst (λ (k : Term). Resolved k c) is it, (subst (λ (k : Term). Resolved k d) is' it', tt))
  only_two (v ∷ w ∷ x ∷ ts) t u c d many is is' it it' = absurd (omega (arith, many))

  -- as many codes as arguments
  pub as_many : (ts : List Term) (cs : List Code) → AreResolved program shape names (plain_terms (terms_of (map term_of ts))) (codes_of (map code_of cs)) → length cs ≡ length ts
  as_many [] [] are = refl
  as_many [] (c ∷ cs) are = absurd are
  as_many (t ∷ ts) [] are = absurd are
  as_many (t ∷ ts) (c ∷ cs) are = let rest = as_many ts cs are.1 in omega (arith, rest)

  pub none_at_all : (ts : List Term) → length ts ≡ 0 → AreResolved program shape names (plain_terms (terms_of (map term_of ts))) codes.no_codes
  none_at_all [] many = tt
  none_at_all (t ∷ ts) many = absurd (omega (arith, many))

-- the same of equal terms and codes
pub as_resolved : (program : Program) (shape : Shape) (names : List Name) (t t' : tree.Term) (c c' : codes.Code) → t' ≡ t → c' ≡ c → IsResolved program shape names t c → IsResolved program shape names t' c'
as_resolved program shape names t t' c c' is same it = subst (λ k. IsResolved program shape names t' k) (sym same) (subst (λ u. IsResolved program shape names u c) (sym is) it)

pub if_ok : {T E : Type 0} (r : Result T E) (P Q : T → Type 0) → ((x : T) → P x → Q x) → IfOk r P → IfOk r Q
if_ok (Ok x) P Q f p = f x p
if_ok (Err e) P Q f p = tt

-- each operand weighs less than the chain
pub operand_falls : (program : Program) (rank : Name → ℕ) (e : Environment) → WeightsFall program rank e → (t : tree.Term) (links : List (Op × Term)) (i : ℕ) (l : Op × Term) → i < length links → l ≡ get_or links i l
    → term_weight program e l.1 < weight program e (tree.Chain t (plain_links (links_of (map link_of links))))
operand_falls program rank e falls t [] i l below is = absurd (omega (arith, below))
operand_falls program rank e falls t (k ∷ links) zero l below is =
    subst (λ (m : Op × Term). term_weight program e m.1 < weight program e (tree.Chain t (plain_links (links_of (map link_of (k ∷ links)))))) (sym is) (falls.at_link t (plain_term (term_of k.1)) k.0 (plain_links (links_of (map link_of links))))
operand_falls program rank e falls t (k ∷ links) (suc i) l below is =
    let rest = operand_falls program rank e falls t links i l (omega (arith, below)) is in
    let later = falls.at_later_link t (plain_term (term_of k.1)) k.0 (plain_links (links_of (map link_of links))) in
    omega (arith, rest, later)

-- a chain of one link
module _ (program : Program) (shape : Shape) (names : List Name) where
  pub only_link : (t : tree.Term) (ls : List (Op × Term)) (l : Op × Term) (c : codes.Code) → length ls ≡ 1 → l ≡ get_or ls 0 l → IsResolved program shape names (tree.Chain t (tree.link_then l.0 (plain_term (term_of l.1)) tree.no_links)) c
      → IsResolved program shape names (tree.Chain t (plain_links (links_of (map link_of ls)))) c
  only_link t [] l c many is it = absurd (omega (arith, many))
  only_link t (k ∷ []) l c many is it = subst (λ (m : Op × Term). IsResolved program shape names (tree.Chain t (tree.link_then m.0 (plain_term (term_of m.1)) tree.no_links)) c) is it
  only_link t (k ∷ m ∷ ls) l c many is it = absurd (omega (arith, many))

pub if_both : {T E X Y : Type 0} (r : Result T E) (S : T → Type 0) (R : X → Y → T → Type 0) (Q : T → Type 0) → IfOk r S → ((x : X) (y : Y) → IfOk r (R x y)) → ((c : T) → S c → ((x : X) (y : Y) → R x y c) → Q c) → IfOk r Q
if_both (Ok c) S R Q s r q = q c s r
if_both (Err e) S R Q s r q = tt
