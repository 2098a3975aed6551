-- Free. Parts beside each other.
use Rattle.std.proofs.Common.{◌≡◌, ℕ, suc, ◌+◌, Bool, true, false, cond, List, [], ◌∷◌, ◌++◌, length, refl, sym, ap, subst, ◌∙◌, arith, ◌⊎◌, inl, inr}
use Rattle.std.specs.Cmp.{tied_itself, upto}
use Rattle.std.specs.Cmp.Lexicographic.{slice_cmp, nat_list_cmp_total}
use Rattle.std.specs.FinMap.{slice_cmp-IsAntisymmetric, nat_cmp-IsAntisymmetric}
use Rattle.std.specs.Ordering.{nat_cmp, is_lt, is_gt, ordering_reverse}
use Rattle.std.specs.declared.cmp.Ordering.{Ordering}
use Rattle.std.specs.declared.cmp.Ordering.TheVariants.{Less, Equal, Greater}
use Rattle.std.proofs.lemmas.Bool.{false≢true}
use Rattle.asm_state.specs.declared.value.Value.{Value}
use Rattle.asm_state.specs.Location.{State}
use Rattle.asm_state.specs.Updates.{UpdateSet, none, together}
use Rattle.asm_state.proofs.UpdateLemmas.UnionsAndMerges.{union_laws}
use Rattle.asm_meaning.specs.Program.{Environment}
use Rattle.asm_meaning.specs.Yields.{Path, at, first_path, Result, Gives, Exhausted, beside}
use Rattle.asm_meaning.specs.Does.{Outcome, Meaning, nothing, both, counted, parts, each}
use Rattle.asm_meaning.specs.ExhaustedLaws.{IsUpTo}
use Rattle.asm_meaning.specs.code.BesideLaws.{BesideLaws, SplitLaws}

-- ---- the order of paths

not_greater : (r : Ordering) → is_lt r ≡ true → is_gt r ≡ false
not_greater Less e = refl
not_greater Equal e = refl
not_greater Greater e = absurd (false≢true e)

turned : (r : Ordering) → is_gt (ordering_reverse r) ≡ is_lt r
turned Less = refl
turned Equal = refl
turned Greater = refl

equal_from : (r : Ordering) → is_gt r ≡ false → is_gt (ordering_reverse r) ≡ false → r ≡ Equal
equal_from Less e f = absurd (false≢true (sym f))
equal_from Equal e f = refl
equal_from Greater e f = absurd (false≢true (sym e))

pub up_to_itself : (p : Path) → IsUpTo p p
up_to_itself p = ap is_gt (tied_itself nat_list_cmp_total p)

pub up_to_both : (p q : Path) → IsUpTo p q → IsUpTo q p → p ≡ q
up_to_both p q h k =
    slice_cmp-IsAntisymmetric nat_cmp-IsAntisymmetric p q
    (equal_from (slice_cmp nat_cmp p q) h (ap is_gt (sym (nat_list_cmp_total.antisymm q p)) ∙ k))

-- the first of two paths is one of them, and isn't after either
pub record IsFirst (p q r : Path) : Type 0 where
  pub is_one : (r ≡ p) ⊎ (r ≡ q)
  pub first : IsUpTo r p
  pub second : IsUpTo r q

pub first_is : (p q : Path) → IsFirst p q (first_path p q)
first_is p q =
    elim (is_lt (slice_cmp nat_cmp q p)) as (λ b. is_lt (slice_cmp nat_cmp q p) ≡ b → IsFirst p q (cond b q p)) [
      | true ↦ λ e. record { is_one = inr refl; first = not_greater (slice_cmp nat_cmp q p) e; second = up_to_itself q }
      | false ↦ λ e. record { is_one = inl refl; first = up_to_itself p; second = ap is_gt (nat_list_cmp_total.antisymm p q) ∙ turned (slice_cmp nat_cmp q p) ∙ e }
    ] refl

pub chain : (p q r : Path) → IsUpTo p q → IsUpTo q r → IsUpTo p r
chain p q r = upto nat_list_cmp_total p q r

-- what isn't after either isn't after the first
up_to_first : (s p q : Path) → IsUpTo s p → IsUpTo s q → IsUpTo s (first_path p q)
up_to_first s p q h k = elim (first_is p q).is_one [ inl e ↦ subst (IsUpTo s) (sym e) h | inr e ↦ subst (IsUpTo s) (sym e) k ]

first_swap : (p q : Path) → first_path p q ≡ first_path q p
first_swap p q = up_to_both _ _ (up_to_first _ q p (first_is p q).second (first_is p q).first) (up_to_first _ p q (first_is q p).second (first_is q p).first)

first_group : (p q r : Path) → first_path (first_path p q) r ≡ first_path p (first_path q r)
first_group p q r = up_to_both x y
    (up_to_first x p (first_path q r) (chain x (first_path p q) p left.first inner.first) (up_to_first x q r (chain x (first_path p q) q left.first inner.second) left.second))
    (up_to_first y (first_path p q) r (up_to_first y p q right.first (chain y (first_path q r) q right.second last.first)) (chain y (first_path q r) r right.second last.second))
  where
    x : Path
    x = first_path (first_path p q) r

    y : Path
    y = first_path p (first_path q r)

    left : IsFirst (first_path p q) r (first_path (first_path p q) r)
    left = first_is (first_path p q) r

    inner : IsFirst p q (first_path p q)
    inner = first_is p q

    right : IsFirst p (first_path q r) (first_path p (first_path q r))
    right = first_is p (first_path q r)

    last : IsFirst q r (first_path q r)
    last = first_is q r

-- ---- results and outcomes

pub right_unit : (U : UpdateSet) → together U none ≡ U
right_unit U = union_laws.swap U none ∙ union_laws.unit U

beside_swap : (r s : Result) → beside r s ≡ beside s r
beside_swap (Gives U) (Gives V) = ap Gives (union_laws.swap U V)
beside_swap (Gives U) (Exhausted q) = refl
beside_swap (Exhausted p) (Gives V) = refl
beside_swap (Exhausted p) (Exhausted q) = ap Exhausted (first_swap p q)

beside_group : (r s t : Result) → beside (beside r s) t ≡ beside r (beside s t)
beside_group (Gives U) (Gives V) (Gives W) = ap Gives (union_laws.group U V W)
beside_group (Gives U) (Gives V) (Exhausted q) = refl
beside_group (Gives U) (Exhausted p) (Gives W) = refl
beside_group (Gives U) (Exhausted p) (Exhausted q) = refl
beside_group (Exhausted p) (Gives V) (Gives W) = refl
beside_group (Exhausted p) (Gives V) (Exhausted q) = refl
beside_group (Exhausted p) (Exhausted q) (Gives W) = refl
beside_group (Exhausted p) (Exhausted q) (Exhausted r) = ap Exhausted (first_group p q r)

beside_unit : (r : Result) → beside (Gives none) r ≡ r
beside_unit (Gives U) = ap Gives (union_laws.unit U)
beside_unit (Exhausted q) = refl

same_outcome : (o q : Outcome) → o.result ≡ q.result → o.instances ≡ q.instances → o ≡ q
same_outcome o q e f i = record { result = e i; instances = f i }

first_unit : (o : Outcome) → both nothing o ≡ o
first_unit o = same_outcome _ _ (beside_unit o.result) (omega arith)

group : (o q s : Outcome) → both (both o q) s ≡ both o (both q s)
group o q s = same_outcome _ _ (beside_group o.result q.result s.result) (omega arith)

swap : (o q : Outcome) → both o q ≡ both q o
swap o q = same_outcome _ _ (beside_swap o.result q.result) (omega arith)

pub beside_laws : BesideLaws
beside_laws = record { first_unit = first_unit; last_unit = λ o. swap o nothing ∙ first_unit o; swap = swap; group = group }

-- ---- cuts

one_on : (n k : ℕ) → n + suc k ≡ suc n + k
one_on n k = omega arith

split_parts : (ms ns : List Meaning) (k : ℕ) (A : State) (e : Environment) (p : Path) → parts (ms ++ ns) k A e p ≡ both (parts ms k A e p) (parts ns (length ms + k) A e p)
split_parts [] ns k A e p = ap (λ j. parts ns j A e p) (zero_on k) ∙ sym (first_unit _)
  where
    zero_on : (k : ℕ) → k ≡ 0 + k
    zero_on k = omega arith
split_parts (m ∷ ms) ns k A e p =
    ap (both (m A e (at p k))) (split_parts ms ns (suc k) A e p ∙ ap (λ j. both (parts ms (suc k) A e p) (parts ns j A e p)) (one_on (length ms) k))
    ∙ sym (group (m A e (at p k)) (parts ms (suc k) A e p) (parts ns (suc (length ms) + k) A e p))

count_on : (o q : Outcome) → counted (both o q) ≡ both (counted o) q
count_on o q = same_outcome _ _ refl (omega arith)

split_elements : (m : Value → ℕ → Outcome) (test : Value → Bool) (vs ws : List Value) (k : ℕ) → each m test k (vs ++ ws) ≡ both (each m test k vs) (each m test (length vs + k) ws)
split_elements m test [] ws k = ap (λ j. each m test j ws) (zero_on k) ∙ sym (first_unit _)
  where
    zero_on : (k : ℕ) → k ≡ 0 + k
    zero_on k = omega arith
split_elements m test (v ∷ vs) ws k =
    let rest : each m test (suc k) (vs ++ ws) ≡ both (each m test (suc k) vs) (each m test (suc (length vs) + k) ws) =
    split_elements m test vs ws (suc k) ∙ ap (λ j. both (each m test (suc k) vs) (each m test j ws)) (one_on (length vs) k) in
    elim (test v) as (λ b. cond b (counted (both (m v k) (each m test (suc k) (vs ++ ws)))) (each m test (suc k) (vs ++ ws))
    ≡ both (cond b (counted (both (m v k) (each m test (suc k) vs))) (each m test (suc k) vs)) (each m test (suc (length vs) + k) ws)) [
      | true ↦
          ap (λ o. counted (both (m v k) o)) rest
          ∙ ap counted (sym (group (m v k) (each m test (suc k) vs) (each m test (suc (length vs) + k) ws)))
          ∙ count_on (both (m v k) (each m test (suc k) vs)) (each m test (suc (length vs) + k) ws)
      | false ↦ rest
    ]

pub split_laws : SplitLaws
split_laws = record { of_parts = split_parts; of_elements = split_elements }
