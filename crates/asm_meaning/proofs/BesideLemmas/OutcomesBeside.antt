-- Free. What outcomes beside each other give, where they are exhausted, and how many instances they
-- have.
use Rattle.std.proofs.Common.{◌≡◌, ℕ, zero, suc, ◌+◌, ◌<◌, List, [], ◌∷◌, length, map, sum, slice_index_or, All, refl, sym, ap, subst, ◌∙◌, arith, inl, inr}
use Rattle.std.proofs.lemmas.List.Sums.{sum-map, sum_by-cons}
use Rattle.std.specs.List.{Any}
use Rattle.asm_state.specs.Updates.{UpdateSet, together}
use Rattle.asm_meaning.specs.Does.{Outcome}
use Rattle.asm_meaning.specs.ExhaustedLaws.{IsFrom, IsUpTo}
use Rattle.asm_meaning.specs.code.OutcomesBeside.{counting, all_both, union, IsUnion, IsFirstOf, IsMadeOf, GroupingLaws}
use Rattle.asm_meaning.specs.Yields.{Path, Result, Gives, Exhausted, beside}
use Rattle.asm_meaning.proofs.BesideLemmas.PartsBeside.{beside_laws, up_to_both, up_to_itself}
use Rattle.asm_meaning.proofs.BesideLemmas.GroupsBeside.{all_both-append}
use Rattle.asm_meaning.proofs.BesideLemmas.ExhaustedLaws.{one_of_both, from_both, exhausted_first, exhausted_later}

-- ---- the sets

record AreTogether (r s : Result) (U : UpdateSet) : Type 0 where
  left : UpdateSet
  right : UpdateSet
  left_gives : r ≡ Gives left
  right_gives : s ≡ Gives right
  is : U ≡ together left right

both_give : (r s : Result) (U : UpdateSet) → beside r s ≡ Gives U → AreTogether r s U
both_give (Gives V) (Gives W) U e = record { left = V; right = W; left_gives = refl; right_gives = refl; is = cc }
both_give (Gives V) (Exhausted q) U e = cc
both_give (Exhausted p) (Gives W) U e = cc
both_give (Exhausted p) (Exhausted q) U e = cc

all_give : (os : List Outcome) (U : UpdateSet) → (all_both os).result ≡ Gives U → IsUnion U os
all_give [] U e = record { sets = []; give = refl; united = cc }
all_give (o ∷ os) U e =
    let two = both_give o.result (all_both os).result U e in
    let rest = all_give os two.right two.right_gives in
    record {
      sets = two.left ∷ rest.sets;
      give = ap (λ r. r ∷ map (λ (it : Outcome). it.result) os) two.left_gives ∙ ap (λ rs. Gives two.left ∷ rs) rest.give;
      united = two.is ∙ ap (together two.left) rest.united;
    }

union_given : (os : List Outcome) (Us : List UpdateSet) → map (λ (it : Outcome). it.result) os ≡ map Gives Us → (all_both os).result ≡ Gives (union Us)
union_given [] [] e = refl
union_given [] (U ∷ Us) e = cc
union_given (o ∷ os) [] e = cc
union_given (o ∷ os) (U ∷ Us) e =
    let first : o.result ≡ Gives U = cc in
    let rest : map (λ (it : Outcome). it.result) os ≡ map Gives Us = cc in
    ap (λ r. beside r (all_both os).result) first ∙ ap (beside (Gives U)) (union_given os Us rest)

-- ---- where they are exhausted

abbrev IsAt : Path → Outcome → Type 0
IsAt p o = o.result ≡ Exhausted p

abbrev IsOutcomeFrom : Path → Outcome → Type 0
IsOutcomeFrom p o = IsFrom p o.result

is_one : (os : List Outcome) (q : Path) → (all_both os).result ≡ Exhausted q → Any (IsAt q) os
is_one [] q e = cc
is_one (o ∷ os) q e =
    elim (one_of_both q o.result (all_both os).result e) [
      | inl is ↦ (0, o, omega arith, refl, is)
      | inr later ↦ let there = is_one os q later in (suc there.0, there.1, omega (arith, there.2), there.3, there.4)
    ]

from_all : (os : List Outcome) (q : Path) → IsFrom q (all_both os).result → All (IsOutcomeFrom q) os
from_all [] q h k d low = absurd (omega (arith, low))
from_all (o ∷ os) q h zero d low = (from_both q o.result (all_both os).result h).0
from_all (o ∷ os) q h (suc k) d low = from_all os q (from_both q o.result (all_both os).result h).1 k d (omega (arith, low))

is_least : (os : List Outcome) (q : Path) → (all_both os).result ≡ Exhausted q → All (IsOutcomeFrom q) os
is_least os q e = from_all os q (subst (IsFrom q) (sym e) (up_to_itself q))

is_exhausted_at : (os : List Outcome) (p : Path) (k : ℕ) (o : Outcome) → k < length os → slice_index_or os k o ≡ o → IsAt p o
    → (q : Path) × ((all_both os).result ≡ Exhausted q)
is_exhausted_at [] p k o low at is = absurd (omega (arith, low))
is_exhausted_at (s ∷ os) p zero o low at is =
    let found = exhausted_first p (all_both os).result in
    (found.0, ap (λ (it : Outcome). beside it.result (all_both os).result) at ∙ ap (λ r. beside r (all_both os).result) is ∙ found.1)
is_exhausted_at (s ∷ os) p (suc k) o low at is =
    let rest = is_exhausted_at os p k o (omega (arith, low)) at is in
    let found = exhausted_later rest.0 s.result in
    (found.0, ap (beside s.result) rest.1 ∙ found.1)

is_exhausted : (os : List Outcome) (p : Path) → Any (IsAt p) os → (q : Path) × ((all_both os).result ≡ Exhausted q)
is_exhausted os p there = is_exhausted_at os p there.0 there.1 there.2 there.3 there.4

-- none is exhausted before p, and one is at q
up_to_one : (os : List Outcome) (p q : Path) → All (IsOutcomeFrom p) os → Any (IsAt q) os → IsUpTo p q
up_to_one os p q from there = subst (IsFrom p) there.4 (subst (IsOutcomeFrom p) there.3 (from there.0 there.1 there.2))

first_exhausted : (os : List Outcome) (p : Path) → IsFirstOf p os → (all_both os).result ≡ Exhausted p
first_exhausted os p first =
    let found = is_exhausted os p first.is_one in
    found.1 ∙ ap Exhausted (up_to_both found.0 p (up_to_one os found.0 p (is_least os found.0 found.1) first.is_one) (up_to_one os p found.0 first.is_least (is_one os found.0 found.1)))

-- ---- how many instances they have

all_instances : (os : List Outcome) → (all_both os).instances ≡ sum (map (λ (it : Outcome). it.instances) os)
all_instances [] = refl
all_instances (o ∷ os) =
    let count = λ (it : Outcome). it.instances in
    ap (λ n. o.instances + n) (all_instances os ∙ sum-map count os) ∙ sym (sum_by-cons count o os) ∙ sym (sum-map count (o ∷ os))

-- ---- the laws

is_made_of : (o : Outcome) (n : ℕ) (os : List Outcome) → o ≡ counting n (all_both os) → IsMadeOf o n os
is_made_of o n os e =
    let same : o.result ≡ (all_both os).result = ap (λ (it : Outcome). it.result) e in
    record {
      gives = λ U. (λ is. all_give os U (sym same ∙ is), λ them. same ∙ union_given os them.sets them.give ∙ ap Gives (sym them.united));
      exhausted = λ p. (λ is. record { is_one = is_one os p (sym same ∙ is); is_least = is_least os p (sym same ∙ is) }, λ first. same ∙ first_exhausted os p first);
      is_exhausted = λ q there. let found = is_exhausted os q there in (found.0, same ∙ found.1);
      instances = ap (λ (it : Outcome). it.instances) e ∙ ap (λ m. n + m) (all_instances os);
    }

pub grouping_laws : GroupingLaws
grouping_laws = record { of_outcomes = is_made_of; of_none = refl; of_one = beside_laws.last_unit; of_appended = all_both-append }
