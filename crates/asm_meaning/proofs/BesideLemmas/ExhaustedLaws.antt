-- Free. The path at which results beside each other are exhausted.
use Rattle.std.proofs.Common.{◌≡◌, ℕ, zero, suc, ◌<◌, List, [], ◌∷◌, length, slice_index_or, All, refl, sym, ap, subst, ◌∙◌, arith, ◌⊎◌, inl, inr}
use Rattle.std.specs.List.{Any}
use Rattle.asm_meaning.specs.Yields.{Path, first_path, Result, Gives, Exhausted, beside, all_beside}
use Rattle.asm_meaning.specs.ExhaustedLaws.{IsFrom, ExhaustedLaws}
use Rattle.asm_meaning.proofs.BesideLemmas.PartsBeside.{first_is, up_to_itself, chain}
use Rattle.asm_meaning.proofs.BesideLemmas.ExhaustedPaths.{first_part_first, first_element_first}

-- ---- of two

pub one_of_both : (q : Path) (r s : Result) → beside r s ≡ Exhausted q → (r ≡ Exhausted q) ⊎ (s ≡ Exhausted q)
one_of_both q (Gives U) (Gives V) e = cc
one_of_both q (Gives U) (Exhausted s) e = inr e
one_of_both q (Exhausted r) (Gives V) e = inl e
one_of_both q (Exhausted r) (Exhausted s) e =
    elim (first_is r s).is_one [
      | inl is ↦ inl (ap Exhausted (sym is) ∙ e)
      | inr is ↦ inr (ap Exhausted (sym is) ∙ e)
    ]

pub from_both : (q : Path) (r s : Result) → IsFrom q (beside r s) → IsFrom q r × IsFrom q s
from_both q (Gives U) (Gives V) h = (tt, tt)
from_both q (Gives U) (Exhausted s) h = (tt, h)
from_both q (Exhausted r) (Gives V) h = (h, tt)
from_both q (Exhausted r) (Exhausted s) h =
    (chain q (first_path r s) r h (first_is r s).first, chain q (first_path r s) s h (first_is r s).second)

pub exhausted_first : (p : Path) (s : Result) → (q : Path) × (beside (Exhausted p) s ≡ Exhausted q)
exhausted_first p (Gives V) = (p, refl)
exhausted_first p (Exhausted s) = (first_path p s, refl)

pub exhausted_later : (p : Path) (r : Result) → (q : Path) × (beside r (Exhausted p) ≡ Exhausted q)
exhausted_later p (Gives U) = (p, refl)
exhausted_later p (Exhausted r) = (first_path r p, refl)

-- ---- of a list

is_one : (rs : List Result) (q : Path) → all_beside rs ≡ Exhausted q → Any (λ r. r ≡ Exhausted q) rs
is_one [] q e = cc
is_one (r ∷ rs) q e =
    elim (one_of_both q r (all_beside rs) e) [
      | inl is ↦ (0, r, omega arith, refl, is)
      | inr later ↦ let there = is_one rs q later in (suc there.0, there.1, omega (arith, there.2), there.3, there.4)
    ]

from_all : (rs : List Result) (q : Path) → IsFrom q (all_beside rs) → All (IsFrom q) rs
from_all [] q h k d low = absurd (omega (arith, low))
from_all (r ∷ rs) q h zero d low = (from_both q r (all_beside rs) h).0
from_all (r ∷ rs) q h (suc k) d low = from_all rs q (from_both q r (all_beside rs) h).1 k d (omega (arith, low))

is_least : (rs : List Result) (q : Path) → all_beside rs ≡ Exhausted q → All (IsFrom q) rs
is_least rs q e = from_all rs q (subst (IsFrom q) (sym e) (up_to_itself q))

is_exhausted_at : (rs : List Result) (p : Path) (k : ℕ) (r : Result) → k < length rs → slice_index_or rs k r ≡ r → r ≡ Exhausted p
    → (q : Path) × (all_beside rs ≡ Exhausted q)
is_exhausted_at [] p k r low at is = absurd (omega (arith, low))
is_exhausted_at (s ∷ rs) p zero r low at is =
    let found = exhausted_first p (all_beside rs) in
    (found.0, ap (λ it. beside it (all_beside rs)) (at ∙ is) ∙ found.1)
is_exhausted_at (s ∷ rs) p (suc k) r low at is =
    let rest = is_exhausted_at rs p k r (omega (arith, low)) at is in
    let found = exhausted_later rest.0 s in
    (found.0, ap (beside s) rest.1 ∙ found.1)

pub exhausted_laws : ExhaustedLaws
exhausted_laws = record {
  is_one = is_one;
  is_least = is_least;
  is_exhausted = λ rs p there. is_exhausted_at rs p there.0 there.1 there.2 there.3 there.4;
  first_part = first_part_first;
  first_element = first_element_first;
}
