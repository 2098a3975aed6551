-- Free. The paths of choices.
--     parts_differ            paths in parts with different numbers differ
--     both_apart              choices and others after them, whose paths differ from theirs
--     placed_*                choices that lie at a path
--     from_*, before_*        choices that lie at parts from a number on, or before one
--     have_*                  the choices of each outcome of a list
use Rattle.std.proofs.Common.{◌≡◌, ◌≢◌, ◌≤◌, ◌<◌, ◌+◌, ℕ, List, [], ◌∷◌, ◌++◌, Vec, Global, sym, subst, ◌∙◌, arith, append_assoc, append-nil}
use Rattle.std.specs.Prelude.{Result as Returned, Ok, Err, IfOk}
use Rattle.asm_meaning.specs.Yields.{Path, at}
use Rattle.asm_explore.specs.declared.outcomes.listed_outcome.Choice.{Choice}
use Rattle.asm_explore.specs.declared.outcomes.listed_outcome.ListedOutcome.{ListedOutcome}
use Rattle.asm_explore.specs.code.OutcomeLists.{Each, HaveChoices}
use Rattle.asm_explore.specs.code.ChoicePaths.{LiesAt, HaveOwnPaths, LieBelow, IsPlacedIn, IsPlacedFrom, IsPlacedBefore}
use Rattle.asm_explore.proofs.Elements.{each_append, each_weaker}

-- ---- paths

next_same : (p : Path) (i j : ℕ) (r s : Path) → p ++ i ∷ r ≡ p ++ j ∷ s → i ≡ j
next_same [] i j r s is = cc
next_same (n ∷ p) i j r s is = next_same p i j r s (cc)

no_longer : (p : Path) (i : ℕ) (r : Path) → p ≡ p ++ i ∷ r → ⊥
no_longer [] i r is = cc
no_longer (n ∷ p) i r is = no_longer p i r (cc)

in_part : (p q : Path) (k : ℕ) (h : LiesAt (at p k) q) → q ≡ p ++ k ∷ h.0
in_part p q k h = h.1 ∙ append_assoc p (k ∷ []) h.0

pub parts_differ : (p q r : Path) (i j : ℕ) → LiesAt (at p i) q → LiesAt (at p j) r → i ≢ j → q ≢ r
parts_differ p q r i j h g differ same = differ (next_same p i j h.0 g.0 (sym (in_part p q i h) ∙ same ∙ in_part p r j g))

pub lies_above : (p q : Path) (k : ℕ) → LiesAt (at p k) q → LiesAt p q
lies_above p q k h = (k ∷ h.0, in_part p q k h)

-- ---- choices

module _ (P Q : Choice → Type 0) (differ : (c d : Choice) → P c → Q d → c.path ≢ d.path) where
  pub both_apart : (cs ds : List Choice) → HaveOwnPaths cs → HaveOwnPaths ds → Each P cs → Each Q ds → HaveOwnPaths (cs ++ ds)
  both_apart [] ds a b h g = b
  both_apart (c ∷ cs) ds a b h g = (
    each_append (λ d. c.path ≢ d.path) cs ds a.0 (each_weaker Q (λ d. c.path ≢ d.path) (λ d there. differ c d h.0 there) ds g),
    both_apart cs ds a.1 b h.1 g,
  )

abbrev InPart : Path → (ℕ → Type 0) → Choice → Type 0
InPart p N c = (k : ℕ) × N k × LiesAt (at p k) c.path

pub placed_none : (p : Path) (cs : List Choice) → cs ≡ [] → LieBelow p cs
placed_none p cs is = subst (LieBelow p) (sym is) (record { apart = tt; below = tt })

pub placed_part : (p : Path) (k : ℕ) (cs : List Choice) → LieBelow (at p k) cs → LieBelow p cs
placed_part p k cs h = record {
  apart = h.apart;
  below = each_weaker (λ c. LiesAt (at p k) c.path) (λ c. LiesAt p c.path) (λ c there. lies_above p c.path k there) cs h.below;
}

pub placed_in : (p : Path) (N : ℕ → Type 0) (cs : List Choice) → IsPlacedIn p N cs → LieBelow p cs
placed_in p N cs h = record {
  apart = h.apart;
  below = each_weaker (InPart p N) (λ c. LiesAt p c.path) (λ c there. lies_above p c.path there.0 there.2) cs h.below;
}

-- the choice of a candidate, and those of the body under it
pub placed_chosen : (p : Path) (k : ℕ) (cs : List Choice) → LieBelow (at p 0) cs → LieBelow p (cs ++ record { path = p; number = k } ∷ [])
placed_chosen p k cs h =
    let own : Choice = record { path = p; number = k } in
    record {
      apart = both_apart (λ c. LiesAt (at p 0) c.path) (λ d. d.path ≡ p)
          (λ c d there is same. no_longer p 0 there.0 (sym (same ∙ is) ∙ in_part p c.path 0 there))
          cs (own ∷ []) h.apart (tt, tt) h.below ((λ i. p), tt);
      below = each_append (λ c. LiesAt p c.path) cs (own ∷ [])
          (each_weaker (λ c. LiesAt (at p 0) c.path) (λ c. LiesAt p c.path) (λ c there. lies_above p c.path 0 there) cs h.below)
          (([], sym (append-nil p)), tt);
    }

-- the same in the order in which they are made
pub placed_first : (p : Path) (k : ℕ) (cs : List Choice) → LieBelow (at p 0) cs → LieBelow p (record { path = p; number = k } ∷ cs)
placed_first p k cs h = record {
  apart = (
    each_weaker (λ c. LiesAt (at p 0) c.path) (λ c. p ≢ c.path) (λ c there same. no_longer p 0 there.0 (same ∙ in_part p c.path 0 there)) cs h.below,
    h.apart,
  );
  below = (([], sym (append-nil p)), each_weaker (λ c. LiesAt (at p 0) c.path) (λ c. LiesAt p c.path) (λ c there. lies_above p c.path 0 there) cs h.below);
}

-- ---- choices of parts

in_weaker : (p : Path) (N M : ℕ → Type 0) → ((k : ℕ) → N k → M k) → (cs : List Choice) → IsPlacedIn p N cs → IsPlacedIn p M cs
in_weaker p N M f cs h = record {
  apart = h.apart;
  below = each_weaker (InPart p N) (InPart p M) (λ c there. (there.0, f there.0 there.1, there.2)) cs h.below;
}

part_in : (p : Path) (N : ℕ → Type 0) (k : ℕ) → N k → (cs : List Choice) → LieBelow (at p k) cs → IsPlacedIn p N cs
part_in p N k so cs h = record {
  apart = h.apart;
  below = each_weaker (λ c. LiesAt (at p k) c.path) (InPart p N) (λ c there. (k, so, there)) cs h.below;
}

both_in : (p : Path) (N M K : ℕ → Type 0) → ((i j : ℕ) → N i → M j → i ≢ j) → ((k : ℕ) → N k → K k) → ((k : ℕ) → M k → K k)
    → (cs ds : List Choice) → IsPlacedIn p N cs → IsPlacedIn p M ds → IsPlacedIn p K (cs ++ ds)
both_in p N M K differ first then cs ds h g = record {
  apart = both_apart (InPart p N) (InPart p M)
      (λ c d here there. parts_differ p c.path d.path here.0 there.0 here.2 there.2 (differ here.0 there.0 here.1 there.1))
      cs ds h.apart g.apart h.below g.below;
  below = each_append (InPart p K) cs ds (in_weaker p N K first cs h).below (in_weaker p M K then ds g).below;
}

-- those of a part, and of later ones after them
pub from_part : (p : Path) (k : ℕ) (cs ds : List Choice) → LieBelow (at p k) cs → IsPlacedFrom p (k + 1) ds → IsPlacedFrom p k (cs ++ ds)
from_part p k cs ds h =
    both_in p (λ i. i ≡ k) (λ i. k + 1 ≤ i) (λ i. k ≤ i) (λ i j is low same. omega (arith, is, low, same)) (λ i is. omega (arith, is)) (λ i low. omega (arith, low))
    cs ds (part_in p (λ i. i ≡ k) k (λ i. k) cs h)

pub placed_both : (p : Path) (k : ℕ) (cs ds : List Choice) → LieBelow (at p k) cs → IsPlacedFrom p (k + 1) ds → LieBelow p (cs ++ ds)
placed_both p k cs ds h g = placed_in p (λ i. k ≤ i) (cs ++ ds) (from_part p k cs ds h g)

pub from_later : (p : Path) (k : ℕ) (cs : List Choice) → IsPlacedFrom p (k + 1) cs → IsPlacedFrom p k cs
from_later p k = in_weaker p (λ i. k + 1 ≤ i) (λ i. k ≤ i) (λ i low. omega (arith, low))

pub from_none : (p : Path) (k : ℕ) (cs : List Choice) → cs ≡ [] → IsPlacedFrom p k cs
from_none p k cs is = subst (IsPlacedFrom p k) (sym is) (record { apart = tt; below = tt })

-- those of earlier parts, and of the next one after them
pub before_part : (p : Path) (k : ℕ) (cs ds : List Choice) → IsPlacedBefore p k cs → LieBelow (at p k) ds → IsPlacedBefore p (k + 1) (cs ++ ds)
before_part p k cs ds h g =
    both_in p (λ i. i < k) (λ i. i ≡ k) (λ i. i < k + 1) (λ i j low is same. omega (arith, is, low, same)) (λ i low. omega (arith, low)) (λ i is. omega (arith, is))
    cs ds h (part_in p (λ i. i ≡ k) k (λ i. k) ds g)

pub before_later : (p : Path) (k : ℕ) (cs : List Choice) → IsPlacedBefore p k cs → IsPlacedBefore p (k + 1) cs
before_later p k = in_weaker p (λ i. i < k) (λ i. i < k + 1) (λ i low. omega (arith, low))

pub before_none : (p : Path) (k : ℕ) (cs : List Choice) → cs ≡ [] → IsPlacedBefore p k cs
before_none p k cs is = subst (IsPlacedBefore p k) (sym is) (record { apart = tt; below = tt })

-- ---- outcomes

pub have_weaker : (P Q : List Choice → Type 0) → ((cs : List Choice) → P cs → Q cs) → (fs : List ListedOutcome) → HaveChoices P fs → HaveChoices Q fs
have_weaker P Q f = each_weaker (λ g. P g.choices) (λ g. Q g.choices) (λ g. f g.choices)

pub ok_have : {E : Type 0} (P Q : List Choice → Type 0) (r : Returned (Vec ListedOutcome Global) E) → ((cs : List Choice) → P cs → Q cs)
    → IfOk r (λ fs. HaveChoices P fs.items) → IfOk r (λ fs. HaveChoices Q fs.items)
ok_have P Q (Ok fs) f h = have_weaker P Q f fs.items h
ok_have P Q (Err e) f h = tt
