-- Free. Positions in pages: each page that is made has places of its own.
use Rattle.std.proofs.Common.{◌≡◌, ℕ, ◌<◌, ◌≤◌, ◌+◌, ◌*◌, ◌/◌, ◌%◌, true, false, eqb, cond, List, length, get_or, set, refl, sym, ap, subst, ◌∙◌, arith, inl, inr, get_or-set_same, get_or-set_other}
use Rattle.std.proofs.lemmas.Bool.{cases_eq}
use Rattle.std.proofs.lemmas.Bool.Decides.{nat_tests}
use Rattle.std.proofs.lemmas.List.{get_or_past}
use Rattle.asm_updates.specs.code.Positions.{page_in, slot_in, position_in, IsMade, ArePages}

pub slot_within : (ps qs : List ℕ) (n : ℕ) → ArePages ps qs → IsMade ps n → slot_in ps n < length qs
slot_within ps qs n are made = omega (arith, are.within (n / 64) made)

-- two locations of one place are one
pub same_slot : (ps qs : List ℕ) (k n : ℕ) → ArePages ps qs → IsMade ps n → slot_in ps k ≡ slot_in ps n → k ≡ n
same_slot ps qs k n are made same =
    let page : page_in ps (n / 64) ≡ page_in ps (k / 64) = omega (arith, same) in
    let place : k % 64 ≡ n % 64 = omega (arith, same) in
    let number : n / 64 ≡ k / 64 = are.apart (n / 64) (k / 64) made page in
    omega (arith, place, number)

pub position-placed : (ps qs : List ℕ) (n q : ℕ) → ArePages ps qs → IsMade ps n → (k : ℕ) → position_in ps (set qs (slot_in ps n) q) k ≡ cond (eqb k n) q (position_in ps qs k)
position-placed ps qs n q are made k =
    elim (cases_eq k n) [
      | inl same ↦
          let yes : eqb k n ≡ true = grind (arith, nat_tests) in
          rw yes (ap (λ j. position_in ps (set qs (slot_in ps n) q) j) same ∙ get_or-set_same qs (slot_in ps n) q 0 (slot_within ps qs n are made))
      | inr other ↦
          let skip : eqb k n ≡ false = grind (arith, nat_tests) in
          rw skip (get_or-set_other qs (slot_in ps n) (slot_in ps k) q 0 (λ same. other (same_slot ps qs k n are made same)))
    ]

-- ---- lists that are longer by zeros

pub ArePages-longer : (ps qs ms ns : List ℕ) → ((k : ℕ) → get_or ms k 0 ≡ get_or ps k 0) → ((k : ℕ) → get_or ns k 0 ≡ get_or qs k 0) → length qs ≤ length ns → length ns % 64 ≡ 0 → ArePages ps qs → ArePages ms ns
ArePages-longer ps qs ms ns pages places long whole are = record {
  empty = λ r h. places r ∙ are.empty r h;
  within = λ a made. omega (arith, pages a, long, are.within a (subst (λ x. 0 < x) (pages a) made));
  whole = whole;
  apart = λ a b made same. are.apart a b (subst (λ x. 0 < x) (pages a) made) (sym (pages a) ∙ same ∙ pages b);
}

pub position-longer : (ps qs ms ns : List ℕ) → ((k : ℕ) → get_or ms k 0 ≡ get_or ps k 0) → ((k : ℕ) → get_or ns k 0 ≡ get_or qs k 0) → (k : ℕ) → position_in ms ns k ≡ position_in ps qs k
position-longer ps qs ms ns pages places k =
    ap (λ p. get_or ns (p * 64 + k % 64) 0) (pages (k / 64)) ∙ places (slot_in ps k)

-- ---- a page added

-- there is no number m yet, and page a has none
pub record IsNext (ps qs ms ns : List ℕ) (a m : ℕ) : Type 0 where
  pub pages : (k : ℕ) → get_or ms k 0 ≡ get_or ps k 0
  pub places : (k : ℕ) → get_or ns k 0 ≡ get_or qs k 0
  pub within : a < length ms
  pub unmade : page_in ps a ≡ 0
  pub positive : 0 < m
  pub behind : length qs ≤ m * 64
  pub long : length ns ≡ m * 64 + 64

page-added : (ps qs ms ns : List ℕ) (a m : ℕ) → IsNext ps qs ms ns a m → (b : ℕ) → page_in (set ms a m) b ≡ cond (eqb b a) m (page_in ps b)
page-added ps qs ms ns a m next b =
    elim (cases_eq b a) [
      | inl same ↦
          let yes : eqb b a ≡ true = grind (arith, nat_tests) in
          rw yes (ap (λ j. get_or (set ms a m) j 0) same ∙ get_or-set_same ms a m 0 next.within)
      | inr other ↦
          let skip : eqb b a ≡ false = grind (arith, nat_tests) in
          rw skip (get_or-set_other ms a b m 0 other ∙ next.pages b)
    ]

here : (ps qs ms ns : List ℕ) (a m b : ℕ) → IsNext ps qs ms ns a m → b ≡ a → page_in (set ms a m) b ≡ m
here ps qs ms ns a m b next same = let yes : eqb b a ≡ true = grind (arith, nat_tests) in page-added ps qs ms ns a m next b ∙ rw yes refl

beside : (ps qs ms ns : List ℕ) (a m b : ℕ) → IsNext ps qs ms ns a m → (b ≡ a → ⊥) → page_in (set ms a m) b ≡ page_in ps b
beside ps qs ms ns a m b next other = let skip : eqb b a ≡ false = grind (arith, nat_tests) in page-added ps qs ms ns a m next b ∙ rw skip refl

pub ArePages-added : (ps qs ms ns : List ℕ) (a m : ℕ) → IsNext ps qs ms ns a m → ArePages ps qs → ArePages (set ms a m) ns
ArePages-added ps qs ms ns a m next are = record {
  empty = λ r h. next.places r ∙ are.empty r h;
  within = λ b made. elim (cases_eq b a) [
    | inl same ↦ let is = here ps qs ms ns a m b next same in omega (arith, is, next.long)
    | inr other ↦
        let is = beside ps qs ms ns a m b next other in
        omega (arith, is, next.long, next.behind, are.within b (subst (λ x. 0 < x) is made))
  ];
  whole = omega (arith, next.long);
  apart = λ b c made same. elim (cases_eq b a) [
    | inl first ↦ elim (cases_eq c a) [
      | inl second ↦ first ∙ sym second
      | inr other ↦
          let is = here ps qs ms ns a m b next first in
          let was = beside ps qs ms ns a m c next other in
          let lies : page_in ps c ≡ m = sym was ∙ sym same ∙ is in
          absurd (omega (arith, lies, next.behind, are.within c (omega (arith, lies, next.positive))))
    ]
    | inr another ↦ elim (cases_eq c a) [
      | inl second ↦
          let is = here ps qs ms ns a m c next second in
          let was = beside ps qs ms ns a m b next another in
          let lies : page_in ps b ≡ m = sym was ∙ same ∙ is in
          absurd (omega (arith, lies, next.behind, are.within b (omega (arith, lies, next.positive))))
      | inr other ↦
          let first = beside ps qs ms ns a m b next another in
          let second = beside ps qs ms ns a m c next other in
          are.apart b c (subst (λ x. 0 < x) first made) (sym first ∙ same ∙ second)
    ]
  ];
}

pub position-added : (ps qs ms ns : List ℕ) (a m : ℕ) → IsNext ps qs ms ns a m → ArePages ps qs → (k : ℕ) → position_in (set ms a m) ns k ≡ position_in ps qs k
position-added ps qs ms ns a m next are k =
    elim (cases_eq (k / 64) a) [
      | inl same ↦
          let is = here ps qs ms ns a m (k / 64) next same in
          let was : slot_in ps k ≡ k % 64 = omega (arith, ap (page_in ps) same ∙ next.unmade) in
          ap (λ p. get_or ns (p * 64 + k % 64) 0) is
          ∙ next.places (m * 64 + k % 64)
          ∙ get_or_past qs (m * 64 + k % 64) 0 (omega (arith, next.behind))
          ∙ sym (are.empty (k % 64) (omega arith))
          ∙ sym (ap (λ slot. get_or qs slot 0) was)
      | inr other ↦
          ap (λ p. get_or ns (p * 64 + k % 64) 0) (beside ps qs ms ns a m (k / 64) next other) ∙ next.places (slot_in ps k)
    ]
