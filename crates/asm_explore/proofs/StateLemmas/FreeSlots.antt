-- Free. Slots of an index that are free.
--     taken_more     one of them is taken
--     comes_round    the search for a hash comes to each slot
--     all_taken      if it comes to no free slot, all are taken
use Rattle.std.proofs.Common.{◌≡◌, ◌≢◌, ℕ, zero, suc, ◌+◌, ◌-◌, ◌<◌, List, [], ◌∷◌, cond, length, set, inl, inr, refl, ap, ◌∙◌, arith}
use Rattle.std.proofs.lemmas.Bool.{cases_lt, le-ltb, lt-ltb}
use Rattle.std.proofs.lemmas.Nat.{mod_below}
use Rattle.asm_explore.specs.code.IndexedNodes.{IsTakenUpTo, first_slot_of, slot_after, slot_from, slot_of, tag_at, taken_slots}

pub taken_more : (tags : List ℕ) (at tag : ℕ) → at < length tags → tag_at tags at ≡ 0 → tag ≢ 0 → taken_slots (set tags at tag) ≡ suc (taken_slots tags)
taken_more [] at tag low free some = absurd (omega (arith, low))
taken_more (old ∷ tags) zero zero low free some = absurd (some refl)
taken_more (zero ∷ tags) zero (suc tag) low free some = refl
taken_more (suc old ∷ tags) zero (suc tag) low free some = absurd (omega (arith, free))
taken_more (zero ∷ tags) (suc at) tag low free some = taken_more tags at tag (omega (arith, low)) free some
taken_more (suc old ∷ tags) (suc at) tag low free some = ap suc (taken_more tags at tag (omega (arith, low)) free some)

-- ---- the search goes round

straight : (places first steps : ℕ) → first + steps < places → slot_from places first steps ≡ first + steps
straight places first zero low = omega arith
straight places first (suc steps) low =
    ap (slot_after places) (straight places first steps (omega (arith, low)))
    ∙ (ap (λ b. cond b (first + steps + 1) 0) (lt-ltb (first + steps + 1) places (omega (arith, low))) ∙ omega arith)

behind : (places first steps more : ℕ) → slot_from places first (steps + more) ≡ slot_from places (slot_from places first steps) more
behind places first steps zero =
    let same : steps + 0 ≡ steps = omega arith in
    ap (slot_from places first) same
behind places first steps (suc more) =
    let same : steps + suc more ≡ suc (steps + more) = omega arith in
    ap (slot_from places first) same ∙ ap (slot_after places) (behind places first steps more)

-- the last slot, and then the first one
round_the_end : (places first : ℕ) → first < places → slot_from places first (suc (places - suc first)) ≡ 0
round_the_end places first low =
    let last : slot_from places first (places - suc first) ≡ places - 1 = straight places first (places - suc first) (omega (arith, low)) ∙ omega (arith, low) in
    ap (slot_after places) last ∙ ap (λ b. cond b (places - 1 + 1) 0) (le-ltb (places - 1 + 1) places (omega (arith, low)))

comes_from : (places first at : ℕ) → first < places → at < places → (steps : ℕ) × (steps < places) × (slot_from places first steps ≡ at)
comes_from places first at begins low = elim (cases_lt at first) [
  | inl before ↦
      let round = suc (places - suc first) in (
        round + at,
        omega (arith, before, begins),
        behind places first round at ∙ (ap (λ slot. slot_from places slot at) (round_the_end places first begins) ∙ straight places 0 at (omega (arith, low)) ∙ omega arith),
      )
  | inr past ↦ (at - first, omega (arith, low), straight places first (at - first) (omega (arith, past, low)) ∙ omega (arith, past))
]

pub comes_round : (hash places at : ℕ) → at < places → (steps : ℕ) × (steps < places) × (slot_of hash places steps ≡ at)
unfolding first_slot_of
comes_round hash places at low = comes_from places (first_slot_of hash places) at (mod_below _ places (omega (arith, low))) low

-- ---- all slots

count_all : (tags : List ℕ) → ((at : ℕ) → at < length tags → tag_at tags at ≢ 0) → taken_slots tags ≡ length tags
count_all [] taken = refl
count_all (zero ∷ tags) taken = absurd (taken 0 (omega arith) refl)
count_all (suc tag ∷ tags) taken = ap suc (count_all tags (λ at low. taken (suc at) (omega (arith, low))))

pub all_taken : (tags : List ℕ) (hash : ℕ) → IsTakenUpTo tags hash (length tags) → taken_slots tags ≡ length tags
all_taken tags hash taken = count_all tags
    (λ at low free.
    let found = comes_round hash (length tags) at low in
    taken found.0 found.1 (ap (tag_at tags) found.2 ∙ free))
