-- Free. Fronts of one list of tokens: what they keep of the whole list, and how two of them
-- compare.
use Rattle.std.proofs.Common.{◌≡◌, ◌⊎◌, ℕ, suc, Bool, true, false, cond, List, [], ◌∷◌, ◌++◌, Option, Some, None, refl, sym, ◌∙◌, append_assoc, inl, inr}
use Rattle.std.specs.Prelude.{IsSome, option_and_then}
use Rattle.asm_syntax.specs.declared.token.Token.{Token}
use Rattle.asm_reader.specs.Kinds.{is_one_of}
use Rattle.asm_reader.specs.Levels.{Depth, at_depth, closers, opens, less_one, after_token, depth_after}
use Rattle.asm_reader.specs.Productions.{Production}
use Rattle.asm_reader.specs.Specification.{max_nesting, CanGoOnBy, IsWithinLevels}
use Rattle.asm_reader.proofs.ExactLemmas.Readers.{depth-append}

-- ---- when a level too many opened, no later token helps

stays_none : (d : Depth) (t : Token) → d.left ≡ None → (after_token d t).left ≡ None
stays_none d t e = cases (opens d.in_front t.kind) (is_one_of closers t.kind)
  where
    cases : (a b : Bool) → cond a (option_and_then less_one d.left) (cond b (option_and_then (λ k. Some (suc k)) d.left) d.left) ≡ None
    cases true b = rw e refl
    cases false true = rw e refl
    cases false false = e

none_left : (ts : List Token) (d : Depth) → d.left ≡ None → (depth_after d ts).left ≡ None
none_left [] d e = e
none_left (t ∷ ts) d e = none_left ts (after_token d t) (stays_none d t e)

some_left : (back : List Token) (d : Depth) (o : Option ℕ) → d.left ≡ o → IsSome (depth_after d back).left → IsSome o
some_left back d None e h = let none : (depth_after d back).left ≡ None = none_left back d e in absurd (cc (none, h))
some_left back d (Some n) e h = refl

-- ---- what holds of a list holds of its fronts

pub front_is_within : (front back : List Token) → IsWithinLevels (front ++ back) → IsWithinLevels front
front_is_within front back h =
    let d : Depth = depth_after (at_depth max_nesting) front in
    some_left back d d.left refl (rw (depth-append (at_depth max_nesting) front back) at h)

pub front_goes_on : {A : Type 0} (P : Production A) (front back : List Token) → CanGoOnBy P (front ++ back) → CanGoOnBy P front
front_goes_on P front back g = (back ++ g.0, g.1, rw (append_assoc front back g.0) at g.2)

-- the front of `before`, the token `t` and more
up_to : (before more whole : List Token) (t : Token) → whole ≡ before ++ t ∷ more → whole ≡ (before ++ t ∷ []) ++ more
up_to before more whole t e = e ∙ sym (append_assoc before (t ∷ []) more)

pub is_within_up_to : (before more whole : List Token) (t : Token) → whole ≡ before ++ t ∷ more → IsWithinLevels whole → IsWithinLevels (before ++ t ∷ [])
is_within_up_to before more whole t e h = front_is_within (before ++ t ∷ []) more (rw (up_to before more whole t e) at h)

pub goes_on_up_to : {A : Type 0} (P : Production A) (before more whole : List Token) (t : Token) → whole ≡ before ++ t ∷ more → CanGoOnBy P whole → CanGoOnBy P (before ++ t ∷ [])
goes_on_up_to P before more whole t e g = front_goes_on P (before ++ t ∷ []) more (rw (up_to before more whole t e) at g)

-- ---- two fronts of any list, each with the item after it

-- the list begins with these items and this one
abbrev pub GoesPast : {A : Type 0} → List A → List A → A → Type 0
GoesPast {A} whole before t = (more : List A) × (whole ≡ before ++ t ∷ more)

-- They are one, or one of them goes past the other.
pub two_fronts : {A : Type 0} (before front : List A) (s t : A) (after back : List A) → before ++ s ∷ after ≡ front ++ t ∷ back
    → ((before ≡ front) × (s ≡ t)) ⊎ GoesPast front before s ⊎ GoesPast before front t
two_fronts [] [] s t after back e = inl (refl, cc)
two_fronts [] (v ∷ front) s t after back e = inr (inl (front, cc))
two_fronts (u ∷ before) [] s t after back e = inr (inr (before, cc))
two_fronts (u ∷ before) (v ∷ front) s t after back e =
    let head : u ≡ v = cc in
    let tail : before ++ s ∷ after ≡ front ++ t ∷ back = cc in
    elim (two_fronts before front s t after back tail) [
      | inl p ↦ inl (cc (head, p.0), p.1)
      | inr (inl p) ↦ inr (inl (p.0, cc (head, p.1)))
      | inr (inr p) ↦ inr (inr (p.0, cc (head, p.1)))
    ]
