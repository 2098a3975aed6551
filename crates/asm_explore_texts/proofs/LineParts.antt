-- Free. What std's iterators over the parts of a slice give first, as the part of a line.
use Rattle.std.proofs.Common.{◌≡◌, ℕ, ◌-◌, ◌≤◌, Bool, true, false, not, List, [], ◌∷◌, ◌++◌, length, drop, ap, sym, ◌∙◌, arith, length-append, append_assoc, Option, None, Some, unwrap_or}
use Rattle.std.proofs.lemmas.Grind.{common_steps}
use Rattle.std.proofs.lemmas.List.Sums.{suffix_len_is, position_or_len_is}
use Rattle.std.specs.Bool.{MatchBool}
use Rattle.std.specs.List.{IsAfterLastMatch, IsFirstMatchOrLen, after_last, before_first, suffix_len, position_or_len}
use Rattle.std.specs.Option.{MatchOption}
use denote.Ref.{Bor}

drop_front : (front x : List ℕ) → drop (length (front ++ x) - length x) (front ++ x) ≡ x
drop_front front x = grind (arith, common_steps)

after_last_is : (p : ℕ → Bool) (text front x : List ℕ) → text ≡ front ++ x → IsAfterLastMatch p text (length text - length x) → x ≡ after_last p text
after_last_is p text front x e h =
    let within : length text - length x ≤ length text = omega arith in
    let n : suffix_len (λ b. not (p b)) text ≡ length text - (length text - length x) =
    suffix_len_is (λ b. not (p b)) text (length text - length x) 0 within (λ k l m. ap not (h.0 k 0 l m)) (λ l. ap not (h.1 l 0)) in
    let at : length text - suffix_len (λ b. not (p b)) text ≡ length text - length x = omega arith in
    let cut : drop (length text - length x) text ≡ x = rw e (drop_front front x) in
    sym cut ∙ ap (λ k. drop k text) (sym at)

before_first_is : (p : ℕ → Bool) (text x back : List ℕ) → text ≡ x ++ back → IsFirstMatchOrLen p text (length x) → x ≡ before_first p text
before_first_is p text x back e h =
    let n : position_or_len p text ≡ length x = position_or_len_is p text (length x) 0 (omega (arith, ap length e, length-append x back)) (λ k l. h.0 k 0 (omega arith) l) (λ l. h.1 l 0) in
    grind (arith, common_steps)

-- the first part that `rsplit` gives is the last part
pub last_part : (p : ℕ → Bool) (all : Bor (List ℕ)) (r : Option (Bor (List ℕ))) {S : Type 0} (s t : S) (done ends : Bool) (text rest : List ℕ) (K L : (ℕ → Bool) → Type 0)
    → done ≡ false → text ≡ all.now → K p
    → MatchOption r ((done ≡ true) × (t ≡ s)) (λ x. (done ≡ false) × MatchBool ends (text ≡ x.now) ((y : ℕ) × (text ≡ rest ++ (y ∷ x.now))) × ((q : ℕ → Bool) → K q → L q × IsAfterLastMatch q text (length text - length x.now)))
    → (unwrap_or r all).now ≡ after_last p all.now
last_part p all None s t done ends text rest K L d e k h = cc
last_part p all (Some x) s t done true text rest K L d e k h = after_last_is p text [] x.now h.1 (h.2 p k).1 ∙ ap (after_last p) e
last_part p all (Some x) s t done false text rest K L d e k h =
    after_last_is p text (rest ++ h.1.0 ∷ []) x.now (h.1.1 ∙ sym (append_assoc rest (h.1.0 ∷ []) x.now)) (h.2 p k).1 ∙ ap (after_last p) e

-- the first part that `split` gives
pub first_part : (p : ℕ → Bool) (all : Bor (List ℕ)) (r : Option (Bor (List ℕ))) {S : Type 0} (s t : S) (done ends : Bool) (text rest : List ℕ) (K L : (ℕ → Bool) → Type 0)
    → done ≡ false → text ≡ all.now → K p
    → MatchOption r ((done ≡ true) × (t ≡ s)) (λ x. (done ≡ false) × MatchBool ends (text ≡ x.now) ((y : ℕ) × (text ≡ x.now ++ (y ∷ rest))) × ((q : ℕ → Bool) → K q → L q × IsFirstMatchOrLen q text (length x.now)))
    → (unwrap_or r all).now ≡ before_first p all.now
first_part p all None s t done ends text rest K L d e k h = cc
first_part p all (Some x) s t done true text rest K L d e k h = before_first_is p text x.now [] (h.1 ∙ grind (arith, common_steps)) (h.2 p k).1 ∙ ap (before_first p) e
first_part p all (Some x) s t done false text rest K L d e k h = before_first_is p text x.now (h.1.0 ∷ rest) h.1.1 (h.2 p k).1 ∙ ap (before_first p) e
