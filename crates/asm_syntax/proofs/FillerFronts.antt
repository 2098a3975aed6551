-- Free. Blanks and comments at the front of a text.
use Rattle.std.proofs.Common.{◌≡◌, ◌≢◌, ℕ, suc, ◌+◌, ◌<◌, List, [], ◌∷◌, ◌++◌, length, length-append, get_or, Bool, true, false, refl, ap, sym, subst, ◌∙◌, inl, inr, ⊎_elim, append_assoc, arith}
use Rattle.std.proofs.lemmas.Bool.{and_parts, both_ways, eqb-true}
use Rattle.std.proofs.lemmas.List.{append-nil}
use Rattle.std.specs.Prelude.{◌⊎◌, nat_eq, codes, Option, Some, None, option_map}
use Rattle.asm_syntax.specs.Tokens.{newline, is_blank, BeginsBy, StandsIn, IsLineComment, IsFiller}
use Rattle.asm_syntax.specs.code.Fronts.{Parts, line_length, closes, length_before_close}

abbrev pub FillerParts : List ℕ → ℕ → Type 0
FillerParts text n = Parts text n (λ piece behind. IsFiller piece ⊎ (IsLineComment piece × (behind ≡ [])))

pub blank_front : (text : List ℕ) → BeginsBy is_blank text → FillerParts text 1
blank_front [] blank = absurd blank
blank_front (b ∷ bytes) blank = record { piece = b ∷ []; behind = bytes; whole = refl; size = refl; some = omega arith; holds = inl (inl (b, blank, refl)) }

-- ---- the line up to the first LF

record Line (text : List ℕ) : Type 0 where
  inside : List ℕ
  behind : List ℕ
  clean : ¬ StandsIn (newline ∷ []) inside
  ends : ((text ≡ inside ++ newline ∷ behind) × (line_length text ≡ length inside + 1)) ⊎ ((text ≡ inside) × (behind ≡ []) × (line_length text ≡ length inside))

-- a byte that isn't LF, before bytes that have none
clean_more : (b : ℕ) (inside : List ℕ) → b ≢ newline → ¬ StandsIn (newline ∷ []) inside → ¬ StandsIn (newline ∷ []) (b ∷ inside)
clean_more b inside other clean ([], back, e) = other (cc)
clean_more b inside other clean (x ∷ front, back, e) = clean (front, back, let rest : inside ≡ front ++ newline ∷ [] ++ back = cc in rest)

nat_isnt : (a b : ℕ) → nat_eq a b ≡ false → a ≢ b
nat_isnt a b h e = grind arith

clean_empty : (b : ℕ) (bytes : List ℕ) → ¬ StandsIn (b ∷ bytes) []
clean_empty b bytes ([], back, e) = absurd (cc)
clean_empty b bytes (x ∷ front, back, e) = absurd (cc)

line_cases : (b : ℕ) (bytes : List ℕ) (r : Bool) → nat_eq b newline ≡ r → Line bytes → Line (b ∷ bytes)
line_cases b bytes true h line = record {
  inside = [];
  behind = bytes;
  clean = clean_empty newline [];
  ends = inl (ap (λ c. c ∷ bytes) (eqb-true b newline h), rw h refl);
}
line_cases b bytes false h line = record {
  inside = b ∷ line.inside;
  behind = line.behind;
  clean = clean_more b line.inside (nat_isnt b newline h) line.clean;
  ends = ⊎_elim
      (λ stop. inl (ap (λ l. b ∷ l) stop.0, rw h (omega (arith, stop.1))))
      (λ last. inr (ap (λ l. b ∷ l) last.0, last.1, rw h (omega (arith, last.2))))
      line.ends;
}

line_of : (text : List ℕ) → Line text
line_of [] = record { inside = []; behind = []; clean = clean_empty newline []; ends = inr (refl, refl, refl) }
line_of (b ∷ bytes) = line_cases b bytes (nat_eq b newline) refl (line_of bytes)

pub line_front : (inside : List ℕ) → FillerParts (47 ∷ 47 ∷ inside) (2 + line_length inside)
line_front inside =
    let line = line_of inside in
    ⊎_elim
    (λ stop. record {
      piece = 47 ∷ 47 ∷ (line.inside ++ newline ∷ []);
      behind = line.behind;
      whole = ap (λ l. 47 ∷ 47 ∷ l) (stop.0 ∙ sym (append_assoc line.inside (newline ∷ []) line.behind));
      size = let size = length-append line.inside (newline ∷ []) in omega (arith, size, stop.1);
      some = omega arith;
      holds = inl (inr (inr (47 ∷ 47 ∷ line.inside, (line.inside, refl, line.clean), refl)));
    })
    (λ last. record {
      piece = 47 ∷ 47 ∷ line.inside;
      behind = [];
      whole = ap (λ l. 47 ∷ 47 ∷ l) (last.0 ∙ sym (append-nil line.inside));
      size = omega (arith, last.2);
      some = omega arith;
      holds = inr ((line.inside, refl, line.clean), refl);
    })
    line.ends

-- ---- block comments

record Closed (text : List ℕ) (n : ℕ) : Type 0 where
  inside : List ℕ
  behind : List ℕ
  whole : text ≡ inside ++ 42 ∷ 47 ∷ behind
  size : length inside ≡ n
  clean : ¬ StandsIn (codes "*/") inside

closes_is : (a : ℕ) (bytes : List ℕ) → closes (a ∷ bytes) ≡ true → (behind : List ℕ) × (a ∷ bytes ≡ 42 ∷ 47 ∷ behind)
closes_is a [] h = absurd (cc)
closes_is a (b ∷ bytes) h = (bytes, λ i. eqb-true a 42 (and_parts (nat_eq a 42) (nat_eq b 47) h).0 i ∷ eqb-true b 47 (and_parts (nat_eq a 42) (nat_eq b 47) h).1 i ∷ bytes)

-- if the text doesn't close at its first byte, an end is after that
end_behind : (a : ℕ) (bytes : List ℕ) → closes (a ∷ bytes) ≡ false → StandsIn (codes "*/") (a ∷ bytes) → StandsIn (codes "*/") bytes
end_behind a bytes stays ([], back, e) = absurd (both_ways (closes (a ∷ bytes)) stays (ap closes e))
end_behind a bytes stays (x ∷ front, back, e) = (front, back, let rest : bytes ≡ front ++ codes "*/" ++ back = cc in rest)

-- the same of a front of the bytes, with an end after it
end_inside : (a : ℕ) (inside behind : List ℕ) → closes (a ∷ inside ++ 42 ∷ 47 ∷ behind) ≡ false → StandsIn (codes "*/") (a ∷ inside) → StandsIn (codes "*/") inside
end_inside a inside behind stays ([], back, e) = absurd (both_ways (closes (a ∷ inside ++ 42 ∷ 47 ∷ behind)) stays (ap (λ l. closes (l ++ 42 ∷ 47 ∷ behind)) e))
end_inside a inside behind stays (x ∷ front, back, e) = (front, back, let rest : inside ≡ front ++ codes "*/" ++ back = cc in rest)

some_suc : (o : Option ℕ) (n : ℕ) → option_map suc o ≡ Some n → (m : ℕ) × (o ≡ Some m) × (n ≡ suc m)
some_suc None n e = absurd (cc)
some_suc (Some m) n e = (m, refl, let same : suc m ≡ n = cc in sym same)

none_suc : (o : Option ℕ) → option_map suc o ≡ None → o ≡ None
none_suc None e = refl
none_suc (Some m) e = absurd (cc)

closed_cases : (a : ℕ) (bytes : List ℕ) (n : ℕ) (r : Bool) → closes (a ∷ bytes) ≡ r → length_before_close (a ∷ bytes) ≡ Some n → ((m : ℕ) → length_before_close bytes ≡ Some m → Closed bytes m) → Closed (a ∷ bytes) n
closed_cases a bytes n true h found more =
    let is = closes_is a bytes h in
    let none : Some 0 ≡ Some n = rw h at found in
    record { inside = []; behind = is.0; whole = is.1; size = let same : 0 ≡ n = cc in same; clean = clean_empty 42 (47 ∷ []) }
closed_cases a bytes n false h found more =
    let later : option_map suc (length_before_close bytes) ≡ Some n = rw h at found in
    let m = some_suc (length_before_close bytes) n later in
    let rest = more m.0 m.1 in
    record {
      inside = a ∷ rest.inside;
      behind = rest.behind;
      whole = ap (λ l. a ∷ l) rest.whole;
      size = let size = rest.size in let same = m.2 in omega (arith, size, same);
      clean = λ stands. rest.clean (end_inside a rest.inside rest.behind (ap (λ l. closes (a ∷ l)) (sym rest.whole) ∙ h) stands);
    }

closed : (text : List ℕ) (n : ℕ) → length_before_close text ≡ Some n → Closed text n
closed [] n e = absurd (cc)
closed (a ∷ bytes) n e = closed_cases a bytes n (closes (a ∷ bytes)) refl e (closed bytes)

open_cases : (a : ℕ) (bytes : List ℕ) (r : Bool) → closes (a ∷ bytes) ≡ r → length_before_close (a ∷ bytes) ≡ None → (length_before_close bytes ≡ None → ¬ StandsIn (codes "*/") bytes) → ¬ StandsIn (codes "*/") (a ∷ bytes)
open_cases a bytes true h none more = let never : ◌≡◌ {A = Option ℕ} (Some 0) None = rw h at none in cc
open_cases a bytes false h none more = let later : option_map suc (length_before_close bytes) ≡ None = rw h at none in λ stands. more (none_suc (length_before_close bytes) later) (end_behind a bytes h stands)

pub never_closed : (text : List ℕ) → length_before_close text ≡ None → ¬ StandsIn (codes "*/") text
never_closed [] none = clean_empty 42 (47 ∷ [])
never_closed (a ∷ bytes) none = open_cases a bytes (closes (a ∷ bytes)) refl none (never_closed bytes)

pub block_front : (inside : List ℕ) (n : ℕ) → length_before_close inside ≡ Some n → FillerParts (47 ∷ 42 ∷ inside) (n + 4)
block_front inside n found =
    let block = closed inside n found in
    record {
      piece = 47 ∷ 42 ∷ (block.inside ++ 42 ∷ 47 ∷ []);
      behind = block.behind;
      whole = ap (λ l. 47 ∷ 42 ∷ l) (block.whole ∙ sym (append_assoc block.inside (42 ∷ 47 ∷ []) block.behind));
      size = let size = length-append block.inside (42 ∷ 47 ∷ []) in let same = block.size in omega (arith, size, same);
      some = omega arith;
      holds = inl (inr (inl (block.inside, refl, block.clean)));
    }

-- ---- the first byte

pub first_by : (p : ℕ → Bool) (text : List ℕ) (r : Bool) → 0 < length text → r ≡ p (get_or text 0 0) → r ≡ true → BeginsBy p text
first_by p [] r some e h = absurd (omega (arith, some))
first_by p (b ∷ bytes) r some e h = sym e ∙ h

pub not_first_by : (p : ℕ → Bool) (text : List ℕ) (r : Bool) → r ≡ p (get_or text 0 0) → r ≡ false → ¬ BeginsBy p text
not_first_by p [] r e h = λ no. no
not_first_by p (b ∷ bytes) r e h = λ yes. both_ways (p b) (sym e ∙ h) yes

pub line_behind : (text inside : List ℕ) (n : ℕ) → text ≡ 47 ∷ 47 ∷ inside → n ≡ line_length inside → FillerParts text (2 + n)
line_behind text inside n whole size =
    let P : List ℕ → ℕ → Type 0 = λ t m. FillerParts t (2 + m) in
    let Q : ℕ → Type 0 = λ m. P text m in
    let R : List ℕ → Type 0 = λ t. P t (line_length inside) in
    subst Q (sym size) (subst R (sym whole) (line_front inside))

pub some_text : (text : List ℕ) → 0 < length text → text ≢ []
some_text text some e = let none = ap length e in omega (arith, some, none)
