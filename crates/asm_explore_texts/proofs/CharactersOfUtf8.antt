-- Free. The characters of bytes that are UTF-8 are those that the bytes spell.
use Rattle.std.proofs.Common.{◌≡◌, ℕ, zero, suc, ◌+◌, ◌-◌, ◌<◌, ◌≤◌, Bool, true, false, ◌&&◌, List, [], ◌∷◌, ◌++◌, length, take, drop, refl, ap, sym, ◌∙◌, subst, arith, length-append, Some, slice_get}
use Rattle.std.specs.Bool.{if◌then◌else◌}
use Rattle.std.proofs.Math.Seq.{take-append_seam, take-append-add}
use Rattle.std.proofs.lemmas.Grind.{common_steps}
use Rattle.std.proofs.lemmas.Str.{IsUtf8-from_is_utf8, is_utf8-from_IsUtf8, IsUtf8-nil, IsUtf8-encode, length-encode, len_utf8_bounds, chars_past_char, encodes-chars, scalars-chars}
use Rattle.std.specs.Char.{IsScalar, len_utf8}
use Rattle.std.specs.Str.{IsUtf8, is_utf8, chars}
use Rattle.std.specs.Str.Lossy.{utf8_valid_len, valid_len_up_to}
use lib.Utf8.{scalar, scalars, encodes, encode}
use Rattle.asm_explore_texts.specs.Positions.{characters, first_character}
use Rattle.asm_explore_texts.proofs.Decoding.{characters_step}

longest_text : (bs : List ℕ) (n : ℕ) (b : Bool) → (b ≡ true → IsUtf8 (take (suc n) bs)) → IsUtf8 (take (valid_len_up_to bs n) bs) → IsUtf8 (take (if b then suc n else valid_len_up_to bs n) bs)
longest_text bs n true here below = here refl
longest_text bs n false here below = below

-- the longest front that is UTF-8 is UTF-8
front_is_text : (bs : List ℕ) (n : ℕ) → IsUtf8 (take (valid_len_up_to bs n) bs)
front_is_text bs zero = IsUtf8-nil
front_is_text bs (suc n) = longest_text bs n (is_utf8 (take (suc n) bs)) (IsUtf8-from_is_utf8 (take (suc n) bs)) (front_is_text bs n)

at_least : (b : Bool) (n m k : ℕ) → k ≤ suc n → (k ≡ suc n → b ≡ true) → (k ≤ n → k ≤ m) → k ≤ (if b then suc n else m)
at_least true n m k l here below = l
at_least false n m k l here below =
    let other : k ≡ suc n → ⊥ = λ e. let h : false ≡ true = here e in cc in
    below (omega arith)

-- and as long as any
front_is_longest : (bs : List ℕ) (n k : ℕ) → k ≤ n → IsUtf8 (take k bs) → k ≤ valid_len_up_to bs n
front_is_longest bs zero k l u = l
front_is_longest bs (suc n) k l u =
    at_least (is_utf8 (take (suc n) bs)) n (valid_len_up_to bs n) k l
    (λ e. is_utf8-from_IsUtf8 (take (suc n) bs) (subst (λ i. IsUtf8 (take i bs)) e u))
    (λ less. front_is_longest bs n k less u)

take_behind : (xs ys : List ℕ) (n : ℕ) → length xs ≤ n → take n (xs ++ ys) ≡ xs ++ take (n - length xs) ys
take_behind xs ys n h =
    let e : n ≡ length xs + (n - length xs) = omega arith in
    ap (λ k. take k (xs ++ ys)) e ∙ take-append-add xs ys (n - length xs)

first_spelled : (c : ℕ) (rest : List ℕ) → IsScalar c → first_character (encode c ++ rest) ≡ Some c
unfolding utf8_valid_len
first_spelled c rest s =
    let short : length (encode c) ≤ 4 = omega (arith, length-encode c, len_utf8_bounds c) in
    let front : List ℕ = take 4 (encode c ++ rest) in
    let parts : front ≡ encode c ++ take (4 - length (encode c)) rest = take_behind (encode c) rest 4 short in
    let begins : take (length (encode c)) front ≡ encode c = ap (take (length (encode c))) parts ∙ take-append_seam (encode c) (take (4 - length (encode c)) rest) in
    let within : length (encode c) ≤ length front = omega (arith, ap length parts, length-append (encode c) (take (4 - length (encode c)) rest)) in
    let long : length (encode c) ≤ utf8_valid_len front =
    front_is_longest front (length front) (length (encode c)) within (subst IsUtf8 (sym begins) (IsUtf8-encode c s)) in
    let valid : take (utf8_valid_len front) front ≡ encode c ++ take (utf8_valid_len front - length (encode c)) (take (4 - length (encode c)) rest) =
    ap (take (utf8_valid_len front)) parts ∙ take_behind (encode c) (take (4 - length (encode c)) rest) (utf8_valid_len front) long in
    ap (λ l. slice_get l 0) (chars_past_char (take (utf8_valid_len front) front) _ c (front_is_text front (length front)) valid)

both : (a b : Bool) → (a && b) ≡ true → (a ≡ true) × (b ≡ true)
both true b h = (refl, h)
both false b h = (h, cc)

drop_first : (c : ℕ) (rest : List ℕ) → drop (len_utf8 c) (encode c ++ rest) ≡ rest
drop_first c rest = grind (arith, common_steps, length-encode c)

spelled : (cs : List ℕ) → scalars cs ≡ true → characters (encodes cs) ≡ cs
spelled [] h = refl
spelled (c ∷ cs) h =
    let each = both (scalar c) (scalars cs) h in
    let some : 0 < length (encode c ++ encodes cs) = omega (arith, length-append (encode c) (encodes cs), length-encode c, len_utf8_bounds c) in
    characters_step (encode c ++ encodes cs) (Some c) (len_utf8 c) some (sym (first_spelled c (encodes cs) each.0)) refl
    ∙ ap (λ l. c ∷ characters l) (drop_first c (encodes cs)) ∙ ap (λ l. c ∷ l) (spelled cs each.1)

-- the characters of a text
pub characters_of_text : (bs : List ℕ) → IsUtf8 bs → characters bs ≡ chars bs
characters_of_text bs u = ap characters (sym (encodes-chars bs u)) ∙ spelled (chars bs) (scalars-chars bs u)
