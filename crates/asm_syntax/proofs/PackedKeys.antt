-- Free. Short texts of one length with one key are the same.
use Rattle.std.proofs.Common.{◌≡◌, ℕ, suc, ◌+◌, ◌-◌, ◌*◌, ◌<◌, ◌≤◌, ◌^◌, List, [], ◌∷◌, get_or, take, drop, take_all, length, subst, true, refl, ap, sym, ◌∙◌, arith}
use Rattle.std.specs.Prelude.{nat_eq, nat_le}
use Rattle.std.specs.Cmp.Lexicographic.{pointwise, bytes_decides}
use Rattle.std.proofs.Math.Nat.{pow-suc, mul_assoc, pow-le-pow_right, mul-le-mul_left, mul-le-mul_right}
use Rattle.asm_syntax.specs.code.Keys.{packed, key_of, AreBytes}

digits_alike : (k l a b : ℕ) → a < 256 → b < 256 → 256 * k + a ≡ 256 * l + b → (k ≡ l) × (a ≡ b)
digits_alike k l a b small_a small_b same = (omega (arith, small_a, small_b, same), omega (arith, small_a, small_b, same))

-- lists of one length whose numbers are one
pub packed_alike : (k l : ℕ) (xs ys : List ℕ) → length xs ≡ length ys → AreBytes xs → AreBytes ys → packed k xs ≡ packed l ys → (k ≡ l) × (xs ≡ ys)
packed_alike k l [] [] size bx by same = (same, refl)
packed_alike k l [] (y ∷ ys) size bx by same = absurd (omega (arith, size))
packed_alike k l (x ∷ xs) [] size bx by same = absurd (omega (arith, size))
packed_alike k l (x ∷ xs) (y ∷ ys) size bx by same =
    let rest = packed_alike (256 * k + x) (256 * l + y) xs ys (omega (arith, size)) (λ i. bx (suc i)) (λ i. by (suc i)) same in
    let first = digits_alike k l x y (bx 0) (by 0) rest.0 in
    (first.0, ap (λ z. z ∷ xs) first.1 ∙ ap (λ zs. y ∷ zs) rest.1)

short_key : (text : List ℕ) → nat_le (length text) 8 ≡ true → key_of text ≡ packed 0 text
unfolding key_of
short_key text short = rw short refl

-- short texts of one length with one key
pub short_alike : (xs ys : List ℕ) → length xs ≡ length ys → nat_le (length xs) 8 ≡ true → AreBytes xs → AreBytes ys → key_of xs ≡ key_of ys → pointwise nat_eq xs ys ≡ true
short_alike xs ys size short bx by same =
    let short_ys : nat_le (length ys) 8 ≡ true = ap (λ n. nat_le n 8) (sym size) ∙ short in
    (bytes_decides xs ys).1 (packed_alike 0 0 xs ys size bx by (sym (short_key xs short) ∙ same ∙ short_key ys short_ys)).1

-- there is room for a digit more
pub digit_fits : (n key byte : ℕ) → 0 < n → byte < 256 → 256 ^ n * (key + 1) ≤ 256 ^ 8 → 256 * key + byte < 256 ^ 8
digit_fits n key byte some small room =
    let first : 256 ^ 1 ≤ 256 ^ n = pow-le-pow_right {n = 256} (omega arith) some in
    let more : 256 ^ 1 * (key + 1) ≤ 256 ^ n * (key + 1) = mul-le-mul_right (key + 1) first in
    omega (arith, small, room, more)

pub room_behind : (n key byte : ℕ) → byte < 256 → 256 ^ suc n * (key + 1) ≤ 256 ^ 8 → 256 ^ n * (256 * key + byte + 1) ≤ 256 ^ 8
room_behind n key byte small room =
    let digit : 256 * key + byte + 1 ≤ 256 * (key + 1) = omega (arith, small) in
    let more : 256 ^ n * (256 * key + byte + 1) ≤ 256 ^ n * (256 * (key + 1)) = mul-le-mul_left (256 ^ n) digit in
    let whole : 256 ^ n * (256 * (key + 1)) ≡ 256 ^ suc n * (key + 1) = sym (mul_assoc (256 ^ n) 256 (key + 1)) ∙ ap (λ m. m * (key + 1)) (sym (pow-suc 256 n)) in
    omega (arith, more, whole, room)

-- what the loop keeps if the text goes on
abbrev pub IsKept : ℕ → List ℕ → ℕ → Type 0
IsKept key text whole = (packed key text ≡ whole) × ((256 ^ length text * (key + 1) ≤ 256 ^ 8) × AreBytes text)

pub kept_behind : (key n whole : ℕ) (text : List ℕ) → 0 < length text → n ≡ length text - 1 → IsKept key text whole → IsKept (256 * key + get_or text 0 0) (take n (drop 1 text)) whole
kept_behind key n whole [] some size kept = absurd (omega (arith, some))
kept_behind key n whole (b ∷ bytes) some size kept =
    let P : List ℕ → Type 0 = λ text. IsKept (256 * key + b) text whole in
    subst P (sym (take_all n bytes (omega (arith, size)))) (kept.0, (room_behind (length bytes) key b (kept.1.1 0) kept.1.0, λ i. kept.1.1 (suc i)))

-- at the end of the text
pub packed_all : (key whole : ℕ) (text : List ℕ) → length text < 1 → packed key text ≡ whole → key ≡ whole
packed_all key whole [] none same = same
packed_all key whole (b ∷ bytes) none same = absurd (omega (arith, none))

-- the same, of texts that are seen as these
pub decided_alike : (xs ys seen others cs ds : List ℕ) (k l : ℕ) → xs ≡ seen → ys ≡ others → cs ≡ seen → ds ≡ others → k ≡ key_of xs → l ≡ key_of ys → k ≡ l
    → length cs ≡ length ds → length cs ≤ 8 → AreBytes xs → AreBytes ys → nat_le (length cs) 8 ≡ pointwise nat_eq seen others
decided_alike xs ys seen others cs ds k l x y a b key_x key_y key size few bx by =
    let short : nat_le (length cs) 8 ≡ true = grind (arith, few) in
    let size_xs : length xs ≡ length ys = ap length (x ∙ sym a) ∙ (size ∙ ap length (b ∙ sym y)) in
    let short_xs : nat_le (length xs) 8 ≡ true = ap (λ zs. nat_le (length zs) 8) (x ∙ sym a) ∙ short in
    let same : pointwise nat_eq xs ys ≡ true = short_alike xs ys size_xs short_xs bx by (sym key_x ∙ (key ∙ key_y)) in
    short ∙ sym (ap (λ z. pointwise nat_eq z others) (sym x) ∙ (ap (pointwise nat_eq xs) (sym y) ∙ same))
