-- Free. Argument lists by their positions: those of a domain are rows, one for each value of its
-- first universe.
use Rattle.std.proofs.Common.{append_assoc, ◌≡◌, false, ◌&&◌, ℕ, zero, suc, ◌+◌, ◌*◌, ◌^◌, ◌/◌, ◌%◌, ◌<◌, ◌≤◌, List, [], ◌∷◌, ◌++◌, map, take, length, get_or, refl, sym, ap, subst, ◌∙◌, arith, le_trans}
use Rattle.std.specs.Prelude.{All}
use Rattle.std.specs.List.{flat_map, list_any}
use Rattle.std.proofs.lemmas.List.{length-map, get_or-map, length-append, get_or_default}
use Rattle.std.proofs.Math.Nat.{mul-le-mul, pow-succ', div-lt_iff_lt-mul, mod-lt}
use Rattle.std.proofs.lemmas.Nat.{div-add-mod'}
use Rattle.std.proofs.Math.Bool.{and-false}
use Rattle.std.proofs.lemmas.List.Concat.{get_or-flat_map}
use Rattle.asm_state.specs.declared.value.Value.{Value}
use Rattle.asm_state.specs.declared.value.Value.TheVariants.{Undef}
use Rattle.asm_state.specs.Operation.{is_same}
use Rattle.asm_state.specs.Signature.{domain_in}
use Rattle.asm_state.specs.Tables.{Domain, argument_lists, is_in}

-- the rows of some values before the argument lists of the other universes
abbrev pub row : List (List Value) → Value → List (List Value)
row rest v = map (λ vs. v ∷ vs) rest

pub length-rows : (rest : List (List Value)) (vs : List Value) → length (flat_map (row rest) vs) ≡ length vs * length rest
length-rows rest [] = omega arith
length-rows rest (v ∷ vs) =
    length-append (row rest v) (flat_map (row rest) vs)
    ∙ (λ i. length-map rest (λ us. v ∷ us) i + length-rows rest vs i)
    ∙ grind arith

pub in_rows : (p n k m : ℕ) → p < n → k < m → p * m + k < n * m
in_rows p n k m h g = grind arith

length-taken : (p : ℕ) (vs : List Value) → p < length vs → length (take p vs) ≡ p
length-taken zero vs h = refl
length-taken (suc p) [] h = omega (arith, h)
length-taken (suc p) (v ∷ vs) h = ap (λ n. suc n) (length-taken p vs (omega (arith, h)))

-- the list at a position of a row
pub row_at : (vs : List Value) (domain : Domain) (p k : ℕ) → p < length vs → k < length (argument_lists domain)
    → get_or (argument_lists (vs ∷ domain)) (p * length (argument_lists domain) + k) [] ≡ get_or vs p Undef ∷ get_or (argument_lists domain) k []
row_at vs domain p k h g =
    let lists : List (List Value) = argument_lists domain in
    let before : length (flat_map (row lists) (take p vs)) ≡ p * length lists = length-rows lists (take p vs) ∙ ap (λ n. n * length lists) (length-taken p vs h) in
    let inside : k < length (row lists (get_or vs p Undef)) = subst (λ n. k < n) (sym (length-map lists (λ us. get_or vs p Undef ∷ us))) g in
    ap (λ n. get_or (flat_map (row lists) vs) (n + k) []) (sym before)
    ∙ get_or-flat_map (row lists) vs p k Undef [] h inside
    ∙ get_or-map (λ us. get_or vs p Undef ∷ us) lists k [] [] g

-- ---- domains by the numbers of their universes

pub lists_split : (universes : List (List Value)) (domain : List ℕ) (n : ℕ) (ns : List ℕ) → domain ≡ n ∷ ns
    → length (argument_lists (domain_in universes domain)) ≡ length (get_or universes n []) * length (argument_lists (domain_in universes ns))
lists_split universes domain n ns e =
    ap (λ ns. length (argument_lists (domain_in universes ns))) e ∙ length-rows (argument_lists (domain_in universes ns)) (get_or universes n [])

-- at most four universes, each of at most 4,096 values
power_step : (a b m : ℕ) → a ≤ 4096 → b ≤ 4096 ^ m → a * b ≤ 4096 ^ (m + 1)
power_step a b m h g =
    let next : m + 1 ≡ suc m = omega arith in
    subst (λ n. a * b ≤ n) (sym (ap (λ k. 4096 ^ k) next ∙ pow-succ' 4096 m)) (mul-le-mul h g)

power_small : (m : ℕ) → m ≤ 4 → 4096 ^ m ≤ 281_474_976_710_656
power_small zero h = omega arith
power_small (suc zero) h = omega arith
power_small (suc (suc zero)) h = omega arith
power_small (suc (suc (suc zero))) h = omega arith
power_small (suc (suc (suc (suc zero)))) h = omega arith
power_small (suc (suc (suc (suc (suc m))))) h = absurd (omega (arith, h))

-- what one more universe makes of a bound
pub product_bound : (a b m : ℕ) → a ≤ 4096 → b ≤ 4096 ^ m → m + 1 ≤ 4 → (a * b ≤ 4096 ^ (m + 1)) × (a * b ≤ 281_474_976_710_656)
product_bound a b m h g few =
    let step : a * b ≤ 4096 ^ (m + 1) = power_step a b m h g in
    (step, le_trans step (power_small (m + 1) few))

-- the list at the position that is made of one in the first universe and one of the rest
pub list_split : (universes : List (List Value)) (domain : List ℕ) (n : ℕ) (ns : List ℕ) (p k count : ℕ) → domain ≡ n ∷ ns
    → p < length (get_or universes n []) → count ≡ length (argument_lists (domain_in universes ns)) → k < count
    → (p * count + k < length (argument_lists (domain_in universes domain)))
    × (get_or (argument_lists (domain_in universes domain)) (p * count + k) [] ≡ get_or (get_or universes n []) p Undef ∷ get_or (argument_lists (domain_in universes ns)) k [])
list_split universes domain n ns p k count e h is g =
    let rest : Domain = domain_in universes ns in
    let vs : List Value = get_or universes n [] in
    let inside : k < length (argument_lists rest) = subst (λ m. k < m) is g in
    let below : p * count + k < length vs * length (argument_lists rest) = subst (λ m. p * m + k < length vs * length (argument_lists rest)) (sym is) (in_rows p (length vs) k (length (argument_lists rest)) h inside) in (
      subst (λ m. p * count + k < m) (sym (lists_split universes domain n ns e)) below,
      (λ i. get_or (argument_lists (domain_in universes (e i))) (p * is i + k) []) ∙ row_at vs rest p k h inside,
    )

-- a position by the quotient and the remainder
pub quotient_below : (k n m : ℕ) → k < n * m → (0 < m) × (k / m < n) × (k % m < m)
quotient_below k n zero h = absurd (omega (arith, h))
quotient_below k n (suc m) h =
    let positive : 0 < suc m = omega arith in
    (positive, (div-lt_iff_lt-mul positive).1 h, mod-lt k positive)

-- the universe at a number that exists
pub universe_at : (universes : List (List Value)) (domain : List ℕ) (n : ℕ) (ns : List ℕ) (vs : List Value) → domain ≡ n ∷ ns
    → All (λ n. n < length universes) domain → vs ≡ get_or universes n vs → vs ≡ get_or universes n []
universe_at universes domain n ns vs e known is =
    let inside : n < length universes = subst (λ ms. get_or ms 0 n < length universes) e (known 0 n (subst (λ ms. 0 < length ms) (sym e) (omega arith))) in
    is ∙ get_or_default universes n vs [] inside

pub rest_known : (universes : List (List Value)) (domain : List ℕ) (n : ℕ) (ns : List ℕ) → domain ≡ n ∷ ns
    → All (λ n. n < length universes) domain → All (λ n. n < length universes) ns
rest_known universes domain n ns e known k d h =
    subst (λ ms. get_or ms (suc k) d < length universes) e (known (suc k) d (subst (λ ms. suc k < length ms) (sym e) (omega (arith, h))))

pub not_in_first : (universes : List (List Value)) (domain : List ℕ) (n : ℕ) (ns : List ℕ) (arguments : List Value) (v : Value) (vs members : List Value)
    → domain ≡ n ∷ ns → arguments ≡ v ∷ vs → members ≡ get_or universes n [] → list_any (is_same v) members ≡ false → is_in (domain_in universes domain) arguments ≡ false
not_in_first universes domain n ns arguments v vs members e f is missed =
    (λ i. is_in (domain_in universes (e i)) (f i))
    ∙ ap (λ b. b && is_in (domain_in universes ns) vs) (ap (list_any (is_same v)) (sym is) ∙ missed)

pub not_in_rest : (universes : List (List Value)) (domain : List ℕ) (n : ℕ) (ns : List ℕ) (arguments : List Value) (v : Value) (vs : List Value)
    → domain ≡ n ∷ ns → arguments ≡ v ∷ vs → is_in (domain_in universes ns) vs ≡ false → is_in (domain_in universes domain) arguments ≡ false
not_in_rest universes domain n ns arguments v vs e f missed =
    (λ i. is_in (domain_in universes (e i)) (f i))
    ∙ ap (λ b. list_any (is_same v) (get_or universes n []) && b) missed
    ∙ and-false (list_any (is_same v) (get_or universes n []))

-- a position by that of its row and that in the row
pub record Here (universes : List (List Value)) (domain : List ℕ) (n : ℕ) (ns : List ℕ) (k count : ℕ) : Type 0 where
  pub positive : 0 < count
  pub quotient : k / count < length (get_or universes n [])
  pub remainder : k % count < length (argument_lists (domain_in universes ns))
  pub list : get_or (argument_lists (domain_in universes domain)) k [] ≡ get_or (get_or universes n []) (k / count) Undef ∷ get_or (argument_lists (domain_in universes ns)) (k % count) []

pub row_here : (universes : List (List Value)) (domain : List ℕ) (n : ℕ) (ns : List ℕ) (k count : ℕ) → domain ≡ n ∷ ns
    → count ≡ length (argument_lists (domain_in universes ns)) → k < length (argument_lists (domain_in universes domain)) → Here universes domain n ns k count
row_here universes domain n ns k count e is h =
    let total : length (argument_lists (domain_in universes domain)) ≡ length (get_or universes n []) * count = lists_split universes domain n ns e ∙ ap (λ m. length (get_or universes n []) * m) (sym is) in
    let parts : (0 < count) × (k / count < length (get_or universes n [])) × (k % count < count) = quotient_below k (length (get_or universes n [])) count (subst (λ m. k < m) total h) in
    let split = list_split universes domain n ns (k / count) (k % count) count e parts.1 is parts.2 in
    record {
      positive = parts.0;
      quotient = parts.1;
      remainder = subst (λ m. k % count < m) is parts.2;
      list = ap (λ m. get_or (argument_lists (domain_in universes domain)) m []) (sym (div-add-mod' k count)) ∙ split.1;
    }

-- a value and then the rest, after what is there, are the whole list after it
pub pushed_before : (old pushed : List Value) (v : Value) (vs whole : List Value) → pushed ≡ old ++ (v ∷ []) → whole ≡ v ∷ vs → pushed ++ vs ≡ old ++ whole
pushed_before old pushed v vs whole e f =
    ap (λ us. us ++ vs) e ∙ append_assoc old (v ∷ []) vs ∙ ap (λ us. old ++ us) (sym f)

pub few_lists : (lists m : ℕ) → lists ≤ 4096 ^ m → m ≤ 4 → lists ≤ 281_474_976_710_656
few_lists lists m h few = le_trans h (power_small m few)
