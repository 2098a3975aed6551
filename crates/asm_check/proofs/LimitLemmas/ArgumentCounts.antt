-- Free. How many argument lists a domain has, one name after another.
use Rattle.std.proofs.Common.{◌≡◌, ℕ, ◌+◌, ◌*◌, ◌^◌, ◌<◌, ◌≤◌, List, ◌∷◌, map, length, drop, get_or, cond, sym, ap, ◌∙◌, arith}
use Rattle.std.proofs.lemmas.Bool.{le-leb, lt-leb}
use Rattle.std.proofs.lemmas.List.{drop_more, drop_all, length-map}
use Rattle.std.proofs.lemmas.Nat.{mul-le}
use Rattle.std.proofs.Math.Nat.{pow-suc, pow-le-pow_right, mul_assoc}
use Rattle.asm_state.specs.declared.signature_limits.TheConstants.{MAX_VALUES, MAX_ARGUMENTS}
use Rattle.asm_syntax.specs.SourceTree.{Spec}
use Rattle.asm_syntax.specs.code.Views.{name_of}
use Rattle.asm_syntax.specs.declared.name.Name.{Name}
use Rattle.asm_check.specs.Limits.{product, counted_size, lists_of}

pub product_fits : (p n i : ℕ) → p ≤ MAX_VALUES ^ i → n ≤ MAX_VALUES → p * n ≤ MAX_VALUES ^ (i + 1)
product_fits p n i h k =
    let next : MAX_VALUES ^ (i + 1) ≡ MAX_VALUES ^ i * MAX_VALUES = ap (λ j. MAX_VALUES ^ j) (omega arith) ∙ pow-suc MAX_VALUES i in
    omega (arith, mul-le p n (MAX_VALUES ^ i) MAX_VALUES h k, next)

pub product_small : (p n i : ℕ) → i < MAX_ARGUMENTS → p ≤ MAX_VALUES ^ i → n ≤ MAX_VALUES → p * n < 2 ^ 64
product_small p n i low h k =
    let up : i + 1 ≤ MAX_ARGUMENTS = omega arith in
    let some : 0 < MAX_VALUES = omega arith in
    let most : MAX_VALUES ^ (i + 1) ≤ MAX_VALUES ^ MAX_ARGUMENTS = pow-le-pow_right {n = MAX_VALUES} some up in
    omega (arith, product_fits p n i h k, most)

-- the product of the sizes of these names
abbrev pub product_of : Spec → List Name → ℕ
product_of spec names = product (map (counted_size spec) (map name_of names))

pub product_more : (spec : Spec) (names : List Name) (i : ℕ) (x : Name) (p n : ℕ) → i < length names → get_or names i x ≡ x → n ≡ counted_size spec (name_of x)
    → p * product_of spec (drop i names) ≡ product_of spec names → p * n * product_of spec (drop (i + 1) names) ≡ product_of spec names
product_more spec names i x p n inside is size h =
    let step : product_of spec (drop i names) ≡ n * product_of spec (drop (i + 1) names) =
    ap (product_of spec) (drop_more names i x inside ∙ ap (λ y. y ∷ drop (i + 1) names) is) ∙ ap (λ m. m * product_of spec (drop (i + 1) names)) (sym size) in
    mul_assoc p n (product_of spec (drop (i + 1) names)) ∙ (ap (λ m. p * m) (sym step) ∙ h)

pub product_whole : (spec : Spec) (names : List Name) (i p : ℕ) → length names ≤ i → length names ≤ MAX_ARGUMENTS
    → p * product_of spec (drop i names) ≡ product_of spec names → p ≡ lists_of spec (map name_of names)
product_whole spec names i p all few h =
    let one : p * 1 ≡ product_of spec names = ap (λ ns. p * product_of spec ns) (sym (drop_all i names all)) ∙ h in
    let few' : length (map name_of names) ≤ MAX_ARGUMENTS = omega (arith, length-map names name_of) in
    sym (ap (λ b. cond b (product_of spec names) 0) (le-leb (length (map name_of names)) MAX_ARGUMENTS few') ∙ omega (arith, one))

pub none_of_many : (spec : Spec) (names : List Name) → MAX_ARGUMENTS < length names → 0 ≡ lists_of spec (map name_of names)
none_of_many spec names many =
    let many' : MAX_ARGUMENTS < length (map name_of names) = omega (arith, length-map names name_of) in
    sym (ap (λ b. cond b (product_of spec names) 0) (lt-leb (length (map name_of names)) MAX_ARGUMENTS many'))
