-- Free. The codes of the lesser and of the greater of two values.
use Rattle.std.proofs.Common.{◌≡◌, ℕ, ◌<◌, ◌≤◌, min, max, cond, ap, ◌∙◌, arith, ⊎_elim}
use Rattle.std.proofs.lemmas.Bool.{cases_lt}
use Rattle.std.proofs.lemmas.Bool.Decides.{nat_tests}
use Rattle.std.specs.Ordering.{is_lt, nat_cmp}
use Rattle.asm_state.specs.declared.value.Value.{Value}
use Rattle.asm_state.specs.code.Codes.{code_of}
use Rattle.asm_state.specs.Updates.{lesser, greater}
use Rattle.asm_state.proofs.Codes.{codes_rise}

chosen_below : (m n : ℕ) (v w : Value) → m < n → cond (is_lt (nat_cmp m n)) v w ≡ v
chosen_below m n v w h = grind (arith, nat_tests)

chosen_from : (m n : ℕ) (v w : Value) → n ≤ m → cond (is_lt (nat_cmp m n)) v w ≡ w
chosen_from m n v w h = grind (arith, nat_tests)

pub code_of-lesser : (a b : Value) → code_of (lesser a b) ≡ min (code_of a) (code_of b)
code_of-lesser a b =
    let rises = ap (λ o. code_of (cond (is_lt o) b a)) (codes_rise b a) in
    ⊎_elim
    (λ (less : code_of b < code_of a). let is = rises ∙ ap code_of (chosen_below (code_of b) (code_of a) b a less) in omega (arith, is))
    (λ (more : code_of a ≤ code_of b). let is = rises ∙ ap code_of (chosen_from (code_of b) (code_of a) b a more) in omega (arith, is))
    (cases_lt (code_of b) (code_of a))

pub code_of-greater : (a b : Value) → code_of (greater a b) ≡ max (code_of a) (code_of b)
code_of-greater a b =
    let rises = ap (λ o. code_of (cond (is_lt o) b a)) (codes_rise a b) in
    ⊎_elim
    (λ (less : code_of a < code_of b). let is = rises ∙ ap code_of (chosen_below (code_of a) (code_of b) b a less) in omega (arith, is))
    (λ (more : code_of b ≤ code_of a). let is = rises ∙ ap code_of (chosen_from (code_of a) (code_of b) b a more) in omega (arith, is))
    (cases_lt (code_of a) (code_of b))
