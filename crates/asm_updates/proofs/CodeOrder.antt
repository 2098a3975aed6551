-- Free. The order of values by their codes.
use Rattle.std.proofs.Common.{◌≡◌, ℕ, ◌<◌, ◌≤◌, false, cond, sym, ap, ◌∙◌, arith}
use Rattle.std.proofs.Math.Nat.{le_refl}
use Rattle.std.proofs.lemmas.Bool.Decides.{nat_tests}
use Rattle.std.specs.Ordering.{is_lt, is_gt, nat_cmp}
use Rattle.asm_state.specs.declared.value.Value.{Value}
use Rattle.asm_state.specs.code.Codes.{code_of}
use Rattle.asm_state.specs.Updates.{lesser, greater, IsAtMost}
use Rattle.asm_state.proofs.Codes.{codes_rise}

chosen_below : (m n : ℕ) (v w : Value) → m < n → cond (is_lt (nat_cmp m n)) v w ≡ v
chosen_below m n v w h = grind (arith, nat_tests)

chosen_from : (m n : ℕ) (v w : Value) → n ≤ m → cond (is_lt (nat_cmp m n)) v w ≡ w
chosen_from m n v w h = grind (arith, nat_tests)

no_more : (m n : ℕ) → m ≤ n → is_gt (nat_cmp m n) ≡ false
no_more m n h = grind (arith, nat_tests)

pub lesser-second : (a b : Value) → code_of b < code_of a → b ≡ lesser a b
lesser-second a b h = sym (ap (λ o. cond (is_lt o) b a) (codes_rise b a) ∙ chosen_below (code_of b) (code_of a) b a h)

pub lesser-first : (a b : Value) → code_of a ≤ code_of b → a ≡ lesser a b
lesser-first a b h = sym (ap (λ o. cond (is_lt o) b a) (codes_rise b a) ∙ chosen_from (code_of b) (code_of a) b a h)

pub greater-second : (a b : Value) → code_of a < code_of b → b ≡ greater a b
greater-second a b h = sym (ap (λ o. cond (is_lt o) b a) (codes_rise a b) ∙ chosen_below (code_of a) (code_of b) b a h)

pub greater-first : (a b : Value) → code_of b ≤ code_of a → a ≡ greater a b
greater-first a b h = sym (ap (λ o. cond (is_lt o) b a) (codes_rise a b) ∙ chosen_from (code_of a) (code_of b) b a h)

pub at_most : (v w : Value) → code_of v ≤ code_of w → IsAtMost v w
at_most v w h = ap is_gt (codes_rise v w) ∙ no_more (code_of v) (code_of w) h

pub at_most_itself : (v : Value) → IsAtMost v v
at_most_itself v = at_most v v (le_refl (code_of v))
