-- Free. The readers of rules, as the code's functions call one another.
use Rattle.std.proofs.Common.{◌≡◌, ℕ, zero, suc, Bool, true, false, cond, ◌||◌, List, [], ◌∷◌, Option, Some, None, Ok, Err, inl, inr, refl, sym}
use Rattle.asm_syntax.specs.declared.token.Kind.{Kind}
use Rattle.asm_syntax.specs.declared.token.Kind.TheVariants.{Symbol}
use Rattle.asm_syntax.specs.declared.token.Symbol.TheVariants.{Assign, LeftArrow}
use Rattle.asm_syntax.specs.declared.token.Token.{Token}
use Rattle.asm_syntax.specs.SourceTree as source
use Rattle.asm_reader.specs.declared.error.ReadError.{ReadError}
use Rattle.asm_reader.specs.Kinds.{alike, begins}
use Rattle.asm_reader.specs.code.Steps.{Reader, and_then, below, mapped, either_of, option_of, repeated_of, several_of}
use Rattle.asm_reader.specs.code.TermReading.{applied_at, term_at}
use Rattle.asm_reader.specs.code.RuleReading.{Applied, value_at, called_at, named_rule_at, rule_over_at, rule_at}
use Rattle.asm_reader.proofs.Loops.{with_front, front_is}

pub rule_is : (text : List ℕ) (n : ℕ) → rule_at text n ≡ rule_over_at text n (below (term_at text) n) (below (rule_at text) n)
unfolding rule_at
rule_is text zero = refl
rule_is text (suc n) = refl

pub several_is : {A : Type 0} (ks : List Kind) (f : Reader A) (ts ts1 : List Token) (first : A) → f ts ≡ Ok (first, ts1) → several_of ks f ts ≡ with_front (first ∷ []) (repeated_of ks f ts1)
several_is ks f ts ts1 first read = rw read (sym (front_is first (repeated_of ks f ts1)))

-- ---- what may be left out and begins with one kind or another

module _ {A : Type 0} (a b : Kind) (f g : Reader A) where
  abbrev behind : Reader (Option A)
  behind = option_of (a ∷ b ∷ []) (either_of (a ∷ []) f g)

  -- by whether the next token is of the one kind, and whether it is of the other
  abbrev by_tests : (x y : Bool) → Reader (Option A)
  by_tests x y ts = cond (x || (y || false)) (and_then (cond (x || false) (f ts) (g ts)) (λ v rest. Ok (Some v, rest))) (Ok (None, ts))

  one_test : (x y : Bool) (ts : List Token) → (x || false) ≡ true → by_tests x y ts ≡ mapped Some f ts
  one_test true y ts p = refl
  one_test false y ts p = absurd cc

  pub one_behind : (ts : List Token) → begins (a ∷ []) ts ≡ true → behind ts ≡ mapped Some f ts
  one_behind [] p = absurd cc
  one_behind (t ∷ ts) p = one_test (alike a t.kind) (alike b t.kind) (t ∷ ts) p

-- ---- what begins with a name

module _ (text : List ℕ) (n : ℕ) (term : Reader source.Term) (rule : Reader source.Rule) (ts ts1 : List Token) (first : Applied) (read : applied_at text n term ts ≡ Ok (first, ts1)) where
  pub assignment_is : begins (Symbol Assign ∷ []) ts1 ≡ true → (ts2 : List Token) (t : source.Term) → value_at text n term rule ts1 ≡ Ok (t, ts2) → named_rule_at text n term rule ts ≡ Ok (source.Assign first.0 first.1 t, ts2)
  unfolding named_rule_at
  assignment_is sees ts2 t p = rw (read, one_behind (Symbol Assign) (Symbol LeftArrow) (mapped inl (value_at text n term rule)) (mapped inr (called_at text n term rule)) ts1 sees, p) refl

  pub value_fails : begins (Symbol Assign ∷ []) ts1 ≡ true → (e : ReadError) → value_at text n term rule ts1 ≡ Err e → named_rule_at text n term rule ts ≡ Err e
  unfolding named_rule_at
  value_fails sees e p = rw (read, one_behind (Symbol Assign) (Symbol LeftArrow) (mapped inl (value_at text n term rule)) (mapped inr (called_at text n term rule)) ts1 sees, p) refl
