-- Free. Tokens have one tree at most, at any depth: with room for as many levels as tokens, an
-- exact reader finds it.
use Rattle.std.proofs.Common.{◌≡◌, ℕ, zero, suc, ◌+◌, ◌≤◌, Bool, true, false, cond, List, [], ◌∷◌, ◌++◌, length, Option, Some, None, Ok, Err, refl, sym, ap, ◌∙◌, arith, inl, inr}
use Rattle.std.specs.Prelude.{option_and_then}
use Rattle.std.proofs.lemmas.List.{append-nil, length-append}
use Rattle.asm_syntax.specs.declared.token.Kind.{Kind}
use Rattle.asm_syntax.specs.declared.token.Token.{Token}
use Rattle.asm_reader.specs.declared.error.ReadError.{ReadError}
use Rattle.asm_reader.specs.Kinds.{is_one_of}
use Rattle.asm_reader.specs.Levels.{Depth, at_depth, closers, opens, less_one, after_token, depth_after}
use Rattle.asm_reader.specs.Productions.{Production}
use Rattle.asm_reader.specs.code.Steps.{ReaderResult, Reader}
use Rattle.asm_reader.proofs.Lists.{Agrees-self}
use Rattle.asm_reader.proofs.ExactLemmas.Readers.{Sinks, Outcome, IsExact, depth-append}

-- n levels are left at least
abbrev HasLeft : ℕ → Option ℕ → Type 0
HasLeft n None = ⊥
HasLeft n (Some k) = n ≤ k

one_less : (n : ℕ) (o : Option ℕ) → HasLeft (suc n) o → HasLeft n (option_and_then less_one o)
one_less n None h = h
one_less n (Some zero) h = omega arith
one_less n (Some (suc k)) h = omega arith

one_more : (n : ℕ) (o : Option ℕ) → HasLeft (suc n) o → HasLeft n (option_and_then (λ k. Some (suc k)) o)
one_more n None h = h
one_more n (Some k) h = omega arith

as_many : (n : ℕ) (o : Option ℕ) → HasLeft (suc n) o → HasLeft n o
as_many n None h = h
as_many n (Some k) h = omega arith

-- a token takes one level at most
token_left : (n : ℕ) (d : Depth) (t : Token) → HasLeft (suc n) d.left → HasLeft n (after_token d t).left
token_left n d t h = cases (opens d.in_front t.kind) (is_one_of closers t.kind)
  where
    cases : (a b : Bool) → HasLeft n (cond a (option_and_then less_one d.left) (cond b (option_and_then (λ k. Some (suc k)) d.left) d.left))
    cases true b = one_less n d.left h
    cases false true = one_more n d.left h
    cases false false = as_many n d.left h

tokens_left : (ts : List Token) (n : ℕ) (d : Depth) → HasLeft (n + length ts) d.left → HasLeft n (depth_after d ts).left
tokens_left [] n d h = rw (nothing_more n) at h
  where
    nothing_more : (m : ℕ) → m + 0 ≡ m
    nothing_more m = omega arith
tokens_left (t ∷ ts) n d h = tokens_left ts n (after_token d t) (token_left (n + length ts) d t (rw (one_longer n (length ts)) at h))
  where
    one_longer : (m k : ℕ) → m + suc k ≡ suc (m + k)
    one_longer m k = omega arith

none_has_left : (n : ℕ) (o : Option ℕ) → o ≡ None → ¬ HasLeft n o
none_has_left n None e h = h
none_has_left n (Some k) e h = absurd cc

-- n levels may open in `P n`, and any number in N
module _ {A : Type 0} (more : List Kind) (P : ℕ → Production A) (N : Production A) (f : ℕ → Reader A) (exact : (n : ℕ) → IsExact (at_depth n) (at_depth n) more (P n) N (f n)) where
  never_sinks : (ts : List Token) (e : ReadError) → ¬ Sinks (at_depth (length ts)) (P (length ts)) ts e
  never_sinks ts e s =
      let opened : List Token = s.before ++ s.opener ∷ [] in
      let long : 0 + length opened ≤ length ts = omega (arith, ap length s.parts, length-append s.before (s.opener ∷ s.rest), length-append s.before (s.opener ∷ [])) in
      none_has_left 0 (depth_after (at_depth (length ts)) opened).left (ap (λ (v : Depth). v.left) (depth-append (at_depth (length ts)) s.before (s.opener ∷ [])) ∙ s.sinks)
      (tokens_left opened 0 (at_depth (length ts)) long)

  found : (ts : List Token) (x : A) → N ts x → (r : ReaderResult A) → Outcome (at_depth (length ts)) (at_depth (length ts)) more (P (length ts)) N ts r → (z : A) × (rest : List Token) × (r ≡ Ok (z, rest)) × (x ≡ z)
  found ts x p (Ok r) t = (r.0, r.1, refl, (t.only r.1 ts [] x (Agrees-self r.1) (append-nil ts ∙ t.parts) p refl).1)
  found ts x p (Err e) (inl s) = absurd (s.stuck s.rest ts [] x (Agrees-self s.rest) (append-nil ts ∙ s.parts) p refl)
  found ts x p (Err e) (inr s) = absurd (never_sinks ts e s)

  same_value : (a b : A) (u v : List Token) (r : ReaderResult A) → r ≡ Ok (a, u) → r ≡ Ok (b, v) → a ≡ b
  same_value a b u v r p q = let both : ◌≡◌ {A = A × List Token} (a, u) (b, v) = cc in ap (λ (w : A × List Token). w.0) both

  pub one_tree : (ts : List Token) (x y : A) → N ts x → N ts y → x ≡ y
  one_tree ts x y p q =
      let a = found ts x p (f (length ts) ts) (exact (length ts) ts) in
      let b = found ts y q (f (length ts) ts) (exact (length ts) ts) in
      a.3 ∙ same_value a.0 b.0 a.1 b.1 (f (length ts) ts) a.2 b.2 ∙ sym b.3
