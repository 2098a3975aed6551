-- Free. Reading parts with tokens of one kind between them, as a loop does.
use Rattle.std.proofs.Common.{◌≡◌, ◌<◌, Bool, true, false, cond, List, [], ◌∷◌, ◌++◌, map, length, Ok, Err, refl, sym, ap, ◌∙◌, arith}
use Rattle.asm_syntax.specs.declared.token.Kind.{Kind}
use Rattle.asm_syntax.specs.declared.token.Token.{Token}
use Rattle.asm_reader.specs.declared.error.ReadError.{ReadError}
use Rattle.asm_reader.specs.declared.error.ReadError.TheVariants.{Unexpected}
use Rattle.asm_reader.specs.Kinds.{alike, begins}
use Rattle.asm_reader.specs.code.Steps.{ReaderResult, Reader, and_then, expect, repeated_of, past_of, separated_of}
use Rattle.asm_reader.proofs.Loops.{Consumes, with_front, front_is, turn_seen, one_before, no_turn, bad_turn}

same_rest : {A : Type 0} (x y : A) (us vs : List Token) → ◌≡◌ {A = ReaderResult A} (Ok (x, us)) (Ok (y, vs)) → us ≡ vs
same_rest {A} x y us vs e = let both : ◌≡◌ {A = A × List Token} (x, us) (y, vs) = cc in ap (λ (w : A × List Token). w.1) both

expect_consumes : (k : Kind) → Consumes (expect k)
expect_consumes k [] rest t e = absurd cc
expect_consumes k (u ∷ us) rest t e = cases (alike k u.kind) e
  where
    cases : (b : Bool) → ◌≡◌ {A = ReaderResult Token} (cond b (Ok (u, us)) (Err (Unexpected u.start))) (Ok (t, rest)) → length rest < length (u ∷ us)
    cases true d = let same : us ≡ rest = same_rest u t us rest d in omega (arith, ap length same)
    cases false d = absurd cc

module _ {A : Type 0} (k : Kind) (f : Reader A) where
  pub past_is : (ts ts1 ts2 : List Token) (t : Token) (x : A) → expect k ts ≡ Ok (t, ts1) → f ts1 ≡ Ok (x, ts2) → past_of k f ts ≡ Ok (x, ts2)
  past_is ts ts1 ts2 t x p q = rw (p, q) refl

  past_fails : (ts ts1 : List Token) (t : Token) (e : ReadError) → expect k ts ≡ Ok (t, ts1) → f ts1 ≡ Err e → past_of k f ts ≡ Err e
  past_fails ts ts1 t e p q = rw (p, q) refl

  -- what comes after a token that was taken
  behind : (t : Token) (x : A) (rest : List Token) (answer : ReaderResult A) → and_then {A = Token × A} (and_then answer (λ y after. Ok ((t, y), after))) (λ r after. Ok (r.1, after)) ≡ Ok (x, rest) → answer ≡ Ok (x, rest)
  behind t x rest (Ok r) e = e
  behind t x rest (Err d) e = absurd cc

  pub past_consumes : Consumes f → Consumes (past_of k f)
  past_consumes c ts rest x e = cases (expect k ts) refl e
    where
      cases : (r : ReaderResult Token) → expect k ts ≡ r → and_then {A = Token × A} (and_then r (λ t after. and_then (f after) (λ y last. Ok ((t, y), last)))) (λ v last. Ok (v.1, last)) ≡ Ok (x, rest) → length rest < length ts
      cases (Ok r) p d = omega (arith, expect_consumes k ts r.1 r.0 p, c r.1 rest x (behind r.0 x rest (f r.1) d))
      cases (Err r) p d = absurd cc

  separated_is : (ts ts1 : List Token) (first : A) → f ts ≡ Ok (first, ts1) → separated_of k f ts ≡ with_front (first ∷ []) (repeated_of (k ∷ []) (past_of k f) ts1)
  separated_is ts ts1 first read = rw read (sym (front_is first (repeated_of (k ∷ []) (past_of k f) ts1)))

-- ---- the same, when what was read is seen by a view

module _ {A B : Type 0} (view : B → A) (k : Kind) (f : Reader A) where
  -- what was read before, and what the tokens still give
  abbrev pub so_far : List B → List Token → ReaderResult (List A)
  so_far front ts = with_front (map view front) (repeated_of (k ∷ []) (past_of k f) ts)

  -- one more turn of the loop, when a part is read with the token before it
  pub next_seen : Consumes f → (before after : List B) (ts ts1 : List Token) (x : B) (total : ReaderResult (List A)) → after ≡ before ++ x ∷ [] → true ≡ begins (k ∷ []) ts
      → past_of k f ts ≡ Ok (view x, ts1) → so_far before ts ≡ total → so_far after ts1 ≡ total
  next_seen c before after ts ts1 x total pushed b p e = turn_seen view (k ∷ []) (past_of k f) (past_consumes k f c) before after ts x ts1 total pushed b p e

  -- one more turn of the loop
  pub next_read : Consumes f → (before after : List B) (ts ts1 ts2 : List Token) (t : Token) (x : B) (total : ReaderResult (List A)) → after ≡ before ++ x ∷ [] → true ≡ begins (k ∷ []) ts
      → expect k ts ≡ Ok (t, ts1) → f ts1 ≡ Ok (view x, ts2) → so_far before ts ≡ total → so_far after ts2 ≡ total
  next_read c before after ts ts1 ts2 t x total pushed b p q e = turn_seen view (k ∷ []) (past_of k f) (past_consumes k f c) before after ts x ts2 total pushed b (past_is k f ts ts1 ts2 t (view x) p q) e

  -- the loop is left with what the first part and it have read
  pub all_read : (none one all : List B) (ts ts1 last : List Token) (first : B) → none ≡ [] → one ≡ none ++ first ∷ [] → f ts ≡ Ok (view first, ts1) → false ≡ begins (k ∷ []) last
      → so_far all last ≡ so_far one ts1 → separated_of k f ts ≡ Ok (map view all, last)
  all_read none one all ts ts1 last first e pushed read b so = separated_is k f ts ts1 (view first) read
      ∙ sym (one_before view (k ∷ []) (past_of k f) none one first (repeated_of (k ∷ []) (past_of k f) ts1) e pushed)
      ∙ no_turn (k ∷ []) (past_of k f) (map view all) last (so_far one ts1) (sym b) so

  -- a part can't be read with the token before it
  pub past_stops : (none one all : List B) (ts ts1 ts2 : List Token) (first : B) (d : ReadError) → none ≡ [] → one ≡ none ++ first ∷ [] → f ts ≡ Ok (view first, ts1) → true ≡ begins (k ∷ []) ts2
      → past_of k f ts2 ≡ Err d → so_far all ts2 ≡ so_far one ts1 → separated_of k f ts ≡ Err d
  past_stops none one all ts ts1 ts2 first d e pushed read b p so = separated_is k f ts ts1 (view first) read
      ∙ sym (one_before view (k ∷ []) (past_of k f) none one first (repeated_of (k ∷ []) (past_of k f) ts1) e pushed)
      ∙ bad_turn (k ∷ []) (past_of k f) (map view all) ts2 d (so_far one ts1) (sym b) p so

  -- a part after a token between two can't be read
  pub next_fails : (none one all : List B) (ts ts1 ts2 ts3 : List Token) (first : B) (t : Token) (d : ReadError) → none ≡ [] → one ≡ none ++ first ∷ [] → f ts ≡ Ok (view first, ts1) → true ≡ begins (k ∷ []) ts2
      → expect k ts2 ≡ Ok (t, ts3) → f ts3 ≡ Err d → so_far all ts2 ≡ so_far one ts1 → separated_of k f ts ≡ Err d
  next_fails none one all ts ts1 ts2 ts3 first t d e pushed read b p q so = separated_is k f ts ts1 (view first) read
      ∙ sym (one_before view (k ∷ []) (past_of k f) none one first (repeated_of (k ∷ []) (past_of k f) ts1) e pushed)
      ∙ bad_turn (k ∷ []) (past_of k f) (map view all) ts2 d (so_far one ts1) (sym b) (past_fails k f ts2 ts3 t d p q) so
