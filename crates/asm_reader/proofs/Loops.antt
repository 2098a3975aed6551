-- Free. Reading any number of parts, as a loop does.
use Rattle.std.proofs.Common.{◌≡◌, ℕ, zero, suc, ◌≤◌, ◌<◌, true, false, cond, List, [], ◌∷◌, ◌++◌, map, length, Ok, Err, refl, sym, ap, ◌∙◌, append_assoc, arith}
use Rattle.std.proofs.lemmas.List.{append-nil, map_push}
use Rattle.asm_syntax.specs.declared.token.Kind.{Kind}
use Rattle.asm_syntax.specs.declared.token.Token.{Token}
use Rattle.asm_reader.specs.declared.error.ReadError.{ReadError}
use Rattle.asm_reader.specs.Kinds.{begins}
use Rattle.asm_reader.specs.code.Steps.{ReaderResult, Reader, and_then, turns, repeated_of, pair_of, mapped}

-- what was read before, and what is still read
abbrev pub with_front : {A : Type 0} → List A → ReaderResult (List A) → ReaderResult (List A)
with_front front answer = and_then answer (λ xs rest. Ok (front ++ xs, rest))

-- a reader that takes a token at least
abbrev pub Consumes : {A : Type 0} → Reader A → Type 0
Consumes {A} f = (ts rest : List Token) (x : A) → f ts ≡ Ok (x, rest) → length rest < length ts

module _ {A : Type 0} (ks : List Kind) (f : Reader A) where
  -- more turns than tokens change nothing
  next_turn : (n m : ℕ) (ts : List Token) (r : ReaderResult A) → f ts ≡ r → ((x : A) (rest : List Token) → r ≡ Ok (x, rest) → turns ks f n rest ≡ turns ks f m rest) → mapped (λ r. r.0 ∷ r.1) (pair_of f (turns ks f n)) ts ≡ mapped (λ r. r.0 ∷ r.1) (pair_of f (turns ks f m)) ts
  next_turn n m ts (Ok r) e h = rw e (rw (h r.0 r.1 refl) refl)
  next_turn n m ts (Err d) e h = rw e refl

  none_left : (ts : List Token) → length ts ≤ 0 → begins ks ts ≡ false
  none_left [] h = refl
  none_left (t ∷ ts) h = absurd (omega arith)

  pub turns_enough : Consumes f → (n m : ℕ) (ts : List Token) → length ts ≤ n → length ts ≤ m → turns ks f n ts ≡ turns ks f m ts
  unfolding turns
  turns_enough c zero zero ts h k = refl
  turns_enough c zero (suc m) ts h k = rw (none_left ts h) refl
  turns_enough c (suc n) zero ts h k = rw (none_left ts k) refl
  turns_enough c (suc n) (suc m) ts h k = ap (λ (v : ReaderResult (List A)). cond (begins ks ts) v (Ok ([], ts)))
      (next_turn n m ts (f ts) refl (λ x rest e. let l : length rest < length ts = c ts rest x e in turns_enough c n m rest (omega arith) (omega arith)))

  regroup : (front : List A) (x : A) (answer : ReaderResult (List A)) → with_front front (mapped {A = A × List A} (λ r. r.0 ∷ r.1) (λ _. and_then answer (λ xs after. Ok ((x, xs), after))) []) ≡ with_front (front ++ x ∷ []) answer
  regroup front x (Ok r) = ap (λ (xs : List A). Ok (xs, r.1)) (simp append_assoc)
  regroup front x (Err d) = refl

  -- one more turn of the loop
  pub turn : Consumes f → (front : List A) (ts : List Token) (x : A) (rest : List Token) (total : ReaderResult (List A)) → begins ks ts ≡ true → f ts ≡ Ok (x, rest)
      → with_front front (repeated_of ks f ts) ≡ total → with_front (front ++ x ∷ []) (repeated_of ks f rest) ≡ total
  unfolding turns
  turn c front [] x rest total b e so_far = absurd cc
  turn c front (t ∷ ts) x rest total b e so_far =
      let l : length rest < length (t ∷ ts) = c (t ∷ ts) rest x e in
      let same : turns ks f (length ts) rest ≡ repeated_of ks f rest = turns_enough c (length ts) (length rest) rest (omega (arith, l)) (omega arith) in
      let one : with_front front (repeated_of ks f (t ∷ ts)) ≡ with_front (front ++ x ∷ []) (repeated_of ks f rest) = rw (b, e, same) (regroup front x (repeated_of ks f rest)) in
      sym one ∙ so_far

  pub no_turn : (front : List A) (ts : List Token) (total : ReaderResult (List A)) → begins ks ts ≡ false → with_front front (repeated_of ks f ts) ≡ total → total ≡ Ok (front, ts)
  unfolding turns
  no_turn front [] total b so_far = sym so_far ∙ ap (λ (xs : List A). Ok (xs, [])) (append-nil front)
  no_turn front (t ∷ ts) total b so_far =
      let one : with_front front (repeated_of ks f (t ∷ ts)) ≡ Ok (front, t ∷ ts) = rw b (ap (λ (xs : List A). Ok (xs, t ∷ ts)) (append-nil front)) in
      sym so_far ∙ one

  pub bad_turn : (front : List A) (ts : List Token) (e : ReadError) (total : ReaderResult (List A)) → begins ks ts ≡ true → f ts ≡ Err e → with_front front (repeated_of ks f ts) ≡ total → total ≡ Err e
  unfolding turns
  bad_turn front [] e total b h so_far = absurd cc
  bad_turn front (t ∷ ts) e total b h so_far =
      let one : with_front front (repeated_of ks f (t ∷ ts)) ≡ Err e = rw (b, h) refl in
      sym so_far ∙ one

pub no_front : {A : Type 0} (answer : ReaderResult (List A)) → with_front [] answer ≡ answer
no_front (Ok r) = refl
no_front (Err e) = refl

-- with the first part read before the loop
pub front_is : {A : Type 0} (x : A) (answer : ReaderResult (List A)) → with_front (x ∷ []) answer ≡ and_then {A = A × List A} (and_then answer (λ xs after. Ok ((x, xs), after))) (λ r after. Ok (r.0 ∷ r.1, after))
front_is x (Ok r) = refl
front_is x (Err e) = refl

-- ---- the same, when what was read is seen by a view

module _ {A B : Type 0} (view : B → A) (ks : List Kind) (f : Reader A) where
  -- one more turn, after which the list has one element more
  pub turn_seen : Consumes f → (before after : List B) (ts : List Token) (x : B) (rest : List Token) (total : ReaderResult (List A)) → after ≡ before ++ x ∷ [] → true ≡ begins ks ts → f ts ≡ Ok (view x, rest)
      → with_front (map view before) (repeated_of ks f ts) ≡ total → with_front (map view after) (repeated_of ks f rest) ≡ total
  turn_seen c before after ts x rest total pushed b e so_far = rw (pushed, map_push) (turn ks f c (map view before) ts (view x) rest total (sym b) e so_far)

  pub nothing_before : (none : List B) (answer : ReaderResult (List A)) → none ≡ [] → with_front (map view none) answer ≡ answer
  nothing_before none answer e = rw e (no_front answer)

  pub one_before : (none one : List B) (x : B) (answer : ReaderResult (List A)) → none ≡ [] → one ≡ none ++ x ∷ [] → with_front (map view one) answer ≡ with_front (view x ∷ []) answer
  one_before none one x answer e pushed = rw (pushed, e) refl
