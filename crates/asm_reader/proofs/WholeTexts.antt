-- Free. An exact reader, and then the end of the tokens.
use Rattle.std.proofs.Common.{◌≡◌, ◌⊎◌, ℕ, ◌<◌, ◌≤◌, List, [], ◌∷◌, ◌++◌, length, get_or, Ok, Err, refl, sym, ap, ◌∙◌, append_assoc, arith, inl, inr}
use Rattle.std.specs.Prelude.{IsSome, Option, None}
use Rattle.std.proofs.lemmas.List.{append-nil, length-append}
use Rattle.asm_syntax.specs.declared.input_error.InputError.{InputError}
use Rattle.asm_syntax.specs.declared.input_error.InputError.TheVariants.{Memory, Named}
use Rattle.asm_syntax.specs.declared.token.Kind.{Kind}
use Rattle.asm_syntax.specs.declared.token.Token.{Token}
use Rattle.asm_reader.specs.declared.error.ReadError.{ReadError}
use Rattle.asm_reader.specs.Levels.{Depth, at_depth, depth_after}
use Rattle.asm_reader.specs.Productions.{Production}
use Rattle.asm_reader.specs.code.Steps.{Reader, refusal}
use Rattle.asm_reader.specs.Specification.{max_nesting, CanGoOnBy, IsWithinLevels, AreSpellingBy}
use Rattle.asm_reader.specs.Refusals.{IsUnexpectedBy, IsTooDeepBy, IsRefusalOfTokensBy, ExplainsTokensBy}
use Rattle.asm_reader.proofs.Lists.{Agrees-self}
use Rattle.asm_reader.proofs.ExactLemmas.Readers.{Takes, Stops, Sinks, IsExact, depth-append}
use Rattle.asm_reader.proofs.WiderLemmas.WiderParts.{Includes}

no_level : (o : Option ℕ) → o ≡ None → ¬ IsSome o
no_level o e h = absurd (cc (e, h))

nothing_behind : (front us : List Token) (t : Token) → ¬ (front ++ t ∷ us ≡ front)
nothing_behind front us t e = omega (arith, ap length e, length-append front (t ∷ us))

-- In what P makes enough levels may open; N makes it at any depth.
module _ {A : Type 0} (more : List Kind) (P N : Production A) (wide : Includes P N) where
  abbrev top : Depth
  top = at_depth max_nesting

  goes_on : (before : List Token) → (us : List Token) × (x : A) × P (before ++ us) x → CanGoOnBy N before
  goes_on before g = (g.0, g.1, wide (before ++ g.0) g.1 g.2)

  is_within : (ts : List Token) → depth_after top ts ≡ top → IsWithinLevels ts
  is_within ts e = rw e refl

  all_taken : (ts : List Token) (s : A) → Takes top top more P N ts s [] → AreSpellingBy N ts s
  all_taken ts s t =
      let whole : ts ≡ t.front = t.parts ∙ append-nil t.front in
      (rw whole (wide t.front s t.made), rw whole (is_within t.front t.fits))

  left_over : (ts : List Token) (s : A) (t : Token) (rest : List Token) → Takes top top more P N ts s (t ∷ rest) → IsUnexpectedBy N ts t.start
  left_over ts s t rest u = record {
    before = u.front;
    bad = t;
    after = rest;
    parts = u.parts;
    start = refl;
    goes = ([], s, rw (append-nil u.front) (wide u.front s u.made));
    stops = λ g.
        let all : List Token = (u.front ++ t ∷ []) ++ g.0 in
        let regroup : all ++ [] ≡ u.front ++ t ∷ g.0 = append-nil all ∙ append_assoc u.front (t ∷ []) g.0 in
        let same = u.only (t ∷ g.0) all [] g.1 refl regroup g.2 refl in
        nothing_behind u.front g.0 t (sym (append_assoc u.front (t ∷ []) g.0) ∙ same.0);
    levels = is_within u.front u.fits;
  }

  stopped : (ts : List Token) (e : ReadError) (s : Stops top more P N ts e) (rest : List Token) → s.rest ≡ rest → IsRefusalOfTokensBy N ts (refusal rest)
  stopped ts e s [] d =
      let whole : ts ≡ s.before = s.parts ∙ ap (λ (w : List Token). s.before ++ w) d ∙ append-nil s.before in
      record {
        goes = rw whole (goes_on s.before s.goes);
        unfinished = λ y p. s.stuck s.rest ts [] y (Agrees-self s.rest) (append-nil ts ∙ s.parts) p refl;
        levels = rw whole s.fits;
      }
  stopped ts e s (t ∷ rest) d = record {
    before = s.before;
    bad = t;
    after = rest;
    parts = s.parts ∙ ap (λ (w : List Token). s.before ++ w) d;
    start = refl;
    goes = goes_on s.before s.goes;
    stops = λ g.
        let all : List Token = (s.before ++ t ∷ []) ++ g.0 in
        s.stuck (t ∷ g.0) all [] g.1 (rw d refl) (append-nil all ∙ append_assoc s.before (t ∷ []) g.0) g.2 refl;
    levels = s.fits;
  }

  sunk : (ts : List Token) (e : ReadError) (s : Sinks top P ts e) → IsTooDeepBy N ts s.opener.start
  sunk ts e s = record {
    before = s.before;
    opener = s.opener;
    after = s.rest;
    parts = s.parts;
    start = refl;
    goes = (s.goes.0, s.goes.1, rw (append_assoc s.before (s.opener ∷ []) s.goes.0) (wide (s.before ++ s.opener ∷ s.goes.0) s.goes.1 s.goes.2));
    levels = s.fits;
    opens = λ h. no_level (depth_after top (s.before ++ s.opener ∷ [])).left (ap (λ (v : Depth). v.left) (depth-append top s.before (s.opener ∷ [])) ∙ s.sinks) h;
  }

  refused : (ts : List Token) (e : ReadError) → Stops top more P N ts e ⊎ Sinks top P ts e → IsRefusalOfTokensBy N ts e
  refused ts e (inl s) = rw s.error (stopped ts e s s.rest refl)
  refused ts e (inr s) = rw s.error (sunk ts e s)

  module _ (f : Reader A) (exact : IsExact top top more P N f) (ts : List Token) where
    -- what is read up to the end
    pub ends_here : (s : A) (rest : List Token) → f ts ≡ Ok (s, rest) → length rest < 1 → AreSpellingBy N ts s
    ends_here s [] e l = all_taken ts s (rw e at (exact ts))
    ends_here s (t ∷ rest) e l = absurd (omega arith)

    -- what is read, and more after it
    pub goes_past : (s : A) (rest : List Token) (default : Token) → f ts ≡ Ok (s, rest) → 1 ≤ length rest → IsUnexpectedBy N ts (get_or rest 0 default).start
    goes_past s [] default e l = absurd (omega arith)
    goes_past s (t ∷ rest) default e l = left_over ts s t rest (rw e at (exact ts))

    -- what isn't read, when the reason is told
    pub explained : (e : InputError ReadError) → ((reason : ReadError) → e ≡ Named reason → f ts ≡ Err reason) → ExplainsTokensBy N ts e
    explained Memory h = tt
    explained (Named e) h = refused ts e (rw (h e refl) at (exact ts))
