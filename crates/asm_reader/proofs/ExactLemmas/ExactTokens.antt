-- Free. Exact readers of single tokens, at any depth.
use Rattle.std.proofs.Common.{◌≡◌, ℕ, ◌<◌, Bool, true, false, cond, List, [], ◌∷◌, ◌++◌, length, Option, Some, None, Err, refl, sym, ap, subst, ◌∙◌, is_some, arith, inl, inr}
use Rattle.std.proofs.lemmas.List.{length-append}
use Rattle.asm_syntax.specs.declared.token.Kind.{Kind}
use Rattle.asm_syntax.specs.declared.token.Kind.TheVariants.{Symbol, Keyword}
use Rattle.asm_syntax.specs.declared.token.Symbol.TheVariants.{Open}
use Rattle.asm_syntax.specs.declared.token.Keyword.TheVariants.{Forall}
use Rattle.asm_syntax.specs.declared.token.Token.{Token}
use Rattle.asm_reader.specs.Kinds.{alike, is_one_of, begins}
use Rattle.asm_reader.specs.Levels.{Depth, openers, closers, opens, after_token}
use Rattle.asm_reader.specs.Productions.{Production, token, ◌then◌, ◌or◌, optional, ◌makes◌, past}
use Rattle.asm_reader.specs.code.Steps.{ReaderResult, Reader, refusal, expect, found_at, past_of, pair_of, either_of}
use Rattle.asm_reader.proofs.Lists.{Agrees, begins-append, apart, within, within_begins, within_true}
use Rattle.asm_reader.proofs.ExactLemmas.Readers.{Takes, Stops, Outcome, IsExact, Begins, Ends, HasText, IsSingle, exact_token, exact_pair, exact_makes, exact_either, exact_wider, ends_none, has_token, begins_token, head_is}
use Rattle.asm_reader.proofs.Loops.{Consumes}

-- n levels may open, and whether the last token is `(`
abbrev pub depth : ℕ → Bool → Depth
depth n q = record { left = Some n; in_front = q }

-- a token that opens and closes nothing
abbrev pub IsPlain : Kind → Type 0
IsPlain k = (is_one_of openers k ≡ false) × (is_one_of closers k ≡ false) × (alike (Symbol Open) k ≡ false)

not_opens : (q : Bool) (k : Kind) → is_one_of openers k ≡ false → opens q k ≡ false
not_opens false k h = h
not_opens true k h = both (alike (Keyword Forall) k) (is_one_of openers k) h
  where
    both : (a b : Bool) → b ≡ false → cond a false b ≡ false
    both true b e = refl
    both false b e = e

plain_fits : (n : ℕ) (q : Bool) (t : Token) → IsPlain t.kind → after_token (depth n q) t ≡ depth n false
plain_fits n q t h = rw (not_opens q t.kind h.0, h.1, h.2) refl

pub exact_plain : (n : ℕ) (q : Bool) (k : Kind) → IsSingle k → IsPlain k → IsExact (depth n q) (depth n false) [] (token k) (token k) (expect k)
exact_plain n q k single h = exact_token (depth n q) (depth n false) [] k single refl (λ t e. plain_fits n q t (rw e h))

-- what comes after a plain token
pub exact_past : {A : Type 0} (n : ℕ) (q : Bool) (d : Depth) (more : List Kind) (k : Kind) → IsSingle k → IsPlain k → (P N : Production A) → HasText P → (f : Reader A) → IsExact (depth n false) d more P N f → IsExact (depth n q) d more (past k P) (past k N) (past_of k f)
exact_past n q d more k single plain P N some f h = exact_makes (depth n q) d more (token k then P) (token k then N) (λ r. r.1) (pair_of (expect k) f)
    (exact_pair (depth n q) (depth n false) d [] more (token k) (token k) P N (ends_none more N) some (expect k) f (exact_plain n q k single plain) h)

pub has_past : {A : Type 0} (k : Kind) (P : Production A) → HasText P → HasText (past k P)
has_past k P some = let t = has_token k in (t.0 ++ some.0, some.1, ((t.1, some.1), record { front = t.0; back = some.0; whole = refl; first = t.2; second = some.2 }, refl))

pub begins_makes : {A B : Type 0} (ks : List Kind) (P : Production A) (h : A → B) → Begins ks P → Begins ks (P makes h)
begins_makes ks P h b ts y m = b ts m.0 m.1

pub begins_then : {A B : Type 0} (ks : List Kind) (P : Production A) (Q : Production B) → Begins ks P → Begins ks (P then Q)
begins_then ks P Q b ts r s = rw s.whole (begins-append ks s.front s.back (b s.front r.0 s.first))

pub begins_past : {A : Type 0} (k : Kind) (P : Production A) → Begins (k ∷ []) (past k P)
begins_past k P = begins_makes (k ∷ []) (token k then P) (λ r. r.1) (begins_then (k ∷ []) (token k) P (begins_token k))

pub has_makes : {A B : Type 0} (P : Production A) (h : A → B) → HasText P → HasText (P makes h)
has_makes P h some = (some.0, h some.1, (some.1, some.2, refl))

pub has_then : {A B : Type 0} (P : Production A) (Q : Production B) → HasText P → HasText Q → HasText (P then Q)
has_then P Q p q = (p.0 ++ q.0, (p.1, q.1), record { front = p.0; back = q.0; whole = refl; first = p.2; second = q.2 })

pub optional_ends : {A : Type 0} (less more first : List Kind) (N : Production A) → Ends less more N → within less more ≡ true → Ends less more (optional N)
optional_ends less more first N e w ts tail None n q = rw n (within_begins less more tail w q)
optional_ends less more first N e w ts tail (Some x) n q = e ts tail x n q

-- ---- numbers and tables

module _ {A : Type 0} (n : ℕ) (q : Bool) (ks : List Kind) (f : Kind → Option A) (known : (k : Kind) → is_some (f k) ≡ true → is_one_of ks k ≡ true) (plain : (k : Kind) → is_one_of ks k ≡ true → IsPlain k) where
  -- the tokens for which f has something
  abbrev pub one : Production A
  one ts x = (t : Token) × (ts ≡ t ∷ []) × (f t.kind ≡ Some x)

  pub begins_one : Begins ks one
  begins_one ts x m = rw m.1 (known m.0.kind (ap is_some m.2))

  same_value : (o : Option A) (x y : A) → o ≡ Some x → o ≡ Some y → y ≡ x
  same_value o x y e d = cc

  one_takes : (t : Token) (ts : List Token) (x : A) → f t.kind ≡ Some x → Takes (depth n q) (depth n false) [] one one (t ∷ ts) x ts
  one_takes t ts x e = record {
    front = t ∷ [];
    parts = refl;
    made = (t, refl, e);
    fits = plain_fits n q t (plain t.kind (known t.kind (ap is_some e)));
    only = λ us text tail y a w m r.
        let h = head_is m.0 t tail us (ap (λ (v : List Token). v ++ tail) (sym m.1) ∙ w) in
        let d : f t.kind ≡ Some y = ap (λ (v : Token). f v.kind) (sym h.0) ∙ m.2 in
        (m.1 ∙ ap (λ (v : Token). v ∷ []) h.0, same_value (f t.kind) x y e d);
  }

  -- nothing is first, or a token for which f has nothing
  abbrev HasNone : List Token → Type 0
  HasNone [] = Unit {0}
  HasNone (t ∷ ts) = f t.kind ≡ None

  -- no token of the part agrees with what is first
  none_agrees : (ts us text tail : List Token) (y : A) → Agrees ts us → text ++ tail ≡ us → one text y → HasNone ts → ⊥
  none_agrees [] us text tail y a w m none = let e : m.0 ∷ tail ≡ [] = ap (λ (v : List Token). v ++ tail) (sym m.1) ∙ w ∙ a in absurd cc
  none_agrees (t ∷ ts) us text tail y a w m none =
      let first : Agrees (t ∷ ts) (m.0 ∷ tail) = subst (Agrees (t ∷ ts)) (sym w ∙ ap (λ (v : List Token). v ++ tail) m.1) a in
      let found : f t.kind ≡ Some y = ap (λ (v : Token). f v.kind) (sym first) ∙ m.2 in
      absurd (cc (found, none))

  one_stops : HasText one → (ts : List Token) → HasNone ts → Stops (depth n q) [] one one ts (refusal ts)
  one_stops some ts e = record {
    before = [];
    rest = ts;
    parts = refl;
    error = refl;
    fits = refl;
    goes = some;
    stuck = λ us text tail y a w m r. none_agrees ts us text tail y a w m e;
  }

  one_at : HasText one → (t : Token) (ts : List Token) (o : Option A) → f t.kind ≡ o → Outcome (depth n q) (depth n false) [] one one (t ∷ ts) (found_at o t ts)
  one_at some t ts None e = inl (one_stops some (t ∷ ts) e)
  one_at some t ts (Some x) e = one_takes t ts x e

  abbrev pub reader_of : Reader A
  reader_of [] = Err (refusal [])
  reader_of (t ∷ ts) = found_at (f t.kind) t ts

  pub exact_one : HasText one → IsExact (depth n q) (depth n false) [] one one reader_of
  exact_one some [] = inl (one_stops some [] tt)
  exact_one some (t ∷ ts) = one_at some t ts (f t.kind) refl

-- ---- exact readers take a token at least

pub exact_consumes : {A : Type 0} (b c : Depth) (more ks : List Kind) (P N : Production A) (f : Reader A) → Begins ks P → IsExact b c more P N f → Consumes f
exact_consumes b c more ks P N f starts h ts rest x e = shorter (subst_outcome e (h ts))
  where
    subst_outcome : {r : ReaderResult _} → f ts ≡ r → Outcome b c more P N ts (f ts) → Outcome b c more P N ts r
    subst_outcome d o = rw d at o

    not_empty : (us : List Token) → begins ks us ≡ true → 0 < length us
    not_empty [] d = absurd cc
    not_empty (u ∷ us) d = omega arith

    shorter : Takes b c more P N ts x rest → length rest < length ts
    shorter t = omega (arith, ap length t.parts, length-append t.front rest, not_empty t.front (starts t.front x t.made))

-- ---- one part or another

pub begins_or : {A : Type 0} (ks js all : List Kind) (P Q : Production A) → Begins ks P → Begins js Q → within ks all ≡ true → within js all ≡ true → Begins all (P or Q)
begins_or ks js all P Q b d u v ts x (inl p) = within_true ks all ts u (b ts x p)
begins_or ks js all P Q b d u v ts x (inr p) = within_true js all ts v (d ts x p)

module _ {A : Type 0} (b c : Depth) (less most more ks js : List Kind) (P Q N M : Production A) (first : Begins ks N) (other : Begins js M) (differ : apart js ks ≡ true) (u : within less more ≡ true) (v : within most more ≡ true) where
  pub exact_or : (f h : Reader A) → IsExact b c less P N f → IsExact b c most Q M h → IsExact b c more (P or Q) (N or M) (either_of ks f h)
  exact_or f h i j = exact_either b c more ks js (P or Q) N M first other differ f h
      (exact_wider b c less more P N (P or Q) N (λ _ _ p. inl p) (λ _ _ n. n) u f i) (exact_wider b c most more Q M (P or Q) M (λ _ _ p. inr p) (λ _ _ n. n) v h j)

-- what may be left out, and what comes after it
pub begins_optional_then : {A B : Type 0} (ks js all : List Kind) (P : Production A) (Q : Production B) → Begins ks P → Begins js Q → within ks all ≡ true → within js all ≡ true → Begins all (optional P then Q)
begins_optional_then ks js all P Q b d u v ts (None, y) s = rw (s.whole, s.first) (within_true js all s.back v (d s.back y s.second))
begins_optional_then ks js all P Q b d u v ts (Some x, y) s = rw s.whole (within_true ks all (s.front ++ s.back) u (begins-append ks s.front s.back (b s.front x s.first)))
