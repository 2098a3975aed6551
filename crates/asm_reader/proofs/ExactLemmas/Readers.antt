-- Free. Readers that are exact for a part of a grammar, and how they are put together.
use Rattle.std.proofs.Common.{◌≡◌, ◌⊎◌, ℕ, zero, suc, ◌≤◌, ◌<◌, Bool, true, false, cond, List, [], ◌∷◌, ◌++◌, length, Option, Some, None, Ok, Err, refl, sym, ap, subst, ◌∙◌, append_assoc, arith, inl, inr}
use Rattle.std.specs.Prelude.{IsSome}
use Rattle.std.proofs.lemmas.List.{append_cancel_left, length-append}
use Rattle.asm_syntax.specs.declared.token.Kind.{Kind}
use Rattle.asm_syntax.specs.declared.token.Token.{Token}
use Rattle.asm_reader.specs.declared.error.ReadError.{ReadError}
use Rattle.asm_reader.specs.declared.error.ReadError.TheVariants.{Unexpected, UnexpectedEnd, TooDeep}
use Rattle.asm_reader.specs.Kinds.{alike, begins}
use Rattle.asm_reader.specs.Levels.{Depth, opens, after_token, depth_after}
use Rattle.asm_reader.specs.Productions.{Production, token, Sequence, ◌then◌, ◌or◌, optional, repeated, ◌makes◌, nothing}
use Rattle.asm_reader.specs.code.Steps.{ReaderResult, Reader, and_then, refusal, refuse, expect, pair_of, mapped, either_of, option_of, turns, repeated_of, enter}
use Rattle.asm_reader.proofs.Lists.{Agrees, Agrees-append, apart, within, apart_begins, within_begins, begins-append, begins-agrees, alike_self, within_self}

-- A reader is exact for a part in two ways. What it reads, and the fronts that it says go on,
-- belong to the part `P`, in which enough levels may open. What it refuses belongs to no text of
-- the part `N`, in which any number of levels may open. Both are the same part of the grammar, at
-- different depths. A text of the part may be followed by a token that would carry it on, as `(`
-- after a name: so what is refused is a text that is followed by no token of `more`.

-- It took a text off the front, and each other text that begins with the tokens so far is this one.
pub record Takes {A : Type 0} (b c : Depth) (more : List Kind) (P N : Production A) (ts : List Token) (x : A) (rest : List Token) : Type 0 where
  pub front : List Token
  pub parts : ts ≡ front ++ rest
  pub made : P front x
  pub fits : depth_after b front ≡ c
  pub only : (us text tail : List Token) (y : A) → Agrees rest us → text ++ tail ≡ front ++ us → N text y → begins more tail ≡ false → (text ≡ front) × (y ≡ x)

-- It stopped before the first token with which the part doesn't go on, or at the end.
pub record Stops {A : Type 0} (b : Depth) (more : List Kind) (P N : Production A) (ts : List Token) (e : ReadError) : Type 0 where
  pub before : List Token
  pub rest : List Token
  pub parts : ts ≡ before ++ rest
  pub error : e ≡ refusal rest
  pub fits : IsSome (depth_after b before).left
  pub goes : (us : List Token) × (x : A) × P (before ++ us) x
  pub stuck : (us text tail : List Token) (y : A) → Agrees rest us → text ++ tail ≡ before ++ us → N text y → begins more tail ≡ false → ⊥

-- It stopped before a token with which the part goes on, and that opens a level too many.
pub record Sinks {A : Type 0} (b : Depth) (P : Production A) (ts : List Token) (e : ReadError) : Type 0 where
  pub before : List Token
  pub opener : Token
  pub rest : List Token
  pub parts : ts ≡ before ++ opener ∷ rest
  pub error : e ≡ TooDeep opener.start
  pub fits : IsSome (depth_after b before).left
  pub sinks : (after_token (depth_after b before) opener).left ≡ None
  pub goes : (us : List Token) × (x : A) × P (before ++ opener ∷ us) x

abbrev pub Outcome : {A : Type 0} → Depth → Depth → List Kind → Production A → Production A → List Token → ReaderResult A → Type 0
Outcome b c more P N ts (Ok r) = Takes b c more P N ts r.0 r.1
Outcome b c more P N ts (Err e) = Stops b more P N ts e ⊎ Sinks b P ts e

abbrev pub IsExact : {A : Type 0} → Depth → Depth → List Kind → Production A → Production A → Reader A → Type 0
IsExact b c more P N f = (ts : List Token) → Outcome b c more P N ts (f ts)

-- ---- what a part's texts are

-- each text of the part begins with one of these kinds
abbrev pub Begins : {A : Type 0} → List Kind → Production A → Type 0
Begins ks P = (ts : List Token) (x : _) → P ts x → begins ks ts ≡ true

-- A text of the part, and what may follow it, begins with no token that would carry on what is
-- before.
abbrev pub Ends : {A : Type 0} → List Kind → List Kind → Production A → Type 0
Ends {A} less more P = (ts tail : List Token) (x : A) → P ts x → begins more tail ≡ false → begins less (ts ++ tail) ≡ false

abbrev pub HasText : {A : Type 0} → Production A → Type 0
HasText {A} P = (ts : List Token) × (x : A) × P ts x

pub ends_by : {A : Type 0} (less more first : List Kind) (P : Production A) → Begins first P → apart first less ≡ true → Ends less more P
ends_by less more first P h e ts tail x p q = apart_begins first less (ts ++ tail) e (begins-append first ts tail (h ts x p))

-- ---- depth

pub depth-append : (d : Depth) (xs ys : List Token) → depth_after d (xs ++ ys) ≡ depth_after (depth_after d xs) ys
depth-append d [] ys = refl
depth-append d (t ∷ xs) ys = depth-append (after_token d t) xs ys

depth_join : (b c : Depth) (xs ys : List Token) → depth_after b xs ≡ c → depth_after b (xs ++ ys) ≡ depth_after c ys
depth_join b c xs ys p = depth-append b xs ys ∙ ap (λ (v : Depth). depth_after v ys) p

-- ---- one after the other

module _ {A B : Type 0} (b c d : Depth) (less more : List Kind) (P N : Production A) (Q M : Production B) (ends : Ends less more M) (some : HasText Q) where
  first_stops : (ts : List Token) (e : ReadError) → Stops b less P N ts e → Stops b more (P then Q) (N then M) ts e
  first_stops ts e s = record {
    before = s.before;
    rest = s.rest;
    parts = s.parts;
    error = s.error;
    fits = s.fits;
    goes = (s.goes.0 ++ some.0, (s.goes.1, some.1), record { front = s.before ++ s.goes.0; back = some.0; whole = sym (append_assoc s.before s.goes.0 some.0); first = s.goes.2; second = some.2 });
    stuck = λ us text tail y a e n q. s.stuck us n.front (n.back ++ tail) y.0 a (sym (append_assoc n.front n.back tail) ∙ ap (λ (w : List Token). w ++ tail) (sym n.whole) ∙ e) n.first (ends n.back tail y.1 n.second q);
  }

  first_sinks : (ts : List Token) (e : ReadError) → Sinks b P ts e → Sinks b (P then Q) ts e
  first_sinks ts e s = record {
    before = s.before;
    opener = s.opener;
    rest = s.rest;
    parts = s.parts;
    error = s.error;
    fits = s.fits;
    sinks = s.sinks;
    goes = (s.goes.0 ++ some.0, (s.goes.1, some.1), record { front = s.before ++ s.opener ∷ s.goes.0; back = some.0; whole = sym (append_assoc s.before (s.opener ∷ s.goes.0) some.0); first = s.goes.2; second = some.2 });
  }

  -- a text of both parts begins with what was taken
  splits : (ts : List Token) (x : A) (rest front us text tail : List Token) (y : A × B) (t : Takes b c less P N ts x rest) → Agrees rest (front ++ us) → text ++ tail ≡ (t.front ++ front) ++ us → (n : Sequence N M text y) → begins more tail ≡ false
      → (n.front ≡ t.front) × (y.0 ≡ x) × (n.back ++ tail ≡ front ++ us)
  splits ts x rest front us text tail y t a e n q =
      let whole : n.front ++ (n.back ++ tail) ≡ t.front ++ (front ++ us) = sym (append_assoc n.front n.back tail) ∙ ap (λ (w : List Token). w ++ tail) (sym n.whole) ∙ e ∙ append_assoc t.front front us in
      let one = t.only (front ++ us) n.front (n.back ++ tail) y.0 a whole n.first (ends n.back tail y.1 n.second q) in
      (one.0, one.1, append_cancel_left t.front (n.back ++ tail) (front ++ us) (ap (λ (w : List Token). w ++ (n.back ++ tail)) (sym one.0) ∙ whole))

  second_takes : (ts : List Token) (x : A) (rest : List Token) (y : B) (after : List Token) → Takes b c less P N ts x rest → Takes c d more Q M rest y after → Takes b d more (P then Q) (N then M) ts (x, y) after
  second_takes ts x rest y after t u = record {
    front = t.front ++ u.front;
    parts = t.parts ∙ ap (λ (w : List Token). t.front ++ w) u.parts ∙ sym (append_assoc t.front u.front after);
    made = record { front = t.front; back = u.front; whole = refl; first = t.made; second = u.made };
    fits = depth_join b c t.front u.front t.fits ∙ u.fits;
    only = λ us text tail z a e n q.
        let s = splits ts x rest u.front us text tail z t (subst (λ (w : List Token). Agrees w (u.front ++ us)) (sym u.parts) (Agrees-append u.front after us a)) e n q in
        let one = u.only us n.back tail z.1 a s.2 n.second q in
        (n.whole ∙ ap (λ (w : List Token). w ++ n.back) s.0 ∙ ap (λ (w : List Token). t.front ++ w) one.0, pair_is z.0 x z.1 y s.1 one.1);
  }
    where
      pair_is : (a a' : A) (b b' : B) → a ≡ a' → b ≡ b' → ◌≡◌ {A = A × B} (a, b) (a', b')
      pair_is a a' b b' p q = cc

  second_stops : (ts : List Token) (x : A) (rest : List Token) (e : ReadError) → Takes b c less P N ts x rest → Stops c more Q M rest e → Stops b more (P then Q) (N then M) ts e
  second_stops ts x rest e t s = record {
    before = t.front ++ s.before;
    rest = s.rest;
    parts = t.parts ∙ ap (λ (w : List Token). t.front ++ w) s.parts ∙ sym (append_assoc t.front s.before s.rest);
    error = s.error;
    fits = subst (λ (v : Depth). IsSome v.left) (sym (depth_join b c t.front s.before t.fits)) s.fits;
    goes = (s.goes.0, (x, s.goes.1), record { front = t.front; back = s.before ++ s.goes.0; whole = append_assoc t.front s.before s.goes.0; first = t.made; second = s.goes.2 });
    stuck = λ us text tail z a e n q.
        let p = splits ts x rest s.before us text tail z t (subst (λ (w : List Token). Agrees w (s.before ++ us)) (sym s.parts) (Agrees-append s.before s.rest us a)) e n q in
        s.stuck us n.back tail z.1 a p.2 n.second q;
  }

  second_sinks : (ts : List Token) (x : A) (rest : List Token) (e : ReadError) → Takes b c less P N ts x rest → Sinks c Q rest e → Sinks b (P then Q) ts e
  second_sinks ts x rest e t s = record {
    before = t.front ++ s.before;
    opener = s.opener;
    rest = s.rest;
    parts = t.parts ∙ ap (λ (w : List Token). t.front ++ w) s.parts ∙ sym (append_assoc t.front s.before (s.opener ∷ s.rest));
    error = s.error;
    fits = subst (λ (v : Depth). IsSome v.left) (sym (depth_join b c t.front s.before t.fits)) s.fits;
    sinks = subst (λ (v : Depth). (after_token v s.opener).left ≡ None) (sym (depth_join b c t.front s.before t.fits)) s.sinks;
    goes = (s.goes.0, (x, s.goes.1), record { front = t.front; back = s.before ++ s.opener ∷ s.goes.0; whole = append_assoc t.front s.before (s.opener ∷ s.goes.0); first = t.made; second = s.goes.2 });
  }

  then_second : (ts : List Token) (x : A) (rest : List Token) (r : ReaderResult B) → Takes b c less P N ts x rest → Outcome c d more Q M rest r → Outcome b d more (P then Q) (N then M) ts (and_then r (λ y after. Ok ((x, y), after)))
  then_second ts x rest (Ok r) t u = second_takes ts x rest r.0 r.1 t u
  then_second ts x rest (Err e) t (inl s) = inl (second_stops ts x rest e t s)
  then_second ts x rest (Err e) t (inr s) = inr (second_sinks ts x rest e t s)

  pub then_at : (ts : List Token) (r : ReaderResult A) (g : Reader B) → Outcome b c less P N ts r → ((x : A) (rest : List Token) → Takes b c less P N ts x rest → Outcome c d more Q M rest (g rest))
      → Outcome b d more (P then Q) (N then M) ts (and_then r (λ x rest. and_then (g rest) (λ y after. Ok ((x, y), after))))
  then_at ts (Ok r) g t h = then_second ts r.0 r.1 (g r.1) t (h r.0 r.1 t)
  then_at ts (Err e) g (inl s) h = inl (first_stops ts e s)
  then_at ts (Err e) g (inr s) h = inr (first_sinks ts e s)

  pub exact_pair : (f : Reader A) (g : Reader B) → IsExact b c less P N f → IsExact c d more Q M g → IsExact b d more (P then Q) (N then M) (pair_of f g)
  exact_pair f g h k ts = then_at ts (f ts) g (h ts) (λ x rest t. k rest)

-- ---- one token

-- the kinds that have one token for each test
abbrev pub IsSingle : Kind → Type 0
IsSingle k = (j : Kind) → alike k j ≡ true → j ≡ k

pub has_token : (k : Kind) → HasText (token k)
has_token k = let t : Token = record { kind = k; start = 0; end = 0 } in (t ∷ [], t, (refl, refl))

pub begins_token : (k : Kind) → Begins (k ∷ []) (token k)
begins_token k ts t h = rw (h.0, h.1) (rw (alike_self k) refl)

pub head_is : (x y : Token) (xs ys : List Token) → x ∷ xs ≡ y ∷ ys → (x ≡ y) × (xs ≡ ys)
head_is x y xs ys e = (cc, cc)

module _ (b : Depth) (more : List Kind) (k : Kind) (some : IsSome b.left) where
  token_stops : (ts : List Token) → begins (k ∷ []) ts ≡ false → Stops b more (token k) (token k) ts (refusal ts)
  token_stops ts e = record {
    before = [];
    rest = ts;
    parts = refl;
    error = refl;
    fits = some;
    goes = has_token k;
    stuck = λ us text tail y a w n q.
        let one : begins (k ∷ []) (text ++ tail) ≡ true = begins-append (k ∷ []) text tail (begins_token k text y n) in
        let other : begins (k ∷ []) us ≡ false = begins-agrees (k ∷ []) ts us a ∙ e in
        absurd (cc (one, other, w));
  }

module _ (b c : Depth) (more : List Kind) (k : Kind) (single : IsSingle k) (some : IsSome b.left) (fits : (t : Token) → t.kind ≡ k → after_token b t ≡ c) where
  token_takes : (t : Token) (ts : List Token) → alike k t.kind ≡ true → Takes b c more (token k) (token k) (t ∷ ts) t ts
  token_takes t ts e = record {
    front = t ∷ [];
    parts = refl;
    made = (refl, single t.kind e);
    fits = fits t (single t.kind e);
    only = λ us text tail y a w n q.
        let h = head_is y t tail us (ap (λ (v : List Token). v ++ tail) (sym n.0) ∙ w) in
        (n.0 ∙ ap (λ (v : Token). v ∷ []) h.0, h.0);
  }

  token_at : (t : Token) (ts : List Token) (f : Bool) → alike k t.kind ≡ f → Outcome b c more (token k) (token k) (t ∷ ts) (cond f (Ok (t, ts)) (Err (Unexpected t.start)))
  token_at t ts true e = token_takes t ts e
  token_at t ts false e = inl (token_stops b more k some (t ∷ ts) (rw e refl))

  pub exact_token : IsExact b c more (token k) (token k) (expect k)
  exact_token [] = inl (token_stops b more k some [] refl)
  exact_token (t ∷ ts) = token_at t ts (alike k t.kind) refl

-- ---- what is made of a part

module _ {A B : Type 0} (b c : Depth) (more : List Kind) (P N : Production A) (h : A → B) where
  pub mapped_at : (ts : List Token) (r : ReaderResult A) → Outcome b c more P N ts r → Outcome b c more (P makes h) (N makes h) ts (and_then r (λ x rest. Ok (h x, rest)))
  mapped_at ts (Ok r) t = record {
    front = t.front;
    parts = t.parts;
    made = (r.0, t.made, refl);
    fits = t.fits;
    only = λ us text tail y a w n q. let one = t.only us text tail n.0 a w n.1 q in (one.0, n.2 ∙ ap h one.1);
  }
  mapped_at ts (Err e) (inl s) = inl (record {
    before = s.before;
    rest = s.rest;
    parts = s.parts;
    error = s.error;
    fits = s.fits;
    goes = (s.goes.0, h s.goes.1, (s.goes.1, s.goes.2, refl));
    stuck = λ us text tail y a w n q. s.stuck us text tail n.0 a w n.1 q;
  })
  mapped_at ts (Err e) (inr s) = inr (record {
    before = s.before;
    opener = s.opener;
    rest = s.rest;
    parts = s.parts;
    error = s.error;
    fits = s.fits;
    sinks = s.sinks;
    goes = (s.goes.0, h s.goes.1, (s.goes.1, s.goes.2, refl));
  })

  pub exact_makes : (f : Reader A) → IsExact b c more P N f → IsExact b c more (P makes h) (N makes h) (mapped h f)
  exact_makes f k ts = mapped_at ts (f ts) (k ts)

-- ---- larger and smaller parts

module _ {A : Type 0} (b c : Depth) (less more : List Kind) (P N Q M : Production A) (wide : (ts : List Token) (x : A) → P ts x → Q ts x) (within_it : within less more ≡ true) where
  -- the front of the tokens shows which of the texts of M can be there
  abbrev pub Narrow : List Token → Type 0
  Narrow ts = (us text tail : List Token) (y : A) → Agrees ts us → text ++ tail ≡ us → M text y → begins more tail ≡ false → N text y

  agrees_parts : (ts front rest us : List Token) → ts ≡ front ++ rest → Agrees rest us → Agrees ts (front ++ us)
  agrees_parts ts front rest us e a = subst (λ (v : List Token). Agrees v (front ++ us)) (sym e) (Agrees-append front rest us a)

  pub widened_at : (ts : List Token) (r : ReaderResult A) → Narrow ts → Outcome b c less P N ts r → Outcome b c more Q M ts r
  widened_at ts (Ok r) narrow t = record {
    front = t.front;
    parts = t.parts;
    made = wide t.front r.0 t.made;
    fits = t.fits;
    only = λ us text tail y a w n q. t.only us text tail y a w (narrow (t.front ++ us) text tail y (agrees_parts ts t.front r.1 us t.parts a) w n q) (within_begins less more tail within_it q);
  }
  widened_at ts (Err e) narrow (inl s) = inl (record {
    before = s.before;
    rest = s.rest;
    parts = s.parts;
    error = s.error;
    fits = s.fits;
    goes = (s.goes.0, s.goes.1, wide (s.before ++ s.goes.0) s.goes.1 s.goes.2);
    stuck = λ us text tail y a w n q. s.stuck us text tail y a w (narrow (s.before ++ us) text tail y (agrees_parts ts s.before s.rest us s.parts a) w n q) (within_begins less more tail within_it q);
  })
  widened_at ts (Err e) narrow (inr s) = inr (record {
    before = s.before;
    opener = s.opener;
    rest = s.rest;
    parts = s.parts;
    error = s.error;
    fits = s.fits;
    sinks = s.sinks;
    goes = (s.goes.0, s.goes.1, wide (s.before ++ s.opener ∷ s.goes.0) s.goes.1 s.goes.2);
  })

-- ---- nothing goes on

pub exact_refuse : {A : Type 0} (b c : Depth) (more : List Kind) (P : Production A) → IsSome b.left → HasText P → IsExact b c more P nothing refuse
exact_refuse b c more P left some ts = inl (record {
  before = [];
  rest = ts;
  parts = refl;
  error = refl;
  fits = left;
  goes = some;
  stuck = λ us text tail y a w n q. n;
})

-- ---- one part or another, by the next token

-- what begins with a kind of ks, and what doesn't
begins_as : (ks : List Kind) (ts us text tail : List Token) → Agrees ts us → text ++ tail ≡ us → begins ks text ≡ true → begins ks ts ≡ true
begins_as ks ts us text tail a w e = sym (begins-agrees ks ts us a) ∙ ap (begins ks) (sym w) ∙ begins-append ks text tail e

module _ {A : Type 0} (b c : Depth) (more ks js : List Kind) (P N M : Production A) (first : Begins ks N) (other : Begins js M) (differ : apart js ks ≡ true) where
  pub left_narrow : (ts : List Token) → begins ks ts ≡ true → Narrow b c more more P N P (N or M) (λ _ _ p. p) (within_self more) ts
  left_narrow ts e us text tail y a w (inl n) q = n
  left_narrow ts e us text tail y a w (inr m) q =
      let f : begins ks ts ≡ false = apart_begins js ks ts differ (begins_as js ts us text tail a w (other text y m)) in absurd (cc (e, f))

  pub right_narrow : (ts : List Token) → begins ks ts ≡ false → Narrow b c more more P M P (N or M) (λ _ _ p. p) (within_self more) ts
  right_narrow ts e us text tail y a w (inl n) q = let f : begins ks ts ≡ true = begins_as ks ts us text tail a w (first text y n) in absurd (cc (e, f))
  right_narrow ts e us text tail y a w (inr m) q = m

  either_at : (f g : Reader A) → IsExact b c more P N f → IsExact b c more P M g → (ts : List Token) (v : Bool) → begins ks ts ≡ v → Outcome b c more P (N or M) ts (cond v (f ts) (g ts))
  either_at f g h k ts true e = widened_at b c more more P N P (N or M) (λ _ _ p. p) (within_self more) ts (f ts) (left_narrow ts e) (h ts)
  either_at f g h k ts false e = widened_at b c more more P M P (N or M) (λ _ _ p. p) (within_self more) ts (g ts) (right_narrow ts e) (k ts)

  pub exact_either : (f g : Reader A) → IsExact b c more P N f → IsExact b c more P M g → IsExact b c more P (N or M) (either_of ks f g)
  exact_either f g h k ts = either_at f g h k ts (begins ks ts) refl

-- ---- a part that may be left out: nothing is taken if the next token doesn't begin it

module _ {A : Type 0} (b : Depth) (less more ks : List Kind) (P N Q M : Production A) (none : A) (first : Begins ks N) (wide : (ts : List Token) (x : A) → P ts x → Q ts x) (empty : Q [] none)
    (cases : (ts : List Token) (x : A) → M ts x → N ts x ⊎ ((ts ≡ []) × (x ≡ none))) (within_it : within less more ≡ true) (stops : within ks more ≡ true) where
  some_narrow : (ts : List Token) → begins ks ts ≡ true → Narrow b b less more P N Q M wide within_it ts
  some_narrow ts e us text tail y a w m q = elim (cases text y m) [
    | inl n ↦ n
    | inr n ↦
        let one : begins ks us ≡ true = begins-agrees ks ts us a ∙ e in
        let other : begins ks tail ≡ false = within_begins ks more tail stops q in
        let same : us ≡ tail = sym w ∙ ap (λ (v : List Token). v ++ tail) n.0 in
        absurd (cc (one, other, same))
  ]

  none_takes : (ts : List Token) → begins ks ts ≡ false → Takes b b more Q M ts none ts
  none_takes ts e = record {
    front = [];
    parts = refl;
    made = empty;
    fits = refl;
    only = λ us text tail y a w m q. elim (cases text y m) [
      | inl n ↦ let f : begins ks ts ≡ true = begins_as ks ts us text tail a w (first text y n) in absurd (cc (e, f))
      | inr n ↦ n
    ];
  }

  -- r is what is read if the next token begins the part
  pub left_out_at : (ts : List Token) (r : ReaderResult A) (v : Bool) → begins ks ts ≡ v → (begins ks ts ≡ true → Outcome b b less P N ts r) → Outcome b b more Q M ts (cond v r (Ok (none, ts)))
  left_out_at ts r true e o = widened_at b b less more P N Q M wide within_it ts r (some_narrow ts e) (o e)
  left_out_at ts r false e o = none_takes ts e

module _ {A : Type 0} (b : Depth) (less more ks : List Kind) (P N : Production A) (first : Begins ks N) (within_it : within less more ≡ true) (stops : within ks more ≡ true) where
  option_cases : (ts : List Token) (x : Option A) → optional N ts x → (N makes Some) ts x ⊎ ((ts ≡ []) × (x ≡ None))
  option_cases ts None n = inr (n, refl)
  option_cases ts (Some x) n = inl (x, n, refl)

  option_wide : (ts : List Token) (x : Option A) → (P makes Some) ts x → optional P ts x
  option_wide ts x m = rw m.2 m.1

  pub exact_optional : (f : Reader A) → IsExact b b less P N f → IsExact b b more (optional P) (optional N) (option_of ks f)
  exact_optional f h ts = left_out_at b less more ks (P makes Some) (N makes Some) (optional P) (optional N) None (λ us x n. first us n.0 n.1) option_wide refl option_cases within_it stops
      ts (mapped Some f ts) (begins ks ts) refl (λ _. exact_makes b b less P N Some f h ts)

-- ---- any number of times

module _ {A : Type 0} (b : Depth) (less more ks : List Kind) (P N : Production A) (starts : Begins ks P) (first : Begins ks N) (within_it : within less more ≡ true) (stops : within ks more ≡ true) (differ : apart ks less ≡ true) where
  abbrev cons : A × List A → List A
  cons r = r.0 ∷ r.1

  repeated_cases : (ts : List Token) (xs : List A) → repeated N ts xs → ((N then repeated N) makes cons) ts xs ⊎ ((ts ≡ []) × (xs ≡ []))
  repeated_cases ts [] n = inr (n, refl)
  repeated_cases ts (x ∷ xs) n = inl ((x, xs), record { front = n.0; back = n.1; whole = n.2; first = n.3; second = n.4 }, refl)

  repeated_wide : (ts : List Token) (xs : List A) → ((P then repeated P) makes cons) ts xs → repeated P ts xs
  repeated_wide ts xs m = rw m.2 (m.1.front, m.1.back, m.1.whole, m.1.first, m.1.second)

  pub repeated_ends : Ends less more (repeated N)
  repeated_ends ts tail [] n q = rw n (within_begins less more tail within_it q)
  repeated_ends ts tail (x ∷ xs) n q = apart_begins ks less (ts ++ tail) differ (begins-append ks ts tail (rw n.2 (begins-append ks n.0 n.1 (first n.0 x n.3))))

  not_empty : (ts : List Token) → begins ks ts ≡ true → 0 < length ts
  not_empty [] e = absurd cc
  not_empty (t ∷ ts) e = omega arith

  no_turn : (ts : List Token) → length ts ≤ 0 → begins ks ts ≡ false
  no_turn [] h = refl
  no_turn (t ∷ ts) h = absurd (omega arith)

  repeated_first : Begins ks ((N then repeated N) makes cons)
  repeated_first ts xs m = rw m.1.whole (begins-append ks m.1.front m.1.back (first m.1.front m.0.0 m.1.first))

  shorter : (ts : List Token) (x : A) (rest : List Token) (n : ℕ) → length ts ≤ suc n → Takes b b less P N ts x rest → length rest ≤ n
  shorter ts x rest n fits t = omega (arith, ap length t.parts, length-append t.front rest, not_empty t.front (starts t.front x t.made))

  pub turns_at : (f : Reader A) → IsExact b b less P N f → (n : ℕ) (ts : List Token) → length ts ≤ n → Outcome b b more (repeated P) (repeated N) ts (turns ks f n ts)
  unfolding turns
  turns_at f h zero ts fits = left_out_at b more more ks ((P then repeated P) makes cons) ((N then repeated N) makes cons) (repeated P) (repeated N) [] repeated_first repeated_wide refl repeated_cases (within_self more) stops
      ts (Ok ([], ts)) false (no_turn ts fits) (λ e. let f : begins ks ts ≡ false = no_turn ts fits in absurd (cc (e, f)))
  turns_at f h (suc n) ts fits = left_out_at b more more ks ((P then repeated P) makes cons) ((N then repeated N) makes cons) (repeated P) (repeated N) [] repeated_first repeated_wide refl repeated_cases (within_self more) stops
      ts (mapped cons (pair_of f (turns ks f n)) ts) (begins ks ts) refl
      (λ _. mapped_at b b more (P then repeated P) (N then repeated N) cons ts (pair_of f (turns ks f n) ts)
      (then_at b b b less more P N (repeated P) (repeated N) repeated_ends ([], [], refl) ts (f ts) (turns ks f n) (h ts) (λ x rest t. turns_at f h n rest (shorter ts x rest n fits t))))

  pub exact_repeated : (f : Reader A) → IsExact b b less P N f → IsExact b b more (repeated P) (repeated N) (repeated_of ks f)
  exact_repeated f h ts = turns_at f h (length ts) ts (omega arith)

-- ---- the same part, more widely stated

pub exact_wider : {A : Type 0} (b c : Depth) (less more : List Kind) (P N Q M : Production A) → ((ts : List Token) (x : A) → P ts x → Q ts x) → ((ts : List Token) (x : A) → M ts x → N ts x) → within less more ≡ true
    → (f : Reader A) → IsExact b c less P N f → IsExact b c more Q M f
exact_wider b c less more P N Q M wide narrow w f h ts = widened_at b c less more P N Q M wide w ts (f ts) (λ us text tail y a e m q. narrow text y m) (h ts)

pub exact_with : {A : Type 0} (b c : Depth) (less more : List Kind) (P N : Production A) → within less more ≡ true → (f : Reader A) → IsExact b c less P N f → IsExact b c more P N f
exact_with b c less more P N w f h = exact_wider b c less more P N P N (λ _ _ p. p) (λ _ _ n. n) w f h

pub ends_none : {A : Type 0} (more : List Kind) (P : Production A) → Ends [] more P
ends_none more P ts tail x p q = no_kind (ts ++ tail)
  where
    no_kind : (us : List Token) → begins [] us ≡ false
    no_kind [] = refl
    no_kind (u ∷ us) = refl

-- ---- a token that opens a level, and what comes after it

module _ {B : Type 0} (n : ℕ) (p : Bool) (d : Depth) (more : List Kind) (k : Kind) (single : IsSingle k) (opened : (t : Token) → t.kind ≡ k → opens p t.kind ≡ true) (inner : ℕ → Depth)
    (entered : (m : ℕ) (t : Token) → t.kind ≡ k → n ≡ suc m → after_token (record { left = Some n; in_front = p }) t ≡ inner m) (Q M : Production B) (some : HasText Q) where
  abbrev outer : Depth
  outer = record { left = Some n; in_front = p }

  sinks_at : (t : Token) (ts : List Token) (zeroed : n ≡ 0) → t.kind ≡ k → Sinks outer (token k then Q) (t ∷ ts) (TooDeep t.start)
  sinks_at t ts zeroed e = record {
    before = [];
    opener = t;
    rest = ts;
    parts = refl;
    error = refl;
    fits = refl;
    sinks = rw (opened t e, zeroed) refl;
    goes = (some.0, (t, some.1), record { front = t ∷ []; back = some.0; whole = refl; first = (refl, e); second = some.2 });
  }

  entered_zero : (g : Reader B) (t : Token) (ts : List Token) (f : Bool) → alike k t.kind ≡ f → n ≡ 0 → Outcome outer d more (token k then Q) (token k then M) (t ∷ ts)
      (and_then (cond f (Err (TooDeep t.start)) (Err (Unexpected t.start))) (λ x rest. and_then (g rest) (λ y after. Ok ((x, y), after))))
  entered_zero g t ts true e z = inr (sinks_at t ts z (single t.kind e))
  entered_zero g t ts false e z = inl (first_stops outer outer d [] more (token k) (token k) Q M (ends_none more M) some (t ∷ ts) (Unexpected t.start) (token_stops outer [] k refl (t ∷ ts) (rw e refl)))

  entered_at : (g : Reader B) → ((m : ℕ) → n ≡ suc m → IsExact (inner m) d more Q M g) → (t : Token) (ts : List Token) (v : ℕ) → n ≡ v
      → Outcome outer d more (token k then Q) (token k then M) (t ∷ ts) (pair_of (enter v k) g (t ∷ ts))
  entered_at g h t ts zero e = entered_zero g t ts (alike k t.kind) refl e
  entered_at g h t ts (suc m) e = then_at outer (inner m) d [] more (token k) (token k) Q M (ends_none more M) some (t ∷ ts) (expect k (t ∷ ts)) g
      (exact_token outer (inner m) [] k single refl (λ u is. entered m u is e) (t ∷ ts)) (λ x rest _. h m e rest)

  pub exact_entered : (g : Reader B) → ((m : ℕ) → n ≡ suc m → IsExact (inner m) d more Q M g) → IsExact outer d more (token k then Q) (token k then M) (pair_of (enter n k) g)
  exact_entered g h [] = inl (first_stops outer outer d [] more (token k) (token k) Q M (ends_none more M) some [] UnexpectedEnd (token_stops outer [] k refl [] refl))
  exact_entered g h (t ∷ ts) = entered_at g h t ts n refl
