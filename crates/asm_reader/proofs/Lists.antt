-- Free. Lists of tokens and the tests on their first token.
use Rattle.std.proofs.Common.{◌≡◌, ◌⊎◌, Bool, true, false, cond, ◌||◌, List, [], ◌∷◌, ◌++◌, refl, sym, ap, ◌∙◌, inl, inr}
use Rattle.std.proofs.lemmas.Bool.{or_left, or_right}
use denote.Enum.Bare.{same_true, true_same}
use Rattle.asm_syntax.specs.contracts.token.Symbol as symbol
use Rattle.asm_syntax.specs.contracts.token.Keyword as word
use Rattle.asm_syntax.specs.declared.token.Kind.{Kind}
use Rattle.asm_syntax.specs.declared.token.Kind.TheVariants.{Name, Number, Symbol, Keyword}
use Rattle.asm_syntax.specs.declared.token.Token.{Token}
use Rattle.asm_reader.specs.Kinds.{alike, is_one_of, begins}

-- ---- kinds

-- two kinds that are alike to one are alike
alike_both : (a b k : Kind) → alike a k ≡ true → alike b k ≡ true → alike a b ≡ true
alike_both Name Name k p q = refl
alike_both Name (Number n) Name p q = absurd cc
alike_both Name (Number n) (Number k) p q = absurd cc
alike_both Name (Number n) (Symbol k) p q = absurd cc
alike_both Name (Number n) (Keyword k) p q = absurd cc
alike_both Name (Symbol b) Name p q = absurd cc
alike_both Name (Symbol b) (Number k) p q = absurd cc
alike_both Name (Symbol b) (Symbol k) p q = absurd cc
alike_both Name (Symbol b) (Keyword k) p q = absurd cc
alike_both Name (Keyword b) Name p q = absurd cc
alike_both Name (Keyword b) (Number k) p q = absurd cc
alike_both Name (Keyword b) (Symbol k) p q = absurd cc
alike_both Name (Keyword b) (Keyword k) p q = absurd cc
alike_both (Number m) Name Name p q = absurd cc
alike_both (Number m) Name (Number k) p q = absurd cc
alike_both (Number m) Name (Symbol k) p q = absurd cc
alike_both (Number m) Name (Keyword k) p q = absurd cc
alike_both (Number m) (Number n) k p q = refl
alike_both (Number m) (Symbol b) Name p q = absurd cc
alike_both (Number m) (Symbol b) (Number k) p q = absurd cc
alike_both (Number m) (Symbol b) (Symbol k) p q = absurd cc
alike_both (Number m) (Symbol b) (Keyword k) p q = absurd cc
alike_both (Number m) (Keyword b) Name p q = absurd cc
alike_both (Number m) (Keyword b) (Number k) p q = absurd cc
alike_both (Number m) (Keyword b) (Symbol k) p q = absurd cc
alike_both (Number m) (Keyword b) (Keyword k) p q = absurd cc
alike_both (Symbol a) b Name p q = absurd cc
alike_both (Symbol a) b (Number k) p q = absurd cc
alike_both (Symbol a) Name (Symbol k) p q = absurd cc
alike_both (Symbol a) (Number n) (Symbol k) p q = absurd cc
alike_both (Symbol a) (Symbol b) (Symbol k) p q = true_same symbol.the_type a b (same_true symbol.the_type tt a k p ∙ sym (same_true symbol.the_type tt b k q))
alike_both (Symbol a) (Keyword b) (Symbol k) p q = absurd cc
alike_both (Symbol a) b (Keyword k) p q = absurd cc
alike_both (Keyword a) b Name p q = absurd cc
alike_both (Keyword a) b (Number k) p q = absurd cc
alike_both (Keyword a) b (Symbol k) p q = absurd cc
alike_both (Keyword a) Name (Keyword k) p q = absurd cc
alike_both (Keyword a) (Number n) (Keyword k) p q = absurd cc
alike_both (Keyword a) (Symbol b) (Keyword k) p q = absurd cc
alike_both (Keyword a) (Keyword b) (Keyword k) p q = true_same word.the_type a b (same_true word.the_type tt a k p ∙ sym (same_true word.the_type tt b k q))

-- the kinds that are known by their test
pub alike_name : (k : Kind) → alike Name k ≡ true → k ≡ Name
alike_name Name p = refl
alike_name (Number n) p = absurd cc
alike_name (Symbol s) p = absurd cc
alike_name (Keyword w) p = absurd cc

pub alike_symbol : (s : _) (k : Kind) → alike (Symbol s) k ≡ true → k ≡ Symbol s
alike_symbol s Name p = absurd cc
alike_symbol s (Number n) p = absurd cc
alike_symbol s (Symbol b) p = ap Symbol (sym (same_true symbol.the_type tt s b p))
alike_symbol s (Keyword w) p = absurd cc

pub alike_word : (w : _) (k : Kind) → alike (Keyword w) k ≡ true → k ≡ Keyword w
alike_word w Name p = absurd cc
alike_word w (Number n) p = absurd cc
alike_word w (Symbol b) p = absurd cc
alike_word w (Keyword b) p = ap Keyword (sym (same_true word.the_type tt w b p))

pub alike_self : (k : Kind) → alike k k ≡ true
alike_self Name = refl
alike_self (Number n) = refl
alike_self (Symbol s) = true_same symbol.the_type s s refl
alike_self (Keyword w) = true_same word.the_type w w refl

-- ---- sets of kinds

-- no kind is in both, numbers counted as one
abbrev pub apart : List Kind → List Kind → Bool
apart [] js = true
apart (k ∷ ks) js = cond (is_one_of js k) false (apart ks js)

-- each kind of the first is in the second
abbrev pub within : List Kind → List Kind → Bool
within [] js = true
within (k ∷ ks) js = cond (is_one_of js k) (within ks js) false

pub or_cases : (a b : Bool) → (a || b) ≡ true → (a ≡ true) ⊎ (b ≡ true)
or_cases true b e = inl refl
or_cases false b e = inr e

-- what is alike to a member is in the set
member_alike : (ks : List Kind) (a k : Kind) → alike a k ≡ true → is_one_of ks k ≡ true → is_one_of ks a ≡ true
member_alike [] a k p q = absurd cc
member_alike (b ∷ ks) a k p q = elim (or_cases (alike b k) (is_one_of ks k) q) [
  | inl r ↦ or_left (alike b a) (is_one_of ks a) (alike_both b a k r p)
  | inr r ↦ or_right (alike b a) (is_one_of ks a) (member_alike ks a k p r)
]

cond_false : (b c : Bool) → cond b false c ≡ true → (b ≡ false) × (c ≡ true)
cond_false true c e = absurd cc
cond_false false c e = (refl, e)

cond_true : (b c : Bool) → cond b c false ≡ true → (b ≡ true) × (c ≡ true)
cond_true true c e = (refl, e)
cond_true false c e = absurd cc

pub apart_kinds : (ks js : List Kind) (k : Kind) → apart ks js ≡ true → is_one_of ks k ≡ true → is_one_of js k ≡ true → ⊥
apart_kinds [] js k e p q = absurd cc
apart_kinds (a ∷ ks) js k e p q =
    let c = cond_false (is_one_of js a) (apart ks js) e in
    elim (or_cases (alike a k) (is_one_of ks k) p) [
      | inl r ↦ let m = member_alike js a k r q in absurd (cc (m, c.0))
      | inr r ↦ apart_kinds ks js k c.1 r q
    ]

alike_swap : (a b : Kind) → alike a b ≡ true → alike b a ≡ true
alike_swap a b p = alike_both b a b (alike_self b) p

pub within_kinds : (ks js : List Kind) (k : Kind) → within ks js ≡ true → is_one_of ks k ≡ true → is_one_of js k ≡ true
within_kinds [] js k e p = absurd cc
within_kinds (a ∷ ks) js k e p =
    let c = cond_true (is_one_of js a) (within ks js) e in
    elim (or_cases (alike a k) (is_one_of ks k) p) [
      | inl r ↦ member_alike js k a (alike_swap a k r) c.0
      | inr r ↦ within_kinds ks js k c.1 r
    ]

-- ---- the same for the first token of a list

pub apart_begins : (ks js : List Kind) (ts : List Token) → apart ks js ≡ true → begins ks ts ≡ true → begins js ts ≡ false
apart_begins ks js [] e p = absurd cc
apart_begins ks js (t ∷ ts) e p = not_true (is_one_of js t.kind) (λ q. apart_kinds ks js t.kind e p q)
  where
    not_true : (b : Bool) → (b ≡ true → ⊥) → b ≡ false
    not_true true h = absurd (h refl)
    not_true false h = refl

pub within_begins : (ks js : List Kind) (ts : List Token) → within ks js ≡ true → begins js ts ≡ false → begins ks ts ≡ false
within_begins ks js [] e p = refl
within_begins ks js (t ∷ ts) e p = not_true (is_one_of ks t.kind) (λ q. let r = within_kinds ks js t.kind e q in absurd (cc (r, p)))
  where
    not_true : (b : Bool) → (b ≡ true → ⊥) → b ≡ false
    not_true true h = absurd (h refl)
    not_true false h = refl

pub begins-append : (ks : List Kind) (front back : List Token) → begins ks front ≡ true → begins ks (front ++ back) ≡ true
begins-append ks [] back e = absurd cc
begins-append ks (t ∷ ts) back e = e

-- The two lists begin with one token, or both are empty.
abbrev pub Agrees : List Token → List Token → Type 0
Agrees [] us = us ≡ []
Agrees (t ∷ ts) [] = ⊥
Agrees (t ∷ ts) (u ∷ us) = u ≡ t

pub begins-agrees : (ks : List Kind) (ts us : List Token) → Agrees ts us → begins ks us ≡ begins ks ts
begins-agrees ks [] us a = ap (begins ks) a
begins-agrees ks (t ∷ ts) [] a = absurd a
begins-agrees ks (t ∷ ts) (u ∷ us) a = ap (λ (v : Token). is_one_of ks v.kind) a

pub Agrees-append : (front rest us : List Token) → Agrees rest us → Agrees (front ++ rest) (front ++ us)
Agrees-append [] rest us a = a
Agrees-append (t ∷ front) rest us a = refl

pub Agrees-self : (ts : List Token) → Agrees ts ts
Agrees-self [] = refl
Agrees-self (t ∷ ts) = refl

within_cons : (ks js : List Kind) (a : Kind) → within ks js ≡ true → within ks (a ∷ js) ≡ true
within_cons [] js a e = refl
within_cons (k ∷ ks) js a e =
    let c = cond_true (is_one_of js k) (within ks js) e in
    rw (or_right (alike a k) (is_one_of js k) c.0) (within_cons ks js a c.1)

pub within_self : (ks : List Kind) → within ks ks ≡ true
within_self [] = refl
within_self (k ∷ ks) = rw (alike_self k) (within_cons ks ks k (within_self ks))

pub within_true : (ks js : List Kind) (ts : List Token) → within ks js ≡ true → begins ks ts ≡ true → begins js ts ≡ true
within_true ks js [] e p = absurd cc
within_true ks js (t ∷ ts) e p = within_kinds ks js t.kind e p
