-- Free. What a map of numbers has at a path, after one is put into it.
--     put      the number at its own path, and at each other one what was there
--     put_in   the same of the lines of a step
use Rattle.std.proofs.Common.{◌≡◌, ◌∙◌, ℕ, Bool, true, false, cond, nat_eq, List, [], ◌∷◌, Option, Some, Ordering, Less, Equal, Greater, refl, sym, ap, Vec, Global}
use Rattle.std.specs.BTreeMap.{insert_entry, is_at}
use Rattle.std.specs.Cmp.Lexicographic.{pointwise, slice_cmp}
use Rattle.std.specs.Ordering.{is_eq, match_ordering, nat_cmp}
use Rattle.std.specs.Map.{lookup}
use Rattle.std.proofs.lemmas.Map.Lookups.{exact_bytes}
use Rattle.std.proofs.lemmas.Map.Text.{is_eq-slice_cmp}
use Rattle.std.proofs.lemmas.Slice.Eq.{bytes_eq-Decides}
use Rattle.asm_reader.specs.ScriptLines.{exact_choice}
use Rattle.asm_random.specs.code.Drafts.{lines_in}
use Rattle.asm_random.proofs.DraftLines.{picked_in}

abbrev Entry : Type 0
Entry = Vec ℕ Global × ℕ

abbrev at : List ℕ → Vec ℕ Global → Bool
at p = is_at (λ (k : Vec ℕ Global). slice_cmp nat_cmp p k.items)

module _ (key : Vec ℕ Global) (v : ℕ) (p : List ℕ) where
  abbrev found : List Entry → Option ℕ
  found es = lookup (at p) es

  -- whether p is the path
  abbrev here : Bool
  here = at p key

  equal_keys : (e : Entry) → slice_cmp nat_cmp key.items e.0.items ≡ Equal → at p e.0 ≡ here
  equal_keys e is = ap (λ (q : List ℕ). is_eq (slice_cmp nat_cmp p q)) (sym (exact_bytes key.items e.0.items is))

  one_path : (a : List ℕ) → at p key ≡ true → is_eq (slice_cmp nat_cmp p a) ≡ true → a ≡ key.items
  one_path a is also = sym ((bytes_eq-Decides p a).0 (sym (is_eq-slice_cmp p a) ∙ also)) ∙ (bytes_eq-Decides p key.items).0 (sym (is_eq-slice_cmp p key.items) ∙ is)

  greater_apart : (e : Entry) → slice_cmp nat_cmp key.items e.0.items ≡ Greater → here ≡ true → at p e.0 ≡ true → ⊥
  greater_apart e order is also =
      let same : e.0.items ≡ key.items = one_path e.0.items is also in
      let equal = is_eq-slice_cmp key.items e.0.items ∙ (bytes_eq-Decides key.items e.0.items).1 (sym same) in
      clash (slice_cmp nat_cmp key.items e.0.items) order equal
    where
      clash : (o : Ordering) → o ≡ Greater → is_eq o ≡ true → ⊥
      clash Less a b = cc
      clash Equal a b = cc
      clash Greater a b = cc

  swapped : (a b : Bool) (x y : ℕ) (o : Option ℕ) → (b ≡ true → a ≡ true → ⊥) → cond a (Some x) (cond b (Some y) o) ≡ cond b (Some y) (cond a (Some x) o)
  swapped true true x y o apart = absurd (apart refl refl)
  swapped true false x y o apart = refl
  swapped false b x y o apart = refl

  twice : (a b : Bool) (x y : ℕ) (o : Option ℕ) → a ≡ b → cond a (Some y) o ≡ cond b (Some y) (cond a (Some x) o)
  twice true true x y o h = refl
  twice false false x y o h = refl
  twice true false x y o h = cc
  twice false true x y o h = cc

  abbrev put_into : List Entry → List Entry
  put_into es = insert_entry (λ (a b : Vec ℕ Global). slice_cmp nat_cmp a.items b.items) es key v

  by_order : (e : Entry) (es : List Entry) → found (put_into es) ≡ cond here (Some v) (found es) → (o : Ordering) → slice_cmp nat_cmp key.items e.0.items ≡ o
      → found (match_ordering o ((key, v) ∷ e ∷ es) ((e.0, v) ∷ es) (e ∷ put_into es)) ≡ cond here (Some v) (found (e ∷ es))
  by_order e es again Less order = refl
  by_order e es again Equal order = twice (at p e.0) here e.1 v (found es) (equal_keys e order)
  by_order e es again Greater order = ap (cond (at p e.0) (Some e.1)) again ∙ swapped (at p e.0) here e.1 v (found es) (greater_apart e order)

  pub put : (es : List Entry) → found (put_into es) ≡ cond here (Some v) (found es)
  put [] = refl
  put (e ∷ es) = by_order e es (put es) (slice_cmp nat_cmp key.items e.0.items) refl

pub put_in : (step : ℕ) (key : Vec ℕ Global) (v : ℕ) (p : List ℕ) (es : List (Vec ℕ Global × ℕ))
    → exact_choice (lines_in step (insert_entry (λ (a b : Vec ℕ Global). slice_cmp nat_cmp a.items b.items) es key v)) step p
    ≡ cond (pointwise nat_eq p key.items) (Some v) (exact_choice (lines_in step es) step p)
put_in step key v p es =
    picked_in step p (insert_entry (λ (a b : Vec ℕ Global). slice_cmp nat_cmp a.items b.items) es key v)
    ∙ (put key v p es
    ∙ (ap (λ b. cond b (Some v) (lookup (at p) es)) (is_eq-slice_cmp p key.items)
    ∙ ap (cond (pointwise nat_eq p key.items) (Some v)) (sym (picked_in step p es))))
