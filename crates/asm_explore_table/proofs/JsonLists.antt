-- Free. Lists of JSON, text by text.
--     listed_none      nothing is left of an empty list
--     listed_on        a text is written, behind a comma unless it is the first
--     listed_step      the same of the texts that something gives of elements
--     listed_end       no element is left
--     ok_added         what something is if a text was added to it
--     mapped_twice     what one thing gives of what another one gives
--     closed           a list is whole behind its end
--     joined_lists     what is left of one list and of another
use Rattle.std.proofs.Common.{◌≡◌, ◌∙◌, ◌+◌, ◌<◌, ◌≤◌, ◌++◌, ◌∷◌, [], ℕ, Bool, true, false, List, length, get_or, drop, map, nat_eq, ap, refl, sym, append-nil, append_assoc, arith}
use Rattle.std.specs.Prelude.{codes, if◌then◌else◌, is_ok, Result, Ok, Err, OnOk}
use Rattle.std.proofs.lemmas.Bool.{ne_eqb}
use Rattle.std.proofs.lemmas.List.{drop_all, drop_more}
use Rattle.std.proofs.lemmas.List.Concat.{flat_map-append}
use Rattle.asm_explore_table.specs.code.JsonParts.{listed_from, separator}

later : (k : ℕ) → nat_eq (k + 1) 0 ≡ false
later k = ne_eqb (k + 1) 0 (λ same. absurd (omega (arith, same)))

pub closed : (old begin items end last new : List ℕ) → last ≡ (old ++ begin) ++ items → new ≡ last ++ end → new ≡ old ++ (begin ++ (items ++ end))
closed old begin items end last new is added = added ∙ ap (λ t. t ++ end) is ∙ append_assoc (old ++ begin) items end ∙ append_assoc old begin (items ++ end)

pub ok_added : {T E : Type 0} (r : Result T E) (new more old : List ℕ) → new ≡ (if is_ok r then more else old) → OnOk r (new ≡ more)
ok_added (Ok x) new more old is = is
ok_added (Err e) new more old is = tt

pub mapped_twice : {A B C : Type 0} (f : B → C) (g : A → B) (xs : List A) → map f (map g xs) ≡ map (λ x. f (g x)) xs
mapped_twice f g [] = refl
mapped_twice f g (x ∷ xs) = ap (λ ys. f (g x) ∷ ys) (mapped_twice f g xs)

module _ {X : Type 0} (text : X → List ℕ) where
  next : (b : Bool) (x : X) (xs : List X) → listed_from text b (x ∷ xs) ≡ separator b ++ (text x ++ listed_from text false xs)
  next true x xs = refl
  next false x xs = append_assoc (codes ",") (text x) (listed_from text false xs)

  pub listed_none : (b : Bool) → listed_from text b [] ≡ []
  listed_none true = refl
  listed_none false = refl

  pub joined_lists : (xs ys : List X) → listed_from text false (xs ++ ys) ≡ listed_from text false xs ++ listed_from text false ys
  joined_lists xs ys = flat_map-append (λ x. codes "," ++ text x) xs ys

  pub listed_on : (b : Bool) (x : X) (xs : List X) (old mid new : List ℕ) → mid ≡ old ++ separator b → new ≡ mid ++ text x
      → new ++ listed_from text false xs ≡ old ++ listed_from text b (x ∷ xs)
  listed_on b x xs old mid new comma added =
      ap (λ t. t ++ listed_from text false xs) (added ∙ ap (λ t. t ++ text x) comma ∙ append_assoc old (separator b) (text x))
      ∙ append_assoc old (separator b ++ text x) (listed_from text false xs)
      ∙ ap (λ t. old ++ t) (append_assoc (separator b) (text x) (listed_from text false xs) ∙ sym (next b x xs))

  module _ {A : Type 0} (view : A → X) (ys : List A) where
    pub listed_step : (k : ℕ) (y : A) → k < length ys → y ≡ get_or ys k y → (old mid new whole : List ℕ) → mid ≡ old ++ separator (nat_eq k 0) → new ≡ mid ++ text (view y)
        → old ++ listed_from text (nat_eq k 0) (map view (drop k ys)) ≡ whole → new ++ listed_from text (nat_eq (k + 1) 0) (map view (drop (k + 1) ys)) ≡ whole
    listed_step k y low is old mid new whole comma added before =
        ap (λ b. new ++ listed_from text b (map view (drop (k + 1) ys))) (later k)
        ∙ listed_on (nat_eq k 0) (view y) (map view (drop (k + 1) ys)) old mid new comma added
        ∙ ap (λ zs. old ++ listed_from text (nat_eq k 0) (map view zs)) (sym (drop_more ys k y low ∙ ap (λ z. z ∷ drop (k + 1) ys) (sym is))) ∙ before

    pub listed_end : (k : ℕ) → length ys ≤ k → (old whole : List ℕ) → old ++ listed_from text (nat_eq k 0) (map view (drop k ys)) ≡ whole → old ≡ whole
    listed_end k past old whole before =
        sym (append-nil old) ∙ ap (λ t. old ++ t) (sym (ap (λ zs. listed_from text (nat_eq k 0) (map view zs)) (drop_all k ys past) ∙ listed_none (nat_eq k 0))) ∙ before
