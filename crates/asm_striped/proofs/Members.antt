-- Free. The members of a list, of the values at a location, and of the lists of all views.
use Rattle.std.proofs.Common.{◌≡◌, ◌≢◌, ◌⊎◌, ℕ, zero, suc, ◌<◌, List, [], ◌∷◌, ◌++◌, length, get_or, set, cond, refl, sym, ap, ◌∙◌, subst, inl, inr, ⊎_elim, arith, eq-eqb, ne_eqb}
use Rattle.std.specs.Prelude.{All, Contains, flat_map}
use mathlib.Core.Option.{some, some-injective, some-ne-none}
use mathlib.Core.Logic.{dite}
use native.Mathlib.Decide.{ℕ_discrete}
use lib.ListN.{get_elem?}
use Rattle.asm_striped.specs.declared.board.Put.{Put}
use Rattle.atomic_table.proofs.Lists.{at_set, at_snoc, at_longer, set_else}
use Rattle.asm_striped.specs.code.Log.{values_at}

module _ {A : Type 0} where
  -- x is one of the list
  abbrev pub In : A → List A → Type 0
  In x [] = ⊥
  In x (y ∷ ys) = (x ≡ y) ⊎ In x ys

  pub in_left : (x : A) (xs ys : List A) → In x xs → In x (xs ++ ys)
  in_left x [] ys h = absurd h
  in_left x (y ∷ xs) ys h = ⊎_elim (λ e. inl e) (λ r. inr (in_left x xs ys r)) h

  pub in_right : (x : A) (xs ys : List A) → In x ys → In x (xs ++ ys)
  in_right x [] ys h = h
  in_right x (y ∷ xs) ys h = inr (in_right x xs ys h)

  pub in_cases : (x : A) (xs ys : List A) → In x (xs ++ ys) → In x xs ⊎ In x ys
  in_cases x [] ys h = inr h
  in_cases x (y ∷ xs) ys h = ⊎_elim (λ e. inl (inl e)) (λ r. ⊎_elim (λ a. inl (inr a)) (λ b. inr b) (in_cases x xs ys r)) h

  pub in_snoc : (x y : A) (xs : List A) → In x (xs ++ y ∷ []) → In x xs ⊎ (x ≡ y)
  in_snoc x y xs h = ⊎_elim (λ a. inl a) (λ b. inr (⊎_elim (λ e. e) (λ none. absurd none) b)) (in_cases x xs (y ∷ []) h)

  get_in : (xs : List A) (k : ℕ) (d : A) → k < length xs → In (get_or xs k d) xs
  get_in [] k d h = absurd (omega arith)
  get_in (x ∷ xs) zero d h = inl refl
  get_in (x ∷ xs) (suc k) d h = inr (get_in xs k d (omega arith))

  pub all_of : (P : A → Type 0) (xs : List A) → ((x : A) → In x xs → P x) → All P xs
  all_of P xs each k d h = each (get_or xs k d) (get_in xs k d h)

  pub all_at : (P : A → Type 0) (xs : List A) (x : A) → All P xs → In x xs → P x
  all_at P [] x all h = absurd h
  all_at P (y ∷ ys) x all h = ⊎_elim (λ e. subst P (sym e) (all 0 y (omega arith))) (λ r. all_at P ys x (λ k d l. all (suc k) d (omega arith)) r) h

  pub contained : (xs : List A) (x : A) → In x xs → Contains xs x
  contained [] x h = absurd h
  contained (y ∷ ys) x h = ⊎_elim (λ e. (0, omega arith, sym e)) (λ r. let c = contained ys x r in (suc c.0, omega (arith, c.1), c.2)) h

  pub member : (xs : List A) (x : A) → Contains xs x → In x xs
  member xs x c = subst (λ y. In y xs) c.2 (get_in xs c.0 x c.1)

-- the values at a location
module _ (value : Put → ℕ) (n : ℕ) where
  pub hit : (e : Put) (es : List Put) → e.location ≡ n → values_at value n (e ∷ es) ≡ value e ∷ values_at value n es
  hit e es h = ap (λ b. cond b (value e ∷ values_at value n es) (values_at value n es)) (eq-eqb e.location n h)

  pub miss : (e : Put) (es : List Put) → e.location ≢ n → values_at value n (e ∷ es) ≡ values_at value n es
  miss e es h = ap (λ b. cond b (value e ∷ values_at value n es) (values_at value n es)) (ne_eqb e.location n h)

  pub value_in : (e : Put) (es : List Put) → In e es → e.location ≡ n → In (value e) (values_at value n es)
  value_in e [] h at = absurd h
  value_in e (f ∷ es) h at =
      ⊎_elim
      (λ same. subst (In (value e)) (sym (hit f es (ap (λ (x : Put). x.location) (sym same) ∙ at))) (inl (ap value same)))
      (λ r. dite (ℕ_discrete f.location n)
      (λ here. subst (In (value e)) (sym (hit f es here)) (inr (value_in e es r at)))
      (λ other. subst (In (value e)) (sym (miss f es other)) (value_in e es r at)))
      h

  pub entry_of : (x : ℕ) (es : List Put) → In x (values_at value n es) → (e : Put) × In e es × (e.location ≡ n) × (x ≡ value e)
  entry_of x [] h = absurd h
  entry_of x (f ∷ es) h =
      dite (ℕ_discrete f.location n)
      (λ here. ⊎_elim (λ e. (f, inl refl, here, e)) (λ r. let i = entry_of x es r in (i.0, inr i.1, i.2, i.3)) (subst (In x) (hit f es here) h))
      (λ other. let i = entry_of x es (subst (In x) (miss f es other) h) in (i.0, inr i.1, i.2, i.3))

-- the lists of all views
module _ {V A : Type 0} (f : V → List A) where
  pub in_flat : (y : A) (vs : List V) (k : ℕ) (v : V) → get_elem? vs k ≡ some v → In y (f v) → In y (flat_map f vs)
  in_flat y [] k v at h = absurd (some-ne-none v (sym at))
  in_flat y (w ∷ vs) zero v at h = in_left y (f w) (flat_map f vs) (subst (λ (u : V). In y (f u)) (sym (some-injective w v at)) h)
  in_flat y (w ∷ vs) (suc k) v at h = in_right y (f w) (flat_map f vs) (in_flat y vs k v at h)

  pub view_of : (y : A) (vs : List V) → In y (flat_map f vs) → (k : ℕ) × (v : V) × (get_elem? vs k ≡ some v) × In y (f v)
  view_of y [] h = absurd h
  view_of y (w ∷ vs) h = ⊎_elim (λ a. (0, w, refl, a)) (λ b. let r = view_of y vs b in (suc r.0, r.1, r.2, r.3)) (in_cases y (f w) (flat_map f vs) h)

-- two lists with the same members; a list with the members of another and one more
module _ {A : Type 0} where
  pub record Same (xs ys : List A) : Type 0 where
    pub there : (x : A) → In x xs → In x ys
    pub back : (x : A) → In x ys → In x xs

  pub record Grows (xs ys : List A) (a : A) : Type 0 where
    pub kept : (x : A) → In x xs → In x ys
    pub added : In a ys
    pub only : (x : A) → In x ys → In x xs ⊎ (x ≡ a)

  pub same_as : (xs : List A) → Same xs xs
  same_as xs = record { there = λ x i. i; back = λ x i. i }

  pub same_after : (xs ys zs : List A) → Same xs ys → Same ys zs → Same xs zs
  same_after xs ys zs s t = record { there = λ x i. t.there x (s.there x i); back = λ x i. s.back x (t.back x i) }

  pub grows_snoc : (xs : List A) (a : A) → Grows xs (xs ++ a ∷ []) a
  grows_snoc xs a = record { kept = λ x i. in_left x xs (a ∷ []) i; added = in_right a xs (a ∷ []) (inl refl); only = λ x i. in_snoc x a xs i }

module _ (value : Put → ℕ) (n : ℕ) (es fs : List Put) where
  pub values_kept : ((e : Put) → In e es → In e fs) → (x : ℕ) → In x (values_at value n es) → In x (values_at value n fs)
  values_kept kept x i = let e = entry_of value n x es i in subst (λ y. In y (values_at value n fs)) (sym e.3) (value_in value n e.0 fs (kept e.0 e.1) e.2)

  values_only : (e : Put) → Grows es fs e → (x : ℕ) → In x (values_at value n fs) → In x (values_at value n es) ⊎ ((e.location ≡ n) × (x ≡ value e))
  values_only e g x i =
      let f = entry_of value n x fs i in
      ⊎_elim
      (λ old. inl (subst (λ y. In y (values_at value n es)) (sym f.3) (value_in value n f.0 es old f.2)))
      (λ new. inr (ap (λ (y : Put). y.location) (sym new) ∙ f.2, f.3 ∙ ap value new))
      (g.only f.0 f.1)

  pub values_grow : (e : Put) → Grows es fs e → e.location ≡ n → Grows (values_at value n es) (values_at value n fs) (value e)
  values_grow e g at = record {
    kept = values_kept g.kept;
    added = value_in value n e fs g.added at;
    only = λ x i. ⊎_elim (λ old. inl old) (λ new. inr new.1) (values_only e g x i);
  }

  pub values_other : (e : Put) → Grows es fs e → e.location ≢ n → Same (values_at value n es) (values_at value n fs)
  values_other e g other = record {
    there = values_kept g.kept;
    back = λ x i. ⊎_elim (λ old. old) (λ new. absurd (other new.0)) (values_only e g x i);
  }

pub values_same : (value : Put → ℕ) (n : ℕ) (es fs : List Put) → Same es fs → Same (values_at value n es) (values_at value n fs)
values_same value n es fs s = record { there = values_kept value n es fs s.there; back = values_kept value n fs es s.back }

pub set_hits : {A : Type 0} (l : List A) (i : ℕ) (a b : A) → get_elem? l i ≡ some a → get_elem? (set l i b) i ≡ some b
set_hits [] i a b e = absurd (some-ne-none a (sym e))
set_hits (x ∷ xs) zero a b e = refl
set_hits (x ∷ xs) (suc i) a b e = set_hits xs i a b e

-- what holds of each view after one is changed
pub each_set : {A : Type 0} (P Q : A → Type 0) (l : List A) (i : ℕ) (w : A) → ((a : A) → P a → Q a) → Q w → ((k : ℕ) (a : A) → get_elem? l k ≡ some a → P a) → (k : ℕ) (a : A) → get_elem? (set l i w) k ≡ some a → Q a
each_set P Q l i w more mine old k a e = ⊎_elim (λ t. subst Q t.1 mine) (λ t. more a (old k a t.1)) (at_set l i k w a e)

pub each_snoc : {A : Type 0} (P : A → Type 0) (l : List A) (w : A) → P w → ((k : ℕ) (a : A) → get_elem? l k ≡ some a → P a) → (k : ℕ) (a : A) → get_elem? (l ++ w ∷ []) k ≡ some a → P a
each_snoc P l w mine old k a e = ⊎_elim (λ t. old k a t) (λ t. subst P t mine) (at_snoc l w a k e)

module _ {V A : Type 0} (f : V → List A) (vs : List V) (id : ℕ) (v w : V) (at : get_elem? vs id ≡ some v) where
  flat_kept : ((y : A) → In y (f v) → In y (f w)) → (y : A) → In y (flat_map f vs) → In y (flat_map f (set vs id w))
  flat_kept kept y i =
      let u = view_of f y vs i in
      dite (ℕ_discrete u.0 id)
      (λ here. in_flat f y (set vs id w) id w (set_hits vs id v w at) (kept y (subst (λ (x : V). In y (f x)) (some-injective u.1 v (sym u.2 ∙ ap (get_elem? vs) here ∙ at)) u.3)))
      (λ other. in_flat f y (set vs id w) u.0 u.1 (set_else vs id u.0 w other ∙ u.2) u.3)

  flat_back : (y : A) → In y (flat_map f (set vs id w)) → In y (flat_map f vs) ⊎ In y (f w)
  flat_back y i =
      let u = view_of f y (set vs id w) i in
      ⊎_elim (λ t. inr (subst (λ (x : V). In y (f x)) (sym t.1) u.3)) (λ t. inl (in_flat f y vs u.0 u.1 t.1 u.3)) (at_set vs id u.0 w u.1 u.2)

  pub flat_grows : (a : A) → Grows (f v) (f w) a → Grows (flat_map f vs) (flat_map f (set vs id w)) a
  flat_grows a g = record {
    kept = flat_kept g.kept;
    added = in_flat f a (set vs id w) id w (set_hits vs id v w at) g.added;
    only = λ y i. ⊎_elim (λ old. inl old) (λ mine. ⊎_elim (λ o. inl (in_flat f y vs id v at o)) (λ e. inr e) (g.only y mine)) (flat_back y i);
  }

  pub flat_same : Same (f v) (f w) → Same (flat_map f vs) (flat_map f (set vs id w))
  flat_same s = record {
    there = flat_kept s.there;
    back = λ y i. ⊎_elim (λ old. old) (λ mine. in_flat f y vs id v at (s.back y mine)) (flat_back y i);
  }

module _ {V A : Type 0} (f : V → List A) where
  pub flat_snoc : (vs : List V) (w : V) → f w ≡ [] → Same (flat_map f vs) (flat_map f (vs ++ w ∷ []))
  flat_snoc vs w none = record {
    there = λ y i. let u = view_of f y vs i in in_flat f y (vs ++ w ∷ []) u.0 u.1 (at_longer vs (w ∷ []) u.0 u.1 u.2) u.3;
    back = λ y i.
        let u = view_of f y (vs ++ w ∷ []) i in
        ⊎_elim (λ old. in_flat f y vs u.0 u.1 old u.3) (λ new. absurd (subst (In y) none (subst (λ (x : V). In y (f x)) (sym new) u.3))) (at_snoc vs w u.1 u.0 u.2);
  }

  -- one view takes in another, which is left with nothing
  pub flat_joins : (vs : List V) (id other : ℕ) (v u both spent : V) → get_elem? vs id ≡ some v → other ≢ id → get_elem? vs other ≡ some u
      → Same (f v ++ f u) (f both) → f spent ≡ [] → Same (flat_map f vs) (flat_map f (set (set vs id both) other spent))
  flat_joins vs id other v u both spent at apart there s none = record { there = to; back = from }
    where
      after : List V
      after = set (set vs id both) other spent

      mine : get_elem? after id ≡ some both
      mine = set_else (set vs id both) other id spent (λ e. apart (sym e)) ∙ set_hits vs id v both at

      to : (y : A) → In y (flat_map f vs) → In y (flat_map f after)
      to y i =
          let x = view_of f y vs i in
          dite (ℕ_discrete x.0 id)
          (λ here. in_flat f y after id both mine (s.there y (in_left y (f v) (f u) (subst (λ (z : V). In y (f z)) (some-injective x.1 v (sym x.2 ∙ ap (get_elem? vs) here ∙ at)) x.3))))
          (λ not_id. dite (ℕ_discrete x.0 other)
          (λ here. in_flat f y after id both mine (s.there y (in_right y (f v) (f u) (subst (λ (z : V). In y (f z)) (some-injective x.1 u (sym x.2 ∙ ap (get_elem? vs) here ∙ there)) x.3))))
          (λ not_other. in_flat f y after x.0 x.1 (set_else (set vs id both) other x.0 spent not_other ∙ set_else vs id x.0 both not_id ∙ x.2) x.3))

      from : (y : A) → In y (flat_map f after) → In y (flat_map f vs)
      from y i =
          let x = view_of f y after i in
          ⊎_elim
          (λ t. absurd (subst (In y) none (subst (λ (z : V). In y (f z)) (sym t.1) x.3)))
          (λ t. ⊎_elim
          (λ q. ⊎_elim (λ a. in_flat f y vs id v at a) (λ b. in_flat f y vs other u there b) (in_cases y (f v) (f u) (s.back y (subst (λ (z : V). In y (f z)) (sym q.1) x.3))))
          (λ q. in_flat f y vs x.0 x.1 q.1 x.3)
          (at_set vs id x.0 both x.1 t.1))
          (at_set (set vs id both) other x.0 spent x.1 x.2)
