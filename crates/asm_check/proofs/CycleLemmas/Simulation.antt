-- Free. Ways of one graph, as ways of another that it is a picture of.
use Rattle.std.proofs.Common.{◌≡◌, ℕ, zero, suc, List, map, refl, sym, ap, subst, inl, inr}
use Rattle.std.specs.Prelude.{Contains}
use Rattle.asm_state.proofs.Lists.{Contains-from_map, Contains-map}
use Rattle.asm_check.specs.CallGraph.{LeadsTo, at_once, by_way_of, ReachesCycle, BeginsPath}

module _ {A B : Type 0} (next : A → List A) (onward : B → List B) (h : A → B) (IsInside : A → Type 0)
    (same : (a : A) → IsInside a → map h (next a) ≡ onward (h a))
    (closed : (a b : A) → IsInside a → Contains (next a) b → IsInside b) where
  step : (a b : A) → IsInside a → Contains (next a) b → Contains (onward (h a)) (h b)
  step a b inside c = subst (λ ys. Contains ys (h b)) (same a inside) (Contains-map h (next a) b c)

  back_step : (a : A) (y : B) → IsInside a → Contains (onward (h a)) y → (b : A) × Contains (next a) b × (h b ≡ y)
  back_step a y inside c = Contains-from_map h (next a) y (subst (λ ys. Contains ys y) (sym (same a inside)) c)

  pub leads : {a b : A} → IsInside a → LeadsTo next a b → LeadsTo onward (h a) (h b)
  leads {a = a} {b = b} inside (at_once c) = at_once (step a b inside c)
  leads {a = a} inside (by_way_of b c rest) = by_way_of (h b) (step a b inside c) (leads (closed a b inside c) rest)

  pub stays : {a b : A} → IsInside a → LeadsTo next a b → IsInside b
  stays {a = a} {b = b} inside (at_once c) = closed a b inside c
  stays {a = a} inside (by_way_of b c rest) = stays (closed a b inside c) rest

  abbrev Lifted : A → B → Type 0
  Lifted a y = (b : A) × LeadsTo next a b × (h b ≡ y)

  lifted_from : {x y : B} → LeadsTo onward x y → (a : A) → IsInside a → h a ≡ x → Lifted a y
  lifted_from {x = x} {y = y} (at_once c) a inside e =
      let it = back_step a y inside (subst (λ z. Contains (onward z) y) (sym e) c) in
      (it.0, at_once it.1, it.2)
  lifted_from {x = x} {y = y} (by_way_of z c rest) a inside e =
      let it = back_step a z inside (subst (λ w. Contains (onward w) z) (sym e) c) in
      let more = lifted_from rest it.0 (closed a it.0 inside it.1) it.2 in
      (more.0, by_way_of it.0 it.1 more.1, more.2)

  pub lifted : (a : A) (y : B) → IsInside a → LeadsTo onward (h a) y → Lifted a y
  lifted a y inside way = lifted_from way a inside refl

  pub on_way : (n : ℕ) (a : A) → IsInside a → BeginsPath next n a → BeginsPath onward n (h a)
  on_way zero a inside w = tt
  on_way (suc n) a inside (b, c, w) = (h b, step a b inside c, on_way n b (closed a b inside c) w)

  pub lifted_way : (n : ℕ) (a : A) → IsInside a → BeginsPath onward n (h a) → BeginsPath next n a
  lifted_way zero a inside w = tt
  lifted_way (suc n) a inside (y, c, w) =
      let it = back_step a y inside c in
      (it.0, it.1, lifted_way n it.0 (closed a it.0 inside it.1) (subst (BeginsPath onward n) (sym it.2) w))

  module _ (apart : (a b : A) → IsInside a → IsInside b → h a ≡ h b → a ≡ b) where
    pub leads_back : (a : A) → IsInside a → LeadsTo onward (h a) (h a) → LeadsTo next a a
    leads_back a inside way =
        let it = lifted a (h a) inside way in
        subst (LeadsTo next a) (apart it.0 a (stays inside it.1) inside it.2) it.1

    pub reaches : (a : A) → IsInside a → ReachesCycle onward (h a) → ReachesCycle next a
    reaches a inside (y, inl e, back) = (a, inl refl, leads_back a inside (subst (λ z. LeadsTo onward z z) (sym e) back))
    reaches a inside (y, inr way, back) =
        let it = lifted a y inside way in
        (it.0, inr it.1, leads_back it.0 (stays inside it.1) (subst (λ z. LeadsTo onward z z) (sym it.2) back))

  pub reaches_on : (a : A) → IsInside a → ReachesCycle next a → ReachesCycle onward (h a)
  reaches_on a inside (b, inl e, back) = (h b, inl (ap h e), leads (subst IsInside e inside) back)
  reaches_on a inside (b, inr way, back) = (h b, inr (leads inside way), leads (stays inside way) back)
