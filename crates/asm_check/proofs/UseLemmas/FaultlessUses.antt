-- Free. A use of a name that has no fault, in words of what the name stands for.
--     in_term, as_rule, ..     of a name that is declared so, in this role
--     suited                     of a use
use Rattle.std.proofs.Common.{◌≡◌, ℕ, Bool, true, false, ◌||◌, List, [], ◌∷◌, length, Option, Some, None, refl, sym, ap, subst, ◌∙◌, inl, inr}
use Rattle.std.specs.Prelude.{Contains, option_map}
use Rattle.std.proofs.lemmas.Bool.{false≢true}
use Rattle.asm_state.proofs.Lists.{Contains-cons_cases, Contains-first, Contains-later, Contains-none}
use Rattle.asm_syntax.specs.SourceTree.{Name, Spec}
use Rattle.asm_check.specs.Fit.{IsUniverseName, IsElementName, IsCodomainName, IsFitName, IsFitUse, IsFitTarget, IsFitCall, element, controlled, static, derived}
use Rattle.asm_check.specs.Limits.{is_universe, is_rule}
use Rattle.asm_check.specs.Names as names
use Rattle.asm_check.specs.Names.{Text, Meaning, Role, InTerm, AsTarget, AsRule, AsAnswering, AsUniverse, AsCodomain, AsElement, AsResult, is_known, is_text, is_among, arguments_of, is_assignable, has_result_in_body, declared}
use Rattle.asm_check.specs.Numbers.{is_element, is_table, is_derived, all_of, number_in, named_as, named, declared_with_number}
use Rattle.asm_check.specs.declared.checked.NameNumber.{NameNumber}
use Rattle.asm_check.specs.declared.checked.NameNumber.TheVariants as number
use Rattle.asm_check.proofs.NameLemmas.FirstOfName.{same_text, text_itself}
use Rattle.asm_check.proofs.NumberLemmas.NamesNumbered.{index_like}
use Rattle.asm_check.proofs.UseLemmas.ResultCallsAlike.{known_alike, counted_alike}
use Rattle.asm_check.proofs.NameLemmas.DeclaredOnce.{left_false, right_false}

module _ (spec : Spec) (x : Name) where
  -- a name that is declared so has a number of this kind
  record IsNumbered (is_like : Meaning → Bool) (make : ℕ → NameNumber) (m : Meaning) : Type 0 where
    n : ℕ
    stands : named spec x.text ≡ Some (make n)
    means : declared_with_number (all_of is_like spec) n ≡ Some m

  numbered : (is_like : Meaning → Bool) (make : ℕ → NameNumber) (m : Meaning) → declared spec x.text ≡ Some m → is_like m ≡ true
      → named_as spec x.text (Some m) ≡ option_map make (number_in (all_of is_like spec) x.text) → IsNumbered is_like make m
  unfolding named
  numbered is_like make m means kind is =
      let at = index_like spec x.text m means is_like kind in
      record { n = at.0; stands = ap (named_as spec x.text) means ∙ is ∙ ap (option_map make) at.1; means = at.2 }

  module _ (n : ℕ) where
    abbrev Counts : Role → Bool → Option Meaning → Type 0
    Counts role b m = (k : ℕ) → arguments_of role b m ≡ Some k → n ≡ k

    in_term : (m : Option Meaning) → declared spec x.text ≡ m → is_known InTerm false m ≡ true → Counts InTerm false m → IsFitName spec x n
    in_term None means known counted = absurd (false≢true known)
    in_term (Some names.Predeclared) means known counted = absurd (false≢true known)
    in_term (Some (names.Range first last)) means known counted = absurd (false≢true known)
    in_term (Some (names.Enumeration k)) means known counted = absurd (false≢true known)
    in_term (Some (names.Element k)) means known counted = let at = numbered is_element number.Element (names.Element k) means refl refl in element at.n at.stands (counted 0 refl)
    in_term (Some (names.Controlled domain)) means known counted = let at = numbered is_table number.Function (names.Controlled domain) means refl refl in controlled at.n domain at.stands at.means (counted (length domain) refl)
    in_term (Some (names.Static domain)) means known counted = let at = numbered is_table number.Function (names.Static domain) means refl refl in static at.n domain at.stands at.means (counted (length domain) refl)
    in_term (Some (names.Derived xs t)) means known counted = let at = numbered is_derived number.Derived (names.Derived xs t) means refl refl in derived at.n xs t at.stands at.means (counted (length xs) refl)
    in_term (Some (names.NamedRule xs P)) means known counted = absurd (false≢true known)

    as_rule : (b : Bool) (m : Option Meaning) → declared spec x.text ≡ m → is_known AsRule b m ≡ true → Counts AsRule b m → IsFitCall spec x n
    as_rule b None means known counted = absurd (false≢true known)
    as_rule b (Some names.Predeclared) means known counted = absurd (false≢true known)
    as_rule b (Some (names.Range first last)) means known counted = absurd (false≢true known)
    as_rule b (Some (names.Enumeration k)) means known counted = absurd (false≢true known)
    as_rule b (Some (names.Element k)) means known counted = absurd (false≢true known)
    as_rule b (Some (names.Controlled domain)) means known counted = absurd (false≢true known)
    as_rule b (Some (names.Static domain)) means known counted = absurd (false≢true known)
    as_rule b (Some (names.Derived xs t)) means known counted = absurd (false≢true known)
    as_rule b (Some (names.NamedRule xs P)) means known counted = let at = numbered is_rule number.Rule (names.NamedRule xs P) means refl refl in record { rule = at.n; parameters = xs; body = P; stands = at.stands; means = at.means; counted = counted (length xs) refl }

    as_universe : (b : Bool) (m : Option Meaning) → declared spec x.text ≡ m → is_known AsUniverse b m ≡ true → IsUniverseName spec x
    as_universe b None means known = absurd (false≢true known)
    as_universe b (Some names.Predeclared) means known = absurd (false≢true known)
    as_universe b (Some (names.Range first last)) means known = let at = numbered is_universe number.Universe (names.Range first last) means refl refl in (at.n, at.stands)
    as_universe b (Some (names.Enumeration k)) means known = let at = numbered is_universe number.Universe (names.Enumeration k) means refl refl in (at.n, at.stands)
    as_universe b (Some (names.Element k)) means known = absurd (false≢true known)
    as_universe b (Some (names.Controlled domain)) means known = absurd (false≢true known)
    as_universe b (Some (names.Static domain)) means known = absurd (false≢true known)
    as_universe b (Some (names.Derived xs t)) means known = absurd (false≢true known)
    as_universe b (Some (names.NamedRule xs P)) means known = absurd (false≢true known)

    as_codomain : (b : Bool) (m : Option Meaning) → declared spec x.text ≡ m → is_known AsCodomain b m ≡ true → IsCodomainName spec x
    as_codomain b None means known = absurd (false≢true known)
    as_codomain b (Some names.Predeclared) means known = inr means
    as_codomain b (Some (names.Range first last)) means known = let at = numbered is_universe number.Universe (names.Range first last) means refl refl in inl (at.n, at.stands)
    as_codomain b (Some (names.Enumeration k)) means known = let at = numbered is_universe number.Universe (names.Enumeration k) means refl refl in inl (at.n, at.stands)
    as_codomain b (Some (names.Element k)) means known = absurd (false≢true known)
    as_codomain b (Some (names.Controlled domain)) means known = absurd (false≢true known)
    as_codomain b (Some (names.Static domain)) means known = absurd (false≢true known)
    as_codomain b (Some (names.Derived xs t)) means known = absurd (false≢true known)
    as_codomain b (Some (names.NamedRule xs P)) means known = absurd (false≢true known)

    as_element : (b : Bool) (m : Option Meaning) → declared spec x.text ≡ m → is_known AsElement b m ≡ true → IsElementName spec x
    as_element b None means known = absurd (false≢true known)
    as_element b (Some names.Predeclared) means known = absurd (false≢true known)
    as_element b (Some (names.Range first last)) means known = absurd (false≢true known)
    as_element b (Some (names.Enumeration k)) means known = absurd (false≢true known)
    as_element b (Some (names.Element k)) means known = let at = numbered is_element number.Element (names.Element k) means refl refl in (at.n, at.stands)
    as_element b (Some (names.Controlled domain)) means known = absurd (false≢true known)
    as_element b (Some (names.Static domain)) means known = absurd (false≢true known)
    as_element b (Some (names.Derived xs t)) means known = absurd (false≢true known)
    as_element b (Some (names.NamedRule xs P)) means known = absurd (false≢true known)

    as_target : (bound : List Text) → ¬ (Contains bound x.text) → (m : Option Meaning) → declared spec x.text ≡ m → is_assignable false m ≡ true → Counts AsTarget false m → IsFitTarget spec x n bound
    as_target bound free (Some (names.Controlled domain)) means known counted =
        let at = numbered is_table number.Function (names.Controlled domain) means refl refl in
        record { free = free; function = at.n; domain = domain; stands = at.stands; means = at.means; counted = counted (length domain) refl }
    as_target bound free None means known counted = absurd (false≢true known)
    as_target bound free (Some names.Predeclared) means known counted = absurd (false≢true known)
    as_target bound free (Some (names.Range first last)) means known counted = absurd (false≢true known)
    as_target bound free (Some (names.Enumeration k)) means known counted = absurd (false≢true known)
    as_target bound free (Some (names.Element k)) means known counted = absurd (false≢true known)
    as_target bound free (Some (names.Static domain)) means known counted = absurd (false≢true known)
    as_target bound free (Some (names.Derived xs t)) means known counted = absurd (false≢true known)
    as_target bound free (Some (names.NamedRule xs P)) means known counted = absurd (false≢true known)

-- ---- a use, inside binders

pub among : (xs : List Text) (x : Text) → is_among xs x ≡ true → Contains xs x
among [] x e = absurd (false≢true e)
among (y ∷ xs) x e = by_text (is_text y x) refl e (among xs x)
  where
    by_text : (b : Bool) → is_text y x ≡ b → (b || is_among xs x) ≡ true → (is_among xs x ≡ true → Contains xs x) → Contains (y ∷ xs) x
    by_text true same e rest = subst (Contains (y ∷ xs)) (same_text y x same) (Contains-first y xs)
    by_text false other e rest = Contains-later y xs x (rest e)

not_among : (xs : List Text) (x : Text) → is_among xs x ≡ false → ¬ (Contains xs x)
not_among [] x e c = absurd (Contains-none x c)
not_among (y ∷ xs) x e c =
    elim (Contains-cons_cases y xs x c) [
      | inl same ↦ absurd (false≢true (sym (left_false (is_text y x) (is_among xs x) e) ∙ subst (λ z. is_text y z ≡ true) same (text_itself y)))
      | inr rest ↦ not_among xs x (right_false (is_text y x) (is_among xs x) e) rest
    ]

module _ (spec : Spec) where
  abbrev pub IsSuited : Role → Name → ℕ → (bound : List Text) → Type 0
  IsSuited InTerm x n bound = IsFitUse spec x n bound
  IsSuited AsTarget x n bound = IsFitTarget spec x n bound
  IsSuited AsRule x n bound = IsFitCall spec x n × (has_result_in_body (declared spec x.text) ≡ false)
  IsSuited AsAnswering x n bound = IsFitCall spec x n
  IsSuited AsUniverse x n bound = IsUniverseName spec x
  IsSuited AsCodomain x n bound = IsCodomainName spec x
  IsSuited AsElement x n bound = IsElementName spec x
  IsSuited AsResult x n bound = Contains bound x.text

  -- a use without the faults 9, 10, 11 and 17
  pub record IsGood (role : Role) (x : Name) (n : ℕ) (b : Bool) : Type 0 where
    pub known : is_known role b (declared spec x.text) ≡ true
    pub counted : (k : ℕ) → arguments_of role b (declared spec x.text) ≡ Some k → n ≡ k
    pub assignable : role ≡ AsTarget → is_assignable b (declared spec x.text) ≡ true
    pub plain : role ≡ AsRule → has_result_in_body (declared spec x.text) ≡ false
    pub inside : role ≡ AsResult → b ≡ true

  module _ (x : Name) (n : ℕ) (bound : List Text) where
    term_suited : (b : Bool) → is_among bound x.text ≡ b → IsGood InTerm x n b → IsFitUse spec x n bound
    term_suited true e good = inl (among bound x.text e, good.counted 0 refl)
    term_suited false e good = inr (not_among bound x.text e, in_term spec x n (declared spec x.text) refl good.known good.counted)

    target_suited : (b : Bool) → is_among bound x.text ≡ b → IsGood AsTarget x n b → IsFitTarget spec x n bound
    target_suited true e good = absurd (false≢true (good.assignable refl))
    target_suited false e good = as_target spec x n bound (not_among bound x.text e) (declared spec x.text) refl (good.assignable refl) good.counted

    pub suited : (role : Role) (b : Bool) → is_among bound x.text ≡ b → IsGood role x n b → IsSuited role x n bound
    suited InTerm b e good = term_suited b e good
    suited AsTarget b e good = target_suited b e good
    suited AsRule b e good = (as_rule spec x n b (declared spec x.text) refl good.known good.counted, good.plain refl)
    suited AsAnswering b e good =
        let m = declared spec x.text in
        as_rule spec x n b m refl (sym (known_alike b m) ∙ good.known) (λ k has. good.counted k (counted_alike b m ∙ has))
    suited AsUniverse b e good = as_universe spec x n b (declared spec x.text) refl good.known
    suited AsCodomain b e good = as_codomain spec x n b (declared spec x.text) refl good.known
    suited AsElement b e good = as_element spec x n b (declared spec x.text) refl good.known
    suited AsResult b e good = among bound x.text (e ∙ good.inside refl)
