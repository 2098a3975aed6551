-- Free. The number of a name leads to what the name is declared as.
use Rattle.std.proofs.Common.{◌≡◌, ℕ, nat_lt, Bool, true, cond, List, length, slice_get, Option, Some, None, refl, sym, ap, ◌∙◌, ◌⊎◌, inl, inr, arith}
use Rattle.std.specs.Prelude.{find, position, option_map}
use Rattle.std.specs.List.{position_or_len}
use Rattle.std.proofs.lemmas.Bool.Decides.{nat_tests}
use Rattle.std.proofs.lemmas.List.Folds.{find_at}
use Rattle.std.proofs.lemmas.Option.{slice_get_within}
use Rattle.asm_syntax.specs.SourceTree.{Spec}
use Rattle.asm_check.specs.declared.checked.NameNumber.{NameNumber}
use Rattle.asm_check.specs.declared.checked.NameNumber.TheVariants as number
use Rattle.asm_check.specs.Laws.{meaning_numbered, NamesHaveNumbers}
use Rattle.asm_check.specs.Limits.{is_universe, is_rule}
use Rattle.asm_check.specs.Names as names
use Rattle.asm_check.specs.Names.{Text, Declaration, Meaning, is_text, first_declarations, declared}
use Rattle.asm_check.specs.Numbers.{is_element, is_table, is_derived, all_of, number_in, named_as, named, declared_with_number}
use Rattle.asm_check.proofs.NameLemmas.FirstDeclarations.{first_stands}
use Rattle.asm_check.proofs.NumberLemmas.UniversePositions.{find_kept}

-- ---- the first that passes

-- it is at the position of the first that passes
at_position : {X : Type 0} (p : X → Bool) (xs : List X) (x : X) → find p xs ≡ Some x → (n : ℕ) × (position p xs ≡ Some n) × (slice_get xs n ≡ Some x)
at_position p xs x found =
    let n = position_or_len p xs in
    let there : slice_get xs n ≡ Some x = sym (find_at p xs) ∙ found in
    let low = slice_get_within xs n x there in
    let test : nat_lt n (length xs) ≡ true = grind (arith, nat_tests, low) in
    (n, ap (λ b. cond b (Some n) None) test, there)

-- ---- the number of a name

-- the first declaration of a name
declared_by : (o : Option Declaration) (m : Meaning) → option_map (λ d. d.meaning) o ≡ Some m → (d : Declaration) × (o ≡ Some d) × (d.meaning ≡ m)
declared_by None m is = cc
declared_by (Some d) m is = let same : d.meaning ≡ m = cc in (d, refl, same)

-- a number of what the name is declared as
record LeadsTo (spec : Spec) (x : Text) (m : Meaning) : Type 0 where
  n : NameNumber
  is : named_as spec x (Some m) ≡ Some n
  leads : meaning_numbered spec n ≡ Some m

module _ (spec : Spec) (x : Text) where
  module _ (m : Meaning) (means : declared spec x ≡ Some m) where
    pub index_like : (is_like : Meaning → Bool) → is_like m ≡ true → (n : ℕ) × (number_in (all_of is_like spec) x ≡ Some n) × (declared_with_number (all_of is_like spec) n ≡ Some m)
    index_like is_like kind =
        let d = declared_by (find (λ d. is_text d.name.text x) (first_declarations spec)) m (first_stands spec x ∙ means) in
        let at = at_position (λ (d : Declaration). is_text d.name.text x) (all_of is_like spec) d.0
        (find_kept (λ (d : Declaration). is_text d.name.text x) (λ (d : Declaration). is_like d.meaning) (first_declarations spec) d.0 d.1 (ap is_like d.2 ∙ kind)) in
        (at.0, at.1, ap (option_map (λ (d : Declaration). d.meaning)) at.2 ∙ ap (λ m. Some m) d.2)

    leads_by : (is_like : Meaning → Bool) (make : ℕ → NameNumber) → is_like m ≡ true → named_as spec x (Some m) ≡ option_map make (number_in (all_of is_like spec) x)
        → ((n : ℕ) → meaning_numbered spec (make n) ≡ declared_with_number (all_of is_like spec) n) → LeadsTo spec x m
    leads_by is_like make kind is leads =
        let at = index_like is_like kind in
        record { n = make at.0; is = is ∙ ap (option_map make) at.1; leads = leads at.0 ∙ at.2 }

  -- each declared name except those of codomains has a number, which leads to its meaning
  numbered : (m : Meaning) → declared spec x ≡ Some m → (m ≡ names.Predeclared) ⊎ LeadsTo spec x m
  numbered names.Predeclared means = inl refl
  numbered (names.Range first last) means = inr (leads_by (names.Range first last) means is_universe number.Universe refl refl (λ n. refl))
  numbered (names.Enumeration k) means = inr (leads_by (names.Enumeration k) means is_universe number.Universe refl refl (λ n. refl))
  numbered (names.Element k) means = inr (leads_by (names.Element k) means is_element number.Element refl refl (λ n. refl))
  numbered (names.Controlled domain) means = inr (leads_by (names.Controlled domain) means is_table number.Function refl refl (λ n. refl))
  numbered (names.Static domain) means = inr (leads_by (names.Static domain) means is_table number.Function refl refl (λ n. refl))
  numbered (names.Derived xs t) means = inr (leads_by (names.Derived xs t) means is_derived number.Derived refl refl (λ n. refl))
  numbered (names.NamedRule xs P) means = inr (leads_by (names.NamedRule xs P) means is_rule number.Rule refl refl (λ n. refl))

  of_number : (o : Option Meaning) → declared spec x ≡ o → (n : NameNumber) → named_as spec x o ≡ Some n → meaning_numbered spec n ≡ o
  of_number None means n is = cc
  of_number (Some m) means n is =
      elim (numbered m means) [
        | inl none ↦ let bad : None ≡ Some n = sym (ap (λ k. named_as spec x (Some k)) none) ∙ is in cc
        | inr it ↦ let both : Some it.n ≡ Some n = sym it.is ∙ is in let same : it.n ≡ n = cc in ap (meaning_numbered spec) (sym same) ∙ it.leads
      ]

  of_meaning : (m : Meaning) → declared spec x ≡ Some m → (m ≡ names.Predeclared → ⊥) → (n : NameNumber) × (named_as spec x (declared spec x) ≡ Some n)
  of_meaning m means given =
      elim (numbered m means) [
        | inl none ↦ absurd (given none)
        | inr it ↦ (it.n, ap (named_as spec x) means ∙ it.is)
      ]

pub names_have_numbers : NamesHaveNumbers
unfolding named
names_have_numbers spec x = record {
  of_number = of_number spec x (declared spec x) refl;
  of_meaning = of_meaning spec x;
}
