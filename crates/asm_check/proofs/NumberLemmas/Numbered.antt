-- Free. What the code's numbering of declarations says.
use Rattle.std.proofs.Common.{◌≡◌, ℕ, zero, suc, ◌+◌, ◌<◌, ◌≤◌, Bool, true, false, cond, not, ◌||◌, nat_eq, nat_lt, List, [], ◌∷◌, ◌++◌, map, length, take, slice_get, Option, Some, None, is_some, refl, sym, ap, subst, ◌∙◌, arith, append_assoc, append-nil, take_all, true≢false}
use Rattle.std.specs.Prelude.{find, position, option_map}
use Rattle.std.specs.Cmp.Lexicographic.{pointwise}
use Rattle.std.specs.List.{list_any, position_or_len}
use Rattle.std.specs.Map.{lookup}
use Rattle.std.specs.Option.{option_flatten}
use Rattle.std.proofs.lemmas.Bool.Decides.{nat_tests}
use Rattle.std.proofs.lemmas.List.Elements.{filter-append}
use Rattle.std.proofs.lemmas.Option.{slice_get-map}
use Rattle.std.proofs.lemmas.Bool.{or_right}
use Rattle.asm_syntax.specs.SourceTree.{Spec}
use Rattle.asm_check.specs.declared.checked.NameNumber.{NameNumber}
use Rattle.asm_check.specs.declared.checked.NameNumber.TheVariants as number
use Rattle.asm_check.specs.declared.numbers.numbering.Indices.{Indices}
use Rattle.asm_check.specs.declared.numbers.numbering.Numbering.{Numbering}
use Rattle.asm_check.specs.Limits.{is_universe, is_rule}
use Rattle.asm_check.specs.Names as names
use Rattle.asm_check.specs.Names.{Text, Declaration, Meaning, is_text, is_among, first_declarations, declared}
use Rattle.asm_check.specs.Numbers.{is_element, is_table, is_derived, number_in, named_as, named}
use Rattle.asm_check.specs.code.numbers.NumberTables.{appended_if, IsIndexed, next_number, AreIndicesOf, number_after, numbers_from, declared_like, IsNumberingOf, indices_like}
use Rattle.asm_check.specs.Shapes.{texts_of}
use Rattle.asm_check.proofs.NameLemmas.FirstDeclarations.{first_stands, grown}
use Rattle.asm_check.proofs.NameLemmas.Lookups.{text_turned}
use Rattle.asm_check.specs.code.names.Tables.{Entry, declaration_of, IsTableOf}
use Rattle.asm_check.proofs.NameLemmas.EachNameOnce.{AreApart, table_apart}
use Rattle.asm_check.proofs.NameLemmas.FirstOfName.{same_text, text_itself}
use Rattle.asm_check.proofs.NumberLemmas.IndicesWhere.{where_one, where_length}

-- ---- one more declaration

abbrev is_kind : (Meaning → Bool) → Declaration → Bool
is_kind is_like d = is_like d.meaning

module _ (ds : List Declaration) (d : Declaration) (n : ℕ) (whole : n ≡ length ds) (m : Meaning) (means : d.meaning ≡ m) where
  one_kind : (is_like : Meaning → Bool) (old new : List ℕ) → old ≡ indices_like is_like ds → new ≡ appended_if (is_like m) old n → new ≡ indices_like is_like (ds ++ d ∷ [])
  one_kind is_like old new before grown =
      grown ∙ ap (λ ns. appended_if (is_like m) ns n) before ∙ ap (λ k. appended_if (is_like k) (indices_like is_like ds) n) (sym means)
      ∙ sym (where_one (is_kind is_like) ds d n whole)

  pub indices_grow : (old new : Indices) → AreIndicesOf ds old → IsIndexed old n m new → AreIndicesOf (ds ++ d ∷ []) new
  indices_grow old new are grown = record {
    universes = one_kind is_universe old.universes.items new.universes.items are.universes grown.universes;
    elements = one_kind is_element old.elements.items new.elements.items are.elements grown.elements;
    functions = one_kind is_table old.functions.items new.functions.items are.functions grown.functions;
    derived = one_kind is_derived old.derived.items new.derived.items are.derived grown.derived;
    rules = one_kind is_rule old.rules.items new.rules.items are.rules grown.rules;
  }

module _ (ds : List Declaration) (indices : Indices) (are : AreIndicesOf ds indices) where
  how_many : (is_like : Meaning → Bool) (ns : List ℕ) → ns ≡ indices_like is_like ds → length ns ≡ length (declared_like is_like ds)
  how_many is_like ns e = ap length e ∙ where_length (is_kind is_like) ds

  pub number_is : (m : Meaning) → next_number indices m ≡ number_after ds m
  number_is names.Predeclared = refl
  number_is (names.Range first last) = ap (λ n. Some (number.Universe n)) (how_many is_universe indices.universes.items are.universes)
  number_is (names.Enumeration k) = ap (λ n. Some (number.Universe n)) (how_many is_universe indices.universes.items are.universes)
  number_is (names.Element k) = ap (λ n. Some (number.Element n)) (how_many is_element indices.elements.items are.elements)
  number_is (names.Controlled domain) = ap (λ n. Some (number.Function n)) (how_many is_table indices.functions.items are.functions)
  number_is (names.Static domain) = ap (λ n. Some (number.Function n)) (how_many is_table indices.functions.items are.functions)
  number_is (names.Derived xs t) = ap (λ n. Some (number.Derived n)) (how_many is_derived indices.derived.items are.derived)
  number_is (names.NamedRule xs P) = ap (λ n. Some (number.Rule n)) (how_many is_rule indices.rules.items are.rules)

numbers_one : (before ds : List Declaration) (d : Declaration) → numbers_from before (ds ++ d ∷ []) ≡ numbers_from before ds ++ (d.name.text, number_after (before ++ ds) d.meaning) ∷ []
numbers_one before [] d = ap (λ cs. (d.name.text, number_after cs d.meaning) ∷ []) (sym (append-nil before))
numbers_one before (c ∷ cs) d =
    ap (λ es. (c.name.text, number_after before c.meaning) ∷ es)
    (numbers_one (before ++ c ∷ []) cs d
    ∙ ap (λ bs. numbers_from (before ++ c ∷ []) cs ++ (d.name.text, number_after bs d.meaning) ∷ []) (append_assoc before (c ∷ []) cs))

numbers_length : (before ds : List Declaration) → length (numbers_from before ds) ≡ length ds
numbers_length before [] = refl
numbers_length before (d ∷ ds) = ap suc (numbers_length (before ++ d ∷ []) ds)

pub kept_length : (ds : List Declaration) (entries : List (Text × Option NameNumber)) → entries ≡ numbers_from [] ds → length entries ≡ length ds
kept_length ds entries e = ap length e ∙ numbers_length [] ds

-- ---- look-ups

none_kept : (before ds : List Declaration) (x : Text) → is_among (texts_of ds) x ≡ false → lookup (pointwise nat_eq x) (numbers_from before ds) ≡ None
none_kept before [] x new = refl
none_kept before (d ∷ ds) x new = by_text (is_text d.name.text x) refl (none_kept (before ++ d ∷ []) ds x) new
  where
    rest : Option (Option NameNumber)
    rest = lookup (pointwise nat_eq x) (numbers_from (before ++ d ∷ []) ds)

    by_text : (b : Bool) → is_text d.name.text x ≡ b → (is_among (texts_of ds) x ≡ false → lookup (pointwise nat_eq x) (numbers_from (before ++ d ∷ []) ds) ≡ None)
        → (b || is_among (texts_of ds) x) ≡ false → lookup (pointwise nat_eq x) (numbers_from before (d ∷ ds)) ≡ None
    by_text true e others new = absurd (true≢false new)
    by_text false e others new =
        ap (λ b. cond b (Some (number_after before d.meaning)) (lookup (pointwise nat_eq x) (numbers_from (before ++ d ∷ []) ds))) (text_turned x d.name.text ∙ e) ∙ others new

-- a name that isn't there yet
pub not_kept : (ds : List Declaration) (entries : List (Text × Option NameNumber)) (x : Text) → entries ≡ numbers_from [] ds → is_among (texts_of ds) x ≡ false → lookup (pointwise nat_eq x) entries ≡ None
not_kept ds entries x are new = ap (lookup (pointwise nat_eq x)) are ∙ none_kept [] ds x new

-- one more name, and its index
pub numbering_grows : (ds : List Declaration) (d : Declaration) (m : Meaning) (old new : Numbering) (indices : Indices) (key : Text) (n : ℕ) (number : Option NameNumber)
    → d.name.text ≡ key → d.meaning ≡ m → is_among (texts_of ds) key ≡ false → n ≡ length old.names
    → number ≡ next_number old.indices m → IsIndexed old.indices n m indices
    → new.names ≡ cond (is_some (lookup (pointwise nat_eq key) old.names)) old.names (old.names ++ (key, number) ∷ []) → new.indices ≡ indices
    → IsNumberingOf ds old → IsNumberingOf (ds ++ d ∷ []) new
numbering_grows ds d m old new indices key n number text means fresh count is indexed put same it = record {
  names =
      put
      ∙ ap (λ o. cond (is_some o) old.names (old.names ++ (key, number) ∷ [])) (not_kept ds old.names key it.names fresh)
      ∙ ap (λ es. es ++ (key, number) ∷ []) it.names
      ∙ ap (λ t. numbers_from [] ds ++ (t, number) ∷ []) (sym text)
      ∙ ap (λ o. numbers_from [] ds ++ (d.name.text, o) ∷ []) (is ∙ number_is ds old.indices it.indices m ∙ ap (number_after ds) (sym means))
      ∙ sym (numbers_one [] ds d);
  indices = subst (AreIndicesOf (ds ++ d ∷ [])) (sym same) (indices_grow ds d n (count ∙ kept_length ds old.names it.names) m means old.indices indices it.indices indexed);
}

-- ---- the table's entries, one after another

among_at : (ds : List Declaration) (i : ℕ) (d : Declaration) → slice_get ds i ≡ Some d → is_among (texts_of ds) d.name.text ≡ true
among_at [] i d at = cc
among_at (c ∷ cs) zero d at = let same : c ≡ d = cc in subst (λ (z : Declaration). (is_text c.name.text z.name.text || is_among (texts_of cs) z.name.text) ≡ true) same
    (ap (λ b. b || is_among (texts_of cs) c.name.text) (text_itself c.name.text))
among_at (c ∷ cs) (suc i) d at = or_right (is_text c.name.text d.name.text) (is_among (texts_of cs) d.name.text) (among_at cs i d at)

new_at : (ds : List Declaration) → AreApart (texts_of ds) → (i : ℕ) (d : Declaration) → slice_get ds i ≡ Some d → is_among (texts_of (take i ds)) d.name.text ≡ false
new_at [] apart i d at = cc
new_at (c ∷ cs) apart zero d at = refl
new_at (c ∷ cs) apart (suc i) d at = by_text (is_text c.name.text d.name.text) refl (new_at cs apart.1 i d at)
  where
    by_text : (b : Bool) → is_text c.name.text d.name.text ≡ b → is_among (texts_of (take i cs)) d.name.text ≡ false → (b || is_among (texts_of (take i cs)) d.name.text) ≡ false
    by_text true e rest = absurd (true≢false (sym (among_at cs i d at) ∙ ap (is_among (texts_of cs)) (sym (same_text c.name.text d.name.text e)) ∙ apart.0))
    by_text false e rest = rest

front_at : (ds : List Declaration) (i : ℕ) (d : Declaration) → slice_get ds i ≡ Some d → take (suc i) ds ≡ take i ds ++ d ∷ []
front_at [] i d at = cc
front_at (c ∷ cs) zero d at = let same : c ≡ d = cc in ap (λ z. z ∷ []) same
front_at (c ∷ cs) (suc i) d at = ap (λ ds. c ∷ ds) (front_at cs i d at)

-- what is after the first i declarations, under a new name
pub next_entry : (spec : Spec) (entries : List Entry) → IsTableOf spec entries → (i : ℕ) (e : Entry) → option_map declaration_of (slice_get entries i) ≡ Some (declaration_of e)
    → (take (i + 1) (map declaration_of entries) ≡ take i (map declaration_of entries) ++ declaration_of e ∷ [])
    × (is_among (texts_of (take i (map declaration_of entries))) e.0.now ≡ false)
next_entry spec entries table i e at =
    let ds = map declaration_of entries in
    let here : slice_get ds i ≡ Some (declaration_of e) = slice_get-map declaration_of entries i ∙ at in
    let next : i + 1 ≡ suc i = omega arith in
    (ap (λ n. take n ds) next ∙ front_at ds i (declaration_of e) here, new_at ds (table_apart spec entries table) i (declaration_of e) here)

pub all_entries : (spec : Spec) (entries : List Entry) → IsTableOf spec entries → (i : ℕ) → length (map declaration_of entries) ≤ i → take i (map declaration_of entries) ≡ first_declarations spec
all_entries spec entries table i whole = take_all i (map declaration_of entries) whole ∙ table

-- ---- what a name stands for

pub none_like : (is_like : Meaning → Bool) (ds : List Declaration) (x : Text) → is_among (texts_of ds) x ≡ false → list_any (λ (d : Declaration). is_text d.name.text x) (declared_like is_like ds) ≡ false
none_like is_like [] x new = refl
none_like is_like (d ∷ ds) x new = by_kind (is_like d.meaning) (is_text d.name.text x) refl (none_like is_like ds x) new
  where
    by_kind : (b t : Bool) → is_text d.name.text x ≡ t → (is_among (texts_of ds) x ≡ false → list_any (λ (d : Declaration). is_text d.name.text x) (declared_like is_like ds) ≡ false)
        → (t || is_among (texts_of ds) x) ≡ false → list_any (λ (c : Declaration). is_text c.name.text x) (cond b (d ∷ declared_like is_like ds) (declared_like is_like ds)) ≡ false
    by_kind b true e rest new = absurd (true≢false new)
    by_kind true false e rest new = ap (λ t. t || list_any (λ (c : Declaration). is_text c.name.text x) (declared_like is_like ds)) e ∙ rest new
    by_kind false false e rest new = rest new

behind : {X : Type 0} (p : X → Bool) (xs : List X) (y : X) (ys : List X) → list_any p xs ≡ false → p y ≡ true → position_or_len p (xs ++ y ∷ ys) ≡ length xs
behind p [] y ys none it = ap (λ b. cond (not b) (1 + position_or_len p ys) 0) it
behind p (x ∷ xs) y ys none it = by_test (p x) none (behind p xs y ys)
  where
    by_test : (b : Bool) → (b || list_any p xs) ≡ false → (list_any p xs ≡ false → p y ≡ true → position_or_len p (xs ++ y ∷ ys) ≡ length xs)
        → cond (not b) (1 + position_or_len p (xs ++ y ∷ ys)) 0 ≡ suc (length xs)
    by_test true none rest = absurd (true≢false none)
    by_test false none rest = let e = rest none it in omega (arith, e)

longer : {X : Type 0} (xs : List X) (y : X) (ys : List X) → length xs < length (xs ++ y ∷ ys)
longer [] y ys = omega arith
longer (x ∷ xs) y ys = let rest = longer xs y ys in omega (arith, rest)

position_behind : {X : Type 0} (p : X → Bool) (xs : List X) (y : X) (ys : List X) → list_any p xs ≡ false → p y ≡ true → Some (length xs) ≡ position p (xs ++ y ∷ ys)
position_behind p xs y ys none it =
    let e = behind p xs y ys none it in
    let low = longer xs y ys in
    let test : nat_lt (length xs) (length (xs ++ y ∷ ys)) ≡ true = grind (arith, nat_tests, low) in
    sym (ap (λ n. cond (nat_lt n (length (xs ++ y ∷ ys))) (Some n) None) e ∙ ap (λ b. cond b (Some (length xs)) None) test)

module _ (spec : Spec) (before : List Declaration) (d : Declaration) (after : List Declaration) (x : Text) (all : before ++ d ∷ after ≡ first_declarations spec)
    (new : is_among (texts_of before) x ≡ false) (named : is_text d.name.text x ≡ true) where
  own_number : (is_like : Meaning → Bool) → is_like d.meaning ≡ true → Some (length (declared_like is_like before)) ≡ number_in (declared_like is_like (first_declarations spec)) x
  own_number is_like kind =
      position_behind (λ (c : Declaration). is_text c.name.text x) (declared_like is_like before) d (declared_like is_like after) (none_like is_like before x new) named
      ∙ ap (λ cs. number_in (declared_like is_like before ++ cs) x) (sym (ap (λ b. cond b (d ∷ declared_like is_like after) (declared_like is_like after)) kind))
      ∙ ap (λ cs. number_in cs x) (sym (filter-append (is_kind is_like) before (d ∷ after)))
      ∙ ap (λ cs. number_in (declared_like is_like cs) x) all

  number_named : (m : Meaning) → d.meaning ≡ m → number_after before m ≡ named_as spec x (Some m)
  number_named names.Predeclared is = refl
  number_named (names.Range first last) is = ap (option_map number.Universe) (own_number is_universe (ap is_universe is))
  number_named (names.Enumeration k) is = ap (option_map number.Universe) (own_number is_universe (ap is_universe is))
  number_named (names.Element k) is = ap (option_map number.Element) (own_number is_element (ap is_element is))
  number_named (names.Controlled domain) is = ap (option_map number.Function) (own_number is_table (ap is_table is))
  number_named (names.Static domain) is = ap (option_map number.Function) (own_number is_table (ap is_table is))
  number_named (names.Derived xs t) is = ap (option_map number.Derived) (own_number is_derived (ap is_derived is))
  number_named (names.NamedRule xs P) is = ap (option_map number.Rule) (own_number is_rule (ap is_rule is))

abbrev meaning_in : List Declaration → Text → Option Meaning
meaning_in ds x = option_map (λ d. d.meaning) (find (λ d. is_text d.name.text x) ds)

still_new : (before : List Declaration) (d : Declaration) (x : Text) → is_among (texts_of before) x ≡ false → is_text d.name.text x ≡ false → is_among (texts_of (before ++ d ∷ [])) x ≡ false
still_new [] d x new other = ap (λ b. b || false) other
still_new (c ∷ cs) d x new other = by_text (is_text c.name.text x) refl new (still_new cs d x)
  where
    by_text : (b : Bool) → is_text c.name.text x ≡ b → (b || is_among (texts_of cs) x) ≡ false
        → (is_among (texts_of cs) x ≡ false → is_text d.name.text x ≡ false → is_among (texts_of (cs ++ d ∷ [])) x ≡ false)
        → (b || is_among (texts_of (cs ++ d ∷ [])) x) ≡ false
    by_text true e new rest = absurd (true≢false new)
    by_text false e new rest = rest new other

numbers_named : (spec : Spec) (before ds : List Declaration) (x : Text) → before ++ ds ≡ first_declarations spec → is_among (texts_of before) x ≡ false
    → option_flatten (lookup (pointwise nat_eq x) (numbers_from before ds)) ≡ named_as spec x (meaning_in ds x)
numbers_named spec before [] x all new = refl
numbers_named spec before (d ∷ ds) x all new =
    ap (λ b. option_flatten (cond b (Some (number_after before d.meaning)) (lookup (pointwise nat_eq x) (numbers_from (before ++ d ∷ []) ds)))) (text_turned x d.name.text)
    ∙ by_text (is_text d.name.text x) refl (numbers_named spec (before ++ d ∷ []) ds x (append_assoc before (d ∷ []) ds ∙ all))
  where
    by_text : (b : Bool) → is_text d.name.text x ≡ b
        → (is_among (texts_of (before ++ d ∷ [])) x ≡ false → option_flatten (lookup (pointwise nat_eq x) (numbers_from (before ++ d ∷ []) ds)) ≡ named_as spec x (meaning_in ds x))
        → option_flatten (cond b (Some (number_after before d.meaning)) (lookup (pointwise nat_eq x) (numbers_from (before ++ d ∷ []) ds)))
        ≡ named_as spec x (option_map (λ d. d.meaning) (cond b (Some d) (find (λ d. is_text d.name.text x) ds)))
    by_text true e rest = number_named spec before d ds x all new e d.meaning refl
    by_text false e rest = rest (still_new before d x new e)

-- what the numbering finds
pub found_named : (spec : Spec) (n : Numbering) (x : Text) → IsNumberingOf (first_declarations spec) n → option_flatten (lookup (pointwise nat_eq x) n.names) ≡ named spec x
unfolding named
found_named spec n x it =
    ap option_flatten (ap (lookup (pointwise nat_eq x)) it.names)
    ∙ numbers_named spec [] (first_declarations spec) x refl refl
    ∙ ap (named_as spec x) (first_stands spec x)
