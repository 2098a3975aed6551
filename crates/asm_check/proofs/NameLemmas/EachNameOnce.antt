-- Free. The table of names has each name once.
use Rattle.std.proofs.Common.{◌≡◌, ℕ, suc, zero, ◌<◌, Bool, true, false, cond, ◌||◌, List, [], ◌∷◌, length, map, slice_get, Some, refl, sym, ap, subst, ◌∙◌, arith, true≢false}
use Rattle.std.specs.Prelude.{find, option_map}
use Rattle.std.proofs.lemmas.Bool.{or_right}
use Rattle.asm_syntax.specs.SourceTree.{Spec}
use Rattle.asm_check.specs.Names.{Text, Declaration, is_text, is_among, declarations, first_of_each, first_declarations, declared}
use Rattle.asm_check.specs.code.names.Tables.{Entry, declared_as_view, declaration_of, IsTableOf, text_of_entry, text_at}
use Rattle.asm_check.proofs.NameLemmas.FirstDeclarations.{first_stands}
use Rattle.asm_check.proofs.NameLemmas.FirstOfName.{same_text, text_itself}
use Rattle.asm_check.proofs.NameLemmas.Lookups.{is_of}

abbrev pub texts : List Declaration → List Text
texts ds = map (λ c. c.name.text) ds

-- no two of the texts are one
abbrev pub AreApart : List Text → Type 0
AreApart [] = Unit {0}
AreApart (x ∷ xs) = (is_among xs x ≡ false) × AreApart xs

-- what was seen isn't among the first ones
unseen : (seen : List Text) (ds : List Declaration) (x : Text) → is_among seen x ≡ true → is_among (texts (first_of_each seen ds)) x ≡ false
unseen seen [] x old = refl
unseen seen (d ∷ ds) x old = by_seen (is_among seen d.name.text) refl (unseen seen ds x old) (unseen (d.name.text ∷ seen) ds x)
  where
    by_text : (b : Bool) → is_text d.name.text x ≡ b → is_among seen d.name.text ≡ false
        → (is_among (d.name.text ∷ seen) x ≡ true → is_among (texts (first_of_each (d.name.text ∷ seen) ds)) x ≡ false)
        → (b || is_among (texts (first_of_each (d.name.text ∷ seen) ds)) x) ≡ false
    by_text true is new rest = absurd (true≢false (sym (subst (λ y. is_among seen y ≡ true) (sym (same_text d.name.text x is)) old) ∙ new))
    by_text false is new rest = rest (ap (λ b. b || is_among seen x) is ∙ old)

    by_seen : (b : Bool) → is_among seen d.name.text ≡ b → is_among (texts (first_of_each seen ds)) x ≡ false
        → (is_among (d.name.text ∷ seen) x ≡ true → is_among (texts (first_of_each (d.name.text ∷ seen) ds)) x ≡ false)
        → is_among (texts (cond b (first_of_each seen ds) (d ∷ first_of_each (d.name.text ∷ seen) ds))) x ≡ false
    by_seen true e rest more = rest
    by_seen false e rest more = by_text (is_text d.name.text x) refl e more

first_apart : (seen : List Text) (ds : List Declaration) → AreApart (texts (first_of_each seen ds))
first_apart seen [] = tt
first_apart seen (d ∷ ds) = by_seen (is_among seen d.name.text) (first_apart seen ds) (first_apart (d.name.text ∷ seen) ds)
  where
    by_seen : (b : Bool) → AreApart (texts (first_of_each seen ds)) → AreApart (texts (first_of_each (d.name.text ∷ seen) ds))
        → AreApart (texts (cond b (first_of_each seen ds) (d ∷ first_of_each (d.name.text ∷ seen) ds)))
    by_seen true rest more = rest
    by_seen false rest more = (unseen (d.name.text ∷ seen) ds d.name.text (ap (λ b. b || is_among seen d.name.text) (text_itself d.name.text)), more)

pub declarations_apart : (spec : Spec) → AreApart (texts (first_declarations spec))
unfolding first_declarations
declarations_apart spec = first_apart [] (declarations spec)

pub table_apart : (spec : Spec) (entries : List Entry) → IsTableOf spec entries → AreApart (texts (map declaration_of entries))
table_apart spec entries table = subst (λ ds. AreApart (texts ds)) (sym table) (declarations_apart spec)

among_at : (entries : List Entry) (i : ℕ) → i < length entries → is_among (texts (map declaration_of entries)) (text_at entries i) ≡ true
among_at [] i h = absurd (omega (arith, h))
among_at (e ∷ es) zero h = ap (λ b. b || is_among (texts (map declaration_of es)) e.0.now) (text_itself e.0.now)
among_at (e ∷ es) (suc i) h = or_right (is_text e.0.now (text_at es i)) _ (among_at es i (omega (arith, h)))

apart_at : (entries : List Entry) → AreApart (texts (map declaration_of entries)) → (i j : ℕ) → i < length entries → j < length entries → text_at entries i ≡ text_at entries j → i ≡ j
apart_at [] apart i j h k same = absurd (omega (arith, h))
apart_at (e ∷ es) apart zero zero h k same = refl
apart_at (e ∷ es) apart zero (suc j) h k same =
    absurd (true≢false (sym (among_at es j (omega (arith, k))) ∙ ap (is_among (texts (map declaration_of es))) (sym same) ∙ apart.0))
apart_at (e ∷ es) apart (suc i) zero h k same =
    absurd (true≢false (sym (among_at es i (omega (arith, h))) ∙ ap (is_among (texts (map declaration_of es))) same ∙ apart.0))
apart_at (e ∷ es) apart (suc i) (suc j) h k same = ap suc (apart_at es apart.1 i j (omega (arith, h)) (omega (arith, k)) same)

-- no name is at two positions
pub names_apart : (spec : Spec) (entries : List Entry) → IsTableOf spec entries
    → (i j : ℕ) → i < length entries → j < length entries → text_at entries i ≡ text_at entries j → i ≡ j
names_apart spec entries table = apart_at entries (table_apart spec entries table)

within : (entries : List Entry) (i : ℕ) (e : Entry) → slice_get entries i ≡ Some e → i < length entries
within [] i e at = cc
within (f ∷ es) zero e at = omega arith
within (f ∷ es) (suc i) e at = let rest = within es i e at in omega (arith, rest)

find_at : (entries : List Entry) → AreApart (texts (map declaration_of entries)) → (i : ℕ) (e : Entry) → slice_get entries i ≡ Some e
    → find (is_of e.0.now) (map declaration_of entries) ≡ Some (declaration_of e)
find_at [] apart i e at = cc
find_at (f ∷ es) apart zero e at =
    let same : f ≡ e = cc in
    subst (λ (g : Entry). find (is_of g.0.now) (map declaration_of (f ∷ es)) ≡ Some (declaration_of g)) same
    (ap (λ b. cond b (Some (declaration_of f)) (find (is_of f.0.now) (map declaration_of es))) (text_itself f.0.now))
find_at (f ∷ es) apart (suc i) e at = by_text (is_text f.0.now e.0.now) refl (find_at es apart.1 i e at)
  where
    there : is_among (texts (map declaration_of es)) e.0.now ≡ true
    there = subst (λ o. is_among (texts (map declaration_of es)) (text_of_entry o) ≡ true) at (among_at es i (within es i e at))

    by_text : (b : Bool) → is_text f.0.now e.0.now ≡ b → find (is_of e.0.now) (map declaration_of es) ≡ Some (declaration_of e)
        → cond b (Some (declaration_of f)) (find (is_of e.0.now) (map declaration_of es)) ≡ Some (declaration_of e)
    by_text true is rest = absurd (true≢false (sym there ∙ ap (is_among (texts (map declaration_of es))) (sym (same_text f.0.now e.0.now is)) ∙ apart.0))
    by_text false is rest = rest

-- the entry at a position is what its name is declared as
pub entry_declared : (spec : Spec) (entries : List Entry) → IsTableOf spec entries → (i : ℕ) (e : Entry) → slice_get entries i ≡ Some e → declared spec e.0.now ≡ Some (declared_as_view e.1.meaning)
entry_declared spec entries table i e at =
    sym (first_stands spec e.0.now)
    ∙ ap (λ ds. option_map (λ d. d.meaning) (find (is_of e.0.now) ds)) (sym table)
    ∙ ap (option_map (λ d. d.meaning)) (find_at entries (table_apart spec entries table) i e at)

-- the same, of the name at the position
pub position_declared : (spec : Spec) (entries : List Entry) → IsTableOf spec entries → (i : ℕ) (e : Entry) → slice_get entries i ≡ Some e
    → declared spec (text_at entries i) ≡ Some (declared_as_view e.1.meaning)
position_declared spec entries table i e at = ap (λ o. declared spec (text_of_entry o)) at ∙ entry_declared spec entries table i e at

-- a position in the table has an entry
pub entry_there : (entries : List Entry) (i : ℕ) → i < length entries → (e : Entry) × (slice_get entries i ≡ Some e)
entry_there [] i h = absurd (omega (arith, h))
entry_there (e ∷ es) zero h = (e, refl)
entry_there (e ∷ es) (suc i) h = entry_there es i (omega (arith, h))
