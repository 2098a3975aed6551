-- Free. How the table and the least fault grow, declaration by declaration.
use Rattle.std.proofs.Common.{◌≡◌, ℕ, suc, ◌+◌, ◌<◌, length, take, get_or, arith, Bool, true, false, cond, not, ◌||◌, List, [], ◌∷◌, ◌++◌, map, Option, Some, is_some, refl, sym, ap, subst, ◌∙◌, append_assoc, append-nil}
use Rattle.std.specs.Borrow.{Bor}
use Rattle.std.specs.Map.{lookup}
use Rattle.std.proofs.lemmas.Grind.{common_steps}
use Rattle.std.proofs.lemmas.List.{map-append, take_more}
use Rattle.std.proofs.Math.Bool.{not-not}
use Rattle.asm_syntax.specs.SourceTree.{Name, Item, Spec}
use Rattle.asm_check.specs.declared.names.declared_as.Declaration.{Declaration as CodeDeclaration}
use Rattle.asm_check.specs.Names.{Text, Declaration, is_text, is_among, text_of, first_of_each, declares, declarations_of, declarations_from, Element, predeclared, declarations, first_declarations}
use Rattle.asm_check.specs.code.FaultLists.{repeats, at_with, twice_faults}
use Rattle.asm_check.specs.code.LeastFaults.{least_after}
use Rattle.asm_check.specs.code.names.Tables.{Entry, declaration_of, IsTableOf}
use Rattle.asm_check.specs.code.names.Gathering.{IsGathered, Gathers, repeated, predeclares, parameter_faults}
use Rattle.asm_check.proofs.NameLemmas.EachNameOnce.{texts}
use Rattle.asm_check.proofs.NameLemmas.FirstOfName.{same_text}
use Rattle.asm_check.proofs.NameLemmas.FirstDeclarations.{grown}
use Rattle.asm_check.specs.code.names.TextKeys.{is_key}
use Rattle.asm_check.proofs.NameLemmas.Lookups.{text_turned}
use Rattle.asm_check.proofs.LeastSoFar.{noted_after}
use Rattle.asm_check.proofs.NameLemmas.RepeatedNames.{repeated_one}

-- ---- what the table has

held : (entries : List Entry) (x : Text) → is_some (lookup (is_key x) entries) ≡ is_among (texts (map declaration_of entries)) x
held [] x = refl
held (e ∷ es) x = ap (λ b. is_some (cond b (Some e.1) (lookup (is_key x) es))) (text_turned x e.0.now) ∙ by_text (is_text e.0.now x) (held es x)
  where
    by_text : (b : Bool) → is_some (lookup (is_key x) es) ≡ is_among (texts (map declaration_of es)) x
        → is_some (cond b (Some e.1) (lookup (is_key x) es)) ≡ (b || is_among (texts (map declaration_of es)) x)
    by_text true rest = refl
    by_text false rest = rest

-- the first ones have the names of all
first_texts : (seen : List Text) (ds : List Declaration) (x : Text) → is_among seen x ≡ false → is_among (texts (first_of_each seen ds)) x ≡ is_among (texts ds) x
first_texts seen [] x new = refl
first_texts seen (d ∷ ds) x new = by_text (is_text d.name.text x) refl (first_texts seen ds x new) (first_texts (d.name.text ∷ seen) ds x)
  where
    by_seen : (b : Bool) → is_among (texts (first_of_each seen ds)) x ≡ is_among (texts ds) x → is_among (texts (first_of_each (d.name.text ∷ seen) ds)) x ≡ is_among (texts ds) x
        → is_text d.name.text x ≡ false
        → is_among (texts (cond b (first_of_each seen ds) (d ∷ first_of_each (d.name.text ∷ seen) ds))) x ≡ is_among (texts ds) x
    by_seen true same more other = same
    by_seen false same more other = ap (λ b. b || is_among (texts (first_of_each (d.name.text ∷ seen) ds)) x) other ∙ more

    by_text : (b : Bool) → is_text d.name.text x ≡ b → is_among (texts (first_of_each seen ds)) x ≡ is_among (texts ds) x
        → (is_among (d.name.text ∷ seen) x ≡ false → is_among (texts (first_of_each (d.name.text ∷ seen) ds)) x ≡ is_among (texts ds) x)
        → is_among (texts (first_of_each seen (d ∷ ds))) x ≡ (b || is_among (texts ds) x)
    by_text true is same more =
        let fresh : is_among seen d.name.text ≡ false = ap (is_among seen) (same_text d.name.text x is) ∙ new in
        ap (λ b. is_among (texts (cond b (first_of_each seen ds) (d ∷ first_of_each (d.name.text ∷ seen) ds))) x) fresh
        ∙ ap (λ b. b || is_among (texts (first_of_each (d.name.text ∷ seen) ds)) x) is
    by_text false is same more =
        by_seen (is_among seen d.name.text) same (more (ap (λ b. b || is_among seen x) is ∙ new)) is

known_by : (ds : List Declaration) (entries : List Entry) (x : Text) → map declaration_of entries ≡ first_of_each [] ds → is_some (lookup (is_key x) entries) ≡ is_among (texts ds) x
known_by ds entries x table = held entries x ∙ ap (λ es. is_among (texts es) x) table ∙ first_texts [] ds x refl

-- ---- one declaration

module _ (first : Option (ℕ × ℕ)) (ds : List Declaration) (entries : List Entry) (found : Option (ℕ × ℕ)) (text : Bor (List ℕ)) (declared : CodeDeclaration) where
  abbrev one : Declaration
  one = declaration_of (text, declared)

  all_texts : (es : List Declaration) → map text_of (map (λ (d : Declaration). d.name) es) ≡ texts es
  all_texts [] = refl
  all_texts (e ∷ es) = ap (λ xs. e.name.text ∷ xs) (all_texts es)

  noted_one_more : (b : Bool) → is_among (texts ds) text.now ≡ b → repeated (ds ++ one ∷ []) ≡ repeated ds ++ cond b ((declared.at, 8) ∷ []) []
  noted_one_more b e =
      ap (λ xs. at_with 8 (repeats [] xs)) (map-append (λ (d : Declaration). d.name) ds (one ∷ []))
      ∙ repeated_one (map (λ d. d.name) ds) one.name b (ap (λ xs. is_among xs text.now) (all_texts ds) ∙ e)

  -- a name that is there
  gathered_again : IsGathered first ds entries found → is_some (lookup (is_key text.now) entries) ≡ true
      → IsGathered first (ds ++ one ∷ []) entries (least_after found ((declared.at, 8) ∷ []))
  gathered_again it there =
      let known : is_among (texts ds) text.now ≡ true = sym (known_by ds entries text.now it.table) ∙ there in
      record {
        table = it.table ∙ sym (grown ds one ∙ ap (λ b. cond b (first_of_each [] ds) (first_of_each [] ds ++ one ∷ [])) known);
        least = noted_after first found (repeated ds) ((declared.at, 8) ∷ []) it.least ∙ ap (least_after first) (sym (noted_one_more true known));
      }

  -- a new name
  gathered_new : IsGathered first ds entries found → is_some (lookup (is_key text.now) entries) ≡ false
      → IsGathered first (ds ++ one ∷ []) (entries ++ (text, declared) ∷ []) found
  gathered_new it absent =
      let new : is_among (texts ds) text.now ≡ false = sym (known_by ds entries text.now it.table) ∙ absent in
      record {
        table =
            map-append declaration_of entries ((text, declared) ∷ [])
            ∙ ap (λ es. es ++ one ∷ []) it.table
            ∙ sym (grown ds one ∙ ap (λ b. cond b (first_of_each [] ds) (first_of_each [] ds ++ one ∷ [])) new);
        least = noted_after first found (repeated ds) [] it.least ∙ ap (least_after first) (sym (noted_one_more false new));
      }

gathers_put : (entries entries' : List Entry) (found found' : Option (ℕ × ℕ)) (text : Bor (List ℕ)) (declared : CodeDeclaration) (added : Bool)
    → added ≡ not (is_some (lookup (is_key text.now) entries)) → entries' ≡ cond added (entries ++ (text, declared) ∷ []) entries → found' ≡ cond added found (least_after found ((declared.at, 8) ∷ []))
    → Gathers (declaration_of (text, declared) ∷ []) entries found entries' found'
gathers_put entries entries' found found' text declared added is put note = by_test added (ap not is ∙ not-not (is_some (lookup (is_key text.now) entries))) put note
  where
    by_test : (b : Bool) → not b ≡ is_some (lookup (is_key text.now) entries) → entries' ≡ cond b (entries ++ (text, declared) ∷ []) entries → found' ≡ cond b found (least_after found ((declared.at, 8) ∷ []))
        → Gathers (declaration_of (text, declared) ∷ []) entries found entries' found'
    by_test true absent more same = record {
      after = λ first ds it.
          subst (λ es. IsGathered first (ds ++ declaration_of (text, declared) ∷ []) es found') (sym more)
          (subst (IsGathered first (ds ++ declaration_of (text, declared) ∷ []) (entries ++ (text, declared) ∷ [])) (sym same) (gathered_new first ds entries found text declared it (sym absent)));
    }
    by_test false there same noting = record {
      after = λ first ds it.
          subst (λ es. IsGathered first (ds ++ declaration_of (text, declared) ∷ []) es found') (sym same)
          (subst (IsGathered first (ds ++ declaration_of (text, declared) ∷ []) entries) (sym noting) (gathered_again first ds entries found text declared it (sym there)));
    }

module _ (entries entries' : List Entry) (found found' : Option (ℕ × ℕ)) (text : Bor (List ℕ)) (declared : CodeDeclaration) (added : Bool)
    (is : added ≡ not (is_some (lookup (is_key text.now) entries))) (put : entries' ≡ cond added (entries ++ (text, declared) ∷ []) entries) where
  -- a name that had a declaration
  pub gathers_again : added ≡ false → found' ≡ least_after found ((declared.at, 8) ∷ []) → Gathers (declaration_of (text, declared) ∷ []) entries found entries' found'
  gathers_again refused note = gathers_put entries entries' found found' text declared added is put (note ∙ sym (ap (λ b. cond b found (least_after found ((declared.at, 8) ∷ []))) refused))

  -- a name that had none
  pub gathers_new : added ≡ true → found' ≡ found → Gathers (declaration_of (text, declared) ∷ []) entries found entries' found'
  gathers_new taken same = gathers_put entries entries' found found' text declared added is put (same ∙ sym (ap (λ b. cond b found (least_after found ((declared.at, 8) ∷ []))) taken))

-- ---- more of them

pub gathers_none : (entries : List Entry) (found : Option (ℕ × ℕ)) → Gathers [] entries found entries found
gathers_none entries found = record { after = λ first ds it. subst (λ ds. IsGathered first ds entries found) (sym (append-nil ds)) it }

pub gathers_then : (xs ys : List Declaration) (es fs gs : List Entry) (f g h : Option (ℕ × ℕ)) → Gathers xs es f fs g → Gathers ys fs g gs h → Gathers (xs ++ ys) es f gs h
gathers_then xs ys es fs gs f g h one two =
    record { after = λ first ds it. subst (λ ds. IsGathered first ds gs h) (append_assoc ds xs ys) (two.after first (ds ++ xs) (one.after first ds it)) }

-- one turn of a loop over a list
pub gathers_step : {X : Type 0} (f : List X → List Declaration) (more : List Declaration) (xs : List X) (i : ℕ) (x : X) (es fs gs : List Entry) (p q r : Option (ℕ × ℕ))
    → i < length xs → x ≡ get_or xs i x → f (take i xs ++ x ∷ []) ≡ f (take i xs) ++ more
    → Gathers (f (take i xs)) es p fs q → Gathers more fs q gs r → Gathers (f (take (i + 1) xs)) es p gs r
gathers_step f more xs i x es fs gs p q r within is adds before now =
    subst (λ ds. Gathers ds es p gs r) (sym (ap f (take_more xs i x within ∙ ap (λ y. take i xs ++ y ∷ []) (sym is)) ∙ adds))
    (gathers_then (f (take i xs)) more es fs gs p q r before now)

from_one : (k : ℕ) (xs : List Item) (x : Item) → declarations_from k (xs ++ x ∷ []) ≡ declarations_from k xs ++ declarations_of (k + length xs) x
from_one k [] x = let none : k + 0 ≡ k = omega arith in append-nil (declarations_of k x) ∙ ap (λ n. declarations_of n x) (sym none)
from_one k (y ∷ ys) x =
    let turned : suc k + length ys ≡ k + suc (length ys) = omega arith in
    ap (λ ds. declarations_of k y ++ ds) (from_one (suc k) ys x ∙ ap (λ n. declarations_from (suc k) ys ++ declarations_of n x) turned)
    ∙ sym (append_assoc (declarations_of k y) (declarations_from (suc k) ys) (declarations_of (k + suc (length ys)) x))

-- the items in their order, and one more
pub items_one : {X : Type 0} (item_of : X → Item) (xs : List X) (i : ℕ) (x : X) → i < length xs
    → declarations_from 0 (map item_of (take i xs ++ x ∷ [])) ≡ declarations_from 0 (map item_of (take i xs)) ++ declarations_of i (item_of x)
items_one item_of xs i x within =
    let count : 0 + length (map item_of (take i xs)) ≡ i = grind (arith, common_steps) in
    ap (declarations_from 0) (map-append item_of (take i xs) (x ∷ []))
    ∙ from_one 0 (map item_of (take i xs)) (item_of x)
    ∙ ap (λ n. declarations_from 0 (map item_of (take i xs)) ++ declarations_of n (item_of x)) count

pub elements_one : {X : Type 0} (name_of : X → Name) (k : ℕ) (xs : List X) (x : X)
    → map (λ y. declares y (Element k)) (map name_of (xs ++ x ∷ [])) ≡ map (λ y. declares y (Element k)) (map name_of xs) ++ declares (name_of x) (Element k) ∷ []
elements_one name_of k xs x =
    ap (map (λ y. declares y (Element k))) (map-append name_of xs (x ∷ [])) ∙ map-append (λ y. declares y (Element k)) (map name_of xs) (name_of x ∷ [])

pub predeclared_gathered : (es fs gs hs : List Entry) (p q r s : Option (ℕ × ℕ)) (x y z : Text)
    → Gathers (predeclares x ∷ []) es p fs q → Gathers (predeclares y ∷ []) fs q gs r → Gathers (predeclares z ∷ []) gs r hs s → Gathers (predeclares x ∷ predeclares y ∷ predeclares z ∷ []) es p hs s
predeclared_gathered es fs gs hs p q r s x y z one two three =
    gathers_then (predeclares x ∷ []) (predeclares y ∷ predeclares z ∷ []) es fs hs p q s one
    (gathers_then (predeclares y ∷ []) (predeclares z ∷ []) fs gs hs q r s two three)

-- ---- all of them

module _ (spec : Spec) (items : List Item) (es fs gs : List Entry) (p q r : Option (ℕ × ℕ)) (none : es ≡ []) (are : items ≡ spec.items) where
  all_gathered : Gathers predeclared es p fs q → Gathers (declarations_from 0 items) fs q gs r → IsGathered p (predeclared ++ declarations_from 0 spec.items) gs r
  all_gathered one two =
      let start : IsGathered p [] es p = record { table = ap (map declaration_of) none; least = refl } in
      subst (λ ys. IsGathered p (predeclared ++ declarations_from 0 ys) gs r) are (two.after p predeclared (one.after p [] start))

  pub table_is : Gathers predeclared es p fs q → Gathers (declarations_from 0 items) fs q gs r → IsTableOf spec gs
  unfolding first_declarations declarations
  table_is one two = (all_gathered one two).table

  pub least_is : (s : Option (ℕ × ℕ)) → Gathers predeclared es p fs q → Gathers (declarations_from 0 items) fs q gs r → s ≡ least_after r (parameter_faults items) → s ≡ least_after p (twice_faults spec)
  unfolding twice_faults declarations
  least_is s one two more =
      more
      ∙ ap (λ ys. least_after r (parameter_faults ys)) are
      ∙ noted_after p r (repeated (predeclared ++ declarations_from 0 spec.items)) (parameter_faults spec.items) (all_gathered one two).least
