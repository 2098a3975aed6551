-- Free. What is found of the entries of tables, one after another.
use Rattle.std.proofs.Common.{◌≡◌, ℕ, suc, ◌+◌, ◌<◌, ◌&&◌, ◌||◌, not, Bool, cond, List, [], ◌∷◌, ◌++◌, map, length, take, drop, get_or, Option, sym, ap, ◌∙◌, drop-cons}
use Rattle.std.specs.Prelude.{flat_map}
use Rattle.std.specs.List.{list_all, list_any}
use Rattle.std.proofs.Math.Numerals.{add-one}
use Rattle.std.proofs.lemmas.Grind.{flat_map-append}
use Rattle.std.proofs.lemmas.List.{map-append, take_more}
use Rattle.asm_syntax.specs.SourceTree.{Entry, Item, Name, Spec}
use Rattle.asm_check.specs.code.tables.EntryArguments.{fits_in}
use Rattle.asm_check.specs.code.FaultLists.{bad_entries, is_bad_entry}
use Rattle.asm_check.specs.Faults.{fits_domain, is_known_use, same_arguments, table_of}
use Rattle.asm_check.specs.Names.{Meaning, declared, uses_of_entry}
use Rattle.asm_check.specs.code.LeastFaults.{least_after}
use Rattle.asm_check.proofs.TableLemmas.EntryArguments.{looked_up}
use Rattle.asm_check.proofs.LeastSoFar.{noted_append}

module _ {A B : Type 0} (f : A → B) (xs : List A) (i : ℕ) (x : A) (inside : i < length xs) (is : x ≡ get_or xs i x) where
  pub next_taken : map f (take (i + 1) xs) ≡ map f (take i xs) ++ f x ∷ []
  next_taken = ap (map f) (take_more xs i x inside) ∙ (map-append f (take i xs) (get_or xs i x ∷ []) ∙ ap (λ y. map f (take i xs) ++ f y ∷ []) (sym is))

  pub next_left : map f (drop i xs) ≡ f x ∷ map f (drop (i + 1) xs)
  next_left = ap (map f) (drop-cons xs i x inside) ∙ (ap (λ y. f y ∷ map f (drop (suc i) xs)) (sym is) ∙ ap (λ n. f x ∷ map f (drop n xs)) (sym (add-one i)))

module _ (spec : Spec) where
  pub one_entry : (domain : List Name) (before : List Entry) (e : Entry) (es : List Entry) (bad : Bool) (found next : Option (ℕ × ℕ))
      → bad ≡ is_bad_entry spec domain before e → next ≡ least_after found (cond bad ((e.at, 16) ∷ []) [])
      → least_after next (bad_entries spec domain (before ++ e ∷ []) es) ≡ least_after found (bad_entries spec domain before (e ∷ es))
  one_entry domain before e es bad found next is met =
      let rest = bad_entries spec domain (before ++ e ∷ []) es in
      ap (λ f. least_after f rest) met ∙ (sym (noted_append found (cond bad ((e.at, 16) ∷ []) []) rest)
      ∙ ap (λ b. least_after found (cond b ((e.at, 16) ∷ []) [] ++ rest)) is)

  -- what the code looks at is what makes an entry bad
  pub bad_is : (domain : List Name) (before : List Entry) (e : Entry) (ms : List (Option Meaning)) (repeated bad : Bool) → ms ≡ map (λ u. declared spec u.text) domain
      → repeated ≡ list_any (λ b. same_arguments b.arguments e.arguments) before
      → bad ≡ (list_all (is_known_use spec) (uses_of_entry e) && (not (fits_in spec ms e.arguments) || repeated)) → bad ≡ is_bad_entry spec domain before e
  bad_is domain before e ms repeated bad looked twice is =
      is ∙ ap (λ b. list_all (is_known_use spec) (uses_of_entry e) && b)
      (ap (λ b. not b || repeated) (ap (λ ms. fits_in spec ms e.arguments) looked ∙ looked_up spec domain e.arguments)
      ∙ ap (λ b. not (fits_domain spec domain e.arguments) || b) twice)

  abbrev pub table_faults : List (List Name × List Entry) → List (ℕ × ℕ)
  table_faults ts = flat_map (λ t. bad_entries spec t.0 [] t.1) ts

  pub one_item : (item : Item) (items : List Item) (found next : Option (ℕ × ℕ)) → next ≡ least_after found (table_faults (table_of item))
      → least_after next (table_faults (flat_map table_of items)) ≡ least_after found (table_faults (flat_map table_of (item ∷ items)))
  one_item item items found next met =
      ap (λ f. least_after f (table_faults (flat_map table_of items))) met
      ∙ (sym (noted_append found (table_faults (table_of item)) (table_faults (flat_map table_of items)))
      ∙ ap (least_after found) (sym (flat_map-append (λ t. bad_entries spec t.0 [] t.1) (table_of item) (flat_map table_of items))))
