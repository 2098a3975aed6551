-- Free. Arguments of entries as the code compares them.
use Rattle.std.proofs.Common.{◌≡◌, ◌≢◌, ℕ, suc, ℤ, pos, negsuc, nat_lt, nat_le, Bool, true, false, cond, ◌&&◌, ◌||◌, List, [], ◌∷◌, ◌++◌, map, length, Vec, Global, Ordering, Less, Equal, Greater, refl, sym, ap, ◌∙◌, arith}
use Rattle.std.specs.Prelude.{Option, int_le}
use Rattle.std.specs.Ordering.{int_eq, is_eq}
use Rattle.std.proofs.lemmas.Bool.Decides.{nat_tests}
use Rattle.std.specs.List.{list_any}
use Rattle.std.specs.Cmp.Lexicographic.{pointwise, slice_cmp, lists_ties}
use Rattle.std.proofs.lemmas.List.Folds.{list_any-append}
use Rattle.asm_syntax.specs.declared.term.Literal.TheVariants as literal
use Rattle.asm_syntax.specs.SourceTree as source
use Rattle.asm_syntax.specs.SourceTree.{Const, Entry, Name, Spec}
use Rattle.asm_check.specs.contracts.tables.entry_faults.ArgumentPartialEq.TheImpl as argument
use Rattle.asm_check.specs.contracts.tables.entry_faults.ArgumentOrd.TheImpl as ordered
use Rattle.asm_check.specs.contracts.tables.entry_faults.ArgumentOrd.TheImpl.Laws.{matches_eq-law}
use Rattle.asm_check.specs.declared.tables.entry_faults.Argument.{Argument}
use Rattle.asm_check.specs.declared.tables.entry_faults.Argument.TheVariants as code
use Rattle.asm_check.specs.code.tables.EntryArguments.{HasSeen, Nothing, Either, Whole, Word, fits_in, key, key_of, keys_in, keys_of, same_key, same_keys}
use Rattle.asm_check.specs.Faults.{is_in_universe, fits_domain, same_literal, same_const, same_arguments}
use Rattle.asm_check.specs.Names.{Meaning, declared}

-- lists of other lengths don't fit
pub other_length : (spec : Spec) (ms : List (Option Meaning)) (cs : List Const) → length ms ≢ length cs → false ≡ fits_in spec ms cs
other_length spec [] [] h = absurd (h refl)
other_length spec [] (c ∷ cs) h = refl
other_length spec (m ∷ ms) [] h = refl
other_length spec (m ∷ ms) (c ∷ cs) h =
    elim (is_in_universe spec m c) as (λ b. false ≡ (b && fits_in spec ms cs)) [
      | true ↦ other_length spec ms cs (λ e. h (ap suc e))
      | false ↦ refl
    ]

pub looked_up : (spec : Spec) (domain : List Name) (cs : List Const) → fits_in spec (map (λ u. declared spec u.text) domain) cs ≡ fits_domain spec domain cs
looked_up spec [] [] = refl
looked_up spec [] (c ∷ cs) = refl
looked_up spec (u ∷ us) [] = refl
looked_up spec (u ∷ us) (c ∷ cs) = ap (λ b. is_in_universe spec (declared spec u.text) c && b) (looked_up spec us cs)

-- ---- equal arguments

abbrev equal : Argument → Argument → Bool
equal = (argument.ghosts).eq

in_order : (a b : ℕ) → is_eq (cond (nat_lt a b) Less (cond (nat_lt b a) Greater Equal)) ≡ (nat_le a b && nat_le b a)
in_order a b = grind (arith, nat_tests)

same_number : (m n : ℤ) → int_eq m n ≡ (int_le m n && int_le n m)
same_number (pos a) (pos b) = in_order a b
same_number (pos a) (negsuc b) = refl
same_number (negsuc a) (pos b) = refl
same_number (negsuc a) (negsuc b) = in_order b a

equal_argument : (a b : Argument) → equal a b ≡ same_key (key_of a) (key_of b)
equal_argument code.Undef code.Undef = refl
equal_argument (code.Truth true) (code.Truth true) = refl
equal_argument (code.Truth true) (code.Truth false) = refl
equal_argument (code.Truth false) (code.Truth true) = refl
equal_argument (code.Truth false) (code.Truth false) = refl
equal_argument (code.Number m) (code.Number n) = same_number m n
equal_argument (code.Element x) (code.Element y) = refl
equal_argument a b = refl

equal_arguments : (xs ys : List Argument) → pointwise equal xs ys ≡ same_keys (map key_of xs) (map key_of ys)
equal_arguments [] [] = refl
equal_arguments [] (y ∷ ys) = refl
equal_arguments (x ∷ xs) [] = refl
equal_arguments (x ∷ xs) (y ∷ ys) = ap (λ b. b && pointwise equal xs ys) (equal_argument x y) ∙ ap (λ b. same_key (key_of x) (key_of y) && b) (equal_arguments xs ys)

-- the order of arguments finds the same ones
abbrev in_turn : Argument → Argument → Ordering
in_turn = (ordered.ghosts).cmp

pub ordered_arguments : (xs ys : List Argument) → is_eq (slice_cmp in_turn xs ys) ≡ same_keys (map key_of xs) (map key_of ys)
ordered_arguments xs ys = sym (lists_ties in_turn matches_eq-law xs ys) ∙ equal_arguments xs ys

same_as_const : (c d : Const) → same_key (key c) (key d) ≡ same_const c d
same_as_const (source.Plain literal.Undef) (source.Plain v) = elim v as (λ v. same_key Nothing (key (source.Plain v)) ≡ same_literal literal.Undef v) [ literal.Undef ↦ refl | _ ↦ refl ]
same_as_const (source.Plain (literal.Truth b)) (source.Plain v) = elim v as (λ v. same_key (Either b) (key (source.Plain v)) ≡ same_literal (literal.Truth b) v) [ literal.Truth c ↦ refl | _ ↦ refl ]
same_as_const (source.Plain (literal.Number m)) (source.Plain v) = elim v as (λ v. same_key (Whole m.value) (key (source.Plain v)) ≡ same_literal (literal.Number m) v) [ literal.Number n ↦ refl | _ ↦ refl ]
same_as_const (source.Plain v) (source.Element y) = elim v as (λ v. same_key (key (source.Plain v)) (Word y.text) ≡ false) [ literal.Undef ↦ refl | _ ↦ refl ]
same_as_const (source.Element x) (source.Plain v) = elim v as (λ v. same_key (Word x.text) (key (source.Plain v)) ≡ false) [ literal.Undef ↦ refl | _ ↦ refl ]
same_as_const (source.Element x) (source.Element y) = refl

same_as_consts : (cs ds : List Const) → same_keys (map key cs) (map key ds) ≡ same_arguments cs ds
same_as_consts [] [] = refl
same_as_consts [] (d ∷ ds) = refl
same_as_consts (c ∷ cs) [] = refl
same_as_consts (c ∷ cs) (d ∷ ds) = ap (λ b. b && same_keys (map key cs) (map key ds)) (same_as_const c d) ∙ ap (λ b. same_const c d && b) (same_as_consts cs ds)

any_alike : {X : Type 0} (p q : X → Bool) → ((x : X) → p x ≡ q x) → (xs : List X) → list_any p xs ≡ list_any q xs
any_alike p q h [] = refl
any_alike p q h (x ∷ xs) = ap (λ b. b || list_any p xs) (h x) ∙ ap (λ b. q x || b) (any_alike p q h xs)

module _ (eq : Vec Argument Global → Vec Argument Global → Bool) (is : (q v : Vec Argument Global) → eq q v ≡ same_keys (keys_of q) (keys_of v)) where
  -- arguments are found if an entry before has them
  pub found_before : (before : List Entry) (kept : List (Vec Argument Global)) (q : Vec Argument Global) (cs : List Const) → HasSeen before kept → keys_of q ≡ map key cs
      → list_any (eq q) kept ≡ list_any (λ e. same_arguments e.arguments cs) before
  found_before before kept q cs seen same =
      any_alike (eq q) (λ v. same_keys (keys_of q) (keys_of v)) (is q) kept ∙ (seen q
      ∙ any_alike (λ e. same_keys (keys_in e) (keys_of q)) (λ e. same_arguments e.arguments cs) (λ e. ap (same_keys (keys_in e)) same ∙ same_as_consts e.arguments cs) before)

  -- one more is put with them
  pub seen_more : (before : List Entry) (e : Entry) (old new : List (Vec Argument Global)) (k : Vec Argument Global) → HasSeen before old → keys_of k ≡ keys_in e
      → ((q : Vec Argument Global) → list_any (eq q) new ≡ cond (eq k q) true (list_any (eq q) old)) → HasSeen (before ++ e ∷ []) new
  seen_more before e old new k seen same put q =
      any_alike (λ v. same_keys (keys_of q) (keys_of v)) (eq q) (λ v. sym (is q v)) new ∙ (put q
      ∙ (last (eq k q) (list_any (eq q) old)
      ∙ (ap (λ b. b || (eq k q || false)) (any_alike (eq q) (λ v. same_keys (keys_of q) (keys_of v)) (is q) old ∙ seen q)
      ∙ (ap (λ b. list_any (λ e. same_keys (keys_in e) (keys_of q)) before || (b || false)) (is k q ∙ ap (λ ks. same_keys ks (keys_of q)) same)
      ∙ sym (list_any-append (λ e. same_keys (keys_in e) (keys_of q)) before (e ∷ []))))))
    where
      last : (b o : Bool) → cond b true o ≡ (o || (b || false))
      last true true = refl
      last true false = refl
      last false true = refl
      last false false = refl
