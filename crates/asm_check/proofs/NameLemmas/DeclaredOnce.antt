-- Free. In a well-formed specification no name is declared twice, so that all declarations count.
use Rattle.std.proofs.Common.{◌≡◌, Bool, true, false, cond, ◌||◌, List, [], ◌∷◌, ◌++◌, map, AllPairs, refl, sym, ap, ◌∙◌}
use Rattle.std.specs.Prelude.{Contains, filter}
use Rattle.std.proofs.lemmas.Bool.{false≢true}
use Rattle.std.proofs.lemmas.List.{map-append}
use Rattle.std.proofs.lemmas.List.Elements.{All-contains, filter-append}
use Rattle.std.proofs.lemmas.List.Kept.{AllPairs-cons}
use Rattle.asm_state.proofs.Lists.{All-from_contained, AllPairs-none, AllPairs-head, AllPairs-tail, Contains-first, Contains-later}
use Rattle.asm_syntax.specs.SourceTree.{Spec}
use Rattle.asm_check.specs.Names.{Text, Declaration, Meaning, Predeclared, predeclared_names, declares, is_text, is_among, text_of, predeclared, declarations_from, declarations, first_of_each, first_declarations}
use Rattle.asm_check.specs.Faults.{IsWellFormed, IsRepeated, parameters_of, twice}
use Rattle.asm_check.specs.Shapes.{texts_of}
use Rattle.asm_check.proofs.CycleLemmas.HeightsAreRanks.{split}

-- two declarations of different names
abbrev pub IsOther : Declaration → Declaration → Type 0
IsOther c d = is_text c.name.text d.name.text ≡ false

pub left_false : (a b : Bool) → (a || b) ≡ false → a ≡ false
left_false true b e = e
left_false false b e = refl

pub right_false : (a b : Bool) → (a || b) ≡ false → b ≡ false
right_false true b e = absurd (false≢true (sym e))
right_false false b e = e

apart_from : (ds : List Declaration) → ((before after : List Declaration) (d : Declaration) → ds ≡ before ++ d ∷ after → is_among (texts_of before) d.name.text ≡ false) → AllPairs IsOther ds
apart_from [] never = AllPairs-none IsOther
apart_from (c ∷ ds) never =
    AllPairs-cons IsOther c ds
    (All-from_contained (IsOther c) ds (λ d it. let parts = split ds d it in
    left_false (is_text c.name.text d.name.text) (is_among (texts_of parts.0) d.name.text) (never (c ∷ parts.0) parts.1 d (ap (λ zs. c ∷ zs) parts.2))))
    (apart_from ds (λ before after d parts. right_false (is_text c.name.text d.name.text) (is_among (texts_of before) d.name.text) (never (c ∷ before) after d (ap (λ zs. c ∷ zs) parts))))

same_texts : (ds : List Declaration) → map text_of (map (λ d. d.name) ds) ≡ texts_of ds
same_texts [] = refl
same_texts (d ∷ ds) = ap (λ xs. d.name.text ∷ xs) (same_texts ds)

none_twice : (spec : Spec) → IsWellFormed spec → (before after : List Declaration) (d : Declaration) → declarations spec ≡ before ++ d ∷ after → is_among (texts_of before) d.name.text ≡ false
none_twice spec good before after d parts =
    elim (is_among (texts_of before) d.name.text) as (λ b. is_among (texts_of before) d.name.text ≡ b → b ≡ false) [
      | true ↦ λ e. absurd (good d.name.at 8 (twice (map (λ c. c.name) (declarations spec), Contains-first (map (λ c. c.name) (declarations spec)) (map parameters_of spec.items), repeated e)))
      | false ↦ λ e. refl
    ] refl
  where
    repeated : is_among (texts_of before) d.name.text ≡ true → IsRepeated (map (λ c. c.name) (declarations spec)) d.name.at
    repeated e = record {
      before = map (λ c. c.name) before;
      name = d.name;
      after = map (λ c. c.name) after;
      parts = ap (map (λ c. c.name)) parts ∙ map-append (λ c. c.name) before (d ∷ after);
      is_before = ap (λ xs. is_among xs d.name.text) (same_texts before) ∙ e;
      offset = refl;
    }

pub apart : (spec : Spec) → IsWellFormed spec → AllPairs IsOther (declarations spec)
apart spec good = apart_from (declarations spec) (none_twice spec good)

all_kept : (ds : List Declaration) (seen : List Text) → ((d : Declaration) → Contains ds d → is_among seen d.name.text ≡ false) → AllPairs IsOther ds → first_of_each seen ds ≡ ds
all_kept [] seen new others = refl
all_kept (c ∷ ds) seen new others =
    ap (λ b. cond b (first_of_each seen ds) (c ∷ first_of_each (c.name.text ∷ seen) ds)) (new c (Contains-first c ds))
    ∙ ap (λ ds. c ∷ ds) (all_kept ds (c.name.text ∷ seen)
    (λ d it. ap (λ b. b || is_among seen d.name.text) (All-contains (IsOther c) ds d (AllPairs-head IsOther c ds others) it) ∙ new d (Contains-later c ds d it))
    (AllPairs-tail IsOther c ds others))

pub all_count : (spec : Spec) → IsWellFormed spec → first_declarations spec ≡ predeclared ++ declarations_from 0 spec.items
unfolding declarations first_declarations
all_count spec good = all_kept (declarations spec) [] (λ d it. refl) (apart spec good)

none_predeclared : (is_like : Meaning → Bool) (xs : List Text) → is_like Predeclared ≡ false
    → filter (λ d. is_like d.meaning) (map (λ x. declares (record { at = 0; text = x }) Predeclared) xs) ≡ []
none_predeclared is_like [] out = refl
none_predeclared is_like (x ∷ xs) out =
    let others : List Declaration = filter (λ (d : Declaration). is_like d.meaning) (map (λ x. declares (record { at = 0; text = x }) Predeclared) xs) in
    ap (λ b. cond b (declares (record { at = 0; text = x }) Predeclared ∷ others) others) out ∙ none_predeclared is_like xs out

pub all_like : (spec : Spec) → IsWellFormed spec → (is_like : Meaning → Bool) → is_like Predeclared ≡ false
    → filter (λ d. is_like d.meaning) (first_declarations spec) ≡ filter (λ d. is_like d.meaning) (declarations_from 0 spec.items)
all_like spec good is_like out =
    ap (filter (λ d. is_like d.meaning)) (all_count spec good)
    ∙ filter-append (λ d. is_like d.meaning) predeclared (declarations_from 0 spec.items)
    ∙ ap (λ ds. ds ++ filter (λ d. is_like d.meaning) (declarations_from 0 spec.items)) (none_predeclared is_like predeclared_names out)
