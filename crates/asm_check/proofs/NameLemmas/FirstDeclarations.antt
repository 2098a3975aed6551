-- Free. What is found in a table of the first declarations, and how it grows.
use Rattle.std.proofs.Common.{◌≡◌, Bool, true, false, cond, ◌||◌, List, [], ◌∷◌, ◌++◌, map, Some, refl, sym, ap, subst, ◌∙◌}
use Rattle.std.specs.Prelude.{find, option_map}
use Rattle.std.proofs.Math.Bool.{or-false}
use Rattle.asm_syntax.specs.SourceTree.{Spec}
use Rattle.asm_check.specs.Names.{Text}
use Rattle.asm_check.specs.Names.{Declaration, is_text, is_among, declarations, first_of_each, first_declarations, declared}
use Rattle.asm_check.proofs.NameLemmas.FirstOfName.{same_text}

abbrev is_of : Text → Declaration → Bool
is_of x d = is_text d.name.text x

abbrev texts : List Declaration → List Text
texts ds = map (λ c. c.name.text) ds

find_first : (ds : List Declaration) (seen : List Text) (x : Text) → is_among seen x ≡ false → find (is_of x) (first_of_each seen ds) ≡ find (is_of x) ds
find_first [] seen x new = refl
find_first (d ∷ ds) seen x new =
    elim (is_text d.name.text x) as (λ b. is_text d.name.text x ≡ b → find (is_of x) (first_of_each seen (d ∷ ds)) ≡ cond b (Some d) (find (is_of x) ds)) [
      | true ↦ λ e.
          let fresh : is_among seen d.name.text ≡ false = ap (is_among seen) (same_text d.name.text x e) ∙ new in
          ap (λ b. find (is_of x) (cond b (first_of_each seen ds) (d ∷ first_of_each (d.name.text ∷ seen) ds))) fresh
          ∙ ap (λ b. cond b (Some d) (find (is_of x) (first_of_each (d.name.text ∷ seen) ds))) e
      | false ↦ λ e.
          elim (is_among seen d.name.text) as (λ b. find (is_of x) (cond b (first_of_each seen ds) (d ∷ first_of_each (d.name.text ∷ seen) ds)) ≡ find (is_of x) ds) [
            | true ↦ find_first ds seen x new
            | false ↦
                ap (λ b. cond b (Some d) (find (is_of x) (first_of_each (d.name.text ∷ seen) ds))) e
                ∙ find_first ds (d.name.text ∷ seen) x (ap (λ b. b || is_among seen x) e ∙ new)
          ]
    ] refl

pub turn : (a b c : Bool) → (b || a || c) ≡ (a || (b || c))
turn true true true = refl
turn true true false = refl
turn true false true = refl
turn true false false = refl
turn false true true = refl
turn false true false = refl
turn false false true = refl
turn false false false = refl

put_inside : (d : Declaration) (b : Bool) (ds es : List Declaration) → d ∷ cond b ds es ≡ cond b (d ∷ ds) (d ∷ es)
put_inside d true ds es = refl
put_inside d false ds es = refl

-- one more that is there already
pub covered : (seen : List Text) (c x : Text) (rest : Bool) → is_among seen c ≡ true → (is_among seen x || rest) ≡ (is_among seen x || (is_text c x || rest))
covered seen c x rest there =
    elim (is_text c x) as (λ b. is_text c x ≡ b → (is_among seen x || rest) ≡ (is_among seen x || (b || rest))) [
      | true ↦ λ e.
          let known : is_among seen x ≡ true = subst (λ z. is_among seen z ≡ true) (same_text c x e) there in
          ap (λ b. b || rest) known ∙ sym (ap (λ b. b || true) known)
      | false ↦ λ e. refl
    ] refl

grow_behind : (ds : List Declaration) (seen : List Text) (d : Declaration)
    → first_of_each seen (ds ++ d ∷ []) ≡ cond (is_among seen d.name.text || is_among (texts ds) d.name.text) (first_of_each seen ds) (first_of_each seen ds ++ d ∷ [])
grow_behind [] seen d = ap (λ b. cond b [] (d ∷ [])) (sym (or-false (is_among seen d.name.text)))
grow_behind (c ∷ ds) seen d =
    elim (is_among seen c.name.text) as (λ b. is_among seen c.name.text ≡ b
    → cond b (first_of_each seen (ds ++ d ∷ [])) (c ∷ first_of_each (c.name.text ∷ seen) (ds ++ d ∷ []))
    ≡ cond (is_among seen d.name.text || (is_text c.name.text d.name.text || is_among (texts ds) d.name.text))
    (cond b (first_of_each seen ds) (c ∷ first_of_each (c.name.text ∷ seen) ds)) (cond b (first_of_each seen ds) (c ∷ first_of_each (c.name.text ∷ seen) ds) ++ d ∷ [])) [
      | true ↦ λ e.
          grow_behind ds seen d
          ∙ ap (λ b. cond b (first_of_each seen ds) (first_of_each seen ds ++ d ∷ [])) (covered seen c.name.text d.name.text (is_among (texts ds) d.name.text) e)
      | false ↦ λ e.
          let rest = first_of_each (c.name.text ∷ seen) ds in
          ap (λ xs. c ∷ xs) (grow_behind ds (c.name.text ∷ seen) d)
          ∙ put_inside c (is_text c.name.text d.name.text || is_among seen d.name.text || is_among (texts ds) d.name.text) rest (rest ++ d ∷ [])
          ∙ ap (λ b. cond b (c ∷ rest) (c ∷ rest ++ d ∷ [])) (turn (is_among seen d.name.text) (is_text c.name.text d.name.text) (is_among (texts ds) d.name.text))
    ] refl

-- what is first under a name is what the name stands for
pub first_stands : (spec : Spec) (x : Text) → option_map (λ d. d.meaning) (find (is_of x) (first_declarations spec)) ≡ declared spec x
unfolding declared first_declarations
first_stands spec x = ap (option_map (λ d. d.meaning)) (find_first (declarations spec) [] x refl)

-- one declaration more
pub grown : (ds : List Declaration) (d : Declaration)
    → first_of_each [] (ds ++ d ∷ []) ≡ cond (is_among (texts ds) d.name.text) (first_of_each [] ds) (first_of_each [] ds ++ d ∷ [])
grown ds d = grow_behind ds [] d
