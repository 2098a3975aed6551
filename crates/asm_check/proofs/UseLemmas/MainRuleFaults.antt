-- Free. Main rules, one after another.
use Rattle.std.proofs.Common.{◌≡◌, ℕ, ◌+◌, ◌<◌, Bool, true, false, cond, not, ◌||◌, List, [], ◌∷◌, ◌++◌, length, take, get_or, map, Option, Some, None, refl, sym, ap, ◌∙◌, append-nil, append_assoc}
use Rattle.std.specs.Prelude.{filter_map}
use Rattle.std.specs.List.{cons_option}
use Rattle.std.proofs.lemmas.List.{map-append, take_more}
use Rattle.std.proofs.lemmas.List.Elements.{filter_map-append}
use Rattle.asm_syntax.specs.SourceTree.{Name, Item, Spec}
use Rattle.asm_check.specs.Names.{Meaning, can_be_main, declared}
use Rattle.asm_check.specs.Faults.{init_of, inits}
use Rattle.asm_check.specs.code.FaultLists.{at_with, unfit_main_rules, faults_of_inits, init_faults}
use Rattle.asm_check.specs.code.LeastFaults.{least_after}
use Rattle.asm_check.specs.code.uses.MainRules.{main_rule_faults, is_any}
use Rattle.asm_check.proofs.LeastSoFar.{noted_after}
use Rattle.asm_check.proofs.NameLemmas.RepeatedNames.{at_with_append}

-- what one more name adds
abbrev adds : Spec → Bool → Name → List (ℕ × ℕ)
adds spec is_named x = cond (is_named || not (can_be_main (declared spec x.text))) ((x.at, 14) ∷ []) []

start_one : (spec : Spec) (xs : List Name) (x : Name) → main_rule_faults spec (xs ++ x ∷ []) ≡ main_rule_faults spec xs ++ adds spec (is_any xs) x
start_one spec [] x = by_start (not (can_be_main (declared spec x.text)))
  where
    by_start : (b : Bool) → at_with 14 (map (λ (y : Name). y.at) (cond b (x ∷ []) [])) ++ [] ≡ cond b ((x.at, 14) ∷ []) []
    by_start true = refl
    by_start false = refl
start_one spec (y ∷ ys) x =
    let first = at_with 14 (map (λ (z : Name). z.at) (unfit_main_rules spec (y ∷ []))) in
    ap (λ zs. first ++ zs) (ap (at_with 14) (map-append (λ (z : Name). z.at) ys (x ∷ [])) ∙ at_with_append 14 (map (λ (z : Name). z.at) ys) (x.at ∷ []))
    ∙ sym (append_assoc first (at_with 14 (map (λ (z : Name). z.at) ys)) ((x.at, 14) ∷ []))

some_any : (xs : List Name) (x : Name) → is_any (xs ++ x ∷ []) ≡ true
some_any [] x = refl
some_any (y ∷ ys) x = refl

module _ {X : Type 0} (item_of : X → Item) (xs : List X) (i : ℕ) (x : X) (within : i < length xs) (is : x ≡ get_or xs i x) where
  abbrev before : List Name
  before = filter_map init_of (map item_of (take i xs))

  abbrev after : List Name
  after = filter_map init_of (map item_of (take (i + 1) xs))

  one_item : after ≡ before ++ filter_map init_of (item_of x ∷ [])
  one_item =
      ap (λ ys. filter_map init_of (map item_of ys)) (take_more xs i x within ∙ ap (λ y. take i xs ++ y ∷ []) (sym is))
      ∙ ap (filter_map init_of) (map-append item_of (take i xs) (x ∷ []))
      ∙ filter_map-append init_of (map item_of (take i xs)) (item_of x ∷ [])

  single : (o : Option Name) → o ≡ init_of (item_of x) → cons_option o [] ≡ filter_map init_of (item_of x ∷ [])
  single o e = ap (λ (p : Option Name). cons_option p []) e

  named : (n : Name) → Some n ≡ init_of (item_of x) → after ≡ before ++ n ∷ []
  named n e = one_item ∙ ap (λ ys. before ++ ys) (sym (single (Some n) e))

  unnamed : None ≡ init_of (item_of x) → after ≡ before
  unnamed e = one_item ∙ ap (λ ys. before ++ ys) (sym (single None e)) ∙ append-nil before

  pub named_any : (n : Name) → Some n ≡ init_of (item_of x) → true ≡ is_any after
  named_any n e = sym (ap is_any (named n e) ∙ some_any before n)

  pub unnamed_any : (b : Bool) → None ≡ init_of (item_of x) → b ≡ is_any before → b ≡ is_any after
  unnamed_any b e it = it ∙ ap is_any (sym (unnamed e))

  pub named_faults : (spec : Spec) (first found found' : Option (ℕ × ℕ)) (b : Bool) (n : Name) → Some n ≡ init_of (item_of x) → b ≡ is_any before → found ≡ least_after first (main_rule_faults spec before)
      → found' ≡ least_after found (adds spec b n) → found' ≡ least_after first (main_rule_faults spec after)
  named_faults spec first found found' b n e any it note =
      note
      ∙ noted_after first found (main_rule_faults spec before) (adds spec b n) it
      ∙ ap (λ c. least_after first (main_rule_faults spec before ++ adds spec c n)) any
      ∙ ap (least_after first) (sym (ap (main_rule_faults spec) (named n e) ∙ start_one spec before n))

  pub unnamed_faults : (spec : Spec) (first found : Option (ℕ × ℕ)) → None ≡ init_of (item_of x) → found ≡ least_after first (main_rule_faults spec before) → found ≡ least_after first (main_rule_faults spec after)
  unnamed_faults spec first found e it = it ∙ ap (λ ys. least_after first (main_rule_faults spec ys)) (sym (unnamed e))

-- ---- all of them

pub none_named : (spec : Spec) (xs : List Name) (first found found' : Option (ℕ × ℕ)) → xs ≡ inits spec → false ≡ is_any xs → found ≡ least_after first (main_rule_faults spec xs)
    → found' ≡ least_after found ((spec.length, 14) ∷ []) → found' ≡ least_after first (init_faults spec)
unfolding init_faults
none_named spec [] first found found' are none it note = note ∙ ap (λ f. least_after f ((spec.length, 14) ∷ [])) it ∙ ap (λ ys. least_after first (faults_of_inits spec ys)) are
none_named spec (x ∷ xs) first found found' are none it note = cc

pub some_named : (spec : Spec) (xs : List Name) (first found : Option (ℕ × ℕ)) → xs ≡ inits spec → true ≡ is_any xs → found ≡ least_after first (main_rule_faults spec xs)
    → found ≡ least_after first (init_faults spec)
unfolding init_faults
some_named spec [] first found are any it = cc
some_named spec (x ∷ xs) first found are any it = it ∙ ap (λ ys. least_after first (faults_of_inits spec ys)) are

-- ---- one name

pub already : (spec : Spec) (found found' : Option (ℕ × ℕ)) (b : Bool) (x : Name) → b ≡ true → found' ≡ least_after found ((x.at, 14) ∷ []) → found' ≡ least_after found (adds spec b x)
already spec found found' true x e note = note
already spec found found' false x e note = cc

pub unfit : (spec : Spec) (found found' : Option (ℕ × ℕ)) (b s : Bool) (m : Option Meaning) (x : Name) → m ≡ declared spec x.text → s ≡ can_be_main m → s ≡ false
    → found' ≡ least_after found ((x.at, 14) ∷ []) → found' ≡ least_after found (adds spec b x)
unfit spec found found' b s m x is start bad note =
    let none : can_be_main (declared spec x.text) ≡ false = ap can_be_main (sym is) ∙ sym start ∙ bad in
    note ∙ ap (least_after found) (by_named b ∙ ap (λ c. cond (b || not c) ((x.at, 14) ∷ []) []) (sym none))
  where
    by_named : (b : Bool) → ◌≡◌ {A = List (ℕ × ℕ)} ((x.at, 14) ∷ []) (cond (b || true) ((x.at, 14) ∷ []) [])
    by_named true = refl
    by_named false = refl

pub fit : (spec : Spec) (found : Option (ℕ × ℕ)) (b s : Bool) (m : Option Meaning) (x : Name) → m ≡ declared spec x.text → s ≡ can_be_main m → b ≡ false → s ≡ true
    → found ≡ least_after found (adds spec b x)
fit spec found b s m x is start first good =
    let some : can_be_main (declared spec x.text) ≡ true = ap can_be_main (sym is) ∙ sym start ∙ good in
    ap (least_after found) (sym (ap (λ c. cond (c || not (can_be_main (declared spec x.text))) ((x.at, 14) ∷ []) []) first ∙ ap (λ c. cond (not c) ((x.at, 14) ∷ []) []) some))
