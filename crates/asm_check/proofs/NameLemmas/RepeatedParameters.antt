-- Free. Names of a list that were in it before.
use Rattle.std.proofs.Common.{◌≡◌, ℕ, ◌+◌, ◌<◌, Bool, true, false, cond, not, ◌||◌, List, [], ◌∷◌, ◌++◌, length, take, get_or, map, flat_map, Option, refl, sym, ap, subst, ◌∙◌, append-nil}
use Rattle.std.specs.Borrow.{Bor}
use Rattle.std.specs.List.{list_any}
use Rattle.std.proofs.lemmas.Grind.{flat_map-append}
use Rattle.std.proofs.lemmas.List.{map-append, take_more}
use Rattle.std.proofs.Math.Bool.{or-false, not-not}
use Rattle.asm_syntax.specs.SourceTree.{Name, Item}
use Rattle.asm_check.specs.Names.{Text, is_text, is_among, text_of}
use Rattle.asm_check.specs.Faults.{parameters_of}
use Rattle.asm_check.specs.code.FaultLists.{repeats, at_with}
use Rattle.asm_check.specs.code.names.Gathering.{IsSeen, parameter_faults}
use Rattle.asm_check.specs.code.LeastFaults.{least_after}
use Rattle.asm_check.specs.code.names.TextKeys.{is_key, is_spelled}
use Rattle.asm_check.proofs.UseLemmas.TextsInSets.{has_text, one_more_key}
use Rattle.asm_check.proofs.NameLemmas.Lookups.{text_turned}
use Rattle.asm_check.proofs.LeastSoFar.{noted_after}
use Rattle.asm_check.proofs.NameLemmas.RepeatedNames.{repeated_one, at_with_append}

any_one : {X : Type 0} (p : X → Bool) (xs : List X) (x : X) → list_any p (xs ++ x ∷ []) ≡ (list_any p xs || p x)
any_one p [] x = or-false (p x)
any_one p (y ∷ ys) x = by_test (p y) (any_one p ys x)
  where
    by_test : (b : Bool) → list_any p (ys ++ x ∷ []) ≡ (list_any p ys || p x) → (b || list_any p (ys ++ x ∷ [])) ≡ ((b || list_any p ys) || p x)
    by_test true rest = refl
    by_test false rest = rest

among_one : (xs : List Name) (x : Name) (y : Text) → is_among (map text_of (xs ++ x ∷ [])) y ≡ (is_among (map text_of xs) y || is_text x.text y)
among_one xs x y = ap (λ ts. is_among ts y) (map-append text_of xs (x ∷ [])) ∙ any_one (λ t. is_text t y) (map text_of xs) x.text

-- a search for a text among the keys, after one more was put with them
abbrev IsPut : List (Bor (List ℕ)) → Bor (List ℕ) → List (Bor (List ℕ)) → Type 0
IsPut keys key new = (q : Bor (List ℕ)) → list_any (λ k. is_spelled q.now k.now) new ≡ cond (is_spelled key.now q.now) true (list_any (λ k. is_spelled q.now k.now) keys)

module _ (first : Option (ℕ × ℕ)) (xs : List Name) (keys : List (Bor (List ℕ))) (found : Option (ℕ × ℕ)) (x : Name) (key : Bor (List ℕ)) (it : IsSeen first xs keys found) (is : key.now ≡ x.text) where
  there_or_not : (b : Bool) → b ≡ not (list_any (λ k. is_spelled key.now k.now) keys) → is_among (map text_of xs) x.text ≡ not b
  there_or_not b e =
      sym (ap not e ∙ not-not (list_any (λ k. is_spelled key.now k.now) keys) ∙ has_text keys key.now ∙ it.seen key.now ∙ ap (is_among (map text_of xs)) is)

  seen_put : (keys' : List (Bor (List ℕ))) → IsPut keys key keys' → (y : Text) → list_any (is_key y) keys' ≡ is_among (map text_of (xs ++ x ∷ [])) y
  seen_put keys' put y =
      one_more_key keys keys' key put y
      ∙ ap (λ b. b || is_key y key) (it.seen y)
      ∙ ap (λ b. is_among (map text_of xs) y || b) (text_turned y key.now ∙ ap (λ t. is_text t y) is)
      ∙ sym (among_one xs x y)

  -- a name that was seen
  seen_again : (keys' : List (Bor (List ℕ))) (found' : Option (ℕ × ℕ)) → false ≡ not (list_any (λ k. is_spelled key.now k.now) keys) → IsPut keys key keys' → found' ≡ least_after found ((x.at, 8) ∷ [])
      → IsSeen first (xs ++ x ∷ []) keys' found'
  seen_again keys' found' e put note = record {
    seen = seen_put keys' put;
    least = note ∙ noted_after first found (at_with 8 (repeats [] xs)) ((x.at, 8) ∷ []) it.least ∙ ap (least_after first) (sym (repeated_one xs x true (there_or_not false e)));
  }

  -- a new name
  seen_new : (keys' : List (Bor (List ℕ))) (found' : Option (ℕ × ℕ)) → true ≡ not (list_any (λ k. is_spelled key.now k.now) keys) → IsPut keys key keys' → found' ≡ found
      → IsSeen first (xs ++ x ∷ []) keys' found'
  seen_new keys' found' e put note = record {
    seen = seen_put keys' put;
    least = note ∙ noted_after first found (at_with 8 (repeats [] xs)) [] it.least ∙ ap (least_after first) (sym (repeated_one xs x false (there_or_not true e)));
  }

module _ {X : Type 0} (name_of : X → Name) (first : Option (ℕ × ℕ)) (xs : List X) (i : ℕ) (x : X) (keys : List (Bor (List ℕ))) (found : Option (ℕ × ℕ)) (key : Bor (List ℕ))
    (within : i < length xs) (is : x ≡ get_or xs i x) (it : IsSeen first (map name_of (take i xs)) keys found) (text : key.now ≡ (name_of x).text) where
  one_more : map name_of (take i xs) ++ name_of x ∷ [] ≡ map name_of (take (i + 1) xs)
  one_more = sym (ap (map name_of) (take_more xs i x within ∙ ap (λ y. take i xs ++ y ∷ []) (sym is)) ∙ map-append name_of (take i xs) (x ∷ []))

  pub again_step : (keys' : List (Bor (List ℕ))) (found' : Option (ℕ × ℕ)) (b : Bool) → b ≡ not (list_any (λ k. is_spelled key.now k.now) keys) → b ≡ false → IsPut keys key keys'
      → found' ≡ least_after found (((name_of x).at, 8) ∷ []) → IsSeen first (map name_of (take (i + 1) xs)) keys' found'
  again_step keys' found' b new known put note =
      subst (λ ys. IsSeen first ys keys' found') one_more (seen_again first (map name_of (take i xs)) keys found (name_of x) key it text keys' found' (sym known ∙ new) put note)

  pub new_step : (keys' : List (Bor (List ℕ))) (found' : Option (ℕ × ℕ)) (b : Bool) → b ≡ not (list_any (λ k. is_spelled key.now k.now) keys) → b ≡ true → IsPut keys key keys'
      → found' ≡ found → IsSeen first (map name_of (take (i + 1) xs)) keys' found'
  new_step keys' found' b new unknown put note =
      subst (λ ys. IsSeen first ys keys' found') one_more (seen_new first (map name_of (take i xs)) keys found (name_of x) key it text keys' found' (sym unknown ∙ new) put note)

-- before the first name
pub none_seen : (first found : Option (ℕ × ℕ)) (keys : List (Bor (List ℕ))) → keys ≡ [] → found ≡ first → IsSeen first [] keys found
none_seen first found keys none e = record { seen = λ x. ap (list_any (is_key x)) none; least = e }

-- one more item
pub parameters_step : {X : Type 0} (item_of : X → Item) (first found found' : Option (ℕ × ℕ)) (xs : List X) (i : ℕ) (x : X) (names : List Name) → i < length xs → x ≡ get_or xs i x
    → found ≡ least_after first (parameter_faults (map item_of (take i xs))) → names ≡ parameters_of (item_of x) → found' ≡ least_after found (at_with 8 (repeats [] names))
    → found' ≡ least_after first (parameter_faults (map item_of (take (i + 1) xs)))
parameters_step item_of first found found' xs i x names within is before are note =
    note
    ∙ noted_after first found (parameter_faults (map item_of (take i xs))) (at_with 8 (repeats [] names)) before
    ∙ ap (λ ys. least_after first (parameter_faults (map item_of (take i xs)) ++ at_with 8 (repeats [] ys))) are
    ∙ ap (least_after first) (sym all)
  where
    of_item : Item → List ℕ
    of_item item = repeats [] (parameters_of item)

    all : parameter_faults (map item_of (take (i + 1) xs)) ≡ parameter_faults (map item_of (take i xs)) ++ at_with 8 (repeats [] (parameters_of (item_of x)))
    all =
        ap (λ ys. parameter_faults (map item_of ys)) (take_more xs i x within ∙ ap (λ y. take i xs ++ y ∷ []) (sym is))
        ∙ ap parameter_faults (map-append item_of (take i xs) (x ∷ []))
        ∙ ap (at_with 8) (flat_map-append (λ item. repeats [] (parameters_of item)) (map item_of (take i xs)) (item_of x ∷ []))
        ∙ at_with_append 8 (flat_map (λ item. repeats [] (parameters_of item)) (map item_of (take i xs))) (repeats [] (parameters_of (item_of x)) ++ [])
        ∙ ap (λ ys. parameter_faults (map item_of (take i xs)) ++ at_with 8 ys) (append-nil (repeats [] (parameters_of (item_of x))))
