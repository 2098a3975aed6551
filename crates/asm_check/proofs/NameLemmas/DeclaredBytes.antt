-- Free. The bytes of declared names, as a digest takes them, one after another.
use Rattle.std.proofs.Common.{◌≡◌, ℕ, ◌+◌, ◌<◌, List, [], ◌∷◌, ◌++◌, length, take, get_or, map, flat_map, sym, ap, subst, ◌∙◌, append_assoc, append-nil}
use Rattle.std.proofs.lemmas.Grind.{flat_map-append}
use Rattle.std.proofs.lemmas.List.{take_more}
use Rattle.std.proofs.lemmas.List.Folds.{flat_map-map}
use Rattle.sha2.specs.declared.Sha256.{Sha256}
use Rattle.sha2.specs.Hashers.{Holds256}
use Rattle.asm_syntax.specs.SourceTree.{Name}
use Rattle.asm_check.specs.code.names.NameHash.{name_bytes}
use Rattle.asm_check.specs.Names.{Text, Declaration, declares, Element}

-- the bytes of one more of a list
flat_taken : {X : Type 0} (bytes : X → List ℕ) (xs : List X) (i : ℕ) (x : X) → i < length xs → x ≡ get_or xs i x → flat_map bytes (take (i + 1) xs) ≡ flat_map bytes (take i xs) ++ bytes x
flat_taken bytes xs i x within is =
    ap (flat_map bytes) (take_more xs i x within ∙ ap (λ y. take i xs ++ y ∷ []) (sym is))
    ∙ flat_map-append bytes (take i xs) (x ∷ [])
    ∙ ap (λ ys. flat_map bytes (take i xs) ++ ys) (append-nil (bytes x))

-- a digest that holds the bytes so far takes those of one more
pub one_held : {X : Type 0} (bytes : X → List ℕ) (new : Sha256) (m : List ℕ) (xs : List X) (i : ℕ) (x : X) → i < length xs → x ≡ get_or xs i x
    → Holds256 new ((m ++ flat_map bytes (take i xs)) ++ bytes x) → Holds256 new (m ++ flat_map bytes (take (i + 1) xs))
one_held bytes new m xs i x within is held =
    subst (Holds256 new) (append_assoc m (flat_map bytes (take i xs)) (bytes x) ∙ ap (λ ys. m ++ ys) (sym (flat_taken bytes xs i x within is))) held

pub none_held : (d : Sha256) (m : List ℕ) → Holds256 d m → Holds256 d (m ++ [])
none_held d m held = subst (Holds256 d) (sym (append-nil m)) held

-- the bytes of an enumeration
pub enumeration_held : {X : Type 0} (name_of : X → Name) (d : Sha256) (m : List ℕ) (x : Text) (k : ℕ) (xs : List X) → Holds256 d ((m ++ name_bytes x) ++ flat_map (λ y. name_bytes (name_of y).text) xs)
    → Holds256 d (m ++ (name_bytes x ++ flat_map (λ (e : Declaration). name_bytes e.name.text) (map (λ y. declares y (Element k)) (map name_of xs))))
enumeration_held name_of d m x k xs held =
    subst (Holds256 d) (append_assoc m (name_bytes x) (flat_map (λ y. name_bytes (name_of y).text) xs)
    ∙ ap (λ ys. m ++ (name_bytes x ++ ys)) (sym (flat_map-map (λ (e : Declaration). name_bytes e.name.text) (λ y. declares y (Element k)) (map name_of xs) ∙ flat_map-map (λ y. name_bytes y.text) name_of xs))) held
