-- Free. Texts, each once.
use Rattle.std.proofs.Common.{◌≡◌, ◌∙◌, ◌++◌, ℕ, Bool, true, false, cond, List, [], ◌∷◌, Option, Some, sym, ap, Vec, Global}
use Rattle.std.specs.List.{list_any}
use Rattle.std.specs.Prelude.{option_to_list}
use Rattle.std.specs.Str.{bytes_eq}
use Rattle.std.proofs.lemmas.List.{append-nil, map-append}
use Rattle.asm_explore_because.specs.Because.{each_once}
use Rattle.asm_explore_because.specs.code.CodedParts.{text_of_some, texts_of}
use Rattle.asm_explore_because.proofs.Lists.{any_mapped}

abbrev Texts : Type 0
Texts = List (Vec ℕ Global)

added : (texts : Texts) (text : Vec ℕ Global) (o : Option (Vec ℕ Global)) (b : Bool) → o ≡ Some text → b ≡ list_any (λ other. bytes_eq other.items text.items) texts
    → each_once (texts_of texts) (option_to_list (text_of_some o)) ≡ cond b [] (text.items ∷ [])
added texts text o b is among =
    ap (λ o. each_once (texts_of texts) (option_to_list (text_of_some o))) is
    ∙ ap (λ b. cond b [] (text.items ∷ [])) (any_mapped (λ other. bytes_eq other text.items) (λ (it : Vec ℕ Global). it.items) texts ∙ sym among)

pub known_text : (texts : Texts) (text : Vec ℕ Global) (o : Option (Vec ℕ Global)) → o ≡ Some text → true ≡ list_any (λ other. bytes_eq other.items text.items) texts
    → texts_of texts ≡ texts_of texts ++ each_once (texts_of texts) (option_to_list (text_of_some o))
known_text texts text o is among = sym (ap (λ more. texts_of texts ++ more) (added texts text o true is among) ∙ append-nil (texts_of texts))

pub new_text : (texts new : Texts) (text : Vec ℕ Global) (o : Option (Vec ℕ Global)) → o ≡ Some text → false ≡ list_any (λ other. bytes_eq other.items text.items) texts
    → new ≡ texts ++ text ∷ [] → texts_of new ≡ texts_of texts ++ each_once (texts_of texts) (option_to_list (text_of_some o))
new_text texts new text o is among grown =
    ap texts_of grown ∙ map-append (λ (it : Vec ℕ Global). it.items) texts (text ∷ []) ∙ ap (λ more. texts_of texts ++ more) (sym (added texts text o false is among))
