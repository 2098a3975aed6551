-- Free. Names that are bound, each with its value.
--     any_offset, all_offsets     tests of names by their offsets
--     names_for        names that are in the text, one for each value
--     apart_from, all_apart    names from one on that are apart, and none
--     hidden_value, shown_value     a value whose name an inner one hides, and another
--     next_bound       one value more, before those that follow
--     all_bound        none follows
use Rattle.std.proofs.Common.{◌≡◌, ◌∙◌, ◌+◌, ◌<◌, ◌≤◌, ◌==◌, ℕ, Bool, true, false, ◌||◌, cond, get_or, append_assoc, append-nil, List, [], ◌∷◌, ◌++◌, length, min, take, drop, codes, inl, inr, ⊎_elim, refl, sym, ap, subst, arith}
use Rattle.std.specs.Prelude.{◌⊎◌, All, IsTrue}
use Rattle.std.specs.Cmp.{first_so, second_so}
use Rattle.std.specs.List.{list_all, list_any}
use Rattle.std.specs.Str.{bytes_eq}
use Rattle.std.proofs.lemmas.Bool.{cases_lt}
use Rattle.std.proofs.lemmas.List.{drop_all, drop_more, length-map, map-append, take_more}
use Rattle.std.proofs.lemmas.List.Elements.{All-cons, All-nil}
use denote.Ref.{Bor}
use Rattle.asm_state.specs.declared.value.Value.{Value}
use Rattle.asm_syntax.specs.declared.name.Name.{Name}
use Rattle.asm_run.specs.Trace.{TraceNames, value_text}
use Rattle.asm_explore_texts.specs.Positions.{is_name_at, name_at}
use Rattle.asm_explore_run.specs.ClashText.{AreApart, AreNamesFor, bound_text, bound_value}
use Rattle.asm_explore_run.specs.code.NameOffsets.{offsets}

pub any_offset : (p : ℕ → Bool) (names : List (Bor Name)) → list_any (λ n. p n.now.at) names ≡ list_any p (offsets names)
any_offset p [] = refl
any_offset p (n ∷ names) = ap (λ b. p n.now.at || b) (any_offset p names)

all_offsets : (p : ℕ → Bool) (names : List (Bor Name)) → list_all (λ n. p n.now.at) names ≡ true → All (λ at. IsTrue (p at)) (offsets names)
all_offsets p [] are = All-nil (λ at. IsTrue (p at))
all_offsets p (n ∷ names) are =
    All-cons (λ at. IsTrue (p at)) n.now.at (offsets names) (first_so (p n.now.at) (list_all (λ n. p n.now.at) names) are)
    (all_offsets p names (second_so (p n.now.at) (list_all (λ n. p n.now.at) names) are))

pub names_for : (text : List ℕ) (at : ℕ) (names : List (Bor Name)) (vs : List Value) → is_name_at text at ≡ true → length names ≡ length vs
    → list_all (λ n. is_name_at text n.now.at) names ≡ true → AreApart (offsets names) → AreNamesFor text at (offsets names) vs
names_for text at names vs place long are apart = record { place = place; names = all_offsets (is_name_at text) names are; each = length-map names (λ n. n.now.at) ∙ long; apart = apart }

-- those from one on are apart if it isn't among those behind it, and these are apart
pub apart_from : (names : List (Bor Name)) (i : ℕ) (n : Bor Name) → i < length names → n ≡ get_or names i n
    → list_any (λ name. name.now.at == n.now.at) (drop (i + 1) names) ≡ false → AreApart (offsets (drop (i + 1) names)) → AreApart (offsets (drop i names))
apart_from names i n low is none apart =
    let there : drop i names ≡ n ∷ drop (i + 1) names = drop_more names i n low ∙ ap (λ x. x ∷ drop (i + 1) names) (sym is) in
    subst (λ ns. AreApart (offsets ns)) (sym there) (sym (any_offset (λ at. at == n.now.at) (drop (i + 1) names)) ∙ none, apart)

pub all_apart : (names : List (Bor Name)) (i : ℕ) → length names ≤ i → AreApart (offsets (drop i names))
all_apart names i past = subst (λ ns. AreApart (offsets ns)) (sym (drop_all i names past)) tt

past_one : (m n i : ℕ) → min m n ≤ i → (m ≤ i) ⊎ (n ≤ i)
past_one m n i past = ⊎_elim (λ low. inr (omega (arith, low, past))) inl (cases_lt i m)

module _ (text : List ℕ) (shown : TraceNames) where
  pub hidden_value : (inner : List (Bor Name)) (at : ℕ) (v : Value) (line : List ℕ) → list_any (λ other. bytes_eq (name_at text other.now.at) (name_at text at)) inner ≡ true
      → line ≡ line ++ bound_value text shown (offsets inner) at v
  hidden_value inner at v line is =
      let own = codes ", " ++ (name_at text at ++ (codes " = " ++ value_text shown.elements v)) in
      let hidden = sym (any_offset (λ other. bytes_eq (name_at text other) (name_at text at)) inner) ∙ is in
      sym (append-nil line) ∙ ap (λ b. line ++ cond b [] own) (sym hidden)

  pub shown_value : (inner : List (Bor Name)) (at : ℕ) (v : Value) (old s t u new : List ℕ) → list_any (λ other. bytes_eq (name_at text other.now.at) (name_at text at)) inner ≡ false
      → s ≡ old ++ codes ", " → t ≡ s ++ name_at text at → u ≡ t ++ codes " = " → new ≡ u ++ value_text shown.elements v → new ≡ old ++ bound_value text shown (offsets inner) at v
  shown_value inner at v old s t u new is first second third fourth =
      let name = name_at text at in
      let value = value_text shown.elements v in
      let own = codes ", " ++ (name ++ (codes " = " ++ value)) in
      let visible = sym (any_offset (λ other. bytes_eq (name_at text other) (name_at text at)) inner) ∙ is in
      fourth ∙ ap (λ w. w ++ value) (third ∙ ap (λ w. w ++ codes " = ") (second ∙ ap (λ w. w ++ name) first))
      ∙ append_assoc ((old ++ codes ", ") ++ name) (codes " = ") value ∙ append_assoc (old ++ codes ", ") name (codes " = " ++ value) ∙ append_assoc old (codes ", ") (name ++ (codes " = " ++ value))
      ∙ ap (λ b. old ++ cond b [] own) (sym visible)

  pub next_bound : (names : List (Bor Name)) (vs : List Value) (i : ℕ) (n : Bor Name) (v : Value) (line new whole : List ℕ) → i < length names → i < length vs → n ≡ get_or names i n → v ≡ get_or vs i v
      → line ++ bound_text text shown (offsets (take i names)) (offsets (drop i names)) (drop i vs) ≡ whole
      → new ≡ line ++ bound_value text shown (offsets (take i names)) n.now.at v
      → new ++ bound_text text shown (offsets (take (i + 1) names)) (offsets (drop (i + 1) names)) (drop (i + 1) vs) ≡ whole
  next_bound names vs i n v line new whole low lower is_n is_v before is =
      let inner = offsets (take i names) in
      let names_left = drop (i + 1) names in
      let left = drop (i + 1) vs in
      let own = bound_value text shown inner n.now.at v in
      let name_there : drop i names ≡ n ∷ names_left = drop_more names i n low ∙ ap (λ x. x ∷ names_left) (sym is_n) in
      let value_there : drop i vs ≡ v ∷ left = drop_more vs i v lower ∙ ap (λ x. x ∷ left) (sym is_v) in
      let inner_more : offsets (take (i + 1) names) ≡ inner ++ n.now.at ∷ [] =
      ap offsets (take_more names i n low ∙ ap (λ x. take i names ++ x ∷ []) (sym is_n)) ∙ map-append (λ name. name.now.at) (take i names) (n ∷ []) in
      ap (λ t. t ++ bound_text text shown (offsets (take (i + 1) names)) (offsets names_left) left) is
      ∙ append_assoc line own (bound_text text shown (offsets (take (i + 1) names)) (offsets names_left) left)
      ∙ ap (λ xs. line ++ (own ++ bound_text text shown xs (offsets names_left) left)) inner_more
      ∙ sym (ap (λ xs. line ++ bound_text text shown inner (offsets xs) (drop i vs)) name_there ∙ ap (λ ws. line ++ bound_text text shown inner (offsets (n ∷ names_left)) ws) value_there)
      ∙ before

  no_values : (inner bound : List ℕ) → bound_text text shown inner bound [] ≡ []
  no_values inner [] = refl
  no_values inner (at ∷ bound) = refl

  none_left : (names : List (Bor Name)) (vs : List Value) (i : ℕ) → (length names ≤ i) ⊎ (length vs ≤ i)
      → bound_text text shown (offsets (take i names)) (offsets (drop i names)) (drop i vs) ≡ []
  none_left names vs i (inl past) = ap (λ xs. bound_text text shown (offsets (take i names)) (offsets xs) (drop i vs)) (drop_all i names past)
  none_left names vs i (inr past) =
      ap (λ ws. bound_text text shown (offsets (take i names)) (offsets (drop i names)) ws) (drop_all i vs past) ∙ no_values (offsets (take i names)) (offsets (drop i names))

  pub all_bound : (names : List (Bor Name)) (vs : List Value) (i : ℕ) (line whole : List ℕ) → min (length names) (length vs) ≤ i
      → line ++ bound_text text shown (offsets (take i names)) (offsets (drop i names)) (drop i vs) ≡ whole → line ≡ whole
  all_bound names vs i line whole past is = sym (append-nil line) ∙ ap (λ t. line ++ t) (sym (none_left names vs i (past_one (length names) (length vs) i past))) ∙ is
