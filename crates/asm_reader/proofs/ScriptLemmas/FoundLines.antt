-- Free. Lines of a script that are found by their order.
use Rattle.std.proofs.Common.{◌≡◌, ℕ, zero, suc, ◌+◌, ◌<◌, ◌≤◌, ◌^◌, ◌&&◌, ◌||◌, Bool, true, false, cond, List, [], ◌∷◌, ◌++◌, length, take, drop, get_or, Option, Some, None, is_some, not, Result, Ok, Err, IfOk, refl, sym, ap, subst, ◌∙◌, inl, inr, arith, true≢false, nat_eq, ◌⊎◌}
use Rattle.std.specs.Cmp.{both_tied, unsigned_ties, nat_eq_equiv}
use Rattle.std.specs.Cmp.Lexicographic.{pointwise, bytes_decides}
use Rattle.std.specs.List.{list_any}
use Rattle.std.specs.Ordering.{nat_cmp}
use Rattle.std.proofs.lemmas.Bool.{eqb-true}
use Rattle.std.proofs.lemmas.List.{length-append, take-append-drop, take_more}
use Rattle.asm_reader.specs.code.PathNumbers.{is_pair, entry_at, AreShort, entry_from, path_number_from, number_of_path, count_of, IsTree, found, every_at, every_found, AreFound, AreEveryFound, HoldsScript, IsAdded, IsNext, HasPathNumber}
use Rattle.asm_reader.specs.ScriptLines.{Line, EveryLine, ForStep, ForEvery, Script, no_lines, is_line_of, is_line_at, exact_choice, every_choice}
use Rattle.asm_reader.specs.ScriptText.{has_line_of}
use Rattle.asm_reader.specs.code.LinesSaid.{then_line}

-- ---- what the lines say

any_exact : (lines : List Line) (s : ℕ) (p : List ℕ) → list_any (is_line_of s p) lines ≡ is_some (exact_choice lines s p)
any_exact [] s p = refl
any_exact (line ∷ lines) s p = by_test (is_line_of s p line) (any_exact lines s p)
  where
    by_test : (b : Bool) → list_any (is_line_of s p) lines ≡ is_some (exact_choice lines s p) → (b || list_any (is_line_of s p) lines) ≡ is_some (cond b (Some line.choice) (exact_choice lines s p))
    by_test true rest = refl
    by_test false rest = rest

any_every : (lines : List EveryLine) (p : List ℕ) → list_any (is_line_at p) lines ≡ is_some (every_choice lines p)
any_every [] p = refl
any_every (line ∷ lines) p = by_test (is_line_at p line) (any_every lines p)
  where
    by_test : (b : Bool) → list_any (is_line_at p) lines ≡ is_some (every_choice lines p) → (b || list_any (is_line_at p) lines) ≡ is_some (cond b (Some line.choice) (every_choice lines p))
    by_test true rest = refl
    by_test false rest = rest

abbrev or_last : Option ℕ → Bool → ℕ → Option ℕ
or_last None b c = cond b (Some c) None
or_last (Some n) b c = Some n

exact_last : (lines : List Line) (line : Line) (s : ℕ) (p : List ℕ) → exact_choice (lines ++ line ∷ []) s p ≡ or_last (exact_choice lines s p) (is_line_of s p line) line.choice
exact_last [] line s p = refl
exact_last (l ∷ ls) line s p = by_test (is_line_of s p l) (exact_last ls line s p)
  where
    by_test : (b : Bool) → exact_choice (ls ++ line ∷ []) s p ≡ or_last (exact_choice ls s p) (is_line_of s p line) line.choice
        → cond b (Some l.choice) (exact_choice (ls ++ line ∷ []) s p) ≡ or_last (cond b (Some l.choice) (exact_choice ls s p)) (is_line_of s p line) line.choice
    by_test true rest = refl
    by_test false rest = rest

every_last : (lines : List EveryLine) (line : EveryLine) (p : List ℕ) → every_choice (lines ++ line ∷ []) p ≡ or_last (every_choice lines p) (is_line_at p line) line.choice
every_last [] line p = refl
every_last (l ∷ ls) line p = by_test (is_line_at p l) (every_last ls line p)
  where
    by_test : (b : Bool) → every_choice (ls ++ line ∷ []) p ≡ or_last (every_choice ls p) (is_line_at p line) line.choice
        → cond b (Some l.choice) (every_choice (ls ++ line ∷ []) p) ≡ or_last (cond b (Some l.choice) (every_choice ls p)) (is_line_at p line) line.choice
    by_test true rest = refl
    by_test false rest = rest

unlast : (o : Option ℕ) (c : ℕ) → o ≡ or_last o false c
unlast None c = refl
unlast (Some x) c = refl

none_of : {A : Type 0} (o : Option A) → is_some o ≡ false → o ≡ None
none_of None e = refl
none_of (Some x) e = absurd (true≢false e)

-- ---- places and numbers

pair_parts : (n k i j : ℕ) → is_pair n k (i, j) ≡ (nat_eq n i && nat_eq k j)
pair_parts n k i j = sym (both_tied (nat_eq n i) (nat_eq k j) (nat_cmp n i) (nat_cmp k j) (unsigned_ties n i) (unsigned_ties k j))

both_true : (a b : Bool) → (a && b) ≡ true → (a ≡ true) × (b ≡ true)
both_true true b e = (refl, e)
both_true false b e = absurd (true≢false (sym e))

one_pair : (n k i j : ℕ) → is_pair n k (i, j) ≡ true → (n ≡ i) × (k ≡ j)
one_pair n k i j is =
    let parts = both_true (nat_eq n i) (nat_eq k j) (sym (pair_parts n k i j) ∙ is) in
    (eqb-true n i parts.0, eqb-true k j parts.1)

same_pair : (n k : ℕ) → is_pair n k (n, k) ≡ true
same_pair n k = pair_parts n k n k ∙ (λ j. nat_eq_equiv.refl n j && nat_eq_equiv.refl k j)

other_pair : (n k i j : ℕ) → (n ≡ i → k ≡ j → ⊥) → is_pair n k (i, j) ≡ false
other_pair n k i j never = by_test (is_pair n k (i, j)) refl
  where
    by_test : (b : Bool) → is_pair n k (i, j) ≡ b → b ≡ false
    by_test false is = refl
    by_test true is = let one = one_pair n k i j is in absurd (never one.0 one.1)

-- a number of 32 bits more
module _ (old new : List ((ℕ × ℕ) × ℕ)) (n k v : ℕ) (put : (i j : ℕ) → entry_at new i j ≡ cond (is_pair n k (i, j)) (Some v) (entry_at old i j)) where
  elsewhere : (i j : ℕ) → (n ≡ i → k ≡ j → ⊥) → entry_at new i j ≡ entry_at old i j
  elsewhere i j never = put i j ∙ ap (λ b. cond b (Some v) (entry_at old i j)) (other_pair n k i j never)

  pub put_short : k < 2 ^ 32 → AreShort old → AreShort new
  put_short small short i j long = elsewhere i j (λ e f. omega (arith, small, long, f)) ∙ short i j long

-- ---- where paths lead

module _ (ways : List ((ℕ × ℕ) × ℕ)) where
  pub place_from-append : (place : Option ℕ) (p q : List ℕ) → path_number_from ways place (p ++ q) ≡ path_number_from ways (path_number_from ways place p) q
  place_from-append place [] q = refl
  place_from-append place (k ∷ p) q = place_from-append (entry_from ways place k) p q

  pub place_from-nowhere : (p : List ℕ) → path_number_from ways None p ≡ None
  place_from-nowhere [] = refl
  place_from-nowhere (k ∷ p) = place_from-nowhere p

  pub place_of-push : (p : List ℕ) (n k : ℕ) → number_of_path ways p ≡ Some n → number_of_path ways (p ++ k ∷ []) ≡ entry_at ways n k
  place_of-push p n k at = place_from-append (Some 0) p (k ∷ []) ∙ ap (λ place. entry_from ways place k) at

  module _ (tree : IsTree ways) where
    below_from : (p : List ℕ) (i n : ℕ) → i < count_of ways → path_number_from ways (Some i) p ≡ Some n → n < count_of ways
    below_from [] i n low at = let same : i ≡ n = cc in omega (arith, same, low)
    below_from (k ∷ p) i n low at = by_next (λ j. below_from p j n) (entry_at ways i k) refl
      where
        by_next : ((j : ℕ) → j < count_of ways → path_number_from ways (Some j) p ≡ Some n → n < count_of ways) → (o : Option ℕ) → entry_at ways i k ≡ o → n < count_of ways
        by_next rest None is =
            let nothing : Some n ≡ None = sym at ∙ ap (λ place. path_number_from ways place p) is ∙ place_from-nowhere p in
            absurd cc
        by_next rest (Some j) is = rest j (tree.inside i k j is) (sym (ap (λ place. path_number_from ways place p) is) ∙ at)

    pub below : (p : List ℕ) (n : ℕ) → number_of_path ways p ≡ Some n → n < count_of ways
    below p n at = below_from p 0 n (omega arith) at

-- ---- a path, one more number at a time

module _ (ways : List ((ℕ × ℕ) × ℕ)) (path : List ℕ) (i d n : ℕ) (within : i < length path) (at : number_of_path ways (take i path) ≡ Some n) where
  next_place : number_of_path ways (take (i + 1) path) ≡ entry_at ways n (get_or path i d)
  next_place = ap (number_of_path ways) (take_more path i d within) ∙ place_of-push ways (take i path) n (get_or path i d) at

  pub leads_on : (m : ℕ) → Some m ≡ entry_at ways n (get_or path i d) → number_of_path ways (take (i + 1) path) ≡ Some m
  leads_on m there = next_place ∙ sym there

  pub leads_nowhere : None ≡ entry_at ways n (get_or path i d) → None ≡ number_of_path ways path
  leads_nowhere nowhere = sym (
      ap (number_of_path ways) (sym (take-append-drop (i + 1) path)) ∙ place_from-append ways (Some 0) (take (i + 1) path) (drop (i + 1) path)
      ∙ ap (λ place. path_number_from ways place (drop (i + 1) path)) (next_place ∙ sym nowhere) ∙ place_from-nowhere ways (drop (i + 1) path)
      )

-- ---- a number leads to a new place

no_slot : (slots : List (Option ℕ)) (m : ℕ) → length slots ≤ m → get_or slots m None ≡ None
no_slot [] m h = refl
no_slot (x ∷ slots) zero h = absurd (omega (arith, h))
no_slot (x ∷ slots) (suc m) h = no_slot slots m (omega (arith, h))

module _ (old new : List ((ℕ × ℕ) × ℕ)) (q : List ℕ) (n k m : ℕ) (tree : IsTree old) (at : number_of_path old q ≡ Some n) (added : IsAdded old n k m new) where
  abbrev p : List ℕ
  p = q ++ k ∷ []

  n_below : n < count_of old
  n_below = below old tree q n at

  other_entry : (i j : ℕ) → is_pair n k (i, j) ≡ false → entry_at new i j ≡ entry_at old i j
  other_entry i j other = added.put i j ∙ ap (λ b. cond b (Some m) (entry_at old i j)) other

  -- nothing leads on from the new place
  nothing_behind : (j : ℕ) → entry_at new m j ≡ None
  nothing_behind j =
      let number = added.number in
      let low = n_below in
      elsewhere old new n k m added.put m j (λ e f. omega (arith, number, low, e)) ∙ tree.fresh m j (omega (arith, number))

  abbrev Goes : List ℕ → ℕ → Type 0
  Goes r i = (path_number_from new (Some i) r ≡ path_number_from old (Some i) r) ⊎ ((a : List ℕ) × (r ≡ a ++ k ∷ []) × (path_number_from old (Some i) a ≡ Some n))

  goes : (r : List ℕ) (i : ℕ) → i < count_of old → Goes r i
  goes [] i low = inl refl
  goes (j ∷ r) i low = by_pair (λ l. goes r l) (is_pair n k (i, j)) refl
    where
      here : (r : List ℕ) → is_pair n k (i, j) ≡ true → Goes (j ∷ r) i
      here [] is = let one = one_pair n k i j is in inr ([], ap (λ x. x ∷ []) (sym one.1), ap Some (sym one.0))
      here (x ∷ r) is =
          let one = one_pair n k i j is in
          let led : entry_at new i j ≡ Some m = added.put i j ∙ ap (λ b. cond b (Some m) (entry_at old i j)) is in
          let none : entry_at old i j ≡ None = (λ l. entry_at old (sym one.0 l) (sym one.1 l)) ∙ added.absent in
          inl (ap (λ place. path_number_from new place (x ∷ r)) led ∙ ap (λ place. path_number_from new place r) (nothing_behind x) ∙ place_from-nowhere new r
          ∙ sym (ap (λ place. path_number_from old place (x ∷ r)) none ∙ place_from-nowhere old r))

      by_next : ((l : ℕ) → l < count_of old → Goes r l) → entry_at new i j ≡ entry_at old i j → (o : Option ℕ) → entry_at old i j ≡ o → Goes (j ∷ r) i
      by_next rest same None is =
          inl (ap (λ place. path_number_from new place r) (same ∙ is) ∙ place_from-nowhere new r ∙ sym (ap (λ place. path_number_from old place r) is ∙ place_from-nowhere old r))
      by_next rest same (Some l) is = elim (rest l (tree.inside i j l is)) [
        | inl e ↦ inl (ap (λ place. path_number_from new place r) (same ∙ is) ∙ e ∙ sym (ap (λ place. path_number_from old place r) is))
        | inr w ↦ inr (j ∷ w.0, ap (λ s. j ∷ s) w.1, ap (λ place. path_number_from old place w.0) is ∙ w.2)
      ]

      by_pair : ((l : ℕ) → l < count_of old → Goes r l) → (b : Bool) → is_pair n k (i, j) ≡ b → Goes (j ∷ r) i
      by_pair rest true is = here r is
      by_pair rest false other = by_next rest (other_entry i j other) (entry_at old i j) refl

  -- no other path has got a place
  others : (r : List ℕ) → (r ≡ p → ⊥) → number_of_path new r ≡ number_of_path old r
  others r other = elim (goes r 0 (omega arith)) [
    | inl e ↦ e
    | inr w ↦ absurd (other (w.1 ∙ ap (λ a. a ++ k ∷ []) (tree.apart w.0 q n w.2 at)))
  ]

  its : number_of_path new p ≡ Some m
  its =
      let shorter : q ≡ p → ⊥ = λ e. omega (arith, ap length e, length-append q (k ∷ [])) in
      place_of-push new q n k (others q shorter ∙ at) ∙ added.put n k ∙ ap (λ b. cond b (Some m) (entry_at old n k)) (same_pair n k)

  was_nowhere : number_of_path old p ≡ None
  was_nowhere = place_of-push old q n k at ∙ added.absent

  -- when the path is the new one, or another
  by_path : (r : List ℕ) → (p ≡ r) ⊎ (number_of_path new r ≡ number_of_path old r)
  by_path r = by_test (pointwise nat_eq p r) refl
    where
      by_test : (b : Bool) → pointwise nat_eq p r ≡ b → (p ≡ r) ⊎ (number_of_path new r ≡ number_of_path old r)
      by_test true is = inl ((bytes_decides p r).0 is)
      by_test false is = inr (others r (λ e. true≢false (sym ((bytes_decides p r).1 (sym e)) ∙ is)))

  its_number : (r : List ℕ) (i : ℕ) → p ≡ r → number_of_path new r ≡ Some i → i ≡ m
  its_number r i one there =
      let same : Some i ≡ Some m = sym there ∙ ap (number_of_path new) (sym one) ∙ its in
      cc

  never : (q r : List ℕ) (i : ℕ) → p ≡ q → number_of_path new r ≡ number_of_path old r → number_of_path new q ≡ Some i → number_of_path new r ≡ Some i → ⊥
  never q r i one other a b =
      let same = its_number q i one a in
      let number = added.number in
      let low = below old tree r i (sym other ∙ b) in
      omega (arith, same, number, low)

  tree_more : IsTree new
  tree_more = record { apart = apart_so; inside = inside_so; fresh = fresh_so; short = put_short old new n k m added.put added.short tree.short }
    where
      apart_so : (q r : List ℕ) (i : ℕ) → number_of_path new q ≡ Some i → number_of_path new r ≡ Some i → q ≡ r
      apart_so q r i a b = by (by_path q) (by_path r)
        where
          by : (p ≡ q) ⊎ (number_of_path new q ≡ number_of_path old q) → (p ≡ r) ⊎ (number_of_path new r ≡ number_of_path old r) → q ≡ r
          by (inl e) (inl f) = sym e ∙ f
          by (inl e) (inr f) = absurd (never q r i e f a b)
          by (inr e) (inl f) = absurd (never r q i f e b a)
          by (inr e) (inr f) = tree.apart q r i (sym e ∙ a) (sym f ∙ b)

      inside_so : (i j l : ℕ) → entry_at new i j ≡ Some l → l < count_of new
      inside_so i j l led = by (is_pair n k (i, j)) refl
        where
          by : (b : Bool) → is_pair n k (i, j) ≡ b → l < count_of new
          by true is =
              let same : Some l ≡ Some m = sym led ∙ added.put i j ∙ ap (λ b. cond b (Some m) (entry_at old i j)) is in
              let one : l ≡ m = cc in
              let number = added.number in
              let more = added.count in
              omega (arith, one, number, more)
          by false other =
              let low = tree.inside i j l (sym (other_entry i j other) ∙ led) in
              let more = added.count in
              omega (arith, low, more)

      fresh_so : (i j : ℕ) → count_of new ≤ i → entry_at new i j ≡ None
      fresh_so i j above =
          let low = n_below in
          let more = added.count in
          elsewhere old new n k m added.put i j (λ e f. omega (arith, low, more, above, e)) ∙ tree.fresh i j (omega (arith, above, more))

  found_more : (lines : List Line) (exact : List ((ℕ × ℕ) × ℕ)) → AreFound lines old exact → AreFound lines new exact
  found_more lines exact are = record {
    finds = λ s r. by s r (by_path r);
    fresh = λ i s above. let more = added.count in are.fresh i s (omega (arith, above, more));
    short = are.short;
  }
    where
      by : (s : ℕ) (r : List ℕ) → (p ≡ r) ⊎ (number_of_path new r ≡ number_of_path old r) → found new exact s r ≡ exact_choice lines s r
      by s r (inl one) =
          let number = added.number in
          ap (λ t. found new exact s t) (sym one) ∙ ap (λ place. entry_from exact place s) its ∙ are.fresh m s (omega (arith, number))
          ∙ sym (ap (λ place. entry_from exact place s) was_nowhere) ∙ are.finds s p ∙ ap (exact_choice lines s) one
      by s r (inr other) = ap (λ place. entry_from exact place s) other ∙ are.finds s r

  every_more : (lines : List EveryLine) (every : List (Option ℕ)) → AreEveryFound lines old every → AreEveryFound lines new every
  every_more lines every are = record {
    finds = λ r. by r (by_path r);
    room = let room = are.room in let more = added.count in omega (arith, room, more);
  }
    where
      by : (r : List ℕ) → (p ≡ r) ⊎ (number_of_path new r ≡ number_of_path old r) → every_found new every r ≡ every_choice lines r
      by r (inl one) =
          let number = added.number in
          let room = are.room in
          ap (λ t. every_found new every t) (sym one) ∙ ap (every_at every) its ∙ no_slot every m (omega (arith, number, room))
          ∙ sym (ap (every_at every) was_nowhere) ∙ are.finds p ∙ ap (every_choice lines) one
      by r (inr other) = ap (every_at every) other ∙ are.finds r

  pub kept_added : (script : Script) (exact : List ((ℕ × ℕ) × ℕ)) (every : List (Option ℕ)) → HoldsScript script old exact every → HoldsScript script new exact every × (number_of_path new p ≡ Some m)
  kept_added script exact every kept =
      let more : HoldsScript script new exact every = record { tree = tree_more; exact = found_more script.exact exact kept.exact; every = every_more script.every every kept.every } in
      (more, its)

-- a path that is longer by a number
pub placed_more : (old middle new : List ((ℕ × ℕ) × ℕ)) (q : List ℕ) (n k m : ℕ) → HasPathNumber old q n middle → IsNext middle n k m new → HasPathNumber old (q ++ k ∷ []) m new
placed_more old middle new q n k m before (inl same) script exact every kept =
    let was = before script exact every kept in
    (subst (λ ways. HoldsScript script ways exact every) (sym same.0) was.0, ap (λ ways. number_of_path ways (q ++ k ∷ [])) same.0 ∙ place_of-push middle q n k was.1 ∙ same.1)
placed_more old middle new q n k m before (inr added) script exact every kept =
    let was = before script exact every kept in
    kept_added middle new q n k m was.0.tree was.1 added script exact every was.0

-- one way more at most
pub room_more : (old new : List ((ℕ × ℕ) × ℕ)) (n k m : ℕ) → IsNext old n k m new → length new ≤ length old + 1
room_more old new n k m (inl same) = omega (arith, ap length same.0)
room_more old new n k m (inr added) = let more = added.count in omega (arith, more)

-- ---- one more line

-- paths are at one place when they are one
paths_parts : (ways : List ((ℕ × ℕ) × ℕ)) (p : List ℕ) (n : ℕ) → IsTree ways → number_of_path ways p ≡ Some n → (q : List ℕ) (m : ℕ) → number_of_path ways q ≡ Some m → nat_eq n m ≡ pointwise nat_eq p q
paths_parts ways p n tree at q m there = by_tests (nat_eq n m) refl (pointwise nat_eq p q) refl
  where
    by_tests : (a : Bool) → nat_eq n m ≡ a → (b : Bool) → pointwise nat_eq p q ≡ b → a ≡ b
    by_tests true e true f = refl
    by_tests false e false f = refl
    by_tests true e false f =
        let same : n ≡ m = eqb-true n m e in
        let one : p ≡ q = tree.apart p q m (at ∙ ap Some same) there in
        sym ((bytes_decides p q).1 one) ∙ f
    by_tests false e true f =
        let one : p ≡ q = (bytes_decides p q).0 f in
        let same : Some n ≡ Some m = sym at ∙ ap (number_of_path ways) one ∙ there in
        let equal : n ≡ m = cc in
        sym e ∙ ap (nat_eq n) (sym equal) ∙ nat_eq_equiv.refl n

and_turned : (a b : Bool) → (a && b) ≡ (b && a)
and_turned true true = refl
and_turned true false = refl
and_turned false true = refl
and_turned false false = refl

module _ (lines : List Line) (ways old new : List ((ℕ × ℕ) × ℕ)) (line : Line) (n : ℕ) (tree : IsTree ways) (are : AreFound lines ways old) (at : number_of_path ways line.path ≡ Some n)
    (none : exact_choice lines line.step line.path ≡ None) (short : AreShort new)
    (put : (i s : ℕ) → entry_at new i s ≡ cond (is_pair n line.step (i, s)) (Some line.choice) (entry_at old i s)) where
  finds_so : (s : ℕ) (q : List ℕ) (o : Option ℕ) → number_of_path ways q ≡ o → entry_from new o s ≡ exact_choice (lines ++ line ∷ []) s q
  finds_so s q None there =
      let nothing : exact_choice lines s q ≡ None = sym (are.finds s q) ∙ ap (λ place. entry_from old place s) there in
      sym (exact_last lines line s q ∙ ap (λ o. or_last o (is_line_of s q line) line.choice) nothing ∙ ap (λ b. cond b (Some line.choice) None) (other (is_line_of s q line) refl))
    where
      other : (b : Bool) → is_line_of s q line ≡ b → b ≡ false
      other false is = refl
      other true is =
          let one : line.path ≡ q = (bytes_decides line.path q).0 (both_true (nat_eq line.step s) (pointwise nat_eq line.path q) is).1 in
          let both : Some n ≡ None = sym at ∙ ap (number_of_path ways) one ∙ there in
          cc
  finds_so s q (Some m) there =
      let same : is_pair n line.step (m, s) ≡ is_line_of s q line =
      pair_parts n line.step m s ∙ and_turned (nat_eq n m) (nat_eq line.step s) ∙ ap (λ b. nat_eq line.step s && b) (paths_parts ways line.path n tree at q m there) in
      let before : entry_at old m s ≡ exact_choice lines s q = sym (ap (λ place. entry_from old place s) there) ∙ are.finds s q in
      put m s ∙ ap (λ b. cond b (Some line.choice) (entry_at old m s)) same ∙ ap (cond (is_line_of s q line) (Some line.choice)) before
      ∙ by_test (is_line_of s q line) refl ∙ sym (exact_last lines line s q)
    where
      by_test : (b : Bool) → is_line_of s q line ≡ b → cond b (Some line.choice) (exact_choice lines s q) ≡ or_last (exact_choice lines s q) b line.choice
      by_test true is =
          let parts = both_true (nat_eq line.step s) (pointwise nat_eq line.path q) is in
          let step : line.step ≡ s = eqb-true line.step s parts.0 in
          let path : line.path ≡ q = (bytes_decides line.path q).0 parts.1 in
          let nothing : exact_choice lines s q ≡ None = ap (λ t. exact_choice lines t q) (sym step) ∙ ap (exact_choice lines line.step) (sym path) ∙ none in
          sym (ap (λ o. or_last o true line.choice) nothing)
      by_test false is = unlast (exact_choice lines s q) line.choice

  line_found : AreFound (lines ++ line ∷ []) ways new
  line_found = record {
    finds = λ s q. finds_so s q (number_of_path ways q) refl;
    fresh = λ i s above. let inside = below ways tree line.path n at in elsewhere old new n line.step line.choice put i s (λ e f. omega (arith, inside, above, e)) ∙ are.fresh i s above;
    short = short;
  }

module _ (script : Script) (ways exact : List ((ℕ × ℕ) × ℕ)) (every : List (Option ℕ)) (kept : HoldsScript script ways exact every) where
  -- what is at the place of a path
  exact_there : (s : ℕ) (p : List ℕ) (n : ℕ) → number_of_path ways p ≡ Some n → entry_at exact n s ≡ exact_choice script.exact s p
  exact_there s p n there = sym (ap (λ place. entry_from exact place s) there) ∙ kept.exact.finds s p

  every_there : (p : List ℕ) (n : ℕ) → number_of_path ways p ≡ Some n → get_or every n None ≡ every_choice script.every p
  every_there p n there = sym (ap (every_at every) there) ∙ kept.every.finds p

  pub says_exact : (line : Line) (n : ℕ) → number_of_path ways line.path ≡ Some n → has_line_of script (ForStep line) ≡ is_some (entry_at exact n line.step)
  says_exact line n at = any_exact script.exact line.step line.path ∙ ap is_some (sym (exact_there line.step line.path n at))

  pub says_every : (line : EveryLine) (n : ℕ) → number_of_path ways line.path ≡ Some n → has_line_of script (ForEvery line) ≡ is_some (get_or every n None)
  says_every line n at = any_every script.every line.path ∙ ap is_some (sym (every_there line.path n at))

  exact_kept : (line : Line) (n : ℕ) (more : List ((ℕ × ℕ) × ℕ)) → number_of_path ways line.path ≡ Some n → entry_at exact n line.step ≡ None → AreShort more
      → ((i s : ℕ) → entry_at more i s ≡ cond (is_pair n line.step (i, s)) (Some line.choice) (entry_at exact i s)) → HoldsScript (then_line script (ForStep line)) ways more every
  exact_kept line n more at free short put = record {
    tree = kept.tree;
    exact = line_found script.exact ways exact more line n kept.tree kept.exact at (sym (exact_there line.step line.path n at) ∙ free) short put;
    every = kept.every;
  }

  every_kept : (line : EveryLine) (n : ℕ) (filled : List (Option ℕ)) → number_of_path ways line.path ≡ Some n → get_or every n None ≡ None
      → ((c : ℕ) → n < c → length every ≤ c → length filled ≤ c) → ((m : ℕ) → get_or filled m None ≡ cond (nat_eq n m) (Some line.choice) (get_or every m None)) → HoldsScript (then_line script (ForEvery line)) ways exact filled
  every_kept line n filled at free room put = record {
    tree = kept.tree;
    exact = kept.exact;
    every = record { finds = λ q. every_so q (number_of_path ways q) refl; room = room (count_of ways) (below ways kept.tree line.path n at) kept.every.room };
  }
    where
      none : every_choice script.every line.path ≡ None
      none = sym (every_there line.path n at) ∙ free

      every_so : (q : List ℕ) (o : Option ℕ) → number_of_path ways q ≡ o → every_at filled (number_of_path ways q) ≡ every_choice (script.every ++ line ∷ []) q
      every_so q None there =
          let nothing : every_choice script.every q ≡ None = sym (kept.every.finds q) ∙ ap (every_at every) there in
          ap (every_at filled) there ∙ sym (every_last script.every line q ∙ ap (λ o. or_last o (is_line_at q line) line.choice) nothing ∙ ap (λ b. cond b (Some line.choice) None) (other (is_line_at q line) refl))
        where
          other : (b : Bool) → is_line_at q line ≡ b → b ≡ false
          other false is = refl
          other true is =
              let one : line.path ≡ q = (bytes_decides line.path q).0 is in
              let both : Some n ≡ None = sym at ∙ ap (number_of_path ways) one ∙ there in
              cc
      every_so q (Some m) there =
          let before : get_or every m None ≡ every_choice script.every q = sym (ap (every_at every) there) ∙ kept.every.finds q in
          ap (every_at filled) there ∙ put m ∙ ap (λ b. cond b (Some line.choice) (get_or every m None)) (paths_parts ways line.path n kept.tree at q m there)
          ∙ ap (cond (is_line_at q line) (Some line.choice)) before ∙ by_test (is_line_at q line) refl ∙ sym (every_last script.every line q)
        where
          by_test : (b : Bool) → is_line_at q line ≡ b → cond b (Some line.choice) (every_choice script.every q) ≡ or_last (every_choice script.every q) b line.choice
          by_test true is = sym (ap (λ o. or_last o true line.choice) (ap (every_choice script.every) (sym ((bytes_decides line.path q).0 is)) ∙ none))
          by_test false is = unlast (every_choice script.every q) line.choice

  -- the same, as it is returned
  pub exact_taken : {E : Type 0} (line : Line) (n : ℕ) (more : List ((ℕ × ℕ) × ℕ)) (r : Result Bool E) → number_of_path ways line.path ≡ Some n → IfOk r (λ free. is_some (entry_at exact n line.step) ≡ not free)
      → IfOk r (λ _. (i s : ℕ) → entry_at more i s ≡ cond (is_pair n line.step (i, s)) (Some line.choice) (entry_at exact i s)) → (AreShort exact → IfOk r (λ _. AreShort more))
      → IfOk r (λ added. added ≡ true → HoldsScript (then_line script (ForStep line)) ways more every)
  exact_taken line n more (Ok added) at free put short = λ took. exact_kept line n more at (none_of _ (free ∙ ap not took)) (short kept.exact.short) put
  exact_taken line n more (Err e) at free put short = tt

  pub every_taken : {E : Type 0} (line : EveryLine) (n : ℕ) (filled : List (Option ℕ)) (r : Result Bool E) → number_of_path ways line.path ≡ Some n → IfOk r (λ free. is_some (get_or every n None) ≡ not free)
      → IfOk r (λ _. (m : ℕ) → get_or filled m None ≡ cond (nat_eq n m) (Some line.choice) (get_or every m None)) → IfOk r (λ _. (c : ℕ) → n < c → length every ≤ c → length filled ≤ c)
      → IfOk r (λ added. added ≡ true → HoldsScript (then_line script (ForEvery line)) ways exact filled)
  every_taken line n filled (Ok added) at free put room = λ took. every_kept line n filled at (none_of _ (free ∙ ap not took)) room put
  every_taken line n filled (Err e) at free put room = tt

-- ---- a script without lines

module _ (ways exact : List ((ℕ × ℕ) × ℕ)) (every : List (Option ℕ)) (no_ways : ways ≡ []) (no_exact : exact ≡ []) (no_every : every ≡ []) where
  pub nothing_kept : HoldsScript no_lines ways exact every
  nothing_kept = subst (λ s. HoldsScript no_lines s exact every) (sym no_ways) (subst (λ e. HoldsScript no_lines [] e every) (sym no_exact) (subst (HoldsScript no_lines [] []) (sym no_every) nothing))
    where
      nowhere : (p : List ℕ) (n : ℕ) → number_of_path [] p ≡ Some n → p ≡ []
      nowhere [] n at = refl
      nowhere (k ∷ p) n at = let none : Some n ≡ None = sym at ∙ place_from-nowhere [] p in absurd cc

      exact_nowhere : (place : Option ℕ) (s : ℕ) → entry_from [] place s ≡ None
      exact_nowhere None s = refl
      exact_nowhere (Some n) s = refl

      every_nowhere : (place : Option ℕ) → every_at [] place ≡ None
      every_nowhere None = refl
      every_nowhere (Some n) = refl

      nothing : HoldsScript no_lines [] [] []
      nothing = record {
        tree = record {
          apart = λ p q n a b. nowhere p n a ∙ sym (nowhere q n b);
          inside = λ n k m led. absurd cc;
          fresh = λ n k above. refl;
          short = λ n k long. refl;
        };
        exact = record { finds = λ s p. exact_nowhere (number_of_path [] p) s; fresh = λ n s above. refl; short = λ n s long. refl };
        every = record { finds = λ p. every_nowhere (number_of_path [] p); room = omega arith };
      }
