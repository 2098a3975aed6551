-- Free. Each step keeps the rule of the table.
use Rattle.std.proofs.Common.{◌≡◌, ◌≢◌, ◌⊎◌, ℕ, zero, suc, ◌<◌, ◌≤◌, min, max, List, [], ◌∷◌, ◌++◌, get_or, set, Some, None, Option, refl, sym, ap, ◌∙◌, subst, inl, inr, ⊎_elim, arith, length-set, get_or-set_same, get_or-set_other}
use Rattle.std.specs.Prelude.{Contains, flat_map}
use mathlib.Core.Option.{some, some-injective, some-ne-none}
use mathlib.Core.Logic.{dite}
use native.Mathlib.Decide.{ℕ_discrete}
use lib.ListN.{get_elem?}
use Rattle.atomic_table.specs.Table.{State, Me, keeps, stepped, opening, Allows, Splits, Joins, Final, Seen}
use Rattle.atomic_table.proofs.Lists.{at_set}
use Rattle.asm_striped.specs.declared.board.Put.{Put}
use Rattle.asm_striped.specs.declared.board.Known.{Known}
use Rattle.asm_striped.specs.declared.board.TableSize.{TableSize}
use Rattle.asm_striped.specs.code.Log.{low_mark, high_mark, IsPut, values_at, lows_at, highs_at, least, greatest}
use Rattle.asm_striped.specs.code.Board.{AreMarks, seats_place, low_place, high_place, listed, lows_counted, highs_counted, low_puts, high_puts, opening_view, spent, WerePut, LowsWerePut, HighsWerePut, IsBoard, after_begin, after_end, AtMostKnown, AtLeastKnown, IsLowPut, IsHighPut, giver, taker, joined}
use Rattle.asm_striped.proofs.Members.{In, in_left, in_right, in_cases, in_snoc, all_of, all_at, contained, member, Same, Grows, same_as, same_after, grows_snoc, values_kept, values_grow, values_other, values_same, in_flat, view_of, each_set, each_snoc, flat_grows, flat_same, flat_snoc, flat_joins}
use Rattle.asm_striped.proofs.Extremes.{least_mark, least_low, least_stands, least_same, least_grows, greatest_high, greatest_stands, greatest_same, greatest_grows}
use Rattle.asm_striped.proofs.Parts.{total_set, total_snoc, others_have_none}

module _ (value : Put → ℕ) (mark : ℕ) where
  -- what was put stays so when more is put
  were_put_more : (known : List (ℕ × ℕ)) (es fs : List Put) → ((e : Put) → In e es → In e fs) → WerePut value mark known es → WerePut value mark known fs
  were_put_more known es fs kept old =
      all_of (λ k. (k.1 ≡ mark) ⊎ Contains (values_at value k.0 fs) k.1) known
      (λ k i. ⊎_elim (λ m. inl m) (λ c. inr (contained (values_at value k.0 fs) k.1 (values_kept value k.0 es fs kept k.1 (member (values_at value k.0 es) k.1 c))))
      (all_at (λ k. (k.1 ≡ mark) ⊎ Contains (values_at value k.0 es) k.1) known k old i))

  were_put_both : (known more : List (ℕ × ℕ)) (es : List Put) → WerePut value mark known es → WerePut value mark more es → WerePut value mark (known ++ more) es
  were_put_both known more es a b =
      let P : ℕ × ℕ → Type 0 = λ k. (k.1 ≡ mark) ⊎ Contains (values_at value k.0 es) k.1 in
      all_of P (known ++ more) (λ k i. ⊎_elim (λ l. all_at P known k a l) (λ r. all_at P more k b r) (in_cases k known more i))

  -- the value put and the value found
  were_put_two : (n put found : ℕ) (es : List Put) → In put (values_at value n es) → (found ≡ mark) ⊎ In found (values_at value n es) → WerePut value mark ((n, put) ∷ (n, found) ∷ []) es
  were_put_two n put found es p f =
      let P : ℕ × ℕ → Type 0 = λ k. (k.1 ≡ mark) ⊎ Contains (values_at value k.0 es) k.1 in
      all_of P ((n, put) ∷ (n, found) ∷ [])
      (λ k i. ⊎_elim (λ e. subst P (sym e) (inr (contained (values_at value n es) put p)))
      (λ r. ⊎_elim (λ e. subst P (sym e) (⊎_elim (λ m. inl m) (λ c. inr (contained (values_at value n es) found c)) f)) (λ none. absurd none) r) i)

abbrev S : Type 0
S = State (Unit {0}) Known

abbrev M : Type 0
M = Me (Unit {0}) Known

module _ (extent : TableSize) where
  pub begins : (s : S) (me : M) (id : ℕ) (e : Put) → IsBoard extent s → get_elem? s.views id ≡ some me.0 → me.0.begun ≡ None → 0 < me.0.parts → IsPut extent.count e
      → let found = get_or s.words (low_place e.location) 0 in IsBoard extent (stepped s (low_place e.location) (min found e.low) id me.1 (after_begin me.0 e found) keeps)
  begins s me id e r at idle share is = record {
    shows = record {
      size = length-set s.words (low_place e.location) (min found e.low) ∙ r.shows.size;
      seats = get_or-set_other s.words (low_place e.location) seats_place (min found e.low) 0 (λ same. absurd (omega arith)) ∙ r.shows.seats;
      low_words = λ n h. dite (ℕ_discrete e.location n) (λ here. low_here n h here) (λ other. low_other n h other);
      high_words = λ n h.
          get_or-set_other s.words (low_place e.location) (high_place n) (min found e.low) 0 (λ same. absurd (omega arith))
          ∙ r.shows.high_words n h ∙ greatest_same _ _ (values_same (λ x. x.high) n _ _ high_kept);
      parts = (let t = total_set s.views id me.0 w at in let p = r.shows.parts in omega arith);
    };
    only_spent = each_set (λ v. v.parts ≡ 0 → v ≡ spent) (λ v. v.parts ≡ 0 → v ≡ spent) s.views id w (λ v p. p) (λ none. absurd (omega arith)) r.only_spent;
    entries = all_of (IsPut extent.count) (low_puts after) (λ y i. ⊎_elim (λ old. all_at (IsPut extent.count) (low_puts s.views) y r.entries old) (λ new. subst (IsPut extent.count) (sym new) is) (grown.only y i));
    lows = each_set (λ v. LowsWerePut v.lows (low_puts s.views)) (λ v. LowsWerePut v.lows (low_puts after)) s.views id w (λ v p. lows_more v.lows p) mine r.lows;
    highs = each_set (λ v. HighsWerePut v.highs (high_puts s.views)) (λ v. HighsWerePut v.highs (high_puts after)) s.views id w (λ v p. highs_more v.highs p) (highs_more me.0.highs (r.highs id me.0 at)) r.highs;
  }
    where
      found : ℕ
      found = get_or s.words (low_place e.location) 0

      w : Known
      w = after_begin me.0 e found

      after : List Known
      after = set s.views id w

      before_entries : lows_counted me.0 ≡ me.0.log ++ []
      before_entries = ap (λ (b : Option Put). me.0.log ++ listed b) idle

      begun : Grows (lows_counted me.0) (lows_counted w) e
      begun = record {
        kept = λ y i. in_left y me.0.log (e ∷ []) (⊎_elim (λ a. a) (λ none. absurd none) (in_cases y me.0.log [] (subst (In y) before_entries i)));
        added = in_right e me.0.log (e ∷ []) (inl refl);
        only = λ y i. ⊎_elim (λ old. inl (in_left y me.0.log (listed me.0.begun) old)) (λ new. inr new) (in_snoc y e me.0.log i);
      }

      grown : Grows (low_puts s.views) (low_puts after) e
      grown = flat_grows lows_counted s.views id me.0 w at e begun

      high_kept : Same (high_puts s.views) (high_puts after)
      high_kept = flat_same highs_counted s.views id me.0 w at (same_as me.0.log)

      lows_more : (known : List (ℕ × ℕ)) → LowsWerePut known (low_puts s.views) → LowsWerePut known (low_puts after)
      lows_more known = were_put_more (λ x. x.low) low_mark known (low_puts s.views) (low_puts after) grown.kept

      highs_more : (known : List (ℕ × ℕ)) → HighsWerePut known (high_puts s.views) → HighsWerePut known (high_puts after)
      highs_more known = were_put_more (λ x. x.high) high_mark known (high_puts s.views) (high_puts after) high_kept.there

      found_is : found ≡ least (lows_at e.location (low_puts s.views))
      found_is = r.shows.low_words e.location is.location

      low_grown : Grows (lows_at e.location (low_puts s.views)) (lows_at e.location (low_puts after)) e.low
      low_grown = values_grow (λ x. x.low) e.location (low_puts s.views) (low_puts after) e grown refl

      low_here : (n : ℕ) → n < extent.count → e.location ≡ n → get_or (set s.words (low_place e.location) (min found e.low)) (low_place n) 0 ≡ least (lows_at n (low_puts after))
      low_here n h here = subst (λ m. get_or (set s.words (low_place e.location) (min found e.low)) (low_place m) 0 ≡ least (lows_at m (low_puts after))) here
          (get_or-set_same s.words (low_place e.location) (min found e.low) 0 (let z = r.shows.size in let l = is.location in omega arith)
          ∙ ap (λ m. min m e.low) found_is ∙ least_grows _ _ e.low low_grown)

      low_other : (n : ℕ) → n < extent.count → e.location ≢ n → get_or (set s.words (low_place e.location) (min found e.low)) (low_place n) 0 ≡ least (lows_at n (low_puts after))
      low_other n h other =
          get_or-set_other s.words (low_place e.location) (low_place n) (min found e.low) 0 (λ same. other (omega arith))
          ∙ r.shows.low_words n h ∙ least_same _ _ (values_other (λ x. x.low) n (low_puts s.views) (low_puts after) e grown other)

      mine : LowsWerePut w.lows (low_puts after)
      mine = were_put_both (λ x. x.low) low_mark me.0.lows ((e.location, e.low) ∷ (e.location, found) ∷ []) (low_puts after) (lows_more me.0.lows (r.lows id me.0 at))
          (were_put_two (λ x. x.low) low_mark e.location e.low found (low_puts after) low_grown.added
          (⊎_elim (λ m. inl (found_is ∙ m)) (λ i. inr (low_grown.kept found (subst (λ y. In y (lows_at e.location (low_puts s.views))) (sym found_is) i))) (least_stands (lows_at e.location (low_puts s.views)))))

  pub ends : (s : S) (me : M) (id : ℕ) (e : Put) → IsBoard extent s → get_elem? s.views id ≡ some me.0 → me.0.begun ≡ Some e → 0 < me.0.parts
      → let found = get_or s.words (high_place e.location) 0 in IsBoard extent (stepped s (high_place e.location) (max found e.high) id me.1 (after_end me.0 e found) keeps)
  ends s me id e r at begun share = record {
    shows = record {
      size = length-set s.words (high_place e.location) (max found e.high) ∙ r.shows.size;
      seats = get_or-set_other s.words (high_place e.location) seats_place (max found e.high) 0 (λ same. absurd (omega arith)) ∙ r.shows.seats;
      low_words = λ n h.
          get_or-set_other s.words (high_place e.location) (low_place n) (max found e.high) 0 (λ same. absurd (omega arith))
          ∙ r.shows.low_words n h ∙ least_same _ _ (values_same (λ x. x.low) n _ _ low_kept);
      high_words = λ n h. dite (ℕ_discrete e.location n) (λ here. high_here n h here) (λ other. high_other n h other);
      parts = (let t = total_set s.views id me.0 w at in let p = r.shows.parts in omega arith);
    };
    only_spent = each_set (λ v. v.parts ≡ 0 → v ≡ spent) (λ v. v.parts ≡ 0 → v ≡ spent) s.views id w (λ v p. p) (λ none. absurd (omega arith)) r.only_spent;
    entries = all_of (IsPut extent.count) (low_puts after) (λ y i. all_at (IsPut extent.count) (low_puts s.views) y r.entries (low_kept.back y i));
    lows = each_set (λ v. LowsWerePut v.lows (low_puts s.views)) (λ v. LowsWerePut v.lows (low_puts after)) s.views id w (λ v p. lows_more v.lows p) (lows_more me.0.lows (r.lows id me.0 at)) r.lows;
    highs = each_set (λ v. HighsWerePut v.highs (high_puts s.views)) (λ v. HighsWerePut v.highs (high_puts after)) s.views id w (λ v p. highs_more v.highs p) mine r.highs;
  }
    where
      found : ℕ
      found = get_or s.words (high_place e.location) 0

      w : Known
      w = after_end me.0 e found

      after : List Known
      after = set s.views id w

      before_entries : lows_counted me.0 ≡ me.0.log ++ e ∷ []
      before_entries = ap (λ (b : Option Put). me.0.log ++ listed b) begun

      is : IsPut extent.count e
      is = all_at (IsPut extent.count) (low_puts s.views) e r.entries
          (in_flat lows_counted e s.views id me.0 at (subst (In e) (sym before_entries) (in_right e me.0.log (e ∷ []) (inl refl))))

      low_kept : Same (low_puts s.views) (low_puts after)
      low_kept = flat_same lows_counted s.views id me.0 w at (record {
        there = λ y i. in_left y (me.0.log ++ e ∷ []) [] (subst (In y) before_entries i);
        back = λ y i. subst (In y) (sym before_entries) (⊎_elim (λ a. a) (λ none. absurd none) (in_cases y (me.0.log ++ e ∷ []) [] i));
      })

      grown : Grows (high_puts s.views) (high_puts after) e
      grown = flat_grows highs_counted s.views id me.0 w at e (grows_snoc me.0.log e)

      lows_more : (known : List (ℕ × ℕ)) → LowsWerePut known (low_puts s.views) → LowsWerePut known (low_puts after)
      lows_more known = were_put_more (λ x. x.low) low_mark known (low_puts s.views) (low_puts after) low_kept.there

      highs_more : (known : List (ℕ × ℕ)) → HighsWerePut known (high_puts s.views) → HighsWerePut known (high_puts after)
      highs_more known = were_put_more (λ x. x.high) high_mark known (high_puts s.views) (high_puts after) grown.kept

      found_is : found ≡ greatest (highs_at e.location (high_puts s.views))
      found_is = r.shows.high_words e.location is.location

      high_grown : Grows (highs_at e.location (high_puts s.views)) (highs_at e.location (high_puts after)) e.high
      high_grown = values_grow (λ x. x.high) e.location (high_puts s.views) (high_puts after) e grown refl

      high_here : (n : ℕ) → n < extent.count → e.location ≡ n → get_or (set s.words (high_place e.location) (max found e.high)) (high_place n) 0 ≡ greatest (highs_at n (high_puts after))
      high_here n h here = subst (λ m. get_or (set s.words (high_place e.location) (max found e.high)) (high_place m) 0 ≡ greatest (highs_at m (high_puts after))) here
          (get_or-set_same s.words (high_place e.location) (max found e.high) 0 (let z = r.shows.size in let l = is.location in omega arith)
          ∙ ap (λ m. max m e.high) found_is ∙ greatest_grows _ _ e.high high_grown)

      high_other : (n : ℕ) → n < extent.count → e.location ≢ n → get_or (set s.words (high_place e.location) (max found e.high)) (high_place n) 0 ≡ greatest (highs_at n (high_puts after))
      high_other n h other =
          get_or-set_other s.words (high_place e.location) (high_place n) (max found e.high) 0 (λ same. other (omega arith))
          ∙ r.shows.high_words n h ∙ greatest_same _ _ (values_other (λ x. x.high) n (high_puts s.views) (high_puts after) e grown other)

      mine : HighsWerePut w.highs (high_puts after)
      mine = were_put_both (λ x. x.high) high_mark me.0.highs ((e.location, e.high) ∷ (e.location, found) ∷ []) (high_puts after) (highs_more me.0.highs (r.highs id me.0 at))
          (were_put_two (λ x. x.high) high_mark e.location e.high found (high_puts after) high_grown.added
          (⊎_elim (λ m. inl (found_is ∙ m)) (λ i. inr (high_grown.kept found (subst (λ y. In y (highs_at e.location (high_puts s.views))) (sym found_is) i))) (greatest_stands (highs_at e.location (high_puts s.views)))))

  -- a low that is found is at most each low that is known at its location
  low_bounds : (s : S) (id : ℕ) (v : Known) (n : ℕ) → IsBoard extent s → get_elem? s.views id ≡ some v → n < extent.count → AtMostKnown v.lows n (get_or s.words (low_place n) 0)
  low_bounds s id v n r at h =
      let found = get_or s.words (low_place n) 0 in
      let is = r.shows.low_words n h in
      let P : ℕ × ℕ → Type 0 = λ k. (k.1 ≡ low_mark) ⊎ Contains (lows_at k.0 (low_puts s.views)) k.1 in
      let mark = least_mark (lows_at n (low_puts s.views)) in
      all_of (λ k. k.0 ≡ n → found ≤ k.1) v.lows
      (λ k i here. ⊎_elim (λ m. omega arith)
      (λ c.
      let stands = subst (λ m. In k.1 (lows_at m (low_puts s.views))) here (member (lows_at k.0 (low_puts s.views)) k.1 c) in
      let below = least_low (lows_at n (low_puts s.views)) k.1 stands in
      omega arith)
      (all_at P v.lows k (r.lows id v at) i))

  high_bounds : (s : S) (id : ℕ) (v : Known) (n : ℕ) → IsBoard extent s → get_elem? s.views id ≡ some v → n < extent.count → AtLeastKnown v.highs n (get_or s.words (high_place n) 0)
  high_bounds s id v n r at h =
      let found = get_or s.words (high_place n) 0 in
      let is = r.shows.high_words n h in
      let P : ℕ × ℕ → Type 0 = λ k. (k.1 ≡ high_mark) ⊎ Contains (highs_at k.0 (high_puts s.views)) k.1 in
      all_of (λ k. k.0 ≡ n → k.1 ≤ found) v.highs
      (λ k i here. ⊎_elim (λ m. omega arith)
      (λ c.
      let stands = subst (λ m. In k.1 (highs_at m (high_puts s.views))) here (member (highs_at k.0 (high_puts s.views)) k.1 c) in
      let above = greatest_high (highs_at n (high_puts s.views)) k.1 stands in
      omega arith)
      (all_at P v.highs k (r.highs id v at) i))

  -- the two steps of a put
  pub begins_put : (slots id : ℕ) (me : M) (e : Put) → me.0.begun ≡ None → 0 < me.0.parts → IsPut extent.count e
      → Allows (IsBoard extent) slots id me (low_place e.location) (λ m. min m e.low) (IsLowPut e me)
  begins_put slots id me e idle share is s r _ at _ =
      (after_begin me.0 e (get_or s.words (low_place e.location) 0), keeps, tt, begins s me id e r at idle share is, (refl, low_bounds s id me.0 e.location r at is.location))

  pub ends_put : (slots id : ℕ) (me : M) (e : Put) → me.0.begun ≡ Some e → 0 < me.0.parts → e.location < extent.count
      → Allows (IsBoard extent) slots id me (high_place e.location) (λ m. max m e.high) (IsHighPut e me)
  ends_put slots id me e begun share within s r _ at _ =
      (after_end me.0 e (get_or s.words (high_place e.location) 0), keeps, tt, ends s me id e r at begun share, (refl, high_bounds s id me.0 e.location r at within))

  pub splits : (id : ℕ) (v : Known) → 2 ≤ v.parts → Splits (IsBoard extent) id v (giver v) (taker v)
  splits id v enough s r at = record {
    shows = record {
      size = r.shows.size;
      seats = r.shows.seats;
      low_words = λ n h. r.shows.low_words n h ∙ least_same _ _ (values_same (λ x. x.low) n _ _ low_kept);
      high_words = λ n h. r.shows.high_words n h ∙ greatest_same _ _ (values_same (λ x. x.high) n _ _ high_kept);
      parts = (let t = total_set s.views id v (giver v) at in let u = total_snoc given (taker v) in let p = r.shows.parts in omega arith);
    };
    only_spent = each_snoc (λ u. u.parts ≡ 0 → u ≡ spent) given (taker v) (λ none. absurd (omega arith))
        (each_set (λ u. u.parts ≡ 0 → u ≡ spent) (λ u. u.parts ≡ 0 → u ≡ spent) s.views id (giver v) (λ u p. p) (λ none. absurd (omega arith)) r.only_spent);
    entries = all_of (IsPut extent.count) (low_puts after) (λ y i. all_at (IsPut extent.count) (low_puts s.views) y r.entries (low_kept.back y i));
    lows = each_snoc (λ u. LowsWerePut u.lows (low_puts after)) given (taker v) (lows_more v.lows (r.lows id v at))
        (each_set (λ u. LowsWerePut u.lows (low_puts s.views)) (λ u. LowsWerePut u.lows (low_puts after)) s.views id (giver v) (λ u p. lows_more u.lows p) (lows_more v.lows (r.lows id v at)) r.lows);
    highs = each_snoc (λ u. HighsWerePut u.highs (high_puts after)) given (taker v) (highs_more v.highs (r.highs id v at))
        (each_set (λ u. HighsWerePut u.highs (high_puts s.views)) (λ u. HighsWerePut u.highs (high_puts after)) s.views id (giver v) (λ u p. highs_more u.highs p) (highs_more v.highs (r.highs id v at)) r.highs);
  }
    where
      given : List Known
      given = set s.views id (giver v)

      after : List Known
      after = given ++ taker v ∷ []

      low_kept : Same (low_puts s.views) (low_puts after)
      low_kept = same_after _ _ _ (flat_same lows_counted s.views id v (giver v) at (same_as (lows_counted v))) (flat_snoc lows_counted given (taker v) refl)

      high_kept : Same (high_puts s.views) (high_puts after)
      high_kept = same_after _ _ _ (flat_same highs_counted s.views id v (giver v) at (same_as (highs_counted v))) (flat_snoc highs_counted given (taker v) refl)

      lows_more : (known : List (ℕ × ℕ)) → LowsWerePut known (low_puts s.views) → LowsWerePut known (low_puts after)
      lows_more known = were_put_more (λ x. x.low) low_mark known (low_puts s.views) (low_puts after) low_kept.there

      highs_more : (known : List (ℕ × ℕ)) → HighsWerePut known (high_puts s.views) → HighsWerePut known (high_puts after)
      highs_more known = were_put_more (λ x. x.high) high_mark known (high_puts s.views) (high_puts after) high_kept.there

  pub joins : (id : ℕ) (v : Known) (other : ℕ) (u : Known) → v.begun ≡ None → u.begun ≡ None → 0 < v.parts → Joins (IsBoard extent) id v other u (joined v u) spent
  joins id v other u idle other_idle share s r at apart found = record {
    shows = record {
      size = r.shows.size;
      seats = r.shows.seats;
      low_words = λ n h. r.shows.low_words n h ∙ least_same _ _ (values_same (λ x. x.low) n _ _ low_kept);
      high_words = λ n h. r.shows.high_words n h ∙ greatest_same _ _ (values_same (λ x. x.high) n _ _ high_kept);
      parts = (let t = total_set s.views id v (joined v u) at in let x = total_set held other u spent found in let p = r.shows.parts in omega arith);
    };
    only_spent = each_set (λ x. x.parts ≡ 0 → x ≡ spent) (λ x. x.parts ≡ 0 → x ≡ spent) held other spent (λ x p. p) (λ _. refl)
        (each_set (λ x. x.parts ≡ 0 → x ≡ spent) (λ x. x.parts ≡ 0 → x ≡ spent) s.views id (joined v u) (λ x p. p) (λ none. absurd (omega arith)) r.only_spent);
    entries = all_of (IsPut extent.count) (low_puts after) (λ y i. all_at (IsPut extent.count) (low_puts s.views) y r.entries (low_kept.back y i));
    lows = each_set (λ x. LowsWerePut x.lows (low_puts s.views)) (λ x. LowsWerePut x.lows (low_puts after)) held other spent (λ x p. lows_more x.lows p) (λ k d h. absurd (omega arith))
        (each_set (λ x. LowsWerePut x.lows (low_puts s.views)) (λ x. LowsWerePut x.lows (low_puts s.views)) s.views id (joined v u) (λ x p. p)
        (were_put_both (λ x. x.low) low_mark v.lows u.lows (low_puts s.views) (r.lows id v at) (r.lows other u there)) r.lows);
    highs = each_set (λ x. HighsWerePut x.highs (high_puts s.views)) (λ x. HighsWerePut x.highs (high_puts after)) held other spent (λ x p. highs_more x.highs p) (λ k d h. absurd (omega arith))
        (each_set (λ x. HighsWerePut x.highs (high_puts s.views)) (λ x. HighsWerePut x.highs (high_puts s.views)) s.views id (joined v u) (λ x p. p)
        (were_put_both (λ x. x.high) high_mark v.highs u.highs (high_puts s.views) (r.highs id v at) (r.highs other u there)) r.highs);
  }
    where
      held : List Known
      held = set s.views id (joined v u)

      after : List Known
      after = set held other spent

      there : get_elem? s.views other ≡ some u
      there = ⊎_elim (λ t. absurd (apart t.0)) (λ t. t.1) (at_set s.views id other (joined v u) u found)

      plain : (x : Known) → x.begun ≡ None → Same (lows_counted x) x.log
      plain x none = record {
        there = λ y i. ⊎_elim (λ a. a) (λ b. absurd b) (in_cases y x.log [] (subst (λ (b : Option Put). In y (x.log ++ listed b)) none i));
        back = λ y i. in_left y x.log (listed x.begun) i;
      }

      low_both : Same (lows_counted v ++ lows_counted u) (lows_counted (joined v u))
      low_both = record {
        there = λ y i. in_left y (v.log ++ u.log) []
            (⊎_elim (λ a. in_left y v.log u.log ((plain v idle).there y a)) (λ b. in_right y v.log u.log ((plain u other_idle).there y b)) (in_cases y (lows_counted v) (lows_counted u) i));
        back = λ y i. ⊎_elim
            (λ l. ⊎_elim (λ a. in_left y (lows_counted v) (lows_counted u) ((plain v idle).back y a)) (λ b. in_right y (lows_counted v) (lows_counted u) ((plain u other_idle).back y b)) (in_cases y v.log u.log l))
            (λ none. absurd none)
            (in_cases y (v.log ++ u.log) [] i);
      }

      low_kept : Same (low_puts s.views) (low_puts after)
      low_kept = flat_joins lows_counted s.views id other v u (joined v u) spent at apart there low_both refl

      high_kept : Same (high_puts s.views) (high_puts after)
      high_kept = flat_joins highs_counted s.views id other v u (joined v u) spent at apart there (same_as (v.log ++ u.log)) refl

      lows_more : (known : List (ℕ × ℕ)) → LowsWerePut known (low_puts s.views) → LowsWerePut known (low_puts after)
      lows_more known = were_put_more (λ x. x.low) low_mark known (low_puts s.views) (low_puts after) low_kept.there

      highs_more : (known : List (ℕ × ℕ)) → HighsWerePut known (high_puts s.views) → HighsWerePut known (high_puts after)
      highs_more known = were_put_more (λ x. x.high) high_mark known (high_puts s.views) (high_puts after) high_kept.there

  pub opens : (words : List ℕ) → AreMarks extent.count words → IsBoard extent (opening words [] (opening_view extent.parts))
  opens words marks = record {
    shows = record {
      size = marks.size;
      seats = marks.seats;
      low_words = marks.lows;
      high_words = marks.highs;
      parts = omega arith;
    };
    only_spent = none;
    entries = λ k d h. absurd (omega arith);
    lows = λ k v at. subst (λ (u : Known). LowsWerePut u.lows []) (first k v at) (λ i d h. absurd (omega arith));
    highs = λ k v at. subst (λ (u : Known). HighsWerePut u.highs []) (first k v at) (λ i d h. absurd (omega arith));
  }
    where
      first : (k : ℕ) (v : Known) → get_elem? (opening_view extent.parts ∷ []) k ≡ some v → opening_view extent.parts ≡ v
      first zero v at = some-injective _ _ at
      first (suc k) v at = absurd (some-ne-none v (sym at))

      none : (k : ℕ) (v : Known) → get_elem? (opening_view extent.parts ∷ []) k ≡ some v → v.parts ≡ 0 → v ≡ spent
      none k v at zero_parts = sym (first k v at) ∙ ap opening_view (ap (λ (u : Known). u.parts) (first k v at) ∙ zero_parts)

  -- what is left when the table is closed with the seat that has all parts
  pub record Closes (words : List ℕ) (v : Known) : Type 0 where
    pub low_words : (n : ℕ) → n < extent.count → get_or words (low_place n) 0 ≡ least (lows_at n v.log)
    pub high_words : (n : ℕ) → n < extent.count → get_or words (high_place n) 0 ≡ greatest (highs_at n v.log)
    pub entries : (e : Put) → In e v.log → IsPut extent.count e
    pub lows : LowsWerePut v.lows v.log
    pub highs : HighsWerePut v.highs v.log

  pub closes : (id : ℕ) (v : Known) (words : List ℕ) (xs : List (Unit {0})) → v.parts ≡ extent.parts → v.begun ≡ None → Final (Seen (IsBoard extent) id v) words xs → Closes words v
  closes id v words xs all idle f = record {
    low_words = λ n h. ap (λ ws. get_or ws (low_place n) 0) (sym f.2) ∙ r.shows.low_words n h ∙ least_same _ _ (values_same (λ x. x.low) n _ _ low_all);
    high_words = λ n h. ap (λ ws. get_or ws (high_place n) 0) (sym f.2) ∙ r.shows.high_words n h ∙ greatest_same _ _ (values_same (λ x. x.high) n _ _ high_all);
    entries = λ e i. all_at (IsPut extent.count) (low_puts s.views) e r.entries (low_all.back e i);
    lows = were_put_more (λ x. x.low) low_mark v.lows (low_puts s.views) v.log low_all.there (r.lows id v at);
    highs = were_put_more (λ x. x.high) high_mark v.highs (high_puts s.views) v.log high_all.there (r.highs id v at);
  }
    where
      s : S
      s = f.0

      r : IsBoard extent s
      r = f.1.0

      at : get_elem? s.views id ≡ some v
      at = f.1.1

      own : lows_counted v ≡ v.log ++ []
      own = ap (λ (b : Option Put). v.log ++ listed b) idle

      others : (k : ℕ) (u : Known) → k ≢ id → get_elem? s.views k ≡ some u → u ≡ spent
      others k u apart there = r.only_spent k u there (others_have_none s.views id v k u at (r.shows.parts ∙ sym all) apart there)

      gathered : (g : Known → List Put) → g spent ≡ [] → Same (g v) v.log → Same (flat_map g s.views) v.log
      gathered g none same = record {
        there = λ y i.
            let u = view_of g y s.views i in
            dite (ℕ_discrete u.0 id)
            (λ here. same.there y (subst (λ (x : Known). In y (g x)) (some-injective u.1 v (sym u.2 ∙ ap (get_elem? s.views) here ∙ at)) u.3))
            (λ apart. absurd (subst (In y) none (subst (λ (x : Known). In y (g x)) (others u.0 u.1 apart u.2) u.3)));
        back = λ y i. in_flat g y s.views id v at (same.back y i);
      }

      low_all : Same (low_puts s.views) v.log
      low_all = gathered lows_counted refl (record {
        there = λ y i. ⊎_elim (λ a. a) (λ b. absurd b) (in_cases y v.log [] (subst (In y) own i));
        back = λ y i. in_left y v.log (listed v.begun) i;
      })

      high_all : Same (high_puts s.views) v.log
      high_all = gathered highs_counted refl (same_as v.log)

-- the two steps of a put, if the put's location and values go by other names
pub begins_put_as : (extent : TableSize) (slots id : ℕ) (me : M) (e : Put) (n low : ℕ) → e.location ≡ n → e.low ≡ low → me.0.begun ≡ None → 0 < me.0.parts → IsPut extent.count e
    → Allows (IsBoard extent) slots id me (low_place n) (λ m. min m low) (IsLowPut e me)
begins_put_as extent slots id me e n low location is_low idle share is =
    subst (λ (x : ℕ × ℕ). Allows (IsBoard extent) slots id me (low_place x.0) (λ m. min m x.1) (IsLowPut e me)) (λ i. (location i, is_low i)) (begins_put extent slots id me e idle share is)

pub ends_put_as : (extent : TableSize) (slots id : ℕ) (me : M) (e : Put) (n high : ℕ) → e.location ≡ n → e.high ≡ high → me.0.begun ≡ Some e → 0 < me.0.parts → e.location < extent.count
    → Allows (IsBoard extent) slots id me (high_place n) (λ m. max m high) (IsHighPut e me)
ends_put_as extent slots id me e n high location is_high begun share within =
    subst (λ (x : ℕ × ℕ). Allows (IsBoard extent) slots id me (high_place x.0) (λ m. max m x.1) (IsHighPut e me)) (λ i. (location i, is_high i)) (ends_put extent slots id me e begun share within)
