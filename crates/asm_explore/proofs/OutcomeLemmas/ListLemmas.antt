-- Free. Lists of outcomes, and how they come of other lists.
--     grows_*                 of a list with one more outcome
--     joined_none, joined_more, joined_all      one outcome beside the first elements of a list
--     both_none, both_more, both_all            the first elements of a list beside another list
use Rattle.std.proofs.Common.{◌≡◌, ℕ, ◌+◌, ◌<◌, ◌≤◌, List, [], ◌∷◌, ◌++◌, length, take, get_or, ◌⊎◌, inl, inr, refl, sym, subst, arith, append-nil}
use Rattle.std.proofs.lemmas.List.{take_all}
use Rattle.asm_state.specs.Signature.{Shape, count_of}
use Rattle.asm_state.specs.Updates.{UpdateSet, together}
use Rattle.asm_updates.specs.code.Stands.{Stands}
use Rattle.asm_meaning.specs.Yields.{Path, Result, Gives, Exhausted, at, beside}
use Rattle.asm_explore.specs.declared.outcomes.listed_outcome.RuleResult.{RuleResult}
use Rattle.asm_explore.specs.declared.outcomes.listed_outcome.RuleResult.TheVariants as answer
use Rattle.asm_explore.specs.declared.outcomes.listed_outcome.Choice.{Choice}
use Rattle.asm_explore.specs.declared.outcomes.listed_outcome.ListedOutcome.{ListedOutcome}
use Rattle.asm_explore.specs.declared.updates.Updates.{Updates}
use Rattle.asm_explore.specs.code.OutcomeLists.{Situation, Each, AnyOf, IsTaken, AreTaken, Shows, IsShownBy, Shown, HaveChoices, IsCounted, AreCounted, IsSound, Lists, ListGrows, IsJoined, IsPicked}
use Rattle.asm_explore.specs.code.ChoicePaths.{LieBelow, IsPlacedFrom}
use Rattle.asm_explore.specs.code.ChoiceLists.{choice_lists, AreSomeOf, behind, all_joined, with_choice}
use Rattle.asm_explore.proofs.ChoiceLemmas.ChoicePaths.{placed_chosen, from_part}
use Rattle.asm_explore.proofs.OutcomeLemmas.ChoiceLists.{some_nil, mapped_take, step_last, joined_take}
pub use Rattle.asm_explore.proofs.Elements.{each_append, each_first, each_last, each_at, each_take_more, each_weaker, any_first, any_last, any_weaker, any_at, any_split, any_take_more}

-- ---- one more

pub grows_each : (P : ListedOutcome → Type 0) (old new : List ListedOutcome) (one : ListedOutcome) → ListGrows old one new → Each P old → P one → Each P new
grows_each P old new one grows h here = by_kept grows.kept
  where
    by_kept : (new ≡ old) ⊎ (new ≡ old ++ one ∷ []) → Each P new
    by_kept (inl same) = subst (Each P) (sym same) h
    by_kept (inr more) = subst (Each P) (sym more) (each_append P old (one ∷ []) h (here, tt))

pub grows_any : (P : ListedOutcome → Type 0) (old new : List ListedOutcome) (one : ListedOutcome) → ListGrows old one new → AnyOf P old → AnyOf P new
grows_any P old new one grows h = by_kept grows.kept
  where
    by_kept : (new ≡ old) ⊎ (new ≡ old ++ one ∷ []) → AnyOf P new
    by_kept (inl same) = subst (AnyOf P) (sym same) h
    by_kept (inr more) = subst (AnyOf P) (sym more) (any_first P old (one ∷ []) h)

-- a list that one outcome is added to
pub pushed : (old new : List ListedOutcome) (one : ListedOutcome) → new ≡ old ++ one ∷ [] → ListGrows old one new
pushed old new one is = record {
  kept = inr is;
  shown = λ shape r h. subst (λ fs. Shown shape fs r) (sym is) (any_last (λ f. Shows shape f.answer r) old (one ∷ []) (inl h));
}

-- a list that has the result already
pub known : (old : List ListedOutcome) (one : ListedOutcome) → AnyOf (λ f. IsShownBy one.answer f.answer) old → ListGrows old one old
known old one there = record {
  kept = inl refl;
  shown = λ shape r h. any_weaker (λ f. IsShownBy one.answer f.answer) (λ f. Shows shape f.answer r) (λ f by. by shape r h) old there;
}

-- ---- results beside each other

module _ (shape : Shape) (a b whole : Updates) (unites : (U V : UpdateSet) → Stands shape a.set U → Stands shape b.set V → Stands shape whole.set (together U V)) where
  pub union_shows : (x y : Result) → Shows shape (answer.Set a) x → Shows shape (answer.Set b) y → Shows shape (answer.Set whole) (beside x y)
  union_shows (Gives U) (Gives V) h g = unites U V h g
  union_shows (Gives U) (Exhausted q) h g = absurd g
  union_shows (Exhausted p) y h g = absurd h

-- ---- choices

pub taken_both : (s : Situation) (cs ds es : List Choice) → cs ≡ ds ++ es → AreTaken s cs → AreTaken s ds × AreTaken s es
taken_both s cs ds es is h =
    let both : AreTaken s (ds ++ es) = subst (AreTaken s) is h in
    (each_first (IsTaken s) ds es both, each_last (IsTaken s) ds es both)

-- ---- one outcome beside each of a list

module _ (shape : Shape) (left : ListedOutcome) (right : List ListedOutcome) where
  pub joined_none : (old : List ListedOutcome) → IsJoined shape left (take 0 right) old old
  joined_none old = record {
    counted = λ h. h;
    older = λ r h. h;
    shown = λ x y here h. absurd h;
    sound = λ o q here each h. h;
    placed = λ p k here each h. h;
    chosen = λ ways h. subst (AreSomeOf (choice_lists old)) (sym (append-nil ways)) h;
  }

  pub joined_all : (i : ℕ) (old new : List ListedOutcome) → length right ≤ i → IsJoined shape left (take i right) old new → IsJoined shape left right old new
  joined_all i old new past = subst (λ fs. IsJoined shape left fs old new) (take_all i right past)

  pub joined_more : (i : ℕ) (r : ListedOutcome) (old mid new : List ListedOutcome) (one : ListedOutcome) → i < length right → r ≡ get_or right i r
      → one.choices ≡ left.choices ++ r.choices
      → IsCounted (count_of shape) one.answer
      → ((x y : Result) → Shows shape left.answer x → Shows shape r.answer y → Shows shape one.answer (beside x y))
      → ListGrows mid one new → IsJoined shape left (take i right) old mid → IsJoined shape left (take (i + 1) right) old new
  joined_more i r old mid new one low is chosen counts answers grows so_far = record {
    counted = λ h. grows_each (λ f. IsCounted (count_of shape) f.answer) mid new one grows (so_far.counted h) counts;
    older = λ x h. grows_any (λ f. Shows shape f.answer x) mid new one grows (so_far.older x h);
    shown = λ x y here h. next x y here (any_take_more (λ f. Shows shape f.answer y) right i r low is h);
    sound = λ o q here each h.
        let parts = each_take_more (IsSound shape q) right i r low is each in
        grows_each (IsSound shape (λ s. beside (o s) (q s))) mid new one grows (so_far.sound o q here parts.0 h)
        (λ s taken. let halves = taken_both s one.choices left.choices r.choices chosen taken in
        answers (o s) (q s) (here s halves.0) (parts.1 s halves.1));
    placed = λ p k here each h.
        let parts = each_take_more (λ f. IsPlacedFrom p (k + 1) f.choices) right i r low is each in
        grows_each (λ f. IsPlacedFrom p k f.choices) mid new one grows (so_far.placed p k here parts.0 h)
        (subst (IsPlacedFrom p k) (sym chosen) (from_part p k left.choices r.choices here parts.1));
    chosen = λ ways h.
        step_last [] ways (behind left.choices (choice_lists (take i right))) (behind left.choices (choice_lists (take (i + 1) right))) mid new one grows
        (left.choices ++ r.choices) chosen (mapped_take (λ ds. left.choices ++ ds) right i r low is) (so_far.chosen ways h);
  }
    where
      next : (x y : Result) → Shows shape left.answer x → Shown shape (take i right) y ⊎ Shows shape r.answer y → Shown shape new (beside x y)
      next x y here (inl h) = grows_any (λ f. Shows shape f.answer (beside x y)) mid new one grows (so_far.shown x y here h)
      next x y here (inr h) = grows.shown shape (beside x y) (answers x y here h)

-- ---- the first of a list beside another

pub record AreJoined (shape : Shape) (left right found : List ListedOutcome) : Type 0 where
  pub counted : AreCounted (count_of shape) found
  pub shown : (x y : Result) → Shown shape left x → Shown shape right y → Shown shape found (beside x y)
  pub sound : (o q : Situation → Result) → Each (IsSound shape o) left → Each (IsSound shape q) right → Each (IsSound shape (λ s. beside (o s) (q s))) found
  pub placed : (p : Path) (k : ℕ) → HaveChoices (LieBelow (at p k)) left → HaveChoices (IsPlacedFrom p (k + 1)) right → HaveChoices (IsPlacedFrom p k) found
  pub chosen : AreSomeOf (choice_lists found) (all_joined (choice_lists left) (choice_lists right))

module _ (shape : Shape) (left right : List ListedOutcome) where
  pub both_none : AreJoined shape (take 0 left) right []
  both_none = record { counted = tt; shown = λ x y h g. absurd h; sound = λ o q h g. tt; placed = λ p k h g. tt; chosen = tt }

  pub both_more : (i : ℕ) (f : ListedOutcome) (old new : List ListedOutcome) → i < length left → f ≡ get_or left i f
      → IsJoined shape f right old new → AreJoined shape (take i left) right old → AreJoined shape (take (i + 1) left) right new
  both_more i f old new low is joined so_far = record {
    counted = joined.counted so_far.counted;
    shown = λ x y h g. next x y g (any_take_more (λ f. Shows shape f.answer x) left i f low is h);
    sound = λ o q h g.
        let parts = each_take_more (IsSound shape o) left i f low is h in
        joined.sound o q parts.1 g (so_far.sound o q parts.0 g);
    placed = λ p k h g.
        let parts = each_take_more (λ f. LieBelow (at p k) f.choices) left i f low is h in
        joined.placed p k parts.1 g (so_far.placed p k parts.0 g);
    chosen = subst (AreSomeOf (choice_lists new)) (sym (joined_take left (choice_lists right) i f low is))
        (joined.chosen (all_joined (choice_lists (take i left)) (choice_lists right)) so_far.chosen);
  }
    where
      next : (x y : Result) → Shown shape right y → Shown shape (take i left) x ⊎ Shows shape f.answer x → Shown shape new (beside x y)
      next x y g (inl h) = joined.older (beside x y) (so_far.shown x y h g)
      next x y g (inr h) = joined.shown x y h g

  pub both_all : (i : ℕ) (found : List ListedOutcome) → length left ≤ i → AreJoined shape (take i left) right found
      → (o q : Situation → Result) → Lists shape o left → Lists shape q right → Lists shape (λ s. beside (o s) (q s)) found
  both_all i found past joined o q h g =
      let whole : AreJoined shape left right found = subst (λ fs. AreJoined shape fs right found) (take_all i left past) joined in
      record {
        counted = whole.counted;
        complete = λ s. whole.shown (o s) (q s) (h.complete s) (g.complete s);
        sound = whole.sound o q h.sound g.sound;
      }

  pub both_placed : (i : ℕ) (found : List ListedOutcome) → length left ≤ i → AreJoined shape (take i left) right found
      → (p : Path) (k : ℕ) → HaveChoices (LieBelow (at p k)) left → HaveChoices (IsPlacedFrom p (k + 1)) right → HaveChoices (IsPlacedFrom p k) found
  both_placed i found past joined =
      let whole : AreJoined shape left right found = subst (λ fs. AreJoined shape fs right found) (take_all i left past) joined in
      whole.placed

  pub both_chosen : (i : ℕ) (found : List ListedOutcome) → length left ≤ i → AreJoined shape (take i left) right found
      → AreSomeOf (choice_lists found) (all_joined (choice_lists left) (choice_lists right))
  both_chosen i found past joined =
      let whole : AreJoined shape left right found = subst (λ fs. AreJoined shape fs right found) (take_all i left past) joined in
      whole.chosen

-- ---- the outcomes of a candidate

module _ (p : List ℕ) (k : ℕ) (part : List ListedOutcome) where
  pub picked_none : (old : List ListedOutcome) → IsPicked p k (take 0 part) old old
  picked_none old = record { counted = λ n g h. h; older = λ shape r h. h; shown = λ shape r h. absurd h; sound = λ shape o q each same h. h; placed = λ each h. h; chosen = some_nil (choice_lists old) }

  pub picked_all : (i : ℕ) (old new : List ListedOutcome) → length part ≤ i → IsPicked p k (take i part) old new → IsPicked p k part old new
  picked_all i old new past = subst (λ fs. IsPicked p k fs old new) (take_all i part past)

  pub picked_more : (i : ℕ) (f : ListedOutcome) (old mid new : List ListedOutcome) (one : ListedOutcome) → i < length part → f ≡ get_or part i f
      → one.choices ≡ f.choices ++ record { path = p; number = k } ∷ []
      → ((n : ℕ) → IsCounted n f.answer → IsCounted n one.answer) → ((shape : Shape) (r : Result) → Shows shape f.answer r → Shows shape one.answer r)
      → ListGrows mid one new → IsPicked p k (take i part) old mid → IsPicked p k (take (i + 1) part) old new
  picked_more i f old mid new one low is chosen counts shows grows so_far = record {
    counted = λ n g h.
        let parts = each_take_more (λ f. IsCounted n f.answer) part i f low is g in
        grows_each (λ f. IsCounted n f.answer) mid new one grows (so_far.counted n parts.0 h) (counts n parts.1);
    older = λ shape r h. grows_any (λ f. Shows shape f.answer r) mid new one grows (so_far.older shape r h);
    shown = λ shape r h. next shape r (any_take_more (λ f. Shows shape f.answer r) part i f low is h);
    sound = λ shape o q each alike h.
        let parts = each_take_more (IsSound shape o) part i f low is each in
        grows_each (IsSound shape q) mid new one grows (so_far.sound shape o q parts.0 alike h)
        (λ s taken. let halves = taken_both s one.choices f.choices (record { path = p; number = k } ∷ []) chosen taken in
        subst (Shows shape one.answer) (alike s halves.1.0) (shows shape (o s) (parts.1 s halves.0)));
    placed = λ each h.
        let parts = each_take_more (λ f. LieBelow (at p 0) f.choices) part i f low is each in
        grows_each (λ f. LieBelow p f.choices) mid new one grows (so_far.placed parts.0 h)
        (subst (LieBelow p) (sym chosen) (placed_chosen p k f.choices parts.1));
    chosen = step_last [] (choice_lists old) (with_choice p k (choice_lists (take i part))) (with_choice p k (choice_lists (take (i + 1) part))) mid new one grows
        (f.choices ++ record { path = p; number = k } ∷ []) chosen (mapped_take (λ cs. cs ++ record { path = p; number = k } ∷ []) part i f low is) so_far.chosen;
  }
    where
      next : (shape : Shape) (r : Result) → Shown shape (take i part) r ⊎ Shows shape f.answer r → Shown shape new r
      next shape r (inl h) = grows_any (λ f. Shows shape f.answer r) mid new one grows (so_far.shown shape r h)
      next shape r (inr h) = grows.shown shape r (shows shape r h)

-- a set with its entries in another order
pub shows_ordered : (shape : Shape) (a : RuleResult) (set new : Updates) (r : Result) → a ≡ answer.Set set → ((U : UpdateSet) → Stands shape set.set U → Stands shape new.set U)
    → Shows shape a r → Shows shape (answer.Set new) r
shows_ordered shape a set new r is stands h = by_result r (subst (λ x. Shows shape x r) is h)
  where
    by_result : (r : Result) → Shows shape (answer.Set set) r → Shows shape (answer.Set new) r
    by_result (Gives U) h = stands U h
    by_result (Exhausted q) h = absurd h

-- the one outcome of a candidate
pub picked_one : (p : List ℕ) (k : ℕ) (f : ListedOutcome) (old new : List ListedOutcome) (one : ListedOutcome)
    → one.choices ≡ f.choices ++ record { path = p; number = k } ∷ []
    → ((n : ℕ) → IsCounted n f.answer → IsCounted n one.answer) → ((shape : Shape) (r : Result) → Shows shape f.answer r → Shows shape one.answer r)
    → ListGrows old one new → IsPicked p k (f ∷ []) old new
picked_one p k f old new one chosen counts shows grows =
    picked_more p k (f ∷ []) 0 f old old new one (omega arith) refl chosen counts shows grows (picked_none p k (f ∷ []) old)

-- one outcome beside one other
module _ (shape : Shape) (left right one : ListedOutcome) where
  pub both_one : one.choices ≡ left.choices ++ right.choices → IsCounted (count_of shape) one.answer
      → ((x y : Result) → Shows shape left.answer x → Shows shape right.answer y → Shows shape one.answer (beside x y))
      → (o q : Situation → Result) → Lists shape o (left ∷ []) → Lists shape q (right ∷ []) → Lists shape (λ s. beside (o s) (q s)) (one ∷ [])
  both_one chosen counts answers o q h g = record {
    counted = (counts, tt);
    complete = λ s. inl (answers (o s) (q s) (only (o s) left (h.complete s)) (only (q s) right (g.complete s)));
    sound = (
      (λ s taken. let halves = taken_both s one.choices left.choices right.choices chosen taken in
          answers (o s) (q s) (h.sound.0 s halves.0) (g.sound.0 s halves.1)),
      tt,
    );
  }
    where
      only : (r : Result) (f : ListedOutcome) → Shown shape (f ∷ []) r → Shows shape f.answer r
      only r f (inl h) = h
      only r f (inr h) = absurd h

-- ---- lists of what is the same

pub lists_same : (shape : Shape) (o q : Situation → Result) (fs : List ListedOutcome) → ((s : Situation) → o s ≡ q s) → Lists shape o fs → Lists shape q fs
lists_same shape o q fs alike = subst (λ it. Lists shape it fs) (λ i s. alike s i)
