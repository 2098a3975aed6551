-- Free. Sets of lines of a script.
--     UpdatesAt                   a key is there, or isn't any more, and all others stay
--     changed, grown              after it was added or removed, and after it was added
--     nothing_in                  no line is among none
--     kept_in_step, kept_in_every_step    the lines that were there stay, after one for one step was
--                                 added, and after one for every step was
--     kept_all, one_more          what grows has the lines of a text that it had
--     met_removed                 after the lines that a choice meets were removed
--     removed                     after those that one more choice meets were
--     none_removed                if there were none
--     all_left                    so it is said of the lines that are left
use Rattle.std.proofs.Common.{◌≡◌, ◌∙◌, ◌&&◌, ◌||◌, ℕ, suc, Bool, true, false, cond, not, List, [], ◌∷◌, ◌++◌, length, Option, None, Some, Vec, Global, refl, sym, ap, arith, inl, inr}
use Rattle.std.specs.BTreeSet.{BTreeSet, UpdatesBy}
use Rattle.std.specs.Set.{KeepsOthers}
use Rattle.std.specs.Map.{AreApart, IsKeyTest}
use Rattle.std.specs.Cmp.{eq_by_cmp_equiv}
use Rattle.std.specs.Cmp.Lexicographic.{bytes_decides, nat_list_cmp_total, nat_list_eq_equiv, slice_cmp}
use Rattle.std.specs.List.{list_all, list_any}
use Rattle.std.specs.Ordering.{is_eq, nat_cmp}
use Rattle.std.specs.Str.{bytes_eq}
use Rattle.std.proofs.lemmas.Bool.{cases_Bool}
use Rattle.std.proofs.lemmas.List.Folds.{list_all-append, list_any-append}
use Rattle.std.proofs.lemmas.Map.Text.{is_eq-slice_cmp}
use Rattle.asm_reader.specs.ScriptLines.{Line, SaidLine, ForStep, ForEvery, is_line_of}
use Rattle.asm_reader.specs.ScriptText.{is_skipped, line_of, said}
use Rattle.asm_explore_run.specs.UnmetLines.{is_met, unmet_from, unmet_line}
use Rattle.asm_explore_run.specs.code.LineKeys.{has_key, has_line, have_lines, left_from, line_count, meets}
use Rattle.asm_explore_run.specs.declared.line_keys.LineKeys.{LineKeys}

-- ---- a change at a key

abbrev pub UpdatesAt : List ℕ → BTreeSet (Vec ℕ Global) → BTreeSet (Vec ℕ Global) → Bool → Type 0
UpdatesAt k s n b = UpdatesBy (λ x y. slice_cmp nat_cmp x.items y.items) (λ key. slice_cmp nat_cmp k key.items) s n b

apart : (k q key : List ℕ) → bytes_eq k q ≡ false → bytes_eq k key ≡ true → bytes_eq q key ≡ false
apart k q key n y = nat_list_eq_equiv.symm q key ∙ sym (nat_list_eq_equiv.congr k key q y) ∙ n

apart_in_order : (k q key : List ℕ) → bytes_eq k q ≡ false → is_eq (slice_cmp nat_cmp k key) ≡ true → is_eq (slice_cmp nat_cmp q key) ≡ false
apart_in_order k q key n y = is_eq-slice_cmp q key ∙ apart k q key n (sym (is_eq-slice_cmp k key) ∙ y)

others_kept : {K : Type 0} (eq : K → K → Bool) (test : K → Bool) (old new : List K) → KeepsOthers eq test old new → (other : K → Bool) → IsKeyTest eq other → AreApart test other
    → list_any other new ≡ list_any other old
unfolding KeepsOthers
others_kept eq test old new h = h

pub changed : (k : List ℕ) (s n : BTreeSet (Vec ℕ Global)) (b : Bool) → UpdatesAt k s n b → (q : List ℕ) → has_key q n ≡ cond (bytes_eq k q) b (has_key q s)
changed k s n b h q =
    elim (cases_Bool (bytes_eq k q)) [
      | inl y ↦
          let same = (bytes_decides k q).0 y in
          ap (λ l. has_key l n) (sym same) ∙ h.1 ∙ ap (λ d. cond d b (has_key q s)) (sym y)
      | inr other ↦
          others_kept _ _ _ _ h.3 _ (λ x y. (eq_by_cmp_equiv nat_list_cmp_total).congr q x.items y.items) (λ key. apart_in_order k q key.items other)
          ∙ ap (λ d. cond d b (has_key q s)) (sym other)
    ]

-- after one was added
stays : (b h : Bool) → h ≡ true → cond b true h ≡ true
stays true h e = refl
stays false h e = e

grown : (k : List ℕ) (s n : BTreeSet (Vec ℕ Global)) (q : List ℕ) → UpdatesAt k s n true → has_key q s ≡ true → has_key q n ≡ true
grown k s n q h there = changed k s n true h q ∙ stays (bytes_eq k q) (has_key q s) there

-- ---- a line

no_key : (keys : BTreeSet (Vec ℕ Global)) (q : List ℕ) → length keys.keys ≡ 0 → has_key q keys ≡ false
no_key keys q e = by keys.keys e
  where
    by : (ks : List (Vec ℕ Global)) → length ks ≡ 0 → list_any (λ key. is_eq (slice_cmp nat_cmp q key.items)) ks ≡ false
    by [] h = refl
    by (key ∷ ks) h = absurd (omega (arith, h))

pub nothing_in : (keys : LineKeys) (line : SaidLine) → line_count keys ≡ 0 → has_line line keys ≡ false
nothing_in keys (ForStep line) none = no_key keys.in_step (line.step ∷ line.path) (omega (arith, none))
nothing_in keys (ForEvery line) none = no_key keys.in_every_step line.path (omega (arith, none))

-- ---- after a line was added

pub kept_in_step : (key : List ℕ) (old : LineKeys) (more : BTreeSet (Vec ℕ Global)) → UpdatesAt key old.in_step more true
    → (other : SaidLine) → has_line other old ≡ true → has_line other (record { in_step = more; in_every_step = old.in_every_step }) ≡ true
kept_in_step key old more grows (ForStep line) there = grown key old.in_step more (line.step ∷ line.path) grows there
kept_in_step key old more grows (ForEvery line) there = there

pub kept_in_every_step : (key : List ℕ) (old : LineKeys) (more : BTreeSet (Vec ℕ Global)) → UpdatesAt key old.in_every_step more true
    → (other : SaidLine) → has_line other old ≡ true → has_line other (record { in_step = old.in_step; in_every_step = more }) ≡ true
kept_in_every_step key old more grows (ForStep line) there = there
kept_in_every_step key old more grows (ForEvery line) there = grown key old.in_every_step more line.path grows there

-- ---- what grows

module _ (old new : LineKeys) (grows : (line : SaidLine) → has_line line old ≡ true → has_line line new ≡ true) where
  both : (a b c d : Bool) → (a ≡ true → c ≡ true) → (b ≡ true → d ≡ true) → (a && b) ≡ true → (c && d) ≡ true
  both true true c d f g e = (λ j. f refl j && g refl j)
  both true false c d f g e = absurd cc
  both false b c d f g e = absurd cc

  kept_said : (lines : List SaidLine) → list_all (λ line. has_line line old) lines ≡ true → list_all (λ line. has_line line new) lines ≡ true
  kept_said [] e = refl
  kept_said (line ∷ lines) e = both (has_line line old) (list_all (λ l. has_line l old) lines) (has_line line new) (list_all (λ l. has_line l new) lines) (grows line) (kept_said lines) e

  pub kept_all : (lines : List (List ℕ)) → have_lines old lines ≡ true → have_lines new lines ≡ true
  kept_all [] e = refl
  kept_all (bytes ∷ lines) e =
      both (list_all (λ l. has_line l old) (said (is_skipped bytes) (line_of bytes))) (have_lines old lines)
      (list_all (λ l. has_line l new) (said (is_skipped bytes) (line_of bytes))) (have_lines new lines)
      (kept_said (said (is_skipped bytes) (line_of bytes))) (kept_all lines) e

pub one_more : (keys : LineKeys) (lines : List (List ℕ)) (bytes : List ℕ) → have_lines keys lines ≡ true → have_lines keys (bytes ∷ []) ≡ true → have_lines keys (lines ++ bytes ∷ []) ≡ true
one_more keys lines bytes e f =
    list_all-append (λ b. list_all (λ line. has_line line keys) (said (is_skipped b) (line_of b))) lines (bytes ∷ []) ∙ (λ j. e j && f j)

-- ---- the lines that choices meet

pub met_removed : (choice : Line) (key : List ℕ) (old new : LineKeys) → key ≡ choice.step ∷ choice.path → UpdatesAt key old.in_step new.in_step false
    → UpdatesAt choice.path old.in_every_step new.in_every_step false → (line : SaidLine) → has_line line new ≡ cond (meets choice line) false (has_line line old)
met_removed choice key old new is step every (ForStep line) =
    let q = line.step ∷ line.path in
    changed key old.in_step new.in_step false step q ∙ ap (λ k. cond (bytes_eq k q) false (has_key q old.in_step)) is
met_removed choice key old new is step every (ForEvery line) = changed choice.path old.in_every_step new.in_every_step false every line.path

met_by_more : (made : List Line) (choice : Line) (line : SaidLine) → is_met (made ++ choice ∷ []) line ≡ (is_met made line || (meets choice line || false))
met_by_more made choice (ForStep line) = list_any-append (is_line_of line.step line.path) made (choice ∷ [])
met_by_more made choice (ForEvery line) = list_any-append (λ c. bytes_eq c.path line.path) made (choice ∷ [])

removed_after : (a k h : Bool) → cond k false (cond a false h) ≡ cond (a || (k || false)) false h
removed_after true true h = refl
removed_after true false h = refl
removed_after false true h = refl
removed_after false false h = refl

pub removed : (made : List Line) (choice : Line) (line : SaidLine) (old now new : Bool) → now ≡ cond (is_met made line) false old → new ≡ cond (meets choice line) false now
    → new ≡ cond (is_met (made ++ choice ∷ []) line) false old
removed made choice line old now new before after =
    after ∙ ap (λ x. cond (meets choice line) false x) before ∙ removed_after (is_met made line) (meets choice line) old ∙ ap (λ x. cond x false old) (sym (met_by_more made choice line))

pub none_removed : (old : Bool) (b : Bool) → old ≡ false → old ≡ cond b false old
none_removed old true e = e
none_removed old false e = refl

module _ (all left : LineKeys) (made : List Line) (is : (line : SaidLine) → has_line line left ≡ cond (is_met made line) false (has_line line all)) where
  of_one : (line : SaidLine) → has_line line all ≡ true → has_line line left ≡ not (is_met made line)
  of_one line there = is line ∙ ap (cond (is_met made line) false) there ∙ by (is_met made line)
    where
      by : (b : Bool) → cond b false true ≡ not b
      by true = refl
      by false = refl

  first_of : (a b : Bool) → (a && b) ≡ true → a ≡ true
  first_of true b e = refl
  first_of false b e = absurd cc

  rest_of : (a b : Bool) → (a && b) ≡ true → b ≡ true
  rest_of true b e = e
  rest_of false b e = absurd cc

  of_said : (skipped : Bool) (o : Option SaidLine) → list_all (λ line. has_line line all) (said skipped o) ≡ true
      → list_any (λ line. has_line line left) (said skipped o) ≡ list_any (λ line. not (is_met made line)) (said skipped o)
  of_said true None there = refl
  of_said true (Some line) there = refl
  of_said false None there = refl
  of_said false (Some line) there = ap (λ b. b || false) (of_one line (first_of (has_line line all) true there))

  pub all_left : (n : ℕ) (lines : List (List ℕ)) → have_lines all lines ≡ true → left_from n left lines ≡ unmet_from n made lines
  all_left n [] there = refl
  all_left n (bytes ∷ lines) there =
      let here = list_all (λ line. has_line line all) (said (is_skipped bytes) (line_of bytes)) in
      let one = of_said (is_skipped bytes) (line_of bytes) (first_of here (have_lines all lines) there) in
      (λ j. cond (one j) (unmet_line n bytes ∷ []) [] ++ all_left (suc n) lines (rest_of here (have_lines all lines) there) j)
