-- Free. What the script of a draft picks.
--     picked_in        in a step: the number at the path
--     picked_before    before the first of some steps nothing
--     picked_from      in one of some steps the number at the path
--     picked_behind    after the last of them nothing
--     picked_pushed    one step more says nothing of those before it
--     or_nothing       what stands for no step in particular is nothing
--     indexed          what is at an index
use Rattle.std.proofs.Common.{◌≡◌, ℕ, zero, suc, ◌+◌, ◌<◌, ◌&&◌, Bool, true, false, cond, nat_eq, List, [], ◌∷◌, ◌++◌, Option, None, Some, refl, sym, ap, ◌∙◌, arith, Vec, Global, slice_get, get_or, length, ◌≤◌}
use Rattle.std.specs.BTreeMap.{BTreeMap, is_at}
use Rattle.std.specs.Cmp.Lexicographic.{slice_cmp, pointwise}
use Rattle.std.specs.Option.{option_or}
use Rattle.std.specs.Ordering.{is_eq, nat_cmp}
use Rattle.std.specs.Map.{lookup}
use Rattle.std.proofs.lemmas.Map.Text.{is_eq-slice_cmp}
use Rattle.asm_reader.specs.ScriptLines.{Line, exact_choice, is_line_of}
use Rattle.asm_random.specs.code.Drafts.{lines_in, lines_from}

eq_sym : (m n : ℕ) → nat_eq m n ≡ nat_eq n m
eq_sym m n = grind (arith)

both_ways : (xs ys : List ℕ) → pointwise nat_eq xs ys ≡ pointwise nat_eq ys xs
both_ways [] [] = refl
both_ways [] (y ∷ ys) = refl
both_ways (x ∷ xs) [] = refl
both_ways (x ∷ xs) (y ∷ ys) = ap (λ b. b && pointwise nat_eq xs ys) (eq_sym x y) ∙ ap (λ b. nat_eq y x && b) (both_ways xs ys)

same : (n : ℕ) → nat_eq n n ≡ true
same n = grind (arith)

-- the test of a line is that of a key
tested : (step : ℕ) (p key : List ℕ) → (nat_eq step step && pointwise nat_eq key p) ≡ is_eq (slice_cmp nat_cmp p key)
tested step p key = ap (λ b. b && pointwise nat_eq key p) (same step) ∙ (both_ways key p ∙ sym (is_eq-slice_cmp p key))

pub picked_in : (step : ℕ) (p : List ℕ) (es : List (Vec ℕ Global × ℕ))
    → exact_choice (lines_in step es) step p ≡ lookup (is_at (λ k. slice_cmp nat_cmp p k.items)) es
picked_in step p [] = refl
picked_in step p (e ∷ es) = ap (λ b. cond b (Some e.1) (exact_choice (lines_in step es) step p)) (tested step p e.0.items) ∙ ap (cond (is_eq (slice_cmp nat_cmp p e.0.items)) (Some e.1)) (picked_in step p es)

-- ---- several steps

other : (m n : ℕ) → m < n → nat_eq n m ≡ false
other m n h = grind (arith)

other_up : (m n : ℕ) → m < n → nat_eq m n ≡ false
other_up m n h = grind (arith)

-- lines of another step say nothing
not_in : (s step : ℕ) (p : List ℕ) (es : List (Vec ℕ Global × ℕ)) → nat_eq s step ≡ false → exact_choice (lines_in s es) step p ≡ None
not_in s step p [] h = refl
not_in s step p (e ∷ es) h = ap (λ b. cond (b && pointwise nat_eq e.0.items p) (Some e.1) (exact_choice (lines_in s es) step p)) h ∙ not_in s step p es h

chosen_or : (b : Bool) (c : ℕ) (x y : Option ℕ) → cond b (Some c) (option_or x y) ≡ option_or (cond b (Some c) x) y
chosen_or true c x y = refl
chosen_or false c x y = refl

-- lines, and others after them
pub behind : (ks ls : List Line) (step : ℕ) (p : List ℕ) → exact_choice (ks ++ ls) step p ≡ option_or (exact_choice ks step p) (exact_choice ls step p)
behind [] ls step p = refl
behind (k ∷ ks) ls step p = ap (cond (is_line_of step p k) (Some k.choice)) (behind ks ls step p) ∙ chosen_or (is_line_of step p k) k.choice (exact_choice ks step p) (exact_choice ls step p)

pub picked_before : (s step : ℕ) (p : List ℕ) (ms : List (BTreeMap (Vec ℕ Global) ℕ)) → step < s → exact_choice (lines_from s ms) step p ≡ None
picked_before s step p [] h = refl
picked_before s step p (m ∷ ms) h =
    let up : step < suc s = omega (arith, h) in
    behind (lines_in s m.entries) (lines_from (suc s) ms) step p
    ∙ ap (λ x. option_or x (exact_choice (lines_from (suc s) ms) step p)) (not_in s step p m.entries (other step s h))
    ∙ picked_before (suc s) step p ms up

pub or_nothing : (x : Option ℕ) → option_or x None ≡ x
or_nothing None = refl
or_nothing (Some n) = refl

-- the first of some steps
first_of : (s : ℕ) (p : List ℕ) (n : BTreeMap (Vec ℕ Global) ℕ) (ms : List (BTreeMap (Vec ℕ Global) ℕ))
    → exact_choice (lines_from s (n ∷ ms)) s p ≡ exact_choice (lines_in s n.entries) s p
first_of s p n ms =
    let up : s < suc s = omega arith in
    behind (lines_in s n.entries) (lines_from (suc s) ms) s p
    ∙ ap (option_or (exact_choice (lines_in s n.entries) s p)) (picked_before (suc s) s p ms up) ∙ or_nothing (exact_choice (lines_in s n.entries) s p)

-- those after it
others_of : (s step : ℕ) (p : List ℕ) (n : BTreeMap (Vec ℕ Global) ℕ) (ms : List (BTreeMap (Vec ℕ Global) ℕ)) → s < step
    → exact_choice (lines_from s (n ∷ ms)) step p ≡ exact_choice (lines_from (suc s) ms) step p
others_of s step p n ms h =
    behind (lines_in s n.entries) (lines_from (suc s) ms) step p ∙ ap (λ x. option_or x (exact_choice (lines_from (suc s) ms) step p)) (not_in s step p n.entries (other_up s step h))

-- what a step of some steps picks; the first one has the number s
pub picked_from : (s : ℕ) (k : ℕ) (p : List ℕ) (ms : List (BTreeMap (Vec ℕ Global) ℕ)) (m : BTreeMap (Vec ℕ Global) ℕ) → slice_get ms k ≡ Some m
    → exact_choice (lines_from s ms) (s + k) p ≡ exact_choice (lines_in (s + k) m.entries) (s + k) p
picked_from s k p [] m is = cc
picked_from s zero p (n ∷ ms) m is =
    let here : s + zero ≡ s = omega arith in
    let one : n ≡ m = cc in
    ap (λ step. exact_choice (lines_from s (n ∷ ms)) step p) here ∙ first_of s p n ms
    ∙ (λ i. exact_choice (lines_in (sym here i) (one i).entries) (sym here i) p)
picked_from s (suc k) p (n ∷ ms) m is =
    let next : s + suc k ≡ suc s + k = omega arith in
    let up : s < suc s + k = omega arith in
    ap (λ step. exact_choice (lines_from s (n ∷ ms)) step p) next ∙ (others_of s (suc s + k) p n ms up ∙ picked_from (suc s) k p ms m is)
    ∙ ap (λ step. exact_choice (lines_in step m.entries) step p) (sym next)

-- after the last one nothing
pub picked_behind : (s : ℕ) (k : ℕ) (p : List ℕ) (ms : List (BTreeMap (Vec ℕ Global) ℕ)) → length ms ≤ k → exact_choice (lines_from s ms) (s + k) p ≡ None
picked_behind s k p [] out = refl
picked_behind s zero p (n ∷ ms) out = absurd (omega (arith, out))
picked_behind s (suc k) p (n ∷ ms) out =
    let next : s + suc k ≡ suc s + k = omega arith in
    let up : s < suc s + k = omega arith in
    let less : length ms ≤ k = omega (arith, out) in
    ap (λ step. exact_choice (lines_from s (n ∷ ms)) step p) next ∙ (others_of s (suc s + k) p n ms up ∙ picked_behind (suc s) k p ms less)

-- before one more step
pub picked_pushed : (s step : ℕ) (p : List ℕ) (ms : List (BTreeMap (Vec ℕ Global) ℕ)) (m : BTreeMap (Vec ℕ Global) ℕ) → step < s + length ms
    → exact_choice (lines_from s (ms ++ m ∷ [])) step p ≡ exact_choice (lines_from s ms) step p
picked_pushed s step p [] m low = picked_before s step p (m ∷ []) (omega (arith, low))
picked_pushed s step p (n ∷ ms) m low =
    let less : step < suc s + length ms = omega (arith, low) in
    behind (lines_in s n.entries) (lines_from (suc s) (ms ++ m ∷ [])) step p
    ∙ ap (option_or (exact_choice (lines_in s n.entries) step p)) (picked_pushed (suc s) step p ms m less)
    ∙ sym (behind (lines_in s n.entries) (lines_from (suc s) ms) step p)

-- the map at a place, as it is indexed
pub indexed : {X : Type 0} (xs : List X) (k : ℕ) (x : X) → k < length xs → x ≡ get_or xs k x → slice_get xs k ≡ Some x
indexed [] k x h is = absurd (omega (arith, h))
indexed (y ∷ xs) zero x h is = ap Some (sym is)
indexed (y ∷ xs) (suc k) x h is = let less : k < length xs = omega (arith, h) in indexed xs k x less is
