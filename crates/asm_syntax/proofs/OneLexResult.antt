-- Free. A text has one list of tokens or one first fault, and never both.
use Rattle.std.proofs.Common.{◌≡◌, ℕ, ◌+◌, ◌<◌, ◌≤◌, List, [], ◌∷◌, ◌++◌, length, refl, ap, sym, subst, ◌∙◌, inl, inr, ⊎_elim, append_assoc, arith}
use Rattle.std.proofs.lemmas.List.{append-nil}
use Rattle.std.specs.Prelude.{◌⊎◌, Option, Some, None, codes}
use Rattle.asm_syntax.specs.declared.token.Kind.{Kind}
use Rattle.asm_syntax.specs.declared.token.Kind.TheVariants as kind
use Rattle.asm_syntax.specs.declared.token.Token.{Token}
use Rattle.asm_syntax.specs.declared.error.LexError.{LexError}
use Rattle.asm_syntax.specs.declared.error.LexError.TheVariants as fault
use Rattle.asm_syntax.specs.Tokens.{max_length, IsLastGap, IsBadNumber, Next, Begins, AreTokens, IsFaultAt, IsFault}
use Rattle.asm_syntax.proofs.AfterGaps.{Stop, taken, finished, open_comment, nothing, Stopped, one_stopped}

-- what a stop at this offset comes to, if it is no good token
abbrev verdict : ℕ → Stop → Option LexError
verdict offset (taken k piece behind) = Some (fault.BadNumber offset)
verdict offset finished = None
verdict offset open_comment = Some (fault.OpenComment offset)
verdict offset nothing = Some (fault.BadByte offset)

-- a token that is no bad number
abbrev IsGood : Stop → Type 0
IsGood (taken k piece behind) = ¬ IsBadNumber k behind
IsGood finished = ⊥
IsGood open_comment = ⊥
IsGood nothing = ⊥

-- The text from the offset `at` on ends in no token, with this fault or none.
abbrev Ends : ℕ → List ℕ → Option LexError → Type 0
Ends at text None = IsLastGap text
Ends at text (Some e) = IsFaultAt at text e

record Ended (at : ℕ) (text : List ℕ) (o : Option LexError) : Type 0 where
  gap : List ℕ
  stop : Stop
  stopped : Stopped text gap stop
  comes_to : o ≡ verdict (at + length gap) stop
  no_good : ¬ IsGood stop

next_stopped : (at : ℕ) (text : List ℕ) (t : Token) (behind : List ℕ) → (next : Next at text t behind) → Stopped text next.gap (taken t.kind next.piece behind)
next_stopped at text t behind next = record {
  rest = next.piece ++ behind;
  whole = next.whole ∙ append_assoc next.gap next.piece behind;
  between = next.between;
  stands = (refl, next.spelled, next.longest);
}

ended : (at : ℕ) (text : List ℕ) (o : Option LexError) → Ends at text o → Ended at text o
ended at text None (inl gap) = record {
  gap = text;
  stop = finished;
  stopped = record { rest = []; whole = sym (append-nil text); between = gap; stands = inl refl };
  comes_to = refl;
  no_good = λ good. good;
}
ended at text None (inr (gap, comment, is_gap, is_comment, e)) = record {
  gap = gap;
  stop = finished;
  stopped = record { rest = comment; whole = e; between = is_gap; stands = inr is_comment };
  comes_to = refl;
  no_good = λ good. good;
}
ended at text (Some fault.TooLong) never = absurd never
ended at text (Some (fault.BadByte offset)) (gap, rest, e, is_gap, some, none, same) = record {
  gap = gap;
  stop = nothing;
  stopped = record { rest = rest; whole = e; between = is_gap; stands = (some, none) };
  comes_to = ap (λ n. Some (fault.BadByte n)) same;
  no_good = λ good. good;
}
ended at text (Some (fault.OpenComment offset)) (gap, inside, e, is_gap, unclosed, same) = record {
  gap = gap;
  stop = open_comment;
  stopped = record { rest = codes "/*" ++ inside; whole = e ∙ append_assoc gap (codes "/*") inside; between = is_gap; stands = (inside, refl, unclosed) };
  comes_to = ap (λ n. Some (fault.OpenComment n)) same;
  no_good = λ good. good;
}
ended at text (Some (fault.BadNumber offset)) (t, behind, next, bad, same) = record {
  gap = next.gap;
  stop = taken t.kind next.piece behind;
  stopped = next_stopped at text t behind next;
  comes_to = ap (λ n. Some (fault.BadNumber n)) (same ∙ next.start);
  no_good = λ good. good bad;
}

-- ---- one step

one_end : (at : ℕ) (text : List ℕ) (o p : Option LexError) → Ends at text o → Ends at text p → o ≡ p
one_end at text o p a b =
    let first = ended at text o a in
    let second = ended at text p b in
    let same = one_stopped text first.gap second.gap first.stop second.stop first.stopped second.stopped in
    first.comes_to ∙ (λ i. verdict (at + length (same.0 i)) (same.1 i)) ∙ sym second.comes_to

no_end_at_token : (at : ℕ) (text : List ℕ) (o : Option LexError) (t : Token) (behind : List ℕ) → Ends at text o → Next at text t behind → ¬ IsBadNumber t.kind behind → ⊥
no_end_at_token at text o t behind a next good =
    let first = ended at text o a in
    let same = one_stopped text first.gap next.gap first.stop (taken t.kind next.piece behind) first.stopped (next_stopped at text t behind next) in
    first.no_good (subst IsGood (sym same.1) good)

token_is : (t u : Token) → t.kind ≡ u.kind → t.start ≡ u.start → t.end ≡ u.end → t ≡ u
token_is t u k s e = λ i. record { kind = k i; start = s i; end = e i }

-- what is after a good token
abbrev rest_of : Stop → List ℕ
rest_of (taken k piece behind) = behind
rest_of finished = []
rest_of open_comment = []
rest_of nothing = []

abbrev piece_of : Stop → List ℕ
piece_of (taken k piece behind) = piece
piece_of finished = []
piece_of open_comment = []
piece_of nothing = []

abbrev kind_of : Stop → Kind
kind_of (taken k piece behind) = k
kind_of finished = kind.Name
kind_of open_comment = kind.Name
kind_of nothing = kind.Name

one_next : (at : ℕ) (text : List ℕ) (t u : Token) (x y : List ℕ) → Next at text t x → Next at text u y → (t ≡ u) × (x ≡ y)
one_next at text t u x y first second =
    let same = one_stopped text first.gap second.gap (taken t.kind first.piece x) (taken u.kind second.piece y) (next_stopped at text t x first) (next_stopped at text u y second) in
    let kinds : t.kind ≡ u.kind = ap kind_of same.1 in
    let pieces : first.piece ≡ second.piece = ap piece_of same.1 in
    let starts : t.start ≡ u.start = first.start ∙ ap (λ g. at + length g) same.0 ∙ sym second.start in
    (token_is t u kinds starts (first.end ∙ (λ i. starts i + length (pieces i)) ∙ sym second.end), ap rest_of same.1)

-- ---- whole texts

-- The text from the offset `at` on has these tokens, and then this fault or none.
abbrev Answers : ℕ → List ℕ → List Token → Option LexError → Type 0
Answers at text ts o = (end : ℕ) × (rest : List ℕ) × Begins at text ts end rest × Ends end rest o

one_answer : (at : ℕ) (text : List ℕ) (ts us : List Token) (o p : Option LexError) → Answers at text ts o → Answers at text us p → (ts ≡ us) × (o ≡ p)
one_answer at text [] [] o p (end, rest, (here, all), a) (end', rest', (here', all'), b) =
    let A : ℕ → Type 0 = λ n. Ends n text o in
    let B : ℕ → Type 0 = λ n. Ends n text p in
    let C : List ℕ → Type 0 = λ l. Ends end l o in
    let D : List ℕ → Type 0 = λ l. Ends end' l p in
    (refl, one_end at text o p (subst A here (subst C all a)) (subst B here' (subst D all' b)))
one_answer at text [] (u ∷ us) o p (end, rest, (here, all), a) (end', rest', (behind, next, good, begins), b) =
    let A : ℕ → Type 0 = λ n. Ends n text o in
    let C : List ℕ → Type 0 = λ l. Ends end l o in
    absurd (no_end_at_token at text o u behind (subst A here (subst C all a)) next good)
one_answer at text (t ∷ ts) [] o p (end, rest, (behind, next, good, begins), a) (end', rest', (here', all'), b) =
    let B : ℕ → Type 0 = λ n. Ends n text p in
    let D : List ℕ → Type 0 = λ l. Ends end' l p in
    absurd (no_end_at_token at text p t behind (subst B here' (subst D all' b)) next good)
one_answer at text (t ∷ ts) (u ∷ us) o p (end, rest, (behind, next, good, begins), a) (end', rest', (behind', next', good', begins'), b) =
    let same = one_next at text t u behind behind' next next' in
    let P : Token → Type 0 = λ v. Begins v.end behind' us end' rest' in
    let Q : List ℕ → Type 0 = λ l. Begins t.end l us end' rest' in
    let more = one_answer t.end behind ts us o p (end, rest, begins, a) (end', rest', subst Q (sym same.1) (subst P (sym same.0) begins'), b) in
    ((λ i. same.0 i ∷ more.0 i), more.1)

-- a fault that isn't the text's length
fault_answers : (text : List ℕ) (e : LexError) → IsFault text e → ((e ≡ fault.TooLong) × (max_length < length text)) ⊎ ((length text ≤ max_length) × (ts : List Token) × Answers 0 text ts (Some e))
fault_answers text fault.TooLong long = inl (refl, long)
fault_answers text (fault.BadByte offset) (short, ts, end, rest, begins, at) = inr (short, ts, (end, rest, begins, at))
fault_answers text (fault.OpenComment offset) (short, ts, end, rest, begins, at) = inr (short, ts, (end, rest, begins, at))
fault_answers text (fault.BadNumber offset) (short, ts, end, rest, begins, at) = inr (short, ts, (end, rest, begins, at))

pub one_list_of_tokens : (text : List ℕ) (ts us : List Token) → AreTokens text ts → AreTokens text us → ts ≡ us
one_list_of_tokens text ts us (_, end, rest, begins, last) (_, end', rest', begins', last') =
    (one_answer 0 text ts us None None (end, rest, begins, last) (end', rest', begins', last')).0

pub no_tokens_beside_a_fault : (text : List ℕ) (ts : List Token) (e : LexError) → AreTokens text ts → IsFault text e → ⊥
no_tokens_beside_a_fault text ts e (short, end, rest, begins, last) fault =
    ⊎_elim
    (λ long. omega (arith, long.1, short))
    (λ (_, us, answers). let never : None ≡ Some e = (one_answer 0 text ts us None (Some e) (end, rest, begins, last) answers).1 in absurd (cc))
    (fault_answers text e fault)

pub one_fault : (text : List ℕ) (e f : LexError) → IsFault text e → IsFault text f → e ≡ f
one_fault text e f first second =
    ⊎_elim
    (λ long. ⊎_elim (λ longer. long.0 ∙ sym longer.0) (λ short. absurd (omega (arith, long.1, short.0))) (fault_answers text f second))
    (λ (short, ts, answers). ⊎_elim (λ long. absurd (omega (arith, long.1, short))) (λ (_, us, others). let same : Some e ≡ Some f = (one_answer 0 text ts us (Some e) (Some f) answers others).1 in cc) (fault_answers text f second))
    (fault_answers text e first)

-- a text with a fault has no tokens, so what is said of them holds
pub fault_accepts_nothing : (P : Type 0) (text : List ℕ) (e : LexError) → IsFault text e → (ts : List Token) → AreTokens text ts → P
fault_accepts_nothing P text e fault ts tokens = absurd (no_tokens_beside_a_fault text ts e tokens fault)
