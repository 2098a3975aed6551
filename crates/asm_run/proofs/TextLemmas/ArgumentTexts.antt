-- Free. Texts of argument lists, of entries and of paths, one after the other.
use Rattle.std.proofs.Common.{◌≡◌, ℕ, zero, suc, ◌+◌, ◌<◌, List, [], ◌∷◌, ◌++◌, length, take, get_or, append_assoc, Some, refl, sym, ap, ◌∙◌, arith}
use Rattle.std.specs.Prelude.{codes, decimal, slice_get, slice_index_or}
use Rattle.std.proofs.lemmas.Grind.{flat_map-append}
use Rattle.std.proofs.lemmas.List.{append-nil, take_more}
use Rattle.std.proofs.lemmas.Option.{slice_get_within, get_or_from_slice_get}
use Rattle.asm_state.specs.declared.value.Value.{Value}
use Rattle.asm_syntax.specs.SourceTree.{Spec}
use Rattle.asm_updates.specs.code.SummaryRanges.{NamedRanges}
use Rattle.asm_run.specs.Trace.{value_text, values_text, numbers_text}
use Rattle.asm_run.specs.code.WrittenEntries.{entry_line, entries_text}

-- one argument more
values_more : (elements : List (List ℕ)) (v w : Value) (vs : List Value) → values_text elements v (vs ++ w ∷ []) ≡ values_text elements v vs ++ (codes ", " ++ value_text elements w)
values_more elements v w [] = refl
values_more elements v w (u ∷ us) =
    ap (λ t. value_text elements v ++ (codes ", " ++ t)) (values_more elements u w us) ∙ simp append_assoc

one_taken : {X : Type 0} (xs : List X) (i : ℕ) (x : X) → i < length xs → get_or xs i x ≡ x → take (i + 1) xs ≡ take i xs ++ x ∷ []
one_taken xs i x low at = take_more xs i x low ∙ ap (λ y. take i xs ++ y ∷ []) at

pub values_grow : (elements : List (List ℕ)) (v : Value) (rest : List Value) (i : ℕ) (w : Value) (first old middle new : List ℕ) → i < length rest → w ≡ slice_index_or rest i w
    → old ≡ first ++ values_text elements v (take i rest) → middle ≡ old ++ codes ", " → new ≡ middle ++ value_text elements w
    → new ≡ first ++ values_text elements v (take (i + 1) rest)
values_grow elements v rest i w first old middle new low at before comma grown =
    grown ∙ ap (λ t. t ++ value_text elements w) (comma ∙ ap (λ t. t ++ codes ", ") before)
    ∙ append_assoc (first ++ values_text elements v (take i rest)) (codes ", ") (value_text elements w)
    ∙ append_assoc first (values_text elements v (take i rest)) (codes ", " ++ value_text elements w)
    ∙ ap (λ t. first ++ t) (sym (values_more elements v w (take i rest)) ∙ ap (values_text elements v) (sym (one_taken rest i w low (sym at))))

-- one entry more
pub entries_grow : (s : Spec) (es : NamedRanges) (i : ℕ) (e : ℕ × (Value × Value)) (first old new : List ℕ) → slice_get es i ≡ Some e
    → old ≡ first ++ entries_text s (take i es) → new ≡ old ++ entry_line s e → new ≡ first ++ entries_text s (take (i + 1) es)
entries_grow s es i e first old new at before grown =
    let more = one_taken es i e (slice_get_within es i e at) (get_or_from_slice_get es i e e at) in
    let all : entries_text s (take (i + 1) es) ≡ entries_text s (take i es) ++ entry_line s e =
    ap (entries_text s) more ∙ flat_map-append (entry_line s) (take i es) (e ∷ []) ∙ ap (λ t. entries_text s (take i es) ++ t) (append-nil (entry_line s e)) in
    grown ∙ ap (λ t. t ++ entry_line s e) before ∙ append_assoc first (entries_text s (take i es)) (entry_line s e) ∙ ap (λ t. first ++ t) (sym all)

-- one number of a path more
numbers_more : (k n : ℕ) (ks : List ℕ) → numbers_text k (ks ++ n ∷ []) ≡ numbers_text k ks ++ (codes "." ++ decimal n)
numbers_more k n [] = refl
numbers_more k n (j ∷ js) = ap (λ t. decimal k ++ (codes "." ++ t)) (numbers_more j n js) ∙ simp append_assoc

-- what is within a list is read whatever is read past its end
same_read : (ks : List ℕ) (i m n : ℕ) → i < length ks → slice_index_or ks i m ≡ slice_index_or ks i n
same_read [] i m n low = omega (arith, low)
same_read (k ∷ ks) zero m n low = refl
same_read (k ∷ ks) (suc i) m n low = same_read ks i m n (omega (arith, low))

pub numbers_grow : (k : ℕ) (rest : List ℕ) (i : ℕ) (first old middle new : List ℕ) → i < length rest
    → old ≡ first ++ numbers_text k (take i rest) → middle ≡ old ++ codes "." → new ≡ middle ++ decimal (slice_index_or rest i 0)
    → new ≡ first ++ numbers_text k (take (i + 1) rest)
numbers_grow k rest i first old middle new low before dot grown =
    let n : ℕ = slice_index_or rest i 0 in
    grown ∙ ap (λ t. t ++ decimal n) (dot ∙ ap (λ t. t ++ codes ".") before)
    ∙ append_assoc (first ++ numbers_text k (take i rest)) (codes ".") (decimal n)
    ∙ append_assoc first (numbers_text k (take i rest)) (codes "." ++ decimal n)
    ∙ ap (λ t. first ++ t) (sym (numbers_more k n (take i rest)) ∙ ap (numbers_text k) (sym (one_taken rest i n low (same_read rest i n 0 low))))
