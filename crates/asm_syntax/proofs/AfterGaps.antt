-- Free. What is after the gap at the front of a text.
use Rattle.std.proofs.Common.{◌≡◌, ◌≢◌, ℕ, List, [], ◌∷◌, ◌++◌, true, refl, ap, sym, subst, ◌∙◌, inl, inr, ⊎_elim, append_assoc}
use Rattle.std.proofs.lemmas.Bool.{both_ways, or_left}
use Rattle.std.proofs.lemmas.List.Elements.{All-head}
use Rattle.std.specs.Prelude.{◌⊎◌, IsTrue, codes}
use Rattle.std.specs.Char.{is_ascii_digit}
use Rattle.asm_syntax.specs.declared.token.Kind.{Kind}
use Rattle.asm_syntax.specs.declared.token.Kind.TheVariants as kind
use Rattle.asm_syntax.specs.Tokens.{newline, is_blank, BeginsBy, StandsIn, IsLineComment, IsGap, Spells, IsLongest, BeginsNothing}
use Rattle.asm_syntax.proofs.Bytes.{begins_filler, letter_no_filler, digit_no_filler}
use Rattle.asm_syntax.proofs.Texts.{begins_as_filler, symbol_is_no_filler}
use Rattle.asm_syntax.proofs.TokenLengths.{no_empty_token, word_named}
use Rattle.asm_syntax.proofs.OneGap.{IsSolid, one_gap, blank_no_slash, no_star_slash}
use Rattle.asm_syntax.proofs.OneToken.{one_token}
use Rattle.asm_syntax.proofs.OneKind.{one_kind}

-- a token with its bytes and what is after them, or why there is none
pub data Stop : Type 0 where
  taken : Kind → List ℕ → List ℕ → Stop
  finished : Stop
  open_comment : Stop
  nothing : Stop

abbrev pub Stands : List ℕ → Stop → Type 0
Stands rest (taken k piece behind) = (rest ≡ piece ++ behind) × Spells piece k × IsLongest piece behind
Stands rest finished = (rest ≡ []) ⊎ IsLineComment rest
Stands rest open_comment = (inside : List ℕ) × (rest ≡ codes "/*" ++ inside) × ¬ StandsIn (codes "*/") inside
Stands rest nothing = (rest ≢ []) × BeginsNothing rest

-- ---- a token begins with no blank and no `/`

token_first : (b : ℕ) (bytes : List ℕ) (k : Kind) → Spells (b ∷ bytes) k → begins_filler b ≡ true → ⊥
token_first b bytes kind.Name spelled f = letter_no_filler b spelled.0.0 f
token_first b bytes (kind.Number n) spelled f = digit_no_filler b (All-head (λ c. IsTrue (is_ascii_digit c)) b bytes spelled.1) f
token_first b bytes (kind.Symbol s) spelled f = both_ways (begins_filler b) (ap begins_as_filler spelled ∙ symbol_is_no_filler s) f
token_first b bytes (kind.Keyword w) spelled f = letter_no_filler b (word_named (b ∷ bytes) w spelled).0 f

-- a text that begins with a token
record TokenFirst (rest : List ℕ) : Type 0 where
  byte : ℕ
  behind : List ℕ
  whole : rest ≡ byte ∷ behind
  plain : begins_filler byte ≡ true → ⊥

first_of_token : (rest piece behind : List ℕ) (k : Kind) → rest ≡ piece ++ behind → Spells piece k → TokenFirst rest
first_of_token rest [] behind k whole spelled = absurd (no_empty_token k spelled)
first_of_token rest (b ∷ bytes) behind k whole spelled = record { byte = b; behind = bytes ++ behind; whole = whole; plain = token_first b bytes k spelled }

-- ---- a stop is no gap

blank_begins : (b : ℕ) → is_blank b ≡ true → begins_filler b ≡ true
blank_begins b blank = or_left (is_blank b) _ blank

slash_begins : (b : ℕ) → b ≡ 47 → begins_filler b ≡ true
slash_begins b e = ap begins_filler e

solid_token : (rest : List ℕ) → TokenFirst rest → IsSolid rest
solid_token rest first behind (inl (b, blank, e)) =
    let same : first.byte ≡ b = let w = first.whole in cc in
    first.plain (ap begins_filler same ∙ blank_begins b blank)
solid_token rest first behind (inr (inl (inside, e, _))) =
    first.plain (slash_begins first.byte (let w = first.whole in cc))
solid_token rest first behind (inr (inr (inside, e, _))) =
    first.plain (slash_begins first.byte (let w = first.whole in cc))

solid_end : (rest : List ℕ) → rest ≡ [] → IsSolid rest
solid_end rest none behind (inl (b, _, e)) = cc
solid_end rest none behind (inr (inl (inside, e, _))) = cc
solid_end rest none behind (inr (inr (inside, e, _))) = cc

solid_line : (rest : List ℕ) → IsLineComment rest → IsSolid rest
solid_line rest (inside, e, clean) behind (inl (b, blank, f)) = blank_no_slash b blank (cc)
solid_line rest (inside, e, clean) behind (inr (inl (block, f, _))) = no_star_slash (block ++ 42 ∷ 47 ∷ behind) inside (sym f ∙ e)
solid_line rest (inside, e, clean) behind (inr (inr (line, f, _))) =
    let same : inside ≡ line ++ newline ∷ behind = cc in clean (line, behind, same ∙ sym (append_assoc line (newline ∷ []) behind))

solid_open : (rest inside : List ℕ) → rest ≡ codes "/*" ++ inside → ¬ StandsIn (codes "*/") inside → IsSolid rest
solid_open rest inside e unclosed behind (inl (b, blank, f)) = blank_no_slash b blank (cc)
solid_open rest inside e unclosed behind (inr (inl (block, f, _))) =
    let same : inside ≡ block ++ 42 ∷ 47 ∷ behind = cc in unclosed (block, behind, same ∙ sym (append_assoc block (codes "*/") behind))
solid_open rest inside e unclosed behind (inr (inr (line, f, _))) = no_star_slash inside (line ++ newline ∷ behind) (sym e ∙ f)

solid_nothing : (rest : List ℕ) → BeginsNothing rest → IsSolid rest
solid_nothing rest none behind (inl (b, blank, e)) = none.blank (subst (BeginsBy is_blank) (sym e) blank)
solid_nothing rest none behind (inr (inl (inside, e, _))) = none.block_comment (inside ++ 42 ∷ 47 ∷ behind) e
solid_nothing rest none behind (inr (inr (inside, e, _))) = none.line_comment (inside ++ newline ∷ behind) e

solid : (rest : List ℕ) (s : Stop) → Stands rest s → IsSolid rest
solid rest (taken k piece behind) (whole, spelled, _) = solid_token rest (first_of_token rest piece behind k whole spelled)
solid rest finished stands = ⊎_elim (solid_end rest) (solid_line rest) stands
solid rest open_comment (inside, e, unclosed) = solid_open rest inside e unclosed
solid rest nothing (_, none) = solid_nothing rest none

-- ---- one stop alone

token_unfinished : (rest : List ℕ) → TokenFirst rest → (rest ≡ []) ⊎ IsLineComment rest → ⊥
token_unfinished rest first (inl none) = let w = first.whole in cc
token_unfinished rest first (inr (inside, e, _)) = first.plain (slash_begins first.byte (let w = first.whole in cc))

token_no_comment : (rest inside : List ℕ) → TokenFirst rest → rest ≡ codes "/*" ++ inside → ⊥
token_no_comment rest inside first e = first.plain (slash_begins first.byte (let w = first.whole in cc))

finished_unopened : (rest inside : List ℕ) → (rest ≡ []) ⊎ IsLineComment rest → rest ≡ codes "/*" ++ inside → ⊥
finished_unopened rest inside (inl none) e = cc
finished_unopened rest inside (inr (line, f, _)) e = no_star_slash inside line (sym e ∙ f)

finished_something : (rest : List ℕ) → (rest ≡ []) ⊎ IsLineComment rest → rest ≢ [] → BeginsNothing rest → ⊥
finished_something rest (inl none) some begins = some none
finished_something rest (inr (line, f, _)) some begins = begins.line_comment line f

one_taken : (rest : List ℕ) (k l : Kind) (p q x y : List ℕ) → Stands rest (taken k p x) → Stands rest (taken l q y) → taken k p x ≡ taken l q y
one_taken rest k l p q x y (e, first, longest) (f, second, furthest) =
    let pieces = one_token p x q y k l (sym e ∙ f) first second longest furthest in
    let S : List ℕ → Type 0 = λ text. Spells text l in
    let kinds = one_kind p k l first (subst S (sym pieces.0) second) in
    λ i. taken (kinds i) (pieces.0 i) (pieces.1 i)

one_stop : (rest : List ℕ) (s t : Stop) → Stands rest s → Stands rest t → s ≡ t
one_stop rest (taken k p x) (taken l q y) a b = one_taken rest k l p q x y a b
one_stop rest (taken k p x) finished (e, spelled, _) b = absurd (token_unfinished rest (first_of_token rest p x k e spelled) b)
one_stop rest (taken k p x) open_comment (e, spelled, _) (inside, f, _) = absurd (token_no_comment rest inside (first_of_token rest p x k e spelled) f)
one_stop rest (taken k p x) nothing (e, spelled, _) (_, none) = absurd (none.token p x k e spelled)
one_stop rest finished (taken k p x) b (e, spelled, _) = absurd (token_unfinished rest (first_of_token rest p x k e spelled) b)
one_stop rest finished finished a b = refl
one_stop rest finished open_comment a (inside, f, _) = absurd (finished_unopened rest inside a f)
one_stop rest finished nothing a (some, none) = absurd (finished_something rest a some none)
one_stop rest open_comment (taken k p x) (inside, f, _) (e, spelled, _) = absurd (token_no_comment rest inside (first_of_token rest p x k e spelled) f)
one_stop rest open_comment finished (inside, f, _) b = absurd (finished_unopened rest inside b f)
one_stop rest open_comment open_comment a b = refl
one_stop rest open_comment nothing (inside, f, _) (_, none) = absurd (none.block_comment inside f)
one_stop rest nothing (taken k p x) (_, none) (e, spelled, _) = absurd (none.token p x k e spelled)
one_stop rest nothing finished (some, none) b = absurd (finished_something rest b some none)
one_stop rest nothing open_comment (_, none) (inside, f, _) = absurd (none.block_comment inside f)
one_stop rest nothing nothing a b = refl

-- ---- after a gap

-- After this gap the text has this stop.
pub record Stopped (text gap : List ℕ) (stop : Stop) : Type 0 where
  pub rest : List ℕ
  pub whole : text ≡ gap ++ rest
  pub between : IsGap gap
  pub stands : Stands rest stop

pub one_stopped : (text g h : List ℕ) (s t : Stop) → Stopped text g s → Stopped text h t → (g ≡ h) × (s ≡ t)
one_stopped text g h s t first second =
    let gaps = one_gap g h first.rest second.rest (sym first.whole ∙ second.whole) first.between second.between (solid first.rest s first.stands) (solid second.rest t second.stands) in
    let S : List ℕ → Type 0 = λ rest. Stands rest t in
    (gaps.0, one_stop first.rest s t first.stands (subst S (sym gaps.1) second.stands))
