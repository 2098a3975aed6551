-- Free. Lines that are skipped change nothing of what a script says.
--     kept lines         those that aren't skipped
--     says_alike         a text says what another one does that has the same lines except those
--                        that are skipped
--     feed_first         the lines of a text are those before a line feed and those after it
--     comments_kept      comments before a text add no line to those that aren't skipped
--     comments_say       a script with comments before it, if it isn't too long
use Rattle.std.proofs.Common.{◌≡◌, ℕ, zero, suc, ◌<◌, ◌≤◌, ◌-◌, Bool, true, false, cond, not, is_none, ◌==◌, ◌&&◌, ◌||◌, List, [], ◌∷◌, ◌++◌, length, map, take, refl, sym, ap, subst, ◌∙◌, arith}
use Rattle.std.specs.List.{All, filter, onto_first, slice_split}
use Rattle.std.specs.Prelude.{slice_index}
use Rattle.std.specs.Str.Lines.{strip_carriage_return}
use Rattle.std.proofs.lemmas.List.{append_assoc, map-append}
use Rattle.std.proofs.lemmas.List.Elements.{filter-append}
use Rattle.std.proofs.lemmas.List.Splits.{length-slice_split, slice_split_at}
use Rattle.asm_reader.specs.ScriptLines.{Script, script_of}
use Rattle.asm_reader.specs.ScriptText.{AreFaultless, IsScript, is_bad, is_repeated, is_skipped, line_of, lines_of, max_script, said, said_in, says_again, script_in}
use Rattle.asm_explore_texts.specs.Comments.{comment, comments, in_one_line, shown}

-- ---- lines that aren't skipped

abbrev pub kept : List (List ℕ) → List (List ℕ)
kept lines = filter (λ line. not (is_skipped line)) lines

-- the lines after one, with it if it isn't skipped
abbrev kept_behind : Bool → List ℕ → List (List ℕ) → List (List ℕ)
kept_behind skips line lines = cond (not skips) (line ∷ lines) lines

skipped_first : (line : List ℕ) (lines : List (List ℕ)) → is_skipped line ≡ true → kept (line ∷ lines) ≡ kept lines
skipped_first line lines skips = ap (λ b. kept_behind b line (kept lines)) skips

kept_first : (line : List ℕ) (lines : List (List ℕ)) → is_skipped line ≡ false → kept (line ∷ lines) ≡ line ∷ kept lines
kept_first line lines stays = ap (λ b. kept_behind b line (kept lines)) stays

same_said : (lines : List (List ℕ)) → said_in (kept lines) ≡ said_in lines
same_said [] = refl
same_said (line ∷ lines) = go (is_skipped line) refl (same_said lines)
  where
    go : (b : Bool) → is_skipped line ≡ b → said_in (kept lines) ≡ said_in lines → said_in (kept_behind b line (kept lines)) ≡ said b (line_of line) ++ said_in lines
    go true is rest = rest
    go false is rest = ap (λ b. said b (line_of line) ++ said_in (kept lines)) is ∙ ap (λ it. said false (line_of line) ++ it) rest

same_script : (lines : List (List ℕ)) → script_in (kept lines) ≡ script_in lines
same_script lines = ap script_of (same_said lines)

-- a line that is among those that aren't skipped is among all
record IsCut (lines before : List (List ℕ)) (bytes : List ℕ) : Type 0 where
  front : List (List ℕ)
  back : List (List ℕ)
  parts : lines ≡ front ++ bytes ∷ back
  same : kept front ≡ before

cut : (lines before after : List (List ℕ)) (bytes : List ℕ) → kept lines ≡ before ++ bytes ∷ after → IsCut lines before bytes
cut [] [] after bytes e = let no : [] ≡ bytes ∷ after = e in cc
cut [] (b ∷ before) after bytes e = let no : [] ≡ b ∷ (before ++ bytes ∷ after) = e in cc
cut (line ∷ lines) before after bytes e = go (is_skipped line) refl before e (λ before. cut lines before after bytes)
  where
    Cuts : Type 0
    Cuts = (before : List (List ℕ)) → kept lines ≡ before ++ bytes ∷ after → IsCut lines before bytes

    go : (b : Bool) → is_skipped line ≡ b → (before : List (List ℕ)) → kept_behind b line (kept lines) ≡ before ++ bytes ∷ after → Cuts → IsCut (line ∷ lines) before bytes
    go true is before e cuts =
        let c = cuts before e in
        record { front = line ∷ c.front; back = c.back; parts = ap (λ ls. line ∷ ls) c.parts; same = skipped_first line c.front is ∙ c.same }
    go false is [] e cuts =
        let same : line ≡ bytes = cc in
        record { front = []; back = lines; parts = ap (λ b. b ∷ lines) same; same = refl }
    go false is (b ∷ before) e cuts =
        let same : line ≡ b = cc in
        let rest : kept lines ≡ before ++ bytes ∷ after = cc in
        let c = cuts before rest in
        record {
          front = line ∷ c.front;
          back = c.back;
          parts = ap (λ ls. line ∷ ls) c.parts;
          same = kept_first line c.front is ∙ (ap (λ l. l ∷ kept c.front) same ∙ ap (λ ls. b ∷ ls) c.same);
        }

-- ---- faults

-- what a line repeats depends on what those before it say
repeats_alike : (one other : List (List ℕ)) (bytes : List ℕ) → script_in one ≡ script_in other → is_bad bytes || is_repeated one bytes ≡ is_bad bytes || is_repeated other bytes
repeats_alike one other bytes same = ap (λ it. is_bad bytes || says_again it (said (is_skipped bytes) (line_of bytes))) same

faultless_kept : (lines : List (List ℕ)) → AreFaultless lines → AreFaultless (kept lines)
faultless_kept lines good before after bytes e =
    let c = cut lines before after bytes e in
    repeats_alike before c.front bytes (ap script_in (sym c.same) ∙ same_script c.front) ∙ good c.front c.back bytes c.parts

skipped_is_good : (before : List (List ℕ)) (line : List ℕ) → is_skipped line ≡ true → is_bad line || is_repeated before line ≡ false
skipped_is_good before line skips =
    ap (λ b. not b && is_none (line_of line) || is_repeated before line) skips
    ∙ ap (λ b. says_again (script_in before) (said b (line_of line))) skips

faultless_whole : (lines : List (List ℕ)) → AreFaultless (kept lines) → AreFaultless lines
faultless_whole lines good before after bytes e = go (is_skipped bytes) refl
  where
    go : (b : Bool) → is_skipped bytes ≡ b → is_bad bytes || is_repeated before bytes ≡ false
    go true is = skipped_is_good before bytes is
    go false is =
        let parts : kept lines ≡ kept before ++ bytes ∷ kept after =
        ap kept e ∙ (filter-append (λ line. not (is_skipped line)) before (bytes ∷ after) ∙ ap (λ ls. kept before ++ ls) (kept_first bytes after is)) in
        repeats_alike before (kept before) bytes (sym (same_script before)) ∙ good (kept before) (kept after) bytes parts

pub says_alike : (text bare : List ℕ) (script : Script) → kept (lines_of text) ≡ kept (lines_of bare) → length text ≤ max_script → IsScript bare script → IsScript text script
says_alike text bare script same fits is =
    record {
      fits = fits;
      faultless = faultless_whole (lines_of text) (subst AreFaultless (sym same) (faultless_kept (lines_of bare) is.faultless));
      says = is.says ∙ (sym (same_script (lines_of bare)) ∙ (ap script_in (sym same) ∙ same_script (lines_of text)));
    }

-- ---- a line feed ends a line

onto_front : {X : Type 0} (x : X) (parts more : List (List X)) → 0 < length parts → onto_first x (parts ++ more) ≡ onto_first x parts ++ more
onto_front x [] more some = absurd (omega (arith, some))
onto_front x (part ∷ parts) more some = refl

abbrev is_feed : ℕ → Bool
is_feed byte = byte == 10

split_at_feed : (front rest : List ℕ) → slice_split is_feed (front ++ 10 ∷ rest) ≡ slice_split is_feed front ++ slice_split is_feed rest
split_at_feed [] rest = refl
split_at_feed (byte ∷ front) rest = go (is_feed byte) (split_at_feed front rest)
  where
    some : 0 < length (slice_split is_feed front)
    some = omega (arith, length-slice_split is_feed front)

    cut_by : Bool → List (List ℕ) → List (List ℕ)
    cut_by b lines = cond b ([] ∷ lines) (onto_first byte lines)

    go : (b : Bool) → slice_split is_feed (front ++ 10 ∷ rest) ≡ slice_split is_feed front ++ slice_split is_feed rest → cut_by b (slice_split is_feed (front ++ 10 ∷ rest)) ≡ cut_by b (slice_split is_feed front) ++ slice_split is_feed rest
    go true same = ap (λ ls. [] ∷ ls) same
    go false same = ap (onto_first byte) same ∙ onto_front byte (slice_split is_feed front) (slice_split is_feed rest) some

pub feed_first : (front rest : List ℕ) → lines_of (front ++ 10 ∷ rest) ≡ lines_of front ++ lines_of rest
feed_first front rest =
    ap (map strip_carriage_return) (split_at_feed front rest)
    ∙ map-append strip_carriage_return (slice_split is_feed front) (slice_split is_feed rest)

-- ---- a comment is a line that is skipped

never_feeds : (byte : ℕ) → (shown byte == 10) ≡ false
never_feeds byte = go (byte == 10) refl
  where
    go : (b : Bool) → (byte == 10) ≡ b → (cond b 32 byte == 10) ≡ false
    go true is = refl
    go false is = is

none_feeds : (bytes : List ℕ) → All (λ b. (b == 10) ≡ false) (in_one_line bytes)
none_feeds [] k d low = absurd (omega (arith, low))
none_feeds (b ∷ bytes) zero d low = never_feeds b
none_feeds (b ∷ bytes) (suc k) d low = none_feeds bytes k d (omega (arith, low))

front_feeds : (bytes : List ℕ) → All (λ b. (b == 10) ≡ false) (35 ∷ 32 ∷ in_one_line bytes)
front_feeds bytes zero d low = refl
front_feeds bytes (suc zero) d low = refl
front_feeds bytes (suc (suc k)) d low = none_feeds bytes k d (omega (arith, low))

-- without its end, and without a carriage return before that
abbrev front : List ℕ → List ℕ
front [] = 35 ∷ []
front (b ∷ line) = 35 ∷ 32 ∷ in_one_line (b ∷ line)

abbrev bare : List ℕ → List ℕ
bare line = strip_carriage_return (front line)

sign_feeds : All (λ b. (b == 10) ≡ false) (35 ∷ [])
sign_feeds zero d low = refl
sign_feeds (suc k) d low = absurd (omega (arith, low))

comment_first : (line rest : List ℕ) → lines_of (comment line ++ rest) ≡ bare line ∷ lines_of rest
comment_first [] rest = ap (map strip_carriage_return) (slice_split_at (λ b. b == 10) (35 ∷ []) 10 rest sign_feeds refl)
comment_first (b ∷ line) rest =
    let whole = 35 ∷ 32 ∷ in_one_line (b ∷ line) in
    let cut : comment (b ∷ line) ++ rest ≡ whole ++ 10 ∷ rest = ap (λ t. 35 ∷ 32 ∷ t) (append_assoc (in_one_line (b ∷ line)) (10 ∷ []) rest) in
    ap lines_of cut ∙ ap (map strip_carriage_return) (slice_split_at (λ b. b == 10) whole 10 rest (front_feeds (b ∷ line)) refl)

skipped_either_way : (b : Bool) (bytes : List ℕ) → is_skipped (cond b (take (length (35 ∷ 32 ∷ bytes) - 1) (35 ∷ 32 ∷ bytes)) (35 ∷ 32 ∷ bytes)) ≡ true
skipped_either_way true bytes =
    let some : length (35 ∷ 32 ∷ bytes) - 1 ≡ suc (length bytes) = omega arith in
    ap (λ n. is_skipped (take n (35 ∷ 32 ∷ bytes))) some
skipped_either_way false bytes = refl

bare_skipped : (line : List ℕ) → is_skipped (bare line) ≡ true
bare_skipped [] = refl
bare_skipped (b ∷ line) =
    let whole = 35 ∷ 32 ∷ in_one_line (b ∷ line) in
    skipped_either_way (slice_index whole (length whole - 1) == 13) (in_one_line (b ∷ line))

pub comments_kept : (lines : List (List ℕ)) (rest : List ℕ) → kept (lines_of (comments lines ++ rest)) ≡ kept (lines_of rest)
comments_kept [] rest = refl
comments_kept (line ∷ lines) rest =
    ap (λ t. kept (lines_of t)) (append_assoc (comment line) (comments lines) rest)
    ∙ (ap kept (comment_first line (comments lines ++ rest))
    ∙ (skipped_first (bare line) (lines_of (comments lines ++ rest)) (bare_skipped line) ∙ comments_kept lines rest))

-- ---- comments before a script

pub comments_say : (text : List ℕ) (script : Script) → IsScript text script → (lines : List (List ℕ)) → length (comments lines ++ text) ≤ max_script → IsScript (comments lines ++ text) script
comments_say text script is lines fits = says_alike (comments lines ++ text) text script (comments_kept lines text) fits is
