-- Free. How long the lines of a text are, and the paths in them.
use Rattle.std.proofs.Common.{◌≡◌, ◌==◌, ℕ, ◌+◌, ◌-◌, ◌≤◌, ◌<◌, Bool, true, false, cond, List, [], ◌∷◌, length, map, get_or, take, drop, Option, None, Some, Bor, codes, refl, sym, ap, ◌∙◌, arith}
use Rattle.std.proofs.lemmas.List.{drop_more, length-take-le}
use Rattle.std.specs.List.{slice_split, onto_first, slice_index}
use Rattle.std.specs.Str.{bytes_eq}
use Rattle.std.specs.Str.Lines.{strip_carriage_return}
use Rattle.asm_reader.specs.declared.script.ReadLine.{ReadLine}
use Rattle.asm_reader.specs.declared.script.When.{When}
use Rattle.asm_reader.specs.declared.script.When.TheVariants.{Step, EveryStep}
use Rattle.asm_reader.specs.ScriptLines.{SaidLine, ForStep, ForEvery}
use Rattle.asm_reader.specs.ScriptText.{number_of, numbers_of, path_of, when_of, line_for, line_with, line_of_fields, line_of, line_said}
use Rattle.asm_reader.specs.code.LinesSaid.{bytes_in}
use Rattle.asm_reader.proofs.ScriptLemmas.PathParts.{after_number}

-- ---- what a text is split into

longer_first : (b n : ℕ) (parts : List (List ℕ)) → bytes_in parts ≡ n + 1 → bytes_in (onto_first b parts) ≡ n + 2
longer_first b n [] e = absurd (omega (arith, e))
longer_first b n (part ∷ parts) e = omega (arith, e)

pub split_bytes : (p : ℕ → Bool) (bytes : List ℕ) → bytes_in (slice_split p bytes) ≡ length bytes + 1
split_bytes p [] = refl
split_bytes p (b ∷ bytes) = by_test (p b) (split_bytes p bytes)
  where
    by_test : (yes : Bool) → bytes_in (slice_split p bytes) ≡ length bytes + 1 → bytes_in (cond yes ([] ∷ slice_split p bytes) (onto_first b (slice_split p bytes))) ≡ length (b ∷ bytes) + 1
    by_test true e = omega (arith, e)
    by_test false e = let more = longer_first b (length bytes) (slice_split p bytes) e in omega (arith, more)

-- ---- the path in a line

numbers_size : (parts : List (List ℕ)) (ks : List ℕ) → numbers_of parts ≡ Some ks → length ks ≤ bytes_in parts
numbers_size [] ks e = let none : ks ≡ [] = cc in omega (arith, ap length none)
numbers_size (part ∷ parts) ks e =
    let first = after_number (number_of part) (numbers_of parts) ks e in
    let rest = numbers_size parts first.1 first.3 in
    omega (arith, ap length first.4, rest)

path_size : (bytes ks : List ℕ) → path_of bytes ≡ Some ks → length ks ≤ length bytes + 1
path_size bytes ks e = by_test (bytes_eq bytes (codes "-")) e
  where
    by_test : (dash : Bool) → cond dash (Some []) (numbers_of (slice_split (λ b. b == 46) bytes)) ≡ Some ks → length ks ≤ length bytes + 1
    by_test true d = let none : ks ≡ [] = cc in omega (arith, ap length none)
    by_test false d = omega (arith, numbers_size (slice_split (λ b. b == 46) bytes) ks d, split_bytes (λ b. b == 46) bytes)

abbrev path_said : SaidLine → List ℕ
path_said (ForStep line) = line.path
path_said (ForEvery line) = line.path

path_for : (w : When) (p : List ℕ) (k : ℕ) → path_said (line_for w p k) ≡ p
path_for (Step i) p k = refl
path_for EveryStep p k = refl

path_with : (w : Option When) (p : Option (List ℕ)) (k : Option ℕ) (said : SaidLine) → line_with w p k ≡ Some said → p ≡ Some (path_said said)
path_with None p k said e = absurd cc
path_with (Some w) None k said e = absurd cc
path_with (Some w) (Some p) None said e = absurd cc
path_with (Some w) (Some p) (Some k) said e =
    let same : line_for w p k ≡ said = cc in
    ap Some (sym (path_for w p k) ∙ ap path_said same)

fields_size : (fields : List (List ℕ)) (said : SaidLine) → line_of_fields fields ≡ Some said → length (path_said said) + 1 ≤ bytes_in fields
fields_size [] said e = absurd cc
fields_size (w ∷ []) said e = absurd cc
fields_size (w ∷ p ∷ []) said e = absurd cc
fields_size (w ∷ p ∷ k ∷ []) said e =
    let size = path_size p (path_said said) (path_with (when_of w) (path_of p) (number_of k) said e) in
    omega (arith, size)
fields_size (w ∷ p ∷ k ∷ l ∷ more) said e = absurd cc

pub line_size : (bytes : List ℕ) (c : ReadLine) → line_of bytes ≡ Some (line_said c) → length c.path.items ≤ length bytes
line_size bytes c e =
    let fields = fields_size (slice_split (λ b. b == 32) bytes) (line_said c) e in
    omega (arith, fields, split_bytes (λ b. b == 32) bytes, ap length (path_for c.when c.path.items c.number))

-- ---- the lines from one on

abbrev pub bytes_from : List (Bor (List ℕ)) → ℕ → ℕ
bytes_from lines i = bytes_in (map (λ l. l.now) (drop i lines))

stripped_size : (line : List ℕ) → length (strip_carriage_return line) ≤ length line
stripped_size line = by_test (slice_index line (length line - 1) == 13)
  where
    by_test : (ends : Bool) → length (cond ends (take (length line - 1) line) line) ≤ length line
    by_test true = omega (arith, length-take-le (length line - 1) line (omega arith))
    by_test false = omega arith

pub next_bytes : (lines : List (Bor (List ℕ))) (i : ℕ) (d : Bor (List ℕ)) (bytes : List ℕ) → i < length lines → bytes ≡ strip_carriage_return (get_or lines i d).now → length bytes + 1 + bytes_from lines (i + 1) ≤ bytes_from lines i
next_bytes lines i d bytes within here =
    let more = ap (λ l. bytes_in (map (λ l. l.now) l)) (drop_more lines i d within) in
    omega (arith, more, ap length here, stripped_size (get_or lines i d).now)
