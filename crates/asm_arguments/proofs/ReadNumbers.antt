-- Free. The numbers that are read of what a parse finds are those of its rows, and lie in the
-- ranges that it looks at.
use Rattle.std.proofs.Common.{◌≡◌, ◌∙◌, ◌≤◌, ap, ℕ, ℤ, true, List, [], ◌∷◌, map, Option, Some, None, sym, subst, arith, refl}
use Rattle.std.specs.Prelude.{◌≤ℤ◌, nat_le, pos, find, option_and_then, option_map, slice_get}
use Rattle.std.specs.Borrow.{Bor}
use Rattle.std.proofs.lemmas.Bool.{and_from, le-leb}
use Rattle.std.specs.Str.{bytes_eq}
use Rattle.std.specs.Str.Parse.{signed_digits_value}
use Rattle.std.proofs.lemmas.Int.{ints}
use Rattle.clap.specs.Matches.{first_value}
use Rattle.clap.specs.Walk.{Row, Text, first_of, row_of, rows_of}
use Rattle.clap.specs.Facts.{Entry}
use Rattle.clap.proofs.WalkLemmas.{find_row}
use Rattle.clap.specs.declared.parser.matches.MatchedArg.{MatchedArg}
use Rattle.clap.specs.declared.parser.matches.Found.{Found}
use Rattle.asm_limits.specs.Limits.{NumberOption, is_within}
use Rattle.asm_arguments.specs.Numbers.{HasNumber, IsNumber}

first_text : (xs : List (Bor Text)) → slice_get (map (λ s. s.now) xs) 0 ≡ option_map (λ s. s.now) (slice_get xs 0)
first_text [] = refl
first_text (x ∷ xs) = refl

-- the first text of an argument is that of its row
pub first_of_rows : (f : Found) (name : Text) → first_of name (rows_of f) ≡ first_value f name
first_of_rows f name =
    ap (λ o. option_and_then (λ (r : Row). slice_get r.values 0) o) (find_row f.entries.items name)
    ∙ go (find (λ e. bytes_eq e.0.now name) f.entries.items)
  where
    go : (o : Option Entry) → option_and_then (λ (r : Row). slice_get r.values 0) (option_map row_of o)
        ≡ option_and_then (λ (a : MatchedArg). option_map (λ s. s.now) (slice_get a.vals.items 0)) (option_map (λ e. e.1) o)
    go None = refl
    go (Some e) = first_text e.1.vals.items

module _ (f : Found) (option : NumberOption) (has : HasNumber f option) (n : ℕ)
    (is : signed_digits_value 10 has.text ≡ pos n) where
  pub is_in_range : is_within option.bounds n ≡ true
  is_in_range =
      let bounds = option.bounds in
      let low = subst (λ (i : ℤ). pos bounds.least ≤ℤ i) is has.is_within.2 in
      let high = subst (λ (i : ℤ). i ≤ℤ pos bounds.most) is has.is_within.3 in
      and_from (nat_le bounds.least n) (nat_le n bounds.most) (le-leb bounds.least n (omega (arith, ints))) (le-leb n bounds.most (omega (arith, ints)))

  pub is_number : IsNumber (rows_of f) option.name n
  is_number = record {
    text = has.text;
    is_given = first_of_rows f option.name ∙ has.is_first;
    is_read = is;
  }

-- a number of rows that are known to be those of a parse
pub in_rows : (f : Found) (rows : List Row) → rows_of f ≡ rows → (name : Text) (n : ℕ) → IsNumber (rows_of f) name n → IsNumber rows name n
in_rows f rows is name n number = subst (λ (rs : List Row). IsNumber rs name n) is number
