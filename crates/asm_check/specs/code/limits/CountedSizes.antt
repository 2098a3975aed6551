-- Bridge to the code. The sizes and totals that the limits are about, as the code keeps them.
--     size_with counts m              the size of a universe, if these are the elements of the
--                                     enumerations
--     AreElementCounts spec counts    how many elements each enumeration has, by its item
--     counted_from size left ds       the sizes that are counted, by positions in the table, if
--                                     `left` more universes are allowed
--     AreTotals spec before totals    what the declarations so far add together
use Rattle.std.specs.Prelude.{◌≡◌, ◌<◌, ◌+◌, ◌-◌, ◌^◌, ℕ, zero, suc, cond, nat_le, min, List, [], ◌∷◌, length, slice_index}
use Rattle.asm_state.specs.declared.signature_limits.TheConstants.{MAX_VALUES}
use Rattle.asm_syntax.specs.SourceTree.{Name, Spec}
use Rattle.asm_check.specs.declared.limits.limit_faults.Totals.{Totals}
use Rattle.asm_check.specs.declared.names.declared_as.Declaration.{Declaration as CodeDeclaration}
use Rattle.asm_check.specs.Names.{Declaration, Meaning, Range, Enumeration}
use Rattle.asm_check.specs.Limits.{is_universe, is_function, is_controlled, is_static, is_rule, range_size, size_of, domain_of, lists_of, counted_size}
use Rattle.asm_check.specs.code.FaultLists.{total_of}
use Rattle.asm_check.specs.code.names.Tables.{Entry, text_at}

abbrev pub value_of_entry : Entry → CodeDeclaration
value_of_entry e = e.1

abbrev pub size_with : (counts : List ℕ) → Meaning → ℕ
size_with counts (Range first last) = range_size first last
size_with counts (Enumeration k) = slice_index counts k
size_with counts m = 0

abbrev pub AreElementCounts : Spec → List ℕ → Type 0
AreElementCounts spec counts = (k : ℕ) → slice_index counts k ≡ size_of spec (Enumeration k)

abbrev pub allowed_size : ℕ → ℕ
allowed_size n = cond (nat_le n MAX_VALUES) n 0

abbrev pub counted_from : (size : Meaning → ℕ) → (left : ℕ) → List Declaration → List ℕ
counted_from size left [] = []
counted_from size zero (d ∷ ds) = 0 ∷ counted_from size zero ds
counted_from size (suc left) (d ∷ ds) = cond (is_universe d.meaning) (allowed_size (size d.meaning) ∷ counted_from size left ds) (0 ∷ counted_from size (suc left) ds)

-- by its position in the table, the size of each name that is counted
abbrev pub AreCountedSizes : Spec → List Entry → List ℕ → Type 0
AreCountedSizes spec entries sizes = (i : ℕ) (x : Name) → i < length entries → text_at entries i ≡ x.text → slice_index sizes i ≡ counted_size spec x

abbrev pub greatest : ℕ
greatest = 2 ^ 64 - 1

pub record AreTotals (spec : Spec) (before : List Declaration) (totals : Totals) : Type 0 where
  pub universes : totals.universes ≡ min (total_of is_universe (λ m. 1) before) greatest
  pub functions : totals.functions ≡ min (total_of is_function (λ m. 1) before) greatest
  pub locations : totals.locations ≡ min (total_of is_controlled (λ m. lists_of spec (domain_of m) + 1) before) greatest
  pub static_lists : totals.static_lists ≡ min (total_of is_static (λ m. lists_of spec (domain_of m)) before) greatest
  pub rules : totals.rules ≡ min (total_of is_rule (λ m. 1) before) greatest
