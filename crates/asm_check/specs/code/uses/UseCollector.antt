-- Bridge to the code. The collector of uses, and what its steps do.
--     bound_of c             the names that are bound where it is, the innermost binder first
--     IsSameScope xs ys      the same names are among both
--     AddsUses c d us        from c to d just these uses are added
--     Binds, Unbinds         a binder opens, and the last one closes
use Rattle.std.specs.Prelude.{◌≡◌, List, [], ◌∷◌, ◌++◌, map, reverse, Option, Some, None}
use Rattle.std.proofs.Common.{Box, Global}
use Rattle.asm_syntax.specs.SourceTree as source
use Rattle.asm_syntax.specs.code.Views.{rule_of}
use Rattle.asm_syntax.specs.declared.rule.Rule.{Rule}
use Rattle.asm_check.specs.Names as names
use Rattle.asm_check.specs.Names.{Text, is_among}
use Rattle.asm_check.specs.code.uses.UseViews.{use_of}
use Rattle.asm_check.specs.declared.uses.collector.Collector.{Collector}

abbrev pub binders_of : Collector → List Text
binders_of c = map (λ b. b.now) c.binders.items

abbrev pub parameters_of : Collector → List Text
parameters_of c = map (λ p. p.now) c.parameters.keys

abbrev pub bound_of : Collector → List Text
bound_of c = reverse (binders_of c) ++ parameters_of c

abbrev pub IsSameScope : List Text → List Text → Type 0
IsSameScope xs ys = (x : Text) → is_among xs x ≡ is_among ys x

pub record AddsUses (c d : Collector) (us : List names.Use) : Type 0 where
  pub found : map use_of d.found.items ≡ map use_of c.found.items ++ us
  pub binders : binders_of d ≡ binders_of c
  pub parameters : parameters_of d ≡ parameters_of c

pub record Binds (c d : Collector) (x : Text) : Type 0 where
  pub found : map use_of d.found.items ≡ map use_of c.found.items
  pub binders : binders_of d ≡ binders_of c ++ x ∷ []
  pub parameters : parameters_of d ≡ parameters_of c

pub record Unbinds (c d : Collector) : Type 0 where
  pub found : map use_of d.found.items ≡ map use_of c.found.items
  pub binders : (xs : List Text) (x : Text) → binders_of c ≡ xs ++ x ∷ [] → binders_of d ≡ xs
  pub parameters : parameters_of d ≡ parameters_of c

abbrev pub branch_view : Option (Box Rule Global) → source.Branch
branch_view None = source.left_out
branch_view (Some P) = source.written (rule_of P.value)
