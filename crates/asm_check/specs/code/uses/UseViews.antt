-- Bridge to the code. Uses of names, as the code keeps them.
--     AreUsesOf items lists    the lists are the uses of these items, each collected once
use Rattle.std.specs.Prelude.{◌≡◌, List, map}
use Rattle.std.proofs.Common.{Vec, Global}
use Rattle.asm_syntax.specs.SourceTree.{Item}
use Rattle.asm_syntax.specs.code.Views.{name_of}
use Rattle.asm_check.specs.Names as names
use Rattle.asm_check.specs.declared.uses.declaration_uses.Role.{Role}
use Rattle.asm_check.specs.declared.uses.declaration_uses.Role.TheVariants as code
use Rattle.asm_check.specs.declared.uses.declaration_uses.Use.{Use}

abbrev pub role_of : Role → names.Role
role_of code.InTerm = names.InTerm
role_of code.AsTarget = names.AsTarget
role_of code.AsRule = names.AsRule
role_of code.AsResultCall = names.AsAnswering
role_of code.AsUniverse = names.AsUniverse
role_of code.AsCodomain = names.AsCodomain
role_of code.AsElement = names.AsElement
role_of code.AsResult = names.AsResult

abbrev pub use_of : Use → names.Use
use_of u = record { role = role_of u.role; name = name_of u.name.now; count = u.count; is_bound = u.is_bound }

abbrev pub uses_in : Vec Use Global → List names.Use
uses_in v = map use_of v.items

abbrev pub AreUsesOf : List Item → List (Vec Use Global) → Type 0
AreUsesOf items lists = map uses_in lists ≡ map names.uses_of items
