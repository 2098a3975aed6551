use Rattle.std.proofs.Common.{◌≡◌, ◌++◌, map, sym, subst}
use Rattle.std.proofs.lemmas.Result.{on_ok_weaker}
use Rattle.asm_syntax.specs.code.Views.{item_of, name_of}
use Rattle.asm_explore_hints.specs.code.DeclaredNames.{seen_in, seen_of}
use Rattle.asm_explore_hints.specs.declared.declarations.Meaning.TheVariants.{Element}
use Rattle.asm_explore_hints.proofs.DeclaredSteps.{with_elements}
use Rattle.asm_explore_hints.proofs.declarations.push_item.Goals as goal

pub returns-in_ok-push_plain-in-Enum : goal.returns-in_ok-push_plain-in-Enum
returns-in_ok-push_plain-in-Enum c =
    on_ok_weaker c.push_elements.result (λ more.
    subst (λ item. map seen_of c.push_elements.new.all.items ≡ map seen_of c.args.all.now.items ++ seen_in (item_of item)) (sym c.in-Enum.is)
    (with_elements c.args.all.now.items c.push_plain.new.all.items c.push_elements.new.all.items c.in-Enum.name c.in-Enum.elements.items c.in_ok-push_plain-in-Enum.ensures
    (subst (λ xs. map seen_of c.push_elements.new.all.items ≡ map seen_of c.push_plain.new.all.items ++ map (λ y. (name_of y, Element)) xs) c.as_slice.ensures.value more)))
    c.push_elements.ensures
