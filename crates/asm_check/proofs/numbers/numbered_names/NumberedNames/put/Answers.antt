use Rattle.std.proofs.Common.{◌≡◌, ap, sym, ◌∙◌, ◌++◌, ◌∷◌, [], cond, map, true, false, is_some, nat_eq}
use Rattle.std.proofs.lemmas.List.{map-append}
use Rattle.std.specs.Cmp.Lexicographic.{pointwise}
use Rattle.std.specs.Map.{lookup}
use Rattle.indexmap.proofs.CallerLemmas.{insert_entry-new}
use Rattle.asm_check.proofs.NameLemmas.Lookups.{none_of}
use Rattle.asm_check.proofs.NameLemmas.NamedTexts.{lookup_texts, with_text}
use Rattle.asm_check.proofs.numbers.numbered_names.NumberedNames.put.Goals as goal

pub returns-then-is_some : goal.returns-then-is_some
returns-then-is_some c =
    let entries = c.args.self.now in
    let name = c.args.name.now in
    let there : is_some (lookup (pointwise nat_eq name) entries) ≡ true =
    ap (λ es. is_some (lookup (pointwise nat_eq name) es)) (sym c.self.view_is)
    ∙ (ap is_some (lookup_texts (λ k. k.items) (pointwise nat_eq name) c.self.inside.table.entries)
    ∙ (sym c.get_index_of.ensures.found ∙ (sym c.is_some.ensures ∙ c.if-is_some.true))) in
    sym (ap (λ b. cond b entries (entries ++ (name, c.args.number) ∷ [])) there)

pub returns : goal.returns
returns c =
    let entries = c.args.self.now in
    let name = c.args.name.now in
    let inside = c.self.inside.table in
    let key = c.in_ok-to_vec.field-0 in
    let spelled = c.in_ok-to_vec.ensures.items_if_clones_equal (λ x y same. same) in
    let absent = sym c.get_index_of.ensures.found ∙ (sym c.is_some.ensures ∙ c.if-is_some.false) in
    let missing : is_some (lookup (pointwise nat_eq name) entries) ≡ false =
    ap (λ es. is_some (lookup (pointwise nat_eq name) es)) (sym c.self.view_is)
    ∙ (ap is_some (lookup_texts (λ k. k.items) (pointwise nat_eq name) inside.entries) ∙ absent) in
    let none = none_of _ (ap (λ x. is_some (lookup (λ k. pointwise nat_eq x k.items) inside.entries)) spelled ∙ absent) in
    ap (map (with_text (λ k. k.items))) (c.in_ok-insert.ensures.entries ∙ insert_entry-new _ inside key c.args.number none)
    ∙ (map-append (with_text (λ k. k.items)) inside.entries ((key, c.args.number) ∷ [])
    ∙ (ap (λ es. es ++ (key.items, c.args.number) ∷ []) c.self.view_is
    ∙ (ap (λ x. entries ++ (x, c.args.number) ∷ []) spelled
    ∙ sym (ap (λ b. cond b entries (entries ++ (name, c.args.number) ∷ [])) missing))))
