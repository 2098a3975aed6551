-- Free. The uses of all items, as they are collected, and those of one of them.
use Rattle.std.proofs.Common.{◌≡◌, ℕ, ◌+◌, ◌<◌, List, [], ◌∷◌, ◌++◌, length, map, take, get_or, Option, Some, sym, ap, subst, ◌∙◌, Vec, Global}
use Rattle.std.specs.Prelude.{option_map, slice_get}
use Rattle.std.proofs.lemmas.List.{map-append, length-map, take_more}
use Rattle.std.proofs.lemmas.Option.{slice_get-map, slice_get-get_or}
use Rattle.asm_syntax.specs.code.Views.{item_of}
use Rattle.asm_syntax.specs.declared.spec.Item.{Item}
use Rattle.asm_check.specs.Names.{uses_of}
use Rattle.asm_check.specs.declared.uses.declaration_uses.Use.{Use}
use Rattle.asm_check.specs.code.uses.UseViews.{uses_in, AreUsesOf}

pub one_more : (items : List Item) (lists : List (Vec Use Global)) (i : ℕ) (x : Item) (v : Vec Use Global) → i < length items → x ≡ get_or items i x
    → AreUsesOf (map item_of (take i items)) lists → uses_in v ≡ uses_of (item_of x) → AreUsesOf (map item_of (take (i + 1) items)) (lists ++ v ∷ [])
one_more items lists i x v below is so_far same =
    let y = get_or items i x in
    map-append uses_in lists (v ∷ [])
    ∙ ap (λ us. us ++ uses_in v ∷ []) so_far
    ∙ ap (λ u. map uses_of (map item_of (take i items)) ++ u ∷ []) (same ∙ ap (λ z. uses_of (item_of z)) is)
    ∙ sym (map-append uses_of (map item_of (take i items)) (item_of y ∷ []))
    ∙ ap (map uses_of) (sym (map-append item_of (take i items) (y ∷ [])))
    ∙ ap (λ ys. map uses_of (map item_of ys)) (sym (take_more items i x below))

module _ (items : List Item) (lists : List (Vec Use Global)) (are : AreUsesOf (map item_of items) lists) where
  pub as_many : length lists ≡ length items
  as_many = sym (length-map lists uses_in) ∙ ap length are ∙ length-map (map item_of items) uses_of ∙ length-map items item_of

  pub collected_at : (k : ℕ) (x : Item) (v : Vec Use Global) → k < length items → x ≡ get_or items k x → v ≡ get_or lists k v → uses_in v ≡ uses_of (item_of x)
  collected_at k x v below is at =
      let here : slice_get lists k ≡ Some v = slice_get-get_or lists k v (subst (λ n. k < n) (sym as_many) below) ∙ ap Some (sym at) in
      let there : slice_get items k ≡ Some x = slice_get-get_or items k x below ∙ ap Some (sym is) in
      let both : Some (uses_in v) ≡ Some (uses_of (item_of x)) =
      ap (option_map uses_in) (sym here)
      ∙ sym (slice_get-map uses_in lists k)
      ∙ ap (λ us. slice_get us k) are
      ∙ slice_get-map uses_of (map item_of items) k
      ∙ ap (option_map uses_of) (slice_get-map item_of items k ∙ ap (option_map item_of) there) in
      cc
