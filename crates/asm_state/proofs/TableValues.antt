-- Free. The values of a table for all argument lists of a domain, written entry after entry from
-- the last one on.
use Rattle.std.proofs.Common.{◌≡◌, ◌≢◌, ℕ, suc, ◌<◌, ◌≤◌, true, false, cond, nat_eq, nat_lt, ◌+◌, ◌-◌, drop, List, [], ◌∷◌, map, length, get_or, set, refl, sym, ap, subst, ◌∙◌, arith, All, Some, unwrap_or}
use Rattle.std.specs.Cmp.{tied_itself}
use Rattle.std.specs.Cmp.Lexicographic.{slice_cmp, lists_total}
use Rattle.std.specs.declared.cmp.Ordering.TheVariants.{Less, Equal}
use Rattle.std.proofs.lemmas.Bool.{false≢true, false_from_ne_true}
use Rattle.std.proofs.lemmas.Bool.Decides.{nat_tests}
use Rattle.std.proofs.Math.Seq.{drop-cons, drop-length}
use Rattle.std.proofs.lemmas.List.{get_or_default, ext_get_or, get_or-map, length-map, length-set, get_or-set_same, get_or-set_other}
use Rattle.asm_state.specs.declared.value.Value.{Value}
use Rattle.asm_state.specs.declared.value.Value.TheVariants.{Undef}
use Rattle.asm_state.specs.Tables.{Domain, argument_lists, is_in, is_list, entry_of}
use Rattle.asm_state.specs.Universe.{IsUniverse}
use Rattle.asm_state.specs.Value.{value_cmp, value_cmp-total}
use Rattle.asm_state.proofs.ArgumentLists.{lists_apart}
use Rattle.asm_state.proofs.ListsInDomain.{in_contains}
use Rattle.asm_state.proofs.ValueLaws.{value_laws}

module _ {X Y : Type 0} where
  -- a list of images under f, with one of them changed, is that under g, if these differ nowhere
  -- else
  pub set_map : (f g : X → Y) (xs : List X) (k : ℕ) (v : Y) (d : X) → k < length xs → g (get_or xs k d) ≡ v
      → ((j : ℕ) → j < length xs → j ≢ k → f (get_or xs j d) ≡ g (get_or xs j d)) → set (map f xs) k v ≡ map g xs
  set_map f g xs k v d inside at others =
      ext_get_or (f d) (set (map f xs) k v) (map g xs) (length-set (map f xs) k v ∙ length-map xs f ∙ sym (length-map xs g)) each
    where
      each : (i : ℕ) → i < length (set (map f xs) k v) → get_or (set (map f xs) k v) i (f d) ≡ get_or (map g xs) i (f d)
      each i h =
          let below : i < length xs = subst (λ n. i < n) (length-set (map f xs) k v ∙ length-map xs f) h in
          let room : k < length (map f xs) = subst (λ n. k < n) (sym (length-map xs f)) inside in
          elim (nat_eq i k) as (λ b. nat_eq i k ≡ b → get_or (set (map f xs) k v) i (f d) ≡ get_or (map g xs) i (f d)) [
            | true ↦ λ e.
                let same : i ≡ k = grind (arith, nat_tests) in
                ap (λ i. get_or (set (map f xs) k v) i (f d)) same ∙ get_or-set_same (map f xs) k v (f d) room
                ∙ sym at ∙ sym (get_or-map g xs k d (f d) inside) ∙ ap (λ i. get_or (map g xs) i (f d)) (sym same)
            | false ↦ λ e.
                let apart : i ≢ k = grind (arith, nat_tests) in
                get_or-set_other (map f xs) k i v (f d) apart ∙ get_or-map f xs i d (f d) below ∙ others i below apart ∙ sym (get_or-map g xs i d (f d) below)
          ] refl

  pub map_alike : (f g : X → Y) (xs : List X) (d : X) → ((j : ℕ) → j < length xs → f (get_or xs j d) ≡ g (get_or xs j d)) → map f xs ≡ map g xs
  map_alike f g [] d h = refl
  map_alike f g (x ∷ xs) d h = λ i. h 0 (omega arith) i ∷ map_alike f g xs d (λ j k. h (suc j) (omega (arith, k))) i

-- the test of argument lists tells them apart
pub other_list : (us vs : List Value) → us ≢ vs → is_list us vs ≡ false
other_list us vs apart = false_from_ne_true (is_list us vs) (λ e. apart ((value_laws.same_list us vs).0 e))

-- one before another isn't that one
less_differs : (us vs : List Value) → slice_cmp value_cmp us vs ≡ Less → us ≢ vs
less_differs us vs less same =
    let tied : slice_cmp value_cmp us us ≡ Less = subst (λ vs. slice_cmp value_cmp us vs ≡ Less) (sym same) less in
    absurd (apart (sym (tied_itself (lists_total value_cmp-total) us) ∙ tied))
  where
    apart : Equal ≡ Less → ⊥
    apart e = cc

-- no argument list is at two positions
pub stands_once : (domain : Domain) → All IsUniverse domain → (i j : ℕ) → i < length (argument_lists domain) → j < length (argument_lists domain) → j ≢ i
    → get_or (argument_lists domain) i [] ≢ get_or (argument_lists domain) j []
stands_once domain sound i j h g apart same =
    elim (nat_lt i j) as (λ b. nat_lt i j ≡ b → ⊥) [
      | true ↦ λ e. let less : i < j = grind (arith, nat_tests) in less_differs (get_or (argument_lists domain) i []) (get_or (argument_lists domain) j []) (lists_apart domain sound i j [] less g) same
      | false ↦ λ e. let less : j < i = grind (arith, nat_tests) in less_differs (get_or (argument_lists domain) j []) (get_or (argument_lists domain) i []) (lists_apart domain sound j i [] less h) (sym same)
    ] refl

-- the values by the entries from one on
abbrev pub values_by : Domain → List (List Value × Value) → List Value
values_by domain entries = map (λ vs. unwrap_or (entry_of entries vs) Undef) (argument_lists domain)

pub one_more : (domain : Domain) (us : List Value) (v : Value) (more : List (List Value × Value)) (k : ℕ) → All IsUniverse domain
    → k < length (argument_lists domain) → get_or (argument_lists domain) k [] ≡ us → set (values_by domain more) k v ≡ values_by domain ((us, v) ∷ more)
one_more domain us v more k sound inside is =
    set_map (λ vs. unwrap_or (entry_of more vs) Undef) (λ vs. unwrap_or (entry_of ((us, v) ∷ more) vs) Undef) (argument_lists domain) k v [] inside
    (ap (λ b. unwrap_or (cond b (Some v) (entry_of more (get_or (argument_lists domain) k []))) Undef) ((value_laws.same_list us (get_or (argument_lists domain) k [])).1 (sym is)))
    (λ j below apart. ap (λ b. unwrap_or (cond b (Some v) (entry_of more (get_or (argument_lists domain) j []))) Undef)
    (sym (other_list us (get_or (argument_lists domain) j []) (λ same. stands_once domain sound k j inside below apart (is ∙ same)))))

-- an entry outside the domain gives no argument list a value
pub one_outside : (domain : Domain) (us : List Value) (v : Value) (more : List (List Value × Value)) → is_in domain us ≡ false → values_by domain more ≡ values_by domain ((us, v) ∷ more)
one_outside domain us v more out =
    map_alike (λ vs. unwrap_or (entry_of more vs) Undef) (λ vs. unwrap_or (entry_of ((us, v) ∷ more) vs) Undef) (argument_lists domain) []
    (λ j below. ap (λ b. unwrap_or (cond b (Some v) (entry_of more (get_or (argument_lists domain) j []))) Undef)
    (sym (other_list us (get_or (argument_lists domain) j []) (λ same. false≢true (sym out ∙ in_contains domain us (j, below, get_or_default (argument_lists domain) j us [] below ∙ sym same))))))

-- the entries from one on are that one and those after it
next_entry : (entries : List (List Value × Value)) (i : ℕ) (entry : List Value × Value) → i < length entries → entry ≡ get_or entries (length entries - 1 - i) entry
    → drop (length entries - (i + 1)) entries ≡ entry ∷ drop (length entries - i) entries
next_entry entries i entry h is =
    let at : length entries - (i + 1) ≡ length entries - 1 - i = omega arith in
    let after : suc (length entries - 1 - i) ≡ length entries - i = omega (arith, h) in
    ap (λ n. drop n entries) at
    ∙ drop-cons entries (length entries - 1 - i) entry (omega (arith, h))
    ∙ (λ j. sym is j ∷ drop (after j) entries)

pub written : (domain : Domain) (entries : List (List Value × Value)) (i k : ℕ) (entry : List Value × Value) (values : List Value) → All IsUniverse domain
    → i < length entries → entry ≡ get_or entries (length entries - 1 - i) entry → values ≡ values_by domain (drop (length entries - i) entries)
    → k < length (argument_lists domain) → get_or (argument_lists domain) k [] ≡ entry.0 → set values k entry.1 ≡ values_by domain (drop (length entries - (i + 1)) entries)
written domain entries i k entry values sound h is so_far inside at =
    ap (λ vs. set vs k entry.1) so_far
    ∙ one_more domain entry.0 entry.1 (drop (length entries - i) entries) k sound inside at
    ∙ ap (values_by domain) (sym (next_entry entries i entry h is))

pub passed_over : (domain : Domain) (entries : List (List Value × Value)) (i : ℕ) (entry : List Value × Value) (values : List Value)
    → i < length entries → entry ≡ get_or entries (length entries - 1 - i) entry → values ≡ values_by domain (drop (length entries - i) entries)
    → is_in domain entry.0 ≡ false → values ≡ values_by domain (drop (length entries - (i + 1)) entries)
passed_over domain entries i entry values h is so_far out =
    so_far ∙ one_outside domain entry.0 entry.1 (drop (length entries - i) entries) out ∙ ap (values_by domain) (sym (next_entry entries i entry h is))

pub none_yet : (domain : Domain) (entries : List (List Value × Value)) → values_by domain [] ≡ values_by domain (drop (length entries - 0) entries)
none_yet domain entries =
    let all : length entries - 0 ≡ length entries = omega arith in
    ap (values_by domain) (sym (ap (λ n. drop n entries) all ∙ drop-length entries))

pub all_done : (domain : Domain) (entries : List (List Value × Value)) (i : ℕ) → length entries ≤ i → values_by domain (drop (length entries - i) entries) ≡ values_by domain entries
all_done domain entries i h =
    let none_left : length entries - i ≡ 0 = omega (arith, h) in
    ap (λ n. values_by domain (drop n entries)) none_left
