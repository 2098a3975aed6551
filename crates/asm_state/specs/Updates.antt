-- Definition. Update sets, as finite sets of pairs of a location and a value.
--     UpdateSet              a finite set of updates
--     Has U l v              the update of l with v is in U
--     Names U l              some update of l is
--     IsConsistent U         no location has two values in U, and no stray location has any
--     is_consistent          the test of it
--     none, one, together    no update, one update, the union
--     merge U V              the turbo merge: V, with those updates of U whose location V doesn't
--                            name
--     range_at U l           the least and the greatest value of l in U
--     fire A U               the state A with the values of U
use Rattle.std.specs.Prelude.{◌≡◌, ◌≢◌, ℕ, Bool, true, false, cond, not, ◌&&◌, ◌||◌, List, [], ◌∷◌, map, nat_eq, Option, Some, None}
use Rattle.std.specs.List.{filter, list_all, list_any}
use Rattle.std.specs.FinSet as set
use Rattle.std.specs.Ordering.{on, then_cmp, eq_by_cmp, is_lt, is_gt}
use Rattle.std.specs.declared.cmp.Ordering.{Ordering}
use Rattle.asm_state.specs.declared.value.Value.{Value}
use Rattle.asm_state.specs.Value.{value_cmp}
use Rattle.asm_state.specs.Location.{Location, Proper, Stray, location_cmp, State}

pub record Update : Type 0 where
  pub location : Location
  pub value : Value

abbrev pub update : Location → Value → Update
update l v = record { location = l; value = v }

-- updates rise by their location, and at one location by their value
abbrev pub update_cmp : Update → Update → Ordering
update_cmp = then_cmp (on (λ (u : Update). u.location) location_cmp) (on (λ (u : Update). u.value) value_cmp)

abbrev pub UpdateSet : Type 0
UpdateSet = set.FinSet update_cmp

abbrev pub Has : UpdateSet → Location → Value → Type 0
Has U l v = set.contains U (update l v) ≡ true

abbrev pub Names : UpdateSet → Location → Type 0
Names U l = (v : Value) × Has U l v

pub record IsConsistent (U : UpdateSet) : Type 0 where
  pub one_value : (l : Location) (v w : Value) → Has U l v → Has U l w → v ≡ w
  pub no_stray : (f : ℕ) (v : Value) → ¬ (Has U (Stray f) v)

abbrev pub none : UpdateSet
none = set.empty

abbrev pub one : Location → Value → UpdateSet
one l v = set.insert set.empty (update l v)

abbrev pub together : UpdateSet → UpdateSet → UpdateSet
together U V = set.union U V

abbrev pub is_none : UpdateSet → Bool
is_none U = nat_eq (set.len U) 0

-- the update is of this location
abbrev pub is_at : Location → Update → Bool
is_at l u = eq_by_cmp location_cmp l u.location

abbrev pub is_named : UpdateSet → Location → Bool
is_named U l = list_any (is_at l) (set.items U)

unfoldable pub merge : UpdateSet → UpdateSet → UpdateSet
merge U V = set.union (set.retain U (λ u. not (is_named V u.location))) V

abbrev pub is_proper : Location → Bool
is_proper (Proper f arguments) = true
is_proper (Stray f) = false

-- two updates don't clash
abbrev pub are_alike : Update → Update → Bool
are_alike u w = not (is_at u.location w) || eq_by_cmp value_cmp u.value w.value

unfoldable pub is_consistent : UpdateSet → Bool
is_consistent U = list_all (λ u. is_proper u.location && list_all (are_alike u) (set.items U)) (set.items U)

pub record Range : Type 0 where
  pub least : Value
  pub greatest : Value

abbrev pub lesser : Value → Value → Value
lesser v w = cond (is_lt (value_cmp w v)) w v

abbrev pub greater : Value → Value → Value
greater v w = cond (is_lt (value_cmp v w)) w v

-- the range of two ranges together
abbrev pub widen : Option Range → Option Range → Option Range
widen None s = s
widen (Some r) None = Some r
widen (Some r) (Some s) = Some (record { least = lesser r.least s.least; greatest = greater r.greatest s.greatest })

-- the later range, if there is one
abbrev pub later_range : Option Range → Option Range → Option Range
later_range r None = r
later_range r (Some s) = Some s

-- the range of a location if this value is the only one there is, at its own location
abbrev pub range_of_one : Location → Value → Location → Option Range
range_of_one l v m = cond (eq_by_cmp location_cmp l m) (Some (record { least = v; greatest = v })) None

-- the least and the greatest of some values
abbrev pub range_of : List Value → Option Range
range_of [] = None
range_of (v ∷ vs) = widen (Some (record { least = v; greatest = v })) (range_of vs)

unfoldable pub range_at : UpdateSet → Location → Option Range
range_at U l = range_of (map (λ (u : Update). u.value) (filter (is_at l) (set.items U)))

-- a content under a range: the least value, which is the only one in a consistent set
abbrev pub overwritten : Option Range → Value → Value
overwritten None v = v
overwritten (Some r) v = r.least

unfoldable pub fire : State → UpdateSet → State
fire A U l = overwritten (range_at U l) (A l)

-- v isn't above w
abbrev pub IsAtMost : Value → Value → Type 0
IsAtMost v w = is_gt (value_cmp v w) ≡ false

pub record IsRange (M : Value → Type 0) (r : Range) : Type 0 where
  pub has_least : M r.least
  pub has_greatest : M r.greatest
  pub between : (v : Value) → M v → IsAtMost r.least v × IsAtMost v r.greatest

-- the least and the greatest of the values in M, if there is any
abbrev pub IsRangeOf : (Value → Type 0) → Option Range → Type 0
IsRangeOf M None = (v : Value) → ¬ (M v)
IsRangeOf M (Some r) = IsRange M r

-- a summary of a set: for each location that the set names, the least and the greatest value there
abbrev pub IsSummary : UpdateSet → (Location → Option Range) → Type 0
IsSummary U summary = (l : Location) → IsRangeOf (Has U l) (summary l)

-- a location is faulty if it has two different values, or is stray and has any
abbrev pub IsFaulty : UpdateSet → Location → Type 0
IsFaulty U (Proper f vs) = (v w : Value) × Has U (Proper f vs) v × Has U (Proper f vs) w × (v ≢ w)
IsFaulty U (Stray f) = Names U (Stray f)

pub data Fault : Type 0 where
  Clash : Location → Range → Fault
  Outside : (function : ℕ) → Fault

-- the first fault of an inconsistent set: its least faulty location, with the least and the
-- greatest value there if it is proper
pub record IsFirstFaulty (U : UpdateSet) (l : Location) : Type 0 where
  pub is_faulty : IsFaulty U l
  pub is_first : (m : Location) → IsFaulty U m → is_gt (location_cmp l m) ≡ false

abbrev pub IsFirstFault : UpdateSet → Fault → Type 0
IsFirstFault U (Clash (Proper f vs) r) = IsFirstFaulty U (Proper f vs) × IsRange (Has U (Proper f vs)) r
IsFirstFault U (Clash (Stray f) r) = ⊥
IsFirstFault U (Outside f) = IsFirstFaulty U (Stray f)
