-- Places and hosts in whose variables `hostvars` doesn't stand, one after another.
use Rattle.std.proofs.Common.{◌≡◌, ◌⊎◌, inl, inr, ℕ, zero, suc, Bool, true, List, [], ◌∷◌, ◌++◌, length, refl, sym, ap, subst, ◌∙◌, arith}
use Rattle.std.specs.Prelude.{Option, Some, None, IfSome, slice_get, unwrap_or}
use Rattle.pb_inventory.specs.InventoryOf.{InventoryOf}
use Rattle.pb_inventory.specs.Vars.{vars_from_groups, vars_of_group}
use Rattle.pb_layers.specs.Scope.{Map}
use Rattle.pb_places.specs.Place.{PlaceOf}
use Rattle.pb_variables.specs.declared.shared.OfGroups.{OfGroups}
use Rattle.pb_variables.specs.Shared.{AreKept}
use Rattle.pb_plan.specs.Hostvars.{IsFree, IsFreePlace, IsFreeAt, AreFreePlaces, IsFreeGroup, AreFreeGroups, IsFreeHost, AreFreeHosts}

-- what a host has from its groups
pub free_merged : (inventory : InventoryOf) (host : ℕ) (all : List (Option OfGroups)) (shared : OfGroups) → AreKept inventory all → slice_get all host ≡ Some (Some shared) →
    IsFree shared.variables → IsFree (vars_from_groups inventory host)
free_merged inventory host all shared kept at free = subst IsFree (ap (λ (of : OfGroups). of.variables) (kept host (Some shared) at shared refl)) free

some_is : {X : Type 0} (x y : X) → Some x ≡ Some y → y ≡ x
some_is {X} x y e = sym (ap (λ (o : Option X). unwrap_or o x) e)

never_some : {X Y : Type 0} (x : X) → None ≡ Some x → Y
never_some x e = absurd (let never : ⊥ = cc in never)

-- one mark more
further : (m : Bool) (ms : List Bool) (b y : Bool) (i : ℕ) → (slice_get ms i ≡ Some y) ⊎ ((i ≡ length ms) × (y ≡ b)) → (slice_get (m ∷ ms) (suc i) ≡ Some y) ⊎ ((suc i ≡ length (m ∷ ms)) × (y ≡ b))
further m ms b y i (inl was) = inl was
further m ms b y i (inr (is, put)) = inr (omega (arith, is), put)

at_more : (marked : List Bool) (b y : Bool) (i : ℕ) → slice_get (marked ++ b ∷ []) i ≡ Some y → (slice_get marked i ≡ Some y) ⊎ ((i ≡ length marked) × (y ≡ b))
at_more [] b y zero at = inr (refl, some_is b y at)
at_more [] b y (suc i) at = inl at
at_more (m ∷ ms) b y zero at = inl at
at_more (m ∷ ms) b y (suc i) at = further m ms b y i (at_more ms b y i at)

of_either : (Q : ℕ → Type 0) (marked : List Bool) (b : Bool) (i : ℕ) → ((p : ℕ) → slice_get marked p ≡ Some true → Q p) → (b ≡ true → Q (length marked)) →
    (slice_get marked i ≡ Some true) ⊎ ((i ≡ length marked) × (true ≡ b)) → Q i
of_either Q marked b i old new (inl was) = old i was
of_either Q marked b i old new (inr (is, put)) = subst Q (sym is) (new (sym put))

one_mark : (Q : ℕ → Type 0) (marked : List Bool) (b : Bool) → ((p : ℕ) → slice_get marked p ≡ Some true → Q p) → (b ≡ true → Q (length marked)) → (p : ℕ) → slice_get (marked ++ b ∷ []) p ≡ Some true → Q p
one_mark Q marked b old new p at = of_either Q marked b p old new (at_more marked b true p at)

none_marked : (Q : ℕ → Type 0) (marked : List Bool) → marked ≡ [] → (p : ℕ) → slice_get marked p ≡ Some true → Q p
none_marked Q marked none p at = never_some true (sym (ap (λ (ms : List Bool). slice_get ms p) none) ∙ at)

-- of places
pub none_placed : (vars : Map) (places : List PlaceOf) (marked : List Bool) → marked ≡ [] → AreFreePlaces vars places marked
none_placed vars places marked none = none_marked (IsFreeAt vars places) marked none

free_at : (vars : Map) (places : List PlaceOf) (place : PlaceOf) (n k : ℕ) → k ≡ n → IsFree vars → slice_get places n ≡ Some place → IsFreePlace place → IsFreeAt vars places k
free_at vars places place n k is free at held = rw is (free, subst (λ (o : Option PlaceOf). IfSome o IsFreePlace) (sym at) held)

pub placed_more : (vars : Map) (places : List PlaceOf) (place : PlaceOf) (marked after : List Bool) (b : Bool) (n : ℕ) → length marked ≡ n → IsFree vars → slice_get places n ≡ Some place
    → AreFreePlaces vars places marked → (b ≡ true → IsFreePlace place) → after ≡ marked ++ b ∷ [] → AreFreePlaces vars places after
placed_more vars places place marked after b n count free at before is pushed =
    rw pushed (one_mark (IsFreeAt vars places) marked b before (λ t. free_at vars places place n (length marked) count free at (is t)))

-- of groups
pub none_grouped : (inventory : InventoryOf) (marked : List Bool) → marked ≡ [] → AreFreeGroups inventory marked
none_grouped inventory marked none = none_marked (λ (group : ℕ). IsFreeGroup (vars_of_group inventory group)) marked none

pub grouped_more : (inventory : InventoryOf) (marked after : List Bool) (b : Bool) (n : ℕ) → length marked ≡ n → AreFreeGroups inventory marked → (b ≡ true → IsFreeGroup (vars_of_group inventory n))
    → after ≡ marked ++ b ∷ [] → AreFreeGroups inventory after
grouped_more inventory marked after b n count before is pushed =
    let free : ℕ → Type 0 = λ (group : ℕ). IsFreeGroup (vars_of_group inventory group) in
    rw pushed (one_mark free marked b before (λ t. subst free (sym count) (is t)))

-- and of hosts
pub none_hosted : (inventory : InventoryOf) (extra : Map) (marked : List Bool) → marked ≡ [] → AreFreeHosts inventory extra marked
none_hosted inventory extra marked none = none_marked (IsFreeHost inventory extra) marked none

pub hosted_more : (inventory : InventoryOf) (extra : Map) (marked after : List Bool) (b : Bool) (n : ℕ) → length marked ≡ n → AreFreeHosts inventory extra marked → (b ≡ true → IsFreeHost inventory extra n)
    → after ≡ marked ++ b ∷ [] → AreFreeHosts inventory extra after
hosted_more inventory extra marked after b n count before is pushed =
    rw pushed (one_mark (IsFreeHost inventory extra) marked b before (λ t. subst (IsFreeHost inventory extra) (sym count) (is t)))
