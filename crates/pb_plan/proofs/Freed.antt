-- What hosts have from groups in none of which `hostvars` stands.
use Rattle.std.proofs.Common.{◌≡◌, ℕ, Bool, true, false, ◌||◌, List, [], ◌∷◌, ◌++◌, Option, Some, length, slice_get, codes, Ordering, Less, Equal, Greater, nat_cmp, refl, sym, ap, subst, ◌∙◌, true≢false, arith}
use Rattle.std.specs.List.{All}
use Rattle.std.specs.Ordering.{match_ordering}
use Rattle.std.specs.Cmp.Lexicographic.{slice_cmp}
use Rattle.std.proofs.lemmas.List.Elements.{All-head, All-tail}
use Rattle.pb_ids.specs.declared.numbers.GroupNo.{GroupNo}
use Rattle.pb_value.specs.Datum.{Datum, members_of, put}
use Rattle.pb_inventory.specs.InventoryOf.{InventoryOf}
use Rattle.pb_inventory.specs.Vars.{vars_from_groups, vars_of_group, put_vars, put_groups, groups_of_host}
use Rattle.pb_inventory.specs.declared.vars.Variable.{Variable}
use Rattle.pb_layers.specs.Scope.{Map}
use Rattle.pb_mentions.specs.Mentions.{mentions, members_mention}
use Rattle.pb_plan.specs.Hostvars.{IsFree, IsFreeGroup, AreFreeGroups, AreMarked}

abbrev word : List ℕ
word = codes "hostvars"

neither : (a b : Bool) → (a || b) ≡ false → (a ≡ false) × (b ≡ false)
neither false false e = (refl, refl)
neither false true e = (refl, e)
neither true b e = absurd (true≢false e)

joined : (a b : Bool) → a ≡ false → b ≡ false → (a || b) ≡ false
joined false b e f = f
joined true b e f = absurd (true≢false e)

-- one variable more
put_at : (name : List ℕ) (v : Datum) (m : List ℕ × Datum) (ms : Map) (o : Ordering) → mentions word v ≡ false → IsFree (m ∷ ms) → IsFree (put name v ms) → IsFree (match_ordering o ((name, v) ∷ m ∷ ms) ((m.0, v) ∷ ms) (m ∷ put name v ms))
put_at name v m ms Less free known rest = joined (mentions word v) (members_mention word (members_of (m ∷ ms))) free known
put_at name v m ms Equal free known rest = let both = neither (mentions word m.1) (members_mention word (members_of ms)) known in joined (mentions word v) (members_mention word (members_of ms)) free both.1
put_at name v m ms Greater free known rest = let both = neither (mentions word m.1) (members_mention word (members_of ms)) known in joined (mentions word m.1) (members_mention word (members_of (put name v ms))) both.0 rest

put_free : (name : List ℕ) (v : Datum) (known : Map) → mentions word v ≡ false → IsFree known → IsFree (put name v known)
put_free name v [] free known = joined (mentions word v) false free refl
put_free name v (m ∷ ms) free known =
    let both = neither (mentions word m.1) (members_mention word (members_of ms)) known in
    put_at name v m ms (slice_cmp nat_cmp name m.0) free known (put_free name v ms free both.1)

-- those of a group, and of one group after another
vars_free : (vars : List Variable) (known : Map) → IsFreeGroup vars → IsFree known → IsFree (put_vars vars known)
vars_free [] known free is = is
vars_free (v ∷ vs) known free is =
    let silent : Variable → Type 0 = λ (one : Variable). mentions word one.value ≡ false in
    vars_free vs (put v.name v.value known) (All-tail silent v vs free) (put_free v.name v.value known (All-head silent v vs free) is)

groups_free : (inventory : InventoryOf) (marked : List Bool) → AreFreeGroups inventory marked → (groups : List GroupNo) (known : Map) → AreMarked marked groups → IsFree known → IsFree (put_groups inventory groups known)
groups_free inventory marked free [] known are is = is
groups_free inventory marked free (g ∷ gs) known are is =
    let is_marked : GroupNo → Type 0 = λ (one : GroupNo). slice_get marked one.0 ≡ Some true in
    groups_free inventory marked free gs (put_vars (vars_of_group inventory g.0) known) (All-tail is_marked g gs are) (vars_free (vars_of_group inventory g.0) known (free g.0 (All-head is_marked g gs are)) is)

pub free_from_groups : (inventory : InventoryOf) (marked : List Bool) (host : ℕ) (groups : List GroupNo) → groups ≡ groups_of_host inventory host → AreFreeGroups inventory marked → AreMarked marked groups → IsFree (vars_from_groups inventory host)
free_from_groups inventory marked host groups e free are = groups_free inventory marked free (groups_of_host inventory host) [] (subst (AreMarked marked) e are) refl
