-- In an independent plan no task sees what another host has learnt, and none gives anything to another host.
use Rattle.std.proofs.Common.{◌≡◌, ◌∙◌, ℕ, zero, suc, Bool, true, false, ◌&&◌, ◌||◌, not, cond, List, [], ◌∷◌, ◌++◌, length, Option, Some, None, codes, Ordering, Less, Equal, Greater, nat_cmp, refl, sym, ap}
use Rattle.std.specs.Prelude.{nat_lt, slice_get, unwrap_or, if◌then◌else◌}
use Rattle.std.specs.BTreeMap.{is_at}
use Rattle.std.specs.Cmp.Lexicographic.{slice_cmp}
use Rattle.std.specs.List.{list_any}
use Rattle.std.specs.Map.{lookup}
use Rattle.std.specs.Option.{option_map_or}
use Rattle.std.specs.Ordering.{match_ordering}
use Rattle.std.specs.Str.{bytes_eq}
use Rattle.std.proofs.lemmas.Map.Text.{is_eq-slice_cmp}
use Rattle.pb_value.specs.Datum.{Datum, members_of, put}
use Rattle.pb_ids.specs.declared.numbers.GroupNo.{GroupNo}
use Rattle.pb_inventory.specs.InventoryOf.{InventoryOf}
use Rattle.pb_inventory.specs.Named.{under}
use Rattle.pb_inventory.specs.Vars.{no_vars, vars_under, host_name, group_name, groups_of_host, put_vars, put_groups, vars_from_groups, vars_of_host}
use Rattle.pb_inventory.specs.declared.vars.GroupVars.{GroupVars}
use Rattle.pb_inventory.specs.declared.vars.Variable.{Variable}
use Rattle.pb_facts.specs.Facts.{FactsOf}
use Rattle.pb_layers.specs.Scope.{Map}
use Rattle.pb_expr_syntax.specs.Tree.{trees_of}
use Rattle.pb_reach.specs.FromItems.{loop_variable}
use Rattle.pb_conditions.specs.declared.attempt.Back.TheVariants.{Ends}
use Rattle.pb_outcome.specs.declared.gather.ItemResult.{ItemResult}
use Rattle.pb_outcome.specs.declared.gather.TaskResult.{TaskResult}
use Rattle.pb_outcome.specs.declared.item.Item.{Item}
use Rattle.pb_outcome.specs.declared.item.Planned.TheVariants.{Decided as DecidedItem}
use Rattle.pb_outcome.specs.Items.{is_over}
use Rattle.pb_places.specs.Place.{PlaceOf}
use Rattle.pb_hosts.specs.FromPlan.{PlayOf, PlanOf}
use Rattle.pb_reach.specs.Apart.{SameBut}
use Rattle.pb_reach.specs.Named.{in_trees, in_value, in_members}
use Rattle.pb_reach.specs.Reach.{conditions_name, result_names, start_from}
use Rattle.pb_reach.specs.ResultConditions.{until_of}
use Rattle.pb_reach.proofs.Tests.{none_of}
use Rattle.pb_hosts.specs.FromVariables.{host_magic, hostvars, hosts_magic}
use Rattle.pb_hosts.specs.FromTaskVars.{has_run, gifts_from, given_by, gifts_of, gives_of, layers_within, magic_of, nothing, place_for, items_for, items_at, came_for, came_at, with_hosts}
use Rattle.pb_hosts.proofs.FromTaskVars.{items_of_place, attempts_of_place}
use Rattle.pb_hosts.specs.FromHost.{task_at}
use Rattle.pb_hosts.specs.Giving.{gifts_at}
use Rattle.pb_independence.specs.Independent.{module_names, loop_names, map_names, task_names, role_names, delegate_names, place_names, play_names, variable_names, group_names, host_names, inventory_names, plan_names, play_delegates, is_independent}
use Rattle.pb_independence.specs.Apart.{AreApart}
use Rattle.pb_independence.proofs.Tests.{and_left, and_right, or_false, none_false}
use Rattle.pb_independence.proofs.OwnItems.{Unread, items_own, attempts_own}
use Rattle.pb_independence.proofs.Scopes.{layers_name}

not_is : (b : Bool) → not b ≡ true → b ≡ false
not_is true e = cc
not_is false e = refl

-- ---- what no member of a list passes, one of them doesn't pass
module _ {A : Type 0} (test : A → Bool) where
  none_at : (xs : List A) (n : ℕ) (x : A) → list_any test xs ≡ false → slice_get xs n ≡ Some x → test x ≡ false
  none_at [] n x e there = cc
  none_at (first ∷ xs) zero x e there = let same : first ≡ x = cc in ap test (sym same) ∙ (or_false (test first) (list_any test xs) e).0
  none_at (first ∷ xs) (suc n) x e there = none_at xs n x (or_false (test first) (list_any test xs) e).1 there

module _ {X : Type 0} (test : X → Bool) where
  none_under : (is : List ℕ → Bool) (entries : List (List ℕ × X)) (x : X) → list_any (λ (e : List ℕ × X). test e.1) entries ≡ false → lookup is entries ≡ Some x → test x ≡ false
  none_under is [] x e there = cc
  none_under is (entry ∷ entries) x e there =
      let two = or_false (test entry.1) (list_any (λ (f : List ℕ × X). test f.1) entries) e in
      by_name (is entry.0) two.0 (λ p. none_under is entries x two.1 p) there
    where
      by_name : (b : Bool) → test entry.1 ≡ false → (lookup is entries ≡ Some x → test x ≡ false) → cond b (Some entry.1) (lookup is entries) ≡ Some x → test x ≡ false
      by_name true first more p = let same : entry.1 ≡ x = cc in ap test (sym same) ∙ first
      by_name false first more p = more p

-- ---- the variables of groups and hosts
put_ordered : (word k : List ℕ) (v : Datum) (m : List ℕ × Datum) (ms new : Map) (o : Ordering) → in_value word v ≡ false → in_value word m.1 ≡ false → in_members word (members_of ms) ≡ false → in_members word (members_of new) ≡ false
    → in_members word (members_of (match_ordering o ((k, v) ∷ m ∷ ms) ((m.0, v) ∷ ms) (m ∷ new))) ≡ false
put_ordered word k v m ms new Less e first all more = none_false (in_value word v) (in_value word m.1 || in_members word (members_of ms)) e (none_false (in_value word m.1) (in_members word (members_of ms)) first all)
put_ordered word k v m ms new Equal e first all more = none_false (in_value word v) (in_members word (members_of ms)) e all
put_ordered word k v m ms new Greater e first all more = none_false (in_value word m.1) (in_members word (members_of new)) first more

put_names : (word k : List ℕ) (v : Datum) (ms : Map) → in_value word v ≡ false → in_members word (members_of ms) ≡ false → in_members word (members_of (put k v ms)) ≡ false
put_names word k v [] e all = none_false (in_value word v) false e refl
put_names word k v (m ∷ ms) e all =
    let two = or_false (in_value word m.1) (in_members word (members_of ms)) all in
    put_ordered word k v m ms (put k v ms) (slice_cmp nat_cmp k m.0) e two.0 two.1 (put_names word k v ms e two.1)

vars_name : (word : List ℕ) (vs : List Variable) (known : Map) → list_any (variable_names word) vs ≡ false → in_members word (members_of known) ≡ false → in_members word (members_of (put_vars vs known)) ≡ false
vars_name word [] known e all = all
vars_name word (v ∷ vs) known e all =
    let two = or_false (variable_names word v) (list_any (variable_names word) vs) e in vars_name word vs (put v.name v.value known) two.1 (put_names word v.name v.value known two.0 all)

group_under : (word name : List ℕ) (entries : List (List ℕ × GroupVars)) → list_any (group_names word) entries ≡ false → list_any (variable_names word) (vars_under name entries).vars ≡ false
group_under word name entries e = by_found (under name entries) refl
  where
    by_found : (found : Option GroupVars) → under name entries ≡ found → list_any (variable_names word) (unwrap_or found no_vars).vars ≡ false
    by_found None there = refl
    by_found (Some vars) there = none_under (λ (g : GroupVars). list_any (variable_names word) g.vars) (bytes_eq name) entries vars e there

groups_name : (word : List ℕ) (inventory : InventoryOf) (gs : List GroupNo) (known : Map) → list_any (group_names word) inventory.group_vars ≡ false → in_members word (members_of known) ≡ false
    → in_members word (members_of (put_groups inventory gs known)) ≡ false
groups_name word inventory [] known e all = all
groups_name word inventory (g ∷ gs) known e all =
    groups_name word inventory gs (put_vars (vars_under (group_name inventory g.0) inventory.group_vars).vars known) e
    (vars_name word (vars_under (group_name inventory g.0) inventory.group_vars).vars known (group_under word (group_name inventory g.0) inventory.group_vars e) all)

from_groups_name : (word : List ℕ) (inventory : InventoryOf) (h : ℕ) → inventory_names word inventory ≡ false → map_names word (vars_from_groups inventory h) ≡ false
from_groups_name word inventory h e =
    groups_name word inventory (groups_of_host inventory h) [] (or_false (list_any (group_names word) inventory.group_vars) (list_any (host_names word) inventory.host_vars) e).0 refl

of_host_name : (word : List ℕ) (inventory : InventoryOf) (h : ℕ) → inventory_names word inventory ≡ false → map_names word (vars_of_host inventory h) ≡ false
of_host_name word inventory h e = by_found (under (host_name inventory h) inventory.host_vars) refl
  where
    by_found : (found : Option Map) → under (host_name inventory h) inventory.host_vars ≡ found → map_names word (unwrap_or found []) ≡ false
    by_found None there = refl
    by_found (Some vars) there =
        none_under (map_names word) (bytes_eq (host_name inventory h)) inventory.host_vars vars (or_false (list_any (group_names word) inventory.group_vars) (list_any (host_names word) inventory.host_vars) e).1 there

-- ---- a place of the plan
nine : (a b c d e f g h i : Bool) → a ≡ false → b ≡ false → c ≡ false → d ≡ false → e ≡ false → f ≡ false → g ≡ false → h ≡ false → i ≡ false
    → (a || (b || (c || (d || (e || (f || (g || (h || (i || false))))))))) ≡ false
nine a b c d e f g h i A B C D E F G H I = rw (A, B, C, D, E, F, G, H, I) refl

-- what no place names
record NamesNot (word : List ℕ) (plan : PlanOf) (play : PlayOf) (place : PlaceOf) : Type 0 where
  here : place_names word place ≡ false
  plays : map_names word play.vars ≡ false
  inventory : inventory_names word plan.inventory ≡ false
  extra : map_names word plan.extra ≡ false

layers_not : (word : List ℕ) (plan : PlanOf) (play : PlayOf) (place : PlaceOf) (h : ℕ) (facts : FactsOf) → NamesNot word plan play place
    → layers_name word (layers_within plan play h facts place.role place.block_vars place.task.vars) ≡ false
layers_not word plan play place h facts none =
    let five = or_false (task_names word place.task || in_trees word (trees_of place.conditions) || delegate_names word place.delegate_to || map_names word place.block_vars) (role_names word place.role) none.here in
    let four = or_false (task_names word place.task || in_trees word (trees_of place.conditions) || delegate_names word place.delegate_to) (map_names word place.block_vars) five.0 in
    let three = or_false (task_names word place.task || in_trees word (trees_of place.conditions)) (delegate_names word place.delegate_to) four.0 in
    let two = or_false (task_names word place.task) (in_trees word (trees_of place.conditions)) three.0 in
    let task = or_false (module_names word place.task.«module» || loop_names word place.task.looped || result_names word place.task) (map_names word place.task.vars) two.0 in
    let params = or_false (map_names word place.role.defaults || map_names word place.role.vars) (map_names word place.role.params) five.1 in
    let role = or_false (map_names word place.role.defaults) (map_names word place.role.vars) params.0 in
    nine (map_names word plan.extra) (map_names word place.role.params) (map_names word place.task.vars) (map_names word place.block_vars) (map_names word place.role.vars) (map_names word play.vars)
    (map_names word (vars_of_host plan.inventory h)) (map_names word (vars_from_groups plan.inventory h)) (map_names word place.role.defaults)
    none.extra params.1 task.1 four.1 role.1 none.plays (of_host_name word plan.inventory h none.inventory) (from_groups_name word plan.inventory h none.inventory) role.0

unread : (word : List ℕ) (plan : PlanOf) (play : PlayOf) (place : PlaceOf) (h : ℕ) (facts : FactsOf) (magic : Map) → NamesNot word plan play place
    → Unread word (start_from place.task place.conditions place.delegate_to plan.has_facts_program (layers_within plan play h facts place.role place.block_vars place.task.vars) magic)
unread word plan play place h facts magic none =
    let five = or_false (task_names word place.task || in_trees word (trees_of place.conditions) || delegate_names word place.delegate_to || map_names word place.block_vars) (role_names word place.role) none.here in
    let four = or_false (task_names word place.task || in_trees word (trees_of place.conditions) || delegate_names word place.delegate_to) (map_names word place.block_vars) five.0 in
    let three = or_false (task_names word place.task || in_trees word (trees_of place.conditions)) (delegate_names word place.delegate_to) four.0 in
    let two = or_false (task_names word place.task) (in_trees word (trees_of place.conditions)) three.0 in
    let task = or_false (module_names word place.task.«module» || loop_names word place.task.looped || result_names word place.task) (map_names word place.task.vars) two.0 in
    let own = or_false (module_names word place.task.«module» || loop_names word place.task.looped) (result_names word place.task) task.0 in
    let done = or_false (module_names word place.task.«module») (loop_names word place.task.looped) own.0 in
    let nowhere = none_of (conditions_name word place.task.changed_when) (conditions_name word place.task.failed_when) (conditions_name word (until_of place.task.retrying)) own.1 in
    record {
      called = done.0;
      looped = done.1;
      changed = nowhere.0;
      failed = nowhere.1;
      until = nowhere.2;
      conditions = two.1;
      delegate = three.1;
      layers = layers_not word plan play place h facts none;
    }

-- ---- magic variables with `hostvars`, and without
behind : (test : List ℕ → Bool) (front xs ys : Map) → lookup test xs ≡ lookup test ys → lookup test (front ++ xs) ≡ lookup test (front ++ ys)
behind test [] xs ys same = same
behind test (e ∷ front) xs ys same = ap (λ (o : Option Datum). cond (test e.0) (Some e.1) o) (behind test front xs ys same)

one_more : (test : List ℕ → Bool) (xs : Map) (key : List ℕ) (v : Datum) → test key ≡ false → lookup test (xs ++ (key, v) ∷ []) ≡ lookup test xs
one_more test [] key v other = ap (λ (b : Bool). cond b (Some v) None) other
one_more test (e ∷ xs) key v other = ap (λ (o : Option Datum). cond (test e.0) (Some e.1) o) (one_more test xs key v other)

same_without : (front magic : Map) (v : Datum) → SameBut (codes "hostvars") (front ++ (magic ++ hosts_magic v)) (front ++ magic)
same_without front magic v name n =
    behind (is_at (slice_cmp nat_cmp name)) front (magic ++ hosts_magic v) magic
    (one_more (is_at (slice_cmp nat_cmp name)) magic (codes "hostvars") v (is_eq-slice_cmp name (codes "hostvars") ∙ n))

-- ---- so a task has the same items, and says the same of them
abbrev IsUnnamed : PlanOf → PlayOf → Option PlaceOf → Type 0
IsUnnamed plan play None = Unit {0}
IsUnnamed plan play (Some place) = NamesNot (codes "hostvars") plan play place

items_found : (plan : PlanOf) (play : PlayOf) (h : ℕ) (facts : FactsOf) (v : Datum) (none : List Item) (found : Option PlaceOf) → IsUnnamed plan play found
    → option_map_or (items_for (with_hosts plan (hosts_magic v)) play h facts) found none ≡ option_map_or (items_for plan play h facts) found none
items_found plan play h facts v none None un = refl
items_found plan play h facts v none (Some place) un =
    items_of_place plan.has_facts_program place (layers_within plan play h facts place.role place.block_vars place.task.vars) place.task place.conditions place.delegate_to
    (magic_of (with_hosts plan (hosts_magic v)) play h) (magic_of plan play h) refl refl refl
    (items_own (codes "hostvars")
    (start_from place.task place.conditions place.delegate_to plan.has_facts_program (layers_within plan play h facts place.role place.block_vars place.task.vars) (magic_of (with_hosts plan (hosts_magic v)) play h))
    (magic_of plan play h) (unread (codes "hostvars") plan play place h facts (magic_of (with_hosts plan (hosts_magic v)) play h) un) (same_without (host_magic plan.inventory h ++ play.magic) plan.magic v))

items_same : (plan : PlanOf) (play : PlayOf) (h : ℕ) (facts : FactsOf) (p : ℕ) (v : Datum) → IsUnnamed plan play (place_for plan play h p) → items_at (with_hosts plan (hosts_magic v)) play h facts p ≡ items_at plan play h facts p
unfolding items_at
items_same plan play h facts p v un = items_found plan play h facts v (record { value = None; delegate = None; tried = 0; step = DecidedItem nothing } ∷ []) (place_for plan play h p) un

attempts_found : (plan : PlanOf) (play : PlayOf) (h : ℕ) (facts : FactsOf) (v : Datum) (value : Option Datum) (attempt : ℕ) (item : ItemResult) (found : Option PlaceOf) → IsUnnamed plan play found
    → option_map_or (came_for (with_hosts plan (hosts_magic v)) play h facts value attempt item) found (Ends item) ≡ option_map_or (came_for plan play h facts value attempt item) found (Ends item)
attempts_found plan play h facts v value attempt item None un = refl
attempts_found plan play h facts v value attempt item (Some place) un =
    attempts_of_place plan.has_facts_program place (layers_within plan play h facts place.role place.block_vars place.task.vars) place.task
    (magic_of (with_hosts plan (hosts_magic v)) play h) (magic_of plan play h) value attempt item refl
    (attempts_own (codes "hostvars")
    (start_from place.task place.conditions place.delegate_to plan.has_facts_program (layers_within plan play h facts place.role place.block_vars place.task.vars) (magic_of (with_hosts plan (hosts_magic v)) play h))
    (magic_of plan play h) (loop_variable place.task.looped value) (unread (codes "hostvars") plan play place h facts (magic_of (with_hosts plan (hosts_magic v)) play h) un)
    (same_without (host_magic plan.inventory h ++ play.magic) plan.magic v) attempt item)

attempts_same : (plan : PlanOf) (play : PlayOf) (h : ℕ) (facts : FactsOf) (p : ℕ) (v : Datum) (value : Option Datum) (attempt : ℕ) (item : ItemResult) → IsUnnamed plan play (place_for plan play h p)
    → came_at (with_hosts plan (hosts_magic v)) play h facts p value attempt item ≡ came_at plan play h facts p value attempt item
unfolding came_at
attempts_same plan play h facts p v value attempt item un = attempts_found plan play h facts v value attempt item (place_for plan play h p) un

-- ---- nothing is given to another host
given_found : (inventory : InventoryOf) (h : ℕ) (task : TaskResult) (items : List Item) (found : Option PlaceOf) → option_map_or (λ (place : PlaceOf). place.delegate_facts) found false ≡ false
    → option_map_or (gifts_from inventory h task items) found [] ≡ []
given_found inventory h task items None e = refl
given_found inventory h task items (Some place) e =
    ap (λ (b : Bool). if b && has_run task && not task.unreachable then gifts_of inventory h (gives_of place.task.«module») items else []) e

given_none : (inventory : InventoryOf) (play : PlayOf) (p h : ℕ) (task : TaskResult) (items : List Item) → option_map_or (λ (place : PlaceOf). place.delegate_facts) (slice_get play.places p) false ≡ false
    → given_by inventory play p h task items ≡ []
unfolding given_by
given_none inventory play p h task items e = given_found inventory h task items (slice_get play.places p) e

gifts_none : (inventory : InventoryOf) (play : PlayOf) (p h : ℕ) (items : List Item) → option_map_or (λ (place : PlaceOf). place.delegate_facts) (slice_get play.places p) false ≡ false → gifts_at inventory play p h items ≡ []
gifts_none inventory play p h items e = by_over (is_over items)
  where
    by_over : (over : Bool) → (if over then given_by inventory play p h (task_at play p items).result items else []) ≡ []
    by_over true = given_none inventory play p h (task_at play p items).result items e
    by_over false = refl

-- ---- the plan
found_place : (plan : PlanOf) (play : PlayOf) (found : Option PlaceOf) (p : ℕ) → slice_get play.places p ≡ found → play_names (codes "hostvars") play ≡ false → inventory_names (codes "hostvars") plan.inventory ≡ false → map_names (codes "hostvars") plan.extra ≡ false
    → IsUnnamed plan play found
found_place plan play None p there e inventory extra = tt
found_place plan play (Some place) p there e inventory extra =
    let two = or_false (list_any (place_names (codes "hostvars")) play.places) (map_names (codes "hostvars") play.vars) e in
    record { here = none_at (place_names (codes "hostvars")) play.places p place two.0 there; plays = two.1; inventory = inventory; extra = extra }

unnamed : (plan : PlanOf) (play : PlayOf) (h p : ℕ) → play_names (codes "hostvars") play ≡ false → inventory_names (codes "hostvars") plan.inventory ≡ false → map_names (codes "hostvars") plan.extra ≡ false → IsUnnamed plan play (place_for plan play h p)
unnamed plan play h p e inventory extra = by_host (nat_lt h (length plan.inventory.hosts))
  where
    by_host : (b : Bool) → IsUnnamed plan play (if b then slice_get play.places p else None)
    by_host true = found_place plan play (slice_get play.places p) p refl e inventory extra
    by_host false = tt

delegates_none : (play : PlayOf) (p : ℕ) (found : Option PlaceOf) → slice_get play.places p ≡ found → play_delegates play ≡ false → option_map_or (λ (place : PlaceOf). place.delegate_facts) found false ≡ false
delegates_none play p None there e = refl
delegates_none play p (Some place) there e = none_at (λ (q : PlaceOf). q.delegate_facts) play.places p place e there

pub apart_of : (plan : PlanOf) → is_independent plan ≡ true → AreApart plan
apart_of plan e =
    let named = not_is (plan_names (codes "hostvars") plan) (and_left (not (plan_names (codes "hostvars") plan)) (not (list_any play_delegates plan.plays)) e) in
    let delegated = not_is (list_any play_delegates plan.plays) (and_right (not (plan_names (codes "hostvars") plan)) (not (list_any play_delegates plan.plays)) e) in
    let front = or_false (list_any (play_names (codes "hostvars")) plan.plays || inventory_names (codes "hostvars") plan.inventory) (map_names (codes "hostvars") plan.extra) named in
    let two = or_false (list_any (play_names (codes "hostvars")) plan.plays) (inventory_names (codes "hostvars") plan.inventory) front.0 in
    record {
      starts =
          λ n play there learnt h facts p.
          items_same plan play h facts p (hostvars plan.inventory plan.extra learnt) (unnamed plan play h p (none_at (play_names (codes "hostvars")) plan.plays n play two.0 there) two.1 front.1);
      attempts =
          λ n play there learnt h facts p value attempt item.
          attempts_same plan play h facts p (hostvars plan.inventory plan.extra learnt) value attempt item (unnamed plan play h p (none_at (play_names (codes "hostvars")) plan.plays n play two.0 there) two.1 front.1);
      gives = λ n play there p h items. gifts_none plan.inventory play p h items (delegates_none play p (slice_get play.places p) refl (none_at play_delegates plan.plays n play delegated there));
    }
