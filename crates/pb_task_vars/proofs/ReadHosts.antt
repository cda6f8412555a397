-- A task that doesn't read `hostvars` is the same whatever that stands for.
use Rattle.std.proofs.Common.{◌≡◌, ℕ, Bool, false, cond, List, [], ◌∷◌, ◌++◌, Option, Some, None, codes, refl, sym, ap, subst, ◌∙◌}
use Rattle.std.specs.BTreeMap.{is_at}
use Rattle.std.specs.Cmp.Lexicographic.{slice_cmp}
use Rattle.std.specs.Map.{lookup}
use Rattle.std.specs.Option.{option_map_or}
use Rattle.std.specs.Ordering.{nat_cmp}
use Rattle.std.proofs.lemmas.Map.Text.{is_eq-slice_cmp}
use Rattle.pb_value.specs.Datum.{Datum}
use Rattle.pb_facts.specs.Facts.{FactsOf}
use Rattle.pb_layers.specs.Scope.{Map}
use Rattle.pb_items.specs.FromConditions.{Ends}
use Rattle.pb_expr_syntax.specs.Tree.{Tree}
use Rattle.pb_items.specs.Items.{StartOf, items_of, attempted_item}
use Rattle.pb_play.specs.declared.task.Task.{Task}
use Rattle.pb_reach.specs.Reach.{layers_mention, start_from, with_magic}
use Rattle.pb_outcome.specs.declared.gather.ItemResult.{ItemResult}
use Rattle.pb_outcome.specs.declared.item.Item.{Item}
use Rattle.pb_outcome.specs.declared.item.Planned.TheVariants.{Decided as DecidedItem}
use Rattle.pb_places.specs.Place.{PlaceOf}
use Rattle.pb_plan.specs.Plan.{PlayOf, PlanOf}
use Rattle.pb_reach.specs.Apart.{SameBut}
use Rattle.pb_variables.specs.Magic.{host_magic, hostvars, hosts_magic}
use Rattle.pb_task_vars.specs.Results.{start_with, start_of, magic_of, nothing, place_for, items_for, items_at, came_for, came_at}
use Rattle.pb_task_vars.specs.WithHostvars.{with_hosts, seen_with}
use Rattle.pb_task_vars.specs.Unread.{IsFreeOfHostvars, ItemsUnread, AttemptsUnread}

-- entries in front of others
behind : (test : List ℕ → Bool) (front xs ys : Map) → lookup test xs ≡ lookup test ys → lookup test (front ++ xs) ≡ lookup test (front ++ ys)
behind test [] xs ys same = same
behind test (e ∷ front) xs ys same = ap (λ (o : Option Datum). cond (test e.0) (Some e.1) o) (behind test front xs ys same)

-- magic variables that differ in what stands under `hostvars`, behind others
same_but : (front plan hosts others : Map) → SameBut (codes "hostvars") hosts others → SameBut (codes "hostvars") (front ++ (plan ++ hosts)) (front ++ (plan ++ others))
same_but front plan hosts others same name n =
    behind (is_at (slice_cmp nat_cmp name)) front (plan ++ hosts) (plan ++ others) (behind (is_at (slice_cmp nat_cmp name)) plan hosts others (same name n))

-- one of them where it isn't there
no_entry : (test : List ℕ → Bool) (key : List ℕ) (w : Datum) → test key ≡ false → lookup test [] ≡ lookup test ((key, w) ∷ [])
no_entry test key w other = sym (ap (λ (b : Bool). cond b (Some w) None) other)

by_none : (hosts : Map) (w : Datum) → hosts ≡ [] → SameBut (codes "hostvars") hosts (hosts_magic w)
by_none hosts w is =
    subst (λ (m : Map). SameBut (codes "hostvars") m (hosts_magic w)) (sym is)
    (λ name n. no_entry (is_at (slice_cmp nat_cmp name)) (codes "hostvars") w (is_eq-slice_cmp name (codes "hostvars") ∙ n))

items_found : (plan : PlanOf) (play : PlayOf) (h : ℕ) (facts : FactsOf) (hosts others : Map) → SameBut (codes "hostvars") hosts others → (none : List Item) (found : Option PlaceOf) →
    ItemsUnread plan play h facts found → option_map_or (items_for (with_hosts plan hosts) play h facts) found none ≡ option_map_or (items_for (with_hosts plan others) play h facts) found none
items_found plan play h facts hosts others same none None unread = refl
items_found plan play h facts hosts others same none (Some place) unread =
    unread (magic_of (with_hosts plan hosts) play h) (magic_of (with_hosts plan others) play h) (same_but (host_magic plan.inventory h ++ play.magic) plan.magic hosts others same)

items_unread : (plan : PlanOf) (play : PlayOf) (h : ℕ) (facts : FactsOf) (p : ℕ) (hosts others : Map) → SameBut (codes "hostvars") hosts others → ItemsUnread plan play h facts (place_for plan play h p) →
    items_at (with_hosts plan hosts) play h facts p ≡ items_at (with_hosts plan others) play h facts p
unfolding items_at
items_unread plan play h facts p hosts others same unread =
    items_found plan play h facts hosts others same (record { value = None; delegate = None; tried = 0; step = DecidedItem nothing } ∷ []) (place_for plan play h p) unread

attempts_found : (plan : PlanOf) (play : PlayOf) (h : ℕ) (facts : FactsOf) (hosts others : Map) → SameBut (codes "hostvars") hosts others → (value : Option Datum) (attempt : ℕ) (item : ItemResult) (found : Option PlaceOf) →
    AttemptsUnread plan play h facts found → option_map_or (came_for (with_hosts plan hosts) play h facts value attempt item) found (Ends item) ≡ option_map_or (came_for (with_hosts plan others) play h facts value attempt item) found (Ends item)
attempts_found plan play h facts hosts others same value attempt item None unread = refl
attempts_found plan play h facts hosts others same value attempt item (Some place) unread =
    unread (magic_of (with_hosts plan hosts) play h) (magic_of (with_hosts plan others) play h) value attempt item (same_but (host_magic plan.inventory h ++ play.magic) plan.magic hosts others same)

attempts_unread : (plan : PlanOf) (play : PlayOf) (h : ℕ) (facts : FactsOf) (p : ℕ) (hosts others : Map) → SameBut (codes "hostvars") hosts others → (value : Option Datum) (attempt : ℕ) (item : ItemResult) →
    AttemptsUnread plan play h facts (place_for plan play h p) → came_at (with_hosts plan hosts) play h facts p value attempt item ≡ came_at (with_hosts plan others) play h facts p value attempt item
unfolding came_at
attempts_unread plan play h facts p hosts others same value attempt item unread = attempts_found plan play h facts hosts others same value attempt item (place_for plan play h p) unread

-- a task by its parts
pub items_of_place : (program : Bool) (place : PlaceOf) (seen : List Map) (task : Task) (conditions : List Tree) (delegate_to : Option (List ℕ)) (one other : Map) → task ≡ place.task → conditions ≡ place.conditions →
    delegate_to ≡ place.delegate_to → items_of (start_from task conditions delegate_to program seen one) ≡ items_of (start_from task conditions delegate_to program seen other) →
    items_of (start_with program place seen one) ≡ items_of (start_with program place seen other)
unfolding start_with
items_of_place program place seen task conditions delegate_to one other t c d same = rw (sym t, sym c, sym d) same

pub attempts_of_place : (program : Bool) (place : PlaceOf) (seen : List Map) (task : Task) (one other : Map) (value : Option Datum) (attempt : ℕ) (item : ItemResult) → task ≡ place.task →
    attempted_item (start_from task place.conditions place.delegate_to program seen one) value attempt item
    ≡ attempted_item (start_from task place.conditions place.delegate_to program seen other) value attempt item →
    attempted_item (start_with program place seen one) value attempt item ≡ attempted_item (start_with program place seen other) value attempt item
unfolding start_with
attempts_of_place program place seen task one other value attempt item t same = rw (sym t) same

-- a task by what it sees
pub items_unseen : (start : StartOf) (program : Bool) (place : PlaceOf) (seen : List Map) (magic : Map) (task : Task) (conditions : List Tree) (delegate_to : Option (List ℕ)) (one other : Map) →
    start_with program place seen magic ≡ start → task ≡ place.task → conditions ≡ place.conditions → delegate_to ≡ place.delegate_to →
    items_of (start_from task conditions delegate_to program seen one) ≡ items_of (start_from task conditions delegate_to program seen other) →
    items_of (with_magic start one) ≡ items_of (with_magic start other)
unfolding start_with
items_unseen start program place seen magic task conditions delegate_to one other is t c d same =
    subst (λ (s : StartOf). items_of (with_magic s one) ≡ items_of (with_magic s other)) is (items_of_place program place seen task conditions delegate_to one other t c d same)

pub attempts_unseen : (start : StartOf) (program : Bool) (place : PlaceOf) (seen : List Map) (magic : Map) (task : Task) (one other : Map) (value : Option Datum) (attempt : ℕ) (item : ItemResult) →
    start_with program place seen magic ≡ start → task ≡ place.task →
    attempted_item (start_from task place.conditions place.delegate_to program seen one) value attempt item
    ≡ attempted_item (start_from task place.conditions place.delegate_to program seen other) value attempt item →
    attempted_item (with_magic start one) value attempt item ≡ attempted_item (with_magic start other) value attempt item
unfolding start_with
attempts_unseen start program place seen magic task one other value attempt item is t same =
    subst (λ (s : StartOf). attempted_item (with_magic s one) value attempt item ≡ attempted_item (with_magic s other) value attempt item) is
    (attempts_of_place program place seen task one other value attempt item t same)

-- its layers
pub layers_in : (start : StartOf) (program : Bool) (place : PlaceOf) (seen : List Map) (magic : Map) → start_with program place seen magic ≡ start → layers_mention (codes "hostvars") start.layers ≡ false →
    layers_mention (codes "hostvars") seen ≡ false
unfolding start_with
layers_in start program place seen magic is none = subst (λ (s : StartOf). layers_mention (codes "hostvars") s.layers ≡ false) (sym is) none

-- what the task at a place sees
pub layers_seeing : (plan : PlanOf) (play : PlayOf) (h : ℕ) (facts : FactsOf) (place : PlaceOf) (start : StartOf) → start ≡ start_of plan play h facts place → IsFreeOfHostvars plan play h facts (Some place) →
    layers_mention (codes "hostvars") start.layers ≡ false
unfolding start_with
layers_seeing plan play h facts place start is none = subst (λ (s : StartOf). layers_mention (codes "hostvars") s.layers ≡ false) (sym is) none

pub items_seeing : (plan : PlanOf) (play : PlayOf) (h : ℕ) (facts : FactsOf) (place : PlaceOf) (start : StartOf) → start ≡ start_of plan play h facts place →
    ((one other : Map) → SameBut (codes "hostvars") one other → items_of (with_magic start one) ≡ items_of (with_magic start other)) → ItemsUnread plan play h facts (Some place)
unfolding start_with
items_seeing plan play h facts place start is unread =
    subst (λ (s : StartOf). (one other : Map) → SameBut (codes "hostvars") one other → items_of (with_magic s one) ≡ items_of (with_magic s other)) is unread

pub attempts_seeing : (plan : PlanOf) (play : PlayOf) (h : ℕ) (facts : FactsOf) (place : PlaceOf) (start : StartOf) → start ≡ start_of plan play h facts place →
    ((one other : Map) (value : Option Datum) (attempt : ℕ) (item : ItemResult) → SameBut (codes "hostvars") one other →
    attempted_item (with_magic start one) value attempt item ≡ attempted_item (with_magic start other) value attempt item) → AttemptsUnread plan play h facts (Some place)
unfolding start_with
attempts_seeing plan play h facts place start is unread =
    subst
    (λ (s : StartOf). (one other : Map) (value : Option Datum) (attempt : ℕ) (item : ItemResult) → SameBut (codes "hostvars") one other →
    attempted_item (with_magic s one) value attempt item ≡ attempted_item (with_magic s other) value attempt item)
    is unread

-- a plan without `hostvars`, to a task that doesn't look it up
pub items_not_read : (plan seen : PlanOf) (play : PlayOf) (h : ℕ) (facts : FactsOf) (p : ℕ) (learnt : List FactsOf) (hosts : Map) → seen ≡ with_hosts plan hosts → hosts ≡ [] →
    ItemsUnread seen play h facts (place_for seen play h p) → items_at seen play h facts p ≡ items_at (seen_with plan learnt) play h facts p
items_not_read plan seen play h facts p learnt hosts s is unread =
    ap (λ (q : PlanOf). items_at q play h facts p) s
    ∙ items_unread plan play h facts p hosts (hosts_magic (hostvars plan.inventory plan.extra learnt)) (by_none hosts (hostvars plan.inventory plan.extra learnt) is)
    (subst (λ (q : PlanOf). ItemsUnread q play h facts (place_for q play h p)) s unread)

pub attempts_not_read : (plan seen : PlanOf) (play : PlayOf) (h : ℕ) (facts : FactsOf) (p : ℕ) (learnt : List FactsOf) (none hosts : Map) (reads : Bool) → seen ≡ with_hosts plan none →
    reads ≡ false → (reads ≡ false → AttemptsUnread seen play h facts (place_for seen play h p)) → hosts ≡ [] → (item_value : Option Datum) (attempt : ℕ) (item : ItemResult) →
    came_at (with_hosts plan hosts) play h facts p item_value attempt item ≡ came_at (seen_with plan learnt) play h facts p item_value attempt item
attempts_not_read plan seen play h facts p learnt none hosts reads s not_read unread is item_value attempt item =
    attempts_unread plan play h facts p hosts (hosts_magic (hostvars plan.inventory plan.extra learnt)) (by_none hosts (hostvars plan.inventory plan.extra learnt) is) item_value attempt item
    (subst (λ (q : PlanOf). AttemptsUnread q play h facts (place_for q play h p)) s (unread not_read))
