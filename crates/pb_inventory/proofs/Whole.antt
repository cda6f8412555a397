-- What an inventory is, once its groups and hosts are few enough.
use Rattle.std.proofs.Common.{◌≡◌, ◌<◌, ◌≤◌, ℕ, Bool, true, false, List, length, refl, ap, sym, ◌∙◌}
use Rattle.std.specs.Prelude.{Ok, Err}
use Rattle.std.proofs.lemmas.Bool.{le-leb}
use Rattle.pb_groups.specs.Depths.{IsEndless}
use Rattle.pb_groups.specs.declared.links.ChildLink.{ChildLink}
use Rattle.pb_groups.specs.declared.links.OwnHost.{OwnHost}
use Rattle.pb_groups.specs.Members.{AreOwnBelow}
use Rattle.pb_groups.specs.Ways.{AreLinksBelow}
use Rattle.pb_inventory.specs.declared.listed.Listed.{Listed}
use Rattle.pb_inventory.specs.declared.fault.InvFault.TheVariants.{Cycle}
use Rattle.pb_inventory.specs.Graph.{group_names, host_names, own_of, links_of, has_cycle}
use Rattle.pb_inventory.specs.Reading.{graph_in, graph_from}
use Rattle.pb_inventory.proofs.Bounds.{own_below, links_below}
use Rattle.pb_inventory.proofs.Once.{some_group}
use Rattle.pb_inventory.proofs.Cycles.{cycle_from_endless, endless_from_cycle}

is_false : (b : Bool) → (b ≡ true → ⊥) → b ≡ false
is_false true h = absurd (h refl)
is_false false h = refl

some_name : (listed : List Listed) (names : List (List ℕ)) → names ≡ group_names listed → 0 < length names
some_name listed names is = rw is (some_group listed)

from_ok : (listed : List Listed) (names hosts : List (List ℕ)) → length names ≤ 4096 → length hosts ≤ 1048576 → has_cycle (links_of names listed) (length names) ≡ false
    → graph_from names hosts listed ≡ Ok (record { hosts = hosts; groups = names; own = own_of names hosts listed; links = links_of names listed })
from_ok listed names hosts w v ends = rw (le-leb (length names) 4096 w, le-leb (length hosts) 1048576 v, ends) refl

from_cycle : (listed : List Listed) (names hosts : List (List ℕ)) → length names ≤ 4096 → length hosts ≤ 1048576 → has_cycle (links_of names listed) (length names) ≡ true
    → graph_from names hosts listed ≡ Err Cycle
from_cycle listed names hosts w v ends = rw (le-leb (length names) 4096 w, le-leb (length hosts) 1048576 v, ends) refl

graph_is : (listed : List Listed) (names hosts : List (List ℕ)) → names ≡ group_names listed → hosts ≡ host_names listed → graph_in listed ≡ graph_from names hosts listed
graph_is listed names hosts n h = ap (λ g. graph_from g (host_names listed) listed) (sym n) ∙ ap (λ h. graph_from names h listed) (sym h)

moved : (links other : List ChildLink) (n m : ℕ) → links ≡ other → n ≡ m → IsEndless other m → IsEndless links n
moved links other n m l e x = rw (l, e) x

moved_back : (links other : List ChildLink) (n m : ℕ) → links ≡ other → n ≡ m → IsEndless links n → IsEndless other m
moved_back links other n m l e x = rw (← l, ← e) x

pub whole_ok : (listed : List Listed) (names hosts : List (List ℕ)) (own : List OwnHost) (links : List ChildLink) (n : ℕ) → names ≡ group_names listed → hosts ≡ host_names listed
    → own ≡ own_of names hosts listed → links ≡ links_of names listed → n ≡ length names → length names ≤ 4096 → length hosts ≤ 1048576 → (IsEndless links n → ⊥)
    → graph_in listed ≡ Ok (record { hosts = hosts; groups = names; own = own; links = links })
whole_ok listed names hosts own links n nn hh o l e w v ends =
    graph_is listed names hosts nn hh
    ∙ from_ok listed names hosts w v (is_false (has_cycle (links_of names listed) (length names)) (λ b. ends (moved links (links_of names listed) n (length names) l e (endless_from_cycle (links_of names listed) (length names) b))))
    ∙ ap (λ o. Ok (record { hosts = hosts; groups = names; own = o; links = links_of names listed })) (sym o)
    ∙ ap (λ l. Ok (record { hosts = hosts; groups = names; own = own; links = l })) (sym l)

pub whole_cycle : (listed : List Listed) (names hosts : List (List ℕ)) (links : List ChildLink) (n : ℕ) → names ≡ group_names listed → hosts ≡ host_names listed
    → links ≡ links_of names listed → n ≡ length names → length names ≤ 4096 → length hosts ≤ 1048576 → IsEndless links n → graph_in listed ≡ Err Cycle
whole_cycle listed names hosts links n nn hh l e w v endless =
    graph_is listed names hosts nn hh
    ∙ from_cycle listed names hosts w v
    (cycle_from_endless (links_of names listed) (length names) (some_name listed names nn) (moved_back links (links_of names listed) n (length names) l e endless))

pub some_within : (listed : List Listed) (names : List (List ℕ)) (n : ℕ) → names ≡ group_names listed → n ≡ length names → 0 < n
some_within listed names n nn e = rw e (some_name listed names nn)

pub own_within : (listed : List Listed) (names hosts : List (List ℕ)) (own : List OwnHost) (n m : ℕ) → own ≡ own_of names hosts listed → n ≡ length names → m ≡ length hosts
    → AreOwnBelow own n m
own_within listed names hosts own n m o en em = rw (o, en, em) (own_below names hosts listed)

pub links_within : (listed : List Listed) (names : List (List ℕ)) (links : List ChildLink) (n : ℕ) → links ≡ links_of names listed → n ≡ length names → AreLinksBelow links n
links_within listed names links n l en = rw (l, en) (links_below names listed)
