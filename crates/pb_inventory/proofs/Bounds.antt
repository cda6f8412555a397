-- The numbers of own hosts and links are numbers of hosts and groups.
use Rattle.std.proofs.Common.{◌≡◌, ◌<◌, ◌≤◌, ℕ, zero, suc, Bool, true, false, cond, List, [], ◌∷◌, map, length, arith, refl}
use Rattle.std.specs.Prelude.{Option, Some, None, position, nat_lt}
use Rattle.std.specs.List.{All, range_with_len, position_or_len}
use Rattle.std.specs.Str.{bytes_eq}
use Rattle.std.proofs.lemmas.Bool.Decides.{nat_tests}
use Rattle.std.proofs.lemmas.List.Elements.{All-append, All-map, All-filter}
use Rattle.std.proofs.lemmas.List.FromFn.{get_or-range_with_len, length-range_with_len}
use Rattle.pb_groups.specs.declared.links.ChildLink.{ChildLink}
use Rattle.pb_groups.specs.declared.links.OwnHost.{OwnHost}
use Rattle.pb_groups.specs.Ways.{link, AreLinksBelow}
use Rattle.pb_groups.specs.Members.{own_of as own, AreOwnBelow}
use Rattle.pb_inventory.specs.declared.listed.Listed.{Listed}
use Rattle.pb_inventory.specs.Graph.{all, ungrouped, group_number, listed_hosts, numbers_of, number_first, own_under, own_listed, own_with, links_under, links_listed, links_with, missing}

abbrev pub Below : ℕ → List ℕ → Type 0
Below n xs = All (λ x. x < n) xs

abbrev pub OwnBelow : ℕ → ℕ → List OwnHost → Type 0
OwnBelow groups hosts xs = All (λ o. (o.group.0 < groups) × (o.host.0 < hosts)) xs

abbrev pub LinksBelow : ℕ → List ChildLink → Type 0
LinksBelow groups xs = All (λ l. (l.parent.0 < groups) × (l.child.0 < groups)) xs

none_below : {X : Type 0} (P : X → Type 0) → All P []
none_below P = λ k d w. absurd (omega (arith, w))

single : {X : Type 0} (P : X → Type 0) (x : X) → P x → All P (x ∷ [])
single P x p zero d w = p
single P x p (suc k) d w = absurd (omega (arith, w))

one_more : {X : Type 0} (P : X → Type 0) (x : X) (xs : List X) → P x → All P xs → All P (x ∷ xs)
one_more P x xs p ps = All-append P (x ∷ []) xs (single P x p) ps

range_below : (n : ℕ) → Below n (range_with_len 0 n)
range_below n = λ k d w. let v : k < n = omega (arith, w, length-range_with_len 0 n) in omega (arith, get_or-range_with_len 0 n k d v, v)

some_below : (b : Bool) (at n size : ℕ) → nat_lt at size ≡ b → cond b (Some at) None ≡ Some n → n < size
some_below true at n size t e = grind (arith, nat_tests)
some_below false at n size t e = grind (arith, nat_tests)

position_below : (p : List ℕ → Bool) (names : List (List ℕ)) (n : ℕ) → position p names ≡ Some n → n < length names
position_below p names n e = some_below (nat_lt (position_or_len p names) (length names)) (position_or_len p names) n (length names) refl e

first_below : (limit : ℕ) (o : Option ℕ) (ns : List ℕ) → ((n : ℕ) → o ≡ Some n → n < limit) → Below limit ns → Below limit (number_first o ns)
first_below limit (Some n) ns w ws = one_more (λ x. x < limit) n ns (w n refl) ws
first_below limit None ns w ws = ws

numbers_below : (known names : List (List ℕ)) → Below (length known) (numbers_of known names)
numbers_below known [] = none_below _
numbers_below known (name ∷ names) = first_below (length known) (position (bytes_eq name) known) (numbers_of known names) (position_below (bytes_eq name) known) (numbers_below known names)

owns_below : (groups hosts g : ℕ) (ns : List ℕ) → g < groups → Below hosts ns → OwnBelow groups hosts (map (own g) ns)
owns_below groups hosts g ns w ws = All-map (λ o. (o.group.0 < groups) × (o.host.0 < hosts)) (own g) ns (λ k d v. (w, ws k d v))

under_below : (groups hosts : ℕ) (o : Option ℕ) (ns : List ℕ) → ((n : ℕ) → o ≡ Some n → n < groups) → Below hosts ns → OwnBelow groups hosts (own_under o ns)
under_below groups hosts None ns w ws = none_below _
under_below groups hosts (Some g) ns w ws = owns_below groups hosts g ns (w g refl) ws

listed_below : (groups hosts : List (List ℕ)) (listed : List Listed) → OwnBelow (length groups) (length hosts) (own_listed groups hosts listed)
listed_below groups hosts [] = none_below _
listed_below groups hosts (l ∷ ls) =
    All-append (λ o. (o.group.0 < length groups) × (o.host.0 < length hosts)) _ _ (under_below (length groups) (length hosts) (group_number groups l.name) _ (position_below _ groups) (numbers_below hosts (listed_hosts l))) (listed_below groups hosts ls)

missing_below : (numbers : List ℕ) (limit : ℕ) → Below limit (missing numbers limit)
missing_below numbers limit = All-filter _ (λ x. x < limit) (range_with_len 0 limit) (range_below limit)

named_below : (groups hosts : List (List ℕ)) (name : List ℕ) (ns : List ℕ) → Below (length hosts) ns → OwnBelow (length groups) (length hosts) (own_under (group_number groups name) ns)
named_below groups hosts name ns ws = under_below (length groups) (length hosts) (group_number groups name) ns (position_below (bytes_eq name) groups) ws

pub own_below : (groups hosts : List (List ℕ)) (listed : List Listed) → AreOwnBelow (own_with groups (length hosts) (own_listed groups hosts listed)) (length groups) (length hosts)
own_below groups hosts listed =
    let ends : OwnBelow (length groups) (length hosts) (own_with groups (length hosts) (own_listed groups hosts listed)) =
    All-append (λ o. (o.group.0 < length groups) × (o.host.0 < length hosts)) _ _
    (All-append (λ o. (o.group.0 < length groups) × (o.host.0 < length hosts)) _ _ (listed_below groups hosts listed)
    (named_below groups hosts all _ (range_below (length hosts))))
    (named_below groups hosts ungrouped _ (missing_below (map (λ o. o.host.0) (own_listed groups hosts listed)) (length hosts))) in
    λ k w. ends k (own 0 0) w

child_links_below : (groups g : ℕ) (ns : List ℕ) → g < groups → Below groups ns → LinksBelow groups (map (link g) ns)
child_links_below groups g ns w ws = All-map (λ l. (l.parent.0 < groups) × (l.child.0 < groups)) (link g) ns (λ k d v. (w, ws k d v))

links_under_below : (groups : ℕ) (o : Option ℕ) (ns : List ℕ) → ((n : ℕ) → o ≡ Some n → n < groups) → Below groups ns → LinksBelow groups (links_under o ns)
links_under_below groups None ns w ws = none_below _
links_under_below groups (Some g) ns w ws = child_links_below groups g ns (w g refl) ws

links_listed_below : (groups : List (List ℕ)) (listed : List Listed) → LinksBelow (length groups) (links_listed groups listed)
links_listed_below groups [] = none_below _
links_listed_below groups (l ∷ ls) =
    All-append (λ l. (l.parent.0 < length groups) × (l.child.0 < length groups)) _ _ (links_under_below (length groups) (group_number groups l.name) _ (position_below _ groups) (numbers_below groups l.children)) (links_listed_below groups ls)

pub links_below : (groups : List (List ℕ)) (listed : List Listed) → AreLinksBelow (links_with groups (links_listed groups listed)) (length groups)
links_below groups listed =
    let ends =
    All-append (λ l. (l.parent.0 < length groups) × (l.child.0 < length groups)) _ _ (links_listed_below groups listed)
    (links_under_below (length groups) (group_number groups all) _ (position_below (bytes_eq all) groups) (missing_below (number_first (group_number groups all) (map (λ l. l.child.0) (links_listed groups listed))) (length groups))) in
    λ k w. ends k (link 0 0) w
