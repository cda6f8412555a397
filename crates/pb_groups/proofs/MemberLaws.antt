-- The set of members that is computed, beside ways from group to group.
use Rattle.std.proofs.Common.{◌≡◌, ◌<◌, ◌≤◌, ◌&&◌, ◌||◌, ℕ, zero, suc, Bool, true, false, List, inl, inr, ◌⊎◌, arith, refl, ap, sym, ◌∙◌, map, eq-eqb, get_or}
use Rattle.std.specs.Prelude.{◌==◌}
use Rattle.std.specs.List.{range_with_len}
use Rattle.std.proofs.lemmas.Bool.{eqb-true}
use Rattle.std.proofs.lemmas.List.{get_or_default, ext_get_or, get_or-map, length-map}
use Rattle.std.proofs.lemmas.List.Folds.{list_any_at, Any-from_list_any}
use Rattle.std.proofs.lemmas.List.FromFn.{get_or-range_with_len, length-range_with_len}
use Rattle.pb_groups.specs.declared.links.ChildLink.{ChildLink}
use Rattle.pb_groups.specs.declared.links.OwnHost.{OwnHost}
use Rattle.pb_groups.specs.Ways.{Way, IsChild, link}
use Rattle.pb_groups.specs.Depths.{AreDepths}
use Rattle.pb_groups.specs.Members.{IsOwn, IsMember, plane_at, own_of}
use Rattle.pb_groups.specs.MemberSets.{is_own, belongs}
use Rattle.pb_groups.specs.Planes.{AreFilled}
use Rattle.pb_groups.proofs.Filling.{member_of_child}
use Rattle.pb_groups.proofs.Laws.{longest_way, members_exactly}

both : (a b : Bool) → a ≡ true → b ≡ true → (a && b) ≡ true
both a b e f = rw (e, f) refl

first_of_both : (a b : Bool) → (a && b) ≡ true → a ≡ true
first_of_both true b e = refl
first_of_both false b e = e

second_of_both : (a b : Bool) → (a && b) ≡ true → b ≡ true
second_of_both true b e = e
second_of_both false b e = cc

one_of : (a b : Bool) → (a || b) ≡ true → (a ≡ true) ⊎ (b ≡ true)
one_of true b e = inl refl
one_of false b e = inr e

or_first : (a b : Bool) → a ≡ true → (a || b) ≡ true
or_first a b e = rw e refl

or_second : (a b : Bool) → b ≡ true → (a || b) ≡ true
or_second true b e = refl
or_second false b e = e

same_bools : (a b : Bool) → (a ≡ true → b ≡ true) → (b ≡ true → a ≡ true) → a ≡ b
same_bools true b f g = sym (f refl)
same_bools false true f g = g refl
same_bools false false f g = refl

own_found : (own : List OwnHost) (group host : ℕ) → is_own own group host ≡ true → IsOwn own group host
own_found own group host e =
    let any = Any-from_list_any (λ o. (o.group.0 == group) && (o.host.0 == host)) own e in
    let at = get_or_default own any.0 (own_of 0 0) any.1 any.2 ∙ any.3 in
    (any.0, any.2, ap (λ o. o.group.0) at ∙ eqb-true _ _ (first_of_both _ _ any.4), ap (λ o. o.host.0) at ∙ eqb-true _ _ (second_of_both _ _ any.4))

own_there : (own : List OwnHost) (group host : ℕ) → IsOwn own group host → is_own own group host ≡ true
own_there own group host is =
    list_any_at (λ o. (o.group.0 == group) && (o.host.0 == host)) own is.0 (own_of 0 0) is.1 (both _ _ (eq-eqb _ _ is.2) (eq-eqb _ _ is.3))

own_is_member : (links : List ChildLink) (own : List OwnHost) (group host : ℕ) → is_own own group host ≡ true → IsMember links own group host
own_is_member links own group host e = (zero, group, refl, own_found own group host e)

pub member_from_belongs : (links : List ChildLink) (own : List OwnHost) (steps group host : ℕ) → belongs links own steps group host ≡ true → IsMember links own group host
member_from_belongs links own zero group host e = own_is_member links own group host e
member_from_belongs links own (suc steps) group host e = elim (one_of (is_own own group host) _ e) [
  | inl here ↦ own_is_member links own group host here
  | inr below ↦
      let any = Any-from_list_any (λ l. (l.parent.0 == group) && belongs links own steps l.child.0 host) links below in
      let at = get_or_default links any.0 (link 0 0) any.1 any.2 ∙ any.3 in
      member_of_child links own group any.1.child.0 host
      (any.0, any.2, ap (λ l. l.parent.0) at ∙ eqb-true _ _ (first_of_both _ _ any.4), ap (λ l. l.child.0) at)
      (member_from_belongs links own steps any.1.child.0 host (second_of_both _ _ any.4))
]

-- the first step of a way, and the way that goes on
first_step : (links : List ChildLink) (steps from to : ℕ) → Way links (suc steps) from to → (next : ℕ) × IsChild links from next × Way links steps next to
first_step links zero from to way = (to, (way.2.0, way.2.1, way.2.2 ∙ sym way.1, way.2.3), refl)
first_step links (suc steps) from to way = let first = first_step links steps from way.0 way.1 in (first.0, first.1, (way.0, first.2, way.2))

own_belongs : (links : List ChildLink) (own : List OwnHost) (limit group host : ℕ) → IsOwn own group host → belongs links own limit group host ≡ true
own_belongs links own zero group host is = own_there own group host is
own_belongs links own (suc limit) group host is = or_first _ _ (own_there own group host is)

belongs_by_way : (links : List ChildLink) (own : List OwnHost) (limit steps group last host : ℕ) → steps ≤ limit → Way links steps group last → IsOwn own last host → belongs links own limit group host ≡ true
belongs_by_way links own limit zero group last host w way is = own_belongs links own limit group host (is.0, is.1, is.2 ∙ sym way, is.3)
belongs_by_way links own zero (suc steps) group last host w way is = absurd (omega (arith, w))
belongs_by_way links own (suc limit) (suc steps) group last host w way is =
    let first = first_step links steps group last way in
    let k = first.1.0 in
    or_second _ _
    (list_any_at (λ l. (l.parent.0 == group) && belongs links own limit l.child.0 host) links k (link 0 0) first.1.1
    (both _ _ (eq-eqb _ _ first.1.2) (ap (λ g. belongs links own limit g host) first.1.3 ∙ belongs_by_way links own limit steps first.0 last host (omega (arith, w)) first.2 is)))

pub belongs_from_member : (links : List ChildLink) (own : List OwnHost) (groups : ℕ) (depths : List ℕ) (group host : ℕ) → AreDepths links groups depths → IsMember links own group host
    → belongs links own groups group host ≡ true
belongs_from_member links own groups depths group host falls member =
    belongs_by_way links own groups member.0 group member.1 host
    (omega (arith, longest_way links groups depths falls member.1 member.0 group member.2, falls.0 member.1)) member.2 member.3

host_at : (links : List ChildLink) (own : List OwnHost) (groups hosts group h : ℕ) → h < hosts → get_or (map (belongs links own groups group) (range_with_len 0 hosts)) h false ≡ belongs links own groups group h
host_at links own groups hosts group h w =
    get_or-map (belongs links own groups group) (range_with_len 0 hosts) h 0 false (omega (arith, w, length-range_with_len 0 hosts))
    ∙ ap (belongs links own groups group) (get_or-range_with_len 0 hosts h 0 w ∙ omega arith)

pub plane_is : (links : List ChildLink) (own : List OwnHost) (groups hosts : ℕ) (depths : List ℕ) (planes : List (List Bool)) (group : ℕ) → AreDepths links groups depths → AreFilled links own groups hosts planes
    → group < groups → plane_at planes group ≡ map (belongs links own groups group) (range_with_len 0 hosts)
plane_is links own groups hosts depths planes group falls filled w =
    ext_get_or false _ _ (filled.0.1 group w ∙ sym (length-map (range_with_len 0 hosts) (belongs links own groups group) ∙ length-range_with_len 0 hosts))
    (λ h v.
    let within : h < hosts = omega (arith, v, filled.0.1 group w) in
    let exactly = members_exactly links own groups hosts planes filled group h in
    same_bools _ _ (λ i. belongs_from_member links own groups depths group h falls (exactly.0 i)) (λ b. exactly.1 (member_from_belongs links own groups group h b))
    ∙ sym (host_at links own groups hosts group h within))
