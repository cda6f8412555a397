-- The own hosts of the groups are put into the empty sets.
use Rattle.std.proofs.Common.{◌≡◌, ◌<◌, ◌+◌, ℕ, Bool, true, false, List, [], inl, inr, ◌⊎◌, length, get_or, set, length-set, replicate, arith, refl, ap, sym, ◌∙◌}
use Rattle.std.proofs.lemmas.List.{get_or-set_same, get_or-set_other, get_or-replicate, length-replicate, get_or_default}
use Rattle.std.proofs.lemmas.Bool.{cases_lt, cases_eq}
use Rattle.std.proofs.Math.ListN.{get_or-eq_default}
use Rattle.pb_planes.specs.Set.{is_in}
use Rattle.pb_groups.specs.declared.links.ChildLink.{ChildLink}
use Rattle.pb_groups.specs.declared.links.OwnHost.{OwnHost}
use Rattle.pb_groups.specs.Ways.{parent_at}
use Rattle.pb_groups.specs.Depths.{AreDepths}
use Rattle.pb_groups.specs.Members.{ArePlanes, AreOwnBelow, plane_at, group_at, host_at}
use Rattle.pb_groups.specs.Planes.{AreInserted, AreFilled, AreFilledFrom}
use Rattle.pb_groups.proofs.Sets.{plane_same, plane_other, widths_kept, inserted_stays}

none_of_empty : (hosts h : ℕ) → is_in (replicate hosts false) h ≡ false
none_of_empty hosts h = elim (cases_lt h hosts) [
  | inl w ↦ get_or-replicate hosts h false false w
  | inr w ↦ get_or-eq_default (replicate hosts false) false {n = h} (omega (arith, w, length-replicate {A = Bool} hosts false))
]

none_at_all : (groups hosts g h : ℕ) → is_in (plane_at (replicate groups (replicate hosts false)) g) h ≡ false
none_at_all groups hosts g h = elim (cases_lt g groups) [
  | inl w ↦ ap (λ p. is_in p h) (get_or-replicate groups g (replicate hosts false) [] w) ∙ none_of_empty hosts h
  | inr w ↦ ap (λ p. is_in p h) (get_or-eq_default (replicate groups (replicate hosts false)) [] {n = g} (omega (arith, w, length-replicate {A = List Bool} groups (replicate hosts false))))
]

false_is_not_true : (A : Type 0) (b : Bool) → b ≡ false → b ≡ true → A
false_is_not_true A b e i = grind arith

pub inserting_begun : (own : List OwnHost) (groups hosts : ℕ) (planes : List (List Bool)) → planes ≡ replicate groups (replicate hosts false) → AreInserted own groups hosts 0 planes
inserting_begun own groups hosts planes is = (
  (ap length is ∙ length-replicate _ _, λ g w. ap (λ p. length (plane_at p g)) is ∙ ap length (get_or-replicate groups g (replicate hosts false) [] w) ∙ length-replicate _ _),
  (λ g h i. false_is_not_true _ _ (ap (λ p. is_in (plane_at p g) h) is ∙ none_at_all groups hosts g h) i),
  (λ k w. absurd (omega (arith, w))),
)

inserted_back : (planes : List (List Bool)) (at host g h : ℕ) → at < length planes → is_in (plane_at (set planes at (set (plane_at planes at) host true)) g) h ≡ true
    → ((at ≡ g) × (host ≡ h)) ⊎ (is_in (plane_at planes g) h ≡ true)
inserted_back planes at host g h w i = elim (cases_eq g at) [
  | inl same ↦ elim (cases_eq h host) [
    | inl here ↦ inl (sym same, sym here)
    | inr other ↦ inr (rw same (sym (get_or-set_other (plane_at planes at) host h true false other) ∙ sym (ap (λ p. is_in p h) (plane_same planes at _ g w same)) ∙ i))
  ]
  | inr other ↦ inr (sym (ap (λ p. is_in p h) (plane_other planes at _ g other)) ∙ i)
]

kept : (planes : List (List Bool)) (at host g h : ℕ) → at < length planes → host < length (plane_at planes at) → is_in (plane_at planes g) h ≡ true
    → is_in (plane_at (set planes at (set (plane_at planes at) host true)) g) h ≡ true
kept planes at host g h w v i = elim (cases_eq g at) [
  | inl same ↦ ap (λ p. is_in p h) (plane_same planes at _ g w same) ∙ inserted_stays _ host h (sym (ap (λ g. is_in (plane_at planes g) h) same) ∙ i) v
  | inr other ↦ ap (λ p. is_in p h) (plane_other planes at _ g other) ∙ i
]

put_in : (own : List OwnHost) (planes : List (List Bool)) (done k : ℕ) → k ≡ done → group_at own done < length planes → host_at own done < length (plane_at planes (group_at own done))
    → is_in (plane_at (set planes (group_at own done) (set (plane_at planes (group_at own done)) (host_at own done) true)) (group_at own k)) (host_at own k) ≡ true
put_in own planes done k is w v = rw is (ap (λ p. is_in p (host_at own done)) (plane_same planes (group_at own done) _ _ w refl) ∙ get_or-set_same (plane_at planes (group_at own done)) (host_at own done) true false v)

pub inserting_inserts : (own : List OwnHost) (groups hosts done : ℕ) (planes : List (List Bool)) → AreOwnBelow own groups hosts → done < length own → AreInserted own groups hosts done planes
    → AreInserted own groups hosts (done + 1) (set planes (group_at own done) (set (plane_at planes (group_at own done)) (host_at own done) true))
inserting_inserts own groups hosts done planes within w inserted =
    let at = group_at own done in
    let host = host_at own done in
    let v : at < length planes = omega (arith, (within done w).0, inserted.0.0) in
    let u : host < length (plane_at planes at) = omega (arith, (within done w).1, inserted.0.1 at (within done w).0) in (
      widths_kept groups hosts planes at _ (within done w).0 (length-set _ _ _ ∙ inserted.0.1 at (within done w).0) inserted.0,
      (λ g h i. elim (inserted_back planes at host g h v i) [
        | inl new ↦ (done, w, new.0, new.1)
        | inr old ↦ inserted.1 g h old
      ]),
      (λ k x. elim (cases_lt k done) [
        | inl before ↦ kept planes at host _ _ v u (inserted.2 k before)
        | inr last ↦ put_in own planes done k (omega (arith, x, last)) v u
      ]),
    )

pub room_for : (own : List OwnHost) (groups hosts done : ℕ) (planes : List (List Bool)) (d : List Bool) → AreOwnBelow own groups hosts → done < length own → ArePlanes groups hosts planes
    → host_at own done < length (get_or planes (group_at own done) d)
room_for own groups hosts done planes d within w widths =
    rw (get_or_default planes (group_at own done) d [] (omega (arith, (within done w).0, widths.0))) (omega (arith, (within done w).1, widths.1 (group_at own done) (within done w).0))

pub inserting_at : (own : List OwnHost) (groups hosts done : ℕ) (planes : List (List Bool)) (d plane : List Bool) → AreOwnBelow own groups hosts → done < length own
    → plane ≡ set (get_or planes (group_at own done) d) (host_at own done) true
    → AreInserted own groups hosts done planes → AreInserted own groups hosts (done + 1) (set planes (group_at own done) plane)
inserting_at own groups hosts done planes d plane within w is inserted =
    rw (is, get_or_default planes (group_at own done) d [] (omega (arith, (within done w).0, inserted.0.0))) (inserting_inserts own groups hosts done planes within w inserted)

-- own hosts are members, and no group lies so deep
pub filled_by_own : (links : List ChildLink) (own : List OwnHost) (depths : List ℕ) (hosts n level : ℕ) (planes inserted : List (List Bool)) → AreDepths links (length depths) depths
    → n ≡ length depths → level ≡ length depths → planes ≡ inserted
    → AreInserted own n hosts (length own) inserted → AreFilledFrom links own depths hosts level planes
filled_by_own links own depths hosts n level planes inserted falls size top is i =
    rw is (
      (rw (← size) i.0),
      (λ g h e. (0, g, refl, i.1 g h e)),
      i.2,
      (λ k w deep. absurd (omega (arith, deep, top, falls.0 (parent_at links k)))),
    )

pub filled_whole : (links : List ChildLink) (own : List OwnHost) (depths : List ℕ) (hosts depth : ℕ) (planes : List (List Bool)) → depth ≡ 0
    → AreFilledFrom links own depths hosts depth planes → AreFilled links own (length depths) hosts planes
filled_whole links own depths hosts depth planes is filled = (filled.0, filled.1, filled.2, (λ k w. filled.3 k w (omega (arith, is))))
