-- A set of hosts for each group, after one of the sets was changed.
use Rattle.std.proofs.Common.{◌≡◌, ◌≢◌, ◌<◌, ◌||◌, ℕ, Bool, true, false, List, [], inl, inr, ◌⊎◌, length, set, length-set, arith, refl, ap, sym, ◌∙◌}
use Rattle.std.proofs.lemmas.List.{get_or-set_same, get_or-set_other}
use Rattle.std.proofs.lemmas.Bool.{cases_lt, cases_eq}
use Rattle.std.proofs.lemmas.Simd.{get_or-zip2, length-zip2}
use Rattle.std.proofs.Math.ListN.{get_or-eq_default}
use Rattle.std.specs.Simd.Lanes.{zip2}
use Rattle.pb_planes.specs.Set.{is_in}
use Rattle.pb_groups.specs.Members.{plane_at, ArePlanes, Holds}

abbrev pub either : List Bool → List Bool → List Bool
either = zip2 (λ a b. a || b)

pub plane_same : (planes : List (List Bool)) (at : ℕ) (plane : List Bool) (g : ℕ) → at < length planes → g ≡ at → plane_at (set planes at plane) g ≡ plane
plane_same planes at plane g w is = rw is (get_or-set_same planes at plane [] w)

pub plane_other : (planes : List (List Bool)) (at : ℕ) (plane : List Bool) (g : ℕ) → g ≢ at → plane_at (set planes at plane) g ≡ plane_at planes g
plane_other planes at plane g apart = get_or-set_other planes at g plane [] apart

pub widths_kept : (groups hosts : ℕ) (planes : List (List Bool)) (at : ℕ) (plane : List Bool) → at < groups → length plane ≡ hosts → ArePlanes groups hosts planes → ArePlanes groups hosts (set planes at plane)
widths_kept groups hosts planes at plane w is widths = (
  length-set _ _ _ ∙ widths.0,
  (λ g v. elim (cases_eq g at) [
    | inl same ↦ ap length (plane_same planes at plane g (omega (arith, w, widths.0)) same) ∙ is
    | inr other ↦ ap length (plane_other planes at plane g other) ∙ widths.1 g v
  ]),
)

-- one host goes into one set
pub inserted_stays : (plane : List Bool) (at h : ℕ) → is_in plane h ≡ true → at < length plane → is_in (set plane at true) h ≡ true
inserted_stays plane at h e w = grind (arith, get_or-set_same, get_or-set_other, cases_eq h at)

inserted_back : (plane : List Bool) (at h : ℕ) → is_in (set plane at true) h ≡ true → (h ≡ at) ⊎ (is_in plane h ≡ true)
inserted_back plane at h e = elim (cases_eq h at) [ inl same ↦ inl same | inr other ↦ inr (sym (get_or-set_other plane at h true false other) ∙ e) ]

-- one set is joined with another
either_at : (a b : List Bool) (h : ℕ) → length a ≡ length b → is_in (either a b) h ≡ (is_in a h || is_in b h)
either_at a b h e = elim (cases_lt h (length a)) [
  | inl w ↦ get_or-zip2 _ a b h false false false w (omega (arith, w, e))
  | inr w ↦ rw (get_or-eq_default a false {n = h} w, get_or-eq_default b false {n = h} (omega (arith, w, e)), get_or-eq_default (either a b) false {n = h} (omega (arith, w, length-zip2 (λ a b. a || b) a b e))) refl
]

or_back : (a b : Bool) → (a || b) ≡ true → (a ≡ true) ⊎ (b ≡ true)
or_back true b e = inl refl
or_back false b e = inr e

or_left : (a b : Bool) → a ≡ true → (a || b) ≡ true
or_left a b e = rw e refl

or_right : (a b : Bool) → b ≡ true → (a || b) ≡ true
or_right true b e = refl
or_right false b e = e

abbrev pub joined : List (List Bool) → ℕ → ℕ → List (List Bool)
joined planes to from = set planes to (either (plane_at planes to) (plane_at planes from))

pub joined_back : (planes : List (List Bool)) (to from g h : ℕ) → to < length planes → length (plane_at planes to) ≡ length (plane_at planes from)
    → is_in (plane_at (joined planes to from) g) h ≡ true → (is_in (plane_at planes g) h ≡ true) ⊎ ((g ≡ to) × (is_in (plane_at planes from) h ≡ true))
joined_back planes to from g h w e i = elim (cases_eq g to) [
  | inl same ↦ elim (or_back (is_in (plane_at planes to) h) (is_in (plane_at planes from) h)
      (sym (either_at _ _ h e) ∙ sym (ap (λ p. is_in p h) (plane_same planes to _ g w same)) ∙ i)) [
        | inl old ↦ inl (rw same old)
        | inr new ↦ inr (same, new)
      ]
  | inr other ↦ inl (sym (ap (λ p. is_in p h) (plane_other planes to _ g other)) ∙ i)
]

pub joined_stays : (planes : List (List Bool)) (to from g h : ℕ) → to < length planes → length (plane_at planes to) ≡ length (plane_at planes from)
    → is_in (plane_at planes g) h ≡ true → is_in (plane_at (joined planes to from) g) h ≡ true
joined_stays planes to from g h w e i = elim (cases_eq g to) [
  | inl same ↦ ap (λ p. is_in p h) (plane_same planes to _ g w same) ∙ either_at _ _ h e ∙ or_left _ _ (sym (ap (λ g. is_in (plane_at planes g) h) same) ∙ i)
  | inr other ↦ ap (λ p. is_in p h) (plane_other planes to _ g other) ∙ i
]

pub joined_new : (planes : List (List Bool)) (to from h : ℕ) → to < length planes → length (plane_at planes to) ≡ length (plane_at planes from)
    → is_in (plane_at planes from) h ≡ true → is_in (plane_at (joined planes to from) to) h ≡ true
joined_new planes to from h w e i = ap (λ p. is_in p h) (plane_same planes to _ to w refl) ∙ either_at _ _ h e ∙ or_right _ _ i

-- what one set holds of another stays, where that other isn't the one that grows
pub holds_kept : (planes : List (List Bool)) (to from parent child : ℕ) → to < length planes → length (plane_at planes to) ≡ length (plane_at planes from)
    → child ≢ to → Holds planes parent child → Holds (joined planes to from) parent child
holds_kept planes to from parent child w e apart holds = λ h i. elim (joined_back planes to from child h w e i) [
  | inl old ↦ joined_stays planes to from parent h w e (holds h old)
  | inr new ↦ absurd (apart new.0)
]

-- and the one that grows holds the one that it was joined with
pub holds_new : (planes : List (List Bool)) (to from : ℕ) → to < length planes → length (plane_at planes to) ≡ length (plane_at planes from)
    → from ≢ to → Holds (joined planes to from) to from
holds_new planes to from w e apart = λ h i. joined_new planes to from h w e (sym (ap (λ p. is_in p h) (plane_other planes to _ from apart)) ∙ i)
