-- What tasks give to other hosts changes what these know, and nothing else.
use Rattle.std.proofs.Common.{◌≡◌, ◌≢◌, ℕ, zero, suc, List, [], ◌∷◌, length, map, refl, sym, ◌∙◌, ap, arith}
use Rattle.std.specs.Prelude.{Option, Some, None, option_map, slice_get, slice_set, sum_by}
use Rattle.std.specs.Option.{option_map_or}
use Rattle.std.proofs.lemmas.List.Sums.{sum_by-cons}
use Rattle.pb_host.specs.FromTaskVars.{DelegatedFacts}
use Rattle.pb_hosts.specs.Hosts.{change, lesser, least_place}
use Rattle.pb_hosts.specs.Giving.{takes, with_delegated}
use Rattle.pb_host.specs.Host.{HostOf, next_place}

pub change_on : (row : HostOf) (rows : List HostOf) (h : ℕ) (f : HostOf → HostOf) → change (row ∷ rows) (suc h) f ≡ row ∷ change rows h f
change_on row rows h f = by_found (slice_get rows h)
  where
    by_found : (found : Option HostOf) → option_map_or (λ (r : HostOf). slice_set (row ∷ rows) (suc h) (f r)) found (row ∷ rows) ≡ row ∷ option_map_or (λ (r : HostOf). slice_set rows h (f r)) found rows
    by_found None = refl
    by_found (Some r) = refl

-- what each gift keeps, all of them keep
pub given_keeps : (P : List HostOf → Type 0) → ((gift : DelegatedFacts) (rows : List HostOf) → P rows → P (change rows gift.host.0 (takes gift)))
    → (gifts : List DelegatedFacts) (rows : List HostOf) → P rows → P (with_delegated gifts rows)
given_keeps P keeps [] rows w = w
given_keeps P keeps (gift ∷ gifts) rows w = given_keeps P keeps gifts (change rows gift.host.0 (takes gift)) (keeps gift rows w)

-- what is asked of a row stays where the change keeps that
pub map_same : {A : Type 0} (of : HostOf → A) (f : HostOf → HostOf) → ((row : HostOf) → of (f row) ≡ of row) → (rows : List HostOf) (h : ℕ) → map of (change rows h f) ≡ map of rows
map_same of f same [] h = refl
map_same of f same (row ∷ rows) zero = ap (λ x. x ∷ map of rows) (same row)
map_same of f same (row ∷ rows) (suc h) = rw (change_on row rows h f) (ap (λ rest. of row ∷ rest) (map_same of f same rows h))

pub given_map : {A : Type 0} (of : HostOf → A) → ((gift : DelegatedFacts) (row : HostOf) → of (takes gift row) ≡ of row) → (gifts : List DelegatedFacts) (rows : List HostOf) → map of (with_delegated gifts rows) ≡ map of rows
given_map of same [] rows = refl
given_map of same (gift ∷ gifts) rows = given_map of same gifts (change rows gift.host.0 (takes gift)) ∙ map_same of (takes gift) (same gift) rows gift.host.0

pub length_same : (rows : List HostOf) (h : ℕ) (f : HostOf → HostOf) → length (change rows h f) ≡ length rows
length_same [] h f = refl
length_same (row ∷ rows) zero f = refl
length_same (row ∷ rows) (suc h) f = rw (change_on row rows h f) (ap suc (length_same rows h f))

pub length-given : (gifts : List DelegatedFacts) (rows : List HostOf) → length (with_delegated gifts rows) ≡ length rows
length-given [] rows = refl
length-given (gift ∷ gifts) rows = length-given gifts (change rows gift.host.0 (takes gift)) ∙ length_same rows gift.host.0 (takes gift)

sum_same : (w : HostOf → ℕ) (f : HostOf → HostOf) → ((row : HostOf) → w (f row) ≡ w row) → (rows : List HostOf) (h : ℕ) → sum_by w (change rows h f) ≡ sum_by w rows
sum_same w f same [] h = refl
sum_same w f same (row ∷ rows) zero = omega (arith, same row, sum_by-cons w (f row) rows, sum_by-cons w row rows)
sum_same w f same (row ∷ rows) (suc h) = rw (change_on row rows h f) (omega (arith, sum_same w f same rows h, sum_by-cons w row (change rows h f), sum_by-cons w row rows))

pub given_sum : (w : HostOf → ℕ) → ((gift : DelegatedFacts) (row : HostOf) → w (takes gift row) ≡ w row) → (gifts : List DelegatedFacts) (rows : List HostOf) → sum_by w (with_delegated gifts rows) ≡ sum_by w rows
given_sum w same [] rows = refl
given_sum w same (gift ∷ gifts) rows = given_sum w same gifts (change rows gift.host.0 (takes gift)) ∙ sum_same w (takes gift) (same gift) rows gift.host.0

least_same : (f : HostOf → HostOf) → ((row : HostOf) → next_place (f row) ≡ next_place row) → (rows : List HostOf) (h : ℕ) → least_place (change rows h f) ≡ least_place rows
least_same f same [] h = refl
least_same f same (row ∷ rows) zero = ap (λ p. lesser p (least_place rows)) (same row)
least_same f same (row ∷ rows) (suc h) = rw (change_on row rows h f) (ap (lesser (next_place row)) (least_same f same rows h))

pub given_least : (gifts : List DelegatedFacts) (rows : List HostOf) → least_place (with_delegated gifts rows) ≡ least_place rows
given_least [] rows = refl
given_least (gift ∷ gifts) rows = given_least gifts (change rows gift.host.0 (takes gift)) ∙ least_same (takes gift) (λ row. refl) rows gift.host.0

-- one host's row
pub get_changed : (rows : List HostOf) (h : ℕ) (f : HostOf → HostOf) → slice_get (change rows h f) h ≡ option_map f (slice_get rows h)
get_changed [] h f = refl
get_changed (row ∷ rows) zero f = refl
get_changed (row ∷ rows) (suc h) f = rw (change_on row rows h f) (get_changed rows h f)

pub get_apart : (rows : List HostOf) (h k : ℕ) (f : HostOf → HostOf) → k ≢ h → slice_get (change rows k f) h ≡ slice_get rows h
get_apart [] h k f d = refl
get_apart (row ∷ rows) zero zero f d = absurd (d refl)
get_apart (row ∷ rows) zero (suc k) f d = ap (λ (all : List HostOf). slice_get all zero) (change_on row rows k f)
get_apart (row ∷ rows) (suc h) zero f d = refl
get_apart (row ∷ rows) (suc h) (suc k) f d = ap (λ (all : List HostOf). slice_get all (suc h)) (change_on row rows k f) ∙ get_apart rows h k f (λ e. d (ap suc e))

-- changes of one row, one after another, and of two rows, in any order
pub twice : (rows : List HostOf) (h : ℕ) (f g : HostOf → HostOf) → change (change rows h f) h g ≡ change rows h (λ row. g (f row))
twice [] h f g = refl
twice (row ∷ rows) zero f g = refl
twice (row ∷ rows) (suc h) f g =
    ap (λ (all : List HostOf). change all (suc h) g) (change_on row rows h f) ∙ change_on row (change rows h f) h g ∙ ap (λ rest. row ∷ rest) (twice rows h f g)
    ∙ sym (change_on row rows h (λ r. g (f r)))

pub apart : (rows : List HostOf) (h k : ℕ) (f g : HostOf → HostOf) → k ≢ h → change (change rows h f) k g ≡ change (change rows k g) h f
apart [] h k f g d = refl
apart (row ∷ rows) zero zero f g d = absurd (d refl)
apart (row ∷ rows) zero (suc k) f g d = change_on (f row) rows k g ∙ ap (λ (all : List HostOf). change all zero f) (sym (change_on row rows k g))
apart (row ∷ rows) (suc h) zero f g d = ap (λ (all : List HostOf). change all zero g) (change_on row rows h f) ∙ sym (change_on (g row) rows h f)
apart (row ∷ rows) (suc h) (suc k) f g d =
    ap (λ (all : List HostOf). change all (suc k) g) (change_on row rows h f) ∙ change_on row (change rows h f) k g
    ∙ ap (λ rest. row ∷ rest) (apart rows h k f g (λ e. d (ap suc e)))
    ∙ sym (change_on row (change rows k g) h f) ∙ ap (λ (all : List HostOf). change all (suc h) f) (sym (change_on row rows k g))

pub same_change : (rows : List HostOf) (h : ℕ) (f g : HostOf → HostOf) → ((row : HostOf) → f row ≡ g row) → change rows h f ≡ change rows h g
same_change [] h f g same = refl
same_change (row ∷ rows) zero f g same = ap (λ x. x ∷ rows) (same row)
same_change (row ∷ rows) (suc h) f g same = change_on row rows h f ∙ ap (λ rest. row ∷ rest) (same_change rows h f g same) ∙ sym (change_on row rows h g)
