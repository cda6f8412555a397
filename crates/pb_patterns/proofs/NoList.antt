-- The order of a set where no group's own list counts first.
use Rattle.std.proofs.Common.{◌≡◌, ◌∙◌, ◌&&◌, ◌++◌, not, ℕ, zero, suc, Bool, false, List, [], filter, length, replicate, slice_index_or, option_map, Option, None, Some, refl}
use Rattle.std.specs.List.{range_with_len}
use Rattle.pb_planes.specs.Set.{is_in}
use Rattle.pb_inventory.specs.InventoryOf.{InventoryOf}
use Rattle.pb_patterns.specs.Sets.{in_order, listed, contains}

nobody : (n h : ℕ) → slice_index_or (replicate n false) h false ≡ false
nobody zero h = refl
nobody (suc n) zero = refl
nobody (suc n) (suc h) = nobody n h

same_filter : (f g : ℕ → Bool) (xs : List ℕ) → ((h : ℕ) → f h ≡ g h) → filter f xs ≡ filter g xs
same_filter f g xs e = λ i. filter (λ h. e h i) xs

pub by_number : (inventory : InventoryOf) (listing : Option ℕ) (set seen : List Bool) (items fresh : List ℕ) (n : ℕ) → listing ≡ None → fresh ≡ [] → seen ≡ replicate n false → items ≡ fresh ++ filter (λ h. is_in set h && not (is_in seen h)) (range_with_len 0 (length set)) → items ≡ in_order (listed inventory listing) set
by_number inventory listing set seen items fresh n none empty nothing e =
    let same : (h : ℕ) → (is_in set h && not (is_in seen h)) ≡ (is_in set h && not (contains [] h)) = λ h. rw nothing (rw (nobody n h) refl) in
    rw none (e ∙ rw empty (same_filter (λ h. is_in set h && not (is_in seen h)) (λ h. is_in set h && not (contains [] h)) (range_with_len 0 (length set)) same))
