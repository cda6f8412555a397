-- The attempt that goes out next at an item: it is one of the 101 there.
use Rattle.std.proofs.Common.{◌≡◌, ℕ, ◌+◌, ◌*◌, ◌<◌, ◌≤◌, Bool, true, false, ◌&&◌, length, refl, arith}
use Rattle.std.specs.Prelude.{nat_lt, if◌then◌else◌}
use Rattle.std.proofs.lemmas.Bool.{ltb-true, eqb-true}
use Rattle.pb_host.specs.declared.host.Running.{Running}
use Rattle.pb_host.specs.Attempts.{tried_next, attempt_after, attempt_next, rank}
use Rattle.pb_host.specs.Runs.{is_item, is_next}
use Rattle.pb_host.proofs.InOrder.{next_rank}

and_left : (a b : Bool) → (a && b) ≡ true → a ≡ true
and_left true b e = refl
and_left false b e = cc

and_right : (a b : Bool) → (a && b) ≡ true → b ≡ true
and_right true b e = e
and_right false b e = cc

few_attempts : (tried : ℕ) → attempt_after tried ≤ 101
few_attempts tried = by_order (nat_lt tried 100) refl
  where
    by_order : (lower : Bool) → nat_lt tried 100 ≡ lower → (if lower then tried + 1 else 101) ≤ 101
    by_order true e = omega (arith, ltb-true tried 100 e)
    by_order false e = omega arith

-- its number is that behind the attempts that came back
pub next_number : (item attempt : ℕ) (r : Running) → is_next item attempt r ≡ true → (101 * item + attempt ≡ rank r.items + 1) × (item < length r.items)
next_number item attempt r e = next_rank item attempt r.items (and_left (is_item item r.items) _ e) (and_right (is_item item r.items) _ e)

-- and no attempt lies behind those at the last item
pub next_below : (item attempt : ℕ) (r : Running) → is_next item attempt r ≡ true → rank r.items + 1 ≤ 101 * length r.items
next_below item attempt r e =
    let next = next_number item attempt r e in
    let same : attempt_next r.items ≡ attempt = eqb-true (attempt_next r.items) attempt (and_right (is_item item r.items) _ e) in
    let few = few_attempts (tried_next r.items) in
    omega (arith, next.0, next.1, same, few)
