-- The oldest job that is out is out, no job that is out has a less ticket, and where there is none no job is out.
use Rattle.std.proofs.Common.{◌≡◌, ◌⊎◌, inl, inr, ℕ, suc, ◌+◌, ◌≤◌, Bool, true, false, ◌||◌, List, [], ◌∷◌, refl, sym, ap, subst, arith}
use Rattle.std.specs.Prelude.{nat_le, Option, Some, None, is_some, IfSome, IfNone, option_map, if◌then◌else◌}
use Rattle.std.specs.List.{list_any}
use Rattle.std.specs.Option.{option_map_or}
use Rattle.std.proofs.lemmas.Bool.{leb-true, leb-false, eqb-true, eq-eqb}
use Rattle.pb_ids.specs.declared.numbers.HostNo.{HostNo}
use Rattle.pb_ids.specs.declared.numbers.Ticket.{Ticket}
use Rattle.pb_host.specs.declared.host.Running.{Running}
use Rattle.pb_host.specs.Host.{HostOf}
use Rattle.pb_host.specs.Runs.{has_ticket, is_ticket, is_out}
use Rattle.pb_hosts.specs.Hosts.{at_row}
use Rattle.pb_hosts.specs.Oldest.{oldest_from, oldest_out, older, out_at, out_of}

older_is : (a b : Option (HostNo × Ticket)) (p : HostNo × Ticket) → older a b ≡ Some p → (a ≡ Some p) ⊎ (b ≡ Some p)
older_is None b p e = inr e
older_is (Some a) None p e = inl e
older_is (Some a) (Some b) p e = by_order (nat_le a.1.0 b.1.0) e
  where
    by_order : (c : Bool) → (if c then Some a else Some b) ≡ Some p → (Some a ≡ Some p) ⊎ (Some b ≡ Some p)
    by_order true e = inl e
    by_order false e = inr e

both_none : (a b : Option (HostNo × Ticket)) → older a b ≡ None → (a ≡ None) × (b ≡ None)
both_none None b e = (refl, e)
both_none (Some a) None e = cc
both_none (Some a) (Some b) e = by_order (nat_le a.1.0 b.1.0) e
  where
    by_order : (c : Bool) → (if c then Some a else Some b) ≡ None → (Some a ≡ None) × (Some b ≡ None)
    by_order true e = cc
    by_order false e = cc

some_is : (a b : HostNo × Ticket) → Some a ≡ Some b → a ≡ b
some_is a b e = cc

out_some : (h : ℕ) (running : Option Running) (p : HostNo × Ticket) → option_map {U = HostNo × Ticket} (λ (ticket : Ticket). (record { 0 = h }, ticket)) (option_map_or out_of running None) ≡ Some p → (p.0.0 ≡ h) × (option_map_or (λ (r : Running). is_ticket p.1 r.out) running false ≡ true)
out_some h None p e = cc
out_some h (Some r) p e = of_out r.out e
  where
    of_out : (out : Option Ticket) → option_map {U = HostNo × Ticket} (λ (ticket : Ticket). (record { 0 = h }, ticket)) out ≡ Some p → (p.0.0 ≡ h) × (is_ticket p.1 out ≡ true)
    of_out None e = cc
    of_out (Some t) e =
        let same = some_is (record { 0 = h }, t) p e in
        (sym (ap (λ (q : HostNo × Ticket). q.0.0) same), eq-eqb t.0 p.1.0 (ap (λ (q : HostNo × Ticket). q.1.0) same))

oldest_at : (h : ℕ) (rows : List HostOf) (p : HostNo × Ticket) → oldest_from h rows ≡ Some p → (k : ℕ) × (p.0.0 ≡ h + k) × (at_row (has_ticket p.1) rows k ≡ true)
oldest_at h [] p e = cc
oldest_at h (row ∷ rows) p e = elim (older_is (out_at h row) (oldest_from (h + 1) rows) p e) [
  | inl here ↦ let found = out_some h row.running p here in (0, (let at : p.0.0 ≡ h + 0 = omega (arith, found.0) in at), found.1)
  | inr rest ↦ let found = oldest_at (h + 1) rows p rest in (suc found.0, (let at : p.0.0 ≡ h + suc found.0 = omega (arith, found.1) in at), found.2)
]

pub oldest_is_out : (rows : List HostOf) (p : HostNo × Ticket) → oldest_out rows ≡ Some p → at_row (has_ticket p.1) rows p.0.0 ≡ true
oldest_is_out rows p e = let found = oldest_at 0 rows p e in let at : found.0 ≡ p.0.0 = omega (arith, found.1) in rw (← at) found.2

row_not_out : (h : ℕ) (running : Option Running) → option_map {U = HostNo × Ticket} (λ (ticket : Ticket). (record { 0 = h }, ticket)) (option_map_or out_of running None) ≡ None → option_map_or (λ (r : Running). is_some r.out) running false ≡ false
row_not_out h None e = refl
row_not_out h (Some r) e = of_out r.out e
  where
    of_out : (out : Option Ticket) → option_map {U = HostNo × Ticket} (λ (ticket : Ticket). (record { 0 = h }, ticket)) out ≡ None → is_some out ≡ false
    of_out None e = refl
    of_out (Some t) e = cc

both_false : (a b : Bool) → a ≡ false → b ≡ false → (a || b) ≡ false
both_false true b e f = e
both_false false b e f = f

none_oldest : (h : ℕ) (rows : List HostOf) → oldest_from h rows ≡ None → list_any is_out rows ≡ false
none_oldest h [] e = refl
none_oldest h (row ∷ rows) e =
    let none = both_none (out_at h row) (oldest_from (h + 1) rows) e in
    both_false (is_out row) (list_any is_out rows) (row_not_out h row.running none.0) (none_oldest (h + 1) rows none.1)

-- where a job is out there is an oldest one
pub some_oldest : (rows : List HostOf) → oldest_out rows ≡ None → list_any is_out rows ≡ false
some_oldest rows e = none_oldest 0 rows e

-- a ticket that isn't above this number, if there is one
abbrev IsUpTo : ℕ → Option (HostNo × Ticket) → Type 0
IsUpTo n None = ⊥
IsUpTo n (Some p) = p.1.0 ≤ n

older_left : (n : ℕ) (a b : Option (HostNo × Ticket)) → IsUpTo n a → IsUpTo n (older a b)
older_left n None b up = absurd up
older_left n (Some a) None up = up
older_left n (Some a) (Some b) up = by_order (nat_le a.1.0 b.1.0) refl
  where
    by_order : (c : Bool) → nat_le a.1.0 b.1.0 ≡ c → IsUpTo n (if c then Some a else Some b)
    by_order true e = up
    by_order false e = omega (arith, leb-false a.1.0 b.1.0 e, up)

older_right : (n : ℕ) (a b : Option (HostNo × Ticket)) → IsUpTo n b → IsUpTo n (older a b)
older_right n None b up = up
older_right n (Some a) None up = absurd up
older_right n (Some a) (Some b) up = by_order (nat_le a.1.0 b.1.0) refl
  where
    by_order : (c : Bool) → nat_le a.1.0 b.1.0 ≡ c → IsUpTo n (if c then Some a else Some b)
    by_order true e = omega (arith, leb-true a.1.0 b.1.0 e, up)
    by_order false e = up

row_up_to : (h : ℕ) (ticket : Ticket) (running : Option Running) → option_map_or (λ (r : Running). is_ticket ticket r.out) running false ≡ true
    → IsUpTo ticket.0 (option_map {U = HostNo × Ticket} (λ (t : Ticket). (record { 0 = h }, t)) (option_map_or out_of running None))
row_up_to h ticket None e = cc
row_up_to h ticket (Some r) e = of_out r.out e
  where
    of_out : (out : Option Ticket) → is_ticket ticket out ≡ true → IsUpTo ticket.0 (option_map {U = HostNo × Ticket} (λ (t : Ticket). (record { 0 = h }, t)) out)
    of_out None e = cc
    of_out (Some t) e = let same : t.0 ≡ ticket.0 = eqb-true t.0 ticket.0 e in omega (arith, same)

either : (a b : Bool) → (a || b) ≡ true → (a ≡ true) ⊎ (b ≡ true)
either true b e = inl refl
either false b e = inr e

rows_up_to : (h : ℕ) (ticket : Ticket) (rows : List HostOf) → list_any (has_ticket ticket) rows ≡ true → IsUpTo ticket.0 (oldest_from h rows)
rows_up_to h ticket [] e = cc
rows_up_to h ticket (row ∷ rows) e = elim (either (has_ticket ticket row) (list_any (has_ticket ticket) rows) e) [
  | inl here ↦ older_left ticket.0 (out_at h row) (oldest_from (h + 1) rows) (row_up_to h ticket row.running here)
  | inr rest ↦ older_right ticket.0 (out_at h row) (oldest_from (h + 1) rows) (rows_up_to (h + 1) ticket rows rest)
]

-- no job that is out was sent before the oldest one
pub oldest_is_least : (rows : List HostOf) (p : HostNo × Ticket) (ticket : Ticket) → oldest_out rows ≡ Some p → list_any (has_ticket ticket) rows ≡ true → p.1.0 ≤ ticket.0
oldest_is_least rows p ticket e out = let up : IsUpTo ticket.0 (Some p) = subst (IsUpTo ticket.0) e (rows_up_to 0 ticket rows out) in up

-- what is known of the answer
pub some_is_out : (rows : List HostOf) (found : Option (HostNo × Ticket)) → found ≡ oldest_out rows → IfSome found (λ p. at_row (has_ticket p.1) rows p.0.0 ≡ true)
some_is_out rows None e = tt
some_is_out rows (Some p) e = oldest_is_out rows p (sym e)

pub some_is_least : (rows : List HostOf) (found : Option (HostNo × Ticket)) → found ≡ oldest_out rows
    → IfSome found (λ p. (ticket : Ticket) → list_any (has_ticket ticket) rows ≡ true → p.1.0 ≤ ticket.0)
some_is_least rows None e = tt
some_is_least rows (Some p) e = λ ticket out. oldest_is_least rows p ticket (sym e) out

pub none_is_out : (rows : List HostOf) (found : Option (HostNo × Ticket)) → found ≡ oldest_out rows → IfNone found (list_any is_out rows ≡ false)
none_is_out rows None e = some_oldest rows (sym e)
none_is_out rows (Some p) e = tt
