-- The jobs that are out, kept in the order in which they were sent: the first of them is the oldest one, and as one row changes one job comes or goes.
use Rattle.std.proofs.Common.{◌≡◌, ◌≢◌, ◌⊎◌, inl, inr, ℕ, zero, suc, ◌+◌, ◌<◌, ◌≤◌, Bool, true, false, ◌||◌, cond, List, [], ◌∷◌, ◌++◌, length, map, refl, sym, ◌∙◌, ap, subst, arith}
use Rattle.std.specs.Prelude.{⊤, ◌==◌, nat_le, nat_lt, Option, Some, None, IfSome, is_some, is_none, option_map, position, slice_get, slice_set, insert, remove, if◌then◌else◌}
use Rattle.std.specs.List.{list_any, position_or_len}
use Rattle.std.specs.Option.{option_map_or}
use Rattle.std.proofs.lemmas.Bool.{leb-true, leb-false, le-leb, eqb-true, eqb-false, eq-eqb, ne_eqb, ltb-true}
use Rattle.pb_ids.specs.declared.numbers.HostNo.{HostNo}
use Rattle.pb_ids.specs.declared.numbers.Ticket.{Ticket}
use Rattle.pb_inventory.specs.InventoryOf.{InventoryOf}
use Rattle.pb_outcome.specs.declared.item.Item.{Item}
use Rattle.pb_outcome.specs.declared.outcome.Form.{Form}
use Rattle.pb_outcome.specs.Items.{is_over}
use Rattle.pb_host.specs.FromPlan.{PlayOf, PlanOf}
use Rattle.pb_host.specs.FromTaskVars.{DelegatedFacts}
use Rattle.pb_cursors.specs.Walks.{PlayWalkOf}
use Rattle.pb_host.specs.declared.host.Running.{Running}
use Rattle.pb_hosts.specs.Joining.{walks_behind, joined_by}
use Rattle.pb_host.specs.Host.{HostOf, first_rows, left, sent, sent_running, ended, progressed, reported, reported_running, items_after}
use Rattle.pb_host.specs.Runs.{has_send, has_ticket, is_out, is_ticket}
use Rattle.pb_hosts.specs.Hosts.{at_row, change}
use Rattle.pb_hosts.specs.Giving.{with_delegated}
use Rattle.pb_hosts.specs.Oldest.{older, out_of, out_at, oldest_from, oldest_out, ticket_of, is_before, with_job, with_ticket, out_from, all_out, is_of, without_job, is_under}
use Rattle.pb_hosts.proofs.Giving.{change_on, given_map}
use Rattle.pb_hosts.proofs.Preparing.{position_here, position_on}

-- ---- the order of two jobs
abbrev Before : HostNo × Ticket → HostNo × Ticket → Type 0
Before p q = (p.1.0 < q.1.0) ⊎ ((p.1.0 ≡ q.1.0) × (p.0.0 ≤ q.0.0))

before_so : (p q : HostNo × Ticket) → is_before p q ≡ true → (p.1.0 < q.1.0) ⊎ ((p.1.0 ≡ q.1.0) × (p.0.0 ≤ q.0.0))
before_so p q e = by_same (p.1.0 == q.1.0) refl e
  where
    by_same : (b : Bool) → (p.1.0 == q.1.0) ≡ b → (if b then nat_le p.0.0 q.0.0 else nat_le p.1.0 q.1.0) ≡ true → (p.1.0 < q.1.0) ⊎ ((p.1.0 ≡ q.1.0) × (p.0.0 ≤ q.0.0))
    by_same true s f = inr (eqb-true p.1.0 q.1.0 s, leb-true p.0.0 q.0.0 f)
    by_same false s f = inl (let least = leb-true p.1.0 q.1.0 f in let differ : p.1.0 ≢ q.1.0 = eqb-false p.1.0 q.1.0 s in omega (arith, least, differ))

so_before : (p q : HostNo × Ticket) → (p.1.0 < q.1.0) ⊎ ((p.1.0 ≡ q.1.0) × (p.0.0 ≤ q.0.0)) → is_before p q ≡ true
so_before p q (inl less) = ap (λ (b : Bool). if b then nat_le p.0.0 q.0.0 else nat_le p.1.0 q.1.0) (ne_eqb p.1.0 q.1.0 (let differ : p.1.0 ≢ q.1.0 = omega (arith, less) in differ)) ∙ le-leb p.1.0 q.1.0 (omega (arith, less))
so_before p q (inr same) = ap (λ (b : Bool). if b then nat_le p.0.0 q.0.0 else nat_le p.1.0 q.1.0) (eq-eqb p.1.0 q.1.0 same.0) ∙ le-leb p.0.0 q.0.0 same.1

-- of two jobs one comes first
other_way : (p q : HostNo × Ticket) → is_before p q ≡ false → is_before q p ≡ true
other_way p q e = by_same (p.1.0 == q.1.0) refl e
  where
    by_same : (b : Bool) → (p.1.0 == q.1.0) ≡ b → (if b then nat_le p.0.0 q.0.0 else nat_le p.1.0 q.1.0) ≡ false → is_before q p ≡ true
    by_same true s f = so_before q p (inr (sym (eqb-true p.1.0 q.1.0 s), (let less = leb-false p.0.0 q.0.0 f in omega (arith, less))))
    by_same false s f = so_before q p (inl (let less = leb-false p.1.0 q.1.0 f in omega (arith, less)))

-- and not both, where they are of two hosts
never_both : (p q : HostNo × Ticket) → p.0.0 ≢ q.0.0 → (p.1.0 < q.1.0) ⊎ ((p.1.0 ≡ q.1.0) × (p.0.0 ≤ q.0.0)) → (q.1.0 < p.1.0) ⊎ ((q.1.0 ≡ p.1.0) × (q.0.0 ≤ p.0.0)) → ⊥
never_both p q d (inl a) (inl b) = omega (arith, a, b)
never_both p q d (inl a) (inr b) = let same = b.0 in omega (arith, a, same)
never_both p q d (inr a) (inl b) = let same = a.0 in omega (arith, same, b)
never_both p q d (inr a) (inr b) = d (let one = a.1 in let other = b.1 in omega (arith, one, other))

one_way : (p q : HostNo × Ticket) → p.0.0 ≢ q.0.0 → is_before p q ≡ true → is_before q p ≡ false
one_way p q d e = by_other (is_before q p) refl
  where
    by_other : (b : Bool) → is_before q p ≡ b → is_before q p ≡ false
    by_other false f = f
    by_other true f = absurd (never_both p q d (before_so p q e) (before_so q p f))

chained : (p q r : HostNo × Ticket) → (p.1.0 < q.1.0) ⊎ ((p.1.0 ≡ q.1.0) × (p.0.0 ≤ q.0.0)) → (q.1.0 < r.1.0) ⊎ ((q.1.0 ≡ r.1.0) × (q.0.0 ≤ r.0.0)) → (p.1.0 < r.1.0) ⊎ ((p.1.0 ≡ r.1.0) × (p.0.0 ≤ r.0.0))
chained p q r (inl a) (inl b) = inl (omega (arith, a, b))
chained p q r (inl a) (inr b) = inl (let same = b.0 in omega (arith, a, same))
chained p q r (inr a) (inl b) = inl (let same = a.0 in omega (arith, same, b))
chained p q r (inr a) (inr b) = inr (a.0 ∙ b.0, (let one = a.1 in let other = b.1 in omega (arith, one, other)))

-- what comes before a third one doesn't come behind what doesn't
not_behind : (p q r : HostNo × Ticket) → is_before p r ≡ true → is_before q r ≡ false → is_before q p ≡ false
not_behind p q r e f = by_other (is_before q p) refl
  where
    by_other : (b : Bool) → is_before q p ≡ b → is_before q p ≡ false
    by_other false g = g
    by_other true g = let yes : is_before q r ≡ true = so_before q r (chained q p r (before_so q p g) (before_so p r e)) in cc

-- ---- two jobs more, in either order
two_more : (p q : HostNo × Ticket) → p.0.0 ≢ q.0.0 → (jobs : List (HostNo × Ticket)) → (if is_before p q then p ∷ q ∷ jobs else q ∷ p ∷ jobs) ≡ (if is_before q p then q ∷ p ∷ jobs else p ∷ q ∷ jobs)
two_more p q d jobs = by_order (is_before p q) refl
  where
    by_order : (b : Bool) → is_before p q ≡ b → (if b then p ∷ q ∷ jobs else q ∷ p ∷ jobs) ≡ (if is_before q p then q ∷ p ∷ jobs else p ∷ q ∷ jobs)
    by_order true e = ap (λ (b : Bool). if b then q ∷ p ∷ jobs else p ∷ q ∷ jobs) (sym (one_way p q d e))
    by_order false e = ap (λ (b : Bool). if b then q ∷ p ∷ jobs else p ∷ q ∷ jobs) (sym (other_way p q e))

with_two : (p q : HostNo × Ticket) → p.0.0 ≢ q.0.0 → (jobs : List (HostNo × Ticket)) → with_job p (with_job q jobs) ≡ with_job q (with_job p jobs)
with_two p q d [] = two_more p q d []
with_two p q d (r ∷ jobs) = by_order (is_before p r) (is_before q r) refl refl (with_two p q d jobs)
  where
    by_order : (pr qr : Bool) → is_before p r ≡ pr → is_before q r ≡ qr → with_job p (with_job q jobs) ≡ with_job q (with_job p jobs)
        → with_job p (if qr then q ∷ r ∷ jobs else r ∷ with_job q jobs) ≡ with_job q (if pr then p ∷ r ∷ jobs else r ∷ with_job p jobs)
    by_order true true e f rest =
        ap (λ (b : Bool). if is_before p q then p ∷ q ∷ r ∷ jobs else q ∷ (if b then p ∷ r ∷ jobs else r ∷ with_job p jobs)) e
        ∙ two_more p q d (r ∷ jobs)
        ∙ sym (ap (λ (b : Bool). if is_before q p then q ∷ p ∷ r ∷ jobs else p ∷ (if b then q ∷ r ∷ jobs else r ∷ with_job q jobs)) f)
    by_order true false e f rest =
        ap (λ (b : Bool). if b then p ∷ r ∷ with_job q jobs else r ∷ with_job p (with_job q jobs)) e
        ∙ sym (ap (λ (b : Bool). if b then q ∷ p ∷ r ∷ jobs else p ∷ (if is_before q r then q ∷ r ∷ jobs else r ∷ with_job q jobs)) (not_behind p q r e f)
        ∙ ap (λ (b : Bool). p ∷ (if b then q ∷ r ∷ jobs else r ∷ with_job q jobs)) f)
    by_order false true e f rest =
        ap (λ (b : Bool). if b then p ∷ q ∷ r ∷ jobs else q ∷ (if is_before p r then p ∷ r ∷ jobs else r ∷ with_job p jobs)) (not_behind q p r f e)
        ∙ ap (λ (b : Bool). q ∷ (if b then p ∷ r ∷ jobs else r ∷ with_job p jobs)) e
        ∙ sym (ap (λ (b : Bool). if b then q ∷ r ∷ with_job p jobs else r ∷ with_job q (with_job p jobs)) f)
    by_order false false e f rest =
        ap (λ (b : Bool). if b then p ∷ r ∷ with_job q jobs else r ∷ with_job p (with_job q jobs)) e
        ∙ ap (λ (behind : List (HostNo × Ticket)). r ∷ behind) rest
        ∙ sym (ap (λ (b : Bool). if b then q ∷ r ∷ with_job p jobs else r ∷ with_job q (with_job p jobs)) f)

with_both : (p : HostNo × Ticket) (h : ℕ) (ticket : Option Ticket) (jobs : List (HostNo × Ticket)) → p.0.0 ≢ h → with_ticket h ticket (with_job p jobs) ≡ with_job p (with_ticket h ticket jobs)
with_both p h None jobs d = refl
with_both p h (Some t) jobs d = sym (with_two p (record { 0 = h }, t) d jobs)

-- ---- the hosts of the jobs
abbrev AllFrom : ℕ → List (HostNo × Ticket) → Type 0
AllFrom n [] = ⊤
AllFrom n (p ∷ jobs) = (n ≤ p.0.0) × AllFrom n jobs

with_from : (n : ℕ) (p : HostNo × Ticket) (jobs : List (HostNo × Ticket)) → n ≤ p.0.0 → AllFrom n jobs → AllFrom n (with_job p jobs)
with_from n p [] l w = (l, tt)
with_from n p (q ∷ jobs) l w = by_order (is_before p q) (with_from n p jobs l w.1)
  where
    by_order : (b : Bool) → AllFrom n (with_job p jobs) → AllFrom n (if b then p ∷ q ∷ jobs else q ∷ with_job p jobs)
    by_order true rest = (l, w)
    by_order false rest = (w.0, rest)

lower_from : (n : ℕ) (jobs : List (HostNo × Ticket)) → AllFrom (n + 1) jobs → AllFrom n jobs
lower_from n [] w = tt
lower_from n (p ∷ jobs) w = ((let above = w.0 in omega (arith, above)), lower_from n jobs w.1)

out_all_from : (h : ℕ) (tickets : List (Option Ticket)) → AllFrom h (out_from h tickets)
out_all_from h [] = tt
out_all_from h (ticket ∷ tickets) = by_ticket ticket (lower_from h (out_from (h + 1) tickets) (out_all_from (h + 1) tickets))
  where
    by_ticket : (t : Option Ticket) → AllFrom h (out_from (h + 1) tickets) → AllFrom h (with_ticket h t (out_from (h + 1) tickets))
    by_ticket None w = w
    by_ticket (Some t) w = with_from h (record { 0 = h }, t) (out_from (h + 1) tickets) (omega arith) w

-- no job of this host is among them
abbrev AreApart : ℕ → List (HostNo × Ticket) → Type 0
AreApart m [] = ⊤
AreApart m (p ∷ jobs) = (p.0.0 ≢ m) × AreApart m jobs

apart_from : (n m : ℕ) (jobs : List (HostNo × Ticket)) → m < n → AllFrom n jobs → AreApart m jobs
apart_from n m [] l w = tt
apart_from n m (p ∷ jobs) l w = ((let above = w.0 in let differ : p.0.0 ≢ m = omega (arith, above, l) in differ), apart_from n m jobs l w.1)

apart_with : (m : ℕ) (p : HostNo × Ticket) (jobs : List (HostNo × Ticket)) → p.0.0 ≢ m → AreApart m jobs → AreApart m (with_job p jobs)
apart_with m p [] d w = (d, tt)
apart_with m p (q ∷ jobs) d w = by_order (is_before p q) (apart_with m p jobs d w.1)
  where
    by_order : (b : Bool) → AreApart m (with_job p jobs) → AreApart m (if b then p ∷ q ∷ jobs else q ∷ with_job p jobs)
    by_order true rest = (d, w)
    by_order false rest = (w.0, rest)

apart_ticket : (m h : ℕ) (ticket : Option Ticket) (jobs : List (HostNo × Ticket)) → h ≢ m → AreApart m jobs → AreApart m (with_ticket h ticket jobs)
apart_ticket m h None jobs d w = w
apart_ticket m h (Some t) jobs d w = apart_with m (record { 0 = h }, t) jobs d w

-- ---- a job comes, and goes
apart_none : (h m k : ℕ) (tickets : List (Option Ticket)) → m ≡ h + k → AreApart m (out_from h (slice_set tickets k None))
apart_none h m zero [] e = tt
apart_none h m (suc k) [] e = tt
apart_none h m zero (ticket ∷ tickets) e = apart_from (h + 1) m (out_from (h + 1) tickets) (omega (arith, e)) (out_all_from (h + 1) tickets)
apart_none h m (suc k) (ticket ∷ tickets) e =
    apart_ticket m h ticket (out_from (h + 1) (slice_set tickets k None)) (let differ : h ≢ m = omega (arith, e) in differ)
    (apart_none (h + 1) m k tickets (omega (arith, e)))

job_comes : (h m k : ℕ) (ticket : Ticket) (tickets : List (Option Ticket)) → m ≡ h + k → slice_get tickets k ≡ Some None → out_from h (slice_set tickets k (Some ticket)) ≡ with_job (record { 0 = m }, ticket) (out_from h tickets)
job_comes h m k ticket [] e f = cc
job_comes h m zero ticket (t ∷ tickets) e f =
    let none : None ≡ t = cc in
    let here : h ≡ m = omega (arith, e) in
    ap (λ (n : ℕ). with_job (record { 0 = n }, ticket) (out_from (h + 1) tickets)) here
    ∙ ap (λ (o : Option Ticket). with_job (record { 0 = m }, ticket) (with_ticket h o (out_from (h + 1) tickets))) none
job_comes h m (suc k) ticket (t ∷ tickets) e f =
    ap (with_ticket h t) (job_comes (h + 1) m k ticket tickets (omega (arith, e)) f)
    ∙ with_both (record { 0 = m }, ticket) h t (out_from (h + 1) tickets) (let differ : m ≢ h = omega (arith, e) in differ)

without_apart : (m : ℕ) (jobs : List (HostNo × Ticket)) → AreApart m jobs → without_job m jobs ≡ jobs
without_apart m [] w = refl
without_apart m (p ∷ jobs) w =
    ap (λ (b : Bool). if b then jobs else p ∷ without_job m jobs) (ne_eqb p.0.0 m w.0)
    ∙ ap (λ (behind : List (HostNo × Ticket)). p ∷ behind) (without_apart m jobs w.1)

without_with : (m : ℕ) (p : HostNo × Ticket) (jobs : List (HostNo × Ticket)) → p.0.0 ≡ m → AreApart m jobs → without_job m (with_job p jobs) ≡ jobs
without_with m p [] e w = ap (λ (b : Bool). if b then [] else p ∷ []) (eq-eqb p.0.0 m e)
without_with m p (q ∷ jobs) e w = by_order (is_before p q) (without_with m p jobs e w.1)
  where
    by_order : (b : Bool) → without_job m (with_job p jobs) ≡ jobs → without_job m (if b then p ∷ q ∷ jobs else q ∷ with_job p jobs) ≡ q ∷ jobs
    by_order true rest = ap (λ (b : Bool). if b then q ∷ jobs else p ∷ without_job m (q ∷ jobs)) (eq-eqb p.0.0 m e)
    by_order false rest =
        ap (λ (b : Bool). if b then with_job p jobs else q ∷ without_job m (with_job p jobs)) (ne_eqb q.0.0 m w.0)
        ∙ ap (λ (behind : List (HostNo × Ticket)). q ∷ behind) rest

-- one place of a list written
set_past_end : (tickets : List (Option Ticket)) (k : ℕ) (t : Option Ticket) → slice_get tickets k ≡ None → slice_set tickets k t ≡ tickets
set_past_end [] zero t e = refl
set_past_end [] (suc k) t e = refl
set_past_end (u ∷ tickets) zero t e = cc
set_past_end (u ∷ tickets) (suc k) t e = ap (λ (behind : List (Option Ticket)). u ∷ behind) (set_past_end tickets k t e)

set_again : (tickets : List (Option Ticket)) (k : ℕ) (t : Option Ticket) → slice_get tickets k ≡ Some t → slice_set tickets k t ≡ tickets
set_again [] k t e = cc
set_again (u ∷ tickets) zero t e = let same : t ≡ u = cc in ap (λ (v : Option Ticket). v ∷ tickets) same
set_again (u ∷ tickets) (suc k) t e = ap (λ (behind : List (Option Ticket)). u ∷ behind) (set_again tickets k t e)

set_get : (tickets : List (Option Ticket)) (k : ℕ) (t was : Option Ticket) → slice_get tickets k ≡ Some was → slice_get (slice_set tickets k t) k ≡ Some t
set_get [] k t was e = cc
set_get (u ∷ tickets) zero t was e = refl
set_get (u ∷ tickets) (suc k) t was e = set_get tickets k t was e

set_back : (tickets : List (Option Ticket)) (k : ℕ) (t was : Option Ticket) → slice_get tickets k ≡ Some was → slice_set (slice_set tickets k t) k was ≡ tickets
set_back [] k t was e = cc
set_back (u ∷ tickets) zero t was e = let same : was ≡ u = cc in ap (λ (v : Option Ticket). v ∷ tickets) same
set_back (u ∷ tickets) (suc k) t was e = ap (λ (behind : List (Option Ticket)). u ∷ behind) (set_back tickets k t was e)

job_goes : (h m k : ℕ) (tickets : List (Option Ticket)) → m ≡ h + k → out_from h (slice_set tickets k None) ≡ without_job m (out_from h tickets)
job_goes h m k tickets e = by_found (slice_get tickets k) refl
  where
    none_goes : slice_set tickets k None ≡ tickets → out_from h (slice_set tickets k None) ≡ without_job m (out_from h tickets)
    none_goes same =
        ap (out_from h) same
        ∙ sym (without_apart m (out_from h tickets) (subst (λ (ts : List (Option Ticket)). AreApart m (out_from h ts)) same (apart_none h m k tickets e)))

    by_found : (found : Option (Option Ticket)) → slice_get tickets k ≡ found → out_from h (slice_set tickets k None) ≡ without_job m (out_from h tickets)
    by_found None f = none_goes (set_past_end tickets k None f)
    by_found (Some None) f = none_goes (set_again tickets k None f)
    by_found (Some (Some ticket)) f =
        let before : out_from h tickets ≡ with_job (record { 0 = m }, ticket) (out_from h (slice_set tickets k None)) =
        ap (out_from h) (sym (set_back tickets k None (Some ticket) f)) ∙ job_comes h m k ticket (slice_set tickets k None) e (set_get tickets k None (Some ticket) f) in
        sym (ap (without_job m) before ∙ without_with m (record { 0 = m }, ticket) (out_from h (slice_set tickets k None)) refl (apart_none h m k tickets e))

-- ---- as one row changes
-- a task that starts, and one whose report came in, has no job that is out
pub progressed_quiet : (inventory : InventoryOf) (play : PlayOf) (p : ℕ) (items : List Item) (row : HostOf) → ticket_of (progressed inventory play p items row) ≡ None
progressed_quiet inventory play p items row = by_over (is_over items)
  where
    by_over : (over : Bool) → ticket_of (if over then ended inventory play p items row else record row { running = Some (record { place = p; items = items; out = None }) }) ≡ None
    by_over true = refl
    by_over false = refl

pub reported_quiet : (plan : PlanOf) (play : PlayOf) (outcome : Form) (row : HostOf) → ticket_of (reported plan play outcome row) ≡ None
reported_quiet plan play outcome row = by_running row.running refl
  where
    by_running : (found : Option Running) → row.running ≡ found → ticket_of (option_map_or (reported_running plan play outcome row) found row) ≡ None
    by_running None e = ap (λ (r : Option Running). option_map_or out_of r None) e
    by_running (Some r) e = progressed_quiet plan.inventory play r.place (items_after plan play row.host row.facts outcome r) row

tickets_quiet : (f : HostOf → HostOf) → ((row : HostOf) → ticket_of (f row) ≡ None) → (rows : List HostOf) (h : ℕ) → map ticket_of (change rows h f) ≡ slice_set (map ticket_of rows) h None
tickets_quiet f none [] zero = refl
tickets_quiet f none [] (suc h) = refl
tickets_quiet f none (row ∷ rows) zero = ap (λ (o : Option Ticket). o ∷ map ticket_of rows) (none row)
tickets_quiet f none (row ∷ rows) (suc h) = rw (change_on row rows h f) (ap (λ (rest : List (Option Ticket)). ticket_of row ∷ rest) (tickets_quiet f none rows h))

pub quiet_order : (gifts : List DelegatedFacts) (f : HostOf → HostOf) → ((row : HostOf) → ticket_of (f row) ≡ None) → (h : ℕ) (jobs column : List (HostNo × Ticket)) (rows new : List HostOf) → jobs ≡ all_out rows → new ≡ with_delegated gifts (change rows h f)
    → column ≡ without_job h jobs → column ≡ all_out new
quiet_order gifts f none h jobs column rows new e n t =
    let at : h ≡ 0 + h = omega arith in
    t ∙ ap (without_job h) e
    ∙ sym (job_goes 0 h h (map ticket_of rows) at)
    ∙ ap (out_from 0) (sym (tickets_quiet f none rows h))
    ∙ ap (out_from 0) (sym (given_map ticket_of (λ gift row. refl) gifts (change rows h f)))
    ∙ ap all_out (sym n)

-- a host that has a job to send has none that is out
sends_under : (ticket : Ticket) (running : Option Running) → option_map_or (λ (r : Running). is_none r.out) running false ≡ true → option_map_or out_of (option_map (sent_running ticket) running) None ≡ Some ticket
sends_under ticket None e = cc
sends_under ticket (Some r) e = refl

had_none : (running : Option Running) → option_map_or (λ (r : Running). is_none r.out) running false ≡ true → option_map_or out_of running None ≡ None
had_none None e = refl
had_none (Some r) e = of_out r.out e
  where
    of_out : (out : Option Ticket) → is_none out ≡ true → out ≡ None
    of_out None e = refl
    of_out (Some t) e = cc

tickets_sent : (ticket : Ticket) (rows : List HostOf) (h : ℕ) → at_row has_send rows h ≡ true → map ticket_of (change rows h (sent ticket)) ≡ slice_set (map ticket_of rows) h (Some ticket)
tickets_sent ticket [] h e = cc
tickets_sent ticket (row ∷ rows) zero e = ap (λ (o : Option Ticket). o ∷ map ticket_of rows) (sends_under ticket row.running e)
tickets_sent ticket (row ∷ rows) (suc h) e = rw (change_on row rows h (sent ticket)) (ap (λ (rest : List (Option Ticket)). ticket_of row ∷ rest) (tickets_sent ticket rows h e))

none_at : (rows : List HostOf) (h : ℕ) → at_row has_send rows h ≡ true → slice_get (map ticket_of rows) h ≡ Some None
none_at [] h e = cc
none_at (row ∷ rows) zero e = ap (λ (o : Option Ticket). Some o) (had_none row.running e)
none_at (row ∷ rows) (suc h) e = none_at rows h e

pub sent_order : (ticket : Ticket) (host : HostNo) (jobs column : List (HostNo × Ticket)) (rows new : List HostOf) → at_row has_send rows host.0 ≡ true → jobs ≡ all_out rows → new ≡ change rows host.0 (sent ticket)
    → column ≡ with_job (host, ticket) jobs → column ≡ all_out new
sent_order ticket host jobs column rows new w e n t =
    let at : host.0 ≡ 0 + host.0 = omega arith in
    t ∙ ap (with_job (host, ticket)) e
    ∙ sym (job_comes 0 host.0 host.0 ticket (map ticket_of rows) at (none_at rows host.0 w))
    ∙ ap (out_from 0) (sym (tickets_sent ticket rows host.0 w))
    ∙ ap all_out (sym n)

-- ---- as all rows change
pub left_order : (h : ℕ) (rows : List HostOf) → out_from h (map ticket_of (map left rows)) ≡ []
left_order h [] = refl
left_order h (row ∷ rows) = left_order (h + 1) rows

pub joined_order : (h : ℕ) (walks : List PlayWalkOf) (rows : List HostOf) → out_from h (map ticket_of (joined_by walks rows)) ≡ []
joined_order h walks [] = refl
joined_order h walks (row ∷ rows) = joined_order (h + 1) (walks_behind row.awaits_batch walks) rows

pub first_order : (h k n : ℕ) → out_from h (map ticket_of (first_rows k n)) ≡ []
first_order h k zero = refl
first_order h k (suc n) = first_order (h + 1) (k + 1) n

-- ---- what is read of them
-- the first of them is the oldest job
before_as : (p q : HostNo × Ticket) → p.0.0 ≤ q.0.0 → is_before p q ≡ nat_le p.1.0 q.1.0
before_as p q l = by_same (p.1.0 == q.1.0) refl
  where
    by_same : (b : Bool) → (p.1.0 == q.1.0) ≡ b → (if b then nat_le p.0.0 q.0.0 else nat_le p.1.0 q.1.0) ≡ nat_le p.1.0 q.1.0
    by_same true e = le-leb p.0.0 q.0.0 l ∙ sym (le-leb p.1.0 q.1.0 (let same = eqb-true p.1.0 q.1.0 e in omega (arith, same)))
    by_same false e = refl

first_with : (p : HostNo × Ticket) (jobs : List (HostNo × Ticket)) → AllFrom p.0.0 jobs → slice_get (with_job p jobs) 0 ≡ older (Some p) (slice_get jobs 0)
first_with p [] w = refl
first_with p (q ∷ jobs) w = ap (λ (b : Bool). slice_get (if b then p ∷ q ∷ jobs else q ∷ with_job p jobs) 0) (before_as p q w.0) ∙ by_order (nat_le p.1.0 q.1.0)
  where
    by_order : (b : Bool) → slice_get (if b then p ∷ q ∷ jobs else q ∷ with_job p jobs) 0 ≡ (if b then Some p else Some q)
    by_order true = refl
    by_order false = refl

first_from : (h : ℕ) (rows : List HostOf) → slice_get (out_from h (map ticket_of rows)) 0 ≡ oldest_from h rows
first_from h [] = refl
first_from h (row ∷ rows) = by_ticket (ticket_of row) (first_from (h + 1) rows)
  where
    by_ticket : (t : Option Ticket) → slice_get (out_from (h + 1) (map ticket_of rows)) 0 ≡ oldest_from (h + 1) rows
        → slice_get (with_ticket h t (out_from (h + 1) (map ticket_of rows))) 0 ≡ older (option_map {U = HostNo × Ticket} (λ (ticket : Ticket). (record { 0 = h }, ticket)) t) (oldest_from (h + 1) rows)
    by_ticket None rest = rest
    by_ticket (Some t) rest =
        first_with (record { 0 = h }, t) (out_from (h + 1) (map ticket_of rows)) (lower_from h (out_from (h + 1) (map ticket_of rows)) (out_all_from (h + 1) (map ticket_of rows)))
        ∙ ap (λ (found : Option (HostNo × Ticket)). older (Some (record { 0 = h }, t)) found) rest

pub oldest_first : (rows : List HostOf) → slice_get (all_out rows) 0 ≡ oldest_out rows
oldest_first rows = first_from 0 rows

-- there is one where a job is out
older_some : (a b : Option (HostNo × Ticket)) → is_some (older a b) ≡ (is_some a || is_some b)
older_some None b = refl
older_some (Some p) None = refl
older_some (Some p) (Some q) = by_order (nat_le p.1.0 q.1.0)
  where
    by_order : (b : Bool) → is_some (if b then Some p else Some q) ≡ true
    by_order true = refl
    by_order false = refl

row_some : (h : ℕ) (running : Option Running) → is_some (option_map {U = HostNo × Ticket} (λ (ticket : Ticket). (record { 0 = h }, ticket)) (option_map_or out_of running None)) ≡ option_map_or (λ (r : Running). is_some r.out) running false
row_some h None = refl
row_some h (Some r) = of_out r.out
  where
    of_out : (out : Option Ticket) → is_some (option_map {U = HostNo × Ticket} (λ (ticket : Ticket). (record { 0 = h }, ticket)) out) ≡ is_some out
    of_out None = refl
    of_out (Some t) = refl

some_from : (h : ℕ) (rows : List HostOf) → is_some (oldest_from h rows) ≡ list_any is_out rows
some_from h [] = refl
some_from h (row ∷ rows) =
    older_some (out_at h row) (oldest_from (h + 1) rows)
    ∙ ap (λ (b : Bool). b || is_some (oldest_from (h + 1) rows)) (row_some h row.running)
    ∙ ap (λ (b : Bool). is_out row || b) (some_from (h + 1) rows)

pub out_is_some : (rows : List HostOf) (found : Option (HostNo × Ticket)) → found ≡ oldest_out rows → is_some found ≡ list_any is_out rows
out_is_some rows found e = ap (λ (p : Option (HostNo × Ticket)). is_some p) e ∙ some_from 0 rows

-- and under a ticket where one is out under it
or_swap : (a b c : Bool) → (a || (b || c)) ≡ (b || (a || c))
or_swap true true c = refl
or_swap true false c = refl
or_swap false true c = refl
or_swap false false c = refl

under_with : (ticket : Ticket) (p : HostNo × Ticket) (jobs : List (HostNo × Ticket)) → list_any (is_under ticket) (with_job p jobs) ≡ (is_under ticket p || list_any (is_under ticket) jobs)
under_with ticket p [] = refl
under_with ticket p (q ∷ jobs) = by_order (is_before p q) (under_with ticket p jobs)
  where
    by_order : (b : Bool) → list_any (is_under ticket) (with_job p jobs) ≡ (is_under ticket p || list_any (is_under ticket) jobs)
        → list_any (is_under ticket) (if b then p ∷ q ∷ jobs else q ∷ with_job p jobs) ≡ (is_under ticket p || (is_under ticket q || list_any (is_under ticket) jobs))
    by_order true rest = refl
    by_order false rest = ap (λ (b : Bool). is_under ticket q || b) rest ∙ or_swap (is_under ticket q) (is_under ticket p) (list_any (is_under ticket) jobs)

under_from : (ticket : Ticket) (h : ℕ) (rows : List HostOf) → list_any (is_under ticket) (out_from h (map ticket_of rows)) ≡ list_any (has_ticket ticket) rows
under_from ticket h [] = refl
under_from ticket h (row ∷ rows) = by_running row.running (under_from ticket (h + 1) rows)
  where
    by_out : (out : Option Ticket) → list_any (is_under ticket) (out_from (h + 1) (map ticket_of rows)) ≡ list_any (has_ticket ticket) rows
        → list_any (is_under ticket) (with_ticket h out (out_from (h + 1) (map ticket_of rows))) ≡ (is_ticket ticket out || list_any (has_ticket ticket) rows)
    by_out None rest = rest
    by_out (Some t) rest =
        under_with ticket (record { 0 = h }, t) (out_from (h + 1) (map ticket_of rows))
        ∙ ap (λ (b : Bool). is_ticket ticket (Some t) || b) rest

    by_running : (running : Option Running) → list_any (is_under ticket) (out_from (h + 1) (map ticket_of rows)) ≡ list_any (has_ticket ticket) rows
        → list_any (is_under ticket) (with_ticket h (option_map_or out_of running None) (out_from (h + 1) (map ticket_of rows)))
        ≡ (option_map_or (λ (r : Running). is_ticket ticket r.out) running false || list_any (has_ticket ticket) rows)
    by_running None rest = rest
    by_running (Some r) rest = by_out r.out rest

pub under_out : (ticket : Ticket) (rows : List HostOf) → list_any (is_under ticket) (all_out rows) ≡ list_any (has_ticket ticket) rows
under_out ticket rows = under_from ticket 0 rows

-- ---- how a list of jobs is written
-- a place that is found is one of the list
pub found_below : {A : Type 0} (test : A → Bool) (xs : List A) (found : Option ℕ) → found ≡ position test xs → IfSome found (λ at. at < length xs)
found_below test xs found e = by_order (nat_lt (position_or_len test xs) (length xs)) refl found e
  where
    by_order : (b : Bool) → nat_lt (position_or_len test xs) (length xs) ≡ b → (at : Option ℕ) → at ≡ cond b (Some (position_or_len test xs)) None → IfSome at (λ k. k < length xs)
    by_order b l None f = tt
    by_order true l (Some k) f = let same : k ≡ position_or_len test xs = cc in let less = ltb-true (position_or_len test xs) (length xs) l in omega (arith, same, less)
    by_order false l (Some k) f = cc

abbrev put_at : HostNo × Ticket → List (HostNo × Ticket) → Option ℕ → List (HostNo × Ticket)
put_at p jobs None = jobs ++ p ∷ []
put_at p jobs (Some at) = insert jobs at p

put_on : (p q : HostNo × Ticket) (jobs : List (HostNo × Ticket)) (found : Option ℕ) → put_at p (q ∷ jobs) (option_map suc found) ≡ q ∷ put_at p jobs found
put_on p q jobs None = refl
put_on p q jobs (Some at) = refl

put_is : (p : HostNo × Ticket) (jobs : List (HostNo × Ticket)) → put_at p jobs (position (is_before p) jobs) ≡ with_job p jobs
put_is p [] = refl
put_is p (q ∷ jobs) = by_order (is_before p q) refl (put_is p jobs)
  where
    by_order : (here : Bool) → is_before p q ≡ here → put_at p jobs (position (is_before p) jobs) ≡ with_job p jobs
        → put_at p (q ∷ jobs) (position (is_before p) (q ∷ jobs)) ≡ (if here then p ∷ q ∷ jobs else q ∷ with_job p jobs)
    by_order true e rest = ap (put_at p (q ∷ jobs)) (position_here (is_before p) q jobs e)
    by_order false e rest =
        ap (put_at p (q ∷ jobs)) (position_on (is_before p) q jobs e) ∙ put_on p q jobs (position (is_before p) jobs)
        ∙ ap (λ (behind : List (HostNo × Ticket)). q ∷ behind) rest

pub put_there : (p : HostNo × Ticket) (jobs : List (HostNo × Ticket)) (at : ℕ) → position (is_before p) jobs ≡ Some at → insert jobs at p ≡ with_job p jobs
put_there p jobs at e = sym (ap (put_at p jobs) e) ∙ put_is p jobs

pub put_last : (p : HostNo × Ticket) (jobs : List (HostNo × Ticket)) → position (is_before p) jobs ≡ None → jobs ++ p ∷ [] ≡ with_job p jobs
put_last p jobs e = sym (ap (put_at p jobs) e) ∙ put_is p jobs

abbrev cut_at : List (HostNo × Ticket) → Option ℕ → List (HostNo × Ticket)
cut_at jobs None = jobs
cut_at jobs (Some at) = remove jobs at

cut_on : (q : HostNo × Ticket) (jobs : List (HostNo × Ticket)) (found : Option ℕ) → cut_at (q ∷ jobs) (option_map suc found) ≡ q ∷ cut_at jobs found
cut_on q jobs None = refl
cut_on q jobs (Some at) = refl

cut_is : (h : ℕ) (jobs : List (HostNo × Ticket)) → cut_at jobs (position (is_of h) jobs) ≡ without_job h jobs
cut_is h [] = refl
cut_is h (q ∷ jobs) = by_host (is_of h q) refl (cut_is h jobs)
  where
    by_host : (here : Bool) → is_of h q ≡ here → cut_at jobs (position (is_of h) jobs) ≡ without_job h jobs
        → cut_at (q ∷ jobs) (position (is_of h) (q ∷ jobs)) ≡ (if here then jobs else q ∷ without_job h jobs)
    by_host true e rest = ap (cut_at (q ∷ jobs)) (position_here (is_of h) q jobs e)
    by_host false e rest =
        ap (cut_at (q ∷ jobs)) (position_on (is_of h) q jobs e) ∙ cut_on q jobs (position (is_of h) jobs)
        ∙ ap (λ (behind : List (HostNo × Ticket)). q ∷ behind) rest

pub cut_there : (h : ℕ) (jobs : List (HostNo × Ticket)) (at : ℕ) → position (is_of h) jobs ≡ Some at → remove jobs at ≡ without_job h jobs
cut_there h jobs at e = sym (ap (cut_at jobs) e) ∙ cut_is h jobs

pub cut_none : (h : ℕ) (jobs : List (HostNo × Ticket)) → position (is_of h) jobs ≡ None → jobs ≡ without_job h jobs
cut_none h jobs e = sym (ap (cut_at jobs) e) ∙ cut_is h jobs
