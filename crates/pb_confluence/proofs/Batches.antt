-- How many hosts still wait for a batch of the play that goes on: as many as the batches that are left have room for.
use Rattle.std.proofs.Common.{◌≡◌, ℕ, zero, suc, ◌+◌, ◌-◌, ◌≤◌, Bool, true, false, ◌&&◌, not, cond, List, [], ◌∷◌, map, refl, sym, ◌∙◌, ap, subst, arith}
use Rattle.std.specs.Prelude.{nat_lt, Some, slice_get}
use Rattle.std.specs.List.{sum}
use Rattle.std.proofs.lemmas.Bool.{lt-ltb}
use Rattle.std.proofs.lemmas.List.Sums.{sum_by-cons}
use Rattle.pb_batches.specs.declared.serial.Entry.{Entry}
use Rattle.pb_batches.specs.Sizes.{batch_sizes}
use Rattle.pb_batches.proofs.Batched.{all_add_up}
use Rattle.pb_tree.specs.Tree.{TreeOf}
use Rattle.pb_hosts.specs.Batches.{play_host_count, joins, room_behind, joined_first}
use Rattle.pb_hosts.specs.Hosts.{change}
use Rattle.pb_hosts.proofs.Giving.{change_on}
use Rattle.pb_host.specs.Host.{HostOf, is_play_host, as_play_begins, left}

abbrev pub total : List ℕ → ℕ
total [] = 0
total (size ∷ sizes) = size + total sizes

-- one more where it counts
abbrev pub plus : Bool → ℕ → ℕ
plus true n = suc n
plus false n = n

-- the hosts that wait, and those of them that aren't in the batch
abbrev pub waits_count : List HostOf → ℕ
waits_count [] = 0
waits_count (row ∷ rows) = plus row.awaits_batch (waits_count rows)

abbrev pub waiting : List HostOf → ℕ
waiting [] = 0
waiting (row ∷ rows) = plus (row.awaits_batch && not row.in_batch) (waiting rows)

pub left_count : (rows : List HostOf) → waits_count (map left rows) ≡ waiting rows
left_count [] = refl
left_count (row ∷ rows) = ap (plus (row.awaits_batch && not row.in_batch)) (left_count rows)

-- a batch takes as many as it has room for
with_room : (b : Bool) (room : ℕ) (rest : ℕ → ℕ) (all : ℕ) → ((r : ℕ) → r ≤ all → rest r + r ≡ all) → room ≤ plus b all → plus (b && not (joins room b)) (rest (room_behind room b)) + room ≡ plus b all
with_room true zero rest all on h = let more = on 0 (omega arith) in omega (arith, more)
with_room true (suc room) rest all on h =
    let more = on (suc room - 1) (omega (arith, h)) in
    let some : nat_lt 0 (suc room) ≡ true = lt-ltb 0 (suc room) (omega arith) in
    rw some (omega (arith, more))
with_room false room rest all on h = on room h

pub joined_count : (tree : TreeOf) (rows : List HostOf) (room : ℕ) → room ≤ waits_count rows → waiting (joined_first tree room rows) + room ≡ waits_count rows
joined_count tree [] room h = omega (arith, h)
joined_count tree (row ∷ rows) room h = with_room row.awaits_batch room (λ r. waiting (joined_first tree r rows)) (waits_count rows) (λ r less. joined_count tree rows r less) h

plus_cond : (b : Bool) (n : ℕ) → plus b n ≡ cond b 1 0 + n
plus_cond true n = omega arith
plus_cond false n = omega arith

pub called_waits : (hosts : List Bool) (rows : List HostOf) → waits_count (map (as_play_begins hosts) rows) ≡ play_host_count hosts rows
called_waits hosts [] = refl
called_waits hosts (row ∷ rows) =
    ap (plus (is_play_host hosts row)) (called_waits hosts rows) ∙ plus_cond (is_play_host hosts row) (play_host_count hosts rows) ∙ sym (sum_by-cons (λ (r : HostOf). cond (is_play_host hosts r) 1 0) row rows)

total_sum : (sizes : List ℕ) → total sizes ≡ sum sizes
total_sum [] = refl
total_sum (size ∷ sizes) = ap (λ (n : ℕ). size + n) (total_sum sizes) ∙ sym (sum_by-cons (λ (x : ℕ). x) size sizes)

pub sizes_total : (entries : List Entry) (n : ℕ) → total (batch_sizes entries n) ≡ n
sizes_total entries n = total_sum (batch_sizes entries n) ∙ all_add_up n entries (batch_sizes entries n) refl

-- an event of one host changes none of this
abbrev pub SameWait : HostOf → HostOf → Type 0
SameWait row new = (new.awaits_batch ≡ row.awaits_batch) × (new.in_batch ≡ row.in_batch)

pub waiting_changed : (c : HostOf → HostOf) (rows : List HostOf) (h : ℕ) → ((row : HostOf) → SameWait row (c row)) → waiting (change rows h c) ≡ waiting rows
waiting_changed c [] h on = refl
waiting_changed c (row ∷ rows) zero on =
    ap (λ (b : Bool). plus (b && not (c row).in_batch) (waiting rows)) (on row).0 ∙ ap (λ (b : Bool). plus (row.awaits_batch && not b) (waiting rows)) (on row).1
waiting_changed c (row ∷ rows) (suc h) on = ap waiting (change_on row rows h c) ∙ ap (plus (row.awaits_batch && not row.in_batch)) (waiting_changed c rows h on)

-- where no batch is left nobody waits outside of the batch
plus_none : (b : Bool) (n : ℕ) → plus b n ≡ 0 → (b ≡ false) × (n ≡ 0)
plus_none true n e = absurd (omega (arith, e))
plus_none false n e = (refl, e)

pub none_waits : (rows : List HostOf) (h : ℕ) (row : HostOf) → waiting rows ≡ 0 → slice_get rows h ≡ Some row → (row.awaits_batch && not row.in_batch) ≡ false
none_waits [] h row e there = cc
none_waits (first ∷ rows) zero row e there =
    let same : first ≡ row = cc in subst (λ (r : HostOf). (r.awaits_batch && not r.in_batch) ≡ false) same (plus_none (first.awaits_batch && not first.in_batch) (waiting rows) e).0
none_waits (first ∷ rows) (suc h) row e there = none_waits rows h row (plus_none (first.awaits_batch && not first.in_batch) (waiting rows) e).1 there
