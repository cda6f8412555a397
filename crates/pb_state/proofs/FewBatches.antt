-- How many batches a play has.
use Rattle.std.proofs.Common.{◌≡◌, ℕ, zero, suc, ◌-◌, ◌<◌, ◌≤◌, Bool, List, length, ap, arith}
use Rattle.std.specs.Prelude.{None, slice_get}
use Rattle.pb_batches.specs.declared.serial.Entry.{Entry}
use Rattle.pb_batches.specs.Sizes.{first_size, entries_behind, sizes_from, batch_sizes}
use Rattle.pb_hosts.specs.Batches.{play_host_count}
use Rattle.pb_host.specs.Host.{HostOf}
use Rattle.pb_hosts.proofs.Batching.{few_play_hosts}

-- there are as many batches as hosts at most
few_from : (most n left : ℕ) (entries : List Entry) → length (sizes_from most n left entries) ≤ most
few_from zero n left entries = omega arith
few_from (suc most) n zero entries = omega arith
few_from (suc most) n (suc left) entries =
    let rest = few_from most n (suc left - first_size n (suc left) entries) (entries_behind entries) in
    omega (arith, rest)

pub few_batches : (entries : List Entry) (n : ℕ) → length (batch_sizes entries n) ≤ n
few_batches entries n = few_from n n n entries

pub few_sizes : (sizes : List ℕ) (entries : List Entry) (hosts : List Bool) (rows : List HostOf) (n : ℕ) → sizes ≡ batch_sizes entries n → n ≡ play_host_count hosts rows → length rows ≤ 1048576 → length sizes ≤ 1048576
few_sizes sizes entries hosts rows n s c most =
    let same : length sizes ≡ length (batch_sizes entries n) = ap length s in
    omega (arith, same, few_batches entries n, c, few_play_hosts hosts rows, most)

-- and some where there are hosts
pub some_batch : (entries : List Entry) (n : ℕ) → 0 < n → slice_get (batch_sizes entries n) 0 ≡ None → ⊥
some_batch entries zero l e = omega (arith, l)
some_batch entries (suc n) l e = cc
