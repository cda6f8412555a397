-- Where one host's variables are put anew into the map of all hosts' variables, it is the map that would be made.
use Rattle.std.proofs.Common.{◌≡◌, ◌≢◌, ℕ, zero, suc, ◌<◌, ◌≤◌, Bool, true, false, List, [], ◌∷◌, length, Ordering, Less, Equal, Greater, nat_cmp, refl, sym, ap, ◌∙◌, arith}
use Rattle.std.specs.Prelude.{Option, Some, None, ◌==◌}
use Rattle.std.specs.Cmp.Lexicographic.{slice_cmp}
use Rattle.std.specs.Ordering.{is_eq, match_ordering, ordering_reverse}
use Rattle.std.proofs.lemmas.Bool.{eqb-true, eqb-false}
use Rattle.std.proofs.lemmas.Cmp.{nat_list_cmp_total, tied_itself}
use Rattle.std.proofs.lemmas.Map.Text.{is_eq-slice_cmp}
use Rattle.std.proofs.lemmas.Slice.Eq.{bytes_eq-Decides}
use Rattle.pb_value.specs.Datum.{Datum, dict, put, members_of, entries_of}
use Rattle.pb_facts.specs.Book.{row_of}
use Rattle.pb_facts.specs.Facts.{FactsOf}
use Rattle.pb_inventory.specs.InventoryOf.{InventoryOf}
use Rattle.pb_inventory.specs.Vars.{host_name}
use Rattle.pb_variables.specs.Magic.{first_hosts, hostvars_map, hostvars, hosts_magic}
use Rattle.pb_variables.specs.Renewed.{LearnsAlone, value_of}
use Rattle.pb_variables.proofs.Named.{entries_back, of_hosts}

abbrev Map : Type 0
Map = List (List ℕ × Datum)

-- ---- the map in a value
pub same_map : (a b : Map) → dict (members_of a) ≡ dict (members_of b) → a ≡ b
same_map a b e =
    let members : members_of a ≡ members_of b = cc in
    sym (entries_back a) ∙ ap entries_of members ∙ entries_back b

-- ---- what stands last under a name
again_at : (k : List ℕ) (x y : Datum) (m : List ℕ × Datum) (ms : Map) (o : Ordering) → slice_cmp nat_cmp k m.0 ≡ o → put k x (put k y ms) ≡ put k x ms
    → put k x (match_ordering o ((k, y) ∷ m ∷ ms) ((m.0, y) ∷ ms) (m ∷ put k y ms)) ≡ match_ordering o ((k, x) ∷ m ∷ ms) ((m.0, x) ∷ ms) (m ∷ put k x ms)
again_at k x y m ms Less e h = rw (tied_itself nat_list_cmp_total k)
again_at k x y m ms Equal e h = rw e
again_at k x y m ms Greater e h = rw e (ap (λ (t : Map). m ∷ t) h)

pub put_again : (k : List ℕ) (x y : Datum) (ms : Map) → put k x (put k y ms) ≡ put k x ms
put_again k x y [] = rw (tied_itself nat_list_cmp_total k)
put_again k x y (m ∷ ms) = again_at k x y m ms (slice_cmp nat_cmp k m.0) refl (put_again k x y ms)

-- ---- how names stand to one another
back : (j k : List ℕ) (o : Ordering) → slice_cmp nat_cmp j k ≡ o → slice_cmp nat_cmp k j ≡ ordering_reverse o
back j k o e = nat_list_cmp_total.antisymm k j ∙ ap ordering_reverse e

between : (j m k : List ℕ) → slice_cmp nat_cmp j m ≡ Less → slice_cmp nat_cmp k m ≡ Greater → slice_cmp nat_cmp j k ≡ Less
between j m k e f = nat_list_cmp_total.trans j m k e (back k m Greater f)

-- ---- two names that differ
apart_at : (j k : List ℕ) (x y : Datum) (m : List ℕ × Datum) (ms : Map) (a b c : Ordering) → slice_cmp nat_cmp j k ≡ a → slice_cmp nat_cmp k m.0 ≡ b → slice_cmp nat_cmp j m.0 ≡ c → is_eq a ≡ false
    → put j y (put k x ms) ≡ put k x (put j y ms)
    → put j y (match_ordering b ((k, x) ∷ m ∷ ms) ((m.0, x) ∷ ms) (m ∷ put k x ms)) ≡ put k x (match_ordering c ((j, y) ∷ m ∷ ms) ((m.0, y) ∷ ms) (m ∷ put j y ms))
apart_at j k x y m ms Less Less Less ea eb ec n h = let kj = back j k Less ea in rw (ea, kj, eb)
apart_at j k x y m ms Equal Less Less ea eb ec n h = cc
apart_at j k x y m ms Greater Less Less ea eb ec n h = let kj = back j k Greater ea in rw (ea, kj, ec)
apart_at j k x y m ms a Less Equal ea eb ec n h = let jk : slice_cmp nat_cmp j k ≡ Greater = nat_list_cmp_total.congr j m.0 k ec ∙ back k m.0 Less eb in rw (jk, ec, eb)
apart_at j k x y m ms a Less Greater ea eb ec n h = let jk : slice_cmp nat_cmp j k ≡ Greater = back k j Less (between k m.0 j eb ec) in rw (jk, ec, eb)
apart_at j k x y m ms a Equal Less ea eb ec n h = let kj : slice_cmp nat_cmp k j ≡ Greater = nat_list_cmp_total.congr k m.0 j eb ∙ back j m.0 Less ec in rw (kj, ec, eb)
apart_at j k x y m ms a Equal Equal ea eb ec n h = let jk : slice_cmp nat_cmp j k ≡ Equal = nat_list_cmp_total.congr j m.0 k ec ∙ back k m.0 Equal eb in cc
apart_at j k x y m ms a Equal Greater ea eb ec n h = rw (ec, eb)
apart_at j k x y m ms a Greater Less ea eb ec n h = let kj : slice_cmp nat_cmp k j ≡ Greater = back j k Less (between j m.0 k ec eb) in rw (kj, ec, eb)
apart_at j k x y m ms a Greater Equal ea eb ec n h = rw (ec, eb)
apart_at j k x y m ms a Greater Greater ea eb ec n h = rw (ec, eb) (ap (λ (t : Map). m ∷ t) h)

pub put_apart : (j k : List ℕ) (x y : Datum) (ms : Map) → is_eq (slice_cmp nat_cmp j k) ≡ false → put j y (put k x ms) ≡ put k x (put j y ms)
put_apart j k x y [] n = apart_none (slice_cmp nat_cmp j k) refl n
  where
    apart_none : (a : Ordering) → slice_cmp nat_cmp j k ≡ a → is_eq a ≡ false → put j y ((k, x) ∷ []) ≡ put k x ((j, y) ∷ [])
    apart_none Less ea n = let kj = back j k Less ea in rw (ea, kj)
    apart_none Equal ea n = cc
    apart_none Greater ea n = let kj = back j k Greater ea in rw (ea, kj)
put_apart j k x y (m ∷ ms) n = apart_at j k x y m ms (slice_cmp nat_cmp j k) (slice_cmp nat_cmp k m.0) (slice_cmp nat_cmp j m.0) refl refl refl n (put_apart j k x y ms n)

-- ---- how many names there are
longer_at : (k : List ℕ) (x : Datum) (m : List ℕ × Datum) (ms new : Map) (o : Ordering) → length new ≤ suc (length ms)
    → length (match_ordering o ((k, x) ∷ m ∷ ms) ((m.0, x) ∷ ms) (m ∷ new)) ≤ suc (length (m ∷ ms))
longer_at k x m ms new Less h = omega arith
longer_at k x m ms new Equal h = omega arith
longer_at k x m ms new Greater h = omega (arith, h)

put_longer : (k : List ℕ) (x : Datum) (ms : Map) → length (put k x ms) ≤ suc (length ms)
put_longer k x [] = omega arith
put_longer k x (m ∷ ms) = longer_at k x m ms (put k x ms) (slice_cmp nat_cmp k m.0) (put_longer k x ms)

long_at : (k : List ℕ) (x y : Datum) (m : List ℕ × Datum) (ms new other : Map) (o : Ordering) → length new ≡ length other
    → length (match_ordering o ((k, x) ∷ m ∷ ms) ((m.0, x) ∷ ms) (m ∷ new)) ≡ length (match_ordering o ((k, y) ∷ m ∷ ms) ((m.0, y) ∷ ms) (m ∷ other))
long_at k x y m ms new other Less h = refl
long_at k x y m ms new other Equal h = refl
long_at k x y m ms new other Greater h = ap suc h

same_long : (k : List ℕ) (x y : Datum) (ms : Map) → length (put k x ms) ≡ length (put k y ms)
same_long k x y [] = refl
same_long k x y (m ∷ ms) = long_at k x y m ms (put k x ms) (put k y ms) (slice_cmp nat_cmp k m.0) (same_long k x y ms)

-- a name that is there already is no new one
there_long : (k : List ℕ) (x y : Datum) (ms old : Map) → old ≡ put k y ms → length (put k x old) ≡ length old
there_long k x y ms old is =
    ap (λ (o : Map). length (put k x o)) is ∙ ap length (put_again k x y ms) ∙ same_long k x y ms ∙ sym (ap length is)

most_hosts : (inventory : InventoryOf) (extra : Map) (learnt : List FactsOf) (n : ℕ) → length (first_hosts inventory extra learnt n) ≤ n
most_hosts inventory extra learnt zero = omega arith
most_hosts inventory extra learnt (suc n) =
    let added = put_longer (host_name inventory n) (value_of inventory extra (row_of learnt n) n) (first_hosts inventory extra learnt n) in
    let most = most_hosts inventory extra learnt n in
    omega (arith, added, most)

-- ---- the hosts one after another
-- of hosts before the one that learns the variables are the same
pub before_it : (inventory : InventoryOf) (extra : Map) (before now : List FactsOf) (host n : ℕ) → LearnsAlone host before now → n ≤ host → first_hosts inventory extra now n ≡ first_hosts inventory extra before n
before_it inventory extra before now host zero alone le = refl
before_it inventory extra before now host (suc n) alone le =
    let other : n ≢ host = λ e. omega (arith, e, le) in
    ap (λ (facts : FactsOf). put (host_name inventory n) (value_of inventory extra facts n) (first_hosts inventory extra now n)) (alone n other)
    ∙ ap (put (host_name inventory n) (value_of inventory extra (row_of before n) n)) (before_it inventory extra before now host n alone (omega (arith, le)))

-- a name that isn't counted twice is another one
other_name : (inventory : InventoryOf) (extra : Map) (learnt : List FactsOf) (host n : ℕ) (ms : Map) (b : Bool) → is_eq (slice_cmp nat_cmp (host_name inventory n) (host_name inventory host)) ≡ b
    → length (first_hosts inventory extra learnt (suc n)) ≡ suc n → first_hosts inventory extra learnt n ≡ put (host_name inventory host) (value_of inventory extra (row_of learnt host) host) ms → b ≡ false
other_name inventory extra learnt host n ms false e long is = refl
other_name inventory extra learnt host n ms true e long is =
    let same : host_name inventory n ≡ host_name inventory host = (bytes_eq-Decides (host_name inventory n) (host_name inventory host)).0 (sym (is_eq-slice_cmp (host_name inventory n) (host_name inventory host)) ∙ e) in
    let value = value_of inventory extra (row_of learnt n) n in
    let first = first_hosts inventory extra learnt n in
    let shorter : length (put (host_name inventory n) value first) ≡ length first =
    ap (λ (name : List ℕ). length (put name value first)) same ∙ there_long (host_name inventory host) value (value_of inventory extra (row_of learnt host) host) ms first is in
    let most = most_hosts inventory extra learnt n in
    absurd (omega (arith, shorter, long, most))

pub renewed_first : (inventory : InventoryOf) (extra : Map) (before now : List FactsOf) (host n : ℕ) → LearnsAlone host before now → host < n → length (first_hosts inventory extra before n) ≡ n
    → first_hosts inventory extra now n ≡ put (host_name inventory host) (value_of inventory extra (row_of now host) host) (first_hosts inventory extra before n)
renewed_first inventory extra before now host zero alone lt long = absurd (omega (arith, lt))
renewed_first inventory extra before now host (suc n) alone lt long =
    by_number (host == n) refl (renewed_first inventory extra before now host n alone) (renewed_first inventory extra before before host n (λ other differs. refl))
  where
    by_number : (b : Bool) → (host == n) ≡ b
        → (host < n → length (first_hosts inventory extra before n) ≡ n → first_hosts inventory extra now n ≡ put (host_name inventory host) (value_of inventory extra (row_of now host) host) (first_hosts inventory extra before n))
        → (host < n → length (first_hosts inventory extra before n) ≡ n → first_hosts inventory extra before n ≡ put (host_name inventory host) (value_of inventory extra (row_of before host) host) (first_hosts inventory extra before n))
        → first_hosts inventory extra now (suc n) ≡ put (host_name inventory host) (value_of inventory extra (row_of now host) host) (first_hosts inventory extra before (suc n))
    by_number true e rest own =
        let is : host ≡ n = eqb-true host n e in
        ap (put (host_name inventory n) (value_of inventory extra (row_of now n) n)) (before_it inventory extra before now host n alone (omega (arith, is)))
        ∙ sym (put_again (host_name inventory n) (value_of inventory extra (row_of now n) n) (value_of inventory extra (row_of before n) n) (first_hosts inventory extra before n))
        ∙ ap (λ (h : ℕ). put (host_name inventory h) (value_of inventory extra (row_of now h) h) (first_hosts inventory extra before (suc n))) (sym is)
    by_number false e rest own =
        let differs : host ≢ n = eqb-false host n e in
        let below : host < n = omega (arith, differs, lt) in
        let added = put_longer (host_name inventory n) (value_of inventory extra (row_of before n) n) (first_hosts inventory extra before n) in
        let most = most_hosts inventory extra before n in
        let longest : length (first_hosts inventory extra before n) ≡ n = omega (arith, long, added, most) in
        let names = other_name inventory extra before host n (first_hosts inventory extra before n) (is_eq (slice_cmp nat_cmp (host_name inventory n) (host_name inventory host))) refl long (own below longest) in
        ap (put (host_name inventory n) (value_of inventory extra (row_of now n) n)) (rest below longest)
        ∙ ap (λ (facts : FactsOf). put (host_name inventory n) (value_of inventory extra facts n) (put (host_name inventory host) (value_of inventory extra (row_of now host) host) (first_hosts inventory extra before n))) (alone n (λ is. differs (sym is)))
        ∙ put_apart (host_name inventory n) (host_name inventory host) (value_of inventory extra (row_of now host) host) (value_of inventory extra (row_of before n) n) (first_hosts inventory extra before n) names

-- ---- the map of all hosts
pub map_anew : (inventory : InventoryOf) (extra : Map) (facts : FactsOf) (host : ℕ) (known new : Map) → host < length inventory.hosts → length known ≡ length inventory.hosts
    → new ≡ put (host_name inventory host) (value_of inventory extra facts host) known → (hosts : Map) → hosts ≡ hosts_magic (dict (members_of new))
    → (before now : List FactsOf) → LearnsAlone host before now → facts ≡ row_of now host → known ≡ hostvars_map inventory extra before → hosts ≡ hosts_magic (hostvars inventory extra now)
map_anew inventory extra facts host known new lt long is hosts made before now alone learnt old =
    let whole = renewed_first inventory extra before now host (length inventory.hosts) alone lt (ap length (sym old) ∙ long) in
    made
    ∙ ap (λ (map : Map). hosts_magic (dict (members_of map)))
    (is ∙ ap (λ (f : FactsOf). put (host_name inventory host) (value_of inventory extra f host) known) learnt
    ∙ ap (put (host_name inventory host) (value_of inventory extra (row_of now host) host)) old ∙ sym whole)
    ∙ sym (ap hosts_magic (of_hosts inventory extra now))

-- a number that is no host's is nothing to it
pub no_host : (inventory : InventoryOf) (extra : Map) (host : ℕ) (hosts : Map) → length inventory.hosts ≤ host
    → (before now : List FactsOf) → LearnsAlone host before now → hosts ≡ hosts_magic (hostvars inventory extra before) → hosts ≡ hosts_magic (hostvars inventory extra now)
no_host inventory extra host hosts le before now alone old =
    old ∙ ap hosts_magic (of_hosts inventory extra before)
    ∙ ap (λ (map : Map). hosts_magic (dict (members_of map))) (sym (before_it inventory extra before now host (length inventory.hosts) alone le))
    ∙ sym (ap hosts_magic (of_hosts inventory extra now))

-- what is found in the magic variable is the map
pub some_is : (a b : Map) (found : Option Map) → found ≡ Some a → found ≡ Some b → a ≡ b
some_is a b found e f = cc

abbrev pub Finds : Map → Option Map → Type 0
Finds hosts found = (known : Map) → hosts ≡ hosts_magic (dict (members_of known)) → found ≡ Some known

pub found_map : (inventory : InventoryOf) (extra : Map) (before : List FactsOf) (hosts : Map) (found : Option Map) → Finds hosts found → hosts ≡ hosts_magic (hostvars inventory extra before)
    → found ≡ Some (hostvars_map inventory extra before)
found_map inventory extra before hosts found finds old = finds (hostvars_map inventory extra before) (old ∙ ap hosts_magic (of_hosts inventory extra before))

pub none_some : (a : Map) (found : Option Map) → found ≡ None → found ≡ Some a → ⊥
none_some a found e f = cc

pub found_none : (inventory : InventoryOf) (extra : Map) (hosts : Map) (found : Option Map) → Finds hosts found → found ≡ None
    → (before : List FactsOf) → hosts ≡ hosts_magic (hostvars inventory extra before) → length (hostvars_map inventory extra before) ≢ length inventory.hosts
found_none inventory extra hosts found finds is = λ before old. absurd (none_some (hostvars_map inventory extra before) found is (found_map inventory extra before hosts found finds old))
