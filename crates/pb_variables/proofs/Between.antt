-- Where a host's variables follow what it learnt, the map of all hosts' variables is the one that would be made.
use Rattle.std.proofs.Common.{◌≡◌, ◌≢◌, ℕ, ◌<◌, ◌≤◌, Bool, true, false, List, [], ◌∷◌, ◌++◌, length, refl, sym, ap, subst, ◌∙◌, arith, String, Global, Vec, string_bytes}
use Rattle.std.specs.Prelude.{Option, Some, None, IfSome, ◌==◌, codes}
use Rattle.std.proofs.lemmas.Bool.{eqb-true, eqb-false}
use Rattle.pb_value.specs.Datum.{Datum, null, dict, put, members_of, named, value_at}
use Rattle.pb_value.proofs.Puts.{value_at-put}
use Rattle.pb_layers.specs.Scope.{Map}
use Rattle.pb_facts.specs.Book.{row_of}
use Rattle.pb_facts.specs.Facts.{FactsOf, gathered_layer, known_of}
use Rattle.pb_facts.specs.Update.{IsBetween}
use Rattle.pb_facts.specs.declared.update.FactsUndo.{FactsUndo}
use Rattle.pb_facts.specs.declared.update.FactsUndo.TheVariants.{Nothing, Stood, Gathered}
use Rattle.pb_inventory.specs.InventoryOf.{InventoryOf}
use Rattle.pb_inventory.specs.Vars.{host_name, vars_from_groups, vars_of_host}
use Rattle.pb_variables.specs.Between.{put_name, put_names, put_fact, put_facts, with_all, follows}
use Rattle.pb_variables.specs.Magic.{hostvars_map, hostvars, hosts_magic}
use Rattle.pb_variables.specs.Renewed.{LearnsAlone, IsRenewedMap, IsRenewedBetween, value_of}
use Rattle.pb_variables.proofs.Gathered.{known_follows}
use Rattle.pb_variables.proofs.Puts.{never_both}
use Rattle.pb_variables.proofs.Renewing.{put_again, renewed_first, map_anew, no_host, some_is, Finds, found_map, none_some}

-- ---- one name more
pub name_step : (extra set : Map) (all rest : List (String Global × Option Datum)) (e : String Global × Option Datum) (name : List ℕ) (known new whole : Map) → all ≡ e ∷ rest → string_bytes e.0 ≡ name
    → new ≡ put_name extra set name known → put_names extra set (named all) known ≡ whole → put_names extra set (named rest) new ≡ whole
name_step extra set all rest e name known new whole a n is w =
    ap (put_names extra set (named rest)) (is ∙ ap (λ (k : List ℕ). put_name extra set k known) (sym n))
    ∙ subst (λ (es : List (String Global × Option Datum)). put_names extra set (named es) known ≡ whole) a w

pub fact_step : (extra set layer : Map) (all rest : List (String Global × Option Datum)) (e : String Global × Option Datum) (name : List ℕ) (known new whole : Map) → all ≡ e ∷ rest → string_bytes e.0 ≡ name
    → new ≡ put_fact extra set layer name known → put_facts extra set layer (named all) known ≡ whole → put_facts extra set layer (named rest) new ≡ whole
fact_step extra set layer all rest e name known new whole a n is w =
    ap (put_facts extra set layer (named rest)) (is ∙ ap (λ (k : List ℕ). put_fact extra set layer k known) (sym n))
    ∙ subst (λ (es : List (String Global × Option Datum)). put_facts extra set layer (named es) known ≡ whole) a w

-- ---- all that a host learnt
pub nothing_follows : (extra : Map) (facts : FactsOf) (past : FactsUndo) (known : Map) → past ≡ Nothing → known ≡ follows extra facts past known
nothing_follows extra facts past known is = ap (λ (q : FactsUndo). follows extra facts q known) (sym is)

pub stood_follows : (extra set : Map) (facts : FactsOf) (past : FactsUndo) (log : Vec (String Global × Option Datum) Global) (items : List (String Global × Option Datum)) (known new : Map) → past ≡ Stood log → items ≡ log.items
    → set ≡ facts.set → new ≡ put_names extra set (named items) known → new ≡ follows extra facts past known
stood_follows extra set facts past log items known new is same layer came =
    came ∙ ap (λ (m : Map). put_names extra m (named items) known) layer ∙ ap (λ (es : List (String Global × Option Datum)). put_names extra facts.set (named es) known) same
    ∙ ap (λ (q : FactsUndo). follows extra facts q known) (sym is)

-- one fact more
facts_end : (extra set layer : Map) (log : List (List ℕ × Option Datum)) (name : List ℕ) (known : Map)
    → put_fact extra set layer name (put_facts extra set layer log known) ≡ put_facts extra set layer (log ++ (name, None) ∷ []) known
facts_end extra set layer [] name known = refl
facts_end extra set layer (e ∷ log) name known = facts_end extra set layer log name (put_fact extra set layer e.0 known)

pub gathered_follows : (extra set : Map) (facts : FactsOf) (past : FactsUndo) (stood given : Vec (String Global × Option Datum) Global) (layer : Option Map) (items entries : List (String Global × Option Datum)) (known first each last : Map)
    → past ≡ Gathered stood given layer → items ≡ stood.items → entries ≡ given.items → set ≡ facts.set → first ≡ put_names extra set (named items) known
    → each ≡ put_facts extra facts.set (gathered_layer facts.gathered) (named entries) first → last ≡ put_fact extra facts.set (gathered_layer facts.gathered) (codes "ansible_facts") each → last ≡ follows extra facts past known
gathered_follows extra set facts past stood given layer items entries known first each last is same others lies came more all =
    let under = put_facts extra facts.set (gathered_layer facts.gathered) in
    let one = put_fact extra facts.set (gathered_layer facts.gathered) (codes "ansible_facts") in
    all ∙ ap one (more ∙ ap (λ (es : List (String Global × Option Datum)). under (named es) first) others)
    ∙ facts_end extra facts.set (gathered_layer facts.gathered) (named given.items) (codes "ansible_facts") first
    ∙ ap
    (under (with_all (named given.items)))
    (came ∙ ap (λ (m : Map). put_names extra m (named items) known) lies ∙ ap (λ (es : List (String Global × Option Datum)). put_names extra facts.set (named es) known) same)
    ∙ ap (λ (q : FactsUndo). follows extra facts q known) (sym is)

-- ---- the map that is taken out
abbrev pub IsTaken : List ℕ → Map → Option Map → Type 0
IsTaken name known found = (members : Map) → value_at name known ≡ Some (dict (members_of members)) → found ≡ Some members

pub some_taken : (name copy : List ℕ) (known : Map) (before : Option Datum) (value : Datum) (found : Option Map) → copy ≡ name → before ≡ value_at copy known → before ≡ Some value
    → ((ms : Map) → value ≡ dict (members_of ms) → found ≡ Some ms) → IsTaken name known found
some_taken name copy known before value found e b is finds =
    λ members at.
    let whole : Some value ≡ Some (dict (members_of members)) = sym is ∙ b ∙ ap (λ (bytes : List ℕ). value_at bytes known) e ∙ at in
    let same : value ≡ dict (members_of members) = cc in
    finds members same

pub none_taken : (name copy : List ℕ) (known : Map) (before : Option Datum) (found : Option Map) → copy ≡ name → before ≡ value_at copy known → before ≡ None → IsTaken name known found
none_taken name copy known before found e b is =
    λ members at. absurd (never_both before (dict (members_of members)) is (b ∙ ap (λ (bytes : List ℕ). value_at bytes known) e ∙ at))

-- ---- the host's variables in the map, before and after
was_there : (inventory : InventoryOf) (extra : Map) (before : List FactsOf) (host : ℕ) (known : Map) → host < length inventory.hosts → length known ≡ length inventory.hosts → known ≡ hostvars_map inventory extra before
    → value_at (host_name inventory host) known ≡ Some (value_of inventory extra (row_of before host) host)
was_there inventory extra before host known lt long old =
    ap (λ (map : Map). value_at (host_name inventory host) map) (old ∙ renewed_first inventory extra before before host (length inventory.hosts) (λ other differs. refl) lt (ap length (sym old) ∙ long))
    ∙ value_at-put (host_name inventory host) (value_of inventory extra (row_of before host) host) (hostvars_map inventory extra before)

pub map_follows : (inventory : InventoryOf) (extra : Map) (past : FactsUndo) (facts : FactsOf) (host : ℕ) (name : List ℕ) (known left variables after new : Map) (found : Option Map) → host < length inventory.hosts
    → length known ≡ length inventory.hosts → name ≡ host_name inventory host → IsTaken name known found → found ≡ Some variables → left ≡ put name null known → after ≡ follows extra facts past variables
    → new ≡ put name (dict (members_of after)) left → (hosts : Map) → hosts ≡ hosts_magic (dict (members_of new)) → IsRenewedMap inventory extra past facts host known hosts
map_follows inventory extra past facts host name known left variables after new found lt long is taken some without came put_back hosts made =
    λ before now alone learnt between old.
    let groups = vars_from_groups inventory host in
    let own = vars_of_host inventory host in
    let was = known_of groups own (row_of before host) extra in
    let stood : variables ≡ was = some_is variables was found some (taken was (ap (λ (n : List ℕ). value_at n known) is ∙ was_there inventory extra before host known lt long old)) in
    let value : after ≡ known_of groups own facts extra = came ∙ ap (follows extra facts past) stood ∙ known_follows groups own extra (row_of before host) facts past between in
    map_anew inventory extra facts host known new lt long
    (put_back ∙ ap (put name (dict (members_of after))) without ∙ put_again name (dict (members_of after)) null known ∙ ap (λ (ms : Map). put name (dict (members_of ms)) known) value
    ∙ ap (λ (n : List ℕ). put n (value_of inventory extra facts host) known) is)
    hosts made before now alone learnt old

pub map_has : (inventory : InventoryOf) (extra : Map) (host : ℕ) (name : List ℕ) (known : Map) (found : Option Map) → host < length inventory.hosts → length known ≡ length inventory.hosts → name ≡ host_name inventory host
    → IsTaken name known found → found ≡ None → (before : List FactsOf) → known ≡ hostvars_map inventory extra before → ⊥
map_has inventory extra host name known found lt long is taken none before old =
    let was = known_of (vars_from_groups inventory host) (vars_of_host inventory host) (row_of before host) extra in
    none_some was found none (taken was (ap (λ (n : List ℕ). value_at n known) is ∙ was_there inventory extra before host known lt long old))

-- ---- the same of the magic variable
pub no_host_between : (inventory : InventoryOf) (extra : Map) (past : FactsUndo) (facts : FactsOf) (host : ℕ) (hosts : Map) → length inventory.hosts ≤ host → IsRenewedBetween inventory extra past facts host hosts hosts
no_host_between inventory extra past facts host hosts le = λ before now alone learnt between old. no_host inventory extra host hosts le before now alone old

pub kept_between : (inventory : InventoryOf) (extra : Map) (past : FactsUndo) (facts : FactsOf) (host : ℕ) (hosts known : Map) (found : Option Map) → Finds hosts found → found ≡ Some known
    → (kept : Option Map) → IfSome kept (IsRenewedMap inventory extra past facts host known) → IfSome kept (IsRenewedBetween inventory extra past facts host hosts)
kept_between inventory extra past facts host hosts known found finds is None anew = tt
kept_between inventory extra past facts host hosts known found finds is (Some new) anew =
    λ before now alone learnt between old.
    anew before now alone learnt between (some_is known (hostvars_map inventory extra before) found is (found_map inventory extra before hosts found finds old))

pub twice_between : (inventory : InventoryOf) (extra : Map) (hosts known : Map) (found : Option Map) → Finds hosts found → found ≡ Some known
    → ((before : List FactsOf) → known ≡ hostvars_map inventory extra before → length known ≢ length inventory.hosts)
    → (before : List FactsOf) → hosts ≡ hosts_magic (hostvars inventory extra before) → length (hostvars_map inventory extra before) ≢ length inventory.hosts
twice_between inventory extra hosts known found finds is twice =
    λ before old long.
    let same : known ≡ hostvars_map inventory extra before = some_is known (hostvars_map inventory extra before) found is (found_map inventory extra before hosts found finds old) in
    twice before same (ap length same ∙ long)

-- ---- nobody has learnt anything
same_row : (before now : List FactsOf) (host other : ℕ) → LearnsAlone host before now → row_of now host ≡ row_of before host → row_of now other ≡ row_of before other
same_row before now host other alone here = by_number (other == host) refl
  where
    by_number : (b : Bool) → (other == host) ≡ b → row_of now other ≡ row_of before other
    by_number true e =
        let is : other ≡ host = eqb-true other host e in
        ap (row_of now) is ∙ here ∙ sym (ap (row_of before) is)
    by_number false e = alone other (eqb-false other host e)

pub nothing_between : (inventory : InventoryOf) (extra : Map) (past : FactsUndo) (facts : FactsOf) (host : ℕ) (hosts : Map) → past ≡ Nothing → IsRenewedBetween inventory extra past facts host hosts hosts
nothing_between inventory extra past facts host hosts is =
    λ before now alone learnt between old.
    let same : row_of before host ≡ facts = subst (λ (q : FactsUndo). IsBetween q (row_of before host) facts) is between in
    let end = length inventory.hosts in
    no_host inventory extra end hosts (omega arith) before now (λ other differs. same_row before now host other alone (sym learnt ∙ sym same)) old
