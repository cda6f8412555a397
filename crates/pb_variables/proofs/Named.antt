-- What stands under a name after values were put one after another.
use Rattle.std.specs.Prelude.{Option, Some, None, option_map, codes}
use Rattle.std.specs.Option.{option_or}
use Rattle.std.specs.Str.{bytes_eq}
use Rattle.std.proofs.Common.{◌≡◌, ℕ, zero, suc, Bool, true, false, cond, List, [], ◌∷◌, length, refl, ap, ◌∙◌}
use Rattle.std.proofs.lemmas.Map.Text.{is_eq-slice_cmp}
use Rattle.std.proofs.lemmas.Slice.Eq.{bytes_eq-Decides}
use Rattle.pb_value.specs.Datum.{Datum, dict, put, value_at, members_of, entries_of}
use Rattle.pb_value.proofs.Puts.{value_at-put, value_at-put_other}
use Rattle.pb_facts.specs.Book.{row_of}
use Rattle.pb_facts.specs.Facts.{FactsOf, gathered_layer, put_all}
use Rattle.pb_inventory.specs.InventoryOf.{InventoryOf}
use Rattle.pb_inventory.specs.Vars.{host_name, group_name, names_of_hosts, vars_of_host, vars_from_groups}
use Rattle.pb_inventory.proofs.Lasts.{last_wins}
use Rattle.pb_variables.specs.Magic.{texts, first_groups, groups_map, variables_of, first_hosts, hostvars_map, hostvars, plan_magic}
use Rattle.pb_variables.specs.ByName.{last_number, last_at, value_in, hosts_under, variables_under, stored_for, variable_of_host}

or_or : (a b c : Option Datum) → option_or a (option_or b c) ≡ option_or (option_or a b) c
or_or None b c = refl
or_or (Some x) b c = refl

put_one : (name key : List ℕ) (x : Datum) (known : List (List ℕ × Datum)) (b : Bool) → bytes_eq name key ≡ b → value_at name (put key x known) ≡ option_or (cond b (Some x) None) (value_at name known)
put_one name key x known true e = rw ((bytes_eq-Decides name key).0 e) (value_at-put key x known)
put_one name key x known false e = value_at-put_other name key x known (is_eq-slice_cmp name key ∙ e)

pub put_all_at : (name : List ℕ) (es known : List (List ℕ × Datum)) → value_at name (put_all es known) ≡ option_or (last_at name es) (value_at name known)
put_all_at name [] known = refl
put_all_at name (e ∷ es) known =
    put_all_at name es (put e.0 e.1 known) ∙ ap (option_or (last_at name es)) (put_one name e.0 e.1 known (bytes_eq name e.0) refl)
    ∙ or_or (last_at name es) (cond (bytes_eq name e.0) (Some e.1) None) (value_at name known)

-- a number's value is over those of the numbers before it
mapped_cond : (f : ℕ → Datum) (b : Bool) (n : ℕ) (o : Option ℕ) → option_or (cond b (Some (f n)) None) (option_map f o) ≡ option_map f (cond b (Some n) o)
mapped_cond f true n o = refl
mapped_cond f false n o = refl

first_groups_at : (inventory : InventoryOf) (name : List ℕ) (n : ℕ) → value_at name (first_groups inventory n) ≡ option_map (λ g. texts (names_of_hosts inventory g)) (last_number (group_name inventory) name n)
first_groups_at inventory name zero = refl
first_groups_at inventory name (suc n) =
    put_one name (group_name inventory n) (texts (names_of_hosts inventory n)) (first_groups inventory n) (bytes_eq name (group_name inventory n)) refl
    ∙ ap (option_or (cond (bytes_eq name (group_name inventory n)) (Some (texts (names_of_hosts inventory n))) None)) (first_groups_at inventory name n)
    ∙ mapped_cond (λ g. texts (names_of_hosts inventory g)) (bytes_eq name (group_name inventory n)) n (last_number (group_name inventory) name n)

first_hosts_at : (inventory : InventoryOf) (extra : List (List ℕ × Datum)) (learnt : List FactsOf) (name : List ℕ) (n : ℕ)
    → value_at name (first_hosts inventory extra learnt n) ≡ option_map (λ h. dict (members_of (variables_of inventory extra learnt h))) (last_number (host_name inventory) name n)
first_hosts_at inventory extra learnt name zero = refl
first_hosts_at inventory extra learnt name (suc n) =
    put_one name (host_name inventory n) (dict (members_of (variables_of inventory extra learnt n))) (first_hosts inventory extra learnt n) (bytes_eq name (host_name inventory n)) refl
    ∙ ap (option_or (cond (bytes_eq name (host_name inventory n)) (Some (dict (members_of (variables_of inventory extra learnt n)))) None)) (first_hosts_at inventory extra learnt name n)
    ∙ mapped_cond (λ h. dict (members_of (variables_of inventory extra learnt h))) (bytes_eq name (host_name inventory n)) n (last_number (host_name inventory) name n)

pub entries_back : (es : List (List ℕ × Datum)) → entries_of (members_of es) ≡ es
entries_back [] = refl
entries_back (e ∷ es) = ap (λ t. e ∷ t) (entries_back es)

under_groups : (inventory : InventoryOf) → value_at (codes "groups") (plan_magic inventory) ≡ Some (dict (members_of (groups_map inventory)))
unfolding plan_magic
under_groups inventory = refl

pub groups_by_name : (inventory : InventoryOf) (known : List (List ℕ × Datum)) → known ≡ plan_magic inventory → (name : List ℕ) → value_in name (value_at (codes "groups") known) ≡ hosts_under inventory name
groups_by_name inventory known is name =
    ap (λ k. value_in name (value_at (codes "groups") k)) is ∙ ap (value_in name) (under_groups inventory) ∙ ap (value_at name) (entries_back (groups_map inventory))
    ∙ first_groups_at inventory name (length inventory.groups)

pub of_hosts : (inventory : InventoryOf) (extra : List (List ℕ × Datum)) (learnt : List FactsOf) → hostvars inventory extra learnt ≡ dict (members_of (hostvars_map inventory extra learnt))
unfolding hostvars
of_hosts inventory extra learnt = refl

pub hostvars_by_name : (inventory : InventoryOf) (extra : List (List ℕ × Datum)) (learnt : List FactsOf) (hosts : Datum) → hosts ≡ hostvars inventory extra learnt → (name : List ℕ)
    → value_in name (Some hosts) ≡ variables_under inventory extra learnt name
hostvars_by_name inventory extra learnt hosts is name =
    ap (λ (d : Datum). value_in name (Some d)) (is ∙ of_hosts inventory extra learnt) ∙ ap (value_at name) (entries_back (hostvars_map inventory extra learnt))
    ∙ first_hosts_at inventory extra learnt name (length inventory.hosts)

stored_by_name : (inventory : InventoryOf) (host : ℕ) (name : List ℕ) → value_at name (put_all (vars_of_host inventory host) (vars_from_groups inventory host)) ≡ stored_for inventory host name
stored_by_name inventory host name =
    put_all_at name (vars_of_host inventory host) (vars_from_groups inventory host) ∙ ap (option_or (last_at name (vars_of_host inventory host))) (last_wins inventory name host)

gathered_by_name : (inventory : InventoryOf) (learnt : List FactsOf) (host : ℕ) (name : List ℕ)
    → value_at name (put_all (gathered_layer (row_of learnt host).gathered) (put_all (vars_of_host inventory host) (vars_from_groups inventory host)))
    ≡ option_or (last_at name (gathered_layer (row_of learnt host).gathered)) (stored_for inventory host name)
gathered_by_name inventory learnt host name =
    put_all_at name (gathered_layer (row_of learnt host).gathered) (put_all (vars_of_host inventory host) (vars_from_groups inventory host))
    ∙ ap (option_or (last_at name (gathered_layer (row_of learnt host).gathered))) (stored_by_name inventory host name)

pub variables_by_name : (inventory : InventoryOf) (extra : List (List ℕ × Datum)) (learnt : List FactsOf) (host : ℕ) (name : List ℕ)
    → value_at name (variables_of inventory extra learnt host) ≡ variable_of_host inventory extra learnt host name
variables_by_name inventory extra learnt host name =
    put_all_at name extra (put_all (row_of learnt host).set (put_all (gathered_layer (row_of learnt host).gathered) (put_all (vars_of_host inventory host) (vars_from_groups inventory host))))
    ∙ ap
    (option_or (last_at name extra))
    (put_all_at name (row_of learnt host).set (put_all (gathered_layer (row_of learnt host).gathered) (put_all (vars_of_host inventory host) (vars_from_groups inventory host)))
    ∙ ap (option_or (last_at name (row_of learnt host).set)) (gathered_by_name inventory learnt host name))
