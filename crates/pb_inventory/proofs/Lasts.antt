-- Of variables that are put under their names one after another the last of a name stays.
use Rattle.std.specs.Prelude.{Option, Some, None}
use Rattle.std.specs.Option.{option_or}
use Rattle.std.specs.Str.{bytes_eq}
use Rattle.std.proofs.Common.{◌≡◌, ℕ, Bool, true, false, cond, List, [], ◌∷◌, ◌++◌, ◌+◌, ◌<◌, length, take, get_or, refl, sym, ap, ◌∙◌}
use Rattle.std.proofs.lemmas.List.{take_more}
use Rattle.std.proofs.lemmas.Map.Text.{is_eq-slice_cmp}
use Rattle.std.proofs.lemmas.Slice.Eq.{bytes_eq-Decides}
use Rattle.pb_ids.specs.declared.numbers.GroupNo.{GroupNo}
use Rattle.pb_value.specs.Datum.{Datum, put, value_at}
use Rattle.pb_value.proofs.Puts.{value_at-put, value_at-put_other}
use Rattle.pb_inventory.specs.declared.vars.Variable.{Variable}
use Rattle.pb_inventory.specs.InventoryOf.{InventoryOf}
use Rattle.pb_inventory.specs.Vars.{put_vars, put_groups, vars_under, group_name, last_named, last_given, groups_of_host, vars_from_groups}

or_or : (a b c : Option Datum) → option_or a (option_or b c) ≡ option_or (option_or a b) c
or_or None b c = refl
or_or (Some x) b c = refl

or_none : (a : Option Datum) → option_or a None ≡ a
or_none None = refl
or_none (Some x) = refl

put_one : (name : List ℕ) (v : Variable) (known : List (List ℕ × Datum)) (b : Bool) → bytes_eq name v.name ≡ b → value_at name (put v.name v.value known) ≡ option_or (cond b (Some v.value) None) (value_at name known)
put_one name v known true e = rw ((bytes_eq-Decides name v.name).0 e) (value_at-put v.name v.value known)
put_one name v known false e = value_at-put_other name v.name v.value known (is_eq-slice_cmp name v.name ∙ e)

put_all : (name : List ℕ) (vs : List Variable) (known : List (List ℕ × Datum)) → value_at name (put_vars vs known) ≡ option_or (last_named name vs) (value_at name known)
put_all name [] known = refl
put_all name (v ∷ vs) known =
    put_all name vs (put v.name v.value known) ∙ ap (option_or (last_named name vs)) (put_one name v known (bytes_eq name v.name) refl)
    ∙ or_or (last_named name vs) (cond (bytes_eq name v.name) (Some v.value) None) (value_at name known)

put_vars_behind : (vs : List Variable) (v : Variable) (known : List (List ℕ × Datum)) → put_vars (vs ++ v ∷ []) known ≡ put v.name v.value (put_vars vs known)
put_vars_behind [] v known = refl
put_vars_behind (w ∷ vs) v known = put_vars_behind vs v (put w.name w.value known)

-- one more is put
pub put_vars_more : (vs : List Variable) (i : ℕ) (v : Variable) (known now : List (List ℕ × Datum)) → i < length vs → v ≡ get_or vs i v → now ≡ put_vars (take i vs) known → put v.name v.value now ≡ put_vars (take (i + 1) vs) known
put_vars_more vs i v known now lt is n =
    let front : take i vs ++ v ∷ [] ≡ take (i + 1) vs = ap (λ (w : Variable). take i vs ++ w ∷ []) is ∙ sym (take_more vs i v lt) in
    ap (put v.name v.value) n ∙ sym (put_vars_behind (take i vs) v known) ∙ ap (λ (ws : List Variable). put_vars ws known) front

put_each : (inventory : InventoryOf) (name : List ℕ) (gs : List GroupNo) (known : List (List ℕ × Datum)) → value_at name (put_groups inventory gs known) ≡ option_or (last_given inventory name gs) (value_at name known)
put_each inventory name [] known = refl
put_each inventory name (g ∷ gs) known =
    let vars = (vars_under (group_name inventory g.0) inventory.group_vars).vars in
    put_each inventory name gs (put_vars vars known) ∙ ap (option_or (last_given inventory name gs)) (put_all name vars known) ∙ or_or (last_given inventory name gs) (last_named name vars) (value_at name known)

pub last_wins : (inventory : InventoryOf) (name : List ℕ) (host : ℕ) → value_at name (vars_from_groups inventory host) ≡ last_given inventory name (groups_of_host inventory host)
last_wins inventory name host = put_each inventory name (groups_of_host inventory host) [] ∙ or_none (last_given inventory name (groups_of_host inventory host))
