-- A task has few items.
use Rattle.std.proofs.Common.{◌≡◌, ◌≤◌, Bool, true, false, List, [], length, Option, Some, None, Result, Ok, Err, IfOk, refl, if◌then◌else◌, arith}
use Rattle.std.specs.Prelude.{nat_lt}
use Rattle.std.proofs.lemmas.Bool.Decides.{nat_tests}
use Rattle.std.proofs.lemmas.List.{length-map}
use Rattle.pb_value.specs.Datum.{Datum, null, boolean, int, text, list, dict, list_of}
use Rattle.pb_value.specs.Reading.{and_then}
use Rattle.pb_layers.specs.Scope.{Map}
use Rattle.pb_outcome.specs.declared.item.Item.{Item}
use Rattle.pb_play.specs.declared.loops.Loop.{Loop}
use Rattle.pb_expr_eval.specs.Scoped.{rendered_of}
use Rattle.pb_items.specs.Faults.{evaluated}
use Rattle.pb_items.specs.Items.{StartOf, seen_by, item_in, looped_items, items_by, items_of}
use Rattle.pb_items.specs.Loops.{max_items, within_items, values_in, values_of}
use Rattle.pb_items.specs.declared.fault.ItemFault.{ItemFault}
use Rattle.pb_items.specs.declared.fault.ItemFault.TheVariants.{TooManyItems}

abbrev AreFew : Result (List Datum) ItemFault → Type 0
AreFew r = IfOk r (λ values. length values ≤ max_items)

tested : (values : List Datum) (t : Bool) → nat_lt max_items (length values) ≡ t → AreFew (if t then Err TooManyItems else Ok values)
tested values true e = tt
tested values false e = grind (arith, nat_tests)

within : (values : List Datum) → AreFew (within_items values)
within values = tested values (nat_lt max_items (length values)) refl

values_in-few : (d : Datum) → AreFew (values_in d)
values_in-few (list ds) = within (list_of ds)
values_in-few null = tt
values_in-few (boolean b) = tt
values_in-few (int z) = tt
values_in-few (text s) = tt
values_in-few (dict ms) = tt

then-few : (r : Result Datum ItemFault) → AreFew (and_then r values_in)
then-few (Ok d) = values_in-few d
then-few (Err e) = tt

values_of-few : (scope : List Map) (over : Datum) → AreFew (values_of scope over)
unfolding values_of
values_of-few scope over = then-few (evaluated (rendered_of scope over))

looped-few : (item : Option Datum → Item) (r : Result (List Datum) ItemFault) → AreFew r → length (looped_items item r) ≤ max_items
looped-few item (Ok values) few = rw (length-map values (λ value. item (Some value))) few
looped-few item (Err e) few = omega arith

pub few_in_loop : (start : StartOf) (looped : Loop) → length (looped_items (item_in start) (values_of (seen_by start []) looped.over)) ≤ max_items
few_in_loop start looped = looped-few (item_in start) _ (values_of-few _ looped.over)

by-few : (start : StartOf) (looped : Option Loop) → length (items_by start looped) ≤ max_items
by-few start None = omega arith
by-few start (Some looped) = few_in_loop start looped

pub few : (start : StartOf) → length (items_of start) ≤ max_items
unfolding items_of
few start = by-few start start.task.looped
