use Rattle.std.proofs.Common.{◌≡◌, ◌≤◌, ◌<◌, ℕ, List, Ok, Err, Some, length, string_bytes, ap, ◌∙◌, arith}
use Rattle.std.specs.Prelude.{slice_set}
use Rattle.std.proofs.lemmas.List.{length-set}
use Rattle.pb_value.specs.Datum.{Datum, named}
use Rattle.pb_value.specs.Names.{kept, paired}
use Rattle.pb_value.specs.Place.{place_of}
use Rattle.pb_value.proofs.KeptNames.{seen_err, seen_gone, seen_past, seen_here, put_ok, kept_ordered, length_set_kept}
use Rattle.pb_value.proofs.shared.put_kept.Goals as goal

pub returns-in_default-clause-absent : goal.returns-in_default-clause-absent
returns-in_default-clause-absent c =
    let is : Err c.in_default.field-0 ≡ place_of (string_bytes c.args.name) (named (paired c.args.names.now)) =
    c.in_default.ensures.value ∙ ap (λ (s : List ℕ). place_of s (named (paired c.args.names.now))) c.as_str.ensures.value in
    seen_err (string_bytes c.args.name) c.args.gone c.args.names.now c.args.values.now.items c.in_default.field-0 c.in_default.ensures.ordered is

pub returns-in_default-clause-ordered : goal.returns-in_default-clause-ordered
returns-in_default-clause-ordered c = kept_ordered c.args.gone c.args.names.now c.args.values.now.items c.in_default.ensures.ordered

pub returns-in_default-spot-clause-absent : goal.returns-in_default-spot-clause-absent
returns-in_default-spot-clause-absent c =
    let is : Ok c.in-Ok.at ≡ place_of (string_bytes c.args.name) (named (paired c.args.names.now)) =
    c.in-Ok.ensures.value ∙ ap (λ (s : List ℕ). place_of s (named (paired c.args.names.now))) c.as_str.ensures.value in
    seen_gone (string_bytes c.args.name) c.args.gone c.args.names.now c.args.values.now.items c.in-Ok.at c.in-Ok.ensures.ordered is c.in_default-spot.ensures.value

pub returns-in_default-spot-clause-ordered : goal.returns-in_default-spot-clause-ordered
returns-in_default-spot-clause-ordered c = kept_ordered c.args.gone c.args.names.now c.args.values.now.items c.in-Ok.ensures.ordered

pub returns-then-index-len-clause-absent : goal.returns-then-index-len-clause-absent
returns-then-index-len-clause-absent c =
    let is : Ok c.in-Ok.at ≡ place_of (string_bytes c.args.name) (named (paired c.args.names.now)) =
    c.in-Ok.ensures.value ∙ ap (λ (s : List ℕ). place_of s (named (paired c.args.names.now))) c.as_str.ensures.value in
    let past : length c.args.values.now.items ≤ c.in-Some.index = omega arith in
    seen_past (string_bytes c.args.name) c.args.gone c.args.names.now c.args.values.now.items c.in-Ok.at c.in-Ok.ensures.ordered is c.in-Some.index c.in-Some.ensures.value past

pub returns-then-index-len-clause-ordered : goal.returns-then-index-len-clause-ordered
returns-then-index-len-clause-ordered c = kept_ordered c.args.gone c.args.names.now c.args.values.now.items c.in-Ok.ensures.ordered

pub returns-clause-entries : goal.returns-clause-entries
returns-clause-entries c =
    let is : Ok c.in-Ok.at ≡ place_of (string_bytes c.args.name) (named (paired c.args.names.now)) =
    c.in-Ok.ensures.value ∙ ap (λ (s : List ℕ). place_of s (named (paired c.args.names.now))) c.as_str.ensures.value in
    let within : c.in-Some.index < length c.args.values.now.items = omega arith in
    ap (λ (d : Datum). kept c.args.gone c.args.names.now (slice_set c.args.values.now.items c.in-Some.index d)) c.replace.ensures.after
    ∙ put_ok c.args.gone c.args.names.now c.args.values.now.items c.args.name c.args.value c.in-Ok.at is c.in-Some.index c.in-Some.ensures.value within

pub returns-clause-before : goal.returns-clause-before
returns-clause-before c =
    let is : Ok c.in-Ok.at ≡ place_of (string_bytes c.args.name) (named (paired c.args.names.now)) =
    c.in-Ok.ensures.value ∙ ap (λ (s : List ℕ). place_of s (named (paired c.args.names.now))) c.as_str.ensures.value in
    let within : c.in-Some.index < length c.args.values.now.items = omega arith in
    ap Some c.replace.ensures.value
    ∙ seen_here (string_bytes c.args.name) c.args.gone c.args.names.now c.args.values.now.items c.in-Ok.at c.in-Ok.ensures.ordered is c.in-Some.index c.in-Some.ensures.value within c.index_mut.result.now c.index_mut.ensures.value

pub returns-clause-stays : goal.returns-clause-stays
returns-clause-stays c = length_set_kept c.args.gone c.args.names.now c.args.values.now.items c.in-Some.index c.replace.new.dest

pub returns-clause-all : goal.returns-clause-all
returns-clause-all c = length-set c.args.values.now.items c.in-Some.index c.replace.new.dest

pub returns-clause-ordered : goal.returns-clause-ordered
returns-clause-ordered c = kept_ordered c.args.gone c.args.names.now (slice_set c.args.values.now.items c.in-Some.index c.replace.new.dest) c.in-Ok.ensures.ordered
