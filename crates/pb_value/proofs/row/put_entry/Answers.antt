use Rattle.std.proofs.Common.{◌≡◌, Ok, Err, Some, List, length, String, Global, string_bytes, sym, ap, ◌∙◌, arith}
use Rattle.std.specs.Prelude.{slice_set}
use Rattle.std.specs.List.{insert}
use Rattle.std.proofs.lemmas.List.{length-set}
use Rattle.pb_value.specs.Datum.{Datum, named}
use Rattle.pb_value.specs.Place.{place_of}
use Rattle.pb_value.proofs.Placed.{within_ok, within_err, found_ok, found_err, put_ok, put_err}
use Rattle.pb_value.proofs.Stored.{on_err}
use Rattle.pb_value.proofs.row.put_entry.Goals as goal

pub index_mut-requires : goal.index_mut-requires
index_mut-requires c =
    let is : Ok c.in-Ok.at ≡ place_of (string_bytes c.args.name) (named c.args.row.now.items) = c.in-Ok.ensures ∙ (λ i. place_of (c.as_str.ensures.value i) (named (c.as_slice.ensures.value i))) in
    let within = within_ok (string_bytes c.args.name) c.args.row.now.items c.in-Ok.at is in
    omega (arith, within, c.args.row.now.ok.0)

pub returns-in-Ok-clause-entries : goal.returns-in-Ok-clause-entries
returns-in-Ok-clause-entries c =
    let is : Ok c.in-Ok.at ≡ place_of (string_bytes c.args.name) (named c.args.row.now.items) = c.in-Ok.ensures ∙ (λ i. place_of (c.as_str.ensures.value i) (named (c.as_slice.ensures.value i))) in
    put_ok c.args.row.now.items c.args.name c.args.value c.in-Ok.at is c.index_mut.result.now c.index_mut.ensures.value _
    (ap (λ (d : Datum). slice_set c.args.row.now.items c.in-Ok.at (c.index_mut.result.now.0, d)) c.replace.ensures.after)

pub returns-in-Ok-clause-before : goal.returns-in-Ok-clause-before
returns-in-Ok-clause-before c =
    let is : Ok c.in-Ok.at ≡ place_of (string_bytes c.args.name) (named c.args.row.now.items) = c.in-Ok.ensures ∙ (λ i. place_of (c.as_str.ensures.value i) (named (c.as_slice.ensures.value i))) in
    ap Some c.replace.ensures.value ∙ found_ok (string_bytes c.args.name) c.args.row.now.items c.in-Ok.at c.requires is c.index_mut.result.now c.index_mut.ensures.value

pub returns-in-Ok-clause-stays : goal.returns-in-Ok-clause-stays
returns-in-Ok-clause-stays c = λ some. length-set c.args.row.now.items c.in-Ok.at (c.index_mut.result.now.0, c.replace.new.dest)

pub insert-requires : goal.insert-requires
insert-requires c =
    let is : Err c.in-Err.at ≡ place_of (string_bytes c.args.name) (named c.args.row.now.items) = c.in-Err.ensures ∙ (λ i. place_of (c.as_str.ensures.value i) (named (c.as_slice.ensures.value i))) in
    let within = within_err (string_bytes c.args.name) c.args.row.now.items c.in-Err.at is in
    omega (arith, within, ap length c.make_room.ensures, c.make_room.new.row.ok.0)

pub returns-in_ok-insert-in-Err-clause-entries : goal.returns-in_ok-insert-in-Err-clause-entries
returns-in_ok-insert-in-Err-clause-entries c =
    let is : Err c.in-Err.at ≡ place_of (string_bytes c.args.name) (named c.args.row.now.items) = c.in-Err.ensures ∙ (λ i. place_of (c.as_str.ensures.value i) (named (c.as_slice.ensures.value i))) in
    put_err c.args.row.now.items c.args.name c.args.value c.in-Err.at is c.insert.new.self.items
    (c.in_ok-insert-in-Err.ensures.items ∙ ap (λ (es : List (String Global × Datum)). insert es c.in-Err.at (c.args.name, c.args.value)) c.make_room.ensures)

pub returns-in_ok-insert-in-Err-clause-before : goal.returns-in_ok-insert-in-Err-clause-before
returns-in_ok-insert-in-Err-clause-before c =
    let is : Err c.in-Err.at ≡ place_of (string_bytes c.args.name) (named c.args.row.now.items) = c.in-Err.ensures ∙ (λ i. place_of (c.as_str.ensures.value i) (named (c.as_slice.ensures.value i))) in
    sym (found_err (string_bytes c.args.name) c.args.row.now.items c.in-Err.at c.requires is)

pub returns-in_err-make_room-in-Err-clause-absent : goal.returns-in_err-make_room-in-Err-clause-absent
returns-in_err-make_room-in-Err-clause-absent c =
    let is : Err c.in-Err.at ≡ place_of (string_bytes c.args.name) (named c.args.row.now.items) = c.in-Err.ensures ∙ (λ i. place_of (c.as_str.ensures.value i) (named (c.as_slice.ensures.value i))) in
    on_err _ (found_err (string_bytes c.args.name) c.args.row.now.items c.in-Err.at c.requires is)

pub returns-in_err-insert-in-Err-clause-absent : goal.returns-in_err-insert-in-Err-clause-absent
returns-in_err-insert-in-Err-clause-absent c =
    let is : Err c.in-Err.at ≡ place_of (string_bytes c.args.name) (named c.args.row.now.items) = c.in-Err.ensures ∙ (λ i. place_of (c.as_str.ensures.value i) (named (c.as_slice.ensures.value i))) in
    on_err _ (found_err (string_bytes c.args.name) c.args.row.now.items c.in-Err.at c.requires is)
