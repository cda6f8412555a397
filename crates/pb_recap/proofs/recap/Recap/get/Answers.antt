use Rattle.std.proofs.Common.{arith, ◌<◌, ◌∙◌, List, length, ap, sym}
use Rattle.std.specs.Option.{option_map_or}
use Rattle.std.proofs.lemmas.Option.{get_or_from_slice_get}
use Rattle.pb_lanes.specs.ColumnsOf.{column, hosts_in}
use Rattle.pb_host.specs.declared.host.Counts.{Counts}
use Rattle.pb_recap.specs.Kinds.{count_at, count_of}
use Rattle.pb_recap.proofs.InColumns.{count_is, length_rows, row_at}
use Rattle.pb_recap.proofs.recap.Recap.get.Goals as goal

pub get-requires : goal.get-requires
get-requires c =
    let seen = ap length c.self.view_is in
    let long = length_rows c.self.inside.counts in
    omega (arith, seen, long, c.requires)

pub returns : goal.returns
returns c =
    let columns = c.self.inside.counts in
    let host = c.args.host.0 in
    let seen = ap length c.self.view_is in
    let long = length_rows columns in
    let inside : host < hosts_in columns = omega (arith, seen, long, c.requires) in
    let read = get_or_from_slice_get (column c.args.kind columns) host c.get.result 0 c.get.ensures in
    c.from.ensures ∙ sym read ∙ sym (count_is c.args.kind columns host) ∙ ap (λ found. option_map_or (count_of c.args.kind) found 0) (sym (row_at columns host inside))
    ∙ ap (λ (rows : List Counts). count_at c.args.kind rows host) c.self.view_is
