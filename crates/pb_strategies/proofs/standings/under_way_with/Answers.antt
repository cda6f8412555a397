use Rattle.std.proofs.Common.{◌≡◌, ◌∙◌, false, true, get_or, sym, arith}
use Rattle.std.proofs.lemmas.List.{length-set, get_or_default}
use Rattle.std.proofs.lemmas.List.Sums.{count_by-le-length}
use Rattle.std.specs.Prelude.{slice_set}
use Rattle.pb_strategies.specs.Hosts.{nowhere, is_under_way}
use Rattle.pb_strategies.proofs.Watching.{under_way_put}
use Rattle.pb_strategies.proofs.standings.under_way_with.Goals as goal

pub overflow_add-result : goal.overflow_add-result
overflow_add-result c =
    let hosts = c.args.hosts.now in
    let h = c.args.host.0 in
    let new = c.args.standing.now in
    let old = get_or hosts h nowhere in
    let there : old ≡ get_or hosts h old = get_or_default hosts h nowhere old c.requires.there in
    let more = under_way_put hosts h old new false true c.requires.there there (sym c.if-counted.false ∙ c.is_under_way-counted.ensures) (sym c.if-counts-2.true ∙ c.is_under_way-counts.ensures) in
    let most = count_by-le-length is_under_way (slice_set hosts h new) in
    let long = length-set hosts h new in
    omega (arith, more, most, long, c.requires.few, c.requires.count)
