use Rattle.std.proofs.Common.{rules, ◌≡◌, true, Some, refl, ap, sym, ◌∙◌}
use Rattle.std.specs.Prelude.{slice_get}
use Rattle.pb_recap.specs.InColumns.{rows_of}
use Rattle.pb_recap.specs.Kinds.{has_count}
use Rattle.pb_recap.specs.Stats.{counts_data}
use Rattle.serde_json.specs.Data.{put}
use Rattle.pb_recap.proofs.InColumns.{row_is}
use Rattle.pb_recap.proofs.Named.{listed, put_in_order}
use Rattle.pb_recap.proofs.stats.add_host.Goals as goal

pub returns-in_ok-insert-in-Some : goal.returns-in_ok-insert-in-Some
returns-in_ok-insert-in-Some c =
    let there : slice_get (rows_of c.args.counts.now) c.args.host.0 ≡ Some c.in-Some.own = search rules in
    let own = row_is c.args.counts.now c.args.host.0 c.in-Some.own there in
    let has : has_count c.in-Some.own ≡ true = search rules in
    ap (listed c.args.counts.now) c.in_ok-insert-in-Some.ensures.entries ∙ put_in_order c.args.counts.now c.args.hosts.now.entries _ _
    ∙ ap (λ counts. put c.args.name.now (counts_data counts) (listed c.args.counts.now c.args.hosts.now.entries)) (sym own) ∙ rw (there, has) refl
