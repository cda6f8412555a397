use Rattle.std.proofs.Common.{◌≡◌, ◌∙◌, ◌++◌, ◌∷◌, [], ℕ, List, Option, drop, map, ap, subst, sym}
use Rattle.std.specs.Option.{option_map_or}
use Rattle.pb_value.specs.Datum.{text}
use Rattle.pb_events.specs.Batch.{batch_names}
use Rattle.pb_events.proofs.Names.{names_step, names_over}
use Rattle.pb_events.proofs.batch.batch_names.Goals as goal

pub loop-host-preserved : goal.loop-host-preserved
loop-host-preserved c =
    let names = c.args.plan.now.inventory.hosts in
    let rows = c.args.state.now.rows in
    subst (λ (n : ℕ). c.push_name.new.names ++ map text (batch_names (drop n names) (drop n rows)) ≡ map text (batch_names names rows)) (sym c.behind-from.ensures)
    (names_step names rows c.batch_hosts-hosts.result.now c.loop-host.from c.in-Some.host.0 c.loop-host.names c.push_name.new.names (map text (batch_names names rows)) c.batch_hosts-hosts.ensures c.in-Some.ensures.some
    (c.in_ok-push_name.ensures ∙ ap (λ (name : Option (List ℕ)). c.loop-host.names ++ map text (option_map_or (λ (n : List ℕ). n ∷ []) name [])) c.name_of.ensures)
    c.loop-host.invariant)

pub returns : goal.returns
returns c =
    let names = c.args.plan.now.inventory.hosts in
    let rows = c.args.state.now.rows in
    names_over names rows c.batch_hosts-hosts.result.now c.loop-host.from c.loop-host.names (map text (batch_names names rows)) c.batch_hosts-hosts.ensures c.in_default.ensures.none c.loop-host.invariant
