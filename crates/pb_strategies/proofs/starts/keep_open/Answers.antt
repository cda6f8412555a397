use Rattle.std.proofs.Common.{◌≡◌, ◌∙◌, ℕ, Bool, List, Option, None, map, length, slice_index_or, ap, sym, subst}
use Rattle.pb_planes.specs.Set.{IsNextFrom, HasNoneFrom}
use Rattle.pb_strategies.specs.Hosts.{is_running, runs_in}
use Rattle.pb_strategies.specs.MayStart.{ViewOf}
use Rattle.pb_strategies.specs.Parts.{is_shut_by}
use Rattle.pb_strategies.proofs.Closing.{without, without_long, is_shut_to, shut_first, shut_by_none, shut_step, shut_all, shut_again}
use Rattle.pb_strategies.proofs.starts.keep_open.Goals as goal

pub loop-host-init : goal.loop-host-init
loop-host-init c = record { so_far = shut_first c.args.view.now c.args.set.now c.requires; by_last = shut_by_none c.args.view.now c.args.set.now c.requires }

pub drop_further-requires-clause-width : goal.drop_further-requires-clause-width
drop_further-requires-clause-width c =
    ap length c.loop-host.invariant.so_far ∙ without_long (is_shut_to c.args.view.now c.loop-host.from) c.args.set.now c.args.view.now.hosts c.requires ∙ c.requires

pub loop-host-preserved : goal.loop-host-preserved
loop-host-preserved c =
    let view = c.args.view.now in
    let h = c.in-Some.host.0 in
    let running = c.running_hosts-running.ensures ∙ ap (λ (v : ViewOf). map is_running v.hosts) c.view.view_is in
    let next = subst (λ (s : List Bool). IsNextFrom s c.loop-host.from h) running c.in-Some.ensures.some in
    let runs = c.runs_of-runs.ensures ∙ ap (λ (v : ViewOf). slice_index_or (runs_in v.hosts) h None) c.view.view_is in
    let dropped = subst (λ (r : Option ℕ). c.drop_further.new.set ≡ without (is_shut_by view r) c.loop-host.set view.hosts) runs c.drop_further.ensures in
    record {
      so_far =
          subst (λ (n : ℕ). c.drop_further.new.set ≡ without (is_shut_to view n) c.args.set.now view.hosts) (sym c.behind-from.ensures)
          (shut_step view c.args.set.now c.loop-host.set c.drop_further.new.set c.loop-host.from h next c.loop-host.invariant.so_far dropped);
      by_last = shut_again (is_shut_by view c.runs_of-runs.result) c.loop-host.set c.drop_further.new.set view.hosts c.drop_further.ensures;
    }

pub returns : goal.returns
returns c =
    let view = c.args.view.now in
    let running = c.running_hosts-running.ensures ∙ ap (λ (v : ViewOf). map is_running v.hosts) c.view.view_is in
    shut_all view c.args.set.now c.loop-host.set c.loop-host.from c.requires (subst (λ (s : List Bool). HasNoneFrom s c.loop-host.from) running c.in_default.ensures.none) c.loop-host.invariant.so_far
