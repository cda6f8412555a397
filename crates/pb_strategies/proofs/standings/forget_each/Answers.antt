use Rattle.std.proofs.Common.{◌≡◌, ◌∙◌, ℕ, Bool, List, map, get_or, sym, subst}
use Rattle.pb_planes.specs.Set.{IsNextFrom, HasNoneFrom}
use Rattle.pb_strategies.specs.Hosts.{nowhere, is_somewhere}
use Rattle.pb_strategies.proofs.Members.{found, overwritten, overwritten_step, overwritten_end, forgotten, forgets, all_forgotten}
use Rattle.pb_strategies.proofs.standings.forget_each.Goals as goal

pub loop-host-preserved : goal.loop-host-preserved
loop-host-preserved c =
    let hosts = c.args.hosts.now.items in
    let h = c.in-Some.host.0 in
    let next = subst (λ (s : List Bool). IsNextFrom s c.loop-host.from h) c.requires.somewhere c.in-Some.ensures.some in
    let there = found is_somewhere hosts h nowhere next.1 in
    let on = subst (λ (n : ℕ). c.forget_one.new.hosts.items ≡ overwritten forgotten n hosts hosts) (sym c.behind-from.ensures)
    (overwritten_step forgotten (map is_somewhere hosts) hosts hosts c.loop-host.hosts.items c.forget_one.new.hosts.items c.loop-host.from h (get_or hosts h nowhere) (forgets hosts) next there.1 c.loop-host.invariant.overwritten c.forget_one.ensures.hosts) in
    record { overwritten = on; watched = c.forget_one.ensures.watched }

pub returns-clause-hosts : goal.returns-clause-hosts
returns-clause-hosts c =
    let hosts = c.args.hosts.now.items in
    overwritten_end forgotten (map is_somewhere hosts) hosts hosts c.loop-host.hosts.items c.loop-host.from (forgets hosts)
    (subst (λ (s : List Bool). HasNoneFrom s c.loop-host.from) c.requires.somewhere c.in_default.ensures.none) c.loop-host.invariant.overwritten
    ∙ all_forgotten hosts
