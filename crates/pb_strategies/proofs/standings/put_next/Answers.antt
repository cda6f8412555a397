use Rattle.std.proofs.Common.{◌≡◌, ◌∙◌, ℕ, Bool, List, false, length, replicate, map, get_or, slice_set, ap, sym, subst, arith}
use Rattle.pb_planes.specs.Set.{IsNextFrom, HasNoneFrom}
use Rattle.pb_strategies.specs.Hosts.{nowhere, is_next_at, is_unended}
use Rattle.pb_strategies.proofs.Members.{found, overwritten, overwritten_step, overwritten_end, overwritten_long, next_agrees}
use Rattle.pb_strategies.proofs.standings.put_next.Goals as goal

pub put-requires : goal.put-requires
put-requires c =
    let hosts = c.args.hosts.now in
    let place = c.args.place in
    let next = subst (λ (s : List Bool). IsNextFrom s c.loop-host.from c.in-Some.host.0) c.requires.unended c.in-Some.ensures.some in
    let there = found is_unended hosts c.in-Some.host.0 nowhere next.1 in
    let long = ap length c.loop-host.invariant ∙ overwritten_long (is_next_at place) (map is_unended hosts) hosts (replicate (length hosts) false) (next_agrees place hosts) c.loop-host.from in
    omega (arith, there.0, long)

pub loop-host-preserved : goal.loop-host-preserved
loop-host-preserved c =
    let hosts = c.args.hosts.now in
    let place = c.args.place in
    let h = c.in-Some.host.0 in
    let next = subst (λ (s : List Bool). IsNextFrom s c.loop-host.from h) c.requires.unended c.in-Some.ensures.some in
    let there = found is_unended hosts h nowhere next.1 in
    subst (λ (n : ℕ). c.put.new.self ≡ overwritten (is_next_at place) n hosts (replicate (length hosts) false)) (sym c.behind-from.ensures)
    (overwritten_step (is_next_at place) (map is_unended hosts) hosts (replicate (length hosts) false) c.loop-host.set c.put.new.self c.loop-host.from h (get_or hosts h nowhere) (next_agrees place hosts) next there.1 c.loop-host.invariant
    (c.put.ensures ∙ ap (λ (b : Bool). slice_set c.loop-host.set h b) c.same_place-is_next.ensures))

pub returns : goal.returns
returns c =
    let hosts = c.args.hosts.now in
    let place = c.args.place in
    overwritten_end (is_next_at place) (map is_unended hosts) hosts (replicate (length hosts) false) c.loop-host.set c.loop-host.from (next_agrees place hosts)
    (subst (λ (s : List Bool). HasNoneFrom s c.loop-host.from) c.requires.unended c.in_default.ensures.none) c.loop-host.invariant
