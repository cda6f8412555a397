use Rattle.std.proofs.Common.{◌<◌, ◌∙◌, List, length, count_by, slice_set, ap, refl, arith}
use Rattle.std.proofs.lemmas.Option.{slice_get_read}
use Rattle.pb_strategies.specs.declared.standings.Standing.{Standing}
use Rattle.pb_strategies.specs.Hosts.{is_under_way}
use Rattle.pb_strategies.specs.declared.watched.Watched.{Watched}
use Rattle.pb_strategies.specs.Kept.{is_idle_at}
use Rattle.pb_strategies.proofs.Keeping.{put_kept}
use Rattle.pb_strategies.proofs.Numbering.{have_room}
use Rattle.pb_strategies.proofs.Watching.{one_wide, each_wide}
use Rattle.pb_strategies.proofs.standings.Standings.put.Goals as goal

pub put-requires-then-at-len-3 : goal.put-requires-then-at-len-3
put-requires-then-at-len-3 c =
    let inside : c.args.host.0 < length c.self.inside.hosts.items = omega (arith, c.len.ensures, c.if-at-len.true) in
    one_wide c.self.inside.hosts.items c.args.host.0 inside c.self.inside.here c.self.invariant.are_here

pub go_on-requires : goal.go_on-requires
go_on-requires c =
    let inside : c.args.host.0 < length c.self.inside.hosts.items = omega (arith, c.len.ensures, c.if-at-len.true) in
    each_wide c.self.inside.hosts.items c.args.host.0 inside c.self.inside.watched.sets.items c.self.invariant.are_watched

pub put-requires-then-at-len-5 : goal.put-requires-then-at-len-5
put-requires-then-at-len-5 c =
    let inside : c.args.host.0 < length c.self.inside.hosts.items = omega (arith, c.len.ensures, c.if-at-len.true) in
    have_room c.self.inside.hosts.items c.args.host.0 c.self.inside.numbers.bits.items c.self.inside.numbers.fits inside c.self.invariant.are_numbered

pub invariant_of-self : goal.invariant_of-self
invariant_of-self c =
    let hosts = c.self.inside.hosts.items in
    let host = c.args.host.0 in
    let inside : host < length hosts = omega (arith, c.len.ensures, c.if-at-len.true) in
    let old = slice_get_read hosts (length hosts) host c.index-old.result.now refl inside c.index-old.ensures in
    put_kept hosts host c.index-old.result.now c.args.standing c.self.inside.limits c.finish_if.new.limits c.start_if.new.limits c.self.inside.under_way c.under_way_with-self-inside.result
    c.self.inside.running c.self.inside.begun c.self.inside.unended c.put.new.self c.put-then-at-len.new.self c.put-then-at-len-2.new.self
    c.self.inside.here c.put-then-at-len-3.new.self c.self.inside.idle c.put-then-at-len-4.new.self c.self.inside.watched.sets.items c.go_on.new.self.sets.items
    c.self.inside.numbers.bits.items c.put-then-at-len-5.new.self.bits.items c.self.inside.numbers.fits c.put-then-at-len-5.new.self.fits
    old c.self.invariant c.finish_if.ensures c.start_if.ensures
    (c.under_way_with-self-inside.ensures ∙ ap (λ (hs : List Standing). count_by is_under_way (slice_set hs host c.args.standing)) c.as_slice.ensures.value)
    (c.put.ensures ∙ ap (λ b. slice_set c.self.inside.running host b) c.is_some.ensures)
    c.put-then-at-len.ensures
    (c.put-then-at-len-2.ensures ∙ ap (λ b. slice_set c.self.inside.unended host b) c.is_some-then-at-len.ensures)
    c.put-then-at-len-3.ensures (c.put-then-at-len-4.ensures ∙ ap (λ b. slice_set c.self.inside.idle host b) c.is_idle_at.ensures ∙ ap (λ (one : Watched). slice_set c.self.inside.idle host (is_idle_at one.place c.args.standing)) c.put-then-at-len-3.ensures) c.go_on.ensures
    (c.put-then-at-len-5.ensures hosts c.args.standing refl)
