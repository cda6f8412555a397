use Rattle.std.proofs.Common.{◌≡◌, ◌||◌, ◌∙◌, Bool, List, map, length, false, ap, sym, refl}
use Rattle.std.specs.Prelude.{replicate}
use Rattle.std.specs.Simd.Lanes.{zip2}
use Rattle.pb_strategies.specs.declared.standings.Standing.{Standing}
use Rattle.pb_strategies.specs.Hosts.{is_running, has_begun, is_unended, is_somewhere}
use Rattle.pb_strategies.specs.Kept.{is_idle_at}
use Rattle.pb_strategies.proofs.Keeping.{first_kept}
use Rattle.pb_strategies.proofs.Numbering.{first_numbered}
use Rattle.pb_strategies.proofs.Members.{are_somewhere, mapped_long, emptied_long}
use Rattle.pb_strategies.proofs.standings.Standings.clear.Goals as goal

pub forget_each-requires-clause-somewhere : goal.forget_each-requires-clause-somewhere
forget_each-requires-clause-somewhere c =
    are_somewhere c.self.inside.hosts.items c.self.inside.unended c.self.inside.begun c.self.inside.running (zip2 (λ (a b : Bool). a || b) c.self.inside.unended c.self.inside.begun) c.unite_into.new.set
    c.self.invariant.are_unended c.self.invariant.have_begun c.self.invariant.are_running refl c.unite_into.ensures

pub empty_by-requires : goal.empty_by-requires
empty_by-requires c =
    mapped_long is_somewhere c.self.inside.hosts.items c.unite_into.new.set
    (are_somewhere c.self.inside.hosts.items c.self.inside.unended c.self.inside.begun c.self.inside.running (zip2 (λ (a b : Bool). a || b) c.self.inside.unended c.self.inside.begun) c.unite_into.new.set
    c.self.invariant.are_unended c.self.invariant.have_begun c.self.invariant.are_running refl c.unite_into.ensures)
    ∙ sym (mapped_long is_unended c.self.inside.hosts.items c.self.inside.unended c.self.invariant.are_unended)

-- a set that was emptied is as wide as each of the three that went into it
as_wide : (test : Standing → Bool) (hosts : List Standing) (running begun unended united empty set : List Bool) → unended ≡ map is_unended hosts → begun ≡ map has_begun hosts → running ≡ map is_running hosts
    → united ≡ zip2 (λ (a b : Bool). a || b) (zip2 (λ (a b : Bool). a || b) unended begun) running → empty ≡ replicate (length united) false → set ≡ map test hosts → length set ≡ length empty
as_wide test hosts running begun unended united empty set u b r union e s =
    mapped_long test hosts set s
    ∙ sym (mapped_long is_somewhere hosts united (are_somewhere hosts unended begun running (zip2 (λ (a b : Bool). a || b) unended begun) united u b r refl union))
    ∙ sym (emptied_long empty united e)

pub empty_by-requires-2 : goal.empty_by-requires-2
empty_by-requires-2 c =
    as_wide is_unended c.self.inside.hosts.items c.self.inside.running c.self.inside.begun c.self.inside.unended c.unite_into.new.set c.empty_by.new.set c.self.inside.unended
    c.self.invariant.are_unended c.self.invariant.have_begun c.self.invariant.are_running c.unite_into.ensures c.empty_by.ensures c.self.invariant.are_unended

pub empty_by-requires-3 : goal.empty_by-requires-3
empty_by-requires-3 c =
    as_wide has_begun c.self.inside.hosts.items c.self.inside.running c.self.inside.begun c.self.inside.unended c.unite_into.new.set c.empty_by.new.set c.self.inside.begun
    c.self.invariant.are_unended c.self.invariant.have_begun c.self.invariant.are_running c.unite_into.ensures c.empty_by.ensures c.self.invariant.have_begun

pub empty_by-requires-4 : goal.empty_by-requires-4
empty_by-requires-4 c =
    as_wide is_running c.self.inside.hosts.items c.self.inside.running c.self.inside.begun c.self.inside.unended c.unite_into.new.set c.empty_by.new.set c.self.inside.running
    c.self.invariant.are_unended c.self.invariant.have_begun c.self.invariant.are_running c.unite_into.ensures c.empty_by.ensures c.self.invariant.are_running

pub empty_by-requires-5 : goal.empty_by-requires-5
empty_by-requires-5 c =
    as_wide (is_idle_at c.self.inside.here.place) c.self.inside.hosts.items c.self.inside.running c.self.inside.begun c.self.inside.unended c.unite_into.new.set c.empty_by.new.set c.self.inside.idle
    c.self.invariant.are_unended c.self.invariant.have_begun c.self.invariant.are_running c.unite_into.ensures c.empty_by.ensures c.self.invariant.are_idle

pub invariant_of-self : goal.invariant_of-self
invariant_of-self c =
    let hosts = c.self.inside.hosts.items in
    let wide : (test : Standing → Bool) (set new : List Bool) → set ≡ map test hosts → new ≡ replicate (length set) false → new ≡ replicate (length hosts) false
    = λ test set new s n. n ∙ ap (λ k. replicate k false) (mapped_long test hosts set s) in
    let united = mapped_long is_somewhere hosts c.unite_into.new.set
    (are_somewhere hosts c.self.inside.unended c.self.inside.begun c.self.inside.running (zip2 (λ (a b : Bool). a || b) c.self.inside.unended c.self.inside.begun) c.unite_into.new.set
    c.self.invariant.are_unended c.self.invariant.have_begun c.self.invariant.are_running refl c.unite_into.ensures) in
    first_kept (length hosts) c.args.places c.forget_each.new.hosts.items c.in_ok-limits.limits c.empty_by-4.new.set c.empty_by-3.new.set c.empty_by-2.new.set
    (record c.self.inside.here { hosts = c.empty_by.new.set }) c.empty_by-5.new.set c.go_over.new.self.sets.items c.in_ok-numbers.numbers.bits.items c.in_ok-numbers.numbers.fits
    c.self.invariant.few c.forget_each.ensures.hosts c.in_ok-limits.ensures
    (wide is_running c.self.inside.running c.empty_by-4.new.set c.self.invariant.are_running c.empty_by-4.ensures)
    (wide has_begun c.self.inside.begun c.empty_by-3.new.set c.self.invariant.have_begun c.empty_by-3.ensures)
    (wide is_unended c.self.inside.unended c.empty_by-2.new.set c.self.invariant.are_unended c.empty_by-2.ensures)
    (c.empty_by.ensures ∙ ap (λ k. replicate k false) united) (wide (is_idle_at c.self.inside.here.place) c.self.inside.idle c.empty_by-5.new.set c.self.invariant.are_idle c.empty_by-5.ensures) (c.go_over.ensures c.forget_each.new.hosts.items c.forget_each.ensures.watched)
    (first_numbered (length hosts) c.forget_each.new.hosts.items c.in_ok-numbers.numbers.bits.items c.in_ok-numbers.numbers.fits c.forget_each.ensures.hosts
    (λ k lt. c.in_ok-numbers.ensures k lt ∙ ap (λ n. replicate n false) (c.width-hosts.ensures ∙ mapped_long is_unended hosts c.self.inside.unended c.self.invariant.are_unended)))
