use Rattle.std.proofs.Common.{◌∙◌, map, ap}
use Rattle.pb_strategies.specs.Hosts.{is_running, is_next_at}
use Rattle.pb_strategies.proofs.Keeping.{kept_without}
use Rattle.pb_strategies.proofs.standings.Standings.stand_at.Goals as goal

pub invariant_of-self : goal.invariant_of-self
invariant_of-self c =
    let hosts = c.self.inside.hosts.items in
    let kept = c.self.invariant in
    let there = c.next_at_into.ensures ∙ ap (map (is_next_at c.args.place)) c.as_slice.ensures.value in
    record {
      few = kept.few;
      counted = kept.counted;
      are_under_way = kept.are_under_way;
      are_running = kept.are_running;
      have_begun = kept.have_begun;
      are_unended = kept.are_unended;
      are_here = there;
      are_idle = kept_without (is_next_at c.args.place) is_running hosts c.copy_into.new.set c.self.inside.running c.minus_with.new.self (c.copy_into.ensures ∙ there) kept.are_running c.minus_with.ensures;
      are_watched = kept.are_watched;
      are_numbered = kept.are_numbered;
    }
