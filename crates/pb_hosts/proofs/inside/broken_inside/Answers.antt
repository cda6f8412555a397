use Rattle.std.proofs.Common.{◌≡◌, ◌+◌, ℕ, drop, subst, sym}
use Rattle.std.specs.Prelude.{count_by}
use Rattle.std.specs.Option.{option_copied}
use Rattle.pb_host.specs.Host.{HostOf}
use Rattle.pb_hosts.specs.Turn.{with_copy}
use Rattle.pb_hosts.proofs.Members.{broken_step, broken_few, broken_end}
use Rattle.pb_hosts.proofs.inside.broken_inside.Goals as goal

pub loop-host-preserved : goal.loop-host-preserved
loop-host-preserved c = record {
  counted =
      subst
      (λ (n : ℕ). c.one_more-count.result + count_by (λ (row : HostOf). (with_copy c.args.copied.now.inventory.now c.args.copied.now.play.now c.args.copied.now.place (option_copied c.args.copied.now.from) row).is_broken) (drop n c.args.rows.now)
      ≡ count_by (λ (row : HostOf). (with_copy c.args.copied.now.inventory.now c.args.copied.now.play.now c.args.copied.now.place (option_copied c.args.copied.now.from) row).is_broken) c.args.rows.now)
      (sym c.behind-from.ensures)
      (broken_step c.args.copied.now.inventory.now c.args.copied.now.play.now c.args.copied.now.place (option_copied c.args.copied.now.from) c.args.rows.now c.args.batch.now c.loop-host.from c.in-Some.host.0 c.loop-host.count c.one_more-count.result
      (count_by (λ (row : HostOf). (with_copy c.args.copied.now.inventory.now c.args.copied.now.play.now c.args.copied.now.place (option_copied c.args.copied.now.from) row).is_broken) c.args.rows.now) c.is_broken_at-is_broken.result c.requires.insiders c.requires.outsiders c.in-Some.ensures.some c.is_broken_at-is_broken.ensures c.one_more-count.ensures
      c.loop-host.invariant.counted);
  few =
      broken_few c.loop-host.count c.one_more-count.result c.loop-host.from c.in-Some.host.0 c.behind-from.result c.is_broken_at-is_broken.result c.one_more-count.ensures c.behind-from.ensures c.in-Some.ensures.some.0
      c.loop-host.invariant.few;
}

pub returns : goal.returns
returns c =
    broken_end c.args.copied.now.inventory.now c.args.copied.now.play.now c.args.copied.now.place (option_copied c.args.copied.now.from) c.args.rows.now c.args.batch.now c.loop-host.from c.loop-host.count
    (count_by (λ (row : HostOf). (with_copy c.args.copied.now.inventory.now c.args.copied.now.play.now c.args.copied.now.place (option_copied c.args.copied.now.from) row).is_broken) c.args.rows.now) c.requires.insiders c.requires.outsiders c.in_default.ensures.none c.loop-host.invariant.counted
