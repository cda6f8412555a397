use Rattle.std.proofs.Common.{◌∙◌, ◌&&◌, ap, sym, Some}
use Rattle.std.specs.List.{list_any}
use Rattle.pb_strategies.specs.Hosts.{is_next_at}
use Rattle.pb_strategies.specs.MayStart.{ViewOf}
use Rattle.pb_strategies.proofs.Turning.{some_may}
use Rattle.pb_strategies.proofs.starts.some_may_start.Goals as goal

pub returns-then-is_open : goal.returns-then-is_open
returns-then-is_open c =
    let view = c.args.view.now in
    let there = list_any (is_next_at (Some c.args.place)) view.hosts in
    c.some_next_at-is_there.ensures
    ∙ ap (λ (v : ViewOf). list_any (is_next_at (Some c.args.place)) v.hosts) c.view.view_is
    ∙ sym (ap (λ b. b && there) (sym c.is_open_at-is_open.ensures ∙ c.if-is_open.true))
    ∙ some_may view c.args.place c.requires.linear c.requires.current c.requires.idle

pub returns-else-is_open : goal.returns-else-is_open
returns-else-is_open c =
    let view = c.args.view.now in
    let there = list_any (is_next_at (Some c.args.place)) view.hosts in
    c.if-is_open.false
    ∙ sym (ap (λ b. b && there) (sym c.is_open_at-is_open.ensures ∙ c.if-is_open.false))
    ∙ some_may view c.args.place c.requires.linear c.requires.current c.requires.idle
