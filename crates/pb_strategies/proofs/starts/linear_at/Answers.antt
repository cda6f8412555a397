use Rattle.std.proofs.Common.{◌∙◌, ap, sym, map, length}
use Rattle.std.specs.List.{range_with_len}
use Rattle.pb_strategies.specs.MayStart.{ViewOf}
use Rattle.pb_strategies.specs.Parts.{stands_at, first_standing}
use Rattle.pb_strategies.proofs.Starting.{standing_ready, first_ready, none_ready, closed_once}
use Rattle.pb_strategies.proofs.starts.linear_at.Goals as goal

pub returns-then-not-runs_once : goal.returns-then-not-runs_once
returns-then-not-runs_once c =
    standing_ready c.args.view.now c.args.place c.standing_into.new.set c.requires.room c.requires.linear c.requires.current c.requires.room_at (sym c.runs_once.ensures ∙ c.if-not-runs_once.true)
    (c.standing_into.ensures ∙ ap (λ (v : ViewOf). map (stands_at c.args.place) v.hosts) c.view.view_is)

pub returns-then-is_open_once : goal.returns-then-is_open_once
returns-then-is_open_once c =
    first_ready c.args.view.now c.args.place c.first_into.new.set c.requires.room c.requires.linear c.requires.current c.requires.room_at (sym c.runs_once.ensures ∙ c.if-not-runs_once.false)
    (sym c.is_open_once.ensures ∙ c.if-is_open_once.true)
    (c.first_into.ensures ∙ ap (λ (v : ViewOf). map (first_standing v.hosts c.args.place) (range_with_len 0 (length v.hosts))) c.view.view_is)

pub returns-else-is_open_once : goal.returns-else-is_open_once
returns-else-is_open_once c =
    none_ready c.args.view.now c.args.set.now c.none_into.new.set c.none_into.ensures c.requires.width
    (closed_once c.args.view.now c.args.place c.requires.linear c.requires.current (sym c.runs_once.ensures ∙ c.if-not-runs_once.false) (sym c.is_open_once.ensures ∙ c.if-is_open_once.false))
