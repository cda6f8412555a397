use Rattle.std.proofs.Common.{◌∙◌, map, ap, sym}
use Rattle.pb_strategies.specs.MayStart.{ViewOf}
use Rattle.pb_strategies.specs.Parts.{stands_at}
use Rattle.pb_strategies.proofs.Starting.{standing_ready, if_found}
use Rattle.pb_strategies.proofs.starts.linear_kept_at.Goals as goal

pub returns-then-not-runs_once : goal.returns-then-not-runs_once
returns-then-not-runs_once c =
    let place = c.args.place in
    let often = sym c.runs_once.ensures ∙ c.if-not-runs_once.true in
    if_found _ _ c.idle_at.result
    (λ set is. standing_ready c.args.view.now place set.now c.requires.room c.requires.linear c.requires.current (sym c.has_room_at.ensures ∙ c.if-has_room_at.true) often
    (is ∙ ap (λ (v : ViewOf). map (stands_at place) v.hosts) c.view.view_is))
    c.idle_at.ensures
