use Rattle.std.proofs.Common.{◌∙◌, ap, sym}
use Rattle.pb_strategies.specs.MayStart.{ViewOf}
use Rattle.pb_strategies.proofs.Starting.{none_ready, no_room_at, no_place}
use Rattle.pb_strategies.proofs.starts.linear_into.Goals as goal

pub returns-else-has_room_at : goal.returns-else-has_room_at
returns-else-has_room_at c =
    none_ready c.args.view.now c.args.set.now c.none_into.new.set c.none_into.ensures c.requires.width
    (no_room_at c.args.view.now c.in-Some.place c.requires.linear (sym (ap (λ (v : ViewOf). v.place) c.view.view_is) ∙ c.in-Some.is) (sym c.has_room_at.ensures ∙ c.if-has_room_at.false))

pub returns-in-None : goal.returns-in-None
returns-in-None c =
    none_ready c.args.view.now c.args.set.now c.none_into-in-None.new.set c.none_into-in-None.ensures c.requires.width
    (no_place c.args.view.now c.requires.linear (sym (ap (λ (v : ViewOf). v.place) c.view.view_is) ∙ c.in-None.is))
