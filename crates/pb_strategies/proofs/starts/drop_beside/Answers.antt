use Rattle.std.proofs.Common.{◌≡◌, ◌∙◌, ℕ, Option, Some, ap, sym, subst}
use Rattle.pb_strategies.specs.Hosts.{is_next_at}
use Rattle.pb_strategies.specs.MayStart.{ViewOf}
use Rattle.pb_strategies.specs.Parts.{is_shut_by}
use Rattle.pb_strategies.proofs.Closing.{without, shut_by_none, shut_by_room, shut_by_full}
use Rattle.pb_strategies.proofs.starts.drop_beside.Goals as goal

pub returns-then-not-has_room_at : goal.returns-then-not-has_room_at
returns-then-not-has_room_at c =
    let view = c.args.view.now in
    let place = c.in-Some.place in
    subst (λ (r : Option ℕ). c.drop_next.new.set ≡ without (is_shut_by view r) c.args.set.now view.hosts) (sym c.in-Some.is)
    (shut_by_full view place c.args.set.now c.drop_next.new.set (sym c.has_room_at.ensures ∙ c.if-not-has_room_at.true) (c.drop_next.ensures ∙ ap (λ (v : ViewOf). without (is_next_at (Some place)) c.args.set.now v.hosts) c.view.view_is))

pub returns-else-not-has_room_at : goal.returns-else-not-has_room_at
returns-else-not-has_room_at c =
    let view = c.args.view.now in
    subst (λ (r : Option ℕ). c.args.set.now ≡ without (is_shut_by view r) c.args.set.now view.hosts) (sym c.in-Some.is)
    (shut_by_room view c.in-Some.place c.args.set.now (sym c.has_room_at.ensures ∙ c.if-not-has_room_at.false) c.requires)

pub returns-in_default : goal.returns-in_default
returns-in_default c =
    let view = c.args.view.now in
    subst (λ (r : Option ℕ). c.args.set.now ≡ without (is_shut_by view r) c.args.set.now view.hosts) (sym c.in_default.is) (shut_by_none view c.args.set.now c.requires)
