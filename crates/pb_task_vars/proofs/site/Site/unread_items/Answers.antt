use Rattle.std.proofs.Common.{◌≡◌, Bool, true, Option, subst, ap, sym, ◌∙◌}
use Rattle.std.specs.Option.{option_copied}
use Rattle.pb_places.specs.Place.{PlaceOf}
use Rattle.pb_task_vars.specs.Unread.{IsFreeOfHostvars}
use Rattle.pb_task_vars.proofs.site.Site.unread_items.Goals as goal

pub unread_items_for-requires-clause-is_free : goal.unread_items_for-requires-clause-is_free
unread_items_for-requires-clause-is_free c = λ is_free.
    let site = c.args.self.now in
    subst (λ (found : Option PlaceOf). IsFreeOfHostvars site.plan.now site.play.now site.host.0 site.facts.now found) (sym c.found.ensures ∙ ap option_copied c.in-Some.is) (c.is_free_of_hostvars-is_free.ensures is_free)
