use Rattle.std.proofs.Common.{◌≡◌, Bool, false, Option, IfOk, subst, ap, sym, ◌∙◌}
use Rattle.std.specs.Option.{option_copied}
use Rattle.pb_places.specs.Place.{PlaceOf}
use Rattle.pb_task_vars.specs.Unread.{IsFreeOfHostvars, AttemptsUnread}
use Rattle.pb_task_vars.proofs.site.Site.reads_of_result.Goals as goal

pub result_reads-requires-clause-is_free : goal.result_reads-requires-clause-is_free
result_reads-requires-clause-is_free c = λ is_free.
    let site = c.args.self.now in
    subst (λ (found : Option PlaceOf). IsFreeOfHostvars site.plan.now site.play.now site.host.0 site.facts.now found) (sym c.found.ensures ∙ ap option_copied c.in-Some.is) (c.is_free_of_hostvars-is_free.ensures is_free)

pub returns-in-Some : goal.returns-in-Some
returns-in-Some c =
    let site = c.args.self.now in
    subst
    (λ (found : Option PlaceOf). IfOk c.result_reads.result (λ (reads : Bool). reads ≡ false → AttemptsUnread site.plan.now site.play.now site.host.0 site.facts.now found))
    (sym (ap option_copied c.in-Some.is) ∙ c.found.ensures)
    c.result_reads.ensures
