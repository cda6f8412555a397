-- Where `hostvars` stands in no variable of a plan that a task could see, it stands in none of the task's layers.
use Rattle.std.proofs.Common.{◌≡◌, ℕ, Bool, true, false, ◌||◌, List, length, codes, refl}
use Rattle.std.specs.Prelude.{nat_lt, Option, Some, None, IfSome, slice_get, if◌then◌else◌}
use Rattle.pb_value.specs.Datum.{members_of}
use Rattle.pb_facts.specs.Facts.{FactsOf}
use Rattle.pb_inventory.specs.Vars.{vars_from_groups, vars_of_host}
use Rattle.pb_layers.specs.Scope.{Map}
use Rattle.pb_places.specs.Place.{PlaceOf}
use Rattle.pb_plan.specs.Plan.{PlayOf, PlanOf}
use Rattle.pb_plan.specs.Hostvars.{IsFree, IsFreePlace, IsFreeAt, IsFreeHost}
use Rattle.pb_mentions.specs.Mentions.{members_mention}
use Rattle.pb_reach.specs.Reach.{layers_mention}
use Rattle.pb_task_vars.specs.Results.{layers_within, place_for}
use Rattle.pb_task_vars.specs.Unread.{IsFreeOfHostvars}

-- the layers of a task: those of the host's facts have no templates
none_mentions : (e p t b r v h g d : Bool) → e ≡ false → p ≡ false → t ≡ false → b ≡ false → r ≡ false → v ≡ false → h ≡ false → g ≡ false → d ≡ false
    → (e || (p || (t || (b || (r || (v || (h || (g || (d || false))))))))) ≡ false
none_mentions e p t b r v h g d e0 p0 t0 b0 r0 v0 h0 g0 d0 = rw (e0, p0, t0, b0, r0, v0, h0, g0, d0) refl

layers_free : (plan : PlanOf) (play : PlayOf) (h : ℕ) (facts : FactsOf) (place : PlaceOf) → IsFreeHost plan.inventory plan.extra h → IsFree play.vars → IsFreePlace place → IsFreeOfHostvars plan play h facts (Some place)
layers_free plan play h facts place host vars free =
    none_mentions
    (members_mention (codes "hostvars") (members_of plan.extra))
    (members_mention (codes "hostvars") (members_of place.role.params))
    (members_mention (codes "hostvars") (members_of place.task.vars))
    (members_mention (codes "hostvars") (members_of place.block_vars))
    (members_mention (codes "hostvars") (members_of place.role.vars))
    (members_mention (codes "hostvars") (members_of play.vars))
    (members_mention (codes "hostvars") (members_of (vars_of_host plan.inventory h)))
    (members_mention (codes "hostvars") (members_of (vars_from_groups plan.inventory h)))
    (members_mention (codes "hostvars") (members_of place.role.defaults))
    host.extras free.role.params free.own free.blocks free.role.vars vars host.own host.groups free.role.defaults

-- wherever there is a task, on a host of the plan
module _ (plan : PlanOf) (play : PlayOf) (h : ℕ) (facts : FactsOf) (host : IsFreeHost plan.inventory plan.extra h) (vars : IsFree play.vars) where
  by_place : (found : Option PlaceOf) → IfSome found IsFreePlace → IsFreeOfHostvars plan play h facts found
  by_place None free = tt
  by_place (Some place) free = layers_free plan play h facts place host vars free

  by_host : (inside : Bool) (found : Option PlaceOf) → IfSome found IsFreePlace → IsFreeOfHostvars plan play h facts (if inside then found else None)
  by_host true found free = by_place found free
  by_host false found free = tt

pub free_of_hostvars_at : (plan : PlanOf) (play : PlayOf) (h : ℕ) (facts : FactsOf) (p : ℕ) → IsFreeHost plan.inventory plan.extra h → IsFreeAt play.vars play.places p → IsFreeOfHostvars plan play h facts (place_for plan play h p)
free_of_hostvars_at plan play h facts p host free = by_host plan play h facts host free.0 (nat_lt h (length plan.inventory.hosts)) (slice_get play.places p) free.1
