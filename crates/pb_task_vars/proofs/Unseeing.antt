-- A task that has the same items whatever it sees has those that are read where it sees nothing.
use Rattle.std.proofs.Common.{◌≡◌, ◌∙◌, ℕ, Bool, List, Option, Some, subst, sym}
use Rattle.pb_expr_syntax.specs.Tree.{Tree}
use Rattle.pb_facts.specs.Facts.{FactsOf}
use Rattle.pb_items.specs.Constant.{HasOneStart}
use Rattle.pb_items.specs.Items.{items_of}
use Rattle.pb_layers.specs.Scope.{Map}
use Rattle.pb_outcome.specs.declared.item.Item.{Item}
use Rattle.pb_places.specs.Place.{PlaceOf}
use Rattle.pb_plan.specs.Plan.{PlayOf, PlanOf}
use Rattle.pb_play.specs.declared.task.Task.{Task}
use Rattle.pb_task_vars.specs.Results.{start_with, layers_within, magic_of, items_for}
use Rattle.pb_task_vars.specs.Unread.{ItemsUnread}

pub constant_at : (program given : Bool) (place : PlaceOf) (task : Task) (conditions : List Tree) (delegate_to : Option (List ℕ)) (items : List Item) (none : List Map) (nothing : Map) → task ≡ place.task →
    conditions ≡ place.conditions → delegate_to ≡ place.delegate_to → HasOneStart task conditions delegate_to → given ≡ program → items ≡ items_of (start_with given place none nothing) →
    (seen : List Map) (magic : Map) → items ≡ items_of (start_with program place seen magic)
unfolding start_with
constant_at program given place task conditions delegate_to items none nothing t c d one g is seen magic =
    subst (λ (b : Bool). items ≡ items_of (start_with b place none nothing)) g is ∙ one (start_with program place none nothing) seen magic (sym t) (sym c) (sym d)

-- so they are those that it has on a host
pub constant_for : (plan : PlanOf) (play : PlayOf) (h : ℕ) (facts : FactsOf) (place : PlaceOf) (items : List Item) →
    ((seen : List Map) (magic : Map) → items ≡ items_of (start_with plan.has_facts_program place seen magic)) → items ≡ items_for plan play h facts place
constant_for plan play h facts place items same = same (layers_within plan play h facts place.role place.block_vars place.task.vars) (magic_of plan play h)

-- and it reads nothing
pub constant_unread : (plan : PlanOf) (play : PlayOf) (h : ℕ) (facts : FactsOf) (place : PlaceOf) (items : List Item) →
    ((seen : List Map) (magic : Map) → items ≡ items_of (start_with plan.has_facts_program place seen magic)) → ItemsUnread plan play h facts (Some place)
constant_unread plan play h facts place items same = λ one other _.
    let seen = layers_within plan play h facts place.role place.block_vars place.task.vars in
    sym (same seen one) ∙ same seen other
