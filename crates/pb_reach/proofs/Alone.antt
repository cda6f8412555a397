-- A task that doesn't have a name itself, over variables without it.
use Rattle.std.proofs.Common.{◌≡◌, ℕ, ◌<◌, Bool, true, false, ◌&&◌, ◌||◌, List, length, Option, refl}
use Rattle.pb_expr_syntax.specs.Tree.{Tree, trees_of}
use Rattle.pb_layers.specs.Scope.{Map}
use Rattle.pb_outcome.specs.declared.gather.ItemResult.{ItemResult}
use Rattle.pb_play.specs.declared.task.Task.{Task}
use Rattle.pb_items.specs.Items.{StartOf, items_of, attempted_by}
use Rattle.pb_reach.specs.Apart.{SameBut}
use Rattle.pb_reach.specs.Named.{in_trees}
use Rattle.pb_reach.specs.Reach.{result_names, result_reaches, task_mentions, delegate_mentions, own_texts_mention, layers_mention, start_from, with_magic}
use Rattle.pb_reach.proofs.OwnItems.{items_same}
use Rattle.pb_reach.proofs.Tests.{neither, joined}
use Rattle.pb_reach.proofs.SameAttempts.{attempts_same}

pub items_alone : (word : List ℕ) → 0 < length word → (task : Task) (conditions : List Tree) (delegate_to : Option (List ℕ)) → own_texts_mention word task conditions delegate_to ≡ false → (layers : List Map) →
    layers_mention word layers ≡ false → (program : Bool) (magic other : Map) → SameBut word magic other →
    items_of (start_from task conditions delegate_to program layers magic) ≡ items_of (start_from task conditions delegate_to program layers other)
items_alone word lt task conditions delegate_to own layers none program magic other same =
    items_same word lt task conditions delegate_to layers
    (joined (task_mentions word task || in_trees word (trees_of conditions)) (delegate_mentions word delegate_to || layers_mention word layers) parts.0
    (joined (delegate_mentions word delegate_to) (layers_mention word layers) parts.1 none))
    program magic other same
  where
    parts : ((task_mentions word task || in_trees word (trees_of conditions)) ≡ false) × (delegate_mentions word delegate_to ≡ false)
    parts = neither (task_mentions word task || in_trees word (trees_of conditions)) (delegate_mentions word delegate_to) own

not_both : (a b : Bool) → b ≡ false → (a && b) ≡ false
not_both true b e = e
not_both false b e = refl

pub results_alone : (word : List ℕ) → 0 < length word → (start : StartOf) → result_names word start.task ≡ false → layers_mention word start.layers ≡ false → (other variable : Map) (attempt : ℕ) (result : ItemResult) →
    SameBut word start.magic other → attempted_by start.task.retrying start variable attempt result ≡ attempted_by start.task.retrying (with_magic start other) variable attempt result
results_alone word lt start own none other variable attempt result same =
    attempts_same word lt start
    (joined (result_names word start.task) (result_reaches start.layers start.task && layers_mention word start.layers) own (not_both (result_reaches start.layers start.task) (layers_mention word start.layers) none))
    other variable attempt result same
