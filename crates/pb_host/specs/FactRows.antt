-- Worked tasks that leave something with their host, and that say themselves what their items came to.
use Rattle.std.specs.Prelude.{◌≡◌, ⊤, ℕ, pos, true, false, List, [], ◌∷◌, codes, Some, None, refl}
use Rattle.pb_value.specs.Datum.{int, text, list, items_of}
use Rattle.pb_conditions.specs.FromExprEval.{measured, eval_of}
use Rattle.pb_expr_syntax.specs.Tree as tree
use Rattle.pb_expr_syntax.specs.declared.tree.Op.TheVariants.{NotEqual}
use Rattle.pb_facts.specs.Facts.{no_facts}
use Rattle.pb_task_vars.specs.FromItems.{skipped_result}
use Rattle.pb_outcome.specs.Decided.{debug_result, shown_result}
use Rattle.pb_outcome.specs.Items.{result_of}
use Rattle.pb_outcome.specs.Results.{ran_result}
use Rattle.pb_outcome.specs.declared.gather.ItemResult.{ItemResult}
use Rattle.pb_outcome.specs.declared.item.Item.{Item}
use Rattle.pb_outcome.specs.declared.item.Planned.TheVariants.{Decided}
use Rattle.pb_outcome.specs.declared.outcome.Form.{Form}
use Rattle.pb_outcome.specs.declared.outcome.Form.TheVariants.{Ran, Unreachable as NoAnswer}
use Rattle.pb_play.specs.declared.modules.Module.TheVariants.{Debug, DebugVar, SetFact, Shell}
use Rattle.pb_play.specs.declared.task.Task.{Task}
use Rattle.pb_task_vars.specs.FromPlaces.{place_of, bare_task}
use Rattle.pb_task_vars.specs.FromPlan.{PlayOf, PlanOf, bare_play, bare_plan, bare_tree}
use Rattle.pb_task_vars.specs.FromVariables.{host_magic}
use Rattle.pb_task_vars.specs.Results.{items_at, on_tasks}
use Rattle.pb_host.specs.Host.{HostOf, first_row, none_counted, joined, progressed, sent, reported}

-- what computes these rows
unfoldable pub on_facts : ⊤
unfolding on_tasks eval_of measured host_magic
on_facts = tt

-- two tasks on one host
abbrev two : Task → Task → PlayOf
two first second = bare_play (codes "p") (bare_tree 0 2 0) (place_of first ∷ place_of second ∷ []) (true ∷ [])

abbrev on : PlayOf → PlanOf
on play = bare_plan (codes "h" ∷ []) (play ∷ [])

-- the first task starts, and where its job is out, it comes to this
abbrev begun : PlayOf → HostOf
begun play = progressed (on play).inventory play 0 (items_at (on play) play 0 no_facts 0) (joined play.tree true (first_row 0))

abbrev back : PlayOf → Form → HostOf → HostOf
back play outcome row = reported (on play) play outcome (sent (record { 0 = 7 }) row)

abbrev ended : PlayOf → Form → HostOf
ended play outcome = back play outcome (begun play)

-- the items of the second task as it starts then
abbrev next : PlayOf → HostOf → List Item
next play row = items_at (on play) play 0 row.facts 1

abbrev alone : ItemResult → List Item
alone result = record { value = None; delegate = None; tried = 0; step = Decided result } ∷ []

abbrev well : Form
well = Ran (pos 0) [] []

abbrev badly : Form
badly = Ran (pos 2) [] []

-- a task that registers its result, and one that asks for it
abbrev registers : Task
registers = record (bare_task (codes "list") (Shell (codes "ls"))) { register = Some (codes "r") }

abbrev asks : Task
asks = record (bare_task (codes "ask") (Debug (text (codes "hi")))) { conditions = tree.Binary NotEqual (tree.Member (tree.Name (codes "r")) (codes "rc")) (tree.Int (pos 0)) ∷ [] }

left_out_by_result : next (two registers asks) (ended (two registers asks) well) ≡ alone skipped_result
unfolding on_facts
left_out_by_result = refl

-- a task that failed registers its result too
asked_of_failed : next (two (record registers { ignore_errors = Some true }) asks) (ended (two (record registers { ignore_errors = Some true }) asks) badly) ≡ alone (debug_result (text (codes "hi")))
unfolding on_facts
asked_of_failed = refl

failed_registers : (ended (two registers asks) badly).facts ≡ record { gathered = None; set = (codes "r", (ran_result true (pos 2) [] []).result) ∷ [] }
unfolding on_facts
failed_registers = refl

-- and one that found its host out of reach doesn't
lost_registers_nothing : (ended (two registers asks) (NoAnswer (codes "no route"))).facts ≡ no_facts
unfolding on_facts
lost_registers_nothing = refl

-- nothing is known before the task has ended
knows_nothing_yet : (begun (two registers asks)).facts ≡ no_facts
unfolding on_facts
knows_nothing_yet = refl

-- `set_fact` sets facts that the next task sees
abbrev sets : Task
sets = bare_task (codes "set") (SetFact ((codes "x", int (pos 1)) ∷ []))

abbrev shows : Task
shows = bare_task (codes "show") (DebugVar (codes "x") (tree.Name (codes "x")))

fact_is_seen : next (two sets shows) (begun (two sets shows)) ≡ alone (shown_result (codes "x") (int (pos 1)))
unfolding on_facts
fact_is_seen = refl

-- the result is registered first, so that a fact of its name stays
fact_stays : (begun (two (record sets { register = Some (codes "x") }) shows)).facts ≡ record { gathered = None; set = (codes "x", int (pos 1)) ∷ [] }
unfolding on_facts
fact_stays = refl

-- a task that failed sets nothing, also where that is ignored: its result alone is registered
abbrev fails_at : Task → Task
fails_at task = record task { failed_when = Some (tree.Truth true ∷ []) }

failed_sets_nothing : (begun (two (fails_at sets) shows)).facts ≡ no_facts
unfolding on_facts
failed_sets_nothing = refl

ignored_sets_nothing : (begun (two (record (fails_at sets) { ignore_errors = Some true }) shows)).facts ≡ no_facts
unfolding on_facts
ignored_sets_nothing = refl

-- a command that changed nothing, as its task says
abbrev unchanged : Task
unchanged = record (bare_task (codes "list") (Shell (codes "ls"))) { changed_when = Some (tree.Truth false ∷ []) }

counts_no_change : (ended (two unchanged asks) well).counts ≡ record none_counted { ok = 1 }
unfolding on_facts
counts_no_change = refl

-- the status 2 is no failure where the task says so of the result that it sees
abbrev tolerates : Task
tolerates = record registers { failed_when = Some (tree.Binary NotEqual (tree.Member (tree.Name (codes "r")) (codes "rc")) (tree.Int (pos 2)) ∷ []) }

counts_no_failure : (ended (two tolerates asks) badly).counts ≡ record none_counted { ok = 1; changed = 1 }
unfolding on_facts
counts_no_failure = refl

counts_failure : (ended (two tolerates asks) well).counts ≡ record none_counted { failed = 1 }
unfolding on_facts
counts_failure = refl

-- a loop registers the results of its items, once all of them came back
abbrev loops : Task
loops = record registers { looped = Some (record { over = list (items_of (text (codes "a") ∷ text (codes "b") ∷ [])); variable = codes "item" }) }

abbrev ran_with : List ℕ → Item
ran_with name = record { value = Some (text name); delegate = None; tried = 0; step = Decided (ran_result true (pos 0) [] []) }

registers_nothing_yet : (ended (two loops asks) well).facts ≡ no_facts
unfolding on_facts
registers_nothing_yet = refl

registers_results : (back (two loops asks) well (ended (two loops asks) well)).facts
    ≡ record { gathered = None; set = (codes "r", result_of (codes "item") (ran_with (codes "a") ∷ ran_with (codes "b") ∷ [])) ∷ [] }
unfolding on_facts
registers_results = refl
