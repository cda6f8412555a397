-- Worked examples: each is proved by computing both sides.
use Rattle.std.specs.Prelude.{◌≡◌, ℕ, true, false, List, [], ◌∷◌, Option, Some, None, codes, refl}
use Rattle.pb_value.specs.Datum.{text, list, items_of}
use Rattle.pb_expr_syntax.specs.Tree.{Tree, Name, Member, Text}
use Rattle.pb_layers.specs.Scope.{layers}
use Rattle.pb_play.specs.declared.modules.Module.TheVariants.{Debug}
use Rattle.pb_play.specs.declared.task.Task.{Task}
use Rattle.pb_play.specs.Tasks.{plain_task}
use Rattle.pb_reach.specs.Named.{in_tree}
use Rattle.pb_reach.specs.Reach.{own_texts_mention, may_read, may_read_of_result}
use Rattle.pb_reach.specs.ResultConditions.{has_result_conditions}

-- `x.hostvars` and `'hostvars'` don't name it
named : in_tree (codes "hostvars") (Member (Name (codes "hostvars")) (codes "a")) ≡ true
named = refl

a_key : in_tree (codes "hostvars") (Member (Name (codes "x")) (codes "hostvars")) ≡ false
a_key = refl

a_text : in_tree (codes "hostvars") (Text (codes "hostvars")) ≡ false
a_text = refl

-- a task may read what its variables name, and not what was registered: that is a value already
by_a_variable : may_read (codes "x") (plain_task (codes "t") [] (Debug (text (codes "{{ y }}")))) [] None (layers [] [] [] [] ((codes "y", text (codes "{{ x }}")) ∷ []) [] [] [] [] [] []) ≡ true
by_a_variable = refl

by_a_fact : may_read (codes "x") (plain_task (codes "t") [] (Debug (text (codes "{{ y }}")))) [] None (layers [] [] [] [] [] [] [] [] ((codes "y", text (codes "{{ x }}")) ∷ []) [] []) ≡ false
by_a_fact = refl

-- beside its variables a task has what it does, its conditions, and its delegate
by_what_it_does : own_texts_mention (codes "x") (plain_task (codes "t") [] (Debug (text (codes "{{ x }}")))) [] None ≡ true
by_what_it_does = refl

by_its_delegate : own_texts_mention (codes "x") (plain_task (codes "t") [] (Debug (text (codes "{{ y }}")))) [] (Some (codes "{{ x }}")) ≡ true
by_its_delegate = refl

by_its_variables : own_texts_mention (codes "x") (plain_task (codes "t") ((codes "y", text (codes "{{ x }}")) ∷ []) (Debug (text (codes "{{ y }}")))) [] None ≡ false
by_its_variables = refl

-- of a result a task may read what its own conditions of results and its variables name, and not what its module does
abbrev shows_x : Task
shows_x = plain_task (codes "t") [] (Debug (text (codes "{{ x }}")))

abbrev changed_by : List ℕ → Task
changed_by name = record shows_x { changed_when = Some (Name name ∷ []) }

abbrev failed_by : List ℕ → Task
failed_by name = record shows_x { failed_when = Some (Name name ∷ []) }

abbrev tried_by : Option (List Tree) → Task
tried_by until = record shows_x { retrying = Some (record { until = until; retries = 3; delay = 5 }) }

abbrev until_names : List ℕ → Task
until_names name = tried_by (Some (Name name ∷ []))

by_its_module : may_read (codes "x") (changed_by (codes "r")) [] None (layers [] [] [] [] [] [] [] [] [] [] []) ≡ true
by_its_module = refl

not_of_a_result : may_read_of_result (codes "x") (changed_by (codes "r")) (layers [] [] [] [] [] [] [] [] [] [] []) ≡ false
not_of_a_result = refl

by_changed_when : may_read_of_result (codes "x") (changed_by (codes "x")) (layers [] [] [] [] [] [] [] [] [] [] []) ≡ true
by_changed_when = refl

by_failed_when : may_read_of_result (codes "x") (failed_by (codes "x")) (layers [] [] [] [] [] [] [] [] [] [] []) ≡ true
by_failed_when = refl

by_until : may_read_of_result (codes "x") (until_names (codes "x")) (layers [] [] [] [] [] [] [] [] [] [] []) ≡ true
by_until = refl

until_by_a_variable : may_read_of_result (codes "x") (until_names (codes "y")) (layers [] [] [] [] ((codes "y", text (codes "{{ x }}")) ∷ []) [] [] [] [] [] []) ≡ true
until_by_a_variable = refl

until_by_what_was_registered : may_read_of_result (codes "x") (until_names (codes "r")) (layers [] [] [] [] ((codes "y", text (codes "{{ x }}")) ∷ []) [] [] [] [] [] []) ≡ false
until_by_what_was_registered = refl

of_a_result_by_a_variable : may_read_of_result (codes "x") (changed_by (codes "y")) (layers [] [] [] [] ((codes "y", text (codes "{{ x }}")) ∷ []) [] [] [] [] [] []) ≡ true
of_a_result_by_a_variable = refl

-- not where the conditions reach no template: neither what was registered is one, nor a variable without an expression in it
by_what_was_registered : may_read_of_result (codes "x") (changed_by (codes "r")) (layers [] [] [] [] ((codes "y", text (codes "{{ x }}")) ∷ []) [] [] [] ((codes "r", text (codes "{{ x }}")) ∷ []) [] []) ≡ false
by_what_was_registered = refl

by_a_plain_variable : may_read_of_result (codes "x") (changed_by (codes "y")) (layers [] [] [] [] ((codes "y", list (items_of (text (codes "x") ∷ []))) ∷ (codes "z", text (codes "{{ x }}")) ∷ []) [] [] [] [] [] []) ≡ false
by_a_plain_variable = refl

by_a_list_of_templates : may_read_of_result (codes "x") (changed_by (codes "y")) (layers [] [] [] [] ((codes "y", list (items_of (text (codes "{{ z }}") ∷ []))) ∷ (codes "z", text (codes "{{ x }}")) ∷ []) [] [] [] [] [] []) ≡ true
by_a_list_of_templates = refl

-- a task that has none says nothing of a result, and reads nothing, whatever its variables name
says_nothing : may_read_of_result (codes "x") shows_x (layers [] [] [] [] ((codes "y", text (codes "{{ x }}")) ∷ []) [] [] [] [] [] []) ≡ false
says_nothing = refl

is_silent : has_result_conditions shows_x ≡ false
is_silent = refl

-- retries alone number the results, and read nothing
retries_tell : has_result_conditions (tried_by None) ≡ true
retries_tell = refl

retries_read_nothing : may_read_of_result (codes "x") (tried_by None) (layers [] [] [] [] ((codes "y", text (codes "{{ x }}")) ∷ []) [] [] [] [] [] []) ≡ false
retries_read_nothing = refl
