-- Worked examples: each is proved by computing both sides.
use Rattle.std.specs.Prelude.{◌≡◌, ⊤, pos, true, false, List, [], ◌∷◌, Ok, codes, refl}
use Rattle.std.specs.Char.{encode_utf8}
use Rattle.std.specs.Fmt.{digits}
use Rattle.std.specs.Str.{chars}
use Rattle.pb_value.specs.Datum.{Datum, int, text, list, dict, items_of, members_of}
use Rattle.pb_layers.specs.Scope.{Map, layers}
use Rattle.pb_expr_syntax.specs.Computed.{tree_of, tree_of_tokens}
use Rattle.pb_expr_syntax.specs.Tree as tree
use Rattle.pb_expr_syntax.specs.declared.tree.Op.TheVariants.{Plus}
use Rattle.pb_template.specs.Computed.{template_of}
use Rattle.pb_expr_eval.specs.Rendering.{measured}
use Rattle.pb_expr_eval.specs.Scoped.{eval_of, rendered_of}
use Rattle.pb_outcome.specs.Decided.{faulty_result, debug_result, shown_result, fail_result}
use Rattle.pb_outcome.specs.Results.{facts_result}
use Rattle.pb_outcome.specs.declared.job.Call.TheVariants as call
use Rattle.pb_play.specs.declared.commands.CommandWords.TheVariants.{Line, Argv}
use Rattle.pb_play.specs.declared.modules.Module.TheVariants.{Assert, Command, Debug, DebugVar, Fail, Meta, SetFact, Setup, Shell}
use Rattle.pb_play.specs.declared.modules.Meta.TheVariants.{Noop, EndHost}
use Rattle.pb_outcome.specs.declared.item.Planned.TheVariants.{Decided, Sends}
use Rattle.pb_items.specs.Planning.{done_by, planned_by}
use Rattle.pb_items.specs.Results.{meta_result}

-- what computes the values of templates and the words of texts
unfoldable on_items : ⊤
unfolding chars encode_utf8 digits template_of tree_of tree_of_tokens eval_of rendered_of measured done_by planned_by
on_items = tt

-- a host where a play gives x this value
abbrev x_is : Datum → List Map
x_is v = layers [] [] [] [] ((codes "x", v) ∷ []) [] [] [] [] [] []

debug_keeps_kind : planned_by (x_is (int (pos 1))) (Debug (text (codes "{{ x + 1 }}"))) ≡ Decided (debug_result (int (pos 2)))
unfolding on_items
debug_keeps_kind = refl

debug_undefined : planned_by [] (Debug (text (codes "{{ x }}"))) ≡ Decided (faulty_result (codes "'x' is undefined"))
unfolding on_items
debug_undefined = refl

var_is_shown : planned_by (x_is (int (pos 1))) (DebugVar (codes "x") (tree.Name (codes "x"))) ≡ Decided (shown_result (codes "x") (int (pos 1)))
unfolding on_items
var_is_shown = refl

var_undefined : planned_by [] (DebugVar (codes "x") (tree.Name (codes "x"))) ≡ Decided (shown_result (codes "x") (text (codes "VARIABLE IS NOT DEFINED!")))
unfolding on_items
var_undefined = refl

-- so does a variable whose own template names none
var_of_undefined : planned_by (x_is (text (codes "{{ y }}"))) (DebugVar (codes "x") (tree.Name (codes "x"))) ≡ Decided (shown_result (codes "x") (text (codes "VARIABLE IS NOT DEFINED!")))
unfolding on_items
var_of_undefined = refl

var_of_wrong_kind : planned_by [] (DebugVar (codes "1 + 'a'") (tree.Binary Plus (tree.Int (pos 1)) (tree.Text (codes "a")))) ≡ Decided (faulty_result (codes "wrong kind of value"))
unfolding on_items
var_of_wrong_kind = refl

fail_renders : planned_by (x_is (int (pos 1))) (Fail (list (items_of (text (codes "{{ x }}!") ∷ [])))) ≡ Decided (fail_result (list (items_of (text (codes "1!") ∷ []))))
unfolding on_items
fail_renders = refl

-- a text is cut into words when it is rendered, a word of argv isn't cut
line_is_cut_late : planned_by (x_is (text (codes "a b"))) (Command (Line (codes "echo {{ x }}"))) ≡ Sends (call.Command (codes "echo" ∷ codes "a" ∷ codes "b" ∷ []))
unfolding on_items
line_is_cut_late = refl

argv_is_not_cut : planned_by (x_is (text (codes "a b"))) (Command (Argv (text (codes "echo") ∷ text (codes "{{ x }}") ∷ int (pos 1) ∷ []))) ≡ Sends (call.Command (codes "echo" ∷ codes "a b" ∷ codes "1" ∷ []))
unfolding on_items
argv_is_not_cut = refl

-- the fault of an earlier word counts
argv_first_fault : planned_by [] (Command (Argv (text (codes "{{ 1 + 'a' }}") ∷ text (codes "{{ x }}") ∷ []))) ≡ Decided (faulty_result (codes "wrong kind of value"))
unfolding on_items
argv_first_fault = refl

quote_from_variable : planned_by (x_is (text (codes "'"))) (Command (Line (codes "echo {{ x }}"))) ≡ Decided (faulty_result (codes "unclosed quote"))
unfolding on_items
quote_from_variable = refl

empty_line : planned_by (x_is (text [])) (Command (Line (codes "{{ x }}"))) ≡ Decided (faulty_result (codes "no command given"))
unfolding on_items
empty_line = refl

empty_argv : planned_by [] (Command (Argv [])) ≡ Decided (faulty_result (codes "no command given"))
unfolding on_items
empty_argv = refl

shell_is_rendered : planned_by (x_is (text (codes "a b"))) (Shell (codes "echo {{ x }}")) ≡ Sends (call.Shell (codes "echo a b"))
unfolding on_items
shell_is_rendered = refl

-- all of its conditions hold, in order
assert_goes_well : planned_by (x_is (int (pos 1))) (Assert (tree.Truth true ∷ tree.Name (codes "x") ∷ []) (text (codes "no")) (text (codes "x is {{ x }}"))) ≡ Decided (debug_result (text (codes "x is 1")))
unfolding on_items
assert_goes_well = refl

-- what stands behind the first condition that doesn't hold isn't read
assert_fails : planned_by (x_is (int (pos 0))) (Assert (tree.Name (codes "x") ∷ tree.Name (codes "y") ∷ []) (list (items_of (text (codes "{{ x }}!") ∷ []))) (text (codes "yes"))) ≡ Decided (fail_result (list (items_of (text (codes "0!") ∷ []))))
unfolding on_items
assert_fails = refl

-- both messages are read, whichever is the result's
assert_reads_both : planned_by (x_is (int (pos 0))) (Assert (tree.Name (codes "x") ∷ []) (text (codes "no")) (text (codes "{{ y }}"))) ≡ Decided (faulty_result (codes "'y' is undefined"))
unfolding on_items
assert_reads_both = refl

-- its conditions come first
assert_condition_first : planned_by [] (Assert (tree.Name (codes "x") ∷ []) (text (codes "{{ 1 + 'a' }}")) (text (codes "yes"))) ≡ Decided (faulty_result (codes "'x' is undefined"))
unfolding on_items
assert_condition_first = refl

facts_are_rendered : planned_by (x_is (int (pos 1))) (SetFact ((codes "a", text (codes "{{ x + 1 }}")) ∷ (codes "b", int (pos 3)) ∷ [])) ≡ Decided (facts_result (dict (members_of ((codes "a", int (pos 2)) ∷ (codes "b", int (pos 3)) ∷ []))))
unfolding on_items
facts_are_rendered = refl

-- the fault of an earlier name counts
first_fact_first : planned_by [] (SetFact ((codes "a", text (codes "{{ 1 + 'a' }}")) ∷ (codes "b", text (codes "{{ x }}")) ∷ [])) ≡ Decided (faulty_result (codes "wrong kind of value"))
unfolding on_items
first_fact_first = refl

no_facts_program : done_by false [] Setup ≡ Ok (Decided (facts_result (dict (members_of []))))
unfolding on_items
no_facts_program = refl

facts_program_is_sent : done_by true [] Setup ≡ Ok (Sends call.Setup)
unfolding on_items
facts_program_is_sent = refl

-- what steers the run is decided at once, with or without a facts program
noop_is_decided : done_by true [] (Meta Noop) ≡ Ok (Decided meta_result)
unfolding on_items
noop_is_decided = refl

end_host_is_decided : planned_by [] (Meta EndHost) ≡ Decided meta_result
unfolding on_items
end_host_is_decided = refl
