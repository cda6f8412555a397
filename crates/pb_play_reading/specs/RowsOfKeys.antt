-- Worked values of single keys and modules: what stands at the path `p`, as JSON spells it, and what it is read as.
use Rattle.std.specs.Prelude.{◌≡◌, ⊤, ℕ, true, false, List, [], ◌∷◌, Option, Some, None, Ok, Err, codes, option_map, pos, negsuc, refl}
use Rattle.std.specs.Fmt.{digits}
use Rattle.std.specs.Str.{chars, is_utf8}
use Rattle.std.specs.Str.Lossy.{utf8_valid_len}
use Rattle.serde_json.proofs.OnLiterals.{serde_json_on_literals}
use Rattle.serde_json.specs.Data as json
use Rattle.pb_value.specs.Bytes.{json_in}
use Rattle.pb_value.specs.Datum.{null, int, text, list, no_items, item}
use Rattle.pb_value.specs.FromJson.{value_of}
use Rattle.pb_batches.specs.declared.serial.Entry.TheVariants.{Number, Percent}
use Rattle.pb_expr_syntax.specs.Computed.{tree_of, tree_of_tokens}
use Rattle.pb_expr_syntax.specs.Tree.{Name, Truth, IsDefined}
use Rattle.pb_template.specs.Computed.{template_of}
use Rattle.pb_reading.specs.Fields.{field, others}
use Rattle.pb_reading.specs.Reading.{Reading, WrongShape, Own}
use Rattle.pb_written.specs.Simple.{switched}
use Rattle.pb_written.specs.Templates.{is_template}
use Rattle.pb_play_reading.specs.Assert.{assert}
use Rattle.pb_play_reading.specs.Batches.{serial, sizes}
use Rattle.pb_written.specs.Conditions.{conditions}
use Rattle.pb_play_reading.specs.Facts.{set_fact, setup}
use Rattle.pb_play_reading.specs.Gathering.{begun}
use Rattle.pb_play_reading.specs.Loops.{over, control, looped}
use Rattle.pb_play.specs.Nodes.{Nothing, Task}
use Rattle.pb_play_reading.specs.Percentages.{percentage}
use Rattle.pb_play_reading.specs.Strategies.{strategy}
use Rattle.pb_play.specs.Tasks.{plain_task}
use Rattle.pb_play_reading.specs.Throttles.{throttle}
use Rattle.pb_strategies.specs.declared.strategy.Strategy.TheVariants.{Linear, Free, HostPinned}
use Rattle.pb_written.specs.declared.fault.LoadFault.{LoadFault}
use Rattle.pb_written.specs.declared.fault.LoadFault.TheVariants.{NotInProfile, BadExpression, BadSerial, BadStrategy}
use Rattle.pb_play.specs.declared.modules.Module.TheVariants.{Assert, Debug, SetFact, Setup}

-- what computes a row from its text
unfoldable on_literals : ⊤
unfolding field others conditions is_template template_of tree_of tree_of_tokens json_in utf8_valid_len is_utf8 chars digits value_of serde_json_on_literals
on_literals = tt

-- what JSON is read as that stands at the path `p`
abbrev read : {A : Type 0} → (List ℕ → json.Data → Reading A LoadFault) → List ℕ → Option (Reading A LoadFault)
read reads s = option_map (reads (codes "p")) (json_in s)

-- a condition is an expression, or is true or false as it stands
condition : read conditions (codes "\"x is defined\"") ≡ Some (Ok (IsDefined (Name (codes "x")) true ∷ []))
unfolding on_literals
condition = refl

never : read conditions (codes "false") ≡ Some (Ok (Truth false ∷ []))
unfolding on_literals
never = refl

several_conditions : read conditions (codes "[\"a\",true,\"b\"]") ≡ Some (Ok (Name (codes "a") ∷ Truth true ∷ Name (codes "b") ∷ []))
unfolding on_literals
several_conditions = refl

no_condition : read conditions (codes "[]") ≡ Some (Ok [])
unfolding on_literals
no_condition = refl

-- an expression stands without braces
condition_in_braces : read conditions (codes "[\"a\",\"{{ b }}\"]") ≡ Some (Err (Own (BadExpression (codes "p/1"))))
unfolding on_literals
condition_in_braces = refl

number_as_condition : read conditions (codes "1") ≡ Some (Err (WrongShape (codes "p")))
unfolding on_literals
number_as_condition = refl

list_in_conditions : read conditions (codes "[\"a\",[\"b\"]]") ≡ Some (Err (WrongShape (codes "p/1")))
unfolding on_literals
list_in_conditions = refl

-- a loop goes over a list, or over what a text gives when the task starts
loop_over_list : read over (codes "[\"{{ x }}\",1]") ≡ Some (Ok (list (item (text (codes "{{ x }}")) (item (int (pos 1)) no_items))))
unfolding on_literals
loop_over_list = refl

loop_over_text : read over (codes "\"abc\"") ≡ Some (Ok (text (codes "abc")))
unfolding on_literals
loop_over_text = refl

loop_over_object : read over (codes "{}") ≡ Some (Err (WrongShape (codes "p")))
unfolding on_literals
loop_over_object = refl

-- a list is one value, with one path
loop_over_fraction : read over (codes "[1,1.5]") ≡ Some (Err (WrongShape (codes "p")))
unfolding on_literals
loop_over_fraction = refl

loop_over_statement : read over (codes "\"{% x\"") ≡ Some (Err (Own (BadExpression (codes "p"))))
unfolding on_literals
loop_over_statement = refl

-- the loop's variable is `item` where none is named; what is shown of a member isn't read
no_loop_variable : read control (codes "{\"label\":1.5}") ≡ Some (Ok (codes "item"))
unfolding on_literals
no_loop_variable = refl

all_of_loop_control : read control (codes "{\"label\":\"{{\",\"loop_var\":\"x\"}") ≡ Some (Ok (codes "x"))
unfolding on_literals
all_of_loop_control = refl

no_name_of_loop_variable : read control (codes "{\"loop_var\":\"a-b\"}") ≡ Some (Err (WrongShape (codes "p/loop_var")))
unfolding on_literals
no_name_of_loop_variable = refl

other_loop_control : read control (codes "{\"loop_var\":1,\"index_var\":\"i\"}") ≡ Some (Err (Own (NotInProfile (codes "index_var") (codes "p/index_var"))))
unfolding on_literals
other_loop_control = refl

no_loop_control : read control (codes "\"x\"") ≡ Some (Err (WrongShape (codes "p")))
unfolding on_literals
no_loop_control = refl

-- a variable without a loop is no loop
no_loop : looped None (codes "x") ≡ None
no_loop = refl

-- `assert` has conditions, and messages of its own
all_of_assert : read assert (codes "{\"fail_msg\":[1],\"success_msg\":\"{{ a }}\",\"that\":[\"a\"]}")
    ≡ Some (Ok (Assert (Name (codes "a") ∷ []) (list (item (int (pos 1)) no_items)) (text (codes "{{ a }}"))))
unfolding on_literals
all_of_assert = refl

nothing_said : read assert (codes "{\"that\":true}") ≡ Some (Ok (Assert (Truth true ∷ []) (text (codes "Assertion failed")) (text (codes "All assertions passed"))))
unfolding on_literals
nothing_said = refl

other_name_of_message : read assert (codes "{\"msg\":null,\"that\":\"a\"}") ≡ Some (Ok (Assert (Name (codes "a") ∷ []) null (text (codes "All assertions passed"))))
unfolding on_literals
other_name_of_message = refl

-- all arguments at once: one message has two names there
two_messages : read assert (codes "{\"fail_msg\":1,\"msg\":2,\"success_msg\":3,\"that\":\"a\"}") ≡ Some (Err (WrongShape (codes "p")))
unfolding on_literals
two_messages = refl

nothing_asserted : read assert (codes "{\"msg\":\"a\"}") ≡ Some (Err (WrongShape (codes "p")))
unfolding on_literals
nothing_asserted = refl

other_argument_of_assert : read assert (codes "{\"quiet\":true,\"that\":1}") ≡ Some (Err (Own (NotInProfile (codes "quiet") (codes "p/quiet"))))
unfolding on_literals
other_argument_of_assert = refl

no_condition_of_assert : read assert (codes "{\"that\":[[]]}") ≡ Some (Err (WrongShape (codes "p/that/0")))
unfolding on_literals
no_condition_of_assert = refl

-- `set_fact` has names and values, as they are written
facts : read set_fact (codes "{\"b\":1,\"a\":\"{{ x }}\"}") ≡ Some (Ok (SetFact ((codes "a", text (codes "{{ x }}")) ∷ (codes "b", int (pos 1)) ∷ [])))
unfolding on_literals
facts = refl

no_facts : read set_fact (codes "{}") ≡ Some (Ok (SetFact []))
unfolding on_literals
no_facts = refl

cacheable_fact : read set_fact (codes "{\"cacheable\":true,\"a b\":1}") ≡ Some (Err (WrongShape (codes "p/a b")))
unfolding on_literals
cacheable_fact = refl

kept_facts : read set_fact (codes "{\"a\":1,\"cacheable\":false}") ≡ Some (Err (Own (NotInProfile (codes "cacheable") (codes "p/cacheable"))))
unfolding on_literals
kept_facts = refl

fact_of_fraction : read set_fact (codes "{\"a\":[1.5]}") ≡ Some (Err (WrongShape (codes "p/a")))
unfolding on_literals
fact_of_fraction = refl

fact_of_statement : read set_fact (codes "{\"a\":\"{% x\"}") ≡ Some (Err (Own (BadExpression (codes "p/a"))))
unfolding on_literals
fact_of_statement = refl

no_object_of_facts : read set_fact (codes "[]") ≡ Some (Err (WrongShape (codes "p")))
unfolding on_literals
no_object_of_facts = refl

-- `setup` has no arguments
gathers : read setup (codes "{}") ≡ Some (Ok Setup)
unfolding on_literals
gathers = refl

gathers_some : read setup (codes "{\"filter\":\"os\"}") ≡ Some (Err (Own (NotInProfile (codes "filter") (codes "p/filter"))))
unfolding on_literals
gathers_some = refl

gathers_nothing : read setup (codes "null") ≡ Some (Err (WrongShape (codes "p")))
unfolding on_literals
gathers_nothing = refl

-- gathering is a switch; it is the first task of a play
no_switch : read switched (codes "1") ≡ Some (Err (WrongShape (codes "p")))
unfolding on_literals
no_switch = refl

switched_off : read switched (codes "\"no\"") ≡ Some (Ok false)
unfolding on_literals
switched_off = refl

gathers_first : begun true (Task (plain_task (codes "a") [] (Debug null)) Nothing) ≡ Task (plain_task (codes "Gathering Facts") [] Setup) (Task (plain_task (codes "a") [] (Debug null)) Nothing)
gathers_first = refl

gathers_not : begun false Nothing ≡ Nothing
gathers_not = refl

-- the size of a play's batches is an integer, or digits, perhaps with `%` behind them; or a list of these
one_size : read serial (codes "2") ≡ Some (Ok (sizes (Number (pos 2) ∷ [])))
unfolding on_literals
one_size = refl

size_as_text : read serial (codes "\"20\"") ≡ Some (Ok (sizes (Number (pos 20) ∷ [])))
unfolding on_literals
size_as_text = refl

size_in_hundredths : read serial (codes "\"030%\"") ≡ Some (Ok (sizes (Percent 30 ∷ [])))
unfolding on_literals
size_in_hundredths = refl

several_sizes : read serial (codes "[1,\"30%\",\"005\"]") ≡ Some (Ok (sizes (Number (pos 1) ∷ Percent 30 ∷ Number (pos 5) ∷ [])))
unfolding on_literals
several_sizes = refl

no_sizes : read serial (codes "[]") ≡ Some (Ok (sizes []))
unfolding on_literals
no_sizes = refl

size_below_none : read serial (codes "-1") ≡ Some (Ok (sizes (Number (negsuc 0) ∷ [])))
unfolding on_literals
size_below_none = refl

largest_size : read serial (codes "[\"999999999\",\"999999999%\"]") ≡ Some (Ok (sizes (Number (pos 999999999) ∷ Percent 999999999 ∷ [])))
unfolding on_literals
largest_size = refl

-- whatever else stands there is no size
ten_digits : read serial (codes "\"1000000000\"") ≡ Some (Err (Own (BadSerial (codes "p"))))
unfolding on_literals
ten_digits = refl

fraction_of_hosts : read serial (codes "1.5") ≡ Some (Err (Own (BadSerial (codes "p"))))
unfolding on_literals
fraction_of_hosts = refl

size_of_nothing : read serial (codes "null") ≡ Some (Err (Own (BadSerial (codes "p"))))
unfolding on_literals
size_of_nothing = refl

size_of_object : read serial (codes "{}") ≡ Some (Err (Own (BadSerial (codes "p"))))
unfolding on_literals
size_of_object = refl

word_as_size : read serial (codes "\"x\"") ≡ Some (Err (Own (BadSerial (codes "p"))))
unfolding on_literals
word_as_size = refl

no_digits : read serial (codes "\"\"") ≡ Some (Err (Own (BadSerial (codes "p"))))
unfolding on_literals
no_digits = refl

hundredths_of_nothing : read serial (codes "\"%\"") ≡ Some (Err (Own (BadSerial (codes "p"))))
unfolding on_literals
hundredths_of_nothing = refl

signed_digits : read serial (codes "\"-1\"") ≡ Some (Err (Own (BadSerial (codes "p"))))
unfolding on_literals
signed_digits = refl

behind_hundredths : read serial (codes "\"5%%\"") ≡ Some (Err (Own (BadSerial (codes "p"))))
unfolding on_literals
behind_hundredths = refl

list_of_sizes_in_list : read serial (codes "[1,[2]]") ≡ Some (Err (Own (BadSerial (codes "p/1"))))
unfolding on_literals
list_of_sizes_in_list = refl

-- a strategy has one of three names
linear_strategy : read strategy (codes "\"linear\"") ≡ Some (Ok Linear)
unfolding on_literals
linear_strategy = refl

free_strategy : read strategy (codes "\"free\"") ≡ Some (Ok Free)
unfolding on_literals
free_strategy = refl

pinned_strategy : read strategy (codes "\"host_pinned\"") ≡ Some (Ok HostPinned)
unfolding on_literals
pinned_strategy = refl

strategy_in_capitals : read strategy (codes "\"Linear\"") ≡ Some (Err (Own (BadStrategy (codes "p"))))
unfolding on_literals
strategy_in_capitals = refl

strategy_with_prefix : read strategy (codes "\"ansible.builtin.free\"") ≡ Some (Err (Own (BadStrategy (codes "p"))))
unfolding on_literals
strategy_with_prefix = refl

number_as_strategy : read strategy (codes "1.5") ≡ Some (Err (Own (BadStrategy (codes "p"))))
unfolding on_literals
number_as_strategy = refl

-- a throttle is an integer that isn't negative
some_at_once : read throttle (codes "5") ≡ Some (Ok 5)
unfolding on_literals
some_at_once = refl

all_at_once : read throttle (codes "0") ≡ Some (Ok 0)
unfolding on_literals
all_at_once = refl

more_than_there_are : read throttle (codes "4294967296") ≡ Some (Ok 4294967295)
unfolding on_literals
more_than_there_are = refl

fewer_than_none : read throttle (codes "-1") ≡ Some (Err (WrongShape (codes "p")))
unfolding on_literals
fewer_than_none = refl

beyond_integers : read throttle (codes "9223372036854775808") ≡ Some (Err (WrongShape (codes "p")))
unfolding on_literals
beyond_integers = refl

digits_as_throttle : read throttle (codes "\"1\"") ≡ Some (Err (WrongShape (codes "p")))
unfolding on_literals
digits_as_throttle = refl

-- a percentage is an integer from 0 to 100
none_may_fail : read percentage (codes "0") ≡ Some (Ok 0)
unfolding on_literals
none_may_fail = refl

all_may_fail : read percentage (codes "100") ≡ Some (Ok 100)
unfolding on_literals
all_may_fail = refl

more_than_all : read percentage (codes "101") ≡ Some (Err (WrongShape (codes "p")))
unfolding on_literals
more_than_all = refl

less_than_none : read percentage (codes "-1") ≡ Some (Err (WrongShape (codes "p")))
unfolding on_literals
less_than_none = refl

part_of_one : read percentage (codes "49.5") ≡ Some (Err (WrongShape (codes "p")))
unfolding on_literals
part_of_one = refl

text_as_percentage : read percentage (codes "\"50%\"") ≡ Some (Err (WrongShape (codes "p")))
unfolding on_literals
text_as_percentage = refl
