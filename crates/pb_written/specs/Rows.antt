-- Worked examples: each is proved by computing both sides.
use Rattle.std.specs.Prelude.{◌≡◌, ℕ, true, false, List, [], Some, None, Ok, Err, codes, refl}
use Rattle.serde_json.specs.Data as json
use Rattle.pb_expr_syntax.specs.Computed.{tree_of, tree_of_tokens}
use Rattle.pb_reading.specs.Reading.{WrongShape}
use Rattle.pb_template.specs.Computed.{template_of}
use Rattle.pb_written.specs.Faults.{place_of}
use Rattle.pb_written.specs.Simple.{switched, variable_name}
use Rattle.pb_written.specs.Tags.{has_never}
use Rattle.pb_written.specs.Templates.{is_template, are_templates}
use Rattle.pb_written.specs.declared.fault.LoadFault.TheVariants as load

-- a text, and a list of two values
abbrev text : List ℕ → json.Data
text s = json.string s

abbrev two : json.Data → json.Data → json.Data
two c d = json.array (json.item c (json.item d json.no_items))

-- a fault that no reading here has
data NoFault : Type 0 where

on_by_word : switched {F = NoFault} (codes "p") (text (codes "YES")) ≡ Ok true
on_by_word = refl

off_by_word : switched {F = NoFault} (codes "p") (text (codes "Off")) ≡ Ok false
off_by_word = refl

off_as_it_stands : switched {F = NoFault} (codes "p") (json.boolean false) ≡ Ok false
off_as_it_stands = refl

no_switch : switched {F = NoFault} (codes "p") (text (codes "1")) ≡ Err (WrongShape (codes "p"))
no_switch = refl

name : variable_name {F = NoFault} (codes "p") (text (codes "_a1")) ≡ Ok (codes "_a1")
name = refl

no_digit_in_front : variable_name {F = NoFault} (codes "p") (text (codes "1a")) ≡ Err (WrongShape (codes "p"))
no_digit_in_front = refl

no_text : variable_name {F = NoFault} (codes "p") (json.boolean true) ≡ Err (WrongShape (codes "p"))
no_text = refl

-- tags are cut at commas, with spaces round them; a list has texts, and what is no text is no tag
never : has_never (text (codes "a, never ,b")) ≡ true
never = refl

never_in_list : has_never (two json.null (text (codes "never"))) ≡ true
never_in_list = refl

longer_tag : has_never (two (text (codes "nevermore")) (text (codes "a never"))) ≡ false
longer_tag = refl

plain_text : is_template (codes "a }} b") ≡ true
unfolding is_template template_of
plain_text = refl

expression : is_template (codes "a {{ x }}") ≡ true
unfolding is_template template_of tree_of tree_of_tokens
expression = refl

statement : is_template (codes "a {% x") ≡ false
unfolding is_template template_of
statement = refl

-- keys don't count
all_texts : are_templates (two json.null (json.object (json.member (codes "{% x") (text (codes "a")) json.no_members))) ≡ true
unfolding is_template template_of
all_texts = refl

one_text : are_templates (two (two (text (codes "a")) (text (codes "{{ }}"))) json.null) ≡ false
unfolding is_template template_of tree_of tree_of_tokens
one_text = refl

-- where faults stand: one of the whole file stands at no place in it
place : place_of (load.NotInProfile (codes "become") (codes "0/tasks/1/become")) ≡ Some (codes "0/tasks/1/become")
place = refl

no_place : place_of (load.WrongShape []) ≡ None
no_place = refl
