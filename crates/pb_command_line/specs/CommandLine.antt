-- What the words of the command line mean: `pb-play -i FILE [-f N] [-l PATTERN] [-e JSON] [--roles DIR] [--facts-program PATH] [--outcomes FILE] [--stop-after N] [--same-under M] [--failed FILE] [--trail FILE]
-- [--audit TRAIL] [--syntax-check] [--list-hosts] [--strict] [--where] PLAYBOOK`, and `--help`.
-- clap's own definitions say how words are read; the program's arguments are stated here. std's say how a number is read.
use Rattle.std.specs.Prelude.{◌≡◌, ◌≢◌, ◌⊎◌, ◌≤◌, ℕ, Bool, true, false, List, [], ◌∷◌, Some, None, Option, codes}
use Rattle.std.specs.Str.{bytes_eq}
use Rattle.std.specs.Str.Parse.{IsNumeral, digits_value, without_leading_plus}
use Rattle.clap.specs.Words.{App, IsAmong, Kinds, Rule, Text, fault_of, first_of, matches_of, new_app, new_rule, with_rule}
use Rattle.clap.specs.declared.error.kind.ErrorKind.{ErrorKind}
use Rattle.clap.specs.declared.error.kind.ErrorKind.TheVariants.{DisplayHelp, OutOfMemory}
use Rattle.clap.specs.declared.builder.action.ArgAction.TheVariants.{SetTrue}
use Rattle.pb_command_line.specs.declared.words.Request.{Request}
use Rattle.pb_command_line.specs.declared.words.Numbers.{Numbers}
use Rattle.pb_command_line.specs.declared.words.Flags.{Flags}
use Rattle.pb_command_line.specs.declared.words.Texts.{Texts}
use Rattle.pb_command_line.specs.declared.words.Purpose.{Purpose}
use Rattle.pb_command_line.specs.declared.words.Purpose.TheVariants.{Run, CheckSyntax, ListHosts}
use Rattle.pb_command_line.specs.declared.words.WordsFault.{WordsFault}
use Rattle.pb_command_line.specs.declared.words.WordsFault.TheVariants.{Help, Wrong, Missing, Memory}

-- `-i FILE`, the inventory; 105 is `i`
abbrev pub inventory : Rule
inventory = record (new_rule (codes "inventory")) { short = Some 105; value_names = 1; required = true }

-- `PLAYBOOK`
abbrev pub playbook : Rule
playbook = record (new_rule (codes "playbook")) { value_names = 1; required = true }

-- `-f N`; 102 is `f`
abbrev pub forks : Rule
forks = record (new_rule (codes "forks")) { short = Some 102; value_names = 1 }

-- `--outcomes FILE`
abbrev pub outcomes : Rule
outcomes = record (new_rule (codes "outcomes")) { long = Some (codes "outcomes"); value_names = 1 }

-- `-l PATTERN`; 108 is `l`
abbrev pub limit : Rule
limit = record (new_rule (codes "limit")) { short = Some 108; value_names = 1 }

-- `-e JSON`; 101 is `e`
abbrev pub extra : Rule
extra = record (new_rule (codes "extra")) { short = Some 101; value_names = 1 }

-- `--roles DIR`
abbrev pub roles : Rule
roles = record (new_rule (codes "roles")) { long = Some (codes "roles"); value_names = 1 }

-- `--facts-program PATH`
abbrev pub facts_program : Rule
facts_program = record (new_rule (codes "facts_program")) { long = Some (codes "facts-program"); value_names = 1 }

-- `--stop-after N`
abbrev pub stop_after : Rule
stop_after = record (new_rule (codes "stop_after")) { long = Some (codes "stop-after"); value_names = 1 }

-- `--same-under M`
abbrev pub same_under : Rule
same_under = record (new_rule (codes "same_under")) { long = Some (codes "same-under"); value_names = 1 }

-- `--failed FILE`
abbrev pub failed : Rule
failed = record (new_rule (codes "failed")) { long = Some (codes "failed"); value_names = 1 }

-- `--trail FILE`
abbrev pub trail : Rule
trail = record (new_rule (codes "trail")) { long = Some (codes "trail"); value_names = 1 }

-- `--audit TRAIL`
abbrev pub audit : Rule
audit = record (new_rule (codes "audit")) { long = Some (codes "audit"); value_names = 1 }

-- `--syntax-check`
abbrev pub syntax_check : Rule
syntax_check = record (new_rule (codes "syntax_check")) { long = Some (codes "syntax-check"); action = Some SetTrue }

-- `--list-hosts`
abbrev pub list_hosts : Rule
list_hosts = record (new_rule (codes "list_hosts")) { long = Some (codes "list-hosts"); action = Some SetTrue }

-- `--strict`
abbrev pub strict : Rule
strict = record (new_rule (codes "strict")) { long = Some (codes "strict"); action = Some SetTrue }

-- `--where`
abbrev pub places : Rule
places = record (new_rule (codes "where")) { long = Some (codes "where"); action = Some SetTrue }

-- all of them, in the order of the help
abbrev pub rules : List Rule
rules = inventory ∷ playbook ∷ forks ∷ outcomes ∷ limit ∷ extra ∷ roles ∷ facts_program ∷ stop_after ∷ same_under ∷ failed ∷ trail ∷ audit ∷ syntax_check ∷ list_hosts ∷ strict ∷ places ∷ []

-- an app with more arguments, one after another
abbrev pub with_rules : App → List Rule → App
with_rules app [] = app
with_rules app (rule ∷ more) = with_rules (with_rule app rule) more

-- the program's command line: its name, and all of its arguments
abbrev pub program : App
program = with_rules (new_app (codes "pb-play")) rules

-- what the words, the first of which is the program's name, give an argument
unfoldable pub value_in : Text → List Text → Option Text
value_in id words = first_of id (matches_of program words)

-- the kinds of errors that the words have; none where they are the program's
unfoldable pub errors_in : List Text → Kinds
errors_in words = fault_of program words

-- a flag that is given has the value `true`
abbrev pub is_true : Option Text → Bool
is_true None = false
is_true (Some text) = bytes_eq text (codes "true")

-- what the plan is made for: the check of the syntax goes before the list of hosts
abbrev pub purpose_of : Bool → Bool → Purpose
purpose_of true lists = CheckSyntax
purpose_of false true = ListHosts
purpose_of false false = Run

-- a number from 1 to 256, in decimal digits, with a plus sign before them or none
abbrev pub IsCount : Text → ℕ → Type 0
IsCount text n = IsNumeral 10 (without_leading_plus text) × (n ≡ digits_value 10 (without_leading_plus text)) × (1 ≤ n) × (n ≤ 256)

-- as many hosts at once as are written, 5 where nothing is
abbrev pub AreForks : Option Text → ℕ → Type 0
AreForks None n = n ≡ 5
AreForks (Some text) n = IsCount text n

-- a number from 0 to 4,294,967,295, written so
abbrev pub IsReportCount : Text → ℕ → Type 0
IsReportCount text n = IsNumeral 10 (without_leading_plus text) × (n ≡ digits_value 10 (without_leading_plus text)) × (n ≤ 4294967295)

-- after how many reports the run is stopped, if that is written
abbrev pub IsStop : Option Text → Option ℕ → Type 0
IsStop None stop = stop ≡ None
IsStop (Some text) None = ⊥
IsStop (Some text) (Some n) = IsReportCount text n

-- with how many forks the run is done once more, if that is written
abbrev pub IsSameUnder : Option Text → Option ℕ → Type 0
IsSameUnder None under = under ≡ None
IsSameUnder (Some text) None = ⊥
IsSameUnder (Some text) (Some n) = IsCount text n

-- what is written is no such number
abbrev pub IsNoCount : Text → Type 0
IsNoCount text = (n : ℕ) → IsCount text n → ⊥

-- what is written as a number of forks, of the run or of the one more, is no such number
abbrev pub NoForks : Option Text → Type 0
NoForks None = ⊥
NoForks (Some text) = IsNoCount text

-- what is written is no number of reports
abbrev pub IsNoReportCount : Text → Type 0
IsNoReportCount text = (n : ℕ) → IsReportCount text n → ⊥

-- what is written as the number of reports after which the run is stopped is no such number
abbrev pub NoStop : Option Text → Type 0
NoStop None = ⊥
NoStop (Some text) = IsNoReportCount text

-- how a number that is none is reported
abbrev pub IsBadNumber : WordsFault → Type 0
IsBadNumber (Help text) = ⊥
IsBadNumber (Wrong text) = Unit
IsBadNumber Missing = ⊥
IsBadNumber Memory = Unit

-- what the values of the arguments, each by its name, ask for: these files, so many forks, this limit, these extra variables, this folder of roles, this facts program,
-- this many reports until the run is stopped, so many forks with which it is done once more, this file for the hosts that didn't get through, this file for its trail, this trail to be looked at, whether warnings are faults,
-- whether faults are reported with their places, and this purpose
abbrev pub AskFor : (Text → Option Text) → Request → Type 0
AskFor value request = (value (codes "inventory") ≡ Some request.inventory) × (value (codes "playbook") ≡ Some request.playbook)
    × AreForks (value (codes "forks")) request.forks × (value (codes "outcomes") ≡ request.outcomes)
    × (value (codes "limit") ≡ request.limit) × (value (codes "extra") ≡ request.extra) × (value (codes "roles") ≡ request.roles)
    × (value (codes "facts_program") ≡ request.facts_program) × IsStop (value (codes "stop_after")) request.stop_after
    × IsSameUnder (value (codes "same_under")) request.same_under
    × (value (codes "failed") ≡ request.failed) × (value (codes "trail") ≡ request.trail) × (value (codes "audit") ≡ request.audit)
    × (is_true (value (codes "strict")) ≡ request.strict) × (is_true (value (codes "where")) ≡ request.places)
    × (purpose_of (is_true (value (codes "syntax_check"))) (is_true (value (codes "list_hosts"))) ≡ request.purpose)

-- the numbers, the texts and the flags among the values, and the request that they make
abbrev pub AreNumbers : (Text → Option Text) → Numbers → Type 0
AreNumbers value numbers = AreForks (value (codes "forks")) numbers.forks × IsStop (value (codes "stop_after")) numbers.stop_after × IsSameUnder (value (codes "same_under")) numbers.same_under

abbrev pub texts_of : (Text → Option Text) → Text → Text → Texts
texts_of value inventory playbook =
    record {
      inventory = inventory;
      playbook = playbook;
      outcomes = value (codes "outcomes");
      limit = value (codes "limit");
      extra = value (codes "extra");
      roles = value (codes "roles");
      facts_program = value (codes "facts_program");
      failed = value (codes "failed");
      trail = value (codes "trail");
      audit = value (codes "audit");
    }

abbrev pub flags_of : (Text → Option Text) → Flags
flags_of value =
    record {
      strict = is_true (value (codes "strict"));
      places = is_true (value (codes "where"));
      purpose = purpose_of (is_true (value (codes "syntax_check"))) (is_true (value (codes "list_hosts")));
    }

abbrev pub request_of : Texts → Numbers → Flags → Request
request_of texts numbers flags =
    record {
      inventory = texts.inventory;
      playbook = texts.playbook;
      forks = numbers.forks;
      outcomes = texts.outcomes;
      limit = texts.limit;
      extra = texts.extra;
      roles = texts.roles;
      facts_program = texts.facts_program;
      stop_after = numbers.stop_after;
      same_under = numbers.same_under;
      failed = texts.failed;
      trail = texts.trail;
      audit = texts.audit;
      strict = flags.strict;
      places = flags.places;
      purpose = flags.purpose;
    }

-- why values ask for nothing to be played
abbrev pub AreRefused : (Text → Option Text) → WordsFault → Type 0
AreRefused value (Help text) = ⊥
AreRefused value (Wrong text) = NoForks (value (codes "forks")) ⊎ NoStop (value (codes "stop_after")) ⊎ NoForks (value (codes "same_under"))
AreRefused value Missing = (value (codes "inventory") ≡ None) ⊎ (value (codes "playbook") ≡ None)
AreRefused value Memory = Unit

-- the words are the program's, and ask for this
abbrev pub Asks : List Text → Request → Type 0
Asks words request = (errors_in words ≡ []) × AskFor (λ id. value_in id words) request

-- how an error of that kind is reported
abbrev pub TellsKind : ErrorKind → WordsFault → Type 0
TellsKind kind (Help text) = kind ≡ DisplayHelp
TellsKind kind (Wrong text) = (kind ≢ DisplayHelp) × (kind ≢ OutOfMemory)
TellsKind kind Missing = ⊥
TellsKind kind Memory = Unit

-- why the words ask for nothing to be played
abbrev pub IsRefused : List Text → WordsFault → Type 0
IsRefused words (Help text) = IsAmong DisplayHelp (errors_in words)
IsRefused words (Wrong text) = ((kind : ErrorKind) × IsAmong kind (errors_in words) × (kind ≢ DisplayHelp)) ⊎ AreRefused (λ id. value_in id words) (Wrong text)
IsRefused words Missing = AreRefused (λ id. value_in id words) Missing
IsRefused words Memory = Unit
