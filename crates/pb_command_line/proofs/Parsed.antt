-- What a parse by a command that reads as the program's says of the words.
use Rattle.std.proofs.Common.{◌≡◌, ◌∙◌, List, [], true, Result, Ok, Err, IfOk, IfErr, refl, sym, ap, subst, inl, inr}
use Rattle.std.specs.Prelude.{Option, Some, codes}
use Rattle.clap.specs.Words.{App, HasKind, HasMatchesOf, IsAmong, Text, fault_of, first_of, first_value, found_of, is_simple, is_simple_and_free, kind_of}
use Rattle.clap.specs.declared.error.Error.{Error}
use Rattle.clap.specs.declared.parser.matches.ArgMatches.{ArgMatches}
use Rattle.clap.proofs.OnLiterals.{clap_on_literals}
use Rattle.clap.proofs.WalkLemmas.{first_value-rows}
use Rattle.pb_command_line.specs.CommandLine.{program, value_in, errors_in, AreForks, NoForks, IsStop, NoStop, IsSameUnder, AskFor, AreRefused, Asks, IsRefused, TellsKind, is_true, purpose_of, AreNumbers, texts_of, flags_of, request_of}
use Rattle.pb_command_line.specs.declared.words.Request.{Request}
use Rattle.pb_command_line.specs.declared.words.Numbers.{Numbers}
use Rattle.pb_command_line.specs.declared.words.Flags.{Flags}
use Rattle.pb_command_line.specs.declared.words.Texts.{Texts}
use Rattle.pb_command_line.specs.declared.words.WordsFault.{WordsFault}
use Rattle.pb_command_line.specs.declared.words.WordsFault.TheVariants.{Help, Wrong, Missing, Memory}

-- the request that the values make
pub asked_for : (value : Text → Option Text) (inventory playbook : Text) (texts : Texts) (numbers : Numbers) (flags : Flags) (request : Request) → value (codes "inventory") ≡ Some inventory → value (codes "playbook") ≡ Some playbook
    → AreNumbers value numbers → texts ≡ texts_of value inventory playbook → flags ≡ flags_of value → request ≡ request_of texts numbers flags → AskFor value request
asked_for value inventory playbook texts numbers flags request file book counted texts_are flagged is =
    subst (AskFor value) (sym (is ∙ ap (λ (t : Texts). request_of t numbers flags) texts_are ∙ ap (λ (f : Flags). request_of (texts_of value inventory playbook) numbers f) flagged))
    (file, book, counted.0, refl, refl, refl, refl, refl, counted.1, counted.2, refl, refl, refl, refl, refl, refl)

program_simple : is_simple program ≡ true
unfolding clap_on_literals
program_simple = refl

program_free : is_simple_and_free program ≡ true
unfolding clap_on_literals
program_free = refl

-- the words give an argument what the parse found for it
read : (app : App) (m : ArgMatches) (words : List Text) (id : Text) → app ≡ program → HasMatchesOf app words m → first_value (found_of m) id ≡ value_in id words
unfolding value_in
read app m words id is has =
    let rows = (subst (λ (a : App). HasMatchesOf a words m) is has program_simple).0 in
    sym (ap (first_of id) (sym rows) ∙ sym (first_value-rows (found_of m) id))

none_met : (app : App) (words : List Text) → app ≡ program → (is_simple_and_free app ≡ true → fault_of app words ≡ []) → errors_in words ≡ []
unfolding errors_in
none_met app words is none = subst (λ (a : App). is_simple_and_free a ≡ true → fault_of a words ≡ []) is none program_free

request_met : (app : App) (m : ArgMatches) (words : List Text) (request : Request) → app ≡ program → (is_simple_and_free app ≡ true → fault_of app words ≡ []) → HasMatchesOf app words m
    → AskFor (first_value (found_of m)) request → Asks words request
request_met app m words request is none has asked =
    let same = λ (id : Text). read app m words id is has in (
      none_met app words is none,
      (
        sym (same (codes "inventory")) ∙ asked.0,
        sym (same (codes "playbook")) ∙ asked.1,
        subst (λ (found : Option Text). AreForks found request.forks) (same (codes "forks")) asked.2,
        sym (same (codes "outcomes")) ∙ asked.3,
        sym (same (codes "limit")) ∙ asked.4,
        sym (same (codes "extra")) ∙ asked.5,
        sym (same (codes "roles")) ∙ asked.6,
        sym (same (codes "facts_program")) ∙ asked.7,
        subst (λ (found : Option Text). IsStop found request.stop_after) (same (codes "stop_after")) asked.8,
        subst (λ (found : Option Text). IsSameUnder found request.same_under) (same (codes "same_under")) asked.9,
        sym (same (codes "failed")) ∙ asked.10,
        sym (same (codes "trail")) ∙ asked.11,
        sym (same (codes "audit")) ∙ asked.12,
        subst (λ (found : Option Text). is_true found ≡ request.strict) (same (codes "strict")) asked.13,
        subst (λ (found : Option Text). is_true found ≡ request.places) (same (codes "where")) asked.14,
        subst (λ (found : Option Text). purpose_of (is_true found) (is_true (value_in (codes "list_hosts") words)) ≡ request.purpose) (same (codes "syntax_check"))
            (subst (λ (found : Option Text). purpose_of (is_true (first_value (found_of m) (codes "syntax_check"))) (is_true found) ≡ request.purpose) (same (codes "list_hosts")) asked.15),
      ),
    )

pub value_answered : (app : App) (m : ArgMatches) (words : List Text) (result : Result Request WordsFault) → app ≡ program → (is_simple_and_free app ≡ true → fault_of app words ≡ []) → HasMatchesOf app words m
    → IfOk result (AskFor (first_value (found_of m))) → IfOk result (Asks words)
value_answered app m words (Ok request) is none has asked = request_met app m words request is none has asked
value_answered app m words (Err w) is none has asked = tt

-- values that ask for nothing
values_refused : (app : App) (m : ArgMatches) (words : List Text) (w : WordsFault) → app ≡ program → HasMatchesOf app words m → AreRefused (first_value (found_of m)) w → IsRefused words w
values_refused app m words (Help text) is has refused = absurd refused
values_refused app m words (Wrong text) is has (inl refused) = inr (inl (subst NoForks (read app m words (codes "forks") is has) refused))
values_refused app m words (Wrong text) is has (inr (inl refused)) = inr (inr (inl (subst NoStop (read app m words (codes "stop_after") is has) refused)))
values_refused app m words (Wrong text) is has (inr (inr refused)) = inr (inr (inr (subst NoForks (read app m words (codes "same_under") is has) refused)))
values_refused app m words Missing is has (inl none) = inl (sym (read app m words (codes "inventory") is has) ∙ none)
values_refused app m words Missing is has (inr none) = inr (sym (read app m words (codes "playbook") is has) ∙ none)
values_refused app m words Memory is has refused = tt

pub fault_answered : (app : App) (m : ArgMatches) (words : List Text) (result : Result Request WordsFault) → app ≡ program → HasMatchesOf app words m → IfErr result (AreRefused (first_value (found_of m)))
    → IfErr result (IsRefused words)
fault_answered app m words (Ok request) is has refused = tt
fault_answered app m words (Err w) is has refused = values_refused app m words w is has refused

refused : (words : List Text) (e : Error) (w : WordsFault) → HasKind (errors_in words) e → TellsKind (kind_of e) w → IsRefused words w
refused words e (Help text) (inl memory) tells = cc
refused words e (Help text) (inr among) tells = subst (λ k. IsAmong k (errors_in words)) tells among
refused words e (Wrong text) (inl memory) tells = absurd (tells.1 memory)
refused words e (Wrong text) (inr among) tells = inl (kind_of e, among, tells.0)
refused words e Missing has tells = absurd tells
refused words e Memory has tells = tt

pub error_met : (app : App) (words : List Text) (e : Error) (w : WordsFault) → app ≡ program → (is_simple_and_free app ≡ true → HasKind (fault_of app words) e)
    → TellsKind (kind_of e) w → IsRefused words w
unfolding errors_in
error_met app words e w is has tells =
    refused words e w (subst (λ (a : App). is_simple_and_free a ≡ true → HasKind (fault_of a words) e) is has program_free) tells
