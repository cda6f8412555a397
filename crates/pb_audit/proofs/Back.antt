-- What is written is read as the same events.
use Rattle.std.proofs.Common.{◌≡◌, ◌∙◌, ◌+◌, ◌<◌, ◌≤◌, ◌^◌, ℕ, pos, negsuc, true, false, List, [], ◌∷◌, ◌++◌, Ok, Some, length, take, get_or, refl, sym, ap, subst, arith, append_assoc, append-nil}
use Rattle.std.specs.Prelude.{nat_lt, flat_map, option_and_then}
use Rattle.std.specs.Str.{IsUtf8, is_utf8, chars}
use Rattle.std.proofs.lemmas.Str.{IsUtf8-from_is_utf8}
use Rattle.std.proofs.lemmas.Grind.{flat_map-append}
use Rattle.std.proofs.lemmas.List.{take_all}
use Rattle.serde_json.specs.Read.{read}
use Rattle.pb_value.proofs.JsonIn.{json_in-text}
use Rattle.std.proofs.lemmas.Bool.Decides.{nat_tests}
use Rattle.serde_json.proofs.OnLiterals.{serde_json_on_literals}
use Rattle.serde_json.specs.Data as json
use Rattle.serde_json.specs.Written.{has_float, compact_text}
use Rattle.json.specs.Print.{escape_byte}
use Rattle.std.specs.Fmt.{digits}
use Rattle.pb_value.proofs.NoFloat.{no_float}
use Rattle.pb_value.specs.Datum.{Datum, null, boolean, int, text, list, dict, Items, no_items, item, Members, no_members, member}
use Rattle.pb_value.specs.Depth.{depth, items_depth, members_depth}
use Rattle.pb_value.specs.ToJson.{json_of, items_json, members_json}
use Rattle.pb_outcome.proofs.ReadsBack.{reads_back}
use Rattle.pb_outcome.specs.Limits.{IsWithin}
use Rattle.pb_outcome.specs.Writing.{outcome_json}
use Rattle.pb_outcome.specs.declared.outcome.Form.{Form}
use Rattle.pb_outcome.specs.declared.outcome.Form.TheVariants.{Ran, Module, Unreachable, NotStarted}
use Rattle.pb_state.specs.declared.event.Event.{Event}
use Rattle.pb_state.specs.declared.event.Event.TheVariants.{Open, Start, Send, Report as Reported, Turn, Close, Stop, Forks}
use Rattle.pb_audit.proofs.Cuts.{IsOnLine, cut_behind}
use Rattle.pb_audit.proofs.Fronts.{with_next}
use Rattle.pb_audit.proofs.NoNewline.{on_line}
use Rattle.pb_audit.specs.Lines.{lines_of}
use Rattle.pb_audit.specs.Reading.{event_in, event_at, event_then, events_in, version_at, trail_of, trail_in}
use Rattle.pb_audit.specs.declared.version.Version.TheVariants.{Two}
use Rattle.pb_audit.specs.Writing.{event_json, IsInRange, IsReadBack, AreReadBack, line, header, trail_text}

-- a number of 32 bits
low : (n : ℕ) → n < 2 ^ 32 → nat_lt n (2 ^ 32) ≡ true
low n h = grind (arith, nat_tests)

-- an event's JSON is that event
pub event_back : (e : Event) → IsInRange e → event_in Two (event_json e) ≡ Some e
unfolding event_in
event_back Open h = refl
event_back (Start host) h = rw (low host.0 h) refl
event_back (Send host i attempt ticket) h = rw (low attempt h.2, low host.0 h.0, low i h.1) refl
event_back (Reported r) h = rw (low r.attempt h.2, low r.host.0 h.0, low r.item h.1, reads_back [] r.outcome h.3 h.4) refl
event_back Turn h = refl
event_back Close h = refl
event_back Stop h = refl
event_back (Forks n) h = rw (low n h) refl

-- no number in it is a float
outcome_whole : (form : Form) → has_float (outcome_json form) ≡ false
outcome_whole (Ran (pos n) out err) = refl
outcome_whole (Ran (negsuc n) out err) = refl
outcome_whole (Module v) = rw (no_float v) refl
outcome_whole (Unreachable msg) = refl
outcome_whole (NotStarted cause) = refl

pub event_whole : (e : Event) → has_float (event_json e) ≡ false
event_whole Open = refl
event_whole (Start host) = refl
event_whole (Send host i attempt ticket) = refl
event_whole (Reported r) = rw (outcome_whole r.outcome) refl
event_whole Turn = refl
event_whole Close = refl
event_whole Stop = refl
event_whole (Forks n) = refl

-- how deep it nests
mutual
  json_depth : (d : Datum) → json.depth (json_of d) ≤ depth d
  json_depth null = omega arith
  json_depth (boolean b) = omega arith
  json_depth (int z) = omega arith
  json_depth (text s) = omega arith
  json_depth (list ds) = omega (arith, json_items_depth ds)
  json_depth (dict ms) = omega (arith, json_members_depth ms)

  json_items_depth : (ds : Items) → json.items_depth (items_json ds) ≤ items_depth ds
  json_items_depth no_items = omega arith
  json_items_depth (item d ds) = omega (arith, json_depth d, json_items_depth ds)

  json_members_depth : (ms : Members) → json.members_depth (members_json ms) ≤ members_depth ms
  json_members_depth no_members = omega arith
  json_members_depth (member k d ms) = omega (arith, json_depth d, json_members_depth ms)

outcome_depth : (form : Form) → IsWithin form → json.depth (outcome_json form) ≤ 65
outcome_depth (Ran rc out err) h = omega arith
outcome_depth (Module v) h = omega (arith, json_depth v)
outcome_depth (Unreachable msg) h = omega arith
outcome_depth (NotStarted cause) h = omega arith

pub event_depth : (e : Event) → IsInRange e → json.depth (event_json e) ≤ 127
event_depth Open h = omega arith
event_depth (Start host) h = omega arith
event_depth (Send host i attempt ticket) h = omega arith
event_depth (Reported r) h = omega (arith, outcome_depth r.outcome h.3)
event_depth Turn h = omega arith
event_depth Close h = omega arith
event_depth Stop h = omega arith
event_depth (Forks n) h = omega arith

-- the line of an event is read as that event, where it was written by a program
pub line_back : (e : Event) (d : json.Data) (bytes : List ℕ) → IsInRange e → d ≡ event_json e → IsUtf8 bytes → (has_float d ≡ false → bytes ≡ compact_text d)
    → (json.depth d ≤ 127 → read bytes ≡ Some d) → IsReadBack e
unfolding event_at
line_back e d bytes range is utf8 spelt reads =
    let same : bytes ≡ compact_text (event_json e) = spelt (rw is (event_whole e)) ∙ ap compact_text is in
    ap (event_at Two) (sym same) ∙ ap (option_and_then (event_in Two)) (json_in-text bytes utf8 ∙ reads (rw is (event_depth e range)))
    ∙ ap (event_in Two) is ∙ event_back e range

pub line_text : (e : Event) (d : json.Data) (bytes new : List ℕ) → d ≡ event_json e → (has_float d ≡ false → bytes ≡ compact_text d) → new ≡ bytes ++ 10 ∷ [] → new ≡ line e
unfolding line
line_text e d bytes new is spelt more = more ∙ ap (λ t. t ++ 10 ∷ []) (spelt (rw is (event_whole e)) ∙ ap compact_text is)

-- the text with one line more
pub text_more : (front old part new : List ℕ) (trail : List Event) (i : ℕ) (e : Event) → i < length trail → e ≡ get_or trail i e → old ≡ front ++ flat_map line (take i trail)
    → part ≡ line e → new ≡ old ++ part → new ≡ front ++ flat_map line (take (i + 1) trail)
text_more front old part new trail i e h is before one more =
    more ∙ ap (λ t. t ++ part) before ∙ append_assoc front (flat_map line (take i trail)) part
    ∙ ap (λ t. front ++ t)
    (ap (λ t. flat_map line (take i trail) ++ t) (one ∙ sym (append-nil (line e)))
    ∙ sym (flat_map-append line (take i trail) (e ∷ [])) ∙ ap (flat_map line) (sym (with_next trail i e h is)))

one_more : (es : List Event) (e : Event) → AreReadBack es → IsReadBack e → AreReadBack (es ++ e ∷ [])
one_more [] e h one = (one, tt)
one_more (d ∷ es) e h one = (h.0, one_more es e h.1 one)

pub read_more : (trail : List Event) (i : ℕ) (e : Event) → i < length trail → e ≡ get_or trail i e → AreReadBack (take i trail) → IsReadBack e → AreReadBack (take (i + 1) trail)
read_more trail i e h is before one = subst AreReadBack (sym (with_next trail i e h is)) (one_more (take i trail) e before one)

-- a line stands in front of the others
cut_line : (e : Event) (rest : List ℕ) → lines_of (line e ++ rest) ≡ compact_text (event_json e) ∷ lines_of rest
unfolding line
cut_line e rest = ap lines_of (append_assoc (compact_text (event_json e)) (10 ∷ []) rest) ∙ cut_behind (compact_text (event_json e)) rest (on_line (event_json e))

events_back : (n : ℕ) (es : List Event) → AreReadBack es → events_in Two n (lines_of (flat_map line es)) ≡ Ok es
events_back n [] h = refl
events_back n (e ∷ es) h =
    ap (events_in Two n) (cut_line e (flat_map line es))
    ∙ ap (λ r. event_then n r (events_in Two (n + 1) (lines_of (flat_map line es)))) h.0
    ∙ ap (event_then n (Some e)) (events_back (n + 1) es h.1)

first_on_line : IsOnLine header
unfolding escape_byte digits
first_on_line = on_line (json.object (json.member (116 ∷ 114 ∷ 97 ∷ 105 ∷ 108 ∷ []) (json.number (json.unsigned 2)) json.no_members))

first_is_text : IsUtf8 header
unfolding is_utf8 chars lib.Utf8.encode
first_is_text = IsUtf8-from_is_utf8 header refl

first_is_two : version_at header ≡ Some Two
unfolding version_at serde_json_on_literals
first_is_two = rw (json_in-text header first_is_text) refl

pub trail_back : (es : List Event) → AreReadBack es → trail_in (trail_text es) ≡ Ok es
unfolding trail_in
trail_back es h = ap trail_of (cut_behind header (flat_map line es) first_on_line) ∙ rw first_is_two (events_back 2 es h)

pub text_back : (bytes : List ℕ) (trail : List Event) (i : ℕ) → length trail ≤ i → bytes ≡ header ++ 10 ∷ flat_map line (take i trail) → AreReadBack (take i trail) → trail_in bytes ≡ Ok trail
text_back bytes trail i h is each =
    let all : take i trail ≡ trail = take_all i trail h in
    ap trail_in is ∙ ap (λ es. trail_in (trail_text es)) all ∙ trail_back trail (subst AreReadBack all each)
