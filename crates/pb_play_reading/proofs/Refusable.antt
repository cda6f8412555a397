-- Patterns, plays and lists of plays, whose regular expressions may be refused.
use Rattle.std.proofs.Common.{◌≡◌, ◌≢◌, ◌<◌, ℕ, ◌+◌, true, false, List, [], ◌∷◌, ◌++◌, Result, Ok, Err, inl, inr, refl, sym, ◌∙◌, ap, subst, length, drop, get_or}
use Rattle.std.proofs.lemmas.List.{append_assoc, append-nil, drop_more}
use Rattle.std.specs.Prelude.{decimal, Option, Some, None, codes}
use Rattle.std.specs.List.{list_any}
use Rattle.serde_json.specs.Data as json
use Rattle.serde_json.specs.View.{view, items_view}
use Rattle.serde_json.specs.declared.value.Value.{Value}
use Rattle.pb_value.specs.Bytes.{json_in}
use Rattle.pb_value.specs.Reading.{and_then, map_ok, below}
use Rattle.pb_patterns.specs.Expressions.{AreTaken, IsFirstFault}
use Rattle.pb_patterns.specs.Reading.{pattern_of, expressions_of}
use Rattle.pb_patterns.specs.declared.element.Element.{Element}
use Rattle.pb_patterns.specs.declared.fault.PatFault.{PatFault}
use Rattle.pb_patterns.specs.declared.fault.PatFault.TheVariants as pattern_fault
use Rattle.pb_reading.specs.Fields.{Ahead, Read, field, optional, value_at, value_of}
use Rattle.pb_reading.specs.Reading.{Reading, Fault, WrongShape, Own, Stops, Gives, each}
use Rattle.pb_reading.specs.declared.stop.Stop.{Stop}
use Rattle.pb_reading.specs.declared.stop.Stop.TheVariants as stop
use Rattle.pb_play_reading.specs.Refusals.{Placed, met_at, met_behind, AllTaken, IsFirstFaultAt, bad_pattern, GivesOf}
use Rattle.pb_play_reading.specs.Hosts.{has_braces, as_read, pattern, expressions_in, joined, hosts, expressions_of_hosts}
use Rattle.pb_play_reading.specs.NoEffect.{has_no_effect, key}
use Rattle.pb_play_reading.specs.Playbooks.{plays, of_json, playbook_of, as_playbook, each_expression, expressions_of_plays, expressions_of_book}
use Rattle.pb_written.specs.Faults.{as_load_fault}
use Rattle.pb_written.specs.Texts.{texts}
use Rattle.pb_play_reading.specs.Plays.{before_hosts, rest_of_play, play, expressions_at, expressions_of_play}
use Rattle.pb_written.specs.declared.fault.LoadFault.{LoadFault}
use Rattle.pb_written.specs.declared.fault.LoadFault.TheVariants as load
use Rattle.pb_written.specs.declared.fault.LoadFault.TheVariants.{BadPattern}
use Rattle.pb_play_reading.specs.declared.hosts.PlayHosts.{PlayHosts}
use Rattle.pb_play_reading.specs.declared.other_keys.WithoutEffect.{WithoutEffect}
use Rattle.pb_play_reading.specs.declared.play.BeforeHosts.{BeforeHosts}
use Rattle.pb_play_reading.specs.declared.play.Play.{Play}
use Rattle.pb_play_reading.proofs.Meeting.{taken_append, taken_at, refused_at}
use Rattle.pb_play_reading.proofs.Refusals.{IsRest, gives_plain, gives_first, gives_next, gives_made, gives_last, gives_rest}

-- patterns
as_bad : (path : List ℕ) (e : PatFault) (ts : List (List ℕ)) → IsFirstFault (expressions_of ts) (pattern_of ts) pattern_fault.BadRegex e
    → IsFirstFaultAt (met_at path (expressions_of ts)) (as_read path (pattern_of ts)) bad_pattern (bad_pattern path)
as_bad path e ts (inl (taken, is)) = inl (taken_at path (expressions_of ts) taken, ap (as_read path) is)
as_bad path e ts (inr (is, bad)) = inr (path, refl, refused_at path (expressions_of ts) bad)

without_braces : (path : List ℕ) (ts : List (List ℕ)) (s : Stop LoadFault) → list_any has_braces ts ≡ false → GivesOf {A = List Element} (Err s) (met_at path (expressions_of ts)) (as_read path (pattern_of ts))
    → GivesOf {A = List Element} (Err s) (met_at path (expressions_in ts)) (pattern path ts)
without_braces path ts s none given = rw none given

-- a stop that is a fault, unless memory was wanting
unless_memory : {A : Type 0} (s : Stop LoadFault) (f : LoadFault) (met : List Placed) (r : Reading A LoadFault) → (s ≢ stop.Memory → s ≡ stop.Fault f) → GivesOf {A = A} (Err (stop.Fault f)) met r → GivesOf {A = A} (Err s) met r
unless_memory stop.Memory f met r is given = tt
unless_memory {A = A} (stop.WrongShape path) f met r is given = subst (λ s. GivesOf {A = A} (Err s) met r) (sym (is (λ memory. cc))) given
unless_memory {A = A} (stop.Fault g) f met r is given = subst (λ s. GivesOf {A = A} (Err s) met r) (sym (is (λ memory. cc))) given

bad_stopped : (path : List ℕ) (ts : List (List ℕ)) (e : PatFault) (s : Stop LoadFault) → list_any has_braces ts ≡ false → (s ≢ stop.Memory → s ≡ stop.Fault (BadPattern path))
    → IsFirstFault (expressions_of ts) (pattern_of ts) pattern_fault.BadRegex e → GivesOf {A = List Element} (Err s) (met_at path (expressions_in ts)) (pattern path ts)
bad_stopped path ts e s none is bad =
    unless_memory s (BadPattern path) (met_at path (expressions_in ts)) (pattern path ts) is (without_braces path ts (stop.Fault (BadPattern path)) none (as_bad path e ts bad))

pub pattern_stopped : (path : List ℕ) (ts : List (List ℕ)) (e : PatFault) (s : Stop LoadFault) → list_any has_braces ts ≡ false → (e ≡ pattern_fault.Memory → s ≡ stop.Memory)
    → (e ≢ pattern_fault.Memory → s ≢ stop.Memory → s ≡ stop.Fault (BadPattern path))
    → (e ≢ pattern_fault.Memory → IsFirstFault (expressions_of ts) (pattern_of ts) pattern_fault.BadRegex e) → GivesOf {A = List Element} (Err s) (met_at path (expressions_in ts)) (pattern path ts)
pattern_stopped path ts pattern_fault.Memory s none memory other bad = subst (λ s. GivesOf {A = List Element} (Err s) (met_at path (expressions_in ts)) (pattern path ts)) (sym (memory refl)) tt
pattern_stopped path ts pattern_fault.Empty s none memory other bad = bad_stopped path ts pattern_fault.Empty s none (other (λ is. cc)) (bad (λ is. cc))
pattern_stopped path ts pattern_fault.BadSubscript s none memory other bad = bad_stopped path ts pattern_fault.BadSubscript s none (other (λ is. cc)) (bad (λ is. cc))
pattern_stopped path ts pattern_fault.BadRegex s none memory other bad = bad_stopped path ts pattern_fault.BadRegex s none (other (λ is. cc)) (bad (λ is. cc))

pub pattern_taken : (path : List ℕ) (ts : List (List ℕ)) (es : List Element) → list_any has_braces ts ≡ false → AreTaken (expressions_of ts) → pattern_of ts ≡ Ok es
    → GivesOf {A = List Element} (Ok es) (met_at path (expressions_in ts)) (pattern path ts)
pattern_taken path ts es none taken is = (rw none (taken_at path (expressions_of ts) taken), rw none (ap (as_read path) is))

pub with_braces : (path : List ℕ) (ts : List (List ℕ)) (s : Stop LoadFault) → list_any has_braces ts ≡ true → (s ≢ stop.Memory → s ≡ stop.Fault (BadPattern path))
    → GivesOf {A = List Element} (Err s) (met_at path (expressions_in ts)) (pattern path ts)
with_braces path ts s some is = unless_memory s (BadPattern path) (met_at path (expressions_in ts)) (pattern path ts) is (inl (rw some tt, rw some refl))

-- the hosts of a play
abbrev made_hosts : List (List ℕ) → List Element → Reading PlayHosts LoadFault
made_hosts ts elements = Ok (record { text = joined ts; pattern = elements })

pub texts_stop : (path : List ℕ) (d : json.Data) (e : Stop LoadFault) → Gives {A = List (List ℕ)} (Err e) (texts path d) → GivesOf {A = PlayHosts} (Err e) (expressions_of_hosts path d) (hosts path d)
texts_stop path d e given = gives_first e [] (texts path d) (λ ts. and_then (pattern path ts) (made_hosts ts)) (λ ts. met_at path (expressions_in ts)) (gives_plain (Err e) (texts path d) given)

pub pattern_stop : (path : List ℕ) (d : json.Data) (ts : List (List ℕ)) (e : Stop LoadFault) → texts path d ≡ Ok ts → GivesOf {A = List Element} (Err e) (met_at path (expressions_in ts)) (pattern path ts)
    → GivesOf {A = PlayHosts} (Err e) (expressions_of_hosts path d) (hosts path d)
pattern_stop path d ts e is given =
    gives_next (Err e) [] (texts path d) ts (λ ts. and_then (pattern path ts) (made_hosts ts)) (λ ts. met_at path (expressions_in ts)) tt is (gives_made e (met_at path (expressions_in ts)) (pattern path ts) (made_hosts ts) given)

pub hosts_taken : (path : List ℕ) (d : json.Data) (ts : List (List ℕ)) (elements : List Element) (h : PlayHosts) → texts path d ≡ Ok ts → GivesOf {A = List Element} (Ok elements) (met_at path (expressions_in ts)) (pattern path ts)
    → h ≡ record { text = joined ts; pattern = elements } → GivesOf {A = PlayHosts} (Ok h) (expressions_of_hosts path d) (hosts path d)
hosts_taken path d ts elements h is given made =
    gives_next (Ok h) [] (texts path d) ts (λ ts. and_then (pattern path ts) (made_hosts ts)) (λ ts. met_at path (expressions_in ts)) tt is
    (gives_last (Ok h) (met_at path (expressions_in ts)) (pattern path ts) elements (made_hosts ts) given.0 given.1 (ap Ok (sym made)))

pub hosts_there : (path : List ℕ) (d : json.Data) (e : Stop LoadFault) → GivesOf {A = PlayHosts} (Err e) (expressions_of_hosts path d) (hosts path d)
    → GivesOf {A = Option PlayHosts} (Err e) (expressions_of_hosts path d) (map_ok Some (hosts path d))
hosts_there path d stop.Memory given = given
hosts_there path d (stop.WrongShape p) (inl (taken, is)) = inl (taken, ap (map_ok Some) is)
hosts_there path d (stop.WrongShape p) (inr bad) = inr bad
hosts_there path d (stop.Fault f) (inl (taken, is)) = inl (taken, ap (map_ok Some) is)
hosts_there path d (stop.Fault f) (inr bad) = inr bad

-- one play of a list
abbrev pub rest_of : List ℕ → ℕ → json.Items → List Play → Reading (List Play) LoadFault
rest_of path i ds front = and_then (each play path i ds) (λ ps. Ok (front ++ ps))

appended : (r : Reading (List Play) LoadFault) (front : List Play) (p : Play)
    → and_then (and_then r (λ ps. Ok (p ∷ ps))) (λ ps. Ok (front ++ ps)) ≡ and_then r (λ ps. Ok ((front ++ p ∷ []) ++ ps))
appended (Ok ps) front p = ap Ok (sym (append_assoc front (p ∷ []) ps))
appended (Err e) front p = refl

moved : (a : Reading Play LoadFault) (r : Reading (List Play) LoadFault) (front : List Play)
    → and_then (and_then a (λ p. and_then r (λ ps. Ok (p ∷ ps)))) (λ ps. Ok (front ++ ps)) ≡ and_then a (λ p. and_then r (λ ps. Ok ((front ++ p ∷ []) ++ ps)))
moved (Ok p) r front = appended r front p
moved (Err e) r front = refl

none_front : (r : Reading (List Play) LoadFault) → r ≡ and_then r (λ ps. Ok ([] ++ ps))
none_front (Ok ps) = refl
none_front (Err e) = refl

each_read : (path : List ℕ) (i : ℕ) (d : json.Data) (ds : json.Items) (front : List Play)
    → rest_of path i (json.item d ds) front ≡ and_then (play (below path (decimal i)) d) (λ p. rest_of path (i + 1) ds (front ++ p ∷ []))
each_read path i d ds front = moved (play (below path (decimal i)) d) (each play path (i + 1) ds) front

pub play_stopped : (met : List Placed) (whole : Reading (List Play) LoadFault) (path : List ℕ) (i : ℕ) (d : json.Data) (ds left : json.Items) (front : List Play) (e : Stop LoadFault) → left ≡ json.item d ds
    → IsRest met whole (each_expression path i left) (rest_of path i left front) → GivesOf {A = Play} (Err e) (expressions_of_play (below path (decimal i)) d) (play (below path (decimal i)) d)
    → GivesOf {A = List Play} (Err e) met whole
play_stopped met whole path i d ds left front e is rest given =
    gives_rest e met (each_expression path i left) whole (rest_of path i left front) rest
    (
    subst (λ l. GivesOf {A = List Play} (Err e) (each_expression path i l) (rest_of path i l front)) (sym is)
    (
    subst (λ r. GivesOf {A = List Play} (Err e) (each_expression path i (json.item d ds)) r) (sym (each_read path i d ds front))
    (
    gives_first e (expressions_of_play (below path (decimal i)) d) (play (below path (decimal i)) d) (λ p. rest_of path (i + 1) ds (front ++ p ∷ []))
    (λ _. each_expression path (i + 1) ds) given
    )
    )
    )

pub play_taken : (met : List Placed) (whole : Reading (List Play) LoadFault) (path : List ℕ) (i : ℕ) (d : json.Data) (ds left : json.Items) (front after : List Play) (p : Play) → left ≡ json.item d ds
    → after ≡ front ++ p ∷ [] → IsRest met whole (each_expression path i left) (rest_of path i left front)
    → GivesOf {A = Play} (Ok p) (expressions_of_play (below path (decimal i)) d) (play (below path (decimal i)) d)
    → IsRest met whole (each_expression path (i + 1) ds) (rest_of path (i + 1) ds after)
play_taken met whole path i d ds left front after p is more (before, taken, met_is, same) given =
    let here = expressions_of_play (below path (decimal i)) d in
    let later = each_expression path (i + 1) ds in (
      before ++ here,
      taken_append before here taken given.0,
      met_is ∙ ap (λ l. before ++ each_expression path i l) is ∙ ap (λ r. before ++ (here ++ met_behind r (λ _. later))) given.1 ∙ sym (append_assoc before here later),
      same ∙ ap (λ l. rest_of path i l front) is ∙ each_read path i d ds front ∙ ap (λ r. and_then r (λ p. rest_of path (i + 1) ds (front ++ p ∷ []))) given.1
          ∙ ap (rest_of path (i + 1) ds) (sym more),
    )

-- at first the plays of a list are all left, and at last none
pub plays_begun : (path : List ℕ) (ds : json.Items) (front : List Play) → front ≡ [] → IsRest (each_expression path 0 ds) (each play path 0 ds) (each_expression path 0 ds) (rest_of path 0 ds front)
plays_begun path ds front none = ([], tt, refl, none_front (each play path 0 ds) ∙ ap (rest_of path 0 ds) (sym none))

pub plays_read : (met : List Placed) (whole : Reading (List Play) LoadFault) (path : List ℕ) (i : ℕ) (left : json.Items) (front read : List Play) → left ≡ json.no_items → read ≡ front
    → IsRest met whole (each_expression path i left) (rest_of path i left front) → GivesOf {A = List Play} (Ok read) met whole
plays_read met whole path i left front read none same (before, taken, met_is, is) = (
  subst AllTaken (sym (met_is ∙ ap (λ l. before ++ each_expression path i l) none ∙ append-nil before)) taken,
  is ∙ ap (λ l. rest_of path i l front) none ∙ ap Ok (append-nil front ∙ sym same),
)

pub next_left : (vs : List Value) (i : ℕ) (v : Value) → i < length vs → v ≡ get_or vs i v → items_view (drop i vs) ≡ json.item (view v) (items_view (drop (i + 1) vs))
next_left vs i v within is = ap items_view (drop_more vs i v within) ∙ ap (λ w. items_view (w ∷ drop (i + 1) vs)) (sym is)

-- a play, once its keys up to `hosts` are read: where the reading of the hosts stops, and the rest of the play
abbrev hosts_and_rest : List ℕ → BeforeHosts → Option json.Data → Ahead WithoutEffect → Reading Play LoadFault
hosts_and_rest path before d ahead = and_then (optional hosts (below path (codes "hosts")) d) (λ h. value_of (rest_of_play path before h ahead))

abbrev with_ahead : Ahead WithoutEffect → Option PlayHosts → Reading (Read (Option PlayHosts) WithoutEffect) LoadFault
with_ahead ahead v = Ok (record { value = v; ahead = ahead })

last_part : (r : Reading (Option PlayHosts) LoadFault) (path : List ℕ) (before : BeforeHosts) (ahead : Ahead WithoutEffect)
    → value_of (and_then (and_then r (with_ahead ahead)) (λ y. rest_of_play path before y.value y.ahead)) ≡ and_then r (λ h. value_of (rest_of_play path before h ahead))
last_part (Ok h) path before ahead = refl
last_part (Err e) path before ahead = refl

-- the first fields of a play, and the value at its hosts
abbrev pub front_of : List ℕ → json.Members → Ahead WithoutEffect
front_of path ms = record { path = path; members = ms; told = record {} }

play_rest : (path : List ℕ) (ms : json.Members) (before : BeforeHosts) (d : Option json.Data) (first second : Ahead WithoutEffect)
    → before_hosts (front_of path ms) ≡ Ok (record { value = before; ahead = first }) → first.path ≡ path
    → value_at has_no_effect (codes "hosts") first ≡ Ok (record { value = d; ahead = second })
    → play path (json.object ms) ≡ hosts_and_rest path before d second
unfolding play field
play_rest path ms before d first second e at f =
    ap (λ r. value_of (and_then r (λ x. and_then (field has_no_effect (codes "hosts") hosts x.ahead) (λ y. rest_of_play path x.value y.value y.ahead)))) e
    ∙ ap (λ r. value_of (and_then (and_then r (λ x. and_then (optional hosts (below first.path (codes "hosts")) x.value) (with_ahead x.ahead))) (λ y. rest_of_play path before y.value y.ahead))) f
    ∙ ap (λ p. value_of (and_then (and_then (optional hosts (below p (codes "hosts")) d) (with_ahead second)) (λ y. rest_of_play path before y.value y.ahead))) at
    ∙ last_part (optional hosts (below path (codes "hosts")) d) path before second

met_rest : (path : List ℕ) (ms : json.Members) (before : BeforeHosts) (d : Option json.Data) (first second : Ahead WithoutEffect)
    → before_hosts (front_of path ms) ≡ Ok (record { value = before; ahead = first })
    → value_at has_no_effect (codes "hosts") first ≡ Ok (record { value = d; ahead = second })
    → expressions_of_play path (json.object ms) ≡ expressions_at (below path (codes "hosts")) d
unfolding expressions_of_play
met_rest path ms before d first second e f =
    ap (λ r. met_behind r (λ before. met_behind (value_at has_no_effect (codes "hosts") before.ahead) (λ hosts. expressions_at (below path (codes "hosts")) hosts.value))) e
    ∙ ap (λ r. met_behind r (λ hosts. expressions_at (below path (codes "hosts")) hosts.value)) f

value_then : {A B S : Type 0} (r : Reading A LoadFault) (f : A → Reading (Read B S) LoadFault) → value_of (and_then r f) ≡ and_then r (λ x. value_of (f x))
value_then (Ok x) f = refl
value_then (Err e) f = refl

then_then : {A B C : Type 0} (r : Reading A LoadFault) (f : A → Reading B LoadFault) (g : B → Reading C LoadFault) → and_then (and_then r f) g ≡ and_then r (λ x. and_then (f x) g)
then_then (Ok x) f g = refl
then_then (Err e) f g = refl

-- a reader that stops where no expression was met yet
stops_first : {A : Type 0} (e : Stop LoadFault) (first : Reading A LoadFault) (next : A → Reading Play LoadFault) (more : A → List Placed) (met : List Placed) (whole : Reading Play LoadFault)
    → met ≡ met_behind first more → whole ≡ and_then first next → Stops e first → GivesOf {A = Play} (Err e) met whole
stops_first e first next more met whole met_is is stopped =
    subst (λ m. GivesOf {A = Play} (Err e) m whole) (sym met_is)
    (subst (λ w. GivesOf {A = Play} (Err e) (met_behind first more) w) (sym is) (gives_first e [] first next more (gives_plain (Err e) first stopped)))

-- the first fields stop a reader, or the keys in front of the hosts
pub before_stop : (path : List ℕ) (ms : json.Members) (e : Stop LoadFault) → Stops e (before_hosts (front_of path ms))
    → GivesOf {A = Play} (Err e) (expressions_of_play path (json.object ms)) (play path (json.object ms))
unfolding play expressions_of_play
before_stop path ms e stopped =
    stops_first e (before_hosts (front_of path ms)) _ _ (expressions_of_play path (json.object ms)) (play path (json.object ms))
    refl
    (value_then (before_hosts (front_of path ms)) (λ x. and_then (key (codes "hosts") hosts x.ahead) (λ y. rest_of_play path x.value y.value y.ahead))) stopped

pub front_stop : (path : List ℕ) (ms : json.Members) (before : BeforeHosts) (first : Ahead WithoutEffect) (e : Stop LoadFault)
    → before_hosts (front_of path ms) ≡ Ok (record { value = before; ahead = first })
    → Stops e (value_at has_no_effect (codes "hosts") first) → GivesOf {A = Play} (Err e) (expressions_of_play path (json.object ms)) (play path (json.object ms))
unfolding play field expressions_of_play
front_stop path ms before first e one stopped =
    let hosts_in = λ (x : Read (Option json.Data) WithoutEffect). and_then (optional hosts (below first.path (codes "hosts")) x.value) (with_ahead x.ahead) in
    let after = λ (y : Read (Option PlayHosts) WithoutEffect). rest_of_play path before y.value y.ahead in
    stops_first e (value_at has_no_effect (codes "hosts") first) _ (λ (x : Read (Option json.Data) WithoutEffect). expressions_at (below path (codes "hosts")) x.value)
    (expressions_of_play path (json.object ms)) (play path (json.object ms))
    (ap (λ r. met_behind r (λ before. met_behind (value_at has_no_effect (codes "hosts") before.ahead) (λ hosts. expressions_at (below path (codes "hosts")) hosts.value))) one)
    (
    ap (λ r. value_of (and_then r (λ x. and_then (field has_no_effect (codes "hosts") hosts x.ahead) (λ y. rest_of_play path x.value y.value y.ahead)))) one
    ∙ ap value_of (then_then (value_at has_no_effect (codes "hosts") first) hosts_in after)
    ∙ value_then (value_at has_no_effect (codes "hosts") first) (λ x. and_then (hosts_in x) after)
    )
    stopped

-- where the hosts stop a reader, and where they don't
pub hosts_stop : (path : List ℕ) (ms : json.Members) (before : BeforeHosts) (d : Option json.Data) (first second : Ahead WithoutEffect) (e : Stop LoadFault)
    → before_hosts (front_of path ms) ≡ Ok (record { value = before; ahead = first }) → first.path ≡ path
    → value_at has_no_effect (codes "hosts") first ≡ Ok (record { value = d; ahead = second })
    → GivesOf {A = Option PlayHosts} (Err e) (expressions_at (below path (codes "hosts")) d) (optional hosts (below path (codes "hosts")) d)
    → GivesOf {A = Play} (Err e) (expressions_of_play path (json.object ms)) (play path (json.object ms))
hosts_stop path ms before d first second e one at two stopped =
    subst (λ m. GivesOf {A = Play} (Err e) m (play path (json.object ms))) (sym (met_rest path ms before d first second one two))
    (
    subst (λ r. GivesOf {A = Play} (Err e) (expressions_at (below path (codes "hosts")) d) r) (sym (play_rest path ms before d first second one at two))
    (
    gives_made e (expressions_at (below path (codes "hosts")) d) (optional hosts (below path (codes "hosts")) d) (λ h. value_of (rest_of_play path before h second)) stopped
    )
    )

pub hosts_read : (path : List ℕ) (ms : json.Members) (before : BeforeHosts) (d : Option json.Data) (first second : Ahead WithoutEffect) (h : Option PlayHosts) (result : Result Play (Stop LoadFault))
    → before_hosts (front_of path ms) ≡ Ok (record { value = before; ahead = first }) → first.path ≡ path
    → value_at has_no_effect (codes "hosts") first ≡ Ok (record { value = d; ahead = second })
    → GivesOf {A = Option PlayHosts} (Ok h) (expressions_at (below path (codes "hosts")) d) (optional hosts (below path (codes "hosts")) d) → Gives result (value_of (rest_of_play path before h second))
    → GivesOf result (expressions_of_play path (json.object ms)) (play path (json.object ms))
hosts_read path ms before d first second h result one at two read rest =
    subst (λ m. GivesOf result m (play path (json.object ms))) (sym (met_rest path ms before d first second one two))
    (
    subst (λ r. GivesOf result (expressions_at (below path (codes "hosts")) d) r) (sym (play_rest path ms before d first second one at two))
    (
    gives_last result (expressions_at (below path (codes "hosts")) d) (optional hosts (below path (codes "hosts")) d) h (λ h. value_of (rest_of_play path before h second)) read.0 read.1 rest
    )
    )

-- the playbook of a JSON value
pub playbook_fault : (bytes : List ℕ) (d : json.Data) (e : Fault LoadFault) → json_in bytes ≡ Some d → IsFirstFaultAt (expressions_of_plays d) (plays d) bad_pattern e
    → IsFirstFaultAt (expressions_of_book bytes) (playbook_of bytes) BadPattern (as_load_fault e)
unfolding playbook_of expressions_of_book
playbook_fault bytes d e is (inl (taken, first)) = inl (rw is taken, ap of_json is ∙ ap as_playbook first)
playbook_fault bytes d e is (inr (path, same, bad)) = inr (path, ap as_load_fault same, rw is bad)

pub playbook_stopped : (bytes : List ℕ) (d : json.Data) (s : Stop LoadFault) (e : LoadFault) → json_in bytes ≡ Some d → GivesOf {A = List Play} (Err s) (expressions_of_plays d) (plays d)
    → (s ≡ stop.Memory → e ≡ load.Memory) → ((path : List ℕ) → s ≡ stop.WrongShape path → e ≡ as_load_fault (WrongShape path)) → ((f : LoadFault) → s ≡ stop.Fault f → e ≡ as_load_fault (Own f))
    → e ≢ load.Memory → IsFirstFaultAt (expressions_of_book bytes) (playbook_of bytes) BadPattern e
playbook_stopped bytes d stop.Memory e is given memory wrong fault other = absurd (other (memory refl))
playbook_stopped bytes d (stop.WrongShape path) e is given memory wrong fault other =
    subst (IsFirstFaultAt (expressions_of_book bytes) (playbook_of bytes) BadPattern) (sym (wrong path refl)) (playbook_fault bytes d (WrongShape path) is given)
playbook_stopped bytes d (stop.Fault f) e is given memory wrong fault other =
    subst (IsFirstFaultAt (expressions_of_book bytes) (playbook_of bytes) BadPattern) (sym (fault f refl)) (playbook_fault bytes d (Own f) is given)

pub playbook_is : (bytes : List ℕ) (d : json.Data) (ps : List Play) → json_in bytes ≡ Some d → plays d ≡ Ok ps → playbook_of bytes ≡ Ok (record { plays = ps })
unfolding playbook_of
playbook_is bytes d ps is read = ap of_json is ∙ ap as_playbook read

pub playbook_taken : (bytes : List ℕ) (d : json.Data) → json_in bytes ≡ Some d → AllTaken (expressions_of_plays d) → AllTaken (expressions_of_book bytes)
unfolding expressions_of_book
playbook_taken bytes d is taken = rw is taken

pub not_json : (bytes : List ℕ) (e : LoadFault) → json_in bytes ≡ None → e ≡ load.NotJson → IsFirstFaultAt (expressions_of_book bytes) (playbook_of bytes) BadPattern e
unfolding playbook_of expressions_of_book
not_json bytes e none is = inl (rw none tt, ap of_json none ∙ ap Err (sym is))
