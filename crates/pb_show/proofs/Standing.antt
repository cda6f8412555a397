-- The laws of what is shown.
use Rattle.std.proofs.Common.{◌≡◌, ℕ, Bool, true, false, cond, List, [], ◌∷◌, ◌++◌, length, Option, Some, None, codes, refl, sym, ap, ◌∙◌, subst, append_assoc, append-nil}
use Rattle.std.specs.Prelude.{◌==◌, ◌-◌, IfSome, option_map, decimal, is_some, replicate}
use Rattle.std.specs.Str.{chars}
use Rattle.serde_json.specs.Data.{Data}
use Rattle.pb_show.specs.Banners.{starred, batch_text, play_text, task_head, task_text, notice_text, started_text, begun_text}
use Rattle.pb_show.specs.Escaped.{escaped, stars}
use Rattle.pb_show.specs.Laws.{Stands, EachStands, EndsLine, joined, is_start, TextsStand}
use Rattle.pb_show.specs.Reading.{text_at, whole_at, ended_in, play_in, task_in, notice_in, totals_in}
use Rattle.pb_show.specs.Results.{word_of, verdict_of, lead_of, paint, unpaint, counted_by, item_text, message_text, code_text, error_line, error_lines, ignoring, who_of, said_of, head_of, ended_text}
use Rattle.pb_show.specs.Showing.{Shown, banner_for, or_passed, event_shown, event_at, shown}
use Rattle.pb_show.specs.Whole.{with_byte, lines_in}
use Rattle.pb_show.specs.declared.ended.Ended.{Ended}
use Rattle.pb_show.specs.declared.ended.Ending.{Ending}
use Rattle.pb_show.specs.declared.ended.Ending.TheVariants.{Well, Changed, Skipped, Failed, Ignored, Lost, Retried}
use Rattle.pb_show.specs.declared.kind.Kind.{Kind}
use Rattle.pb_show.specs.declared.kind.Kind.TheVariants.{Begun, Play as Plays, Task as Tasks, Handler, HostStart, Ended as Ends, Item, Notify, Totals}
use Rattle.pb_show.specs.declared.look.Look.{Look}
use Rattle.pb_show.specs.declared.showing.Showing.{Showing}
use Rattle.pb_show.specs.declared.notices.Notice.{Notice}
use Rattle.pb_show.specs.declared.notices.Play.{Play}
use Rattle.pb_show.specs.declared.notices.Task.{Task}
use Rattle.pb_show.proofs.Seen.{none_hidden, bytes_seen}

-- ---- what stands where
itself : (part : List ℕ) → Stands part part
itself part = ([], [], sym (append-nil part))

before : (part a b : List ℕ) → Stands part a → Stands part (a ++ b)
before part a b s = (s.0, s.1 ++ b, ap (λ l. l ++ b) s.2 ∙ append_assoc (s.0 ++ part) s.1 b)

behind : (part a b : List ℕ) → Stands part b → Stands part (a ++ b)
behind part a b s =
    (a ++ s.0, s.1, ap (λ l. a ++ l) s.2 ∙ sym (append_assoc a (s.0 ++ part) s.1) ∙ ap (λ l. l ++ s.1) (sym (append_assoc a s.0 part)))

none : (text : List ℕ) → Stands [] text
none text = ([], text, refl)

play_stands : (play : Play) → Stands (escaped play.name) (play_text play)
unfolding play_text
play_stands play =
    let part = escaped play.name in
    before part _ _ (before part _ _ (before part _ _ (behind part (codes "\nPLAY [") part (itself part))))

task_stands : (task : Task) → Stands (escaped task.name) (task_text task)
unfolding task_text
task_stands task =
    let part = escaped task.name in
    before part _ _ (before part _ _ (behind part (task_head task.is_handler) part (itself part)))

host_stands : (look : Look) (e : Ended) → Stands (escaped e.host) (ended_text look e)
unfolding ended_text head_of who_of
host_stands look e =
    let part = escaped e.host in
    let who = before part _ (verdict_of (is_some e.item) e.ending) (before part _ (item_text (counted_by e.ending) e.item) (before part _ (codes "]") (behind part (word_of (is_some e.item) e.ending ++ codes ": [") part (itself part)))) in
    let head = before part _ (10 ∷ []) (before part _ (unpaint look) (before part _ (code_text e.code) (before part _ (said_of e) (behind part (paint look e.ending) (who_of e) who)))) in
    before part _ (ignoring e.ending) (before part _ (error_lines e.errors) head)

said : (lead message : List ℕ) → Stands (escaped message) (message_text lead message)
unfolding chars
said lead [] = none []
said lead (b ∷ bs) = behind (escaped (b ∷ bs)) lead (escaped (b ∷ bs)) (itself (escaped (b ∷ bs)))

message_stands : (look : Look) (e : Ended) → Stands (escaped e.message) (ended_text look e)
unfolding ended_text head_of
message_stands look e =
    let part = escaped e.message in
    let text = behind part (paint look e.ending ++ who_of e) (said_of e) (said (lead_of (is_some e.item) e.ending) e.message) in
    let head = before part _ (10 ∷ []) (before part _ (unpaint look) (before part _ (code_text e.code) text)) in
    before part _ (ignoring e.ending) (before part _ (error_lines e.errors) head)

error_stands : (error : List ℕ) → Stands (escaped error) (error_line error)
unfolding error_line
error_stands error =
    let part = escaped error in
    before part _ (10 ∷ []) (behind part (codes "    stderr: ") part (itself part))

each_in : (errors : List (List ℕ)) (a b : List ℕ) → EachStands errors a → EachStands errors (a ++ b)
each_in [] a b s = tt
each_in (error ∷ errors) a b s = (before (escaped error) a b s.0, each_in errors a b s.1)

each_behind : (errors : List (List ℕ)) (a b : List ℕ) → EachStands errors b → EachStands errors (a ++ b)
each_behind [] a b s = tt
each_behind (error ∷ errors) a b s = (behind (escaped error) a b s.0, each_behind errors a b s.1)

each_error : (errors : List (List ℕ)) → EachStands errors (error_lines errors)
each_error [] = tt
each_error (error ∷ errors) =
    (before (escaped error) (error_line error) (error_lines errors) (error_stands error), each_behind errors (error_line error) (error_lines errors) (each_error errors))

errors_stand : (look : Look) (e : Ended) → EachStands e.errors (ended_text look e)
unfolding ended_text
errors_stand look e = each_in e.errors _ (ignoring e.ending) (each_behind e.errors (head_of look e) (error_lines e.errors) (each_error e.errors))

notice_stands : (notice : Notice) → Stands (escaped notice.host) (notice_text notice) × Stands (escaped notice.handler) (notice_text notice)
unfolding notice_text
notice_stands notice =
    let host = escaped notice.host in
    let handler = escaped notice.handler in (
      before host _ (10 ∷ []) (before host _ handler (before host _ (codes "] => ") (behind host (codes "notified: [") host (itself host)))),
      before handler _ (10 ∷ []) (behind handler (codes "notified: [" ++ host ++ codes "] => ") handler (itself handler)),
    )

-- ---- what ends a line
ends_behind : (a b : List ℕ) → EndsLine b → EndsLine (a ++ b)
ends_behind a b e = (a ++ e.0, ap (λ l. a ++ l) e.1 ∙ sym (append_assoc a e.0 (10 ∷ [])))

ends_there : (a : List ℕ) → EndsLine (a ++ 10 ∷ [])
ends_there a = (a, refl)

stars_end : (title : List ℕ) → EndsLine (starred title)
stars_end title = ends_behind title (stars (length title)) (ends_there (codes " ***" ++ replicate (76 - length title) 42))

play_ends : (play : Play) → EndsLine (play_text play)
unfolding play_text
play_ends play = stars_end (codes "\nPLAY [" ++ escaped play.name ++ codes "]" ++ batch_text play.batch)

task_ends : (task : Task) → EndsLine (task_text task)
unfolding task_text
task_ends task = stars_end (task_head task.is_handler ++ escaped task.name ++ codes "]")

notice_ends : (notice : Notice) → EndsLine (notice_text notice)
unfolding notice_text
notice_ends notice = ends_there (codes "notified: [" ++ escaped notice.host ++ codes "] => " ++ escaped notice.handler)

head_ends : (look : Look) (e : Ended) → EndsLine (head_of look e)
unfolding head_of
head_ends look e = ends_there _

error_ends : (error : List ℕ) → EndsLine (error_line error)
unfolding error_line
error_ends error = ends_there (codes "    stderr: " ++ escaped error)

errors_end : (a : List ℕ) (errors : List (List ℕ)) → EndsLine a → EndsLine (a ++ error_lines errors)
errors_end a [] e = subst (λ (l : List ℕ). EndsLine l) (sym (append-nil a)) e
errors_end a (error ∷ errors) e = ends_behind a _ (errors_end (error_line error) errors (error_ends error))

ignoring_ends : (a : List ℕ) (ending : Ending) → EndsLine a → EndsLine (a ++ ignoring ending)
ignoring_ends a Well e = subst (λ (l : List ℕ). EndsLine l) (sym (append-nil a)) e
ignoring_ends a Changed e = subst (λ (l : List ℕ). EndsLine l) (sym (append-nil a)) e
ignoring_ends a Skipped e = subst (λ (l : List ℕ). EndsLine l) (sym (append-nil a)) e
ignoring_ends a Failed e = subst (λ (l : List ℕ). EndsLine l) (sym (append-nil a)) e
ignoring_ends a Ignored e = ends_behind a _ (codes "...ignoring", refl)
ignoring_ends a Lost e = subst (λ (l : List ℕ). EndsLine l) (sym (append-nil a)) e
ignoring_ends a Retried e = subst (λ (l : List ℕ). EndsLine l) (sym (append-nil a)) e

ended_ends : (look : Look) (e : Ended) → EndsLine (ended_text look e)
unfolding ended_text
ended_ends look e = ignoring_ends _ e.ending (errors_end (head_of look e) e.errors (head_ends look e))

of_some : {A : Type 0} (found : Option A) (f : A → Shown) → ((a : A) → EndsLine (f a).text) → IfSome (option_map f found) (λ (x : Shown). EndsLine x.text)
of_some None f each = tt
of_some (Some a) f each = each a

ended_shown_ends : (look : Look) (s : Showing) (found : Option Ended) (after : Ended → Showing) → IfSome (option_map (λ (e : Ended). record { text = banner_for s e.place ++ ended_text look e; state = after e }) found) (λ (x : Shown). EndsLine x.text)
ended_shown_ends look s found after = of_some found _ (λ e. ends_behind (banner_for s e.place) (ended_text look e) (ended_ends look e))

all_whole : (look : Look) (s : Showing) (d : Data) (kind : Kind) → is_start kind ≡ false → IfSome (event_shown look s d kind) (λ (x : Shown). EndsLine x.text)
all_whole look s d Begun e = absurd (let h : true ≡ false = e in cc)
all_whole look s d Plays e = of_some (play_in d) _ (λ play. play_ends play)
all_whole look s d Tasks e = of_some (task_in false d) _ (λ task. task_ends task)
all_whole look s d Handler e = of_some (task_in true d) _ (λ task. task_ends task)
all_whole look s d HostStart e = absurd (let h : true ≡ false = e in cc)
all_whole look s d (Ends how) e = ended_shown_ends look s (ended_in how false d) _
all_whole look s d (Item how) e = ended_shown_ends look s (ended_in how true d) _
all_whole look s d Notify e = of_some (notice_in d) _ (λ notice. notice_ends notice)
all_whole look s d Totals e = of_some (totals_in d) _ (λ totals. ([], refl))

started_ends : (look : Look) (host : List ℕ) → look.starts ≡ true → EndsLine (started_text look host)
started_ends look host e = rw e (codes "started: [" ++ escaped host ++ codes "]", sym (append_assoc (codes "started: [" ++ escaped host) (codes "]") (10 ∷ [])))

begun_ends : (look : Look) (plays : ℕ) → look.starts ≡ true → EndsLine (begun_text look plays)
begun_ends look plays e = rw e (ends_there (codes "plays: " ++ decimal plays))

all_started : (look : Look) (s : Showing) (d : Data) (kind : Kind) → look.starts ≡ true → IfSome (event_shown look s d kind) (λ (x : Shown). EndsLine x.text)
all_started look s d Begun e = of_some (whole_at (codes "plays") d) _ (λ plays. begun_ends look plays e)
all_started look s d Plays e = all_whole look s d Plays refl
all_started look s d Tasks e = all_whole look s d Tasks refl
all_started look s d Handler e = all_whole look s d Handler refl
all_started look s d HostStart e = of_some (text_at (codes "host") d) _ (λ host. started_ends look host e)
all_started look s d (Ends how) e = all_whole look s d (Ends how) refl
all_started look s d (Item how) e = all_whole look s d (Item how) refl
all_started look s d Notify e = all_whole look s d Notify refl
all_started look s d Totals e = all_whole look s d Totals refl

-- ---- lines that are passed on
as_it_is : (look : Look) (s : Showing) (line : List ℕ) → event_at look s line ≡ None → (shown look s line).text ≡ line
as_it_is look s line e = ap (λ (found : Option Shown). (or_passed s line found).text) e

-- ---- lines that are cut
with_more : (b : ℕ) (lines : List (List ℕ)) → joined (with_byte b lines) ≡ b ∷ joined lines
with_more b [] = refl
with_more b (line ∷ lines) = refl

cut_there : (t : Bool) (b : ℕ) (lines : List (List ℕ)) → joined (cond t ((b ∷ []) ∷ lines) (with_byte b lines)) ≡ b ∷ joined lines
cut_there true b lines = refl
cut_there false b lines = with_more b lines

all_cut : (bytes : List ℕ) → joined (lines_in bytes) ≡ bytes
all_cut [] = refl
all_cut (b ∷ bytes) = cut_there (b == 10) b (lines_in bytes) ∙ ap (λ l. b ∷ l) (all_cut bytes)

pub texts_stand : TextsStand
texts_stand = record {
  play = play_stands;
  task = task_stands;
  host = host_stands;
  message = message_stands;
  errors = errors_stand;
  notice = notice_stands;
  visible = λ text. none_hidden (chars text);
  bytes = λ text. bytes_seen (chars text);
  whole = all_whole;
  starts = all_started;
  passed = as_it_is;
  cut = all_cut;
}
