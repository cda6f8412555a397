-- Worked examples: each is proved by computing both sides.
use Rattle.std.specs.Prelude.{◌≡◌, [], ◌∷◌, map, false, refl}
use Rattle.std.specs.List.{list_all}
use Rattle.pb_outcome.specs.declared.job.Job.{Job}
use Rattle.pb_outcome.specs.declared.job.Report.{Report}
use Rattle.pb_outcome.specs.declared.outcome.Form.{Form}
use Rattle.pb_forks.specs.declared.views.Entry.TheVariants.{Offered, Collected}
use Rattle.pb_runner.specs.Served.{report_of}
use Rattle.pb_driver.specs.Mails.{Goes, Comes, Sent, Came, AreWithin, answers_among, is_fork_below, letter_at, letter_of}

-- two jobs go out, and the first comes back
one_answered : (x y : Job) (o : Form) → answers_among (Goes x ∷ Goes y ∷ Comes x o ∷ []) ≡ (x, o) ∷ []
one_answered x y o = refl

as_letters : (x y : Job) (o : Form) → map letter_of (Goes x ∷ Goes y ∷ Comes x o ∷ []) ≡ Sent x ∷ Sent y ∷ Came (report_of (x, o)) ∷ []
as_letters x y o = refl

-- to which fork doesn't count
by_any_fork : (x y : Job) (r : Report) → map letter_at (Offered 1 x ∷ Offered 0 y ∷ Collected 1 r ∷ []) ≡ map letter_at (Offered 0 x ∷ Offered 1 y ∷ Collected 0 r ∷ [])
by_any_fork x y r = refl

-- but that it is one of the pool's: of two forks there is no third
within_two : (x : Job) (r : Report) → AreWithin 2 (Offered 1 x ∷ Collected 1 r ∷ Offered 0 x ∷ [])
within_two x r = refl

beyond_two : (x : Job) → list_all (is_fork_below 2) (Offered 0 x ∷ Offered 2 x ∷ []) ≡ false
beyond_two x = refl
