-- Worked examples of the definitions.
use Rattle.std.specs.Prelude.{◌≡◌, count_by, [], ◌∷◌, refl}
use Rattle.std.specs.List.Sorted.{apply_swaps}
use Rattle.pb_outcome.specs.declared.job.Job.{Job}
use Rattle.pb_outcome.specs.declared.job.Report.{Report}
use Rattle.pb_forks.specs.declared.views.Entry.TheVariants.{Offered, Collected}
use Rattle.pb_forks.specs.declared.views.Lodged.TheVariants.{Away}
use Rattle.pb_forks.specs.Logs.{offers_of, collects_of}
use Rattle.pb_forks.specs.Steps.{Goes, offer, take, answer, collect, shut}
use Rattle.pb_forks.specs.Views.{start, idle_words, is_out, upto, fresh, took_one, answered_one, fork_looked}

-- two forks: jobs x and y were offered, the report of x was collected
offers_by_fork : (x y : Job) (r : Report) → offers_of 1 (Offered 0 x ∷ Offered 1 y ∷ Collected 0 r ∷ []) ≡ y ∷ []
offers_by_fork x y r = refl

collects_by_fork : (x y : Job) (r : Report) → collects_of 0 (Offered 0 x ∷ Offered 1 y ∷ Collected 0 r ∷ []) ≡ r ∷ []
collects_by_fork x y r = refl

none_collected : (x y : Job) (r : Report) → collects_of 1 (Offered 0 x ∷ Offered 1 y ∷ Collected 0 r ∷ []) ≡ []
none_collected x y r = refl

-- a new pool of two forks
two_forks : start 2 ≡ record { log = []; seen = 0 ∷ 0 ∷ []; looks = 0; hand = 0; parts = Away ∷ Away ∷ []; next = 2 }
two_forks = refl

-- the numbers of three forks' seats, in another order
reordered : apply_swaps (upto 3) ((0, 2) ∷ []) ≡ 2 ∷ 1 ∷ 0 ∷ []
reordered = refl

-- four forks: idle, with ticket 2 taken, shut, idle
two_idle : idle_words (0 ∷ 10 ∷ 4 ∷ 0 ∷ []) ≡ 2
two_idle = refl

one_out : count_by is_out (0 ∷ 10 ∷ 4 ∷ 0 ∷ []) ≡ 1
one_out = refl

-- a fork looked in vain, took x and answered r
one_taken : (x : Job) (r : Report) → (answered_one r (took_one x (fork_looked 0 fresh))).takes ≡ x ∷ []
one_taken x r = refl

one_answered : (x : Job) (r : Report) → (answered_one r (took_one x (fork_looked 0 fresh))).answers ≡ r ∷ []
one_answered x r = refl

two_looks : (x : Job) (r : Report) → (answered_one r (took_one x (fork_looked 0 fresh))).looks ≡ 2
two_looks x r = refl

-- the words of the fork that gets ticket 2
offered_word : Goes offer 2 0 9
offered_word = (refl, refl)

taken_word : Goes take 2 9 10
taken_word = (refl, refl)

answered_word : Goes answer 2 10 11
answered_word = (refl, refl)

collected_word : Goes collect 2 11 0
collected_word = (refl, refl)

shut_word : Goes shut 2 0 4
shut_word = (refl, refl)
