-- How many jobs are out.
use Rattle.std.proofs.Common.{◌≡◌, ◌≢◌, ℕ, zero, suc, ◌+◌, ◌*◌, ◌%◌, ◌<◌, not, cond, eqb, List, [], ◌∷◌, length, take, get_or, set, replicate, refl, sym, ap, ◌∙◌, arith, length-set, get_or-set_same, eq-eqb, ne_eqb}
use Rattle.std.specs.Prelude.{count_by, Result, Ok, Err, MatchResult}
use Rattle.std.proofs.lemmas.List.Sums.{sum_by-cons, count_by_more_yes, count_by_more_no}
use mathlib.Core.Logic.{dite}
use native.Mathlib.Decide.{ℕ_discrete}
use Rattle.pb_outcome.specs.declared.job.Job.{Job}
use Rattle.pb_outcome.specs.declared.job.Report.{Report}
use Rattle.pb_outcome.specs.declared.outcome.Form.{Form}
use Rattle.pb_forks.specs.declared.views.MainView.{MainView}
use Rattle.pb_forks.specs.declared.pool.NoAnswer.{NoAnswer}
use Rattle.pb_forks.specs.Logs.{FitsLast, offers_of}
use Rattle.pb_forks.specs.Views.{MainSees, CollectedLast, is_out, jobs_out, main_looked, offered_to, collected_from, main_shut, start}

-- 1 for the word of a job that is out, else 0
abbrev one_if : ℕ → ℕ
one_if w = cond (is_out w) 1 0

one_out : (w : ℕ) → w % 4 ≢ 0 → one_if w ≡ 1
one_out w ne = ap (λ b. cond (not b) 1 0) (ne_eqb (w % 4) 0 ne)

one_other : (w : ℕ) → w % 4 ≡ 0 → one_if w ≡ 0
one_other w e = ap (λ b. cond (not b) 1 0) (eq-eqb (w % 4) 0 e)

cons : (w : ℕ) (ws : List ℕ) → count_by is_out (w ∷ ws) ≡ one_if w + count_by is_out ws
cons w ws = sum_by-cons one_if w ws

pub out_set : (ws : List ℕ) (j n : ℕ) → j < length ws → count_by is_out (set ws j n) + one_if (get_or ws j 0) ≡ count_by is_out ws + one_if n
out_set [] j n h = absurd (omega arith)
out_set (w ∷ ws) zero n h = let a = cons w ws in let b = cons n ws in omega arith
out_set (w ∷ ws) (suc j) n h =
    let e = out_set ws j n (omega arith) in
    let a = cons w ws in
    let b = cons w (set ws j n) in
    omega arith

same_out : (a b : ℕ) → MainSees a b → one_if b ≡ one_if a
same_out a b h = dite (ℕ_discrete (a % 4) 0)
    (λ e. ap one_if (h.0 e))
    (λ ne. let c = h.1 ne in let d = c.0 in let g = c.1 in one_out b (λ z. ne (omega arith)) ∙ sym (one_out a ne))

out_stays : (ws vs : List ℕ) → length vs ≡ length ws → ((j : ℕ) → MainSees (get_or ws j 0) (get_or vs j 0)) → count_by is_out vs ≡ count_by is_out ws
out_stays [] [] e h = refl
out_stays [] (v ∷ vs) e h = absurd (omega arith)
out_stays (w ∷ ws) [] e h = absurd (omega arith)
out_stays (w ∷ ws) (v ∷ vs) e h =
    let a = same_out w v (h 0) in
    let b = out_stays ws vs (omega arith) (λ j. h (suc j)) in
    let c = cons w ws in
    let d = cons v vs in
    omega arith

pub out_start : (k : ℕ) → jobs_out (start k) ≡ 0
out_start zero = refl
out_start (suc k) = cons 0 (replicate k 0) ∙ (let e = out_start k in let n : ℕ = count_by is_out (replicate k 0) in omega arith)

pub out_offered : (j : ℕ) (x : Job) (m n : MainView) → j < length m.seen → get_or m.seen j 0 ≡ 0 → n ≡ offered_to j x m → jobs_out n ≡ jobs_out m + 1
out_offered j x m n lt zero_seen e =
    let s = out_set m.seen j (4 * x.ticket.0 + 1) lt in
    let a = one_other (get_or m.seen j 0) (ap (λ w. w % 4) zero_seen) in
    let b = one_out (4 * x.ticket.0 + 1) (λ z. omega arith) in
    let is : jobs_out n ≡ count_by is_out (set m.seen j (4 * x.ticket.0 + 1)) = ap jobs_out e in
    omega arith

pub out_shut : (j : ℕ) (m n : MainView) → j < length m.seen → get_or m.seen j 0 ≡ 0 → n ≡ main_shut j m → jobs_out n ≡ jobs_out m
out_shut j m n lt zero_seen e =
    let s = out_set m.seen j 4 lt in
    let a = one_other (get_or m.seen j 0) (ap (λ w. w % 4) zero_seen) in
    let is : jobs_out n ≡ count_by is_out (set m.seen j 4) = ap jobs_out e in
    omega arith

collected_one : (j : ℕ) (m : MainView) (r : Report) (n : MainView) → j < length m.seen → MainSees (get_or m.seen j 0) (4 * r.ticket.0 + 3) → n ≡ collected_from j r m → jobs_out n + 1 ≡ jobs_out m
collected_one j m r n lt sees e =
    let w : ℕ = 4 * r.ticket.0 + 3 in
    let ws = set m.seen j w in
    let out : one_if w ≡ 1 = one_out w (λ z. omega arith) in
    let before : one_if (get_or m.seen j 0) ≡ 1 = sym (same_out (get_or m.seen j 0) w sees) ∙ out in
    let one = out_set m.seen j w (omega arith) in
    let there : get_or ws j 0 ≡ w = get_or-set_same m.seen j w 0 (omega arith) in
    let wide : length ws ≡ length m.seen = length-set m.seen j w in
    let two = out_set ws j 0 (omega arith) in
    let out_there : one_if (get_or ws j 0) ≡ 1 = ap one_if there ∙ out in
    let is : jobs_out n ≡ count_by is_out (set ws j 0) = ap jobs_out e in
    omega arith

pub out_collected : (allows : Job → Form → Type 0) (j : ℕ) (m : MainView) (r : Report) (n : MainView) → j < length m.seen → CollectedLast allows j m r n → jobs_out n + 1 ≡ jobs_out m
out_collected allows j m r n lt h =
    let b = h.0 in
    let st = h.1 in
    let long : length b.seen ≡ length m.seen = st.4 in
    let same : jobs_out b ≡ jobs_out m = out_stays m.seen b.seen long st.6 in
    let less = collected_one j b r n (omega arith) h.2 h.3 in
    omega arith

looked_at : (j w : ℕ) (m n : MainView) → j < length m.seen → MainSees (get_or m.seen j 0) w → n ≡ main_looked j w m → jobs_out n ≡ jobs_out m
looked_at j w m n lt sees e =
    let one = out_set m.seen j w lt in
    let same = same_out (get_or m.seen j 0) w sees in
    let is : jobs_out n ≡ count_by is_out (set m.seen j w) = ap jobs_out e in
    omega arith

-- what a look finds
pub out_found : (allows : Job → Form → Type 0) (j : ℕ) (m n : MainView) (found : Result Report NoAnswer) → j < length m.seen
    → MatchResult found (λ r. (n ≡ collected_from j r m) × FitsLast allows (offers_of j m.log) r) (λ e. (e.word % 4 ≢ 3) × (n ≡ main_looked j e.word m))
    → MatchResult found (λ r. MainSees (get_or m.seen j 0) (4 * r.ticket.0 + 3)) (λ e. MainSees (get_or m.seen j 0) e.word)
    → MatchResult found (λ r. jobs_out n + 1 ≡ jobs_out m) (λ e. jobs_out n ≡ jobs_out m)
out_found allows j m n (Ok r) lt h sees = collected_one j m r n lt sees h.0
out_found allows j m n (Err e) lt h sees = looked_at j e.word m n lt sees h.1

-- the words so far, and one more
pub out_counted : (ws : List ℕ) (n : ℕ) → n < length ws → get_or ws n 0 % 4 ≢ 0 → count_by is_out (take (n + 1) ws) ≡ count_by is_out (take n ws) + 1
out_counted ws n h ne = count_by_more_yes is_out ws n 0 h (ap not (ne_eqb (get_or ws n 0 % 4) 0 ne))

pub other_counted : (ws : List ℕ) (n : ℕ) → n < length ws → get_or ws n 0 % 4 ≡ 0 → count_by is_out (take (n + 1) ws) ≡ count_by is_out (take n ws)
other_counted ws n h e = count_by_more_no is_out ws n 0 h (ap not (eq-eqb (get_or ws n 0 % 4) 0 e))
