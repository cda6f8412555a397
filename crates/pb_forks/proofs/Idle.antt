-- How many forks are idle.
use Rattle.std.proofs.Common.{◌≡◌, ◌≢◌, ℕ, zero, suc, ◌+◌, ◌*◌, ◌%◌, ◌<◌, ◌≤◌, cond, eqb, List, [], ◌∷◌, length, take, get_or, set, replicate, refl, sym, ap, ◌∙◌, arith, length-set, get_or-set_same, eq-eqb, ne_eqb}
use Rattle.std.specs.Prelude.{Result, Ok, Err, MatchResult}
use mathlib.Core.Logic.{dite}
use native.Mathlib.Decide.{ℕ_discrete}
use Rattle.pb_outcome.specs.declared.job.Job.{Job}
use Rattle.pb_outcome.specs.declared.job.Report.{Report}
use Rattle.pb_outcome.specs.declared.outcome.Form.{Form}
use Rattle.pb_forks.specs.declared.views.MainView.{MainView}
use Rattle.pb_forks.specs.declared.pool.NoAnswer.{NoAnswer}
use Rattle.pb_forks.specs.Logs.{FitsLast, offers_of}
use Rattle.pb_forks.specs.Views.{MainSees, CollectedLast, idle_words, idle_forks, main_looked, offered_to, collected_from, main_shut, start}

-- 1 for an idle word, else 0
abbrev one_if : ℕ → ℕ
one_if w = cond (eqb w 0) 1 0

one_zero : (w : ℕ) → w ≡ 0 → one_if w ≡ 1
one_zero w e = ap (λ b. cond b 1 0) (eq-eqb w 0 e)

one_other : (w : ℕ) → w ≢ 0 → one_if w ≡ 0
one_other w ne = ap (λ b. cond b 1 0) (ne_eqb w 0 ne)

idle_set : (ws : List ℕ) (j n : ℕ) → j < length ws → idle_words (set ws j n) + one_if (get_or ws j 0) ≡ idle_words ws + one_if n
idle_set [] j n h = absurd (omega arith)
idle_set (w ∷ ws) zero n h = let a = one_if w in let b = one_if n in omega arith
idle_set (w ∷ ws) (suc j) n h = let e = idle_set ws j n (omega arith) in let a = one_if w in omega arith

same_idle : (a b : ℕ) → MainSees a b → one_if b ≡ one_if a
same_idle a b h = dite (ℕ_discrete a 0)
    (λ e. one_zero b (h.0 (ap (λ n. n % 4) e) ∙ e) ∙ sym (one_zero a e))
    (λ ne. one_other b (λ z. dite (ℕ_discrete (a % 4) 0) (λ f. ne (sym (h.0 f) ∙ z)) (λ f. let c = h.1 f in let d = c.1 in ne (omega arith))) ∙ sym (one_other a ne))

idle_stays : (ws vs : List ℕ) → length vs ≡ length ws → ((j : ℕ) → MainSees (get_or ws j 0) (get_or vs j 0)) → idle_words vs ≡ idle_words ws
idle_stays [] [] e h = refl
idle_stays [] (v ∷ vs) e h = absurd (omega arith)
idle_stays (w ∷ ws) [] e h = absurd (omega arith)
idle_stays (w ∷ ws) (v ∷ vs) e h =
    let a = same_idle w v (h 0) in
    let b = idle_stays ws vs (omega arith) (λ j. h (suc j)) in
    omega arith

pub idle_start : (k : ℕ) → idle_forks (start k) ≡ k
idle_start zero = refl
idle_start (suc k) = let e = idle_start k in let w : ℕ = idle_words (replicate k 0) in omega arith

pub idle_offered : (j : ℕ) (x : Job) (m n : MainView) → j < length m.seen → get_or m.seen j 0 ≡ 0 → n ≡ offered_to j x m → idle_forks n + 1 ≡ idle_forks m
idle_offered j x m n lt zero_seen e =
    let s = idle_set m.seen j (4 * x.ticket.0 + 1) lt in
    let a = one_zero (get_or m.seen j 0) zero_seen in
    let b = one_other (4 * x.ticket.0 + 1) (λ z. omega arith) in
    let is : idle_forks n ≡ idle_words (set m.seen j (4 * x.ticket.0 + 1)) = ap idle_forks e in
    omega arith

pub idle_shut : (j : ℕ) (m n : MainView) → j < length m.seen → get_or m.seen j 0 ≡ 0 → n ≡ main_shut j m → idle_forks n + 1 ≡ idle_forks m
idle_shut j m n lt zero_seen e =
    let s = idle_set m.seen j 4 lt in
    let a = one_zero (get_or m.seen j 0) zero_seen in
    let is : idle_forks n ≡ idle_words (set m.seen j 4) = ap idle_forks e in
    omega arith

collected_one : (j : ℕ) (m : MainView) (r : Report) (n : MainView) → j < length m.seen → MainSees (get_or m.seen j 0) (4 * r.ticket.0 + 3) → n ≡ collected_from j r m → idle_forks n ≡ idle_forks m + 1
collected_one j m r n lt sees e =
    let w : ℕ = 4 * r.ticket.0 + 3 in
    let ws = set m.seen j w in
    let none_at = one_other w (λ z. omega arith) in
    let none_before : one_if (get_or m.seen j 0) ≡ 0 = sym (same_idle (get_or m.seen j 0) w sees) ∙ none_at in
    let one = idle_set m.seen j w (omega arith) in
    let there : get_or ws j 0 ≡ w = get_or-set_same m.seen j w 0 (omega arith) in
    let wide : length ws ≡ length m.seen = length-set m.seen j w in
    let two = idle_set ws j 0 (omega arith) in
    let none_there : one_if (get_or ws j 0) ≡ 0 = ap one_if there ∙ none_at in
    let is : idle_forks n ≡ idle_words (set ws j 0) = ap idle_forks e in
    omega arith

pub idle_collected : (allows : Job → Form → Type 0) (j : ℕ) (m : MainView) (r : Report) (n : MainView) → j < length m.seen → CollectedLast allows j m r n → idle_forks n ≡ idle_forks m + 1
idle_collected allows j m r n lt h =
    let b = h.0 in
    let st = h.1 in
    let long : length b.seen ≡ length m.seen = st.4 in
    let same : idle_words b.seen ≡ idle_words m.seen = idle_stays m.seen b.seen long st.6 in
    let more = collected_one j b r n (omega arith) h.2 h.3 in
    omega arith

looked_at : (j w : ℕ) (m n : MainView) → j < length m.seen → MainSees (get_or m.seen j 0) w → n ≡ main_looked j w m → idle_forks n ≡ idle_forks m
looked_at j w m n lt sees e =
    let one = idle_set m.seen j w lt in
    let same = same_idle (get_or m.seen j 0) w sees in
    let is : idle_forks n ≡ idle_words (set m.seen j w) = ap idle_forks e in
    omega arith

-- what a look finds
pub idle_found : (allows : Job → Form → Type 0) (j : ℕ) (m n : MainView) (found : Result Report NoAnswer) → j < length m.seen
    → MatchResult found (λ r. (n ≡ collected_from j r m) × FitsLast allows (offers_of j m.log) r) (λ e. (e.word % 4 ≢ 3) × (n ≡ main_looked j e.word m))
    → MatchResult found (λ r. MainSees (get_or m.seen j 0) (4 * r.ticket.0 + 3)) (λ e. MainSees (get_or m.seen j 0) e.word)
    → MatchResult found (λ r. idle_forks n ≡ idle_forks m + 1) (λ e. idle_forks n ≡ idle_forks m)
idle_found allows j m n (Ok r) lt h sees = collected_one j m r n lt sees h.0
idle_found allows j m n (Err e) lt h sees = looked_at j e.word m n lt sees h.1

-- the words so far, and one more
pub idle_taken : (ws : List ℕ) (n : ℕ) → n < length ws → idle_words (take (n + 1) ws) ≡ idle_words (take n ws) + one_if (get_or ws n 0)
idle_taken [] n h = absurd (omega arith)
idle_taken (w ∷ ws) zero h = let a = one_if w in omega arith
idle_taken (w ∷ ws) (suc n) h =
    let e = idle_taken ws n (omega arith) in
    let s : suc n + 1 ≡ suc (n + 1) = omega arith in
    let a = one_if w in
    let t : idle_words (take (suc n + 1) (w ∷ ws)) ≡ one_if w + idle_words (take (n + 1) ws) = ap (λ k. idle_words (take k (w ∷ ws))) s in
    omega arith

pub idle_counted : (ws : List ℕ) (n : ℕ) → n < length ws → get_or ws n 0 ≡ 0 → idle_words (take (n + 1) ws) ≡ idle_words (take n ws) + 1
idle_counted ws n h e = let a = idle_taken ws n h in let b = one_zero (get_or ws n 0) e in omega arith

pub busy_counted : (ws : List ℕ) (n : ℕ) → n < length ws → get_or ws n 0 ≢ 0 → idle_words (take (n + 1) ws) ≡ idle_words (take n ws)
busy_counted ws n h ne = let a = idle_taken ws n h in let b = one_other (get_or ws n 0) ne in omega arith

pub none_idle : (ws : List ℕ) → ((j : ℕ) → j < length ws → get_or ws j 0 ≢ 0) → idle_words ws ≡ 0
none_idle [] h = refl
none_idle (w ∷ ws) h =
    let a = one_other w (h 0 (omega arith)) in
    let b = none_idle ws (λ j lt. h (suc j) (omega arith)) in
    omega arith

pub few_idle : (ws : List ℕ) → idle_words ws ≤ length ws
few_idle [] = omega arith
few_idle (w ∷ ws) = let a = few_idle ws in let b = at_most_one w in omega arith
  where
    at_most_one : (n : ℕ) → one_if n ≤ 1
    at_most_one n = dite (ℕ_discrete n 0) (λ e. let c = one_zero n e in omega arith) (λ ne. let c = one_other n ne in omega arith)

pub all_idle : (ws : List ℕ) (j : ℕ) → idle_words ws ≡ length ws → get_or ws j 0 ≡ 0
all_idle [] j e = refl
all_idle (w ∷ ws) zero e = dite (ℕ_discrete w 0) (λ z. z) (λ ne. let a = one_other w ne in let b = few_idle ws in absurd (omega arith))
all_idle (w ∷ ws) (suc j) e = dite (ℕ_discrete w 0)
    (λ z. let a = one_zero w z in all_idle ws j (omega arith))
    (λ ne. let a = one_other w ne in let b = few_idle ws in absurd (omega arith))
