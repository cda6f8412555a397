-- What is written where a run breaks off.
use Rattle.std.proofs.Common.{◌≡◌, ℕ, ◌+◌, ◌-◌, ◌≤◌, List, [], ◌∷◌, ◌++◌, length, take, refl, sym, ◌∙◌, ap, subst, arith, length-append}
use Rattle.std.proofs.lemmas.List.{append-nil, take_all, take_min, take-append-le}
use Rattle.std.specs.Prelude.{min, suc, zero, Option}
use Rattle.pb_state.specs.declared.event.Event.{Event}
use Rattle.pb_host.specs.declared.host.Counts.{Counts}
use Rattle.pb_plan.specs.Plan.{PlanOf}
use Rattle.pb_state.specs.State.{State}
use Rattle.pb_state.specs.Machine.{after, first_state}
use Rattle.pb_state.specs.Run.{IsFinished}
use Rattle.pb_engine.specs.EngineOf.{EngineOf, taken, IsSound}
use Rattle.pb_events.specs.Lines.{start_line}
use Rattle.pb_recap.specs.Recap.{recap}
use Rattle.pb_driver.specs.Taken.{with_more}
use Rattle.pb_driver.specs.Output.{lines_from, end_lines}
use Rattle.pb_driver.specs.Driven.{Answers, IsSame, IsFresh, Keeps, TakesOne, last_lines, lines_of_trail}
use Rattle.pb_driver.specs.Cut.{all_but_last, IsPart, lines_to, least_written, IsCut, IsShort, Breaks}
use Rattle.pb_driver.proofs.Pieces.{more_more}
use Rattle.pb_driver.proofs.Driving.{lines_more, last_at, none_more, fresh_lines}

-- fronts of lists
pub take_behind : (n : ℕ) (a b : List ℕ) → take (length a + n) (a ++ b) ≡ a ++ take n b
take_behind n [] b = let on : 0 + n ≡ n = omega arith in ap (λ k. take k b) on
take_behind n (x ∷ a) b = let on : length (x ∷ a) + n ≡ suc (length a + n) = omega arith in ap (λ k. take k (x ∷ (a ++ b))) on ∙ ap (λ l. x ∷ l) (take_behind n a b)

front_of : (es : List Event) (e : Event) → all_but_last (es ++ e ∷ []) ≡ es
front_of es e =
    let on : length (es ++ e ∷ []) - 1 ≡ length es = simp length-append (omega arith) in
    ap (λ n. take n (es ++ e ∷ [])) on ∙ take-append-le (length es) es (e ∷ []) (omega arith) ∙ take_all (length es) es (omega arith)

-- a front of the bytes that are known
pub part_none : (t : Option (List ℕ)) (bytes : List ℕ) → IsPart t t bytes
part_none t bytes = (0, none_more t)

pub part_as : (t u : Option (List ℕ)) (bytes lines : List ℕ) → bytes ≡ lines → IsPart t u bytes → IsPart t u lines
part_as t u bytes lines is part = rw (← is) part

-- of two texts a front of the first was written, or the first whole and a front of the second, or both
pub part_front : (t u : Option (List ℕ)) (a b : List ℕ) → IsPart t u a → IsPart t u (a ++ b)
part_front t u a b part = (min part.0 (length a), part.1 ∙ ap (λ l. with_more t l) (sym (take_min part.0 a) ∙ sym (take-append-le (min part.0 (length a)) a b (omega arith))))

pub part_behind : (t m u : Option (List ℕ)) (a b : List ℕ) → m ≡ with_more t a → IsPart m u b → IsPart t u (a ++ b)
part_behind t m u a b mid part = (length a + part.0, part.1 ∙ ap (λ w. with_more w (take part.0 b)) mid ∙ more_more t a (take part.0 b) ∙ ap (λ l. with_more t l) (sym (take_behind part.0 a b)))

pub took_both : (t m u : Option (List ℕ)) (a b : List ℕ) → m ≡ with_more t a → u ≡ with_more m b → u ≡ with_more t (a ++ b)
took_both t m u a b mid end = end ∙ ap (λ w. with_more w b) mid ∙ more_more t a b

-- fewer events have no more lines
fewer_lines : (plan : PlanOf) (s : State) (k : ℕ) (es : List Event) → length (lines_from plan s (take k es)) ≤ length (lines_from plan s es)
fewer_lines plan s zero es = omega arith
fewer_lines plan s (suc k) [] = omega arith
fewer_lines plan s (suc k) (e ∷ es) = let fewer = fewer_lines plan (after plan s e) k es in simp length-append (omega arith)

-- the lines of an engine's trail are written whole
pub all_short : (engine : EngineOf) (base t : Option (List ℕ)) → t ≡ with_more base (lines_of_trail engine) → IsShort engine base t
all_short engine base t before = record {
  count = length (lines_of_trail engine);
  written = before ∙ ap (λ l. with_more base l) (sym (take_all (length (lines_of_trail engine)) (lines_of_trail engine) (omega arith)));
  least = fewer_lines engine.plan (first_state engine.plan engine.plan.forks engine.pool) (length engine.trail - 1) engine.trail;
  most = omega arith;
}

pub breaks_same : (old new : EngineOf) (t : Option (List ℕ)) → new ≡ old → Breaks old new t t
breaks_same old new t same = rw same (λ base before. all_short old base t before)

pub breaks_after : (a b c : EngineOf) (t u v : Option (List ℕ)) → Keeps a b t u → Breaks b c u v → Breaks a c t v
breaks_after a b c t u v keeps breaks = λ base before. breaks base (keeps base before)

-- a front of the lines of one event more
front_more : (base : Option (List ℕ)) (lines last : List ℕ) (n : ℕ) → with_more (with_more base lines) (take n last) ≡ with_more base (take (length lines + min n (length last)) (lines ++ last))
front_more base lines last n =
    more_more base lines (take n last) ∙ ap (λ l. with_more base (lines ++ l)) (sym (take_min n last)) ∙ ap (λ l. with_more base l) (sym (take_behind (min n (length last)) lines last))

all_lines : (old : EngineOf) (e : Event) → IsSound old → lines_of_trail (taken old e) ≡ lines_of_trail old ++ last_lines (taken old e)
all_lines old e sound = rw (last_at old e, lines_more old.plan (first_state old.plan old.plan.forks old.pool) old.trail e, sound.ends) refl

short_more : (old : EngineOf) (e : Event) (base t u : Option (List ℕ)) → IsSound old → t ≡ with_more base (lines_of_trail old) → IsPart t u (last_lines (taken old e)) → IsShort (taken old e) base u
short_more old e base t u sound before part = record {
  count = length (lines_of_trail old) + min part.0 (length (last_lines (taken old e)));
  written =
      part.1 ∙ ap (λ b. with_more b (take part.0 (last_lines (taken old e)))) before ∙ front_more base (lines_of_trail old) (last_lines (taken old e)) part.0
      ∙ ap (λ l. with_more base (take (length (lines_of_trail old) + min part.0 (length (last_lines (taken old e)))) l)) (sym (all_lines old e sound));
  least = rw (front_of old.trail e) (omega arith);
  most = let all : length (lines_of_trail (taken old e)) ≡ length (lines_of_trail old) + length (last_lines (taken old e)) = ap length (all_lines old e sound) ∙ length-append _ _ in omega arith;
}

pub breaks_one : (answers : Answers) (old new : EngineOf) (t u : Option (List ℕ)) → IsSound old → TakesOne answers old new → IsPart t u (last_lines new) → Breaks old new t u
breaks_one answers old new t u sound one part = λ base before.
    rw one.takes.1 (short_more old one.event base t u sound before (subst (λ (v : EngineOf). IsPart t u (last_lines v)) one.takes.1 part))

-- nothing was written, or a front of the first line
pub cut_none : (plan : PlanOf) (pool : ℕ) (t : Option (List ℕ)) → IsCut plan pool [] t t
cut_none plan pool t = record { count = 0; written = none_more t; least = omega arith; most = λ long. absurd (omega arith) }

start_alone : (first rest : List ℕ) (n : ℕ) → take n first ≡ take (min n (length first)) (first ++ [] ++ rest)
start_alone first rest n =
    sym (take_min n first) ∙ sym (take-append-le (min n (length first)) first rest (omega arith)) ∙ ap (λ l. take (min n (length first)) (l ++ rest)) (sym (append-nil first))

pub cut_start : (plan : PlanOf) (pool : ℕ) (t u : Option (List ℕ)) → IsPart t u (start_line (length plan.plays)) → IsCut plan pool [] t u
cut_start plan pool t u part = record {
  count = min part.0 (length (start_line (length plan.plays)));
  written = part.1 ∙ ap (λ l. with_more t l) (start_alone (start_line (length plan.plays)) (end_lines plan (recap plan pool [])) part.0);
  least = omega arith;
  most = λ long. absurd (let all : length (lines_to plan pool []) ≡ length (start_line (length plan.plays)) + 0 = length-append (start_line (length plan.plays)) [] in omega arith);
}

-- the lines of the events break off
least_within : (plan : PlanOf) (pool : ℕ) (trail : List Event) (c : ℕ) → length (lines_from plan (first_state plan plan.forks pool) (all_but_last trail)) ≤ c → length (least_written plan pool trail) ≤ length (start_line (length plan.plays)) + c
least_within plan pool [] c le = omega arith
least_within plan pool (e ∷ es) c le = simp length-append (omega arith)

lines_alone : (base : Option (List ℕ)) (first lines rest : List ℕ) (c : ℕ) → c ≤ length lines → with_more (with_more base first) (take c lines) ≡ with_more base (take (length first + c) (first ++ lines ++ rest))
lines_alone base first lines rest c le =
    let within : length first + c ≤ length (first ++ lines) = simp length-append (omega arith) in
    more_more base first (take c lines) ∙ ap (λ l. with_more base l) (sym (take_behind c first lines)) ∙ ap (λ l. with_more base l) (sym (take-append-le (length first + c) (first ++ lines) rest within))

cut_short : (engine : EngineOf) (t u v : Option (List ℕ)) → u ≡ with_more t (start_line (length engine.plan.plays)) → IsShort engine u v → IsCut engine.plan engine.pool engine.trail t v
cut_short engine t u v started short =
    let first = start_line (length engine.plan.plays) in
    record {
      count = length first + short.count;
      written =
          short.written ∙ ap (λ b. with_more b (take short.count (lines_of_trail engine))) started
          ∙ lines_alone t first (lines_of_trail engine) (end_lines engine.plan (recap engine.plan engine.pool engine.trail)) short.count short.most;
      least = least_within engine.plan engine.pool engine.trail short.count short.least;
      most = λ long. absurd (let all : length (lines_to engine.plan engine.pool engine.trail) ≡ length first + length (lines_of_trail engine) = length-append first (lines_of_trail engine) in let most = short.most in omega arith);
    }

pub cut_turns : (old new : EngineOf) (t u v : Option (List ℕ)) → IsFresh old → u ≡ with_more t (start_line (length old.plan.plays)) → Breaks old new u v → IsSame old new → IsCut old.plan old.pool new.trail t v
cut_turns old new t u v fresh started breaks same =
    rw (← same.plan, ← same.pool) (cut_short new t u v (started ∙ ap (λ (p : PlanOf). with_more t (start_line (length p.plays))) (sym same.plan)) (breaks u (fresh_lines old u fresh)))

-- the statistics and the recap break off
end_alone : (base : Option (List ℕ)) (first lines rest : List ℕ) (n : ℕ) → with_more (with_more (with_more base first) lines) (take n rest) ≡ with_more base (take (length (first ++ lines) + min n (length rest)) (first ++ lines ++ rest))
end_alone base first lines rest n = ap (λ b. with_more b (take n rest)) (more_more base first lines) ∙ front_more base (first ++ lines) rest n

cut_at_end : (engine : EngineOf) (t u v w : Option (List ℕ)) → u ≡ with_more t (start_line (length engine.plan.plays)) → v ≡ with_more u (lines_of_trail engine) → IsFinished engine.plan engine.state → IsSound engine → IsPart v w (end_lines engine.plan (recap engine.plan engine.pool engine.trail)) → IsCut engine.plan engine.pool engine.trail t w
cut_at_end engine t u v w started lines ended sound part =
    let first = start_line (length engine.plan.plays) in
    let rest = end_lines engine.plan (recap engine.plan engine.pool engine.trail) in
    record {
      count = length (first ++ lines_of_trail engine) + min part.0 (length rest);
      written =
          part.1 ∙ ap (λ b. with_more b (take part.0 rest)) (lines ∙ ap (λ b. with_more b (lines_of_trail engine)) started)
          ∙ end_alone t first (lines_of_trail engine) rest part.0;
      least =
          let fewer = fewer_lines engine.plan (first_state engine.plan engine.plan.forks engine.pool) (length engine.trail - 1) engine.trail in
          let least = least_within engine.plan engine.pool engine.trail (length (lines_of_trail engine)) fewer in
          let all : length (first ++ lines_of_trail engine) ≡ length first + length (lines_of_trail engine) = length-append first (lines_of_trail engine) in
          omega arith;
      most = λ long. rw sound.ends ended;
    }

pub cut_end : (old new : EngineOf) (t u v w : Option (List ℕ)) (counts : List Counts) → IsFresh old → u ≡ with_more t (start_line (length old.plan.plays)) → Keeps old new u v → IsFinished new.plan new.state → IsSame old new → counts ≡ recap new.plan new.pool new.trail → IsPart v w (end_lines new.plan counts) → IsCut old.plan old.pool new.trail t w
cut_end old new t u v w counts fresh started keeps ended same counted part =
    rw (← same.plan, ← same.pool)
    (cut_at_end new t u v w (started ∙ ap (λ (p : PlanOf). with_more t (start_line (length p.plays))) (sym same.plan)) (keeps u (fresh_lines old u fresh)) ended same.run
    (subst (λ c. IsPart v w (end_lines new.plan c)) counted part))

-- nothing of a fresh engine's run was written, or a front of its first line
pub cut_fresh : (old : EngineOf) (t u : Option (List ℕ)) → IsFresh old → IsPart t u (start_line (length old.plan.plays)) → IsCut old.plan old.pool old.trail t u
cut_fresh old t u fresh part = rw fresh.1 (cut_start old.plan old.pool t u part)
