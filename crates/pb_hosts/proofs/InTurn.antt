-- What hosts learn one after another, in what is known of all of them.
use Rattle.std.proofs.Common.{◌≡◌, ◌≢◌, ◌∙◌, ℕ, zero, suc, List, [], ◌∷◌, ◌++◌, refl, sym, ap, subst}
use Rattle.std.specs.Prelude.{Option, Some, None, slice_get, slice_set}
use Rattle.std.specs.Option.{option_map_or}
use Rattle.pb_ids.specs.declared.numbers.HostNo.{HostNo}
use Rattle.pb_facts.specs.Book.{row_of}
use Rattle.pb_facts.specs.Facts.{FactsOf, no_facts}
use Rattle.pb_facts.specs.Update.{IsBetween}
use Rattle.pb_facts.specs.declared.update.FactsUndo.{FactsUndo}
use Rattle.pb_facts.specs.declared.update.FactsUndo.TheVariants.{Nothing as NoUndo}
use Rattle.pb_host.specs.Host.{HostOf, knows}
use Rattle.pb_hosts.specs.Applied.{LeadsTo, LearnInTurn, LearnsLast, LearnsOne, learnt_in}
use Rattle.pb_hosts.specs.Hosts.{change}

-- ---- what a row says
past : (k : ℕ) → row_of [] k ≡ no_facts
past zero = refl
past (suc k) = refl

row_says : (rows : List HostOf) (h : ℕ) → row_of (learnt_in rows) h ≡ option_map_or (λ (row : HostOf). row.facts) (slice_get rows h) no_facts
row_says [] h = past h
row_says (row ∷ rows) zero = refl
row_says (row ∷ rows) (suc h) = row_says rows h

pub learnt_there : (rows : List HostOf) (h : ℕ) (row : HostOf) → slice_get rows h ≡ Some row → row_of (learnt_in rows) h ≡ row.facts
learnt_there rows h row is = row_says rows h ∙ ap (λ (found : Option HostOf). option_map_or (λ (r : HostOf). r.facts) found no_facts) is

pub get_set : (rows : List HostOf) (h : ℕ) (row new : HostOf) → slice_get rows h ≡ Some row → slice_get (slice_set rows h new) h ≡ Some new
get_set [] h row new e = cc
get_set (r ∷ rows) zero row new e = refl
get_set (r ∷ rows) (suc h) row new e = get_set rows h row new e

-- where one row changes, the other hosts have learnt what they had
set_apart : (rows : List HostOf) (h k : ℕ) (row : HostOf) → k ≢ h → row_of (learnt_in (slice_set rows h row)) k ≡ row_of (learnt_in rows) k
set_apart [] h k row apart = refl
set_apart (r ∷ rows) zero zero row apart = absurd (apart refl)
set_apart (r ∷ rows) zero (suc k) row apart = refl
set_apart (r ∷ rows) (suc h) zero row apart = refl
set_apart (r ∷ rows) (suc h) (suc k) row apart = set_apart rows h k row (λ same. apart (ap suc same))

change_apart : (rows : List HostOf) (h k : ℕ) (f : HostOf → HostOf) → k ≢ h → row_of (learnt_in (change rows h f)) k ≡ row_of (learnt_in rows) k
change_apart rows h k f apart = by_found (slice_get rows h)
  where
    by_found : (found : Option HostOf) → row_of (learnt_in (option_map_or (λ (row : HostOf). slice_set rows h (f row)) found rows)) k ≡ row_of (learnt_in rows) k
    by_found None = refl
    by_found (Some row) = set_apart rows h k (f row) apart

-- ---- the log
pub log_learns : (log : List (HostNo × FactsUndo)) (was now : List HostOf) → LeadsTo log was now → LearnInTurn log (learnt_in was) (learnt_in now)
log_learns [] was now l = ap learnt_in l
log_learns (one ∷ log) was now l =
    (learnt_in l.0, ((λ other apart. sym (ap (λ (rows : List HostOf). row_of (learnt_in rows) other) l.1.2 ∙ change_apart l.0 one.0.0 other (knows l.1.0) apart)), l.1.3), log_learns log l.0 now l.2)

-- nobody learnt anything
pub none_learnt : (log : List (HostNo × FactsUndo)) (before now : List FactsOf) → log ≡ [] → before ≡ now → LearnInTurn log before now
none_learnt log before now none same = subst (λ (all : List (HostNo × FactsUndo)). LearnInTurn all before now) (sym none) same

-- ---- the host of a row that changes itself
pub learns_there : (past : FactsUndo) (rows : List HostOf) (h : ℕ) (row new : HostOf) → slice_get rows h ≡ Some row → IsBetween past row.facts new.facts → LearnsOne h past (learnt_in rows) (learnt_in (slice_set rows h new))
learns_there past rows h row new is between = (
  (λ other apart. set_apart rows h other new apart),
  subst (λ (was : FactsOf). IsBetween past was (row_of (learnt_in (slice_set rows h new)) h)) (sym (learnt_there rows h row is))
      (subst (λ (now : FactsOf). IsBetween past row.facts now) (sym (learnt_there (slice_set rows h new) h new (get_set rows h row new is))) between),
)

-- a number that is no host's
pub learns_nowhere : (h : ℕ) (known : List FactsOf) → LearnsOne h NoUndo known known
learns_nowhere h known = ((λ other apart. refl), refl)

-- it is the last that learns something
turn_more : (log : List (HostNo × FactsUndo)) (one : HostNo × FactsUndo) (was mid now : List FactsOf) → LearnInTurn log was mid → LearnsOne one.0.0 one.1 mid now → LearnInTurn (log ++ one ∷ []) was now
turn_more [] one was mid now l s = (now, subst (λ (known : List FactsOf). LearnsOne one.0.0 one.1 known now) (sym l) s, refl)
turn_more (first ∷ log) one was mid now l s = (l.0, l.1, turn_more log one l.0 mid now l.2 s)

pub learns_last : (log new : List (HostNo × FactsUndo)) (host : HostNo) (rows mid now : List HostOf) → LeadsTo log rows mid → LearnsLast host log new (learnt_in mid) (learnt_in now) → LearnInTurn new (learnt_in rows) (learnt_in now)
learns_last log new host rows mid now leads last =
    subst (λ (all : List (HostNo × FactsUndo)). LearnInTurn all (learnt_in rows) (learnt_in now)) (sym last.2)
    (turn_more log (host, last.0) (learnt_in rows) (learnt_in mid) (learnt_in now) (log_learns log rows mid leads) last.1)
