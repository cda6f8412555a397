-- How the result of a task's items counts: in the host's counts as in the recap from scratch.
use Rattle.std.proofs.Common.{◌≡◌, ℕ, ◌+◌, Bool, true, false, ◌&&◌, ◌||◌, not, List, refl, arith}
use Rattle.std.specs.Prelude.{Option, is_none, if◌then◌else◌}
use Rattle.std.specs.List.{list_any, list_all}
use Rattle.pb_outcome.specs.declared.gather.ItemResult.{ItemResult}
use Rattle.pb_outcome.specs.declared.gather.TaskResult.{TaskResult}
use Rattle.pb_outcome.specs.declared.item.Item.{Item}
use Rattle.pb_outcome.specs.Gathered.{some_unreachable, is_failed, is_skipped, is_changed, is_faulty, gathered}
use Rattle.pb_outcome.specs.Items.{ended, task_of}
use Rattle.pb_play.specs.declared.modules.Meta.{Meta}
use Rattle.pb_host.specs.declared.step_result.TaskEnd.{TaskEnd}
use Rattle.pb_host.specs.declared.host.Counts.{Counts}
use Rattle.pb_host.specs.Ends.{more, counted, counted_result, is_okay}
use Rattle.pb_lanes.specs.declared.kind.CountKind.{CountKind}
use Rattle.pb_lanes.specs.declared.kind.CountKind.TheVariants.{Okay, Changed, Unreachable, Failed, Skipped, Rescued, Ignored}
use Rattle.pb_recap.specs.Kinds.{count_of}
use Rattle.pb_recap.specs.Recap.{went_well, is_ignored, result_counts, counts_under}

-- one or none
abbrev pub one : Bool → ℕ
one b = if b then 1 else 0

more_is : (b : Bool) (n : ℕ) → more b n ≡ one b + n
more_is true n = omega arith
more_is false n = omega arith

-- unreachable, else failed, else skipped; and ignored only where it failed
abbrev formed : Bool → Bool → Bool → Bool → Bool → TaskResult
formed u f s c i = record { unreachable = u; failed = not u && f; skipped = not u && (not (not u && f) && s); changed = c; ignored = (not u && f) && i }

okay_formed : (u f s c i : Bool) → is_okay (formed u f s c i) ≡ (went_well (formed u f s c i) || is_ignored (formed u f s c i))
okay_formed true f s c i = refl
okay_formed false true s c true = refl
okay_formed false true s c false = refl
okay_formed false false true c i = refl
okay_formed false false false c i = refl

one_formed : (is_caught u f s c i : Bool) (counts : Counts) (kind : CountKind)
    → count_of kind (counted_result is_caught (formed u f s c i) counts) ≡ one (result_counts kind is_caught (formed u f s c i)) + count_of kind counts
one_formed is_caught u f s c i counts Okay = rw (more_is, okay_formed u f s c i) refl
one_formed is_caught u f s c i counts Changed = rw (more_is, okay_formed u f s c i) refl
one_formed is_caught u f s c i counts Unreachable = more_is u counts.unreachable
one_formed is_caught u f s c i counts Failed = more_is (((not u && f) && not ((not u && f) && i)) && not is_caught) counts.failed
one_formed is_caught u f s c i counts Skipped = more_is (not u && (not (not u && f) && s)) counts.skipped
one_formed is_caught u f s c i counts Rescued = more_is (((not u && f) && not ((not u && f) && i)) && is_caught) counts.rescued
one_formed is_caught u f s c i counts Ignored = more_is ((not u && f) && ((not u && f) && i)) counts.ignored

gathered_counts : (ignore : Bool) (items : List ItemResult) (is_caught : Bool) (counts : Counts) (kind : CountKind)
    → count_of kind (counted_result is_caught (gathered ignore items) counts) ≡ one (result_counts kind is_caught (gathered ignore items)) + count_of kind counts
gathered_counts ignore items is_caught counts kind =
    one_formed is_caught (some_unreachable items) (list_any (λ (item : ItemResult). is_failed item.ending) items) (list_all (λ (item : ItemResult). is_skipped item.ending) items)
    (list_any (λ (item : ItemResult). is_changed item.ending) items) (ignore && not (list_any (λ (item : ItemResult). is_faulty item.ending) items)) counts kind

pub none_more : (n : ℕ) → n ≡ 0 + n
none_more n = omega arith

-- a task that ended with these items, at a place that says so of it
abbrev end_of : Bool → List Item → Bool → Option Meta → TaskEnd
end_of ignore items is_caught meta = record { result = task_of ignore items; is_caught = is_caught; meta = meta }

pub task_counts : (ignore : Bool) (items : List Item) (is_caught : Bool) (meta : Option Meta) (counts : Counts) (kind : CountKind)
    → count_of kind (counted (end_of ignore items is_caught meta) counts) ≡ one (counts_under kind (end_of ignore items is_caught meta)) + count_of kind counts
task_counts ignore items is_caught meta counts kind = by_counted (is_none meta || (task_of ignore items).failed)
  where
    by_counted : (so : Bool) → count_of kind (if so then counted_result is_caught (task_of ignore items) counts else counts)
        ≡ one (so && result_counts kind is_caught (task_of ignore items)) + count_of kind counts
    by_counted true = gathered_counts ignore (ended items) is_caught counts kind
    by_counted false = none_more (count_of kind counts)
