-- Worked recaps of runs through blocks, and of tasks of `meta`.
use Rattle.std.specs.Prelude.{◌≡◌, true, false, [], ◌∷◌, Some, None, refl}
use Rattle.pb_outcome.specs.declared.gather.TaskResult.{TaskResult}
use Rattle.pb_play.specs.declared.modules.Meta.TheVariants.{Noop}
use Rattle.pb_host.specs.declared.step_result.TaskEnd.{TaskEnd}
use Rattle.pb_state.specs.BlockRows.{says, refuses, rescued_by, rescued_run, failed_run, lost_run, always_fails, always_fails_run, two_plays, ending_run, left_out, does_nothing, goes_on_run, ends_after, ends_after_run, unread_rescued, unread_rescued_run, unread_alone, unread_run}
use Rattle.pb_host.specs.FactRows.{on_facts}
use Rattle.pb_host.specs.Host.{none_counted}
use Rattle.pb_lanes.specs.declared.kind.CountKind.TheVariants.{Okay, Failed, Rescued, Ignored}
use Rattle.pb_recap.specs.Kinds.{status_of}
use Rattle.pb_recap.specs.Recap.{recap, counts_under}

-- a rescued failure is no failure, also of the whole run
rescues : recap (rescued_by says) 5 rescued_run ≡ record none_counted { ok = 4; rescued = 1 } ∷ []
unfolding on_facts
rescues = refl

good_status : status_of (record none_counted { ok = 4; rescued = 1 } ∷ []) ≡ 0
good_status = refl

-- where the rescue fails too, its failure counts beside the one that it was to clear
rescue_fails : recap (rescued_by refuses) 5 failed_run ≡ record none_counted { ok = 2; failed = 1; rescued = 1 } ∷ []
unfolding on_facts
rescue_fails = refl

bad_status : status_of (record none_counted { ok = 2; failed = 1; rescued = 1 } ∷ []) ≡ 2
bad_status = refl

-- a host that can't be reached is neither
loses : recap (rescued_by says) 5 lost_run ≡ record none_counted { ok = 1; unreachable = 1 } ∷ []
unfolding on_facts
loses = refl

-- a failing always part counts as any failure does
always_counts : recap always_fails 5 always_fails_run ≡ record none_counted { ok = 1; failed = 1 } ∷ []
unfolding on_facts
always_counts = refl

-- tasks of `meta` that end the play, that are left out and that do nothing don't count
ends_twice : recap two_plays 5 ending_run ≡ record none_counted { ok = 2 } ∷ []
unfolding on_facts
ends_twice = refl

leaves_out : recap left_out 5 goes_on_run ≡ record none_counted { ok = 2 } ∷ []
unfolding on_facts
leaves_out = refl

nothing_done : recap does_nothing 5 goes_on_run ≡ record none_counted { ok = 2 } ∷ []
unfolding on_facts
nothing_done = refl

ends_in_always : recap ends_after 5 ends_after_run ≡ record none_counted { failed = 1 } ∷ []
unfolding on_facts
ends_in_always = refl

-- one whose condition can't be read counts as what failed, rescued where its place is caught
unread_is_rescued : recap unread_rescued 5 unread_rescued_run ≡ record none_counted { ok = 1; rescued = 1 } ∷ []
unfolding on_facts
unread_is_rescued = refl

unread_fails : recap unread_alone 5 unread_run ≡ record none_counted { failed = 1 } ∷ []
unfolding on_facts
unread_fails = refl

-- an ignored failure at a caught place is no rescue
abbrev failure : TaskResult
failure = record { unreachable = false; failed = true; skipped = false; changed = false; ignored = false }

abbrev ignored_there : TaskEnd
ignored_there = record { result = record failure { ignored = true }; is_caught = true; meta = None }

ignored_is_no_rescue : counts_under Rescued ignored_there ≡ false
ignored_is_no_rescue = refl

ignored_is_ignored : counts_under Ignored ignored_there ≡ true
ignored_is_ignored = refl

abbrev failed_meta : TaskEnd
failed_meta = record { result = failure; is_caught = false; meta = Some Noop }

meta_fails : counts_under Failed failed_meta ≡ true
meta_fails = refl

meta_is_not_okay : counts_under Okay (record failed_meta { result = record failure { failed = false } }) ≡ false
meta_is_not_okay = refl
