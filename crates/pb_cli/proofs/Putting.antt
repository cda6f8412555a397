-- What a writer took of a text, as it is said of a stream.
use Rattle.std.proofs.Common.{◌≡◌, ℕ, List, Option, Result, Some, None, Ok, Err, inl, inr, subst, sym}
use Rattle.std.specs.Prelude.{OnOk, OnErr}
use Rattle.pb_planning.specs.declared.bundle.Bundle.{Bundle}
use Rattle.pb_state.specs.declared.event.Event.{Event}
use Rattle.pb_driver.specs.Cut.{IsPart}
use Rattle.pb_driver.specs.Taken.{with_more, one_more}
use Rattle.pb_cli.specs.Again.{ignored_text, IsComparisonPut, IsSameUnderPut}
use Rattle.pb_cli.specs.declared.playing.Wanted.{Wanted}
use Rattle.pb_cli.specs.World.{Stream, IsPut}

pub put_of : {X E : Type 0} (result : Result X E) (text : List ℕ) (before after : Stream)
    → OnOk result (after.taken ≡ with_more before.taken text) → OnErr result (IsPart before.taken after.taken text) → OnErr result (after.failures ≡ one_more before.failures) → IsPut text before after
put_of (Ok x) text before after whole part failed = inl whole
put_of (Err e) text before after whole part failed = inr (part, failed)

-- a run can't be made once more without outcomes, which is told
pub ignored_put : (same_under : Option ℕ) (trail : Option (List Event)) (forks : ℕ) (events : List Event) (bundle : Bundle) (wanted : Wanted) (before after : Stream)
    → same_under ≡ Some forks → trail ≡ Some events → wanted.outcomes ≡ None → IsPut ignored_text before after → IsSameUnderPut same_under trail bundle wanted before after
ignored_put same_under trail forks events bundle wanted before after under run none put =
    subst (λ (u : Option ℕ). IsSameUnderPut u trail bundle wanted before after) (sym under)
    (subst (λ (t : Option (List Event)). IsSameUnderPut (Some forks) t bundle wanted before after) (sym run)
    (subst (λ (o : Option (List ℕ)). IsComparisonPut o forks bundle wanted.stop_after events before after) (sym none) put))
