-- What was asked for couldn't go on, said of the request.
use Rattle.std.proofs.Common.{◌≡◌, ◌⊎◌, ◌<◌, ◌≤◌, ℕ, true, false, List, Option, Some, None, is_some, inl, inr, subst, sym, arith}
use Rattle.std.specs.Prelude.{IfSome}
use Rattle.pb_planning.specs.declared.bundle.Bundle.{Bundle}
use Rattle.pb_command_line.specs.CommandLine.{Asks, IsSameUnder}
use Rattle.pb_command_line.specs.declared.words.Request.{Request}
use Rattle.pb_state.specs.declared.event.Event.{Event}
use Rattle.pb_cli.specs.Again.{IsSameUnderPut}
use Rattle.pb_cli.specs.declared.playing.Played.{Played}
use Rattle.pb_cli.specs.declared.playing.Wanted.{Wanted}
use Rattle.pb_cli.specs.Done.{IsBundleOf, IsWantedBy, is_too_long, IsShown, IsCutOrUnkept, IsBroken}
use Rattle.pb_cli.specs.World.{Stream, World, IsUntouched}
use Rattle.pb_cli.proofs.Running.{untouched}

pub broken : (request : Request) (bundle : Bundle) (wanted : Wanted) (path : Option (List ℕ)) (same_under : Option ℕ) (failed : Option (List ℕ)) (before after : World)
    → IsBundleOf request bundle → IsWantedBy request wanted → is_too_long wanted.outcomes ≡ false → path ≡ request.trail → same_under ≡ request.same_under → failed ≡ request.failed
    → IsUntouched before.stage after.stage ⊎ IsCutOrUnkept bundle wanted path same_under failed before after
    → IsUntouched before.stage after.stage ⊎ IsBroken request before after
broken request bundle wanted path same_under failed before after asked wants short named under kept (inl untouched) = inl untouched
broken request bundle wanted path same_under failed before after asked wants short named under kept (inr cut) =
    inr
    (record {
      bundle = bundle;
      wanted = wanted;
      asked = asked;
      wants = wants;
      short = short;
      cut =
          subst (λ (u : Option ℕ). IsCutOrUnkept bundle wanted request.trail u request.failed before after) under
          (subst (λ (p : Option (List ℕ)). IsCutOrUnkept bundle wanted p same_under request.failed before after) named
          (subst (λ (f : Option (List ℕ)). IsCutOrUnkept bundle wanted path same_under f before after) kept cut));
    })

-- so many forks are 1 to 256, as the words' reading gives them
under_in : (written : Option (List ℕ)) (under : Option ℕ) → IsSameUnder written under → IfSome under (λ n. (0 < n) × (n ≤ 256))
under_in None None is = tt
under_in None (Some n) is = cc
under_in (Some text) None is = absurd is
under_in (Some text) (Some n) (numeral, value, least, most) = (omega (arith, least), most)

pub under_asked : (words : List (List ℕ)) (request : Request) → Asks words request → IfSome request.same_under (λ n. (0 < n) × (n ≤ 256))
under_asked words request (none, (inventory, playbook, forks, outcomes, limit, extra, roles, facts, stop, under, failed, trail, audit, strict, places, purpose)) = under_in _ request.same_under under

-- what was asked for was done, and then the status is 1: nothing was done where a warning is a fault, and else the trail or the hosts that didn't get through couldn't be kept, or another run not be made
pub done_badly : (bundle : Bundle) (wanted : Wanted) (path : Option (List ℕ)) (same_under : Option ℕ) (failed : Option (List ℕ)) (before after : World) (warned : Stream) (played : Played)
    → IsShown bundle wanted before (record after { err = warned }) played
    → (played.status ≡ 1) ⊎ (((is_some path ≡ true) ⊎ (is_some same_under ≡ true) ⊎ (is_some failed ≡ true)) × (is_some played.trail ≡ true))
    → IsUntouched before.stage after.stage ⊎ IsCutOrUnkept bundle wanted path same_under failed before after
done_badly bundle wanted path same_under failed before after warned played shown (inl one) = inl (untouched bundle wanted before (record after { err = warned }) played shown one)
done_badly bundle wanted path same_under failed before after warned played shown (inr (asked, run)) =
    inr (inr (record { asked = asked; played = played; run = run; err_warned = warned; shown = shown }))

-- what was said of another run, where nothing was written behind it
pub same_under_before : (same_under : Option ℕ) (trail : Option (List Event)) (bundle : Bundle) (wanted : Wanted) (before compared after : Stream)
    → IsSameUnderPut same_under trail bundle wanted before compared → after.taken ≡ compared.taken → after.failures ≡ compared.failures → IsSameUnderPut same_under trail bundle wanted before after
same_under_before same_under trail bundle wanted before compared after is taken failures =
    subst (λ (a : Option (List ℕ)). IsSameUnderPut same_under trail bundle wanted before (record { taken = a; failures = after.failures })) (sym taken)
    (subst (λ (f : ℕ). IsSameUnderPut same_under trail bundle wanted before (record { taken = compared.taken; failures = f })) (sym failures) is)

-- only what is asked for can't be kept
pub unkept : (path : Option (List ℕ)) (same_under : Option ℕ) (failed : Option (List ℕ)) (trail : Option (List Event)) (status : ℕ)
    → (status ≡ 1) ⊎ (((is_some path ≡ true) ⊎ (is_some failed ≡ true)) × (is_some trail ≡ true))
    → (status ≡ 1) ⊎ (((is_some path ≡ true) ⊎ (is_some same_under ≡ true) ⊎ (is_some failed ≡ true)) × (is_some trail ≡ true))
unkept path same_under failed trail status (inl one) = inl one
unkept path same_under failed trail status (inr (inl named, run)) = inr (inl named, run)
unkept path same_under failed trail status (inr (inr named, run)) = inr (inr (inr named), run)

pub trail_unkept : (path failed : Option (List ℕ)) (trail : Option (List Event)) (status : ℕ)
    → (status ≡ 1) ⊎ ((is_some path ≡ true) × (is_some trail ≡ true))
    → (status ≡ 1) ⊎ (((is_some path ≡ true) ⊎ (is_some failed ≡ true)) × (is_some trail ≡ true))
trail_unkept path failed trail status (inl one) = inl one
trail_unkept path failed trail status (inr (named, run)) = inr (inl named, run)
