-- The trails that are handed out are legal.
use Rattle.std.proofs.Common.{◌≡◌, ◌⊎◌, ℕ, Bool, true, false, List, Option, Some, None, inl, inr, refl, subst}
use Rattle.pb_planning.specs.Bundle.{IsPlanOf}
use Rattle.pb_plan.specs.Plan.{PlanOf}
use Rattle.pb_planning.specs.declared.bundle.Bundle.{Bundle}
use Rattle.pb_planning.proofs.OnePlan.{plans_are_one}
use Rattle.pb_state.specs.declared.event.Event.{Event}
use Rattle.pb_driver.specs.declared.driver.RunFault.{RunFault}
use Rattle.pb_audit.specs.Audit.{is_legal}
use Rattle.pb_command_line.specs.declared.words.Purpose.{Purpose}
use Rattle.pb_command_line.specs.declared.words.Purpose.TheVariants.{Run, CheckSyntax, ListHosts}
use Rattle.pb_cli.specs.declared.playing.Played.{Played}
use Rattle.pb_cli.specs.declared.playing.Wanted.{Wanted}
use Rattle.pb_cli.specs.Played.{IsPlayed, IsPlayedTo, HasTrail, IsRunOrAudited, IsRunOrAuditedTo, IsGivenFor, IsGivenToFor, IsGivenTo, IsGivenUnless, is_forbidden, IsUnbegun}
use Rattle.pb_cli.specs.Done.{IsWarnedAndStopped, TrailsAreLegal}
use Rattle.pb_cli.specs.World.{Stage, World, IsQuiet}

of_run : (plan : PlanOf) (stop_after : Option ℕ) (facts outcomes : Option (List ℕ)) (trail : List Event) (before after : Stage) (status : ℕ)
    → IsPlayed plan stop_after facts outcomes trail before after status → is_legal plan trail ≡ true
of_run plan stop_after facts None trail before after status run = run.run.audited
of_run plan stop_after facts (Some bytes) trail before after status run = run.1.run.audited

of_cut : (plan : PlanOf) (stop_after : Option ℕ) (facts outcomes : Option (List ℕ)) (trail : List Event) (fault : RunFault) (before after : Stage)
    → IsPlayedTo plan stop_after facts outcomes trail fault before after → is_legal plan trail ≡ true
of_cut plan stop_after facts None trail fault before after cut = cut.cut.audited
of_cut plan stop_after facts (Some bytes) trail fault before after cut = cut.1.cut.audited

no_trail : {X : Type 0} (trail : Option (List Event)) (events : List Event) → trail ≡ None → trail ≡ Some events → X
no_trail trail events none some = cc

of_one : (plan : PlanOf) (holds : List Event → Type 0) (handed : Option (List Event)) (trail : List Event) → ((events : List Event) → holds events → is_legal plan events ≡ true)
    → HasTrail handed holds → handed ≡ Some trail → is_legal plan trail ≡ true
of_one plan holds None trail legal has is = absurd has
of_one plan holds (Some events) trail legal has is = let same : events ≡ trail = cc in subst (λ es. is_legal plan es ≡ true) same (legal events has)

of_whole : (audited : Option (List ℕ)) (wanted : Wanted) (plan : PlanOf) (before after : Stage) (played : Played) (trail : List Event)
    → IsRunOrAudited audited wanted plan before after played → played.trail ≡ Some trail → is_legal plan trail ≡ true
of_whole None wanted plan before after played trail given is =
    of_one plan _ played.trail trail (λ events run. of_run plan wanted.stop_after wanted.facts_program wanted.outcomes events before after played.status run) given is
of_whole (Some bytes) wanted plan before after played trail given is = no_trail played.trail trail given.1 is

of_given : (purpose : Purpose) (wanted : Wanted) (plan : PlanOf) (before after : Stage) (played : Played) (trail : List Event)
    → IsGivenFor purpose wanted plan before after played → played.trail ≡ Some trail → is_legal plan trail ≡ true
of_given Run wanted plan before after played trail given is = of_whole wanted.audited wanted plan before after played trail given is
of_given CheckSyntax wanted plan before after played trail given is = no_trail played.trail trail given.3 is
of_given ListHosts wanted plan before after played trail given is = no_trail played.trail trail given.3 is

of_whole_cut : (audited : Option (List ℕ)) (wanted : Wanted) (plan : PlanOf) (fault : RunFault) (trail : List Event) (before after : Stage)
    → IsRunOrAuditedTo audited wanted plan fault (Some trail) before after → is_legal plan trail ≡ true
of_whole_cut None wanted plan fault trail before after cut = of_cut plan wanted.stop_after wanted.facts_program wanted.outcomes trail fault before after cut
of_whole_cut (Some bytes) wanted plan fault trail before after cut = no_trail (Some trail) trail cut.2 refl

of_given_cut : (purpose : Purpose) (wanted : Wanted) (plan : PlanOf) (fault : RunFault) (trail : List Event) (before after : Stage)
    → IsGivenToFor purpose wanted plan fault (Some trail) before after → is_legal plan trail ≡ true
of_given_cut Run wanted plan fault trail before after cut = of_whole_cut wanted.audited wanted plan fault trail before after cut
of_given_cut CheckSyntax wanted plan fault trail before after cut = no_trail (Some trail) trail cut.2 refl
of_given_cut ListHosts wanted plan fault trail before after cut = no_trail (Some trail) trail cut.2 refl

of_stopped : (wanted : Wanted) (plan : PlanOf) (fault : RunFault) (trail : List Event) (before after : Stage)
    → IsGivenTo wanted plan fault (Some trail) before after → is_legal plan trail ≡ true
of_stopped wanted plan fault trail before after (inl unbegun) = no_trail (Some trail) trail unbegun.1 refl
of_stopped wanted plan fault trail before after (inr cut) = of_given_cut wanted.purpose wanted plan fault trail before after cut

of_given_unless : (forbidden : Bool) (wanted : Wanted) (plan : PlanOf) (before after : Stage) (played : Played) (trail : List Event)
    → IsGivenUnless forbidden wanted plan before after played → played.trail ≡ Some trail → is_legal plan trail ≡ true
of_given_unless true wanted plan before after played trail given is = no_trail played.trail trail given.2 is
of_given_unless false wanted plan before after played trail given is = of_given wanted.purpose wanted plan before after played trail given is

of_warned : (wanted : Wanted) (plan : PlanOf) (fault : RunFault) (trail : List Event) (before after : World)
    → (IsUnbegun fault (Some trail) before.stage after.stage × IsQuiet before.err after.err) ⊎ IsWarnedAndStopped wanted plan fault (Some trail) before after → is_legal plan trail ≡ true
of_warned wanted plan fault trail before after (inl unwarned) = let unbegun = unwarned.0 in no_trail (Some trail) trail unbegun.1 refl
of_warned wanted plan fault trail before after (inr stopped) = of_stopped wanted plan fault trail before.stage after.stage stopped.2

-- so it is under every plan of the bundle
under_any : (bundle : Bundle) (one plan : PlanOf) (trail : List Event) → IsPlanOf bundle one → IsPlanOf bundle plan → is_legal one trail ≡ true → is_legal plan trail ≡ true
under_any bundle one plan trail planned also legal = subst (λ (p : PlanOf). is_legal p trail ≡ true) (plans_are_one bundle one plan planned also) legal

pub trails_are_legal : TrailsAreLegal
trails_are_legal = (
  λ bundle wanted before after played trail shown is plan planned.
      under_any bundle shown.0 plan trail shown.1 planned (of_given_unless (is_forbidden wanted shown.0) wanted shown.0 before.stage after.stage played trail shown.2 is),
  λ bundle wanted fault before after trail stopped plan planned.
      under_any bundle stopped.0 plan trail stopped.1 planned (of_warned wanted stopped.0 fault trail before after stopped.2),
)
