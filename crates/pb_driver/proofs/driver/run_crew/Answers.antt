use Rattle.std.proofs.Common.{◌≡◌, ℕ, List, ◌∙◌, ap}
use Rattle.std.specs.Prelude.{Ok}
use Rattle.pb_plan.specs.Plan.{PlanOf}
use Rattle.pb_state.specs.declared.event.Event.{Event}
use Rattle.pb_state.specs.Run.{state_after}
use Rattle.pb_host.specs.declared.host.Counts.{Counts}
use Rattle.pb_engine.specs.EngineOf.{EngineOf, engine_of}
use Rattle.pb_engine.specs.Laws.{EndsAsFixed}
use Rattle.pb_recap.specs.Recap.{recap}
use Rattle.pb_recap.specs.Kinds.{status_of}
use Rattle.pb_driver.specs.Driven.{IsRecapped}
use Rattle.pb_driver.proofs.Driving.{made_of}
use Rattle.pb_driver.proofs.Turning.{out_of, to_none, to_of}
use Rattle.pb_driver.proofs.driver.run_crew.Goals as goal

-- the recap and the status of the plan's run
recapped_of : (plan : PlanOf) (pool : ℕ) (engine : EngineOf) (new_trail trail : List Event) (counts : List Counts) (status : ℕ) → engine_of plan pool ≡ Ok engine → counts ≡ recap engine.plan engine.pool new_trail
    → status ≡ status_of counts → EndsAsFixed plan pool trail (state_after plan pool trail) → trail ≡ new_trail → IsRecapped plan pool trail counts status
recapped_of plan pool engine new_trail trail counts status made counted cursor fixed is =
    let from = made_of plan pool engine made in
    let same : counts ≡ recap plan pool trail = rw (is, ← from.0, ← from.1) counted in
    (same, cursor ∙ ap (λ (c : List Counts). status_of c) same, fixed)

pub returns-in-Err-clause-stopped : goal.returns-in-Err-clause-stopped
returns-in-Err-clause-stopped g c =
    to_of (g.C.Crew.answers c.args.desk.now.crew.now) g.C.Crew.went c.args.desk.now.commands.now c.args.plan c.args.pool c.in-Ok.engine c.run_engine.new.engine.trail c.into_trail-in-Err.result.items c.args.hand.now c.run_engine.new.hand (g.W.LineOut.taken c.args.writer.now) (g.W.LineOut.taken c.run_engine.new.writer) (g.W.LineOut.failures c.args.writer.now) (g.W.LineOut.failures c.run_engine.new.writer) _
    c.in-Ok.ensures.value c.in-Err.ensures.stopped c.into_trail-in-Err.ensures.value

pub returns-in-Err-Memory-clause-stopped : goal.returns-in-Err-Memory-clause-stopped
returns-in-Err-Memory-clause-stopped g c =
    rw c.new-in-Err-Memory.ensures.items (to_none (g.C.Crew.answers c.args.desk.now.crew.now) g.C.Crew.went c.args.desk.now.commands.now c.args.plan c.args.pool c.args.hand.now (g.W.LineOut.taken c.args.writer.now) (g.W.LineOut.failures c.args.writer.now) (g.met.C.Crew.went_none c.args.hand.now))

pub returns-in-Ok-run_engine-clause-run : goal.returns-in-Ok-run_engine-clause-run
returns-in-Ok-run_engine-clause-run g c =
    out_of (g.C.Crew.answers c.args.desk.now.crew.now) g.C.Crew.went c.args.desk.now.commands.now (g.C.Crew.fits c.args.desk.now.crew.now c.run_engine.new.hand) c.args.plan c.args.pool c.in-Ok.engine c.run_engine.new.engine.trail c.into_trail.result.items
    c.args.hand.now c.run_engine.new.hand (g.W.LineOut.taken c.args.writer.now) (g.W.LineOut.taken c.run_engine.new.writer) (g.W.LineOut.failures c.args.writer.now) (g.W.LineOut.failures c.run_engine.new.writer)
    c.in-Ok.ensures.value c.in-Ok-run_engine.ensures.run c.into_trail.ensures.value

pub returns-in-Ok-run_engine-clause-recapped : goal.returns-in-Ok-run_engine-clause-recapped
returns-in-Ok-run_engine-clause-recapped g c =
    recapped_of c.args.plan c.args.pool c.in-Ok.engine c.run_engine.new.engine.trail c.into_trail.result.items c.in-Ok-run_engine.recap c.status-status.result c.in-Ok.ensures.value c.in-Ok-run_engine.ensures.recap
    c.status-status.ensures (c.runs_end_as_fixed.ensures c.args.plan c.args.pool c.into_trail.result.items _) c.into_trail.ensures.value
