use Rattle.std.proofs.Common.{rules, refl}
use Rattle.pb_engine.specs.EngineOf.{Takes}
use Rattle.pb_state.specs.declared.event.Event.TheVariants.{Report as Reported}
use Rattle.pb_driver.proofs.Going.{along_came, over_none_if}
use Rattle.pb_driver.proofs.driver.answer.Goals as goal

pub returns-in_err-report-clause-lost : goal.returns-in_err-report-clause-lost
returns-in_err-report-clause-lost g c =
    over_none_if (g.C.Crew.answers c.args.crew.now) g.C.Crew.went c.args.engine.now c.args.engine.now c.args.hand.now c.collect.new.hand c.from_residual.result g.met.C.Crew.went_more refl c.in_err-report.ensures.none

pub returns-clause-went : goal.returns-clause-went
returns-clause-went g c =
    let along = λ (takes : Takes c.args.engine.now c.absorb.new.self (Reported c.in_ok-report.report)). along_came g.C.Crew.went c.args.engine.now c.absorb.new.self c.args.hand.now c.collect.new.hand c.in_ok-report.report g.met.C.Crew.went_more c.requires.since.run takes c.in_ok-report.ensures.came in
    search (rules, along)
