use Rattle.std.proofs.Common.{◌≡◌, true, sym, ◌∙◌, subst}
use Rattle.pb_state.specs.Machine.{possible}
use Rattle.pb_engine.specs.EngineOf.{EngineOf}
use Rattle.pb_engine.proofs.Runs.{run_on}
use Rattle.pb_engine.proofs.engine.Engine.take.Goals as goal

pub invariant_of-self : goal.invariant_of-self
invariant_of-self c =
    let may : possible c.self.inside.plan c.self.inside.state c.args.event ≡ true = subst (λ (v : EngineOf). possible v.plan v.state c.args.event ≡ true) (sym c.self.view_is) c.requires in
    record {
      run = run_on c.record.result c.self.inside.plan c.self.inside.pool c.self.inside.trail.items c.record.new.trail.items c.self.inside.state c.record.new.state c.args.event c.self.invariant.run may c.record.ensures.ok c.record.ensures.err;
      width = c.self.invariant.width ∙ sym c.record.ensures.hosts;
      forks = c.record.ensures.forks c.self.invariant.forks;
      known = c.record.ensures.known;
    }

pub returns-clause-run : goal.returns-clause-run
returns-clause-run c =
    let may : possible c.self.inside.plan c.self.inside.state c.args.event ≡ true = subst (λ (v : EngineOf). possible v.plan v.state c.args.event ≡ true) (sym c.self.view_is) c.requires in
    run_on c.record.result c.self.inside.plan c.self.inside.pool c.self.inside.trail.items c.record.new.trail.items c.self.inside.state c.record.new.state c.args.event c.self.invariant.run may c.record.ensures.ok c.record.ensures.err
