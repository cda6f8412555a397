use Rattle.std.proofs.Common.{◌≡◌, ◌+◌, ◌-◌, arith}
use Rattle.pb_flat.proofs.Parts.{handler_more}
use Rattle.pb_flat.proofs.Places.{handler_added}
use Rattle.pb_flat.proofs.lay.lay_handlers.Goals as goal

pub loop-handler-preserved : goal.loop-handler-preserved
loop-handler-preserved c =
    let e : (c.loop-handler.handler - 1) + 1 ≡ c.loop-handler.handler = omega (arith, c.loop-handler-test.true) in
    record {
      le = omega (arith, c.loop-handler.invariant.le);
      lays = handler_more c.args.steps.now.items c.loop-handler.steps.items c.add_run.new.steps.items c.loop-handler.handler (c.loop-handler.handler - 1) c.args.handlers c.args.end c.args.over c.args.after c.loop-handler.first c.in_ok-first.first (c.args.end - c.args.handlers)
          c.requires.labels e c.loop-handler.invariant.le c.loop-handler.invariant.lays c.in_ok-first.ensures.adds;
      runs = handler_added c.args.steps.now.items c.loop-handler.steps.items c.add_run.new.steps.items (c.args.end - c.args.handlers) c.loop-handler.handler (c.loop-handler.handler - 1) c.args.handlers
          e c.loop-handler.invariant.le c.loop-handler.invariant.runs c.in_ok-first.ensures.places;
    }
