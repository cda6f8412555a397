use Rattle.std.proofs.Common.{◌++◌, ◌∙◌, ap}
use Rattle.std.specs.Arc.{arc_value}
use Rattle.pb_roles.specs.Building.{Flushed, flush_places}
use Rattle.pb_roles.proofs.Placed.{handler_read, handlers_read}
use Rattle.pb_roles.proofs.flush.push_flush.Goals as goal

pub loop-number-preserved : goal.loop-number-preserved
loop-number-preserved c =
    handler_read c.args.flushes.now.names c.flushes.inside.names c.args.is_caught c.args.flushes.now.handlers c.as_slice-handler-items.result.now c.loop-number.number c.in_ok-number.number c.handler-item.result
    (record { task = arc_value c.handler.inside.task; inherited = c.handler.inside.inherited }) c.in_ok-place.place c.loop-number.places.items c.push.new.self.items
    (c.args.places.now.items ++ flush_places c.args.flushes.now c.args.is_caught) (ap (λ (f : Flushed). f.names) c.flushes.view_is)
    (c.as_slice-handler-items.ensures ∙ ap (λ (f : Flushed). f.handlers) c.flushes.view_is) c.in_ok-number.ensures c.handler.view_is c.loop-number-test.true c.handler-item.is c.in_ok-place.ensures
    c.in_ok-push.ensures.items c.loop-number.invariant

pub returns : goal.returns
returns c =
    handlers_read c.args.flushes.now.names c.args.is_caught c.args.flushes.now.handlers c.as_slice-handler-items.result.now c.loop-number.number c.loop-number.places.items
    (c.args.places.now.items ++ flush_places c.args.flushes.now c.args.is_caught) (c.as_slice-handler-items.ensures ∙ ap (λ (f : Flushed). f.handlers) c.flushes.view_is) c.loop-number-test.false
    c.loop-number.invariant
