use Rattle.serde_json.specs.View.{view, items_view}
use Rattle.std.proofs.Common.{drop, ◌+◌}
use Rattle.pb_reading.specs.Reading.{each}
use Rattle.pb_play_reading.specs.Plays.{play}
use Rattle.pb_play_reading.specs.Playbooks.{each_expression}
use Rattle.pb_play_reading.proofs.Refusable.{next_left, plays_begun, play_stopped, play_taken}
use Rattle.pb_play_reading.proofs.playbook.read_each.Goals as goal

pub loop-i-init : goal.loop-i-init
loop-i-init c = plays_begun c.args.path.now (items_view c.args.items.now) c.in_ok-read.read.items c.in_ok-read.ensures.items

pub loop-i-preserved : goal.loop-i-preserved
loop-i-preserved c =
    play_taken (each_expression c.args.path.now 0 (items_view c.args.items.now)) (each play c.args.path.now 0 (items_view c.args.items.now)) c.args.path.now c.loop-i.i (view c.index-items-i.result)
    (items_view (drop (c.loop-i.i + 1) c.args.items.now)) (items_view (drop c.loop-i.i c.args.items.now)) c.loop-i.read.items c.push.new.self.items c.in-Ok.play
    (next_left c.args.items.now c.loop-i.i c.index-items-i.result c.loop-i-test.true c.index-items-i.is) c.in_ok-push-in-Ok.ensures.items c.loop-i.invariant c.in-Ok.ensures

pub returns-in-Err : goal.returns-in-Err
returns-in-Err c =
    play_stopped (each_expression c.args.path.now 0 (items_view c.args.items.now)) (each play c.args.path.now 0 (items_view c.args.items.now)) c.args.path.now c.loop-i.i (view c.index-items-i.result)
    (items_view (drop (c.loop-i.i + 1) c.args.items.now)) (items_view (drop c.loop-i.i c.args.items.now)) c.loop-i.read.items c.in-Err.stop
    (next_left c.args.items.now c.loop-i.i c.index-items-i.result c.loop-i-test.true c.index-items-i.is) c.loop-i.invariant c.in-Err.ensures
