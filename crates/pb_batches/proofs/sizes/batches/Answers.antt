use Rattle.pb_batches.specs.Sizes.{batch_sizes}
use Rattle.pb_batches.proofs.Batched.{one_more, none_left, all_add_up, none_empty}
use Rattle.pb_batches.proofs.sizes.batches.Goals as goal

pub loop-left-preserved : goal.loop-left-preserved
loop-left-preserved c =
    one_more c.args.hosts c.loop-left.left c.first_size-size.result (batch_sizes c.args.serial.now.entries c.args.hosts) c.loop-left.sizes.items c.push.new.self.items c.loop-left.rest.now c.entries_behind-rest.result.now
    c.loop-left-test.true c.loop-left.invariant c.first_size-size.ensures c.in_ok-push.ensures.items c.entries_behind-rest.ensures

pub returns-clause-total : goal.returns-clause-total
returns-clause-total c =
    let hosts = c.args.hosts in
    let sizes = c.loop-left.sizes.items in
    let all = none_left hosts c.loop-left.left (batch_sizes c.args.serial.now.entries hosts) sizes c.loop-left.rest.now c.loop-left-test.false c.loop-left.invariant in
    all_add_up hosts c.args.serial.now.entries sizes all

pub returns-clause-filled : goal.returns-clause-filled
returns-clause-filled c =
    let hosts = c.args.hosts in
    let sizes = c.loop-left.sizes.items in
    let all = none_left hosts c.loop-left.left (batch_sizes c.args.serial.now.entries hosts) sizes c.loop-left.rest.now c.loop-left-test.false c.loop-left.invariant in
    none_empty hosts c.args.serial.now.entries sizes all
