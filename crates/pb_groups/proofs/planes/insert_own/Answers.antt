use Rattle.pb_groups.proofs.Inserting.{inserting_begun, inserting_at, room_for}
use Rattle.pb_groups.proofs.planes.insert_own.Goals as goal

pub loop-own_host-init : goal.loop-own_host-init
loop-own_host-init c = inserting_begun _ _ _ _ c.requires.empty

pub insert-requires : goal.insert-requires
insert-requires c = room_for _ _ _ _ _ _ c.requires.within c.loop-own_host-test.true c.loop-own_host.invariant.0

pub loop-own_host-preserved : goal.loop-own_host-preserved
loop-own_host-preserved c = inserting_at _ _ _ _ _ _ _ c.requires.within c.loop-own_host-test.true c.insert.ensures c.loop-own_host.invariant
