use Rattle.std.proofs.Common.{arith, ap, length, ◌∙◌}
use Rattle.std.proofs.lemmas.List.{take_at, length-replicate}
use Rattle.pb_groups.proofs.Inserting.{filled_by_own}
use Rattle.pb_groups.proofs.planes.members_of.Goals as goal

pub loop-above-init : goal.loop-above-init
loop-above-init c =
    filled_by_own _ _ _ _ _ _ _ _ c.requires.depths (ap length (c.as_mut_slice.ensures.value ∙ c.in_ok-planes.ensures) ∙ length-replicate _ _) (omega arith)
    (take_at _ _ _ (c.insert_own.auto.planes ∙ c.as_mut_slice.ensures.len)) c.insert_own.ensures
