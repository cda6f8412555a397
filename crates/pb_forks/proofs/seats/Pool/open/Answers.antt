use Rattle.std.proofs.Common.{◌≡◌, sym, ◌∙◌, subst, replicate, None}
use Rattle.atomic_table.specs.Table.{opening}
use Rattle.pb_forks.specs.declared.views.View.TheVariants.{Main}
use Rattle.pb_forks.specs.Rule.{Slot, Kept}
use Rattle.pb_forks.specs.Views.{first_main}
use Rattle.pb_forks.proofs.SplitsJoins.{opens}
use Rattle.pb_forks.proofs.seats.Pool.open.Goals as goal

pub vacant-requires : goal.vacant-requires
vacant-requires g c =
    let k = c.args.forks in
    let none : Slot = None in
    let zeros : c.as_slice.result.now ≡ replicate k 0 = c.as_slice.ensures.value ∙ c.in_ok-words.ensures in
    subst (λ ws. Kept g.A.Allows.allows k (opening ws (replicate k none) (Main (first_main k)))) (sym zeros) (opens g.A.Allows.allows k)
