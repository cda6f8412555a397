use Rattle.std.proofs.Common.{◌≡◌, ◌<◌, ◌-◌, ◌^◌, ◌∙◌, length, refl, Some, slice_get, slice_index_or, ap, subst, sym}
use Rattle.std.proofs.lemmas.Option.{slice_get_read}
use Rattle.pb_host.specs.declared.host.Counts.{Counts}
use Rattle.pb_host.specs.Ends.{IsAtMost}
use Rattle.pb_state.specs.State.{State}
use Rattle.pb_state.proofs.BatchBounds.{few_at}
use Rattle.pb_state.proofs.state.EngineState.host_counts.Goals as goal

pub returns-clause-few : goal.returns-clause-few
returns-clause-few c =
    let rows = c.self.inside.rows in
    let row = c.index-as_slice-host.result in
    let inside : c.args.host.0 < length rows = subst (λ (s : State). c.args.host.0 < length s.rows) (sym c.self.view_is) c.requires in
    let read : row ≡ slice_index_or rows c.args.host.0 row = c.index-as_slice-host.is ∙ ap (λ all. slice_index_or all c.args.host.0 row) c.as_slice.ensures in
    let there : slice_get rows c.args.host.0 ≡ Some row = slice_get_read rows (length rows) c.args.host.0 row refl inside read in
    let few = few_at c.self.inside.batch c.self.inside.sizes_left c.self.inside.play c.self.inside.sends c.args.host.0 c.self.inside.is_open rows row c.self.invariant there in
    subst (λ (counts : Counts). IsAtMost counts (2 ^ 32 - 2)) (sym c.counts.ensures) few
