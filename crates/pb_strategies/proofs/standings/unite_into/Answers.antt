use Rattle.std.proofs.Common.{◌∙◌, ◌||◌, Bool, length, ap, sym}
use Rattle.std.proofs.lemmas.Simd.{length-zip2}
use Rattle.pb_strategies.proofs.standings.unite_into.Goals as goal

pub or_with-requires-2 : goal.or_with-requires-2
or_with-requires-2 c =
    ap length c.or_with.ensures
    ∙ length-zip2 (λ (a b : Bool). a || b) c.copy_into.new.set c.args.second.now (ap length c.copy_into.ensures ∙ sym c.requires.second)
    ∙ ap length c.copy_into.ensures
    ∙ sym c.requires.third
