use Rattle.std.proofs.Common.{ap, sym, ◌∙◌, length}
use Rattle.std.proofs.lemmas.Simd.{length-zip2}
use Rattle.pb_patterns.proofs.choice.Choice.hosts.Goals as goal

pub minus_with-requires : goal.minus_with-requires
minus_with-requires c =
    ap length c.and_with.ensures ∙ length-zip2 _ _ _ (c.in_ok-hosts.ensures.width ∙ sym c.requires.met) ∙ c.in_ok-hosts.ensures.width ∙ sym c.requires.excluded
