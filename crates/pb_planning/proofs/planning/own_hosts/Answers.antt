use Rattle.std.proofs.Common.{◌≡◌, ◌∙◌, length, ap, sym}
use Rattle.std.proofs.lemmas.Simd.{length-zip2}
use Rattle.pb_planning.proofs.planning.own_hosts.Goals as goal

pub returns-clause-width : goal.returns-clause-width
returns-clause-width c =
    let wide : length c.in_ok-own.own.hosts ≡ length c.args.inventory.now.hosts = c.in_ok-own.ensures.width in
    ap length c.and_with.ensures ∙ length-zip2 _ _ _ (wide ∙ sym c.requires) ∙ wide
