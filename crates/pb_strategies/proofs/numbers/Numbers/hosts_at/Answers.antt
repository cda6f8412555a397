use Rattle.std.proofs.Common.{◌≡◌, ◌&&◌, ◌∙◌, Bool, List, length, map, ap, subst, sym}
use Rattle.pb_strategies.specs.declared.standings.Standing.{Standing}
use Rattle.pb_strategies.specs.Numbers.{AreBits, behind_bits, number_of, same_bits}
use Rattle.pb_strategies.proofs.Numbering.{there_by_bits}
use Rattle.pb_strategies.proofs.numbers.Numbers.hosts_at.Goals as goal

pub returns-then-left-eq0 : goal.returns-then-left-eq0
returns-then-left-eq0 c = λ hosts u are.
    let bits = c.args.self.now.bits.items in
    let place = c.args.place in
    let set = c.keep_bits-left.new.set in
    there_by_bits hosts c.args.unended.now set bits c.args.self.now.fits place c.keep_bits-left.result c.if-not-self.false
    (λ all test are_bits same.
    subst (λ (xs : List (List Bool)). set ≡ map (λ (host : Standing). test host && same_bits (length xs) (number_of host) place) all) c.as_slice.ensures.value
    (c.keep_bits-left.ensures.set all test (subst (AreBits all) (sym c.as_slice.ensures.value) are_bits) (c.in-Ok.ensures ∙ same)))
    (c.keep_bits-left.ensures.left ∙ ap (λ (xs : List (List Bool)). behind_bits (length xs) place) c.as_slice.ensures.value) c.if-left-eq0.true u are
