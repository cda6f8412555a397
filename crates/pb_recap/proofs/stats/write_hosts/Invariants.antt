use Rattle.std.proofs.Common.{◌≡◌, ◌++◌, ◌∷◌, map}
use Rattle.json.specs.Token.{begin_object}
use Rattle.json.specs.Tree.{members_tokens}
use Rattle.serde_json.specs.Written.{members_outline}
use Rattle.pb_recap.specs.Named.{members_of, named_in}
use Rattle.pb_recap.proofs.stats.write_hosts.Given as goal

abbrev pub invariant-loop-name : goal.invariant-loop-name
invariant-loop-name l =
    (l.out.tokens ++ members_tokens (members_outline (members_of (map (named_in l.counts) l.name-iterator))) ≡ l.fn.out.tokens ++ begin_object ∷ members_tokens (members_outline (members_of (map (named_in l.counts) l.hosts.entries))))
    × (l.out.before ≡ l.fn.out.before)
