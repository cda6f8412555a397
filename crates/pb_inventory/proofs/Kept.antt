-- What is kept of the order of groups.
use Rattle.std.proofs.Common.{◌≡◌, ◌<◌, ℕ, List, length}
use Rattle.std.specs.List.{All}
use Rattle.std.proofs.lemmas.List.Elements.{All-filter}
use Rattle.pb_ids.specs.declared.numbers.GroupNo.{GroupNo}
use Rattle.pb_groups.specs.Merging.{with_host, has_member}
use Rattle.pb_inventory.specs.GraphOf.{GraphOf, numbered}

pub below_still : (graph : GraphOf) (host : ℕ) (order some : List GroupNo) → some ≡ with_host (numbered graph) host order → All (λ g. g.0 < length graph.groups) order → All (λ g. g.0 < length graph.groups) some
below_still graph host order some is below = rw is (All-filter (λ g. has_member (numbered graph) g.0 host) (λ g. g.0 < length graph.groups) order below)
