use Rattle.pb_audit.proofs.Pools.{larger_allows}
use Rattle.pb_audit.proofs.larger_pools_allow_as_much.Goals as goal

pub returns : goal.returns
returns c = λ plan forks k n trail le legal. larger_allows plan forks k n trail le legal
