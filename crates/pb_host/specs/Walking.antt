-- What a row's walk tells, and a row that takes a walk.
use Rattle.std.specs.Prelude.{◌≡◌, true, List, [], Option, is_some, IfSome, false, None}
use Rattle.std.specs.Option.{option_map_or}
use Rattle.pb_tree.specs.Answer.{AnswerOf}
use Rattle.pb_tree.specs.Tree.{TreeOf}
use Rattle.pb_cursors.specs.Walks.{PlayWalkOf}
use Rattle.pb_host.specs.declared.host.Running.{Running}
use Rattle.pb_host.specs.Host.{no_tree, HostOf}

-- a host that is in no batch has no walk
abbrev pub tree_in : Option PlayWalkOf → TreeOf
tree_in walk = option_map_or (λ (w : PlayWalkOf). w.tree) walk no_tree

abbrev pub answers_in : Option PlayWalkOf → List AnswerOf
answers_in walk = option_map_or (λ (w : PlayWalkOf). w.answers) walk []

-- a host that runs is in the batch
abbrev pub RunsInBatch : Option Running → Option PlayWalkOf → Type 0
RunsInBatch running walk = IfSome running (λ r. is_some walk ≡ true)

-- a host that takes this walk
abbrev pub with_walk : Option PlayWalkOf → HostOf → HostOf
with_walk walk row = record row { tree = tree_in walk; answers = answers_in walk; in_batch = is_some walk; is_broken = false; running = None; last = None }
