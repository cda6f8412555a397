-- How the logic stores what is written in a list of nodes.
use Rattle.std.specs.Prelude.{◌≡◌, refl}
use Rattle.std.proofs.Common.{ap}
use Rattle.std.specs.Coded.{Coded}
use base.Stored.{Gv, gnil, gnum, gcons}
use Rattle.pb_play.specs.Nodes.{Written, Nothing, Task, Block, Flush}
use Rattle.pb_play.specs.declared.node.BlockKeys.{BlockKeys}
use Rattle.pb_play.specs.declared.task.Task as declared

-- the first half of a stored pair; nothing where no pair is stored
abbrev head : Gv → Gv
head gnil = gnil
head (gnum n) = gnil
head (gcons g h) = g

-- its second half; nothing where no pair is stored
abbrev tail : Gv → Gv
tail gnil = gnil
tail (gnum n) = gnil
tail (gcons g h) = h

module _ (tasks : Coded declared.Task) (blocks : Coded BlockKeys) where
  abbrev code : Written → Gv
  code Nothing = gnil
  code (Task t rest) = gcons (gcons (gnum 0) (tasks.code t)) (code rest)
  code (Block keys body rescue always rest) = gcons (gcons (gnum 1) (gcons (blocks.code keys) (gcons (code body) (gcons (code rescue) (code always))))) (code rest)
  code (Flush rest) = gcons (gnum 2) (code rest)

  pub code_is : (x y : Written) → code x ≡ code y → x ≡ y
  code_is Nothing Nothing e = refl
  code_is Nothing (Task u more) e = cc
  code_is Nothing (Block keys' body' rescue' always' more) e = cc
  code_is Nothing (Flush more) e = cc
  code_is (Task t rest) Nothing e = cc
  code_is (Task t rest) (Task u more) e =
      let same = tasks.inj t u (ap (λ g. tail (head g)) e) in
      let behind = code_is rest more (ap tail e) in λ i. Task (same i) (behind i)
  code_is (Task t rest) (Block keys' body' rescue' always' more) e = cc
  code_is (Task t rest) (Flush more) e = cc
  code_is (Block keys body rescue always rest) Nothing e = cc
  code_is (Block keys body rescue always rest) (Task u more) e = cc
  code_is (Block keys body rescue always rest) (Block keys' body' rescue' always' more) e =
      let same = blocks.inj keys keys' (ap (λ g. head (tail (head g))) e) in
      let bodies = code_is body body' (ap (λ g. head (tail (tail (head g)))) e) in
      let rescues = code_is rescue rescue' (ap (λ g. head (tail (tail (tail (head g))))) e) in
      let ends = code_is always always' (ap (λ g. tail (tail (tail (tail (head g))))) e) in
      let behind = code_is rest more (ap tail e) in λ i. Block (same i) (bodies i) (rescues i) (ends i) (behind i)
  code_is (Block keys body rescue always rest) (Flush more) e = cc
  code_is (Flush rest) Nothing e = cc
  code_is (Flush rest) (Task u more) e = cc
  code_is (Flush rest) (Block keys' body' rescue' always' more) e = cc
  code_is (Flush rest) (Flush more) e = let behind = code_is rest more (ap tail e) in λ i. Flush (behind i)

  abbrev pub coded_written : Coded Written
  coded_written = record { code = code; inj = code_is }
