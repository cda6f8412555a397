-- How many members a list of values has, as its rows count them, and how many plays are read from them.
use Rattle.std.proofs.Common.{◌≡◌, ℕ, ◌+◌, List, [], ◌∷◌, length, Ok, Err, refl, arith}
use Rattle.std.specs.Prelude.{decimal}
use Rattle.serde_json.specs.Data as json
use Rattle.serde_json.specs.View.{items_view}
use Rattle.serde_json.specs.declared.value.Value.{Value}
use Rattle.pb_value.specs.Reading.{and_then, below}
use Rattle.pb_reading.specs.Reading.{Reading, each}
use Rattle.pb_play_reading.specs.Plays.{play}
use Rattle.pb_play_reading.specs.Playbooks.{count}
use Rattle.pb_written.specs.declared.fault.LoadFault.{LoadFault}
use Rattle.pb_play_reading.specs.declared.play.Play.{Play}

pub count_items : (vs : List Value) → count (items_view vs) ≡ length vs
count_items [] = refl
count_items (v ∷ vs) = omega (arith, count_items vs)

one_more : (first : Reading Play LoadFault) (rest : Reading (List Play) LoadFault) (n : ℕ) → ((ps : List Play) → rest ≡ Ok ps → length ps ≡ n) → (ps : List Play) → and_then first (λ p. and_then rest (λ qs. Ok (p ∷ qs))) ≡ Ok ps → length ps ≡ n + 1
one_more (Err f) rest n count ps e = cc
one_more (Ok p) (Err f) n count ps e = cc
one_more (Ok p) (Ok qs) n count ps e = let is : ps ≡ p ∷ qs = cc in let counted = count qs refl in rw is (omega (arith, counted))

pub each_length : (path : List ℕ) (i : ℕ) (ds : json.Items) (ps : List Play) → each play path i ds ≡ Ok ps → length ps ≡ count ds
each_length path i json.no_items ps e = let is : ps ≡ [] = cc in rw is refl
each_length path i (json.item d ds) ps e = one_more (play (below path (decimal i)) d) (each play path (i + 1) ds) (count ds) (each_length path (i + 1) ds) ps e
