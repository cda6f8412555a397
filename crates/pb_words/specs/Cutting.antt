-- A text that is cut into words from its front on: where it is read, and which words the whole has if this stands behind.
use Rattle.std.specs.Prelude.{ℕ, List, ◌∷◌, ◌++◌, Result}
use Rattle.pb_value.specs.Reading.{map_ok}
use Rattle.pb_words.specs.Words.{Begun, between, within, quoted}
use Rattle.pb_words.specs.declared.fault.CallFault.{CallFault}
use Rattle.pb_words.specs.declared.words.Cutter.{Cutter}
use Rattle.pb_words.specs.declared.words.Spot.{Spot}
use Rattle.pb_words.specs.declared.words.Spot.TheVariants.{Between, Within, Quoted}

-- the words before, then one that begins so, then those behind
abbrev pub joined : List (List ℕ) → List ℕ → Begun → List (List ℕ)
joined before word w = before ++ (word ++ w.0) ∷ w.1

-- the words of a text that was read up to this spot, with these words in front of it and these characters still behind
abbrev pub resumed_at : Spot → List (List ℕ) → List ℕ → Result (List (List ℕ)) CallFault
resumed_at Between before cs = map_ok (λ ws. before ++ ws) (between cs)
resumed_at (Within word) before cs = map_ok (joined before word) (within cs)
resumed_at (Quoted word q) before cs = map_ok (joined before word) (quoted q cs)

-- the words of what was read, with these characters behind it
abbrev pub resumed : Cutter → List ℕ → Result (List (List ℕ)) CallFault
resumed cutter cs = resumed_at cutter.spot cutter.words cs
