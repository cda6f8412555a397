-- The lines of plays and hosts, from one on.
use Rattle.std.proofs.Common.{◌≡◌, ℕ, zero, suc, ◌+◌, Bool, List, [], ◌∷◌, ◌++◌, drop, length, refl, sym, ◌∙◌, append_assoc, add-one}
use Rattle.std.specs.Prelude.{Some, slice_get}
use Rattle.pb_planes.specs.Set.{is_in}
use Rattle.pb_plan.specs.Plan.{PlayOf}
use Rattle.pb_cli.specs.Listing.{host_if, host_lines, play_lines, plays_from}

lines_none : (names : List (List ℕ)) → host_lines names [] ≡ []
lines_none [] = refl
lines_none (name ∷ names) = refl

hosts_step : (names : List (List ℕ)) (set : List Bool) (i : ℕ) (name : List ℕ) → slice_get names i ≡ Some name
    → host_lines (drop i names) (drop i set) ≡ host_if name (is_in set i) ++ host_lines (drop (suc i) names) (drop (suc i) set)
hosts_step [] set i name e = cc
hosts_step (n ∷ names) [] zero name e = sym (lines_none names)
hosts_step (n ∷ names) [] (suc i) name e = lines_none (drop i names) ∙ sym (lines_none (drop (suc i) names))
hosts_step (n ∷ names) (b ∷ set) zero name e = let same : n ≡ name = cc in rw same refl
hosts_step (n ∷ names) (b ∷ set) (suc i) name e = hosts_step names set i name e

pub hosts_after : (names : List (List ℕ)) (set : List Bool) (i : ℕ) (name before : List ℕ) → slice_get names i ≡ Some name
    → (before ++ host_if name (is_in set i)) ++ host_lines (drop (i + 1) names) (drop (i + 1) set) ≡ before ++ host_lines (drop i names) (drop i set)
hosts_after names set i name before e = rw (add-one, hosts_step names set i name e) (append_assoc before _ _)

-- past the last name there is no host
pub hosts_past : (names : List (List ℕ)) (set : List Bool) → host_lines (drop (length names) names) (drop (length names) set) ≡ []
hosts_past [] set = refl
hosts_past (name ∷ names) [] = lines_none (drop (length names) names)
hosts_past (name ∷ names) (b ∷ set) = hosts_past names set

plays_step : (names : List (List ℕ)) (plays : List PlayOf) (i n : ℕ) (play : PlayOf) → slice_get plays i ≡ Some play
    → plays_from names n (drop i plays) ≡ play_lines names n play ++ plays_from names (n + 1) (drop (suc i) plays)
plays_step names [] i n play e = cc
plays_step names (p ∷ plays) zero n play e = let same : p ≡ play = cc in rw same refl
plays_step names (p ∷ plays) (suc i) n play e = plays_step names plays i n play e

pub plays_after : (names : List (List ℕ)) (plays : List PlayOf) (i : ℕ) (play : PlayOf) (before : List ℕ) → slice_get plays i ≡ Some play
    → (before ++ play_lines names i play) ++ plays_from names (i + 1) (drop (i + 1) plays) ≡ before ++ plays_from names i (drop i plays)
plays_after names plays i play before e = rw (plays_step names plays i i play e, add-one) (append_assoc before _ _)
