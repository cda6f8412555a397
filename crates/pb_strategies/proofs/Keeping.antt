-- What is kept beside the list of where hosts stand.
use Rattle.std.proofs.Common.{◌≡◌, ◌<◌, ◌+◌, ◌^◌, ◌∙◌, ◌++◌, ℕ, zero, suc, Bool, true, false, ◌&&◌, ◌||◌, not, cond, List, [], ◌∷◌, Option, Some, None, map, length, take, count_by, is_some, slice_get, slice_set, get_or, arith, refl, ap, sym, subst}
use Rattle.std.specs.Prelude.{option_map, replicate}
use Rattle.std.specs.List.{range_with_len}
use Rattle.std.specs.Simd.Lanes.{zip2}
use Rattle.std.proofs.lemmas.Option.{get_or_from_slice_get, slice_get-get_or, slice_get-map, slice_get_within}
use Rattle.std.proofs.lemmas.List.FromFn.{get_or-map-range_with_len, length-map-range_with_len}
use Rattle.std.proofs.lemmas.List.{length-set, length-map, length-replicate, map-set, set-set, set-get_or, get_or-set_same, map_more}
use Rattle.std.proofs.lemmas.List.Sums.{sum_by-cons, sum_by_push}
use Rattle.std.proofs.lemmas.Simd.{zip2-map, length-zip2}
use Rattle.pb_limits.specs.Counts.{LimitsOf, limits_of, runs_at, running_at}
use Rattle.pb_strategies.specs.declared.standings.Standing.{Standing}
use Rattle.pb_strategies.specs.declared.watched.Watched.{Watched}
use Rattle.pb_strategies.specs.Hosts.{nowhere, same_place, is_running, has_begun, is_unended, is_next_at, is_under_way, runs_in}
use Rattle.pb_strategies.specs.Kept.{IsWatched, AreWatched, put_at, with_next, is_idle_at, IsKept}
use Rattle.pb_strategies.specs.Numbers.{AreNumbered}
use Rattle.pb_strategies.proofs.Watching.{watched_put, each_put}

-- what is written where it stands already changes nothing
pub set_same : (runs : List (Option ℕ)) (host : ℕ) (v : Option ℕ) → slice_get runs host ≡ Some v → slice_set runs host v ≡ runs
set_same runs host v e = ap (λ x. slice_set runs host x) (sym (get_or_from_slice_get runs host v None e)) ∙ set-get_or runs host None

pub runs_there : (hosts : List Standing) (h : ℕ) (host : Standing) → slice_get hosts h ≡ Some host → slice_get (runs_in hosts) h ≡ Some host.runs
runs_there hosts h host e =
    let runs : Standing → Option ℕ = λ (one : Standing). one.runs in
    slice_get-map runs hosts h ∙ ap (option_map runs) e

set_there : (runs : List (Option ℕ)) (host : ℕ) (v : Option ℕ) → host < length runs → slice_get (slice_set runs host v) host ≡ Some v
set_there runs host v lt =
    let long = length-set runs host v in
    slice_get-get_or (slice_set runs host v) host None (omega arith) ∙ ap Some (get_or-set_same runs host v None lt)

counts_kept : (hosts : List Standing) (h : ℕ) (old new : Standing) (limits mid last : LimitsOf) → length hosts < 2 ^ 32 → slice_get hosts h ≡ Some old
    → ((places host : ℕ) (runs : List (Option ℕ)) → slice_get runs host ≡ Some old.runs → limits ≡ limits_of places runs → mid ≡ limits_of places (slice_set runs host None))
    → ((places host : ℕ) (runs : List (Option ℕ)) → length runs < 2 ^ 32 → slice_get runs host ≡ Some None → mid ≡ limits_of places runs → last ≡ limits_of places (slice_set runs host new.runs))
    → (places : ℕ) → limits ≡ limits_of places (runs_in hosts) → last ≡ limits_of places (runs_in (slice_set hosts h new))
counts_kept hosts h old new limits mid last few e finish start places law =
    let runs : Standing → Option ℕ = λ (one : Standing). one.runs in
    let cleared = slice_set (runs_in hosts) h None in
    let within : h < length hosts = slice_get_within hosts h old e in
    let long : length (runs_in hosts) ≡ length hosts = length-map hosts runs in
    let long_too : length (slice_set (runs_in hosts) h None) ≡ length (runs_in hosts) = length-set (runs_in hosts) h None in
    let half = finish places h (runs_in hosts) (runs_there hosts h old e) law in
    let whole = start places h cleared (omega (arith, few, long, long_too)) (set_there (runs_in hosts) h None (omega (arith, long, within))) half in
    whole ∙ ap (limits_of places) (set-set (runs_in hosts) h None new.runs ∙ sym (map-set runs hosts h new))

one_kept : (test : Standing → Bool) (hosts : List Standing) (h : ℕ) (new : Standing) (set new_set : List Bool) → set ≡ map test hosts → new_set ≡ slice_set set h (test new) → new_set ≡ map test (slice_set hosts h new)
one_kept test hosts h new set new_set s t = t ∙ ap (λ xs. slice_set xs h (test new)) s ∙ sym (map-set test hosts h new)

pub put_kept : (hosts : List Standing) (h : ℕ) (old new : Standing) (limits mid last : LimitsOf) (n m : ℕ) (running begun unended r b u : List Bool) (here t : Watched) (idle i : List Bool) (watched w : List (Option (List Bool)))
    (bits c : List (List Bool)) (fits f : Bool) → slice_get hosts h ≡ Some old
    → IsKept hosts limits n running begun unended here idle watched bits fits
    → ((places host : ℕ) (runs : List (Option ℕ)) → slice_get runs host ≡ Some old.runs → limits ≡ limits_of places runs → mid ≡ limits_of places (slice_set runs host None))
    → ((places host : ℕ) (runs : List (Option ℕ)) → length runs < 2 ^ 32 → slice_get runs host ≡ Some None → mid ≡ limits_of places runs → last ≡ limits_of places (slice_set runs host new.runs))
    → m ≡ count_by is_under_way (slice_set hosts h new)
    → r ≡ slice_set running h (is_some new.runs) → b ≡ slice_set begun h new.has_begun → u ≡ slice_set unended h (is_some new.next) → t ≡ with_next h new.next here → i ≡ slice_set idle h (is_idle_at here.place new) → w ≡ put_at new.next h true (put_at old.next h false watched)
    → (AreNumbered hosts bits fits → AreNumbered (slice_set hosts h new) c f)
    → IsKept (slice_set hosts h new) last m r b u t i w c f
put_kept hosts h old new limits mid last n m running begun unended r b u here t idle i watched w bits c fits f e kept finish start em er eb eu et ei ew ec =
    let long = length-set hosts h new in
    record {
      few = omega (arith, long, kept.few);
      counted = (kept.counted.0, counts_kept hosts h old new limits mid last kept.few e finish start kept.counted.0 kept.counted.1);
      are_under_way = em;
      are_running = one_kept is_running hosts h new running r kept.are_running er;
      have_begun = one_kept has_begun hosts h new begun b kept.have_begun eb;
      are_unended = one_kept is_unended hosts h new unended u kept.are_unended eu;
      are_here = subst (IsWatched (slice_set hosts h new)) (sym et) (watched_put hosts h new here kept.are_here);
      are_idle = one_kept (is_idle_at here.place) hosts h new idle i kept.are_idle ei ∙ ap (λ (one : Watched). map (is_idle_at one.place) (slice_set hosts h new)) (sym et);
      are_watched = subst (AreWatched (slice_set hosts h new)) (sym ew) (each_put hosts h old new watched e kept.are_watched);
      are_numbered = ec kept.are_numbered;
    }

-- a set that keeps what another one has too, and then gains all of that, is that other one
absorbed : (a b : Bool) → ((a && b) || b) ≡ b
absorbed true true = refl
absorbed true false = refl
absorbed false true = refl
absorbed false false = refl

pub copied : (set from : List Bool) → length set ≡ length from → zip2 (λ (a b : Bool). a || b) (zip2 (λ (a b : Bool). a && b) set from) from ≡ from
copied [] [] e = refl
copied [] (b ∷ from) e = absurd (omega (arith, e))
copied (a ∷ set) [] e = absurd (omega (arith, e))
copied (a ∷ set) (b ∷ from) e =
    ap (λ head. head ∷ zip2 (λ (x y : Bool). x || y) (zip2 (λ (x y : Bool). x && y) set from) from) (absorbed a b)
    ∙ ap (λ rest. b ∷ rest) (copied set from (omega (arith, e)))

-- what is in both and not in the second is nothing
without_it : (a b : Bool) → ((a && b) && not b) ≡ false
without_it true true = refl
without_it true false = refl
without_it false b = refl

pub emptied : (set from : List Bool) → length set ≡ length from
    → zip2 (λ (a b : Bool). a && not b) (zip2 (λ (a b : Bool). a && b) set from) from ≡ replicate (length set) false
emptied [] [] e = refl
emptied [] (b ∷ from) e = absurd (omega (arith, e))
emptied (a ∷ set) [] e = absurd (omega (arith, e))
emptied (a ∷ set) (b ∷ from) e =
    ap (λ head. head ∷ zip2 (λ (x y : Bool). x && not y) (zip2 (λ (x y : Bool). x && y) set from) from) (without_it a b)
    ∙ ap (λ rest. false ∷ rest) (emptied set from (omega (arith, e)))

pub both_width : (set from both : List Bool) → length set ≡ length from → both ≡ zip2 (λ (a b : Bool). a && b) set from → length both ≡ length from
both_width set from both e t = ap length t ∙ length-zip2 (λ (a b : Bool). a && b) set from e ∙ e

-- sets that two tests give, as one
pub kept_both : (f g : Standing → Bool) (hosts : List Standing) (set from both : List Bool) → set ≡ map f hosts → from ≡ map g hosts → both ≡ zip2 (λ (a b : Bool). a && b) set from → both ≡ map (λ (host : Standing). f host && g host) hosts
kept_both f g hosts set from both s t e = e ∙ ap (λ xs. zip2 (λ (a b : Bool). a && b) xs from) s ∙ ap (λ ys. zip2 (λ (a b : Bool). a && b) (map f hosts) ys) t ∙ zip2-map (λ (a b : Bool). a && b) f g hosts

pub kept_without : (f g : Standing → Bool) (hosts : List Standing) (set from both : List Bool) → set ≡ map f hosts → from ≡ map g hosts → both ≡ zip2 (λ (a b : Bool). a && not b) set from → both ≡ map (λ (host : Standing). f host && not (g host)) hosts
kept_without f g hosts set from both s t e =
    e ∙ ap (λ xs. zip2 (λ (a b : Bool). a && not b) xs from) s ∙ ap (λ ys. zip2 (λ (a b : Bool). a && not b) (map f hosts) ys) t ∙ zip2-map (λ (a b : Bool). a && not b) f g hosts

-- members of a set that a test gives are the hosts that pass it
pub count_mapped : (test : Standing → Bool) (hosts : List Standing) → count_by (λ (b : Bool). b) (map test hosts) ≡ count_by test hosts
count_mapped test [] = refl
count_mapped test (host ∷ hosts) =
    let one : Bool → ℕ = λ (b : Bool). cond b 1 0 in
    let each : Standing → ℕ = λ (h : Standing). cond (test h) 1 0 in
    sum_by-cons one (test host) (map test hosts) ∙ ap (λ n. cond (test host) 1 0 + n) (count_mapped test hosts) ∙ sym (sum_by-cons each host hosts)

-- one host more that is counted, or not
pub count_more : (hosts : List Standing) (place i : ℕ) (host : Standing) → i < length hosts → host ≡ get_or hosts i host
    → running_at (runs_in (take (i + 1) hosts)) place ≡ running_at (runs_in (take i hosts)) place + cond (runs_at place host.runs) 1 0
count_more hosts place i host lt e =
    let runs : Standing → Option ℕ = λ (one : Standing). one.runs in
    let one : Option ℕ → ℕ = λ x. cond (runs_at place x) 1 0 in
    ap (λ xs. running_at xs place) (map_more runs hosts i host lt ∙ ap (λ x. runs_in (take i hosts) ++ runs x ∷ []) (sym e))
    ∙ sum_by_push one (runs_in (take i hosts)) host.runs

pub runs_same : (place : ℕ) (runs : Option ℕ) → same_place (Some place) runs ≡ runs_at place runs
runs_same place None = refl
runs_same place (Some p) = refl

-- what was counted at a place
pub count_found : (limits : LimitsOf) (places place n : ℕ) (runs : List (Option ℕ)) → limits ≡ limits_of places runs → slice_get limits.at place ≡ Some n → n ≡ running_at runs place
count_found limits places place n runs law found =
    let counts : slice_get (map (running_at runs) (range_with_len 0 places)) place ≡ Some n = ap (λ (l : LimitsOf). slice_get l.at place) (sym law) ∙ found in
    let within = slice_get_within (map (running_at runs) (range_with_len 0 places)) place n counts in
    let long = length-map-range_with_len (running_at runs) 0 places in
    sym (get_or_from_slice_get (map (running_at runs) (range_with_len 0 places)) place n 0 counts)
    ∙ get_or-map-range_with_len (running_at runs) 0 places place place 0 (omega (arith, within, long)) (omega arith)

-- at first all hosts are outside of the batch
pub all_nowhere : {Y : Type 0} (f : Standing → Y) (n : ℕ) → replicate n (f nowhere) ≡ map f (replicate n nowhere)
all_nowhere f zero = refl
all_nowhere f (suc n) = ap (λ rest. f nowhere ∷ rest) (all_nowhere f n)

none_at_first : (test : Standing → Bool) (n : ℕ) (hosts : List Standing) (set : List Bool) → test nowhere ≡ false → hosts ≡ replicate n nowhere → set ≡ replicate n false → set ≡ map test hosts
none_at_first test n hosts set no_one h s = s ∙ ap (replicate n) (sym no_one) ∙ all_nowhere test n ∙ ap (map test) (sym h)

none_under_way : (n : ℕ) → count_by is_under_way (replicate n nowhere) ≡ 0
none_under_way zero = refl
none_under_way (suc n) = sum_by-cons (λ (host : Standing). cond (is_under_way host) 1 0) nowhere (replicate n nowhere) ∙ ap (λ m. 0 + m) (none_under_way n)

pub first_kept : (n places : ℕ) (hosts : List Standing) (limits : LimitsOf) (running begun unended : List Bool) (here : Watched) (idle : List Bool) (watched : List (Option (List Bool))) (bits : List (List Bool)) (fits : Bool)
    → n < 2 ^ 32 → hosts ≡ replicate n nowhere
    → ((m : ℕ) → limits ≡ limits_of places (replicate m None))
    → running ≡ replicate n false → begun ≡ replicate n false → unended ≡ replicate n false → here.hosts ≡ replicate n false → idle ≡ replicate n false → AreWatched hosts watched
    → AreNumbered hosts bits fits → IsKept hosts limits 0 running begun unended here idle watched bits fits
first_kept n places hosts limits running begun unended here idle watched bits fits few h l r b u t i w c =
    let runs : Standing → Option ℕ = λ (one : Standing). one.runs in
    let long : length hosts ≡ n = ap length h ∙ length-replicate n nowhere in
    record {
      few = omega (arith, long, few);
      counted = (places, l n ∙ ap (limits_of places) (all_nowhere runs n ∙ ap (map runs) (sym h)));
      are_under_way = sym (ap (count_by is_under_way) h ∙ none_under_way n);
      are_running = none_at_first is_running n hosts running refl h r;
      have_begun = none_at_first has_begun n hosts begun refl h b;
      are_unended = none_at_first is_unended n hosts unended refl h u;
      are_here = none_at_first (is_next_at here.place) n hosts here.hosts refl h t;
      are_idle = none_at_first (is_idle_at here.place) n hosts idle refl h i;
      are_watched = w;
      are_numbered = c;
    }
