-- What is shown of the lines so far, and what is left to be shown.
use Rattle.std.proofs.Common.{◌≡◌, ℕ, ◌+◌, ◌-◌, ◌^◌, ◌<◌, ◌≤◌, Bool, true, false, cond, List, [], ◌∷◌, ◌++◌, length, arith, Option, Some, None, refl, sym, ap, ◌∙◌, subst, append_assoc, append-nil}
use Rattle.std.specs.Prelude.{IfSome, ◌==◌}
use Rattle.std.specs.Io.BufRead.{take_through, drop_through, DropsThrough}
use Rattle.std.specs.Io.KnownBytes.{Appends, IsAtEnd}
use Rattle.pb_show.specs.Closing.{closing}
use Rattle.pb_show.specs.Faults.{IsEndless}
use Rattle.pb_show.specs.Showing.{start, shown}
use Rattle.pb_show.specs.Whole.{lines_in, shown_from, all_shown, AppendsFront}
use Rattle.pb_show.specs.declared.look.Look.{Look}
use Rattle.pb_show.specs.declared.showing.Showing.{Showing}
use Rattle.pb_show.proofs.Fronts.{nothing_more, appends_both, appends_same, empty_front, front_after}
use Rattle.pb_show.proofs.Lines.{first_cut}

-- of the bytes a rest is left, behind n lines, and what these become is written
pub record IsGoing (look : Look) (old new left : Option (List ℕ)) (s : Showing) (n : ℕ) (bytes : List ℕ) : Type 0 where
  pub rest : List ℕ
  pub done : List ℕ
  pub is_left : left ≡ Some rest
  pub wrote : Appends old new done
  pub parts : all_shown look bytes ≡ done ++ shown_from look s (lines_in rest)
  pub count : length (lines_in bytes) ≡ n + length (lines_in rest)

pub Goes : Look → Option (List ℕ) → Option (List ℕ) → Option (List ℕ) → Option (List ℕ) → Showing → ℕ → Type 0
Goes look known old new left s n = IfSome known (IsGoing look old new left s n)

pub goes_first : (look : Look) (known old : Option (List ℕ)) → Goes look known old old known start 0
unfolding Goes
goes_first look None old = tt
goes_first look (Some bytes) old = record { rest = bytes; done = []; is_left = refl; wrote = nothing_more old; parts = refl; count = omega arith }

-- what is known of the rest, where some bytes are left
known_of : (left : Option (List ℕ)) (rest : List ℕ) (P : List ℕ → Type 0) → left ≡ Some rest → IfSome left P → P rest
known_of left rest P e p = let h : IfSome (Some rest) P = subst (λ (o : Option (List ℕ)). IfSome o P) e p in h

one_more : (look : Look) (old now new left after : Option (List ℕ)) (s : Showing) (n : ℕ) (line bytes : List ℕ) → IsGoing look old now left s n bytes → IfSome left (λ xs. line ≡ take_through 10 xs) → DropsThrough left after 10 → 0 < length line
    → Appends now new (shown look s line).text → IsGoing look old new after (shown look s line).state (n + 1) bytes
one_more look old now new left after s n line bytes going read drops some wrote =
    let first : line ≡ take_through 10 going.rest = known_of left going.rest (λ xs. line ≡ take_through 10 xs) going.is_left read in
    let next : after ≡ Some (drop_through 10 going.rest) = known_of left going.rest (λ xs. after ≡ Some (drop_through 10 xs)) going.is_left drops in
    let text = (shown look s line).text in
    let behind = shown_from look (shown look s line).state (lines_in (drop_through 10 going.rest)) in
    record {
      rest = drop_through 10 going.rest;
      done = going.done ++ text;
      is_left = next;
      wrote = appends_both old now new going.done text going.wrote wrote;
      parts = going.parts ∙ ap (λ ls. going.done ++ shown_from look s ls) (first_cut line going.rest first some) ∙ sym (append_assoc going.done text behind);
      count = let cut = ap length (first_cut line going.rest first some) in omega (arith, going.count, cut);
    }

pub goes_on : (look : Look) (known old now new left after : Option (List ℕ)) (s t : Showing) (n : ℕ) (line : List ℕ) → Goes look known old now left s n → IfSome left (λ xs. line ≡ take_through 10 xs) → DropsThrough left after 10 → 0 < length line
    → Appends now new (shown look s line).text → t ≡ (shown look s line).state → Goes look known old new after t (n + 1)
unfolding Goes
goes_on look None old now new left after s t n line going read drops some wrote e = tt
goes_on look (Some bytes) old now new left after s t n line going read drops some wrote e =
    subst (λ (u : Showing). IsGoing look old new after u (n + 1) bytes) (sym e) (one_more look old now new left after s n line bytes going read drops some wrote)

-- the line that was read, as it is handed on
pub handed_on : (left : Option (List ℕ)) (line items : List ℕ) → line ≡ items → IfSome left (λ xs. items ≡ take_through 10 xs) → IfSome left (λ xs. line ≡ take_through 10 xs)
handed_on None line items e read = tt
handed_on (Some xs) line items e read = e ∙ read

-- a line was cut short
pub stops_in_line : (look : Look) (known old now new left : Option (List ℕ)) (s : Showing) (n : ℕ) (line : List ℕ) → Goes look known old now left s n → IfSome left (λ xs. line ≡ take_through 10 xs) → 0 < length line
    → AppendsFront now new (shown look s line).text → IfSome known (λ bytes. AppendsFront old new (all_shown look bytes))
unfolding Goes
stops_in_line look None old now new left s n line going read some cut = tt
stops_in_line look (Some bytes) old now new left s n line going read some cut =
    let first : line ≡ take_through 10 going.rest = known_of left going.rest (λ xs. line ≡ take_through 10 xs) going.is_left read in
    let behind = shown_from look (shown look s line).state (lines_in (drop_through 10 going.rest)) in
    front_after old now new going.done (shown look s line).text behind (all_shown look bytes)
    (going.parts ∙ ap (λ ls. going.done ++ shown_from look s ls) (first_cut line going.rest first some)) going.wrote cut

-- nothing more was read
pub stops_here : (look : Look) (known old now left : Option (List ℕ)) (s : Showing) (n : ℕ) → Goes look known old now left s n → IfSome known (λ bytes. AppendsFront old now (all_shown look bytes))
unfolding Goes
stops_here look None old now left s n going = tt
stops_here look (Some bytes) old now left s n going =
    front_after old now now going.done [] (shown_from look s (lines_in going.rest)) (all_shown look bytes) going.parts going.wrote (empty_front now [])

-- as many lines as are shown were read
pub goes_endless : (look : Look) (known old now left : Option (List ℕ)) (s : Showing) (n : ℕ) → Goes look known old now left s n → 2 ^ 64 - 1 ≤ n → IsEndless known
unfolding Goes
goes_endless look None old now left s n going full = tt
goes_endless look (Some bytes) old now left s n going full = omega (arith, going.count, full)

-- nothing was read
nothing_through : (t : Bool) (x : ℕ) (xs : List ℕ) → cond t (x ∷ []) (x ∷ xs) ≡ [] → ⊥
nothing_through true x xs e = let n = ap length e in omega (arith, n)
nothing_through false x xs e = let n = ap length e in omega (arith, n)

none_through : (xs : List ℕ) → take_through 10 xs ≡ [] → xs ≡ []
none_through [] e = refl
none_through (x ∷ xs) e = absurd (nothing_through (x == 10) x (take_through 10 xs) e)

pub at_end : (left : Option (List ℕ)) (line : List ℕ) → IfSome left (λ xs. line ≡ take_through 10 xs) → length line ≡ 0 → IsAtEnd left
at_end None line read none = tt
at_end (Some xs) [] read none = none_through xs (sym read)
at_end (Some xs) (b ∷ line) read none = absurd (omega (arith, none))

-- no line is left
all_done : (look : Look) (old now left : Option (List ℕ)) (s : Showing) (n : ℕ) (bytes : List ℕ) → (g : IsGoing look old now left s n bytes) → IsAtEnd left → all_shown look bytes ≡ g.done ++ closing look s
all_done look old now left s n bytes going at_end =
    let none : going.rest ≡ [] = (let h : IsAtEnd (Some going.rest) = subst (λ (o : Option (List ℕ)). IsAtEnd o) going.is_left at_end in h) in
    going.parts ∙ ap (λ bs. going.done ++ shown_from look s (lines_in bs)) none

pub ends : (look : Look) (known old now new left : Option (List ℕ)) (s : Showing) (n : ℕ) → Goes look known old now left s n → IsAtEnd left → Appends now new (closing look s) → IfSome known (λ bytes. Appends old new (all_shown look bytes))
unfolding Goes
ends look None old now new left s n going at_end wrote = tt
ends look (Some bytes) old now new left s n going at_end wrote =
    appends_same old new _ _ (sym (all_done look old now left s n bytes going at_end)) (appends_both old now new going.done (closing look s) going.wrote wrote)

pub stops_at_end : (look : Look) (known old now new left : Option (List ℕ)) (s : Showing) (n : ℕ) → Goes look known old now left s n → IsAtEnd left → AppendsFront now new (closing look s) → IfSome known (λ bytes. AppendsFront old new (all_shown look bytes))
unfolding Goes
stops_at_end look None old now new left s n going at_end cut = tt
stops_at_end look (Some bytes) old now new left s n going at_end cut =
    front_after old now new going.done (closing look s) [] (all_shown look bytes) (all_done look old now left s n bytes going at_end ∙ ap (λ l. going.done ++ l) (sym (append-nil (closing look s)))) going.wrote cut
