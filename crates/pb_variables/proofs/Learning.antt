-- What a host of a list has learnt.
use Rattle.std.specs.Prelude.{slice_get}
use Rattle.std.specs.Borrow.{Bor}
use Rattle.std.proofs.Common.{◌≡◌, ℕ, zero, suc, List, [], ◌∷◌, Option, Some, None, option_map, refl, sym, ap, ◌∙◌}
use Rattle.std.specs.Option.{option_map_or}
use Rattle.pb_facts.specs.Book.{row_of}
use Rattle.pb_facts.specs.Facts.{FactsOf, no_facts}
use Rattle.pb_variables.specs.Learnt.{facts_in}

-- the value of an option, or nothing
abbrev or_nothing : Option FactsOf → FactsOf
or_nothing o = option_map_or (λ f. f) o no_facts

at_number : (learnt : List (Bor FactsOf)) (n : ℕ) → or_nothing (option_map (λ f. f.now) (slice_get learnt n)) ≡ row_of (facts_in learnt) n
at_number [] n = refl
at_number (f ∷ fs) zero = refl
at_number (f ∷ fs) (suc n) = at_number fs n

pub there : (learnt : List (Bor FactsOf)) (n : ℕ) (f : Bor FactsOf) → slice_get learnt n ≡ Some f → f.now ≡ row_of (facts_in learnt) n
there learnt n f is = ap (λ (o : Option (Bor FactsOf)). or_nothing (option_map (λ g. g.now) o)) (sym is) ∙ at_number learnt n

pub not_there : (learnt : List (Bor FactsOf)) (n : ℕ) → slice_get learnt n ≡ None → no_facts ≡ row_of (facts_in learnt) n
not_there learnt n is = ap (λ (o : Option (Bor FactsOf)). or_nothing (option_map (λ g. g.now) o)) (sym is) ∙ at_number learnt n
