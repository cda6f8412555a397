-- The set of hosts of an element, from what its parts give.
use Rattle.std.proofs.Common.{◌≡◌, ℕ, Bool, List, refl, sym, ◌∙◌, ap, subst}
use Rattle.std.specs.Prelude.{Result, Ok, Err, IfOk, Option, Some}
use Rattle.regex.specs.Strings.{regex_source}
use Rattle.regex.specs.declared.string.regex.Regex.{Regex}
use Rattle.pb_inventory.specs.InventoryOf.{InventoryOf}
use Rattle.pb_patterns.specs.declared.element.Subscript.{Subscript}
use Rattle.pb_patterns.specs.declared.element.What.{What}
use Rattle.pb_patterns.specs.declared.element.What.TheVariants as what
use Rattle.pb_patterns.specs.Built.{IsBuilt, IsRegexOf}
use Rattle.pb_patterns.specs.Sets.{element_set, set_of, meant, begins_as}

pub term_is : {E : Type 0} (inventory : InventoryOf) (value w : What) (text term : List ℕ) (o : Option Subscript) (s : Subscript) (r : Result (List Bool) E) → w ≡ value → w ≡ what.Term term o → o ≡ Some s → text ≡ term
    → IfOk r (λ hosts. hosts ≡ set_of inventory text (Some s)) → IfOk r (λ hosts. hosts ≡ element_set inventory value)
term_is inventory value w text term o s (Ok hosts) seen is some same found =
    found ∙ ap (set_of inventory text) (sym some) ∙ ap (λ t. set_of inventory t o) same ∙ ap (element_set inventory) (sym is ∙ seen)
term_is inventory value w text term o s (Err e) seen is some same found = tt

-- the pattern that was built is of the element's expression
pub built_of : (w : What) (source : List ℕ) (built : Option Regex) (regex : Regex) → w ≡ what.Regex source → built ≡ Some regex → IsBuilt w built → IsRegexOf source regex
built_of w source built regex is some kept = subst (λ b. IsBuilt (what.Regex source) b) some (subst (λ v. IsBuilt v built) is kept)

pub built_own : (w : What) (source : List ℕ) (built : Option Regex) (regex : Regex) → w ≡ what.Regex source → built ≡ Some regex → IsBuilt w built → IsRegexOf (regex_source regex) regex
built_own w source built regex is some kept = let of = built_of w source built regex is some kept in (refl, of.1, of.2)

pub regex_is : {E : Type 0} (inventory : InventoryOf) (value w : What) (source : List ℕ) (built : Option Regex) (regex : Regex) (r : Result (List Bool) E) → w ≡ value → w ≡ what.Regex source → built ≡ Some regex
    → IsBuilt w built → IfOk r (λ hosts. hosts ≡ meant inventory (begins_as (regex_source regex))) → IfOk r (λ hosts. hosts ≡ element_set inventory value)
regex_is inventory value w source built regex (Ok hosts) seen is some kept found =
    let of = built_of w source built regex is some kept in
    found ∙ ap (λ (text : List ℕ). meant inventory (begins_as text)) of.0 ∙ ap (element_set inventory) (sym is ∙ seen)
regex_is inventory value w source built regex (Err e) seen is some kept found = tt
