-- Values and facts that come one after another over what is known.
use Rattle.std.proofs.Common.{◌≡◌, ◌∙◌, [], ◌∷◌, ◌++◌, Option, Some, unwrap_or, refl, ap}
use Rattle.pb_value.specs.Datum.{put}
use Rattle.pb_layers.specs.Scope.{Map}
use Rattle.pb_facts.specs.Facts.{FactsOf, put_all, merged, with_set}

abbrev pub facts_of : Option Map → Map → FactsOf
facts_of gathered set = record { gathered = gathered; set = set }

-- facts are their parts
pub same_facts : (g h : Option Map) (s t : Map) → g ≡ h → s ≡ t → facts_of g s ≡ facts_of h t
same_facts g h s t p q = ap (λ x. facts_of x s) p ∙ ap (λ x. facts_of h x) q

put_both : (one other known : Map) → put_all (one ++ other) known ≡ put_all other (put_all one known)
put_both [] other known = refl
put_both (e ∷ one) other known = put_both one other (put e.0 e.1 known)

pub set_both : (one other both : Map) (facts : FactsOf) → both ≡ one ++ other → with_set both facts ≡ with_set other (with_set one facts)
set_both one other both facts e = ap (λ (all : Map). with_set all facts) e ∙ ap (λ (set : Map). record facts { set = set }) (put_both one other facts.set)

pub merged_both : (one other both : Map) (facts : FactsOf) → both ≡ one ++ other → merged both facts ≡ merged other (merged one facts)
merged_both one other both facts e =
    ap (λ (all : Map). merged all facts) e ∙ ap (λ (known : Map). record facts { gathered = Some known }) (put_both one other (unwrap_or facts.gathered []))
