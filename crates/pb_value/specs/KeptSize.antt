-- The values of names that are kept for many: all of them stand among the entries where there are no more than these.
use Rattle.std.specs.Prelude.{◌≡◌, ℕ, ◌/◌, ◌%◌, ◌==◌, Bool, true, false, cond, List, [], ◌∷◌, length, map, refl}
use Rattle.std.proofs.Common.{ap, arith}
use Rattle.pb_value.specs.Names.{with_first, kept}

-- what `kept_all` says is true of a name, without a value (b) or with one, and of the names behind it, if it is true of the names behind it
all_bit : {K X : Type 0} (b : Bool) (n : K) (more : List X → List (K × X)) (vs : List X) → ((ws : List X) → length ws ≡ length (more ws) → map (λ e. e.1) (more ws) ≡ ws)
    → length vs ≡ length (cond b (more vs) (with_first n vs more)) → map (λ e. e.1) (cond b (more vs) (with_first n vs more)) ≡ vs
all_bit true n more vs h e = h vs e
all_bit false n more [] h e = refl
all_bit false n more (v ∷ vs) h e = ap (λ ws. v ∷ ws) (h vs (omega (arith, e)))

-- where the entries are as many as the values, their values are all of these, in order
pub kept_all : {K X : Type 0} (gone : ℕ) (ns : List K) (vs : List X) → length vs ≡ length (kept gone ns vs) → map (λ e. e.1) (kept gone ns vs) ≡ vs
kept_all gone [] [] e = refl
kept_all gone [] (v ∷ vs) e = absurd (omega (arith, e))
kept_all {K} {X} gone (n ∷ ns) vs e = all_bit (gone % 2 == 1) n (λ (rest : List X). kept (gone / 2) ns rest) vs (λ ws. kept_all (gone / 2) ns ws) e
