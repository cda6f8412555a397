-- Values under their names, in the order of the names.
use Rattle.std.proofs.Common.{◌≡◌, ℕ, List, [], ◌∷◌, ◌++◌, map, Ok, Err, Result, String, Global, string_bytes, string_cmp, nat_cmp, Greater, refl, ap, sym, ◌∙◌, append_assoc}
use Rattle.std.proofs.lemmas.List.{map-append}
use Rattle.std.specs.Cmp.Lexicographic.{slice_cmp}
use Rattle.std.specs.List.Sorted.{IsStrictlySortedBy}
use Rattle.std.specs.Map.{keys_of}
use Rattle.pb_value.proofs.Order.{above_first}
use Rattle.pb_value.specs.Datum.{Datum, put, named, members_of}
use Rattle.pb_value.specs.Reading.{and_then, map_ok}
use Rattle.pb_operators.specs.declared.fault.EvalFault.{EvalFault}
use Rattle.pb_expr_eval.specs.Value.{Names}
use Rattle.pb_expr_eval.specs.Rendering.{rendered, rendered_members}

abbrev pub Entry : Type 0
Entry = String Global × Datum

pub map_ok-none : {A : Type 0} (r : Result (List A) EvalFault) → map_ok (λ xs. [] ++ xs) r ≡ r
map_ok-none (Ok xs) = refl
map_ok-none (Err e) = refl

pub map_ok-append : {A : Type 0} (out : List A) (x : A) (r : Result (List A) EvalFault) → map_ok (λ xs. out ++ xs) (map_ok (λ xs. x ∷ xs) r) ≡ map_ok (λ xs. (out ++ x ∷ []) ++ xs) r
map_ok-append out x (Ok xs) = ap Ok (sym (append_assoc out (x ∷ []) xs))
map_ok-append out x (Err e) = refl

pub map_ok_none : (r : Result (List ℕ) EvalFault) → r ≡ map_ok (λ t. [] ++ t) r
map_ok_none (Ok t) = refl
map_ok_none (Err e) = refl

pub map_ok_joined : (front s : List ℕ) (r : Result (List ℕ) EvalFault) → map_ok (λ t. front ++ t) (map_ok (λ t. s ++ t) r) ≡ map_ok (λ t. (front ++ s) ++ t) r
map_ok_joined front s (Ok t) = ap Ok (sym (append_assoc front s t))
map_ok_joined front s (Err e) = refl

-- a text goes behind those in front of it
pub shown_step : (front new : List ℕ) (r more : Result (List ℕ) EvalFault) → map_ok (λ s. front ++ s) r ≡ Ok new
    → map_ok (λ t. front ++ t) (and_then r (λ s. map_ok (λ t. s ++ t) more)) ≡ map_ok (λ t. new ++ t) more
shown_step front new (Ok s) more e = map_ok_joined front s more ∙ ap (λ n. map_ok (λ t. n ++ t) more) (let same : front ++ s ≡ new = cc in same)
shown_step front new (Err fault) more e = absurd (cc)

pub rendered_members-step : (names : Names) (m : Entry) (ms : List Entry) (out : List (List ℕ × Datum)) (x : Datum) → rendered names m.1 ≡ Ok x
    → map_ok (λ xs. out ++ xs) (rendered_members names (members_of (named (m ∷ ms)))) ≡ map_ok (λ xs. (out ++ (string_bytes m.0, x) ∷ []) ++ xs) (rendered_members names (members_of (named ms)))
rendered_members-step names m ms out x ok = rw ok (map_ok-append out (string_bytes m.0, x) (rendered_members names (members_of (named ms))))

-- a name that is above those read so far goes last
pub put_after : (done : List Entry) (out : List (List ℕ × Datum)) (e : Entry) (more : List Entry) (d : Datum) → map (λ (m : List ℕ × Datum). m.0) out ≡ map (λ (m : Entry). string_bytes m.0) done
    → IsStrictlySortedBy string_cmp (keys_of (done ++ e ∷ more)) → put (string_bytes e.0) d out ≡ out ++ (string_bytes e.0, d) ∷ []
unfolding IsStrictlySortedBy
put_after [] [] e more d same h = refl
put_after [] (o ∷ out) e more d same h = absurd (let k : List ℕ = o.0 in cc)
put_after (m ∷ done) [] e more d same h = absurd (let k : List ℕ = string_bytes m.0 in cc)
put_after (m ∷ done) (o ∷ out) e more d same h =
    let key : o.0 ≡ string_bytes m.0 = cc in
    let over : slice_cmp nat_cmp (string_bytes e.0) o.0 ≡ Greater = rw key (above_first m.0 done e more h.0) in
    rw over (ap (λ t. o ∷ t) (put_after done out e more d (cc) h.1))

pub keys_join : (done : List Entry) (out : List (List ℕ × Datum)) (e : Entry) (d : Datum) → map (λ (m : List ℕ × Datum). m.0) out ≡ map (λ (m : Entry). string_bytes m.0) done
    → map (λ (m : List ℕ × Datum). m.0) (out ++ (string_bytes e.0, d) ∷ []) ≡ map (λ (m : Entry). string_bytes m.0) (done ++ e ∷ [])
keys_join done out e d same = map-append _ out _ ∙ ap (λ ks. ks ++ string_bytes e.0 ∷ []) same ∙ sym (map-append _ done _)
