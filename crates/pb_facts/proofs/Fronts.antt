-- Values that are put one after another, up to one for which memory was refused.
use Rattle.std.proofs.Common.{◌≡◌, ℕ, ◌<◌, List, [], ◌∷◌, ◌++◌, length, take, refl, sym, ap, ◌∙◌, append_assoc, arith}
use Rattle.std.specs.Prelude.{Result, OnErr, String, string_bytes}
use Rattle.std.specs.declared.alloc.Global.{Global}
use Rattle.pb_value.specs.Datum.{Datum, named, put}
use Rattle.pb_value.proofs.Stored.{on_err}
use Rattle.pb_layers.specs.Scope.{Map}
use Rattle.pb_facts.specs.Facts.{put_all}

put_all_behind : (done : Map) (e : List ℕ × Datum) (known : Map) → put_all (done ++ e ∷ []) known ≡ put e.0 e.1 (put_all done known)
put_all_behind [] e known = refl
put_all_behind (d ∷ ds) e known = put_all_behind ds e (put d.0 d.1 known)

front_of : (done rest : Map) (e : List ℕ × Datum) → (length done < length (done ++ e ∷ rest)) × (take (length done) (done ++ e ∷ rest) ≡ done)
front_of [] rest e = (omega arith, refl)
front_of (d ∷ ds) rest e = let h = front_of ds rest e in (omega (arith, h.0), ap (λ (es : Map). d ∷ es) h.1)

-- one more is put
pub put_on : (all known now after done : Map) (left rest : List (String Global × Datum)) (e : String Global × Datum) → done ++ named left ≡ all → left ≡ e ∷ rest → now ≡ put_all done known → after ≡ put (string_bytes e.0) e.1 now
    → (more : Map) × (more ++ named rest ≡ all) × (after ≡ put_all more known)
put_on all known now after done left rest e a s n p =
    let one : List ℕ × Datum = (string_bytes e.0, e.1) in (
      done ++ one ∷ [],
      append_assoc done (one ∷ []) (named rest) ∙ sym (ap (λ (es : List (String Global × Datum)). done ++ named es) s) ∙ a,
      p ∙ ap (put one.0 one.1) n ∙ sym (put_all_behind done one known),
    )

-- or memory is refused for it
pub put_before : {T E : Type 0} (result : Result T E) (all known now done : Map) (left rest : List (String Global × Datum)) (e : String Global × Datum) → done ++ named left ≡ all → left ≡ e ∷ rest → now ≡ put_all done known
    → OnErr result ((n : ℕ) × (n < length all) × (now ≡ put_all (take n all) known))
put_before result all known now done left rest e a s n =
    let one : List ℕ × Datum = (string_bytes e.0, e.1) in
    let whole : done ++ one ∷ named rest ≡ all = sym (ap (λ (es : List (String Global × Datum)). done ++ named es) s) ∙ a in
    let h = front_of done (named rest) one in
    on_err result (length done, rw (← whole) h.0, n ∙ rw (← whole) (ap (λ (es : Map). put_all es known) (sym h.1)))
