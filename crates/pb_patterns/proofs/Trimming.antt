-- How pieces are cut and trimmed, byte by byte.
use Rattle.std.proofs.Common.{◌≡◌, ℕ, suc, ◌+◌, ◌-◌, ◌<◌, ◌≤◌, ◌&&◌, ◌||◌, ◌==◌, Bool, true, false, List, [], ◌∷◌, ◌++◌, refl, sym, ◌∙◌, ap, subst, length, drop, take, get_or, arith, tests, add-one, eqb-true, append_assoc}
use Rattle.std.specs.Prelude.{map, if◌then◌else◌}
use Rattle.std.specs.Str.{IsUtf8, IsCharBoundary}
use Rattle.std.proofs.lemmas.List.{drop_more, take_all}
use Rattle.std.proofs.lemmas.List.Elements.{filter-append}
use Rattle.std.proofs.lemmas.Bool.Decides.{nat_tests}
use Rattle.std.proofs.lemmas.Str.{IsCharBoundary-after_ascii}
use Rattle.pb_patterns.specs.Spelling.{is_cut, depth_behind, pieces, with_byte, end_size, trimmed, texts_of, spelt, is_some_text}
use Rattle.pb_patterns.specs.Cutting.{piece_size, begins_with_space}

-- the size of the bytes so far, or one that reaches into the rest
abbrev pub with_rest : ℕ → ℕ → ℕ → ℕ
with_rest at size rest = if rest == 0 then size else at + rest

end_step : (b at size rest : ℕ) → with_rest at size (if (b == 32) && (rest == 0) then 0 else rest + 1) ≡ with_rest (at + 1) (if b == 32 then size else at + 1) rest
end_step b at size rest = grind (arith, nat_tests)

pub end_passes : (bytes : List ℕ) (at size : ℕ) → at < length bytes → get_or bytes at 0 ≡ 32 → end_size bytes ≡ with_rest at size (end_size (drop at bytes))
    → end_size bytes ≡ with_rest (at + 1) size (end_size (drop (at + 1) bytes))
end_passes bytes at size w is so =
    so ∙ ap (λ bs. with_rest at size (end_size bs)) (drop_more bytes at 0 w) ∙ end_step (get_or bytes at 0) at size (end_size (drop (at + 1) bytes))
    ∙ ap (λ b. with_rest (at + 1) (if b == 32 then size else at + 1) (end_size (drop (at + 1) bytes))) is

not_space : (b x y : ℕ) → (b ≡ 32 → ⊥) → (if b == 32 then x else y) ≡ y
not_space b x y h = grind (arith, nat_tests)

pub end_grows : (bytes : List ℕ) (at size : ℕ) → at < length bytes → (get_or bytes at 0 ≡ 32 → ⊥) → end_size bytes ≡ with_rest at size (end_size (drop at bytes))
    → end_size bytes ≡ with_rest (at + 1) (at + 1) (end_size (drop (at + 1) bytes))
end_grows bytes at size w other so =
    so ∙ ap (λ bs. with_rest at size (end_size bs)) (drop_more bytes at 0 w) ∙ end_step (get_or bytes at 0) at size (end_size (drop (at + 1) bytes))
    ∙ ap (λ n. with_rest (at + 1) n (end_size (drop (at + 1) bytes))) (not_space (get_or bytes at 0) size (at + 1) other)

begins_ascii : (bs : List ℕ) → begins_with_space bs ≡ true → (0 < length bs) × (get_or bs 0 0 ≡ 32)
begins_ascii [] h = cc
begins_ascii (b ∷ bs) h = (omega arith, eqb-true b 32 h)

pub front_cut : (rest bs : List ℕ) → bs ≡ rest → IsUtf8 bs → begins_with_space bs ≡ true → IsCharBoundary rest 1
front_cut rest bs is u h = let begins = begins_ascii bs h in subst (λ b. IsCharBoundary b 1) is (IsCharBoundary-after_ascii bs 0 u begins.0 (omega (arith, begins.1)))

cut_later : (b : ℕ) (bs : List ℕ) (n : ℕ) → IsCharBoundary bs n → IsCharBoundary (b ∷ bs) (n + 1)
cut_later b bs n h = rw add-one (omega (arith, h.0), λ lt high. h.1 (omega arith) high)

and_first : (x y : Bool) → (x && y) ≡ true → x ≡ true
and_first true y h = refl
and_first false y h = cc

cut_at_space : (b : ℕ) (bs : List ℕ) → (b == 32) ≡ true → IsCharBoundary (b ∷ bs) 0
cut_at_space b bs h = (omega arith, λ lt high. let same : b ≡ 32 = eqb-true b 32 h in absurd (omega arith))

end_cut_by : (b : ℕ) (bs : List ℕ) (t : Bool) → ((b == 32) && (end_size bs == 0)) ≡ t → IsCharBoundary bs (end_size bs) → IsCharBoundary (b ∷ bs) (if t then 0 else end_size bs + 1)
end_cut_by b bs true e h = cut_at_space b bs (and_first (b == 32) (end_size bs == 0) e)
end_cut_by b bs false e h = cut_later b bs (end_size bs) h

pub end_cut : (bs : List ℕ) → IsCharBoundary bs (end_size bs)
end_cut [] = (omega arith, λ lt high. absurd (omega arith))
end_cut (b ∷ bs) = end_cut_by b bs ((b == 32) && (end_size bs == 0)) refl (end_cut bs)

-- a piece ends at the end, or at a byte at which a text may be cut
or_ascii : (b : ℕ) → (b == 44 || b == 58) ≡ true → b < 128
or_ascii b h = grind (arith, tests)

and_second : (x y : Bool) → (x && y) ≡ true → y ≡ true
and_second true y h = h
and_second false y h = cc

cut_ascii : (depth b : ℕ) → is_cut depth b ≡ true → b < 128
cut_ascii depth b h = or_ascii b (and_second (depth == 0) (b == 44 || b == 58) h)

-- at the end, or at an ASCII byte
abbrev pub EndsAt : List ℕ → ℕ → Type 0
EndsAt bs n = (n ≤ length bs) × (n < length bs → get_or bs n 0 < 128)

ends_later : (b : ℕ) (bs : List ℕ) (n : ℕ) → EndsAt bs n → EndsAt (b ∷ bs) (n + 1)
ends_later b bs n h = rw add-one (omega (arith, h.0), λ lt. h.1 (omega arith))

piece_end_by : (depth b : ℕ) (bs : List ℕ) (t : Bool) → is_cut depth b ≡ t → EndsAt bs (piece_size (depth_behind depth b) bs) → EndsAt (b ∷ bs) (if t then 0 else piece_size (depth_behind depth b) bs + 1)
piece_end_by depth b bs true e h = (omega arith, λ lt. cut_ascii depth b e)
piece_end_by depth b bs false e h = ends_later b bs _ h

pub piece_end : (depth : ℕ) (bs : List ℕ) → EndsAt bs (piece_size depth bs)
piece_end depth [] = (omega arith, λ lt. absurd (omega arith))
piece_end depth (b ∷ bs) = piece_end_by depth b bs (is_cut depth b) refl (piece_end (depth_behind depth b) bs)

pub piece_cut : (bs : List ℕ) (n : ℕ) → n ≡ piece_size 0 bs → IsCharBoundary bs n
piece_cut bs n is =
    let ends = piece_end 0 bs in
    (omega (arith, is, ends.0), λ lt high. let low : get_or bs n 0 < 128 = rw is (ends.1 (omega (arith, is, lt))) in absurd (omega arith))

pub behind_cut : (rest bs : List ℕ) (n : ℕ) → bs ≡ rest → IsUtf8 bs → n ≡ piece_size 0 rest → n < length rest → IsCharBoundary rest (n + 1)
behind_cut rest bs n same u is lt =
    let low : get_or rest n 0 < 128 = rw is ((piece_end 0 rest).1 (omega (arith, is, lt))) in IsCharBoundary-after_ascii rest n (subst IsUtf8 same u) lt low

-- the only piece, and the first piece with those behind it
last_by : (depth b : ℕ) (bs : List ℕ) (t : Bool) → is_cut depth b ≡ t → (piece_size (depth_behind depth b) bs ≡ length bs → pieces (depth_behind depth b) bs ≡ bs ∷ [])
    → (if t then 0 else piece_size (depth_behind depth b) bs + 1) ≡ suc (length bs) → (if t then [] ∷ pieces 0 bs else with_byte b (pieces (depth_behind depth b) bs)) ≡ (b ∷ bs) ∷ []
last_by depth b bs true e h whole = absurd (omega (arith, whole))
last_by depth b bs false e h whole = ap (with_byte b) (h (omega (arith, whole)))

pub last_piece : (depth : ℕ) (bs : List ℕ) → piece_size depth bs ≡ length bs → pieces depth bs ≡ bs ∷ []
last_piece depth [] whole = refl
last_piece depth (b ∷ bs) whole = last_by depth b bs (is_cut depth b) refl (last_piece (depth_behind depth b) bs) whole

more_by : (depth b : ℕ) (bs : List ℕ) (t : Bool) (n : ℕ) → is_cut depth b ≡ t → n ≡ piece_size (depth_behind depth b) bs
    → (n < length bs → pieces (depth_behind depth b) bs ≡ take n bs ∷ pieces 0 (drop (n + 1) bs))
    → (if t then 0 else n + 1) < suc (length bs)
    → (if t then [] ∷ pieces 0 bs else with_byte b (pieces (depth_behind depth b) bs)) ≡ take (if t then 0 else n + 1) (b ∷ bs) ∷ pieces 0 (drop ((if t then 0 else n + 1) + 1) (b ∷ bs))
more_by depth b bs true n e is h w = refl
more_by depth b bs false n e is h w = ap (with_byte b) (h (omega (arith, w))) ∙ simp add-one refl

pub more_pieces : (depth : ℕ) (bs : List ℕ) → piece_size depth bs < length bs → pieces depth bs ≡ take (piece_size depth bs) bs ∷ pieces 0 (drop (piece_size depth bs + 1) bs)
more_pieces depth [] w = absurd (omega (arith, w))
more_pieces depth (b ∷ bs) w = more_by depth b bs (is_cut depth b) (piece_size (depth_behind depth b) bs) refl refl (more_pieces (depth_behind depth b) bs) w

texts_of-cons : (piece : List ℕ) (pieces : List (List ℕ)) → texts_of (piece ∷ pieces) ≡ texts_of (piece ∷ []) ++ texts_of pieces
texts_of-cons piece pieces = filter-append is_some_text (trimmed piece ∷ []) (map trimmed pieces)

pub spelt_last : (rest piece : List ℕ) (n : ℕ) → n ≡ piece_size 0 rest → n ≡ length rest → piece ≡ take n rest → spelt rest ≡ texts_of (piece ∷ [])
spelt_last rest piece n is whole cut =
    ap texts_of (last_piece 0 rest (sym is ∙ whole)) ∙ ap (λ p. texts_of (p ∷ [])) (sym (cut ∙ take_all n rest (omega (arith, whole))))

pub spelt_more : (rest piece after : List ℕ) (n : ℕ) → n ≡ piece_size 0 rest → n < length rest → piece ≡ take n rest → after ≡ drop (n + 1) rest → spelt rest ≡ texts_of (piece ∷ []) ++ spelt after
spelt_more rest piece after n is w cut left =
    ap texts_of (more_pieces 0 rest (omega (arith, is, w)))
    ∙ ap (λ k. texts_of (take k rest ∷ pieces 0 (drop (k + 1) rest))) (sym is)
    ∙ texts_of-cons (take n rest) (pieces 0 (drop (n + 1) rest))
    ∙ ap (λ p. texts_of (p ∷ []) ++ texts_of (pieces 0 (drop (n + 1) rest))) (sym cut)
    ∙ ap (λ r. texts_of (piece ∷ []) ++ spelt r) (sym left)

from_start : (piece rest : List ℕ) (n : ℕ) → piece ≡ take (n - 0) rest → piece ≡ take n rest
from_start piece rest n is = let e : n - 0 ≡ n = omega arith in is ∙ ap (λ k. take k rest) e

pub ends_whole : (old to new : List (List ℕ)) (pattern rest piece : List ℕ) (n : ℕ) → n ≡ piece_size 0 rest → n ≡ length rest → piece ≡ take (n - 0) rest → new ≡ to ++ texts_of (piece ∷ [])
    → to ++ spelt rest ≡ old ++ spelt pattern → new ≡ old ++ spelt pattern
ends_whole old to new pattern rest piece n is whole cut pushed so = pushed ∙ ap (λ t. to ++ t) (sym (spelt_last rest piece n is whole (from_start piece rest n cut))) ∙ so

pub goes_on : (old to new : List (List ℕ)) (pattern rest piece after : List ℕ) (n : ℕ) → n ≡ piece_size 0 rest → n < length rest → piece ≡ take (n - 0) rest → after ≡ drop (n + 1) rest
    → new ≡ to ++ texts_of (piece ∷ []) → to ++ spelt rest ≡ old ++ spelt pattern → new ++ spelt after ≡ old ++ spelt pattern
goes_on old to new pattern rest piece after n is w cut left pushed so =
    ap (λ t. t ++ spelt after) pushed ∙ append_assoc to (texts_of (piece ∷ [])) (spelt after) ∙ ap (λ t. to ++ t) (sym (spelt_more rest piece after n is w (from_start piece rest n cut) left)) ∙ so

pub not_whole : (rest : List ℕ) (n : ℕ) → n ≡ piece_size 0 rest → (n ≡ length rest → ⊥) → n < length rest
not_whole rest n is other = omega (arith, is, (piece_end 0 rest).0, other)
