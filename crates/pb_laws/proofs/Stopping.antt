-- A walk of a part, and the same with more answers, of which the first isn't good: behind that it stops only where it may, and never comes through good.
use Rattle.std.proofs.Common.{◌≡◌, ℕ, zero, suc, ◌+◌, ◌<◌, ◌≤◌, Bool, true, false, List, [], ◌∷◌, ◌++◌, refl, arith}
use Rattle.std.specs.Prelude.{slice_index_or, if◌then◌else◌}
use Rattle.pb_tree.specs.Answer.{AnswerOf}
use Rattle.pb_tree.specs.Walk.{WalkerOf, Passage, Stopped, Through, on_good, unless_over, rescued, task_with, handler_with, flush, block_result}
use Rattle.pb_tree.specs.declared.answer.Kind.{Kind}
use Rattle.pb_tree.specs.declared.answer.Kind.TheVariants as kinds

-- a walk that has these answers too
abbrev pub longer : List AnswerOf → WalkerOf → WalkerOf
longer more w = record { answers = w.answers ++ more; marks = w.marks }

abbrev pub is_bad : Kind → Bool
is_bad kinds.Bad = true
is_bad kind = false

-- one that ends the whole walk
abbrev pub is_over : Kind → Bool
is_over kinds.Gone = true
is_over kinds.Ended = true
is_over kind = false

-- what a part may come through with, behind an answer of the first kind; none comes through good
abbrev pub outs : Kind → Kind → Bool
outs kinds.Bad kinds.Good = false
outs kinds.Bad kinds.Bad = true
outs kinds.Bad kinds.Halted = true
outs kinds.Bad kinds.Gone = true
outs kinds.Bad kinds.Ended = true
outs kinds.Halted kinds.Good = false
outs kinds.Halted kinds.Bad = false
outs kinds.Halted kinds.Halted = true
outs kinds.Halted kinds.Gone = true
outs kinds.Halted kinds.Ended = true
outs kinds.Gone kinds.Gone = true
outs kinds.Ended kinds.Ended = true
outs kind other = false

pub outs_good : (kind : Kind) → outs kind kinds.Good ≡ true → ⊥
outs_good kinds.Good e = cc
outs_good kinds.Bad e = cc
outs_good kinds.Halted e = cc
outs_good kinds.Gone e = cc
outs_good kinds.Ended e = cc

-- where the second walk goes behind the answer: to places that may be, from `lo` on and below `hi`
abbrev pub Goes : Kind → (ℕ → Bool) → ℕ → ℕ → Passage → Type 0
Goes kind may lo hi (Stopped q marks) = (is_over kind ≡ false) × (may q ≡ true) × (lo ≤ q) × (q < hi)
Goes kind may lo hi (Through k w) = outs kind k ≡ true

-- one walk, and the same with more answers, the first of which is of this kind
abbrev pub Fits : Kind → List AnswerOf → (ℕ → ℕ → Bool) → (ℕ → Type 0) → ℕ → ℕ → Passage → Passage → Type 0
Fits kind more may Un lo hi (Stopped p marks) q = (lo ≤ p) × (p < hi) × (Un p → Goes kind (may p) lo hi q)
Fits kind more may Un lo hi (Through k w) q = q ≡ Through k (longer more w)

-- ---- parts
wider_goes : (kind : Kind) (may1 may : ℕ → Bool) (lo1 hi1 lo hi : ℕ) (q : Passage) → lo ≤ lo1 → hi1 ≤ hi → ((k : ℕ) → may1 k ≡ true → may k ≡ true) → Goes kind may1 lo1 hi1 q → Goes kind may lo hi q
wider_goes kind may1 may lo1 hi1 lo hi (Stopped q marks) a b m g = (g.0, m q g.1, omega (arith, a, g.2), omega (arith, b, g.3))
wider_goes kind may1 may lo1 hi1 lo hi (Through k w) a b m g = g

pub wider : (kind : Kind) (more : List AnswerOf) (may1 may : ℕ → ℕ → Bool) (Un1 Un : ℕ → Type 0) (lo1 hi1 lo hi : ℕ) (p q : Passage) → lo ≤ lo1 → hi1 ≤ hi → ((k : ℕ) → lo1 ≤ k → k < hi1 → Un k → Un1 k)
    → ((k j : ℕ) → may1 k j ≡ true → may k j ≡ true) → Fits kind more may1 Un1 lo1 hi1 p q → Fits kind more may Un lo hi p q
wider kind more may1 may Un1 Un lo1 hi1 lo hi (Stopped p marks) q a b u m f =
    (omega (arith, a, f.0), omega (arith, b, f.1), λ un. wider_goes kind (may1 p) (may p) lo1 hi1 lo hi q a b (m p) (f.2 (u p f.0 f.1 un)))
wider kind more may1 may Un1 Un lo1 hi1 lo hi (Through k w) q a b u m f = f

goes_good : (kind : Kind) (may : ℕ → Bool) (lo hi : ℕ) (q : Passage) (next : WalkerOf → Passage) → Goes kind may lo hi q → Goes kind may lo hi (on_good q next)
goes_good kind may lo hi (Stopped q marks) next g = g
goes_good kind may lo hi (Through kinds.Good w) next g = absurd (outs_good kind g)
goes_good kind may lo hi (Through kinds.Bad w) next g = g
goes_good kind may lo hi (Through kinds.Halted w) next g = g
goes_good kind may lo hi (Through kinds.Gone w) next g = g
goes_good kind may lo hi (Through kinds.Ended w) next g = g

pub on_good_fits : (kind : Kind) (more : List AnswerOf) (may : ℕ → ℕ → Bool) (Un : ℕ → Type 0) (lo hi : ℕ) (p q : Passage) (next : WalkerOf → Passage) → Fits kind more may Un lo hi p q
    → ((w : WalkerOf) → Fits kind more may Un lo hi (next w) (next (longer more w))) → Fits kind more may Un lo hi (on_good p next) (on_good q next)
on_good_fits kind more may Un lo hi (Stopped p marks) q next f n = (f.0, f.1, λ un. goes_good kind (may p) lo hi q next (f.2 un))
on_good_fits kind more may Un lo hi (Through kinds.Good w) q next f n = rw f (n w)
on_good_fits kind more may Un lo hi (Through kinds.Bad w) q next f n = rw f refl
on_good_fits kind more may Un lo hi (Through kinds.Halted w) q next f n = rw f refl
on_good_fits kind more may Un lo hi (Through kinds.Gone w) q next f n = rw f refl
on_good_fits kind more may Un lo hi (Through kinds.Ended w) q next f n = rw f refl

-- a rescue isn't walked
rescued_bad : (kind : Kind) (may : ℕ → Bool) (lo hi : ℕ) (no_rescue : Bool) (w : WalkerOf) (rescue : WalkerOf → Passage) → (is_bad kind ≡ true → no_rescue ≡ true) → outs kind kinds.Bad ≡ true
    → Goes kind may lo hi (rescued no_rescue kinds.Bad w rescue)
rescued_bad kinds.Good may lo hi no_rescue w rescue n g = cc
rescued_bad kinds.Bad may lo hi no_rescue w rescue n g = let none : no_rescue ≡ true = n refl in rw none refl
rescued_bad kinds.Halted may lo hi no_rescue w rescue n g = cc
rescued_bad kinds.Gone may lo hi no_rescue w rescue n g = cc
rescued_bad kinds.Ended may lo hi no_rescue w rescue n g = cc

rescued_halted : (kind : Kind) (may : ℕ → Bool) (lo hi : ℕ) (no_rescue : Bool) (w : WalkerOf) (rescue : WalkerOf → Passage) → outs kind kinds.Halted ≡ true → Goes kind may lo hi (rescued no_rescue kinds.Halted w rescue)
rescued_halted kind may lo hi true w rescue g = g
rescued_halted kind may lo hi false w rescue g = g

goes_middle : (kind : Kind) (may : ℕ → Bool) (lo hb hi : ℕ) (no_rescue : Bool) (q : Passage) (rescue : WalkerOf → Passage) → hb ≤ hi → (is_bad kind ≡ true → no_rescue ≡ true) → Goes kind may lo hb q
    → Goes kind may lo hi (unless_over q (λ k v. rescued no_rescue k v rescue))
goes_middle kind may lo hb hi no_rescue (Stopped q marks) rescue l n g = (g.0, g.1, g.2, omega (arith, g.3, l))
goes_middle kind may lo hb hi no_rescue (Through kinds.Good w) rescue l n g = absurd (outs_good kind g)
goes_middle kind may lo hb hi no_rescue (Through kinds.Bad w) rescue l n g = rescued_bad kind may lo hi no_rescue w rescue n g
goes_middle kind may lo hb hi no_rescue (Through kinds.Halted w) rescue l n g = rescued_halted kind may lo hi no_rescue w rescue g
goes_middle kind may lo hb hi no_rescue (Through kinds.Gone w) rescue l n g = g
goes_middle kind may lo hb hi no_rescue (Through kinds.Ended w) rescue l n g = g

rescued_fits : (kind : Kind) (more : List AnswerOf) (may : ℕ → ℕ → Bool) (Un : ℕ → Type 0) (lo hi : ℕ) (no_rescue : Bool) (k : Kind) (w : WalkerOf) (rescue : WalkerOf → Passage)
    → ((v : WalkerOf) → Fits kind more may Un lo hi (rescue v) (rescue (longer more v))) → Fits kind more may Un lo hi (rescued no_rescue k w rescue) (rescued no_rescue k (longer more w) rescue)
rescued_fits kind more may Un lo hi false kinds.Good w rescue n = refl
rescued_fits kind more may Un lo hi false kinds.Bad w rescue n = n w
rescued_fits kind more may Un lo hi false kinds.Halted w rescue n = refl
rescued_fits kind more may Un lo hi false kinds.Gone w rescue n = refl
rescued_fits kind more may Un lo hi false kinds.Ended w rescue n = refl
rescued_fits kind more may Un lo hi true k w rescue n = refl

pub middle_fits : (kind : Kind) (more : List AnswerOf) (may : ℕ → ℕ → Bool) (Un : ℕ → Type 0) (lo hb hi : ℕ) (no_rescue : Bool) (p q : Passage) (rescue : WalkerOf → Passage) → hb ≤ hi
    → ((k : ℕ) → lo ≤ k → k < hb → Un k → is_bad kind ≡ true → no_rescue ≡ true) → Fits kind more may Un lo hb p q → ((v : WalkerOf) → Fits kind more may Un lo hi (rescue v) (rescue (longer more v)))
    → Fits kind more may Un lo hi (unless_over p (λ k v. rescued no_rescue k v rescue)) (unless_over q (λ k v. rescued no_rescue k v rescue))
middle_fits kind more may Un lo hb hi no_rescue (Stopped p marks) q rescue l none f n =
    (f.0, omega (arith, f.1, l), λ un. goes_middle kind (may p) lo hb hi no_rescue q rescue l (none p f.0 f.1 un) (f.2 un))
middle_fits kind more may Un lo hb hi no_rescue (Through kinds.Good w) q rescue l none f n = rw f (rescued_fits kind more may Un lo hi no_rescue kinds.Good w rescue n)
middle_fits kind more may Un lo hb hi no_rescue (Through kinds.Bad w) q rescue l none f n = rw f (rescued_fits kind more may Un lo hi no_rescue kinds.Bad w rescue n)
middle_fits kind more may Un lo hb hi no_rescue (Through kinds.Halted w) q rescue l none f n = rw f (rescued_fits kind more may Un lo hi no_rescue kinds.Halted w rescue n)
middle_fits kind more may Un lo hb hi no_rescue (Through kinds.Gone w) q rescue l none f n = rw f refl
middle_fits kind more may Un lo hb hi no_rescue (Through kinds.Ended w) q rescue l none f n = rw f refl

-- an always part is walked, and what came before it stays
result_bad : (kind result : Kind) → outs kind kinds.Bad ≡ true → outs kind (block_result result kinds.Bad) ≡ true
result_bad kinds.Bad kinds.Good e = refl
result_bad kinds.Bad kinds.Bad e = refl
result_bad kinds.Bad kinds.Halted e = refl
result_bad kinds.Bad kinds.Gone e = refl
result_bad kinds.Bad kinds.Ended e = refl
result_bad kinds.Good result e = cc
result_bad kinds.Halted result e = cc
result_bad kinds.Gone result e = cc
result_bad kinds.Ended result e = cc

result_halted : (kind result : Kind) → outs kind kinds.Halted ≡ true → outs kind (block_result result kinds.Halted) ≡ true
result_halted kind kinds.Good e = e
result_halted kind kinds.Bad e = e
result_halted kind kinds.Halted e = e
result_halted kind kinds.Gone e = e
result_halted kind kinds.Ended e = e

goes_result : (kind result : Kind) (may : ℕ → Bool) (lo hm hi : ℕ) (q : Passage) → lo ≤ hm → Goes kind may hm hi q → Goes kind may lo hi (unless_over q (λ always_kind u. Through (block_result result always_kind) u))
goes_result kind result may lo hm hi (Stopped q marks) l g = (g.0, g.1, omega (arith, g.2, l), g.3)
goes_result kind result may lo hm hi (Through kinds.Good w) l g = absurd (outs_good kind g)
goes_result kind result may lo hm hi (Through kinds.Bad w) l g = result_bad kind result g
goes_result kind result may lo hm hi (Through kinds.Halted w) l g = result_halted kind result g
goes_result kind result may lo hm hi (Through kinds.Gone w) l g = g
goes_result kind result may lo hm hi (Through kinds.Ended w) l g = g

behind_fits : (kind : Kind) (more : List AnswerOf) (may : ℕ → ℕ → Bool) (Un : ℕ → Type 0) (lo hm hi : ℕ) (result : Kind) (p q : Passage) → lo ≤ hm → Fits kind more may Un hm hi p q
    → Fits kind more may Un lo hi (unless_over p (λ always_kind u. Through (block_result result always_kind) u)) (unless_over q (λ always_kind u. Through (block_result result always_kind) u))
behind_fits kind more may Un lo hm hi result (Stopped p marks) q l f = (omega (arith, f.0, l), f.1, λ un. goes_result kind result (may p) lo hm hi q l (f.2 un))
behind_fits kind more may Un lo hm hi result (Through kinds.Good w) q l f = rw f refl
behind_fits kind more may Un lo hm hi result (Through kinds.Bad w) q l f = rw f refl
behind_fits kind more may Un lo hm hi result (Through kinds.Halted w) q l f = rw f refl
behind_fits kind more may Un lo hm hi result (Through kinds.Gone w) q l f = rw f refl
behind_fits kind more may Un lo hm hi result (Through kinds.Ended w) q l f = rw f refl

-- the always part behind a part that was left bad or halted
unfoldable pub IsKnown : ℕ → ℕ → Passage → Type 0
IsKnown lo hi (Stopped q marks) = (lo ≤ q) × (q < hi)
IsKnown lo hi (Through k w) = Unit {0}

pub known : (kind : Kind) (more : List AnswerOf) (may : ℕ → ℕ → Bool) (Un : ℕ → Type 0) (lo hi : ℕ) (p q : Passage) → Fits kind more may Un lo hi p q → IsKnown lo hi p
unfolding IsKnown
known kind more may Un lo hi (Stopped p marks) q f = (f.0, f.1)
known kind more may Un lo hi (Through k w) q f = tt

behind_bad : (kind : Kind) (may : ℕ → Bool) (lo hm hi : ℕ) (p : Passage) → lo ≤ hm → ((q : ℕ) → hm ≤ q → q < hi → may q ≡ true) → outs kind kinds.Bad ≡ true → IsKnown hm hi p
    → Goes kind may lo hi (unless_over p (λ always_kind u. Through (block_result kinds.Bad always_kind) u))
unfolding IsKnown
behind_bad kinds.Bad may lo hm hi (Stopped q marks) l m g b = (refl, m q b.0 b.1, omega (arith, b.0, l), b.1)
behind_bad kinds.Bad may lo hm hi (Through kinds.Good w) l m g b = refl
behind_bad kinds.Bad may lo hm hi (Through kinds.Bad w) l m g b = refl
behind_bad kinds.Bad may lo hm hi (Through kinds.Halted w) l m g b = refl
behind_bad kinds.Bad may lo hm hi (Through kinds.Gone w) l m g b = refl
behind_bad kinds.Bad may lo hm hi (Through kinds.Ended w) l m g b = refl
behind_bad kinds.Good may lo hm hi p l m g b = absurd (let no : false ≡ true = g in cc)
behind_bad kinds.Halted may lo hm hi p l m g b = absurd (let no : false ≡ true = g in cc)
behind_bad kinds.Gone may lo hm hi p l m g b = absurd (let no : false ≡ true = g in cc)
behind_bad kinds.Ended may lo hm hi p l m g b = absurd (let no : false ≡ true = g in cc)

behind_halted : (kind : Kind) (may : ℕ → Bool) (lo hm hi : ℕ) (p : Passage) → lo ≤ hm → ((q : ℕ) → hm ≤ q → q < hi → may q ≡ true) → outs kind kinds.Halted ≡ true → IsKnown hm hi p
    → Goes kind may lo hi (unless_over p (λ always_kind u. Through (block_result kinds.Halted always_kind) u))
unfolding IsKnown
behind_halted kinds.Bad may lo hm hi (Stopped q marks) l m g b = (refl, m q b.0 b.1, omega (arith, b.0, l), b.1)
behind_halted kinds.Bad may lo hm hi (Through kinds.Good w) l m g b = refl
behind_halted kinds.Bad may lo hm hi (Through kinds.Bad w) l m g b = refl
behind_halted kinds.Bad may lo hm hi (Through kinds.Halted w) l m g b = refl
behind_halted kinds.Bad may lo hm hi (Through kinds.Gone w) l m g b = refl
behind_halted kinds.Bad may lo hm hi (Through kinds.Ended w) l m g b = refl
behind_halted kinds.Halted may lo hm hi (Stopped q marks) l m g b = (refl, m q b.0 b.1, omega (arith, b.0, l), b.1)
behind_halted kinds.Halted may lo hm hi (Through kinds.Good w) l m g b = refl
behind_halted kinds.Halted may lo hm hi (Through kinds.Bad w) l m g b = refl
behind_halted kinds.Halted may lo hm hi (Through kinds.Halted w) l m g b = refl
behind_halted kinds.Halted may lo hm hi (Through kinds.Gone w) l m g b = refl
behind_halted kinds.Halted may lo hm hi (Through kinds.Ended w) l m g b = refl
behind_halted kinds.Good may lo hm hi p l m g b = absurd (let no : false ≡ true = g in cc)
behind_halted kinds.Gone may lo hm hi p l m g b = absurd (let no : false ≡ true = g in cc)
behind_halted kinds.Ended may lo hm hi p l m g b = absurd (let no : false ≡ true = g in cc)

goes_always : (kind : Kind) (may : ℕ → Bool) (lo hm hi : ℕ) (q : Passage) (always : WalkerOf → Passage) → lo ≤ hm → hm ≤ hi → ((k : ℕ) → hm ≤ k → k < hi → may k ≡ true) → ((w : WalkerOf) → IsKnown hm hi (always w))
    → Goes kind may lo hm q → Goes kind may lo hi (unless_over q (λ k v. unless_over (always v) (λ always_kind u. Through (block_result k always_kind) u)))
goes_always kind may lo hm hi (Stopped q marks) always l r m b g = (g.0, g.1, g.2, omega (arith, g.3, r))
goes_always kind may lo hm hi (Through kinds.Good w) always l r m b g = absurd (outs_good kind g)
goes_always kind may lo hm hi (Through kinds.Bad w) always l r m b g = behind_bad kind may lo hm hi (always w) l m g (b w)
goes_always kind may lo hm hi (Through kinds.Halted w) always l r m b g = behind_halted kind may lo hm hi (always w) l m g (b w)
goes_always kind may lo hm hi (Through kinds.Gone w) always l r m b g = g
goes_always kind may lo hm hi (Through kinds.Ended w) always l r m b g = g

pub always_fits : (kind : Kind) (more : List AnswerOf) (may : ℕ → ℕ → Bool) (Un : ℕ → Type 0) (lo hm hi : ℕ) (p q : Passage) (always : WalkerOf → Passage) → lo ≤ hm → hm ≤ hi
    → ((k j : ℕ) → lo ≤ k → k < hm → hm ≤ j → j < hi → may k j ≡ true) → Fits kind more may Un lo hm p q → ((w : WalkerOf) → Fits kind more may Un hm hi (always w) (always (longer more w)))
    → Fits kind more may Un lo hi (unless_over p (λ k v. unless_over (always v) (λ always_kind u. Through (block_result k always_kind) u))) (unless_over q (λ k v. unless_over (always v) (λ always_kind u. Through (block_result k always_kind) u)))
always_fits kind more may Un lo hm hi (Stopped p marks) q always l r m f n =
    (f.0, omega (arith, f.1, r), λ un. goes_always kind (may p) lo hm hi q always l r (λ j. m p j f.0 f.1) (λ w. known kind more may Un hm hi (always w) (always (longer more w)) (n w)) (f.2 un))
always_fits kind more may Un lo hm hi (Through kinds.Good w) q always l r m f n = rw f (behind_fits kind more may Un lo hm hi kinds.Good (always w) (always (longer more w)) l (n w))
always_fits kind more may Un lo hm hi (Through kinds.Bad w) q always l r m f n = rw f (behind_fits kind more may Un lo hm hi kinds.Bad (always w) (always (longer more w)) l (n w))
always_fits kind more may Un lo hm hi (Through kinds.Halted w) q always l r m f n = rw f (behind_fits kind more may Un lo hm hi kinds.Halted (always w) (always (longer more w)) l (n w))
always_fits kind more may Un lo hm hi (Through kinds.Gone w) q always l r m f n = rw f refl
always_fits kind more may Un lo hm hi (Through kinds.Ended w) q always l r m f n = rw f refl

-- ---- tasks and handlers
pub task_fits : (a : AnswerOf) (more : List AnswerOf) (may : ℕ → ℕ → Bool) (Un : ℕ → Type 0) (at hi : ℕ) (answers : List AnswerOf) (marks : List Bool) → outs a.kind a.kind ≡ true → at < hi
    → Fits a.kind (a ∷ more) may Un at hi (task_with at answers marks) (task_with at (answers ++ a ∷ more) marks)
task_fits a more may Un at hi [] marks e l = (omega arith, l, λ un. e)
task_fits a more may Un at hi (b ∷ answers) marks e l = refl

handler_fits : (a : AnswerOf) (more : List AnswerOf) (may : ℕ → ℕ → Bool) (Un : ℕ → Type 0) (at lo hi h : ℕ) (answers : List AnswerOf) (marks : List Bool) → outs a.kind a.kind ≡ true → lo ≤ at → at < hi
    → Fits a.kind (a ∷ more) may Un lo hi (handler_with at h answers marks) (handler_with at h (answers ++ a ∷ more) marks)
handler_fits a more may Un at lo hi h [] marks e r l = (r, l, λ un. e)
handler_fits a more may Un at lo hi h (b ∷ answers) marks e r l = refl

marked_fits : (a : AnswerOf) (more : List AnswerOf) (may : ℕ → ℕ → Bool) (Un : ℕ → Type 0) (marked : Bool) (at lo hi h : ℕ) (w : WalkerOf) → outs a.kind a.kind ≡ true → lo ≤ at → at < hi
    → Fits a.kind (a ∷ more) may Un lo hi (if marked then handler_with at h w.answers w.marks else Through kinds.Good w) (if marked then handler_with at h (w.answers ++ a ∷ more) w.marks else Through kinds.Good (longer (a ∷ more) w))
marked_fits a more may Un true at lo hi h w e r l = handler_fits a more may Un at lo hi h w.answers w.marks e r l
marked_fits a more may Un false at lo hi h w e r l = refl

pub flush_fits : (a : AnswerOf) (more : List AnswerOf) (may : ℕ → ℕ → Bool) (Un : ℕ → Type 0) (lo hi at h left : ℕ) (w : WalkerOf) → outs a.kind a.kind ≡ true → lo ≤ at + h → at + h + left ≤ hi
    → Fits a.kind (a ∷ more) may Un lo hi (flush at h left w) (flush at h left (longer (a ∷ more) w))
flush_fits a more may Un lo hi at h zero w e r l = refl
flush_fits a more may Un lo hi at h (suc left) w e r l =
    on_good_fits a.kind (a ∷ more) may Un lo hi _ _ (λ v. flush at (h + 1) left v)
    (marked_fits a more may Un (slice_index_or w.marks h false) (at + h) lo hi h w e r (omega (arith, l)))
    (λ v. flush_fits a more may Un lo hi at (h + 1) left v e (omega (arith, r)) (omega (arith, l)))
