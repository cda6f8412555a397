-- The keys that name modules: what holds of each word that names one, with its prefix and without, holds of each of these keys.
use Rattle.std.proofs.Common.{◌≡◌, ◌⊎◌, ℕ, Bool, true, false, ◌||◌, List, ◌++◌, Option, Some, None, codes, if◌then◌else◌, refl, sym, subst, inl, inr}
use Rattle.std.proofs.lemmas.Slice.Eq.{bytes_eq-Decides}
use Rattle.std.specs.Str.{bytes_eq}
use Rattle.pb_play_reading.specs.Modules.{names, module_key}
use Rattle.pb_play_reading.specs.declared.modules.ModuleKey.{ModuleKey}
use Rattle.pb_play_reading.specs.declared.modules.ModuleKey.TheVariants as key

abbrev pub prefixed : List ℕ → List ℕ
prefixed word = codes "ansible.builtin." ++ word

abbrev pub word_of : ModuleKey → List ℕ
word_of key.Assert = codes "assert"
word_of key.Command = codes "command"
word_of key.Debug = codes "debug"
word_of key.Fail = codes "fail"
word_of key.SetFact = codes "set_fact"
word_of key.Setup = codes "setup"
word_of key.Shell = codes "shell"

either : (b c : Bool) → b || c ≡ true → (b ≡ true) ⊎ (c ≡ true)
either true c e = inl refl
either false c e = inr e

named_so : (P : List ℕ → Type 0) (k word : List ℕ) → P word → P (prefixed word) → names k word ≡ true → P k
named_so P k word short long e = elim (either (bytes_eq k word) (bytes_eq k (prefixed word)) e) [
  | inl h ↦ subst P (sym ((bytes_eq-Decides k word).0 h)) short
  | inr h ↦ subst P (sym ((bytes_eq-Decides k (prefixed word)).0 h)) long
]

this_or_next : (P : ModuleKey → Type 0) (b : Bool) (x : ModuleKey) (next : Option ModuleKey) (named : ModuleKey) → (b ≡ true → P x) → (next ≡ Some named → P named)
    → (if b then Some x else next) ≡ Some named → P named
this_or_next P true x next named this later e = let same : x ≡ named = cc in subst P same (this refl)
this_or_next P false x next named this later e = later e

none_left : (P : ModuleKey → Type 0) (named : ModuleKey) → None ≡ Some named → P named
none_left P named e = absurd cc

pub of_key : (P : List ℕ → ModuleKey → Type 0) → ((x : ModuleKey) → P (word_of x) x) → ((x : ModuleKey) → P (prefixed (word_of x)) x)
    → (k : List ℕ) (named : ModuleKey) → module_key k ≡ Some named → P k named
of_key P short long k named =
    let this : (x : ModuleKey) → names k (word_of x) ≡ true → P k x = λ x. named_so (λ l. P l x) k (word_of x) (short x) (long x) in
    this_or_next (P k) (names k (codes "assert")) key.Assert _ named (this key.Assert)
    (this_or_next (P k) (names k (codes "command")) key.Command _ named (this key.Command)
    (this_or_next (P k) (names k (codes "debug")) key.Debug _ named (this key.Debug)
    (this_or_next (P k) (names k (codes "fail")) key.Fail _ named (this key.Fail)
    (this_or_next (P k) (names k (codes "set_fact")) key.SetFact _ named (this key.SetFact)
    (this_or_next (P k) (names k (codes "setup")) key.Setup _ named (this key.Setup)
    (this_or_next (P k) (names k (codes "shell")) key.Shell _ named (this key.Shell) (none_left (P k) named)))))))
