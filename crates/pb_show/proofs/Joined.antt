-- Texts that are written one behind another.
use Rattle.std.proofs.Common.{◌≡◌, ℕ, List, ◌++◌, append_assoc}

pub joined3 : (s a b c : List ℕ) → ((s ++ a) ++ b) ++ c ≡ s ++ (a ++ b ++ c)
joined3 s a b c = simp append_assoc

pub joined6 : (s a b c d e f : List ℕ) → (((((s ++ a) ++ b) ++ c) ++ d) ++ e) ++ f ≡ s ++ (a ++ b ++ c ++ d ++ e ++ f)
joined6 s a b c d e f = simp append_assoc

pub joined2 : (s a b : List ℕ) → (s ++ a) ++ b ≡ s ++ (a ++ b)
joined2 s a b = append_assoc s a b

pub joined5 : (s a b c d e : List ℕ) → ((((s ++ a) ++ b) ++ c) ++ d) ++ e ≡ s ++ (a ++ b ++ c ++ d ++ e)
joined5 s a b c d e = simp append_assoc
