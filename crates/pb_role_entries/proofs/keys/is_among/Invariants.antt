use Rattle.std.proofs.Common.{◌≡◌, drop}
use Rattle.std.specs.List.{list_any}
use Rattle.std.specs.Str.{bytes_eq}
use Rattle.pb_role_entries.proofs.keys.is_among.Given as goal

abbrev pub invariant-loop-word : goal.invariant-loop-word
invariant-loop-word l =
    list_any (λ word. bytes_eq l.fn.key word.now) (drop l.word-index l.words)
    ≡ list_any (λ word. bytes_eq l.fn.key word.now) l.words
