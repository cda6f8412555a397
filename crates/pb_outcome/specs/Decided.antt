-- The results of items that are decided when their task starts, without a job.
-- See Ansible's documentation of `ansible.builtin.debug` and `ansible.builtin.fail`.
use Rattle.std.specs.Prelude.{ℕ, Bool, true, false, List, [], ◌∷◌, codes}
use Rattle.pb_value.specs.Datum.{Datum, boolean, text, dict, members_of, put}
use Rattle.pb_outcome.specs.declared.gather.Ending.TheVariants.{Faulty, Ran}
use Rattle.pb_outcome.specs.declared.gather.ItemResult.{ItemResult}

-- a result that says this, and changed nothing
abbrev pub said : Bool → Datum → Datum
said failed v = dict (members_of ((codes "changed", boolean false) ∷ (codes "failed", boolean failed) ∷ (codes "msg", v) ∷ []))

-- an item that can't be read
abbrev pub faulty_result : List ℕ → ItemResult
faulty_result msg = record { ending = Faulty; result = said true (text msg) }

-- an item of `debug`
abbrev pub debug_result : Datum → ItemResult
debug_result msg = record { ending = Ran false false; result = said false msg }

-- an item of `fail`
abbrev pub fail_result : Datum → ItemResult
fail_result msg = record { ending = Ran false true; result = said true msg }

-- an item of `debug` that shows a value under a name: where the name is `changed` or `failed`, the result's own wins
abbrev pub shown_result : List ℕ → Datum → ItemResult
shown_result name v = record { ending = Ran false false; result = dict (members_of (put (codes "failed") (boolean false) (put (codes "changed") (boolean false) ((name, v) ∷ [])))) }
