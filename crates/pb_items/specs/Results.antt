-- The results of items that are decided when their task starts, beside those of `debug` and `fail`.
-- See Ansible's documentation, "Conditionals", and of `ansible.builtin.assert`.
use Rattle.std.specs.Prelude.{Bool, true, false, [], ◌∷◌, codes}
use Rattle.pb_value.specs.Datum.{Datum, boolean, text, dict, members_of}
use Rattle.pb_outcome.specs.Decided.{debug_result, fail_result}
use Rattle.pb_outcome.specs.declared.gather.Ending.TheVariants.{Ran, Skipped}
use Rattle.pb_outcome.specs.declared.gather.ItemResult.{ItemResult}

-- an item that its conditions leave out
abbrev pub skipped_result : ItemResult
skipped_result =
    record {
      ending = Skipped;
      result =
          dict
          (members_of
          ((codes "changed", boolean false) ∷ (codes "failed", boolean false) ∷ (codes "skip_reason", text (codes "Conditional result was False"))
          ∷ (codes "skipped", boolean true) ∷ []));
    }

-- an item of `meta`, which tells the run how to go on and says nothing
abbrev pub meta_result : ItemResult
meta_result = record { ending = Ran false false; result = dict (members_of ((codes "changed", boolean false) ∷ (codes "failed", boolean false) ∷ [])) }

-- an item of `assert`: what it says where one of its conditions doesn't hold, and where all do
abbrev pub assert_result : Bool → Datum → Datum → ItemResult
assert_result true fail_msg success_msg = debug_result success_msg
assert_result false fail_msg success_msg = fail_result fail_msg
