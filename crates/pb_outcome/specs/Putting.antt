-- What is put into the members of a result, one key after another.
use Rattle.std.specs.Prelude.{ℕ, ℤ, true, List, [], ◌∷◌, codes}
use Rattle.pb_value.specs.Datum.{Datum, boolean, int, text, list, items_of, put}
use Rattle.pb_outcome.specs.Items.{loop_message}
use Rattle.pb_outcome.specs.Results.{rc_message, shown_lines}
use Rattle.pb_outcome.specs.declared.gather.ItemResult.{ItemResult}

-- the names of a result's members with their values
abbrev pub Members : Type 0
Members = List (List ℕ × Datum)

-- the lines of what a program wrote
abbrev pub put_output : List ℕ → List ℕ → Members → Members
put_output out err ms =
    put (codes "stdout_lines") (shown_lines out) (put (codes "stdout") (text out)
    (put (codes "stderr_lines") (shown_lines err) (put (codes "stderr") (text err) ms)))

-- a program's end, from what it wrote without the line ends behind it
abbrev pub put_end : ℤ → List ℕ → List ℕ → Members → Members
put_end rc out err ms = put_output out err (put (codes "rc") (int rc) (put (codes "msg") (text (rc_message rc)) ms))

-- a loop over an empty list
abbrev pub put_no_items : Members → Members
put_no_items ms =
    put (codes "skipped_reason") (text (codes "No items in the list")) (put (codes "skipped") (boolean true) (put (codes "results") (list (items_of [])) ms))

-- the items of a loop
abbrev pub put_results : List ItemResult → List Datum → Members → Members
put_results results shown ms = put (codes "results") (list (items_of shown)) (put (codes "msg") (text (loop_message results)) ms)
