-- What a turn makes of one host: what another host answered for all becomes its answer, and it is halted.
use Rattle.std.specs.Prelude.{ℕ, Bool, ◌&&◌, ◌||◌, not, Option, is_some, if◌then◌else◌}
use Rattle.std.specs.Option.{option_map_or}
use Rattle.pb_facts.specs.declared.update.FactsUpdate.{FactsUpdate}
use Rattle.pb_facts.specs.Update.{applied}
use Rattle.pb_tree.specs.declared.answer.Kind.{Kind}
use Rattle.pb_tree.specs.declared.answer.Kind.TheVariants as kinds
use Rattle.pb_host.specs.Ends.{breaks, plain_answer}
use Rattle.pb_host.specs.Host.{HostOf, is_active, next_place, answered, knows, is_at}

-- a host learns this
abbrev pub applies : FactsUpdate → HostOf → HostOf
applies update row = knows (applied update row.facts) row

-- The answer of another host at a place, if that is its next place: no handler is notified, and nothing counts.
abbrev pub answer_copied : Kind → Bool → HostOf → HostOf
answer_copied kind is_caught row = record (answered (plain_answer kind) row) { is_broken = row.is_broken || breaks is_caught kind }

-- a host whose next place is another one stays as it is
abbrev pub answer_copied_at : ℕ → Bool → HostOf → Kind → HostOf
answer_copied_at p is_caught row kind = if is_at p row then answer_copied kind is_caught row else row

-- the same where a host answered something for all
abbrev pub with_answer : ℕ → Option Kind → Bool → HostOf → HostOf
with_answer p kind is_caught row = option_map_or (answer_copied_at p is_caught row) kind row

-- a host that is active, not broken and not at its end is halted
abbrev pub may_be_halted : HostOf → Bool
may_be_halted row = is_active row.status && not row.is_broken && is_some (next_place row)

-- such a host answers so at its next place, and each other one stays as it is
abbrev pub halted : HostOf → HostOf
halted row = if may_be_halted row then answered (plain_answer kinds.Halted) row else row

abbrev pub halted_if : Bool → HostOf → HostOf
halted_if halts row = if halts then halted row else row
