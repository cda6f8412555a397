-- What a host's walk says is pending is what its history says.
use Rattle.std.proofs.Common.{◌≡◌, [], refl}
use Rattle.std.specs.Prelude.{Option, Some, None}
use Rattle.std.specs.Option.{option_map_or}
use Rattle.pb_handlers.specs.Laws.{MarksAreNotes}
use Rattle.pb_host.specs.Host.{HostOf, pending}
use Rattle.pb_engine.specs.Notes.{noted_on}

pub pending_is_noted : (found : Option HostOf) → MarksAreNotes → option_map_or pending found [] ≡ option_map_or noted_on found []
pending_is_noted None law = refl
pending_is_noted (Some row) law = law row.tree row.answers
