use Rattle.std.proofs.Common.{◌≡◌, Ok, ap, subst, ◌∙◌}
use Rattle.std.specs.Prelude.{option_map}
use Rattle.serde_json.specs.View.{view, members_view}
use Rattle.pb_reading.specs.Ahead.{ahead}
use Rattle.pb_reading.specs.Reading.{Stops}
use Rattle.pb_play_reading.specs.Plays.{before_hosts}
use Rattle.pb_play_reading.proofs.Refusable.{before_stop, front_stop, hosts_stop, hosts_read}
use Rattle.pb_play_reading.proofs.play.read_members.Goals as goal

pub returns-in-Err : goal.returns-in-Err
returns-in-Err c =
    before_stop c.args.path.now (members_view c.args.members.now.entries) c.in-Err.stop
    (subst (λ a. Stops c.in-Err.stop (before_hosts a)) c.of-keys.ensures c.in-Err.ensures.value)

pub returns-in-Err-value_at : goal.returns-in-Err-value_at
returns-in-Err-value_at c =
    front_stop c.args.path.now (members_view c.args.members.now.entries) c.in-Ok.before (ahead c.read_before_hosts.new.keys) c.in-Err-value_at.stop
    (subst (λ a. before_hosts a ≡ Ok (record { value = c.in-Ok.before; ahead = ahead c.read_before_hosts.new.keys })) c.of-keys.ensures c.in-Ok.ensures.value)
    c.in-Err-value_at.ensures.value

pub returns-in-Err-read_hosts_at : goal.returns-in-Err-read_hosts_at
returns-in-Err-read_hosts_at c =
    hosts_stop c.args.path.now (members_view c.args.members.now.entries) c.in-Ok.before (option_map (λ v. view v.now) c.in-Ok-value_at.found) (ahead c.read_before_hosts.new.keys) (ahead c.value_at.new.self) c.in-Err-read_hosts_at.stop
    (subst (λ a. before_hosts a ≡ Ok (record { value = c.in-Ok.before; ahead = ahead c.read_before_hosts.new.keys })) c.of-keys.ensures c.in-Ok.ensures.value)
    (c.in-Ok.ensures.path ∙ ap (λ a. a.path) c.of-keys.ensures) c.in-Ok-value_at.ensures.value c.in-Err-read_hosts_at.ensures

pub returns-in-Ok-read_hosts_at : goal.returns-in-Ok-read_hosts_at
returns-in-Ok-read_hosts_at c =
    hosts_read c.args.path.now (members_view c.args.members.now.entries) c.in-Ok.before (option_map (λ v. view v.now) c.in-Ok-value_at.found) (ahead c.read_before_hosts.new.keys) (ahead c.value_at.new.self) c.in-Ok-read_hosts_at.hosts c.read_rest.result
    (subst (λ a. before_hosts a ≡ Ok (record { value = c.in-Ok.before; ahead = ahead c.read_before_hosts.new.keys })) c.of-keys.ensures c.in-Ok.ensures.value)
    (c.in-Ok.ensures.path ∙ ap (λ a. a.path) c.of-keys.ensures) c.in-Ok-value_at.ensures.value c.in-Ok-read_hosts_at.ensures c.read_rest.ensures
