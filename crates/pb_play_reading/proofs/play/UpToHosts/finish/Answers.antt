use Rattle.std.proofs.Common.{Ok, ap, sym, ◌∙◌}
use Rattle.pb_value.specs.Reading.{map_ok}
use Rattle.pb_reading.specs.Reading.{required}
use Rattle.pb_play_reading.specs.Plays.{play_over}
use Rattle.pb_play_reading.proofs.Steps.{stopped, stops_made}
use Rattle.pb_play_reading.proofs.play.UpToHosts.finish.Goals as goal

pub returns-in_err-hosts : goal.returns-in_err-hosts
returns-in_err-hosts c =
    stopped _ c.in_err-hosts.field-0.0 _ c.from_residual.ensures.1
    (stops_made c.in_err-hosts.field-0.0 (play_over c.args.self.before c.args.after c.args.vars) (required c.args.path.now c.args.self.hosts) c.in_err-hosts.ensures)

pub returns : goal.returns
returns c =
    ap (map_ok (play_over c.args.self.before c.args.after c.args.vars)) c.in_ok-hosts.ensures
    ∙ ap Ok (sym (c.over.ensures ∙ ap (λ first. record (play_over c.args.self.before c.args.after c.args.vars c.in_ok-hosts.hosts) { pre_tasks = first }) c.in_ok-begin.ensures))
