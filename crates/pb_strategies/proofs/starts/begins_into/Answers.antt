use Rattle.std.proofs.Common.{◌∙◌, ◌&&◌, Bool, ap, sym, map}
use Rattle.std.specs.Simd.Lanes.{zip2}
use Rattle.pb_strategies.specs.Hosts.{is_waiting, has_begun}
use Rattle.pb_strategies.specs.MayStart.{ViewOf}
use Rattle.pb_strategies.proofs.Starting.{begun_alone, all_begin}
use Rattle.pb_strategies.proofs.Keeping.{kept_both}
use Rattle.pb_strategies.proofs.starts.begins_into.Goals as goal

pub returns-then-not-has_room_to_begin : goal.returns-then-not-has_room_to_begin
returns-then-not-has_room_to_begin c =
    begun_alone c.args.view.now c.waiting_into.new.set c.keep_begun.new.set (sym c.has_room_to_begin.ensures ∙ c.if-not-has_room_to_begin.true)
    (c.waiting_into.ensures ∙ ap (λ (v : ViewOf). map is_waiting v.hosts) c.view.view_is)
    (c.keep_begun.ensures ∙ ap (λ (v : ViewOf). zip2 (λ (a b : Bool). a && b) c.waiting_into.new.set (map has_begun v.hosts)) c.view.view_is)
    kept_both

pub returns-else-not-has_room_to_begin : goal.returns-else-not-has_room_to_begin
returns-else-not-has_room_to_begin c =
    all_begin c.args.view.now c.waiting_into.new.set (sym c.has_room_to_begin.ensures ∙ c.if-not-has_room_to_begin.false) (c.waiting_into.ensures ∙ ap (λ (v : ViewOf). map is_waiting v.hosts) c.view.view_is)
