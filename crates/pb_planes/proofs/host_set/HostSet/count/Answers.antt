use Rattle.std.proofs.Common.{rules, arith, ◌≡◌, ◌*◌, length}
use Rattle.std.proofs.lemmas.List.Sums.{count_by-le-length}
use Rattle.pb_planes.specs.Words.{bools}
use Rattle.pb_planes.proofs.Sets.{count_is, width_is}
use Rattle.pb_planes.proofs.host_set.HostSet.count.Goals as goal

pub returns : goal.returns
returns c =
    let long = c.as_slice.ensures.len in
    let held = c.self.invariant.1 in
    let view : bools c.as_slice.result.now c.self.inside.width ≡ c.args.self.now = rw (c.as_slice.ensures.value) c.self.view_is in
    rw (c.count_in.ensures) (count_is c.as_slice.result.now c.self.inside.width (64 * length c.as_slice.result.now) c.args.self.now view (omega arith) (λ k le. rw (c.as_slice.ensures.value) (c.self.invariant.2 k le)))

pub overflow_cast-result : goal.overflow_cast-result
overflow_cast-result c =
    let long = c.as_slice.ensures.len in
    let held = c.self.invariant.1 in
    let view : bools c.as_slice.result.now c.self.inside.width ≡ c.args.self.now = rw (c.as_slice.ensures.value) c.self.view_is in
    let all = count_is c.as_slice.result.now c.self.inside.width (64 * length c.as_slice.result.now) c.args.self.now view (omega arith) (λ k le. rw (c.as_slice.ensures.value) (c.self.invariant.2 k le)) in
    let wide = width_is c.as_slice.result.now c.self.inside.width c.args.self.now view in
    let most = count_by-le-length (λ b. b) c.args.self.now in
    let is = c.count_in.ensures in
    let small = c.self.invariant.0 in
    record { fits = omega arith }
