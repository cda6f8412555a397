use Rattle.std.proofs.Common.{◌≡◌, ◌<◌, ◌≤◌, ◌-◌, ◌^◌, length, refl, sym, ◌∙◌, subst, arith}
use Rattle.pb_show.specs.Closing.{closing}
use Rattle.pb_show.specs.declared.showing.Showing.{Showing}
use Rattle.pb_show.proofs.Fronts.{whole_front}
use Rattle.pb_show.proofs.Going.{Goes, goes_first, goes_on, goes_endless, handed_on, at_end, stops_in_line, stops_here, ends, stops_at_end}
use Rattle.pb_show.proofs.output.show_lines.Goals as goal

pub loop-lines-init : goal.loop-lines-init
loop-lines-init g c =
    let known = g.R.LinesIn.left c.args.reader.now in
    let old = g.W.BytesOut.taken c.args.writer.now in
    record {
      going = subst (λ (s : Showing). Goes c.args.look known old old known s 0) (sym c.new-showing.ensures) (goes_first c.args.look known old);
      read = refl;
      written = refl;
    }

pub returns-in_default-clause-begun : goal.returns-in_default-clause-begun
returns-in_default-clause-begun g c = stops_here c.args.look _ _ _ _ c.loop-lines.showing _ c.loop-lines.invariant.going

pub returns-clause-begun : goal.returns-clause-begun
returns-clause-begun g c = stops_here c.args.look _ _ _ _ c.loop-lines.showing _ c.loop-lines.invariant.going

pub returns-clause-fault : goal.returns-clause-fault
returns-clause-fault g c =
    let full : 2 ^ 64 - 1 ≤ c.loop-lines.lines = omega (arith, c.loop-lines-test.false) in
    (c.loop-lines.invariant.read, c.loop-lines.invariant.written, goes_endless c.args.look _ _ _ _ c.loop-lines.showing _ c.loop-lines.invariant.going full)

pub returns-in_err-show_one-clause-begun : goal.returns-in_err-show_one-clause-begun
returns-in_err-show_one-clause-begun g c =
    let read = handed_on (g.R.LinesIn.left c.loop-lines.reader) c.as_slice.result.now _ c.as_slice.ensures.value c.in-Ok.ensures.bytes in
    let some : 0 < length c.as_slice.result.now = grind (arith, c.if-is_empty.false, c.is_empty.ensures, c.as_slice.ensures.len) in
    stops_in_line c.args.look _ _ _ _ _ c.loop-lines.showing _ c.as_slice.result.now c.loop-lines.invariant.going read some c.in_err-show_one.ensures.err

pub loop-lines-preserved : goal.loop-lines-preserved
loop-lines-preserved g c =
    let read = handed_on (g.R.LinesIn.left c.loop-lines.reader) c.as_slice.result.now _ c.as_slice.ensures.value c.in-Ok.ensures.bytes in
    let some : 0 < length c.as_slice.result.now = grind (arith, c.if-is_empty.false, c.is_empty.ensures, c.as_slice.ensures.len) in
    record {
      going = goes_on c.args.look _ _ _ _ _ _ c.loop-lines.showing _ _ c.as_slice.result.now c.loop-lines.invariant.going read c.in-Ok.ensures.rest some c.in_ok-show_one.ensures.ok c.in_ok-show_one.ensures.state;
      read = c.in-Ok.ensures.quiet ∙ c.loop-lines.invariant.read;
      written = c.in_ok-show_one.ensures.quiet ∙ c.loop-lines.invariant.written;
    }

pub returns-in_err-show_closing-clause-begun : goal.returns-in_err-show_closing-clause-begun
returns-in_err-show_closing-clause-begun g c =
    let none : length c.next_line.new.line.items ≡ 0 = grind (arith, c.if-is_empty.true, c.is_empty.ensures) in
    stops_at_end c.args.look _ _ _ _ _ c.loop-lines.showing _ c.loop-lines.invariant.going (at_end _ _ c.in-Ok.ensures.bytes none) c.in_err-show_closing.ensures.err

pub returns-then-is_empty-clause-whole : goal.returns-then-is_empty-clause-whole
returns-then-is_empty-clause-whole g c =
    let none : length c.next_line.new.line.items ≡ 0 = grind (arith, c.if-is_empty.true, c.is_empty.ensures) in
    ends c.args.look _ _ _ _ _ c.loop-lines.showing _ c.loop-lines.invariant.going (at_end (g.R.LinesIn.left c.loop-lines.reader) _ c.in-Ok.ensures.bytes none) c.in_ok-show_closing.ensures.ok

pub returns-then-is_empty-clause-begun : goal.returns-then-is_empty-clause-begun
returns-then-is_empty-clause-begun g c =
    let none : length c.next_line.new.line.items ≡ 0 = grind (arith, c.if-is_empty.true, c.is_empty.ensures) in
    stops_at_end c.args.look _ _ _ _ _ c.loop-lines.showing _ c.loop-lines.invariant.going (at_end (g.R.LinesIn.left c.loop-lines.reader) _ c.in-Ok.ensures.bytes none)
    (whole_front (g.W.BytesOut.taken c.loop-lines.writer) (g.W.BytesOut.taken c.show_closing.new.writer) (closing c.args.look c.loop-lines.showing) c.in_ok-show_closing.ensures.ok)
