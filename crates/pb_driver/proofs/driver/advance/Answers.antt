use Rattle.std.proofs.Common.{subst}
use Rattle.pb_engine.specs.Choice.{NextIs}
use Rattle.pb_engine.specs.declared.engine.Next.{Next}
use Rattle.pb_driver.proofs.Crewing.{has_sent, since_moved}
use Rattle.pb_driver.proofs.Driving.{moves_sent}
use Rattle.pb_driver.proofs.Going.{along_sent, along_moved}
use Rattle.pb_driver.proofs.driver.advance.Goals as goal

pub send-requires : goal.send-requires
send-requires g c =
    let sent = subst (λ (n : Next). NextIs g.P.Picker.picks c.args.picker.now c.next.new.picker c.args.engine.now c.next.new.self n) c.in-Sent.is c.in_ok-next.ensures.value in
    has_sent g.P.Picker.picks c.args.picker.now c.next.new.picker (g.C.Crew.fits c.args.crew.now c.args.hand.now) c.args.engine.now c.next.new.self c.in-Sent.job sent c.requires

pub returns-in-Sent-clause-took : goal.returns-in-Sent-clause-took
returns-in-Sent-clause-took g c =
    let sent = subst (λ (n : Next). NextIs g.P.Picker.picks c.args.picker.now c.next.new.picker c.args.engine.now c.next.new.self n) c.in-Sent.is c.in_ok-next.ensures.value in
    λ same. moves_sent g.P.Picker.picks c.args.picker.now c.next.new.picker (g.C.Crew.answers c.args.crew.now) c.args.engine.now c.next.new.self c.in-Sent.job sent

pub returns-in-Sent-clause-went : goal.returns-in-Sent-clause-went
returns-in-Sent-clause-went g c =
    let sent = subst (λ (n : Next). NextIs g.P.Picker.picks c.args.picker.now c.next.new.picker c.args.engine.now c.next.new.self n) c.in-Sent.is c.in_ok-next.ensures.value in
    along_sent g.C.Crew.went g.P.Picker.picks c.args.picker.now c.next.new.picker c.args.engine.now c.next.new.self c.args.hand.now c.send.new.hand c.in-Sent.job g.met.C.Crew.went_more c.requires.run sent c.send.ensures.went

pub returns-in-Moved-clause-went : goal.returns-in-Moved-clause-went
returns-in-Moved-clause-went g c =
    let moved = subst (λ (n : Next). NextIs g.P.Picker.picks c.args.picker.now c.next.new.picker c.args.engine.now c.next.new.self n) c.in-Moved.is c.in_ok-next.ensures.value in
    along_moved g.C.Crew.went g.P.Picker.picks c.args.picker.now c.next.new.picker c.args.engine.now c.next.new.self c.args.hand.now c.requires.run moved

pub returns-in-Moved-clause-since : goal.returns-in-Moved-clause-since
returns-in-Moved-clause-since g c =
    let moved = subst (λ (n : Next). NextIs g.P.Picker.picks c.args.picker.now c.next.new.picker c.args.engine.now c.next.new.self n) c.in-Moved.is c.in_ok-next.ensures.value in
    since_moved g.P.Picker.picks c.args.picker.now c.next.new.picker (g.C.Crew.fits c.args.crew.now c.args.hand.now) c.args.engine.now c.next.new.self moved c.requires c.next.ensures.run
