use Rattle.std.proofs.Common.{◌≡◌, ◌++◌, List, Option, ℕ, map, reverse, ap, ◌∙◌}
use Rattle.std.proofs.lemmas.List.Elements.{All-same}
use Rattle.pb_cli.specs.Hired.{facts_of, launcher_of}
use Rattle.pb_cli.proofs.Hiring.{all_back, back_of, hired_cut, hired_of, hired_run, runners_many}
use Rattle.pb_cli.proofs.workers.run_hired.Goals as goal

pub returns-clause-run : goal.returns-clause-run
returns-clause-run g c =
    let all = c.args.launchers.now.items in
    let facts = c.args.wanted.now.facts_program in
    let hired = c.pair.new.runners.items in
    let after = c.run_workers-ran.new.runners.items in
    let queue = c.pair.new.queue.items in
    let out = hired_of all queue (map launcher_of hired) (c.pair.ensures.launchers ∙ c.pour.ensures.to ∙ ap (λ l. l ++ reverse all) c.requires.room.0.0) in
    let back = back_of c.pour-2.new.to.items queue (map launcher_of after) (c.pour-2.ensures.to ∙ ap (λ l. l ++ reverse c.part.new.queue.items) c.pour.ensures.from ∙ ap reverse c.part.ensures) in
    let same = All-same (λ (f : Option (List ℕ)). f ≡ facts) (map facts_of hired) (reverse c.args.staff.facts.items) c.pair.ensures.facts (all_back (λ (f : Option (List ℕ)). f ≡ facts) c.args.staff.facts.items c.requires.room.3) in
    hired_run g.L.Launcher.launched c.run_workers-ran.result c.args.plan c.args.wanted.now.stop_after facts hired after (reverse queue) all c.pour-2.new.to.items _ _ out back (runners_many hired c.args.staff.facts.items c.pair.ensures.facts ∙ c.requires.room.2) same c.run_workers-ran.ensures.run c.run_workers-ran.ensures.spread

pub returns-clause-cut : goal.returns-clause-cut
returns-clause-cut g c =
    let all = c.args.launchers.now.items in
    let facts = c.args.wanted.now.facts_program in
    let hired = c.pair.new.runners.items in
    let after = c.run_workers-ran.new.runners.items in
    let queue = c.pair.new.queue.items in
    let out = hired_of all queue (map launcher_of hired) (c.pair.ensures.launchers ∙ c.pour.ensures.to ∙ ap (λ l. l ++ reverse all) c.requires.room.0.0) in
    let back = back_of c.pour-2.new.to.items queue (map launcher_of after) (c.pour-2.ensures.to ∙ ap (λ l. l ++ reverse c.part.new.queue.items) c.pour.ensures.from ∙ ap reverse c.part.ensures) in
    let same = All-same (λ (f : Option (List ℕ)). f ≡ facts) (map facts_of hired) (reverse c.args.staff.facts.items) c.pair.ensures.facts (all_back (λ (f : Option (List ℕ)). f ≡ facts) c.args.staff.facts.items c.requires.room.3) in
    hired_cut g.L.Launcher.launched c.run_workers-ran.result c.args.plan c.args.wanted.now.stop_after facts hired after (reverse queue) all c.pour-2.new.to.items _ _ out back (runners_many hired c.args.staff.facts.items c.pair.ensures.facts ∙ c.requires.room.2) same c.run_workers-ran.ensures.cut c.run_workers-ran.ensures.later c.run_workers-ran.ensures.closed
