use Rattle.std.proofs.Common.{◌∙◌}
use Rattle.pb_value.specs.Datum.{named}
use Rattle.pb_facts.proofs.Applying.{gathered_in_place, undo_in_place, between_in_place}
use Rattle.pb_facts.proofs.facts.Facts.put_gathered.Goals as goal

pub returns-clause-ok : goal.returns-clause-ok
returns-clause-ok c =
    gathered_in_place c.self.inside.layer c.replace-before.new.dest c.self.inside.set c.put_entries.new.set (named c.args.more.items) (named c.args.given.items) c.args.self.now c.self.view_is
    (c.replace-before.ensures.after ∙ c.in_ok-layer.ensures.facts)
    c.in_ok-stood.ensures.ok

pub returns-clause-past : goal.returns-clause-past
returns-clause-past c =
    undo_in_place c.in_ok-stood.stood c.in_ok-layer.facts c.self.inside.layer c.replace-before.result c.replace-before.new.dest c.self.inside.set c.put_entries.new.set c.args.self.now c.self.view_is
    c.replace-before.ensures.value c.in_ok-stood.ensures.log

pub returns-clause-between : goal.returns-clause-between
returns-clause-between c =
    between_in_place c.in_ok-stood.stood c.in_ok-layer.facts c.self.inside.layer c.replace-before.result c.in_ok-layer.layer c.replace-before.new.dest c.self.inside.set c.put_entries.new.set c.args.self.now c.self.view_is
    c.replace-before.ensures.after c.names_are_ordered.ensures c.in_ok-stood.ensures.log c.in_ok-layer.ensures.log
