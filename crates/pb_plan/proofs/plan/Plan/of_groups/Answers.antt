use Rattle.pb_plan.proofs.plan.Plan.of_groups.Goals as goal

pub of_groups-requires-clause-kept : goal.of_groups-requires-clause-kept
of_groups-requires-clause-kept c = c.self.invariant.3
