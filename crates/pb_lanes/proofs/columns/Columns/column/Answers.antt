use Rattle.std.proofs.Common.{ap, ◌∙◌, length}
use Rattle.pb_lanes.specs.ColumnsOf.{hosts_in}
use Rattle.pb_lanes.specs.declared.kind.CountKind.TheVariants.{Changed, Unreachable, Failed, Skipped, Rescued, Ignored}
use Rattle.pb_lanes.proofs.columns.Columns.column.Goals as goal

pub returns-in-Changed-clause-width : goal.returns-in-Changed-clause-width
returns-in-Changed-clause-width c = ap length c.as_slice-in-Changed.ensures.value ∙ c.self.invariant.each Changed ∙ ap hosts_in c.self.view_is

pub returns-in-Unreachable-clause-width : goal.returns-in-Unreachable-clause-width
returns-in-Unreachable-clause-width c = ap length c.as_slice-in-Unreachable.ensures.value ∙ c.self.invariant.each Unreachable ∙ ap hosts_in c.self.view_is

pub returns-in-Failed-clause-width : goal.returns-in-Failed-clause-width
returns-in-Failed-clause-width c = ap length c.as_slice-in-Failed.ensures.value ∙ c.self.invariant.each Failed ∙ ap hosts_in c.self.view_is

pub returns-in-Skipped-clause-width : goal.returns-in-Skipped-clause-width
returns-in-Skipped-clause-width c = ap length c.as_slice-in-Skipped.ensures.value ∙ c.self.invariant.each Skipped ∙ ap hosts_in c.self.view_is

pub returns-in-Rescued-clause-width : goal.returns-in-Rescued-clause-width
returns-in-Rescued-clause-width c = ap length c.as_slice-in-Rescued.ensures.value ∙ c.self.invariant.each Rescued ∙ ap hosts_in c.self.view_is

pub returns-in-Ignored-clause-width : goal.returns-in-Ignored-clause-width
returns-in-Ignored-clause-width c = ap length c.as_slice-in-Ignored.ensures.value ∙ c.self.invariant.each Ignored ∙ ap hosts_in c.self.view_is
