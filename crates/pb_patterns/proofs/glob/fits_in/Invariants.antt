use Rattle.std.proofs.Common.{◌-◌, length, drop}
use Rattle.pb_patterns.specs.Fitting.{IsRow}
use Rattle.pb_patterns.proofs.glob.fits_in.Given as goal

abbrev pub invariant-loop-back : goal.invariant-loop-back
invariant-loop-back l = IsRow l.pattern (drop (length l.name - l.back) l.name) l.row
