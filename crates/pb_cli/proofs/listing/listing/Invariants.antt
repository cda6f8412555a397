use Rattle.std.proofs.Common.{◌≡◌, ◌++◌, drop, string_bytes}
use Rattle.pb_cli.specs.Listing.{plays_from, listing}
use Rattle.pb_cli.proofs.listing.listing.Given as goal

abbrev pub invariant-loop-number : goal.invariant-loop-number
invariant-loop-number l = string_bytes l.text ++ plays_from l.plan.inventory.hosts l.number (drop l.number l.plan.plays) ≡ listing l.plan
