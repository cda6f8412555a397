-- What is said of a fault of a bundle.
use Rattle.std.proofs.Common.{◌≡◌, Bool, Result, Ok, Err, inl, inr}
use Rattle.std.specs.Prelude.{IfOk, OnErr, String, string_bytes}
use Rattle.pb_planning.specs.declared.bundle.BundleFault.{BundleFault}
use Rattle.pb_cli.specs.Messages.{IsBundleMessage, IsBundleReported}
use Rattle.pb_cli.specs.World.{Stream, IsPut}

-- its text was written, or memory was refused for it
pub bundle_reported : {Z E : Type 0} (places : Bool) (fault : BundleFault) (line : Result (String Z) E) (before after : Stream)
    → IfOk line (λ text. IsBundleMessage places fault (string_bytes text)) → IfOk line (λ text. IsPut (string_bytes text) before after) → OnErr line (after.taken ≡ before.taken)
    → IsBundleReported places fault before after
bundle_reported places fault (Ok text) before after is put quiet = inl (string_bytes text, is, put)
bundle_reported places fault (Err e) before after is put quiet = inr quiet
