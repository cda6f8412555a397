-- The row of one host that was looked up.
use Rattle.std.proofs.Common.{◌≡◌, ◌∙◌, ℕ, ◌<◌, List, length, refl, sym, ap, get_or}
use Rattle.std.specs.Prelude.{Option, Some, slice_get}
use Rattle.std.proofs.lemmas.Option.{slice_get_read}
use Rattle.pb_host.specs.Host.{HostOf}

pub there : (rows : List HostOf) (h : ℕ) (row : HostOf) → h < length rows → row ≡ get_or rows h row → slice_get rows h ≡ Some row
there rows h row inside is = slice_get_read rows (length rows) h row refl inside is

-- what is asked of the host's row
pub asked : {A : Type 0} (f : Option HostOf → A) (rows now : List HostOf) (h : ℕ) (row : HostOf) → slice_get rows h ≡ Some row → rows ≡ now → f (Some row) ≡ f (slice_get now h)
asked f rows now h row e same = ap f (sym e ∙ ap (λ (all : List HostOf). slice_get all h) same)
