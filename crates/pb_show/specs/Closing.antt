-- What stands behind all lines: how the run went.
use Rattle.std.specs.Prelude.{ℕ, nat_eq, nat_lt, ◌&&◌, List, [], ◌∷◌, ◌++◌, Option, Some, None, codes, decimal, if◌then◌else◌}
use Rattle.pb_show.specs.Escaped.{escaped}
use Rattle.pb_show.specs.Results.{paint, unpaint}
use Rattle.pb_show.specs.declared.ended.Ending.{Ending}
use Rattle.pb_show.specs.declared.ended.Ending.TheVariants.{Well, Failed}
use Rattle.pb_show.specs.declared.look.Look.{Look}
use Rattle.pb_show.specs.declared.showing.Failure.{Failure}
use Rattle.pb_show.specs.declared.showing.Phase.{Phase}
use Rattle.pb_show.specs.declared.showing.Phase.TheVariants.{Nothing, Going, Over}
use Rattle.pb_show.specs.declared.showing.Showing.{Showing}
use Rattle.pb_show.specs.declared.notices.Totals.{Totals}

-- a number of hosts in decimal, with the word for them: `1 host`, and `hosts` behind any other number
abbrev pub hosts_text : ℕ → List ℕ
hosts_text n = decimal n ++ (if nat_eq n 1 then codes " host" else codes " hosts")

-- the first failure that wasn't ignored, if there was one
abbrev pub first_text : Option Failure → List ℕ
first_text None = []
first_text (Some f) = codes ", first failure: [" ++ escaped f.host ++ codes "] in [" ++ escaped f.task ++ codes "]"

-- how many hosts failed, and the first failure, if there was one; nothing where no host failed
abbrev pub failed_text : ℕ → Option Failure → List ℕ
failed_text failed first = if nat_eq failed 0 then [] else hosts_text failed ++ codes " failed" ++ first_text first

-- how many hosts were out of reach; nothing where none was
abbrev pub lost_text : ℕ → List ℕ
lost_text lost = if nat_eq lost 0 then [] else hosts_text lost ++ codes " out of reach"

-- what stands between the text of failed hosts and that of hosts out of reach, where there are both; else nothing
abbrev pub between : Totals → List ℕ
between t = if nat_lt 0 t.failed && nat_lt 0 t.unreachable then codes "; " else []

-- a run that has its statistics
abbrev pub over_text : Totals → Option Failure → List ℕ
over_text t first =
    if nat_eq t.failed 0 && nat_eq t.unreachable 0 then codes "all well: " ++ hosts_text t.hosts
    else failed_text t.failed first ++ between t ++ lost_text t.unreachable

unfoldable pub stopped_text : Option Failure → List ℕ
stopped_text first = codes "the run was stopped before its end" ++ first_text first

-- how the run went; nothing where no event was shown
abbrev pub outcome_text : Phase → Option Failure → List ℕ
outcome_text Nothing first = []
outcome_text Going first = stopped_text first
outcome_text (Over t) first = over_text t first

-- the ending in whose colour the outcome is shown: well where statistics tell of no host that failed or was out of reach, else failed
abbrev pub ending_at : Phase → Ending
ending_at Nothing = Failed
ending_at Going = Failed
ending_at (Over t) = if nat_eq t.failed 0 && nat_eq t.unreachable 0 then Well else Failed

unfoldable pub outcome_line : Look → Phase → Option Failure → List ℕ
outcome_line look phase first = 10 ∷ [] ++ paint look (ending_at phase) ++ outcome_text phase first ++ unpaint look ++ 10 ∷ []

-- nothing where no event was shown
abbrev pub closing_line : Look → Phase → Option Failure → List ℕ
closing_line look Nothing first = []
closing_line look Going first = outcome_line look Going first
closing_line look (Over t) first = outcome_line look (Over t) first

-- a line end first, where the last line lacks its own
abbrev pub closing : Look → Showing → List ℕ
closing look s = (if s.is_torn then 10 ∷ [] else []) ++ closing_line look s.phase s.first
