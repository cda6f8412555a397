use Rattle.std.proofs.Common.{◌≡◌, ◌<◌, ◌+◌, ◌++◌, ◌∷◌, ◌∙◌, ℕ, List, [], ap, get_or, length, map, sym, take}
use Rattle.std.proofs.lemmas.List.{map-append, take_more}
use Rattle.pb_host.specs.Host.{HostOf}
use Rattle.pb_host.specs.declared.host.Counts.{Counts}
use Rattle.pb_hosts.proofs.list.counts_of.Goals as goal

abbrev count : HostOf → Counts
count row = row.counts

one_more : (rows : List HostOf) (i : ℕ) (row : HostOf) (counts new : List Counts) → i < length rows → row ≡ get_or rows i row → counts ≡ map count (take i rows) → new ≡ counts ++ count row ∷ [] → new ≡ map count (take (i + 1) rows)
one_more rows i row counts new inside is before n =
    n
    ∙ ap (λ (cs : List Counts). cs ++ count row ∷ []) before
    ∙ sym (ap (map count) (take_more rows i row inside) ∙ map-append count (take i rows) (get_or rows i row ∷ []) ∙ ap (λ (r : HostOf). map count (take i rows) ++ count r ∷ []) (sym is))

pub loop-row-preserved : goal.loop-row-preserved
loop-row-preserved c =
    one_more c.args.rows.now c.loop-row.row-index c.row-item.result c.loop-row.counts.items c.push.new.self.items c.loop-row-test.true c.row-item.is c.loop-row.invariant
    (c.in_ok-push.ensures.items ∙ ap (λ (n : Counts). c.loop-row.counts.items ++ n ∷ []) c.counts.ensures)
