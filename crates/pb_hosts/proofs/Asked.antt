-- What is kept beside the rows: it stays right as rows change.
use Rattle.std.proofs.Common.{◌≡◌, ℕ, zero, suc, ◌+◌, ◌≤◌, Bool, true, false, ◌&&◌, not, List, [], ◌∷◌, length, map, refl, sym, ◌∙◌, ap, subst, arith}
use Rattle.std.specs.Prelude.{Option, Some, None, option_map, slice_get, slice_set, replicate}
use Rattle.std.specs.Option.{option_map_or}
use Rattle.std.specs.Simd.Lanes.{zip2}
use Rattle.std.proofs.lemmas.List.{length-map}
use Rattle.pb_ids.specs.declared.numbers.HostNo.{HostNo}
use Rattle.pb_ids.specs.declared.numbers.Ticket.{Ticket}
use Rattle.pb_strategies.specs.declared.standings.Standing.{Standing}
use Rattle.pb_strategies.specs.Hosts.{nowhere}
use Rattle.pb_host.specs.Host.{HostOf, first_row, first_rows, is_play_host, is_waiting, as_play_begins, left, sent}
use Rattle.pb_host.specs.FromTaskVars.{DelegatedFacts}
use Rattle.pb_host.specs.Runs.{has_send}
use Rattle.pb_hosts.specs.Hosts.{at_row, change}
use Rattle.pb_hosts.specs.Giving.{takes, with_delegated}
use Rattle.pb_host.specs.Standing.{standing}
use Rattle.pb_hosts.specs.Due.{asked_at, is_inside, IsOutside, AreOutside, IsDue}
use Rattle.pb_hosts.specs.Oldest.{all_out, ticket_of, with_job, without_job}
use Rattle.pb_hosts.proofs.Batching.{waiting_called}
use Rattle.pb_hosts.proofs.Giving.{map_same, given_map}
use Rattle.pb_hosts.proofs.Outside.{out_changed, sent_out, given_column, given_out, out_first}
use Rattle.pb_hosts.proofs.TicketOrder.{first_order, quiet_order, sent_order}

-- a list that says something of each host is as long as the rows
pub width_is : {A : Type 0} (of : HostOf → A) (rows : List HostOf) (column : List A) → column ≡ map of rows → length column ≡ length rows
width_is of rows column e = ap length e ∙ length-map rows of

pub mapped_width : {A : Type 0} (of : HostOf → A) (f : HostOf → HostOf) (rows new : List HostOf) (column : List A) → column ≡ map of rows → new ≡ map f rows → length column ≡ length new
mapped_width of f rows new column e n = width_is of rows column e ∙ sym (ap length n ∙ length-map rows f)

pub set_past : (set : List Bool) (h : ℕ) (b : Bool) → length set ≤ h → slice_set set h b ≡ set
set_past [] zero b e = refl
set_past [] (suc h) b e = refl
set_past (x ∷ set) zero b e = absurd (omega (arith, e))
set_past (x ∷ set) (suc h) b e = ap (λ rest. x ∷ rest) (set_past set h b (omega (arith, e)))

-- one host's row changed, and was asked anew
changed_on : (row : HostOf) (rows : List HostOf) (h : ℕ) (f : HostOf → HostOf) → change (row ∷ rows) (suc h) f ≡ row ∷ change rows h f
changed_on row rows h f = by_found (slice_get rows h)
  where
    by_found : (found : Option HostOf) → option_map_or (λ (r : HostOf). slice_set (row ∷ rows) (suc h) (f r)) found (row ∷ rows) ≡ row ∷ option_map_or (λ (r : HostOf). slice_set rows h (f r)) found rows
    by_found None = refl
    by_found (Some r) = refl

pub asked_on : {A : Type 0} (of : HostOf → A) (row : HostOf) (rows : List HostOf) (h : ℕ) (b : A) (column : List A) → asked_at of (row ∷ rows) (suc h) (b ∷ column) ≡ b ∷ asked_at of rows h column
asked_on {A} of row rows h b column = by_found (slice_get rows h)
  where
    by_found : (found : Option HostOf) → option_map_or (λ (r : HostOf). slice_set (b ∷ column) (suc h) (of r)) found (b ∷ column) ≡ b ∷ option_map_or (λ (r : HostOf). slice_set column h (of r)) found column
    by_found None = refl
    by_found (Some r) = refl

asked_changed : {A : Type 0} (of : HostOf → A) (f : HostOf → HostOf) (rows : List HostOf) (h : ℕ) → asked_at of (change rows h f) h (map of rows) ≡ map of (change rows h f)
asked_changed of f [] h = refl
asked_changed of f (row ∷ rows) zero = refl
asked_changed of f (row ∷ rows) (suc h) =
    ap (λ (all : List HostOf). asked_at of all (suc h) (of row ∷ map of rows)) (changed_on row rows h f)
    ∙ asked_on of row (change rows h f) h (of row) (map of rows)
    ∙ ap (λ rest. of row ∷ rest) (asked_changed of f rows h)
    ∙ ap (map of) (sym (changed_on row rows h f))

one_asked : {A : Type 0} (of : HostOf → A) (f : HostOf → HostOf) (h : ℕ) (column new_column : List A) (rows new : List HostOf) → column ≡ map of rows → new ≡ change rows h f → new_column ≡ asked_at of new h column → new_column ≡ map of new
one_asked of f h column new_column rows new e n t =
    t ∙ ap (asked_at of new h) e
    ∙ ap (λ (all : List HostOf). asked_at of all h (map of rows)) n
    ∙ asked_changed of f rows h
    ∙ ap (map of) (sym n)

pub sent_due : (ticket : Ticket) (host : HostNo) (sends new_sends : List Bool) (standings new_standings : List Standing) (batch awaits_batch : List Bool) (jobs new_jobs : List (HostNo × Ticket)) (rows new : List HostOf) → at_row has_send rows host.0 ≡ true
    → IsDue sends standings batch awaits_batch jobs rows → new ≡ change rows host.0 (sent ticket) → new_sends ≡ asked_at has_send new host.0 sends → new_standings ≡ asked_at standing new host.0 standings → new_jobs ≡ with_job (host, ticket) jobs
    → IsDue new_sends new_standings batch awaits_batch new_jobs new
sent_due ticket host sends new_sends standings new_standings batch awaits_batch jobs new_jobs rows new w due n s t o =
    record {
      sending = one_asked has_send (sent ticket) host.0 sends new_sends rows new due.sending n s;
      stands = one_asked standing (sent ticket) host.0 standings new_standings rows new due.stands n t;
      insiders = due.insiders ∙ sym (ap (map is_inside) n ∙ map_same is_inside (sent ticket) (λ row. refl) rows host.0);
      waiting = due.waiting ∙ sym (ap (map is_waiting) n ∙ map_same is_waiting (sent ticket) (λ row. refl) rows host.0);
      outsiders = subst AreOutside (sym n) (out_changed (sent ticket) host.0 rows (λ row at out. sent_out ticket row out) due.outsiders);
      in_order = sent_order ticket host jobs new_jobs rows new w due.in_order n o;
    }

-- what hosts are given changes nothing of it
asked_of : {A : Type 0} (of : HostOf → A) (rows : List HostOf) (h : ℕ) (column : List A) → asked_at of rows h column ≡ option_map_or (slice_set column h) (option_map of (slice_get rows h)) column
asked_of {A} of rows h column = by_found (slice_get rows h)
  where
    by_found : (found : Option HostOf) → option_map_or (λ (r : HostOf). slice_set column h (of r)) found column ≡ option_map_or (slice_set column h) (option_map of found) column
    by_found None = refl
    by_found (Some row) = refl

of_changed : {A : Type 0} (of : HostOf → A) (f : HostOf → HostOf) → ((row : HostOf) → of (f row) ≡ of row) → (rows : List HostOf) (k h : ℕ) → option_map of (slice_get (change rows k f) h) ≡ option_map of (slice_get rows h)
of_changed of f same [] k h = refl
of_changed of f same (row ∷ rows) zero zero = ap Some (same row)
of_changed of f same (row ∷ rows) zero (suc h) = refl
of_changed of f same (row ∷ rows) (suc k) zero = rw (changed_on row rows k f) refl
of_changed of f same (row ∷ rows) (suc k) (suc h) = rw (changed_on row rows k f) (of_changed of f same rows k h)

asked_given : {A : Type 0} (of : HostOf → A) → ((gift : DelegatedFacts) (row : HostOf) → of (takes gift row) ≡ of row) → (gifts : List DelegatedFacts) (rows : List HostOf) (h : ℕ) (column : List A) → asked_at of (with_delegated gifts rows) h column ≡ asked_at of rows h column
asked_given of same [] rows h column = refl
asked_given of same (gift ∷ gifts) rows h column =
    asked_given of same gifts (change rows gift.host.0 (takes gift)) h column
    ∙ asked_of of (change rows gift.host.0 (takes gift)) h column
    ∙ ap (λ found. option_map_or (slice_set column h) found column) (of_changed of (takes gift) (same gift) rows gift.host.0 h)
    ∙ sym (asked_of of rows h column)

one_given : {A : Type 0} (of : HostOf → A) → ((gift : DelegatedFacts) (row : HostOf) → of (takes gift row) ≡ of row) → (gifts : List DelegatedFacts) (f : HostOf → HostOf) (h : ℕ) (column new_column : List A) (rows new : List HostOf) → column ≡ map of rows
    → new ≡ with_delegated gifts (change rows h f) → new_column ≡ asked_at of new h column → new_column ≡ map of new
one_given of same gifts f h column new_column rows new e n t =
    t ∙ ap (λ (all : List HostOf). asked_at of all h column) n
    ∙ asked_given of same gifts (change rows h f) h column
    ∙ ap (asked_at of (change rows h f) h) e
    ∙ asked_changed of f rows h
    ∙ sym (given_map of same gifts (change rows h f))
    ∙ ap (map of) (sym n)

-- and a host whose task started or went on has no job that is out
pub given_due : (gifts : List DelegatedFacts) (f : HostOf → HostOf) → ((row : HostOf) → ticket_of (f row) ≡ None) → ((row : HostOf) → is_inside (f row) ≡ is_inside row) → ((row : HostOf) → is_waiting (f row) ≡ is_waiting row) → (h : ℕ) (sends new_sends : List Bool) (standings new_standings : List Standing) (batch awaits_batch : List Bool)
    (jobs new_jobs : List (HostNo × Ticket)) (rows new : List HostOf) → ((row : HostOf) → slice_get rows h ≡ Some row → IsOutside row → IsOutside (f row)) → IsDue sends standings batch awaits_batch jobs rows → new ≡ with_delegated gifts (change rows h f) → new_sends ≡ asked_at has_send new h sends → new_standings ≡ asked_at standing new h standings → new_jobs ≡ without_job h jobs
    → IsDue new_sends new_standings batch awaits_batch new_jobs new
given_due gifts f none same stays h sends new_sends standings new_standings batch awaits_batch jobs new_jobs rows new keeps due n s t o =
    record {
      sending = one_given has_send (λ gift row. refl) gifts f h sends new_sends rows new due.sending n s;
      stands = one_given standing (λ gift row. refl) gifts f h standings new_standings rows new due.stands n t;
      insiders = given_column is_inside (λ gift row. refl) gifts f same h batch rows new due.insiders n;
      waiting = given_column is_waiting (λ gift row. refl) gifts f stays h awaits_batch rows new due.waiting n;
      outsiders = given_out gifts f h rows new keeps due.outsiders n;
      in_order = quiet_order gifts f none h jobs new_jobs rows new due.in_order n o;
    }

-- as a play begins those of its own hosts wait that are active, and those that are in a batch stay in it
called_inside : (hosts : List Bool) (rows : List HostOf) → map is_inside (map (as_play_begins hosts) rows) ≡ map is_inside rows
called_inside hosts [] = refl
called_inside hosts (row ∷ rows) = ap (λ (rest : List Bool). row.in_batch ∷ rest) (called_inside hosts rows)

pub inside_called : (hosts batch : List Bool) (rows new : List HostOf) → batch ≡ map is_inside rows → new ≡ map (as_play_begins hosts) rows → batch ≡ map is_inside new
inside_called hosts batch rows new e n = e ∙ sym (called_inside hosts rows) ∙ ap (map is_inside) (sym n)

pub waits_play_hosts : (hosts calls : List Bool) (rows new : List HostOf) → calls ≡ map (is_play_host hosts) rows → new ≡ map (as_play_begins hosts) rows → calls ≡ map is_waiting new
waits_play_hosts hosts calls rows new e n = e ∙ sym (waiting_called hosts rows) ∙ ap (map is_waiting) (sym n)

-- a host of the batch waits no more once it closes
left_waits : (rows : List HostOf) → zip2 (λ (a b : Bool). a && not b) (map is_waiting rows) (map is_inside rows) ≡ map is_waiting (map left rows)
left_waits [] = refl
left_waits (row ∷ rows) = ap (λ (rest : List Bool). (row.awaits_batch && not row.in_batch) ∷ rest) (left_waits rows)

pub waits_left : (awaits_batch batch column : List Bool) (rows new : List HostOf) → awaits_batch ≡ map is_waiting rows → batch ≡ map is_inside rows → column ≡ zip2 (λ (a b : Bool). a && not b) awaits_batch batch → new ≡ map left rows → column ≡ map is_waiting new
waits_left awaits_batch batch column rows new w b t n =
    t ∙ ap (λ (set : List Bool). zip2 (λ (a b : Bool). a && not b) set batch) w
    ∙ ap (zip2 (λ (a b : Bool). a && not b) (map is_waiting rows)) b
    ∙ left_waits rows
    ∙ ap (map is_waiting) (sym n)

-- before the run nobody has a job to send, is in a batch or waits for one
first_none : (of : HostOf → Bool) → ((h : ℕ) → of (first_row h) ≡ false) → (h n : ℕ) → replicate n false ≡ map of (first_rows h n)
first_none of off h zero = refl
first_none of off h (suc n) = ap (λ (b : Bool). b ∷ replicate n false) (sym (off h)) ∙ ap (λ (rest : List Bool). of (first_row h) ∷ rest) (first_none of off (h + 1) n)

first_stand : (h n : ℕ) → replicate n nowhere ≡ map standing (first_rows h n)
first_stand h zero = refl
first_stand h (suc n) = ap (λ (rest : List Standing). nowhere ∷ rest) (first_stand (h + 1) n)

pub first_due : (n : ℕ) (sends : List Bool) (standings : List Standing) (batch awaits_batch : List Bool) (jobs : List (HostNo × Ticket)) (rows : List HostOf) → sends ≡ replicate n false → standings ≡ replicate n nowhere → batch ≡ replicate n false → awaits_batch ≡ replicate n false → jobs ≡ []
    → rows ≡ first_rows 0 n → IsDue sends standings batch awaits_batch jobs rows
first_due n sends standings batch awaits_batch jobs rows s t b w o e =
    record {
      sending = s ∙ first_none has_send (λ h. refl) 0 n ∙ ap (map has_send) (sym e);
      stands = t ∙ first_stand 0 n ∙ ap (map standing) (sym e);
      insiders = b ∙ first_none is_inside (λ h. refl) 0 n ∙ ap (map is_inside) (sym e);
      waiting = w ∙ first_none is_waiting (λ h. refl) 0 n ∙ ap (map is_waiting) (sym e);
      outsiders = subst AreOutside (sym e) (out_first 0 n);
      in_order = o ∙ sym (first_order 0 0 n) ∙ ap all_out (sym e);
    }
