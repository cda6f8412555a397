-- A turn, in its parts: what hosts of the batch learn, one after another, and what is done to each of them then. Hosts outside of the batch stay as they are.
use Rattle.std.proofs.Common.{◌≡◌, ℕ, zero, suc, ◌+◌, Bool, true, false, ◌&&◌, ◌||◌, not, List, [], ◌∷◌, ◌++◌, length, map, drop, replicate, Bor, refl, sym, ◌∙◌, ap, subst, arith}
use Rattle.std.specs.Prelude.{Option, Some, None, IfSome, is_some, slice_get, if◌then◌else◌}
use Rattle.std.specs.List.{list_any}
use Rattle.std.specs.Option.{option_copied, option_map_or}
use Rattle.std.proofs.lemmas.List.{length-map}
use Rattle.pb_ids.specs.declared.numbers.HostNo.{HostNo}
use Rattle.pb_ids.specs.declared.numbers.Ticket.{Ticket}
use Rattle.pb_planes.specs.Set.{IsNextFrom, HasNoneFrom}
use Rattle.pb_facts.specs.Update.{applied}
use Rattle.pb_facts.specs.Facts.{FactsOf}
use Rattle.pb_facts.specs.declared.update.FactsUndo.{FactsUndo}
use Rattle.pb_facts.specs.declared.update.FactsUpdate.{FactsUpdate}
use Rattle.pb_inventory.specs.InventoryOf.{InventoryOf}
use Rattle.pb_host.specs.FromPlan.{PlayOf}
use Rattle.pb_strategies.specs.declared.standings.Standing.{Standing}
use Rattle.pb_strategies.specs.Hosts.{nowhere}
use Rattle.pb_tree.specs.Answer.{AnswerOf}
use Rattle.pb_tree.specs.declared.answer.Kind.{Kind}
use Rattle.pb_tree.specs.declared.answer.Kind.TheVariants as kinds
use Rattle.pb_host.specs.declared.host.LastTask.{LastTask}
use Rattle.pb_host.specs.Ends.{plain_answer}
use Rattle.pb_host.specs.Host.{HostOf, answered, is_active, is_at, is_waiting, knows, left}
use Rattle.pb_host.specs.Runs.{has_send}
use Rattle.pb_host.specs.Standing.{standing}
use Rattle.pb_host.specs.Turned.{applies, answer_copied, with_answer, may_be_halted, halted_if}
use Rattle.pb_hosts.specs.declared.turned.HostUpdate.{HostUpdate}
use Rattle.pb_hosts.specs.declared.turned.Turning.{Turning}
use Rattle.pb_hosts.specs.Applied.{LeadsTo, LearnInTurn, learnt_in, with_update}
use Rattle.pb_hosts.specs.Hosts.{at_row, change}
use Rattle.pb_hosts.specs.Turn.{with_copy, ends_run_once_at, has_done_run_once, run_once_host, ends_fatally, has_ended_fatally}
use Rattle.pb_hosts.specs.TurnMade.{copy_applied, turning_row}
use Rattle.pb_hosts.specs.Due.{is_inside, IsOutside, AreOutside, IsDue}
use Rattle.pb_hosts.specs.Oldest.{ticket_of, out_from}
use Rattle.pb_hosts.proofs.Applying.{update_more}
use Rattle.pb_hosts.proofs.Giving.{change_on, map_same}
use Rattle.pb_hosts.proofs.InTurn.{log_learns}
use Rattle.pb_hosts.proofs.Members.{part, Spares, part_skip, at_none, copy_none, reached, finished}
use Rattle.pb_hosts.proofs.Outside.{out_changed, out_mapped, next_none}

-- ---- hosts outside of the batch
pub applied_spares : (inventory : InventoryOf) (play : PlayOf) (p : ℕ) (from : Option HostOf) → Spares (copy_applied inventory play p from)
applied_spares inventory play p from row out e = ap (λ (r : HostOf). knows r.facts row) (copy_none inventory play p from row e)

answer_none : (p : ℕ) (caught : Bool) (row : HostOf) (kind : Option Kind) → row.in_batch ≡ false → with_answer p kind caught row ≡ row
answer_none p caught row None e = refl
answer_none p caught row (Some kind) e = ap (λ (b : Bool). if b then answer_copied kind caught row else row) (at_none p row e)

and_false : (a : Bool) → (a && false) ≡ false
and_false true = refl
and_false false = refl

halt_none : (halts : Bool) (row : HostOf) → row.in_batch ≡ false → halted_if halts row ≡ row
halt_none true row e =
    let kept : may_be_halted row ≡ false = ap (λ (next : Option ℕ). is_active row.status && not row.is_broken && is_some next) (next_none row e) ∙ and_false (is_active row.status && not row.is_broken) in
    ap (λ (b : Bool). if b then answered (plain_answer kinds.Halted) row else row) kept
halt_none false row e = refl

turning_none : (t : Turning) (row : HostOf) → row.in_batch ≡ false → turning_row t row ≡ row
turning_none t row e = ap (halted_if t.halts) (answer_none t.place t.is_caught row t.kind e) ∙ halt_none t.halts row e

pub turning_spares : (t : Turning) → Spares (turning_row t)
turning_spares t row out e = turning_none t row e

-- ---- what one host more learns
part_given : (f g : HostOf → HostOf) (rows : List HostOf) (h : ℕ) → IfSome (slice_get rows h) (λ (row : HostOf). g row ≡ f row) → change (part f h rows) h g ≡ part f (suc h) rows
part_given f g [] zero e = refl
part_given f g [] (suc h) e = refl
part_given f g (row ∷ rows) zero e = ap (λ (r : HostOf). r ∷ rows) e
part_given f g (row ∷ rows) (suc h) e = change_on (f row) (part f h rows) h g ∙ ap (λ (rest : List HostOf). f row ∷ rest) (part_given f g rows h e)

applies_there : (inventory : InventoryOf) (play : PlayOf) (p : ℕ) (from : Option HostOf) (update : FactsUpdate) (found : Option HostOf) → IfSome found (λ (row : HostOf). applied update row.facts ≡ (with_copy inventory play p from row).facts)
    → IfSome found (λ (row : HostOf). applies update row ≡ copy_applied inventory play p from row)
applies_there inventory play p from update None e = tt
applies_there inventory play p from update (Some row) e = ap (λ (facts : FactsOf). knows facts row) e

pub applied_step : (inventory : InventoryOf) (play : PlayOf) (p : ℕ) (giver : Option HostOf) (rows : List HostOf) (set : List Bool) (from : ℕ) (host : HostNo) (update : FactsUpdate) (all new : List HostUpdate) → set ≡ map is_inside rows → AreOutside rows
    → IsNextFrom set from host.0 → IfSome (slice_get rows host.0) (λ (row : HostOf). applied update row.facts ≡ (with_copy inventory play p giver row).facts) → new ≡ all ++ record { host = host; update = update } ∷ []
    → with_update all rows ≡ part (copy_applied inventory play p giver) from rows → with_update new rows ≡ part (copy_applied inventory play p giver) (host.0 + 1) rows
applied_step inventory play p giver rows set from host update all new e out next here n so_far =
    let on = subst (λ (s : List Bool). IsNextFrom s from host.0) e next in
    let behind : suc host.0 ≡ host.0 + 1 = omega arith in
    ap (λ (ns : List HostUpdate). with_update ns rows) n
    ∙ update_more all (record { host = host; update = update }) rows
    ∙ ap (λ (some : List HostOf). change some host.0 (applies update)) (so_far ∙ part_skip (copy_applied inventory play p giver) (applied_spares inventory play p giver) rows out from host.0 on.0 on.2)
    ∙ part_given (copy_applied inventory play p giver) (applies update) rows host.0 (applies_there inventory play p giver update (slice_get rows host.0) here)
    ∙ ap (λ (k : ℕ). part (copy_applied inventory play p giver) k rows) behind

-- ---- what stays of the rows
update_map : {A : Type 0} (of : HostOf → A) → ((update : FactsUpdate) (row : HostOf) → of (applies update row) ≡ of row) → (all : List HostUpdate) (rows : List HostOf) → map of (with_update all rows) ≡ map of rows
update_map of same [] rows = refl
update_map of same (n ∷ all) rows = update_map of same all (change rows n.host.0 (applies n.update)) ∙ map_same of (applies n.update) (same n.update) rows n.host.0

-- an answer changes neither what the host runs nor whether it is in the batch
answer_same : {A : Type 0} (of : HostOf → A) → ((kind : Kind) (caught : Bool) (row : HostOf) → of (answer_copied kind caught row) ≡ of row) → (p : ℕ) (kind : Option Kind) (caught : Bool) (row : HostOf) → of (with_answer p kind caught row) ≡ of row
answer_same of same p None caught row = refl
answer_same of same p (Some kind) caught row = by_at (is_at p row)
  where
    by_at : (b : Bool) → of (if b then answer_copied kind caught row else row) ≡ of row
    by_at true = same kind caught row
    by_at false = refl

halt_same : {A : Type 0} (of : HostOf → A) → ((answer : AnswerOf) (row : HostOf) → of (answered answer row) ≡ of row) → (halts : Bool) (row : HostOf) → of (halted_if halts row) ≡ of row
halt_same of same true row = by_may (may_be_halted row)
  where
    by_may : (b : Bool) → of (if b then answered (plain_answer kinds.Halted) row else row) ≡ of row
    by_may true = same (plain_answer kinds.Halted) row
    by_may false = refl
halt_same of same false row = refl

turning_same : {A : Type 0} (of : HostOf → A) → ((kind : Kind) (caught : Bool) (row : HostOf) → of (answer_copied kind caught row) ≡ of row) → ((answer : AnswerOf) (row : HostOf) → of (answered answer row) ≡ of row) → (t : Turning) (row : HostOf)
    → of (turning_row t row) ≡ of row
turning_same of copies answers t row = halt_same of answers t.halts (with_answer t.place t.kind t.is_caught row) ∙ answer_same of copies t.place t.kind t.is_caught row

map_kept : {A : Type 0} (of : HostOf → A) (f : HostOf → HostOf) → ((row : HostOf) → of (f row) ≡ of row) → (rows : List HostOf) → map of (map f rows) ≡ map of rows
map_kept of f same [] = refl
map_kept of f same (row ∷ rows) = ap (λ x. x ∷ map of (map f rows)) (same row) ∙ ap (λ rest. of row ∷ rest) (map_kept of f same rows)

-- ---- what is kept beside them
update_column : {A : Type 0} (of : HostOf → A) → ((update : FactsUpdate) (row : HostOf) → of (applies update row) ≡ of row) → (all : List HostUpdate) (column : List A) (rows new : List HostOf) → column ≡ map of rows → new ≡ with_update all rows → column ≡ map of new
update_column of same all column rows new e n = e ∙ sym (update_map of same all rows) ∙ ap (map of) (sym n)

turning_column : {A : Type 0} (of : HostOf → A) → ((kind : Kind) (caught : Bool) (row : HostOf) → of (answer_copied kind caught row) ≡ of row) → ((answer : AnswerOf) (row : HostOf) → of (answered answer row) ≡ of row)
    → (t : Turning) (column : List A) (rows new : List HostOf) → column ≡ map of rows → new ≡ map (turning_row t) rows → column ≡ map of new
turning_column of copies answers t column rows new e n = e ∙ sym (map_kept of (turning_row t) (turning_same of copies answers t) rows) ∙ ap (map of) (sym n)

-- answers teach nothing
pub turning_learns : (log : List (HostNo × FactsUndo)) (t : Turning) (rows mid new : List HostOf) → LeadsTo log rows mid → new ≡ map (turning_row t) mid → LearnInTurn log (learnt_in rows) (learnt_in new)
turning_learns log t rows mid new leads n =
    subst (LearnInTurn log (learnt_in rows)) (turning_column (λ (row : HostOf). row.facts) (λ kind caught row. refl) (λ answer row. refl) t (learnt_in mid) mid new refl n) (log_learns log rows mid leads)

pub inside_applied : (all : List HostUpdate) (batch : List Bool) (rows new : List HostOf) → batch ≡ map is_inside rows → new ≡ with_update all rows → batch ≡ map is_inside new
inside_applied all batch rows new e n = update_column is_inside (λ update row. refl) all batch rows new e n

pub stand_applied : (all : List HostUpdate) (standings : List Standing) (rows new : List HostOf) → standings ≡ map standing rows → new ≡ with_update all rows → standings ≡ map standing new
stand_applied all standings rows new e n = update_column standing (λ update row. refl) all standings rows new e n

pub inside_turned : (t : Turning) (batch : List Bool) (rows new : List HostOf) → batch ≡ map is_inside rows → new ≡ map (turning_row t) rows → batch ≡ map is_inside new
inside_turned t batch rows new e n = turning_column is_inside (λ kind caught row. refl) (λ answer row. refl) t batch rows new e n

applies_out : (update : FactsUpdate) (row : HostOf) → IsOutside row → IsOutside (applies update row)
applies_out update row out e = ap (knows (applied update row.facts)) (out e)

update_out : (all : List HostUpdate) (rows : List HostOf) → AreOutside rows → AreOutside (with_update all rows)
update_out [] rows w = w
update_out (n ∷ all) rows w = update_out all (change rows n.host.0 (applies n.update)) (out_changed (applies n.update) n.host.0 rows (λ row at out. applies_out n.update row out) w)

pub out_applied : (all : List HostUpdate) (rows new : List HostOf) → AreOutside rows → new ≡ with_update all rows → AreOutside new
out_applied all rows new w n = subst AreOutside (sym n) (update_out all rows w)

turning_out : (t : Turning) (row : HostOf) → IsOutside row → IsOutside (turning_row t row)
turning_out t row out e =
    let outside : row.in_batch ≡ false = sym (turning_same is_inside (λ kind caught r. refl) (λ answer r. refl) t row) ∙ e in
    let same : turning_row t row ≡ row = turning_none t row outside in
    ap left same ∙ out outside ∙ sym same

pub out_turning : (t : Turning) (rows new : List HostOf) → AreOutside rows → new ≡ map (turning_row t) rows → AreOutside new
out_turning t rows new w n = subst AreOutside (sym n) (out_mapped (turning_row t) (turning_out t) rows w)

-- who has left is nowhere
left_nowhere : (rows : List HostOf) → map standing (map left rows) ≡ replicate (length rows) nowhere
left_nowhere [] = refl
left_nowhere (row ∷ rows) = ap (λ (rest : List Standing). nowhere ∷ rest) (left_nowhere rows)

pub nowhere_turned : (t : Turning) (standings : List Standing) (rows new : List HostOf) → standings ≡ map standing (map left rows) → new ≡ map (turning_row t) rows → standings ≡ replicate (length new) nowhere
nowhere_turned t standings rows new e n = e ∙ left_nowhere rows ∙ ap (λ (k : ℕ). replicate k nowhere) (sym (length-map rows (turning_row t)) ∙ ap length (sym n))

-- who runs, and under which tickets, stays as it is
all_columns : {A : Type 0} (of : HostOf → A) → ((update : FactsUpdate) (row : HostOf) → of (applies update row) ≡ of row) → ((kind : Kind) (caught : Bool) (row : HostOf) → of (answer_copied kind caught row) ≡ of row)
    → ((answer : AnswerOf) (row : HostOf) → of (answered answer row) ≡ of row) → (all : List HostUpdate) (t : Turning) (column : List A) (rows new : List HostOf) → column ≡ map of rows → new ≡ map (turning_row t) (with_update all rows) → column ≡ map of new
all_columns of apply copies answers all t column rows new e n = turning_column of copies answers t column (with_update all rows) new (update_column of apply all column rows (with_update all rows) e refl) n

pub turned_due : (all : List HostUpdate) (t : Turning) (sends batch awaits_batch : List Bool) (standings column : List Standing) (jobs : List (HostNo × Ticket)) (rows new : List HostOf) → IsDue sends standings batch awaits_batch jobs rows → new ≡ map (turning_row t) (with_update all rows)
    → column ≡ map standing new → IsDue sends column batch awaits_batch jobs new
turned_due all t sends batch awaits_batch standings column jobs rows new due n stand =
    record {
      sending = all_columns has_send (λ update row. refl) (λ kind caught row. refl) (λ answer row. refl) all t sends rows new due.sending n;
      stands = stand;
      insiders = all_columns is_inside (λ update row. refl) (λ kind caught row. refl) (λ answer row. refl) all t batch rows new due.insiders n;
      waiting = all_columns is_waiting (λ update row. refl) (λ kind caught row. refl) (λ answer row. refl) all t awaits_batch rows new due.waiting n;
      outsiders = out_turning t (with_update all rows) new (update_out all rows due.outsiders) n;
      in_order = due.in_order ∙ ap (out_from 0) (all_columns ticket_of (λ update row. refl) (λ kind caught row. refl) (λ answer row. refl) all t (map ticket_of rows) rows new refl n);
    }

pub same_due : (sends batch awaits_batch : List Bool) (standings column : List Standing) (jobs : List (HostNo × Ticket)) (rows new : List HostOf) → IsDue sends standings batch awaits_batch jobs rows → new ≡ rows → column ≡ standings → IsDue sends column batch awaits_batch jobs new
same_due sends batch awaits_batch standings column jobs rows new due n s =
    subst (λ (all : List HostOf). IsDue sends column batch awaits_batch jobs all) (sym n) (subst (λ (stand : List Standing). IsDue sends stand batch awaits_batch jobs rows) (sym s) due)

-- ---- who did the task for all, and whether one ended it fatally: a host outside of the batch finished nothing
last_none : (row : HostOf) → IsOutside row → row.in_batch ≡ false → row.last ≡ None
last_none row out e = sym (ap (λ (r : HostOf). r.last) (out e))

run_once_host_idle : (p : ℕ) (row : HostOf) (rows : List HostOf) → IsOutside row → row.in_batch ≡ false → run_once_host p (row ∷ rows) ≡ run_once_host p rows
run_once_host_idle p row rows out e = ap (λ (last : Option LastTask). if option_map_or (ends_run_once_at p) last false then Some row else run_once_host p rows) (last_none row out e)

pub run_once_host_yes : (p : ℕ) (rows : List HostOf) (set : List Bool) (from h : ℕ) (whole : Option HostOf) → set ≡ map is_inside rows → AreOutside rows → IsNextFrom set from h → at_row (has_done_run_once p) rows h ≡ true → run_once_host p (drop from rows) ≡ whole
    → slice_get rows h ≡ whole
run_once_host_yes p rows set from h whole e out next did w =
    let at = reached (run_once_host p) (run_once_host_idle p) rows set from h e out next in
    let here : has_done_run_once p at.0 ≡ true = ap (λ (o : Option HostOf). option_map_or (has_done_run_once p) o false) (sym at.1) ∙ did in
    at.1 ∙ ap (λ (b : Bool). if b then Some at.0 else run_once_host p (drop (h + 1) rows)) (sym here) ∙ sym at.2 ∙ w

pub run_once_host_not : (p : ℕ) (rows : List HostOf) (set : List Bool) (from h : ℕ) (whole : Option HostOf) → set ≡ map is_inside rows → AreOutside rows → IsNextFrom set from h → at_row (has_done_run_once p) rows h ≡ false → run_once_host p (drop from rows) ≡ whole
    → run_once_host p (drop (h + 1) rows) ≡ whole
run_once_host_not p rows set from h whole e out next did_not w =
    let at = reached (run_once_host p) (run_once_host_idle p) rows set from h e out next in
    let here : has_done_run_once p at.0 ≡ false = ap (λ (o : Option HostOf). option_map_or (has_done_run_once p) o false) (sym at.1) ∙ did_not in
    ap (λ (b : Bool). if b then Some at.0 else run_once_host p (drop (h + 1) rows)) (sym here) ∙ sym at.2 ∙ w

pub run_once_host_end : (p : ℕ) (rows : List HostOf) (set : List Bool) (from : ℕ) (whole : Option HostOf) → set ≡ map is_inside rows → AreOutside rows → HasNoneFrom set from → run_once_host p (drop from rows) ≡ whole → None ≡ whole
run_once_host_end p rows set from whole e out none w = sym (finished (run_once_host p) (run_once_host_idle p) rows set from e out none) ∙ w

pub some_copied : {A : Type 0} (found : Option (Bor A)) → is_some found ≡ is_some (option_copied found)
some_copied None = refl
some_copied (Some x) = refl

pub some_run_once_host : (p : ℕ) (rows : List HostOf) → is_some (run_once_host p rows) ≡ list_any (has_done_run_once p) rows
some_run_once_host p [] = refl
some_run_once_host p (row ∷ rows) = by_row (has_done_run_once p row) (some_run_once_host p rows)
  where
    by_row : (b : Bool) → is_some (run_once_host p rows) ≡ list_any (has_done_run_once p) rows → is_some (if b then Some row else run_once_host p rows) ≡ (b || list_any (has_done_run_once p) rows)
    by_row true rest = refl
    by_row false rest = rest

fatal_idle : (play : PlayOf) (p : ℕ) (row : HostOf) (rows : List HostOf) → IsOutside row → row.in_batch ≡ false → list_any (has_ended_fatally play p) (row ∷ rows) ≡ list_any (has_ended_fatally play p) rows
fatal_idle play p row rows out e = ap (λ (last : Option LastTask). option_map_or (ends_fatally play p) last false || list_any (has_ended_fatally play p) rows) (last_none row out e)

pub fatal_yes : (play : PlayOf) (p : ℕ) (rows : List HostOf) (set : List Bool) (from h : ℕ) (whole : Bool) → set ≡ map is_inside rows → AreOutside rows → IsNextFrom set from h → at_row (has_ended_fatally play p) rows h ≡ true
    → list_any (has_ended_fatally play p) (drop from rows) ≡ whole → true ≡ whole
fatal_yes play p rows set from h whole e out next over w =
    let at = reached (list_any (has_ended_fatally play p)) (fatal_idle play p) rows set from h e out next in
    let here : has_ended_fatally play p at.0 ≡ true = ap (λ (o : Option HostOf). option_map_or (has_ended_fatally play p) o false) (sym at.1) ∙ over in
    ap (λ (b : Bool). b || list_any (has_ended_fatally play p) (drop (h + 1) rows)) (sym here) ∙ sym at.2 ∙ w

pub fatal_not : (play : PlayOf) (p : ℕ) (rows : List HostOf) (set : List Bool) (from h : ℕ) (whole : Bool) → set ≡ map is_inside rows → AreOutside rows → IsNextFrom set from h → at_row (has_ended_fatally play p) rows h ≡ false
    → list_any (has_ended_fatally play p) (drop from rows) ≡ whole → list_any (has_ended_fatally play p) (drop (h + 1) rows) ≡ whole
fatal_not play p rows set from h whole e out next not_over w =
    let at = reached (list_any (has_ended_fatally play p)) (fatal_idle play p) rows set from h e out next in
    let here : has_ended_fatally play p at.0 ≡ false = ap (λ (o : Option HostOf). option_map_or (has_ended_fatally play p) o false) (sym at.1) ∙ not_over in
    ap (λ (b : Bool). b || list_any (has_ended_fatally play p) (drop (h + 1) rows)) (sym here) ∙ sym at.2 ∙ w

pub fatal_end : (play : PlayOf) (p : ℕ) (rows : List HostOf) (set : List Bool) (from : ℕ) (whole : Bool) → set ≡ map is_inside rows → AreOutside rows → HasNoneFrom set from → list_any (has_ended_fatally play p) (drop from rows) ≡ whole → false ≡ whole
fatal_end play p rows set from whole e out none w = sym (finished (list_any (has_ended_fatally play p)) (fatal_idle play p) rows set from e out none) ∙ w
