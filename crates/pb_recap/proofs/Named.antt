-- Hosts in the order of their names, and the line that is written of them.
use Rattle.std.proofs.Common.{◌≡◌, ℕ, List, [], ◌∷◌, ◌++◌, Bor, Less, Equal, Greater, Ordering, nat_cmp, map, refl, ap, ◌∙◌, append_assoc, codes, decimal}
use Rattle.std.specs.BTreeMap.{insert_entry}
use Rattle.std.specs.Cmp.Lexicographic.{slice_cmp}
use Rattle.std.specs.Ordering.{match_ordering}
use Rattle.json.specs.Print.{print}
use Rattle.json.specs.Token.{Token}
use Rattle.json.specs.Tree.{json_tokens, members_tokens}
use Rattle.serde_json.specs.Data.{Data, Members, no_members, member, put}
use Rattle.serde_json.specs.Written.{outline, members_outline, compact_text}
use Rattle.serde_json.proofs.Texts.{print-outline}
use Rattle.pb_ids.specs.declared.numbers.HostNo.{HostNo}
use Rattle.pb_lanes.specs.ColumnsOf.{ColumnsOf}
use Rattle.pb_host.specs.declared.host.Counts.{Counts}
use Rattle.pb_recap.specs.InColumns.{counts_of}
use Rattle.pb_recap.specs.Hosts.{hosts_with_count}
use Rattle.pb_recap.specs.Named.{line_with, members_of, named_in}
use Rattle.pb_recap.specs.Stats.{stats_line, line_data, with_hosts, counts_data}

abbrev Hosts : Type 0
Hosts = List (Bor (List ℕ) × HostNo)

-- these hosts, each with its counts in the columns
abbrev pub listed : ColumnsOf → Hosts → Members
listed all hosts = members_of (map (named_in all) hosts)

abbrev in_order : Hosts → Bor (List ℕ) → HostNo → Hosts
in_order = insert_entry (λ x y. slice_cmp nat_cmp x.now y.now)

-- what is written of a host
abbrev counts_of_host : ColumnsOf → HostNo → Data
counts_of_host all host = counts_data (counts_of all host.0)

placed : (all : ColumnsOf) (o : Ordering) (name : Bor (List ℕ)) (host : HostNo) (first : Bor (List ℕ) × HostNo) (hosts : Hosts)
    → listed all (in_order hosts name host) ≡ put name.now (counts_of_host all host) (listed all hosts)
    → listed all (match_ordering o ((name, host) ∷ first ∷ hosts) ((first.0, host) ∷ hosts) (first ∷ in_order hosts name host))
    ≡ match_ordering o (member name.now (counts_of_host all host) (listed all (first ∷ hosts))) (member first.0.now (counts_of_host all host) (listed all hosts))
    (member first.0.now (counts_of_host all first.1) (put name.now (counts_of_host all host) (listed all hosts)))
placed all Less name host first hosts same = refl
placed all Equal name host first hosts same = refl
placed all Greater name host first hosts same = ap (member first.0.now (counts_of_host all first.1)) same

pub put_in_order : (all : ColumnsOf) (hosts : Hosts) (name : Bor (List ℕ)) (host : HostNo) → listed all (in_order hosts name host) ≡ put name.now (counts_of_host all host) (listed all hosts)
put_in_order all [] name host = refl
put_in_order all (first ∷ hosts) name host = placed all (slice_cmp nat_cmp name.now first.0.now) name host first hosts (put_in_order all hosts name host)

six_joined : (old a b c d e f : List Token) → (((((old ++ a) ++ b) ++ c) ++ d) ++ e) ++ f ≡ old ++ (a ++ (b ++ (c ++ (d ++ (e ++ f)))))
six_joined old a b c d e f = simp append_assoc

nine_joined : (old a b c d e f g h i : List Token)
    → ((((((((old ++ a) ++ b) ++ c) ++ d) ++ e) ++ f) ++ g) ++ h) ++ i ≡ old ++ (a ++ (b ++ (c ++ (d ++ (e ++ (f ++ (g ++ (h ++ i))))))))
nine_joined old a b c d e f g h i = simp append_assoc

abbrev tokens_of : ColumnsOf → Hosts → List Token
tokens_of all hosts = members_tokens (members_outline (listed all hosts))

pub host_written : (all : ColumnsOf) (old keyed written : List Token) (name : Bor (List ℕ)) (host : HostNo) (rest : Hosts)
    → keyed ≡ old ++ Token.key name.now ∷ [] → written ≡ keyed ++ json_tokens (outline (counts_of_host all host))
    → written ++ tokens_of all rest ≡ old ++ tokens_of all ((name, host) ∷ rest)
host_written all old keyed written name host rest e f =
    let ts = json_tokens (outline (counts_of_host all host)) in
    let after = tokens_of all rest in
    ap (λ us. us ++ after) (f ∙ ap (λ us. us ++ ts) e) ∙ append_assoc (old ++ Token.key name.now ∷ []) ts after ∙ append_assoc old (Token.key name.now ∷ []) (ts ++ after)

pub line_written : (old begun event name stats written new : List Token) (ms : Members)
    → begun ≡ old ++ Token.begin_object ∷ [] → event ≡ begun ++ Token.key (codes "event") ∷ [] → name ≡ event ++ Token.string (codes "playbook_on_stats") ∷ []
    → stats ≡ name ++ Token.key (codes "stats") ∷ [] → written ≡ stats ++ Token.begin_object ∷ members_tokens (members_outline ms) → new ≡ written ++ Token.end_object ∷ []
    → new ≡ old ++ json_tokens (outline (line_with ms))
line_written old begun event name stats written new ms a b c d e f =
    rw (f, e, d, c, b, a)
    (six_joined old (Token.begin_object ∷ []) (Token.key (codes "event") ∷ []) (Token.string (codes "playbook_on_stats") ∷ []) (Token.key (codes "stats") ∷ [])
    (Token.begin_object ∷ members_tokens (members_outline ms)) (Token.end_object ∷ []))

abbrev counted : List ℕ → ℕ → List Token
counted name count = Token.key name ∷ Token.number (decimal count) ∷ []

pub counts_written : (old t u v w x y z out new : List Token) (counts : Counts)
    → t ≡ old ++ Token.begin_object ∷ [] → u ≡ t ++ counted (codes "changed") counts.changed → v ≡ u ++ counted (codes "failed") counts.failed
    → w ≡ v ++ counted (codes "ignored") counts.ignored → x ≡ w ++ counted (codes "ok") counts.ok → y ≡ x ++ counted (codes "rescued") counts.rescued
    → z ≡ y ++ counted (codes "skipped") counts.skipped → out ≡ z ++ counted (codes "unreachable") counts.unreachable → new ≡ out ++ Token.end_object ∷ []
    → new ≡ old ++ json_tokens (outline (counts_data counts))
counts_written old t u v w x y z out new counts a b c d e f g h i =
    rw (i, h, g, f, e, d, c, b, a)
    (nine_joined old (Token.begin_object ∷ []) (counted (codes "changed") counts.changed) (counted (codes "failed") counts.failed) (counted (codes "ignored") counts.ignored)
    (counted (codes "ok") counts.ok) (counted (codes "rescued") counts.rescued) (counted (codes "skipped") counts.skipped) (counted (codes "unreachable") counts.unreachable)
    (Token.end_object ∷ []))

pub line_printed : (names : List (List ℕ)) (all : List Counts) (ms : Members) → ms ≡ with_hosts no_members (hosts_with_count names all)
    → print (json_tokens (outline (line_with ms))) ++ 10 ∷ [] ≡ stats_line names all
unfolding line_data
line_printed names all ms e = ap (λ s. s ++ 10 ∷ []) (print-outline (line_with ms)) ∙ ap (λ m. compact_text (line_with m) ++ 10 ∷ []) e
