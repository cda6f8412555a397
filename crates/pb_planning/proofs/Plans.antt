-- What is left of the plays of a bundle, and what its faults are.
use Rattle.std.proofs.Common.{◌≡◌, ℕ, ◌++◌, Bool, true, false, List, [], ◌∷◌, map, refl, sym, ap, subst, ◌∙◌, append_assoc, inl, inr, ◌||◌}
use Rattle.std.specs.Prelude.{nat_lt, Option, Some, Ok, Err}
use Rattle.std.specs.List.{All}
use Rattle.std.proofs.lemmas.List.Elements.{All-head, All-tail}
use Rattle.std.proofs.lemmas.List.{append-nil}
use Rattle.pb_value.specs.Limits.{max_bytes}
use Rattle.pb_value.specs.Reading.{and_then}
use Rattle.pb_inventory.specs.InventoryOf.{InventoryOf}
use Rattle.pb_inventory.specs.Reading.{inventory_of}
use Rattle.pb_layers.specs.Scope.{Map}
use Rattle.pb_variables.specs.Magic.{play_magic}
use Rattle.pb_tree.specs.Tree.{TreeOf}
use Rattle.pb_patterns.specs.Expressions.{AreTaken, IsFirstFault}
use Rattle.pb_patterns.specs.Reading.{pattern_of, expressions_of}
use Rattle.pb_patterns.proofs.Firsts.{made_of}
use Rattle.pb_patterns.specs.Selection.{IsSelection}
use Rattle.pb_patterns.specs.declared.element.Element.{Element}
use Rattle.pb_patterns.specs.declared.selected.Selected.{Selected}
use Rattle.pb_patterns.specs.declared.fault.PatFault.{PatFault}
use Rattle.pb_patterns.specs.declared.fault.PatFault.TheVariants.{BadRegex}
use Rattle.pb_play_reading.specs.Playbooks.{playbook_of, expressions_of_book}
use Rattle.pb_play_reading.specs.Refusals.{AllTaken, IsFirstFaultAt}
use Rattle.pb_written.specs.declared.fault.LoadFault.{LoadFault}
use Rattle.pb_written.specs.declared.fault.LoadFault.TheVariants.{BadPattern}
use Rattle.pb_roles.specs.Plays.{IsBuilt, expansion_of}
use Rattle.pb_roles.specs.declared.sections.Expanded.{Expanded}
use Rattle.pb_play_reading.specs.declared.playbook.Playbook.{Playbook}
use Rattle.pb_planning.specs.declared.bundle.Bundle.{Bundle}
use Rattle.pb_planning.specs.declared.bundle.BundleFault.{BundleFault}
use Rattle.pb_planning.specs.declared.bundle.BundleFault.TheVariants.{Inventory, Playbook as InPlaybook, Roles, Limit, BadForks, TooLarge}
use Rattle.pb_plan.specs.Plan.{PlayOf, PlanOf}
use Rattle.pb_planning.specs.Bundle.{in_part, limit_of, limited, extra_in, variables_of, readings_of, expressions_of_limit, expressions_in_plays, expressions_in_limit, are_bad_forks, bundle_bytes, both, play_with, lines_of_play, IsPlayOf, ArePlaysOf, IsPlaybookFault, IsLimitFault, IsBundleFault, IsPlanIn, IsPlanOf}

-- the plays in front are planned
abbrev pub ArePlannedTo : InventoryOf → List Bool → List Expanded → List Expanded → List PlayOf → List (List ℕ) → Type 0
ArePlannedTo inventory limit all rest planned lines =
    (later : List PlayOf) (more : List (List ℕ)) → ArePlaysOf inventory limit rest later more → ArePlaysOf inventory limit all (planned ++ later) (lines ++ more)

one_more : (inventory : InventoryOf) (limit : List Bool) (all rest : List Expanded) (play : Expanded) (planned : List PlayOf) (p : PlayOf) (lines more : List (List ℕ))
    → ArePlannedTo inventory limit all (play ∷ rest) planned lines → IsPlayOf inventory limit play p more → ArePlannedTo inventory limit all rest (planned ++ p ∷ []) (lines ++ more)
one_more inventory limit all rest play planned p lines more before is later others are =
    rw (append_assoc planned (p ∷ []) later, append_assoc lines more others) (before (p ∷ later) (more ++ others) (more, others, is, are, refl))

-- a play has the hosts that both select, and its lines
pub play_planned : (inventory : InventoryOf) (limit : List Bool) (play : Expanded) (hosts : List Bool) (tree : TreeOf) (magic : Map) (planned : PlayOf) (before after : List (List ℕ))
    → ((own : Selected) × IsSelection inventory play.hosts own × (hosts ≡ both own.hosts limit) × (after ≡ before ++ lines_of_play own.unmatched play))
    → tree ≡ play.tree → magic ≡ play_magic inventory hosts → planned ≡ record (play_with inventory hosts play) { tree = tree; magic = magic }
    → (more : List (List ℕ)) × IsPlayOf inventory limit play planned more × (after ≡ before ++ more)
play_planned inventory limit play hosts tree magic planned before after (own, selects, are, put) laid made is =
    let with_hosts : planned ≡ play_with inventory hosts play = is ∙ rw (laid, made) refl in
    (lines_of_play own.unmatched play, (own, selects, with_hosts ∙ ap (λ (h : List Bool). play_with inventory h play) are, refl), put)

-- the next play is planned
pub next_planned : (inventory : InventoryOf) (limit : List Bool) (all old rest : List Expanded) (play : Expanded) (planned built : List PlayOf) (p : PlayOf) (first before after : List (List ℕ))
    → old ≡ play ∷ rest → built ≡ planned ++ p ∷ []
    → ((more : List (List ℕ)) × ArePlannedTo inventory limit all old planned more × (before ≡ first ++ more))
    → ((more : List (List ℕ)) × IsPlayOf inventory limit play p more × (after ≡ before ++ more))
    → (more : List (List ℕ)) × ArePlannedTo inventory limit all rest built more × (after ≡ first ++ more)
next_planned inventory limit all old rest play planned built p first before after steps put (m, are, is) (n, one, more) = (
  m ++ n,
  subst (λ b. ArePlannedTo inventory limit all rest b (m ++ n)) (sym put)
      (one_more inventory limit all rest play planned p m n (subst (λ o. ArePlannedTo inventory limit all o planned m) steps are) one),
  more ∙ ap (λ t. t ++ n) is ∙ append_assoc first m n,
)

pub all_planned : (inventory : InventoryOf) (limit : List Bool) (all rest : List Expanded) (planned : List PlayOf) (first lines : List (List ℕ))
    → rest ≡ [] → ((more : List (List ℕ)) × ArePlannedTo inventory limit all rest planned more × (lines ≡ first ++ more))
    → (more : List (List ℕ)) × ArePlaysOf inventory limit all planned more × (lines ≡ first ++ more)
all_planned inventory limit all rest planned first lines none (m, are, is) =
    let whole : ArePlaysOf inventory limit all (planned ++ []) (m ++ []) = are [] [] (subst (λ r. ArePlaysOf inventory limit r [] []) (sym none) refl) in
    (m, rw (← append-nil planned, ← append-nil m) whole, is)

pub rest_built : (old rest : List Expanded) (play : Expanded) → old ≡ play ∷ rest → All IsBuilt old → All IsBuilt rest
rest_built old rest play steps built = All-tail IsBuilt play rest (subst (All IsBuilt) steps built)

pub first_built : (old rest : List Expanded) (play : Expanded) → old ≡ play ∷ rest → All IsBuilt old → IsBuilt play
first_built old rest play steps built = All-head IsBuilt play rest (subst (All IsBuilt) steps built)

pub playbook_fault : (bytes : List ℕ) (fault : LoadFault) → IsFirstFaultAt (expressions_of_book bytes) (playbook_of bytes) BadPattern fault → IsPlaybookFault bytes (InPlaybook fault)
playbook_fault bytes fault (inl (taken, is)) = inl (taken, ap (in_part InPlaybook) is)
playbook_fault bytes fault (inr (path, is, refused)) = inr (path, ap InPlaybook is, refused)

pub limit_fault : (text : List ℕ) (fault : PatFault) → IsFirstFault (expressions_of (text ∷ [])) (pattern_of (text ∷ [])) BadRegex fault → IsLimitFault (Some text) (Limit fault)
limit_fault text fault (inl (taken, is)) = inl (taken, rw is refl)
limit_fault text fault (inr (is, refused)) = inr (ap Limit is, refused)

-- the faults of a bundle, one part after another
variables_fault : (bundle : Bundle) (fault : BundleFault) → variables_of bundle ≡ Err fault → IsBundleFault bundle fault
variables_fault bundle fault is = inl (inl (rw is tt, rw is refl))

pub size_fault : (bundle : Bundle) → nat_lt max_bytes (bundle_bytes bundle) ≡ true → IsBundleFault bundle TooLarge
unfolding variables_of
size_fault bundle large = variables_fault bundle TooLarge (rw large refl)

-- size and forks are good
pub record IsSized (bundle : Bundle) : Type 0 where
  pub size : nat_lt max_bytes (bundle_bytes bundle) ≡ false
  pub forks : are_bad_forks bundle.forks ≡ false

pub forks_fault : (bundle : Bundle) → nat_lt max_bytes (bundle_bytes bundle) ≡ false → are_bad_forks bundle.forks ≡ true → IsBundleFault bundle BadForks
unfolding variables_of
forks_fault bundle small bad = variables_fault bundle BadForks (rw (small, bad) refl)

pub inventory_fault : (bundle : Bundle) (fault : BundleFault) → IsSized bundle → in_part Inventory (inventory_of bundle.inventory) ≡ Err fault → IsBundleFault bundle fault
unfolding variables_of
inventory_fault bundle fault sized is = variables_fault bundle fault (rw (sized.size, sized.forks, is) refl)

-- the inventory and the extra variables are read
pub record HasVariables (bundle : Bundle) (inventory : InventoryOf) (extra : Map) : Type 0 where
  pub sized : IsSized bundle
  pub read : in_part Inventory (inventory_of bundle.inventory) ≡ Ok inventory
  pub extra_read : extra_in bundle.extra ≡ Ok extra

pub extra_fault : (bundle : Bundle) (inventory : InventoryOf) (fault : BundleFault) → IsSized bundle → in_part Inventory (inventory_of bundle.inventory) ≡ Ok inventory
    → extra_in bundle.extra ≡ Err fault → IsBundleFault bundle fault
unfolding variables_of
extra_fault bundle inventory fault sized read is = variables_fault bundle fault (rw (sized.size, sized.forks, read, is) refl)

variables_read : (bundle : Bundle) (inventory : InventoryOf) (extra : Map) → HasVariables bundle inventory extra → variables_of bundle ≡ Ok (record { inventory = inventory; extra = extra })
unfolding variables_of
variables_read bundle inventory extra has = rw (has.sized.size, has.sized.forks, has.read, has.extra_read) refl

pub book_fault : (bundle : Bundle) (inventory : InventoryOf) (extra : Map) (fault : BundleFault) → HasVariables bundle inventory extra → IsPlaybookFault bundle.playbook fault
    → IsBundleFault bundle fault
book_fault bundle inventory extra fault has bad = inl (rw (variables_read bundle inventory extra has) bad)

-- the playbook is read, too
pub record HasBook (bundle : Bundle) (inventory : InventoryOf) (extra : Map) (book : Playbook) : Type 0 where
  pub variables : HasVariables bundle inventory extra
  pub read : in_part InPlaybook (playbook_of bundle.playbook) ≡ Ok book
  pub taken : AllTaken (expressions_of_book bundle.playbook)

plays_taken : (bundle : Bundle) (inventory : InventoryOf) (extra : Map) (book : Playbook) → HasBook bundle inventory extra book → AllTaken (expressions_in_plays bundle)
plays_taken bundle inventory extra book has = rw (variables_read bundle inventory extra has.variables) has.taken

behind_book : (bundle : Bundle) (inventory : InventoryOf) (extra : Map) (book : Playbook) → HasBook bundle inventory extra book
    → readings_of bundle ≡ limited bundle (record { inventory = inventory; extra = extra }) book
behind_book bundle inventory extra book has = rw (variables_read bundle inventory extra has.variables, has.read) refl

limit_met_is : (bundle : Bundle) (inventory : InventoryOf) (extra : Map) (book : Playbook) → HasBook bundle inventory extra book → expressions_in_limit bundle ≡ expressions_of_limit bundle.limit
limit_met_is bundle inventory extra book has = rw (variables_read bundle inventory extra has.variables, has.read) refl

pub limit_met : (bundle : Bundle) (inventory : InventoryOf) (extra : Map) (book : Playbook) (fault : BundleFault) → HasBook bundle inventory extra book → IsLimitFault bundle.limit fault
    → IsBundleFault bundle fault
limit_met bundle inventory extra book fault has bad =
    inr (
      plays_taken bundle inventory extra book has,
      subst (λ m. IsFirstFault m (readings_of bundle) (Limit BadRegex) fault) (sym (limit_met_is bundle inventory extra book has))
          (
          subst (λ r. IsFirstFault (expressions_of_limit bundle.limit) r (Limit BadRegex) fault) (sym (behind_book bundle inventory extra book has))
          (made_of (expressions_of_limit bundle.limit) (limit_of bundle.limit) (λ elements. and_then (in_part Roles (expansion_of bundle.roles book.plays)) (λ plays. Ok (record { inventory = inventory; extra = extra; plays = plays; limit = elements }))) (Limit BadRegex) fault bad)
          ),
    )

-- and the limit
pub record HasLimit (bundle : Bundle) (limit : Option (List Element)) : Type 0 where
  pub read : limit_of bundle.limit ≡ Ok limit
  pub taken : AreTaken (expressions_of_limit bundle.limit)

limit_taken : (bundle : Bundle) (inventory : InventoryOf) (extra : Map) (book : Playbook) (limit : Option (List Element)) → HasBook bundle inventory extra book → HasLimit bundle limit
    → AreTaken (expressions_in_limit bundle)
limit_taken bundle inventory extra book limit has limited = subst AreTaken (sym (limit_met_is bundle inventory extra book has)) limited.taken

behind_limit : (bundle : Bundle) (inventory : InventoryOf) (extra : Map) (book : Playbook) (limit : Option (List Element)) → HasBook bundle inventory extra book → HasLimit bundle limit
    → readings_of bundle
    ≡ and_then (in_part Roles (expansion_of bundle.roles book.plays)) (λ plays. Ok (record { inventory = inventory; extra = extra; plays = plays; limit = limit }))
behind_limit bundle inventory extra book limit has limited = behind_book bundle inventory extra book has ∙ rw limited.read refl

pub roles_fault : (bundle : Bundle) (inventory : InventoryOf) (extra : Map) (book : Playbook) (limit : Option (List Element)) (fault : BundleFault) → HasBook bundle inventory extra book
    → HasLimit bundle limit → in_part Roles (expansion_of bundle.roles book.plays) ≡ Err fault → IsBundleFault bundle fault
roles_fault bundle inventory extra book limit fault has limited is =
    inr (plays_taken bundle inventory extra book has, inl (limit_taken bundle inventory extra book limit has limited, behind_limit bundle inventory extra book limit has limited ∙ rw is refl))

pub plan_made : (bundle : Bundle) (inventory : InventoryOf) (extra : Map) (book : Playbook) (limit : Option (List Element)) (plays : List Expanded) (plan : PlanOf)
    → HasBook bundle inventory extra book → HasLimit bundle limit → in_part Roles (expansion_of bundle.roles book.plays) ≡ Ok plays
    → IsPlanIn inventory extra limit bundle.forks bundle.has_facts_program plays plan → IsPlanOf bundle plan
plan_made bundle inventory extra book limit plays plan has limited is made =
    record {
      readings = record { inventory = inventory; extra = extra; plays = plays; limit = limit };
      plays_taken = plays_taken bundle inventory extra book has;
      limit_taken = limit_taken bundle inventory extra book limit has limited;
      read = behind_limit bundle inventory extra book limit has limited ∙ rw is refl;
      planned = made;
    }
