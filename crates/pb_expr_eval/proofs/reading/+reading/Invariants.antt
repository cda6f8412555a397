use Rattle.std.proofs.Common.{◌≡◌, ◌+◌, ◌*◌, ℕ, List, ◌++◌, map, drop, string_bytes, string_cmp}
use Rattle.std.specs.List.Sorted.{IsStrictlySortedBy}
use Rattle.std.specs.Map.{keys_of}
use Rattle.pb_value.specs.Datum.{Datum, named, items_of, members_of}
use Rattle.pb_value.specs.Reading.{map_ok}
use Rattle.pb_expr_syntax.specs.Tree.{nodes, trees_nodes, trees_of}
use Rattle.pb_template.specs.Computed.{template_of}
use Rattle.pb_expr_eval.specs.Value.{values}
use Rattle.pb_expr_eval.specs.Rendering.{shown, rendered_items, rendered_members}
use Rattle.pb_expr_eval.specs.Scoped.{names_in}
use Rattle.pb_expr_eval.proofs.Members.{Entry}
use Rattle.pb_expr_eval.proofs.Weights.{spent, part_weight, parts_weight, template_weight, weight, items_weight, members_weight}
use Rattle.pb_expr_eval.proofs.reading.+reading.Given as goal

abbrev pub decreases-value : goal.decreases-value
decreases-value l = spent l.scope.now l.levels + (4 * nodes l.expr.now + 2)

abbrev pub decreases-operated : goal.decreases-operated
decreases-operated l = spent l.scope.now l.levels + (4 * (nodes l.x.now + nodes l.y.now) + 2)

abbrev pub decreases-operand : goal.decreases-operand
decreases-operand l = spent l.scope.now l.levels + (4 * nodes l.expr.now + 1)

abbrev pub decreases-indexed : goal.decreases-indexed
decreases-indexed l = spent l.scope.now l.levels + (4 * (nodes l.x.now + nodes l.y.now) + 2)

abbrev pub decreases-filtered : goal.decreases-filtered
decreases-filtered l = spent l.scope.now l.levels + (4 * (nodes l.x.now + trees_nodes (trees_of l.args.now)) + 4)

abbrev pub decreases-values : goal.decreases-values
decreases-values l = spent l.scope.now l.levels + (4 * trees_nodes (trees_of l.items.now) + 3)

abbrev pub decreases-defaulted : goal.decreases-defaulted
decreases-defaulted l = spent l.scope.now l.levels + (4 * (nodes l.x.now + trees_nodes (trees_of l.args.now)) + 4)

abbrev pub decreases-or_default : goal.decreases-or_default
decreases-or_default l = spent l.scope.now l.levels + (4 * (nodes l.x.now + nodes l.other.now) + 3)

abbrev pub decreases-default_if : goal.decreases-default_if
decreases-default_if l = spent l.scope.now l.levels + (4 * (nodes l.x.now + nodes l.other.now + nodes l.if_false.now) + 3)

abbrev pub decreases-read : goal.decreases-read
decreases-read l = spent l.scope.now l.levels + 1

abbrev pub decreases-rendered : goal.decreases-rendered
decreases-rendered l = spent l.scope.now l.levels + (4 * weight l.stored.now + 2)

abbrev pub decreases-templated : goal.decreases-templated
decreases-templated l = spent l.scope.now l.levels + (4 * template_weight (template_of l.text.now) + 4)

abbrev pub decreases-rendered_items : goal.decreases-rendered_items
decreases-rendered_items l = spent l.scope.now l.levels + (4 * items_weight (items_of l.stored.now) + 3)

abbrev pub decreases-rendered_members : goal.decreases-rendered_members
decreases-rendered_members l = spent l.scope.now l.levels + (4 * members_weight (members_of l.stored.now) + 3)

abbrev pub decreases-rendered_parts : goal.decreases-rendered_parts
decreases-rendered_parts l = spent l.scope.now l.levels + (4 * parts_weight l.parts.now + 3)

abbrev pub decreases-shown : goal.decreases-shown
decreases-shown l = spent l.scope.now l.levels + (4 * parts_weight l.parts.now + 2)

abbrev pub decreases-measured : goal.decreases-measured
decreases-measured l = spent l.scope.now l.levels + (4 * nodes l.expr.now + 3)

abbrev pub decreases-show : goal.decreases-show
decreases-show l = spent l.scope.now l.levels + (4 * part_weight l.part.now + 1)

abbrev pub invariant-values-loop-item : goal.invariant-values-loop-item
invariant-values-loop-item l =
    values (names_in l.scope l.levels) (trees_of l.items) ≡ map_ok (λ ds. l.values.items ++ ds) (values (names_in l.scope l.levels) (trees_of (drop l.item-index l.items)))

abbrev pub invariant-rendered_items-loop-item : goal.invariant-rendered_items-loop-item
invariant-rendered_items-loop-item l =
    rendered_items (names_in l.scope l.levels) (items_of l.stored) ≡ map_ok (λ ds. l.values.items ++ ds) (rendered_items (names_in l.scope l.levels) (items_of (drop l.item-index l.item-items)))

abbrev pub invariant-rendered_members-loop-key : goal.invariant-rendered_members-loop-key
invariant-rendered_members-loop-key l =
    (done : List Entry) × (l.stored ≡ named (done ++ l.key-iterator)) × IsStrictlySortedBy string_cmp (keys_of (done ++ l.key-iterator))
    × (map (λ (m : List ℕ × Datum). m.0) l.values ≡ map (λ (m : Entry). string_bytes m.0) done)
    × (rendered_members (names_in l.scope l.levels) (members_of l.stored) ≡ map_ok (λ xs. l.values ++ xs) (rendered_members (names_in l.scope l.levels) (members_of (named l.key-iterator))))

abbrev pub invariant-shown-loop-part : goal.invariant-shown-loop-part
invariant-shown-loop-part l =
    shown (names_in l.scope l.levels) l.parts ≡ map_ok (λ t. string_bytes l.text ++ t) (shown (names_in l.scope l.levels) (drop l.part-index l.parts))
