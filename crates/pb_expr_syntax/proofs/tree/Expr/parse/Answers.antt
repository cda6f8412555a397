use Rattle.std.proofs.Common.{rules, ◌≡◌, ◌≤◌, Ok, length}
use Rattle.pb_expr_syntax.specs.declared.fault.ExprFault.TheVariants as fault
use Rattle.pb_expr_syntax.specs.Spelling.{spells, FirstFault}
use Rattle.pb_expr_syntax.specs.Tokens.{tokens_of}
use Rattle.pb_expr_syntax.proofs.Computed.{tree_is, fault_is}
use Rattle.pb_expr_syntax.proofs.OneFault.{first_refused, one_fault}
use Rattle.pb_expr_syntax.proofs.tree.Expr.parse.Goals as goal

pub returns-then-is_within-clause-computed : goal.returns-then-is_within-clause-computed
returns-then-is_within-clause-computed c =
    let s : spells c.args.text.now c.in-Ok-parse_tokens.expr = search rules in
    tree_is c.args.text.now c.in-Ok-parse_tokens.expr s

pub returns-in-Err-parse_tokens-clause-fault : goal.returns-in-Err-parse_tokens-clause-fault
returns-in-Err-parse_tokens-clause-fault c =
    let le : length c.args.text.now ≤ 4096 = search rules in
    let is : tokens_of c.args.text.now ≡ Ok c.as_slice.result.now = search rules in
    rw c.fault_of.ensures (first_refused c.args.text.now c.as_slice.result.now c.in-Err-parse_tokens.refusal le is c.in-Err-parse_tokens.ensures.fault)

pub returns-in-Err-parse_tokens-clause-first : goal.returns-in-Err-parse_tokens-clause-first
returns-in-Err-parse_tokens-clause-first c =
    λ known other first. one_fault c.args.text.now other c.fault_of.result first (returns-in-Err-parse_tokens-clause-fault c known)

pub returns-clause-first : goal.returns-clause-first
returns-clause-first c =
    let deep : FirstFault c.args.text.now fault.TooDeep = search rules in
    λ known other first. one_fault c.args.text.now other fault.TooDeep first deep

pub returns-then-text-gt-MAX_BYTES-clause-computed_fault : goal.returns-then-text-gt-MAX_BYTES-clause-computed_fault
returns-then-text-gt-MAX_BYTES-clause-computed_fault c =
    let long : FirstFault c.args.text.now fault.TooDeep = search rules in
    λ known. fault_is c.args.text.now fault.TooDeep long

pub returns-in-Err-clause-computed_fault : goal.returns-in-Err-clause-computed_fault
returns-in-Err-clause-computed_fault c = λ known.
    let bad : FirstFault c.args.text.now c.in-Err.fault = search rules in
    fault_is c.args.text.now c.in-Err.fault bad

pub returns-in-Err-parse_tokens-clause-computed_fault : goal.returns-in-Err-parse_tokens-clause-computed_fault
returns-in-Err-parse_tokens-clause-computed_fault c = λ known. fault_is c.args.text.now c.fault_of.result (returns-in-Err-parse_tokens-clause-fault c known)

pub returns-clause-computed_fault : goal.returns-clause-computed_fault
returns-clause-computed_fault c =
    let deep : FirstFault c.args.text.now fault.TooDeep = search rules in
    λ known. fault_is c.args.text.now fault.TooDeep deep
