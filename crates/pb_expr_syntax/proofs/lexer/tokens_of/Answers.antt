use Rattle.std.proofs.Common.{◌≡◌, ◌-◌, ◌∷◌, [], drop, length, length-drop, sym, ◌∙◌, ap, arith}
use Rattle.pb_expr_syntax.specs.Tokens.{begins_space}
use Rattle.pb_expr_syntax.proofs.Lexing.{front_token, step_space, step_good, step_bad, lexeme_size}
use Rattle.pb_expr_syntax.proofs.lexer.tokens_of.Goals as goal

pub loop-at-preserved-then-begins_space : goal.loop-at-preserved-then-begins_space
loop-at-preserved-then-begins_space c =
    (step_space c.args.text.now c.loop-at.at c.loop-at.tokens.items c.loop-at-test.true (ap begins_space (sym c.rest_from-rest.ensures) ∙ sym c.if-begins_space.ensures) c.loop-at.invariant.0, omega (arith, c.loop-at-test.true))

pub overflow_add-at-in-Ok : goal.overflow_add-at-in-Ok
overflow_add-at-in-Ok c =
    let left : length (drop c.loop-at.at c.args.text.now) ≡ length c.args.text.now - c.loop-at.at = length-drop c.loop-at.at c.args.text.now in
    let size = lexeme_size c.loop-at.at (drop c.loop-at.at c.args.text.now) c.in-Ok.lexeme c.in-Ok.ensures.value in
    omega (arith, left, size.1, c.loop-at.invariant.1, c.requires)

pub loop-at-smaller : goal.loop-at-smaller
loop-at-smaller c =
    let left : length (drop c.loop-at.at c.args.text.now) ≡ length c.args.text.now - c.loop-at.at = length-drop c.loop-at.at c.args.text.now in
    let size = lexeme_size c.loop-at.at (drop c.loop-at.at c.args.text.now) c.in-Ok.lexeme c.in-Ok.ensures.value in
    omega (arith, left, size.0, size.1, c.loop-at.invariant.1, c.loop-at-test.true)

pub loop-at-preserved : goal.loop-at-preserved
loop-at-preserved c =
    let left : length (drop c.loop-at.at c.args.text.now) ≡ length c.args.text.now - c.loop-at.at = length-drop c.loop-at.at c.args.text.now in
    let size = lexeme_size c.loop-at.at (drop c.loop-at.at c.args.text.now) c.in-Ok.lexeme c.in-Ok.ensures.value in
    let front = front_token c.loop-at.at (drop c.loop-at.at c.args.text.now) _ (ap begins_space (sym c.rest_from-rest.ensures) ∙ sym c.if-begins_space.ensures) c.in-Ok.ensures.value in
    let step = step_good c.args.text.now c.loop-at.at c.loop-at.tokens.items (c.in-Ok.lexeme.token ∷ []) c.in-Ok.lexeme.size c.loop-at-test.true size.0 front c.loop-at.invariant.0 in
    (rw c.in_ok-push-in-Ok.ensures.items step, omega (arith, left, size.1, c.loop-at.invariant.1))

pub returns-in-Err-clause-fault : goal.returns-in-Err-clause-fault
returns-in-Err-clause-fault c h =
    step_bad c.args.text.now c.loop-at.at c.loop-at.tokens.items c.in-Err.fault c.loop-at-test.true
    (front_token c.loop-at.at (drop c.loop-at.at c.args.text.now) _ (ap begins_space (sym c.rest_from-rest.ensures) ∙ sym c.if-begins_space.ensures) (c.in-Err.ensures.fault h)) c.loop-at.invariant.0
