use Rattle.std.proofs.Common.{[], subst}
use Rattle.std.proofs.lemmas.Result.{IfOk-weaker, IfErr-weaker}
use Rattle.pb_expr_syntax.specs.Machine.{State}
use Rattle.pb_expr_syntax.specs.Views.{symbols_onto, parts_onto, state_of}
use Rattle.pb_expr_syntax.proofs.Fuel.{fuel_step}
use Rattle.pb_expr_syntax.proofs.Parsed.{none_step, none_end, Running, running_begin, running_step, refused_step, spelt, spelt_only, refused_end}
use Rattle.pb_expr_syntax.proofs.parser.parse_tokens.Goals as goal

pub loop-symbol-preserved : goal.loop-symbol-preserved
loop-symbol-preserved c =
    let toks = c.args.tokens.now in
    let old : State = record { next = c.loop-symbol.machine.next; symbols = symbols_onto [] c.pop_symbol.new.symbols.items; parts = parts_onto [] c.loop-symbol.machine.parts.items } in
    running_step toks c.in-Some.symbol old (state_of c.step.new.self) (subst (λ ss. Running toks old.next ss old.parts) c.in-Some.ensures.some c.loop-symbol.invariant) c.in_default-step.ensures.ok

pub loop-symbol-smaller : goal.loop-symbol-smaller
loop-symbol-smaller c =
    let toks = c.args.tokens.now in
    let old : State = record { next = c.loop-symbol.machine.next; symbols = symbols_onto [] c.pop_symbol.new.symbols.items; parts = parts_onto [] c.loop-symbol.machine.parts.items } in
    rw c.in-Some.ensures.some (fuel_step toks c.in-Some.symbol old (state_of c.step.new.self) c.in_default-step.ensures.ok)

pub returns-in-Err-clause-fault : goal.returns-in-Err-clause-fault
returns-in-Err-clause-fault c =
    let toks = c.args.tokens.now in
    let old : State = record { next = c.loop-symbol.machine.next; symbols = symbols_onto [] c.pop_symbol.new.symbols.items; parts = parts_onto [] c.loop-symbol.machine.parts.items } in
    refused_step toks c.in-Some.symbol old c.in-Err.fault (subst (λ ss. Running toks old.next ss old.parts) c.in-Some.ensures.some c.loop-symbol.invariant) c.in-Err.ensures.fault

pub returns-clause-ok : goal.returns-clause-ok
returns-clause-ok c =
    let toks = c.args.tokens.now in
    let vs = parts_onto [] c.loop-symbol.machine.parts.items in
    let last = subst (λ ss. Running toks c.loop-symbol.machine.next ss vs) c.in_default.ensures.none c.loop-symbol.invariant in
    IfOk-weaker c.finish.result _ _ (λ x h. spelt toks c.loop-symbol.machine.next vs x last h.0 h.1) c.finish.ensures.ok

pub returns-clause-only : goal.returns-clause-only
returns-clause-only c =
    let toks = c.args.tokens.now in
    let vs = parts_onto [] c.loop-symbol.machine.parts.items in
    let last = subst (λ ss. Running toks c.loop-symbol.machine.next ss vs) c.in_default.ensures.none c.loop-symbol.invariant in
    IfOk-weaker c.finish.result _ _ (λ x h t. spelt_only toks c.loop-symbol.machine.next vs x t last h.0 h.1) c.finish.ensures.ok

pub returns-clause-fault : goal.returns-clause-fault
returns-clause-fault c =
    let toks = c.args.tokens.now in
    let vs = parts_onto [] c.loop-symbol.machine.parts.items in
    let last = subst (λ ss. Running toks c.loop-symbol.machine.next ss vs) c.in_default.ensures.none c.loop-symbol.invariant in
    IfErr-weaker c.finish.result _ _ (λ e h. refused_end toks c.loop-symbol.machine.next vs e last h) c.finish.ensures.fault

pub loop-symbol-init : goal.loop-symbol-init
loop-symbol-init c = rw (c.in_ok-push.ensures.items, c.new-symbols.ensures.items, c.new.ensures.items) (running_begin c.args.tokens.now)

pub returns-in-Err-clause-none : goal.returns-in-Err-clause-none
returns-in-Err-clause-none c =
    let toks = c.args.tokens.now in
    let old : State = record { next = c.loop-symbol.machine.next; symbols = symbols_onto [] c.pop_symbol.new.symbols.items; parts = parts_onto [] c.loop-symbol.machine.parts.items } in
    none_step toks c.in-Some.symbol old c.in-Err.fault (subst (λ ss. Running toks old.next ss old.parts) c.in-Some.ensures.some c.loop-symbol.invariant) c.in-Err.ensures.fault

pub returns-clause-none : goal.returns-clause-none
returns-clause-none c =
    let toks = c.args.tokens.now in
    let vs = parts_onto [] c.loop-symbol.machine.parts.items in
    let last = subst (λ ss. Running toks c.loop-symbol.machine.next ss vs) c.in_default.ensures.none c.loop-symbol.invariant in
    IfErr-weaker c.finish.result _ _ (λ e h. none_end toks c.loop-symbol.machine.next vs e last h) c.finish.ensures.fault
