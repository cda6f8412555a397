use Rattle.std.proofs.Common.{◌≡◌, ◌<◌, true, false, pos, Ok, ap, ◌∙◌, ◌+◌, sym, string_bytes, get_or, arith}
use Rattle.pb_value.specs.Reading.{map_ok}
use Rattle.pb_expr_syntax.specs.declared.grammar.Kind.TheVariants as kind
use Rattle.pb_expr_syntax.specs.Tokens.{lexeme, quoted, text_from}
use Rattle.pb_expr_syntax.proofs.Contents.{content_utf8, after_quote}
use Rattle.pb_expr_syntax.proofs.lexer.text_at.Goals as goal

pub range_from-after-requires : goal.range_from-after-requires
range_from-after-requires c =
    let small : get_or c.args.text.now c.args.at 0 < 128 = omega (arith, c.requires.front, c.requires.ascii) in
    λ some. after_quote c.args.text.now c.args.at c.utf8.text c.requires.inside small

pub returns-in_default-clause-fault : goal.returns-in_default-clause-fault
returns-in_default-clause-fault c h =
    let read = ap (text_from c.args.at c.args.quote false) (sym c.as_bytes.ensures.value) ∙ c.in-Ok.ensures.value in
    let e : false ≡ true = c.in_default.ensures.succeeds (content_utf8 c.args.at c.args.quote c.range_from-after.result.now _ c.requires.ascii c.range_from-after.utf8 read) in
    cc

pub returns-clause-value : goal.returns-clause-value
returns-clause-value c =
    let same : string_bytes c.in-Ok-from_utf8.content ≡ c.in-Ok.content.bytes.items = ap (λ v. v.items) c.in-Ok-from_utf8.ensures.ok in
    ap (λ bs. map_ok (quoted c.args.at) (text_from c.args.at c.args.quote false bs)) (sym (c.as_bytes.ensures.value ∙ c.range_from-after.ensures.value)) ∙ ap (map_ok (quoted c.args.at)) c.in-Ok.ensures.value
    ∙ ap (λ t. Ok (lexeme kind.Text c.args.at t (pos 0) (c.in-Ok.content.size + 1))) (sym same ∙ sym c.from_string.ensures)
