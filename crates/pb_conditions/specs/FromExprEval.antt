-- Words of pb_expr_eval, passed on so that a crate above needs not name it.
unfoldable pub use Rattle.pb_expr_eval.specs.Rendering.{measured}
unfoldable pub use Rattle.pb_expr_eval.specs.Scoped.{eval_of}
