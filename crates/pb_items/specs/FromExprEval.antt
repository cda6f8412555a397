-- Words of pb_expr_eval, passed on so that a crate above needs not name it.
pub use Rattle.pb_expr_eval.specs.Rendering.{render, rendered, rendered_items, rendered_members, shown, templated, text_in}
unfoldable pub use Rattle.pb_expr_eval.specs.Rendering.{measured}
pub use Rattle.pb_expr_eval.specs.Scoped.{max_look_ups, names_in, read_as}
unfoldable pub use Rattle.pb_expr_eval.specs.Scoped.{eval_of, rendered_of}
pub use Rattle.pb_expr_eval.specs.Value.{Names, each, value, values}
