-- How deep a JSON value nests.
use Rattle.std.specs.Prelude.{ℕ, ◌+◌, max}
use Rattle.serde_json.specs.Data as json

-- null, a Bool, a number and a string have depth 0, an array or object one more than its deepest member, and an empty one 1
abbrev mutual
  pub json_depth : json.Data → ℕ
  json_depth json.null = 0
  json_depth (json.boolean b) = 0
  json_depth (json.number n) = 0
  json_depth (json.string s) = 0
  json_depth (json.array ds) = json_items_depth ds + 1
  json_depth (json.object ms) = json_members_depth ms + 1

  pub json_items_depth : json.Items → ℕ
  json_items_depth json.no_items = 0
  json_items_depth (json.item d ds) = max (json_depth d) (json_items_depth ds)

  pub json_members_depth : json.Members → ℕ
  json_members_depth json.no_members = 0
  json_members_depth (json.member k d ms) = max (json_depth d) (json_members_depth ms)
