-- The test whether two values are the same is true exactly where they are equal.
use Rattle.std.proofs.Common.{◌≡◌, ℕ, ℤ, Bool, true, false, ◌&&◌, IsTrue, ◌↔◌, List, refl, ap, subst, sym, ◌∙◌}
use Rattle.std.specs.Bool.{one_answer}
use Rattle.std.specs.Ordering.{int_eq}
use Rattle.std.specs.Str.{bytes_eq}
use Rattle.std.proofs.lemmas.Bool.Decides.{Decides-int_eq}
use Rattle.std.proofs.lemmas.Slice.Eq.{bytes_eq-Decides}
use Rattle.pb_value.specs.Datum.{Datum, null, boolean, int, text, list, dict, Items, no_items, item, Members, no_members, member}
use Rattle.pb_operators.specs.Values.{same, same_items, same_members}

pub left : (a b : Bool) → (a && b) ≡ true → a ≡ true
left true b h = refl
left false b h = h

pub right : (a b : Bool) → (a && b) ≡ true → b ≡ true
right true b h = h
right false b h = cc

pub both : (a b : Bool) → a ≡ true → b ≡ true → (a && b) ≡ true
both true b h k = k
both false b h k = h

mutual
  pub same_is : (a b : Datum) → same a b ≡ true → a ≡ b
  same_is null null h = refl
  same_is (boolean true) (boolean true) h = refl
  same_is (boolean false) (boolean false) h = refl
  same_is (int a) (int b) h = ap int ((Decides-int_eq a b).0 h)
  same_is (text s) (text t) h = ap text ((bytes_eq-Decides s t).0 h)
  same_is (list ds) (list es) h = ap list (same_items_is ds es h)
  same_is (dict ms) (dict ns) h = ap dict (same_members_is ms ns h)
  same_is _ _ h = cc

  pub same_items_is : (ds es : Items) → same_items ds es ≡ true → ds ≡ es
  same_items_is no_items no_items h = refl
  same_items_is (item d ds) (item e es) h =
      let p = same_is d e (left (same d e) (same_items ds es) h) in
      let q = same_items_is ds es (right (same d e) (same_items ds es) h) in
      λ i. item (p i) (q i)
  same_items_is _ _ h = cc

  pub same_members_is : (ms ns : Members) → same_members ms ns ≡ true → ms ≡ ns
  same_members_is no_members no_members h = refl
  same_members_is (member k d ms) (member l e ns) h =
      let rest : (same d e && same_members ms ns) ≡ true = right (bytes_eq k l) (same d e && same_members ms ns) h in
      let o = (bytes_eq-Decides k l).0 (left (bytes_eq k l) (same d e && same_members ms ns) h) in
      let p = same_is d e (left (same d e) (same_members ms ns) rest) in
      let q = same_members_is ms ns (right (same d e) (same_members ms ns) rest) in
      λ i. member (o i) (p i) (q i)
  same_members_is _ _ h = cc

mutual
  pub same_self : (a : Datum) → same a a ≡ true
  same_self null = refl
  same_self (boolean true) = refl
  same_self (boolean false) = refl
  same_self (int a) = (Decides-int_eq a a).1 refl
  same_self (text s) = (bytes_eq-Decides s s).1 refl
  same_self (list ds) = same_items_self ds
  same_self (dict ms) = same_members_self ms

  pub same_items_self : (ds : Items) → same_items ds ds ≡ true
  same_items_self no_items = refl
  same_items_self (item d ds) = both (same d d) (same_items ds ds) (same_self d) (same_items_self ds)

  pub same_members_self : (ms : Members) → same_members ms ms ≡ true
  same_members_self no_members = refl
  same_members_self (member k d ms) = both (bytes_eq k k) (same d d && same_members ms ms) ((bytes_eq-Decides k k).1 refl) (both (same d d) (same_members ms ms) (same_self d) (same_members_self ms))

pub same_answers : (r : Bool) (a b : Datum) → (IsTrue r ↔ (a ≡ b)) → r ≡ same a b
same_answers r a b h = one_answer r (same a b) h (same_is a b, λ e. subst (λ x. same a x ≡ true) e (same_self a))
