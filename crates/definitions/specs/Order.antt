-- The order of shapes. "Order goes down both shapes together." Assumes nothing.
use Rattle.std.specs.Prelude.{Bool, true, false, not, ◌&&◌, ◌||◌}
use Rattle.std.proofs.Math.Option.{none, some}
use Rattle.definitions.specs.Bytes.{found}
use Rattle.definitions.specs.Shape.{Kind, all_kinds, every, Shape, shape, Element, no_list, list_of, Record}
use Rattle.definitions.specs.Shape.{no_rec, rec_of, Fields, no_fields, field, has, element_of, record_of, find}

-- "A's kinds are all in B"
unfoldable pub kinds_in : Shape → Shape → Bool
kinds_in a b = every (λ k. not (has k a) || has k b) all_kinds

-- "each member of B that A lacks has null in B", given the members of both
unfoldable pub lacked_have_null : Fields → Fields → Bool
lacked_have_null fs no_fields = true
lacked_have_null fs (field n b gs) = (found (find n fs) || has Kind.null b) && lacked_have_null fs gs

-- "A is below B when A's kinds are all in B; A's element shape is below B's where A has list; and, where A has rec, each
-- member of A is a member of B with a shape below B's, and each member of B that A lacks has null in B"
unfoldable mutual
  pub below : Shape → Shape → Bool
  below (shape n b m t e r) s =
      kinds_in (shape n b m t e r) s && below_element e (element_of s) && below_record r (record_of s)

  -- "A's element shape is below B's where A has list"
  pub below_element : Element → Element → Bool
  below_element no_list e = true
  below_element (list_of a) e = elim e [ no_list ↦ false | list_of b ↦ below a b ]

  -- "where A has rec": both conditions on the members
  pub below_record : Record → Record → Bool
  below_record no_rec r = true
  below_record (rec_of fs) r = elim r [ no_rec ↦ false | rec_of gs ↦ below_fields fs gs && lacked_have_null fs gs ]

  -- "each member of A is a member of B with a shape below B's"
  pub below_fields : Fields → Fields → Bool
  below_fields no_fields gs = true
  below_fields (field n a fs) gs = elim (find n gs) [ none ↦ false | some b ↦ below a b ] && below_fields fs gs
