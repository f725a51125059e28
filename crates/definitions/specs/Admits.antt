-- Which values a shape admits. Assumes nothing.
use Rattle.std.specs.Prelude.{Bool, true, false, ◌&&◌, ◌||◌}
use Rattle.std.proofs.Math.Option.{none, some}
use Rattle.definitions.specs.Number.{is_int}
use Rattle.definitions.specs.Value.{Value, Items, no_items, item, Members, no_members, member, has_name}
use Rattle.definitions.specs.Shape.{Kind, Shape, no_list, list_of, no_rec, rec_of, Fields, no_fields, field, has, element_of, record_of, find}

-- the kind of a value: of a number int or dec
unfoldable pub kind_of : Value → Kind
kind_of Value.null = Kind.null
kind_of (Value.bool b) = Kind.bool
kind_of (Value.number x) = elim (is_int x) [ true ↦ Kind.int | false ↦ Kind.dec ]
kind_of (Value.text t) = Kind.text
kind_of (Value.list vs) = Kind.list
kind_of (Value.rec ms) = Kind.rec

-- "every listed member that the value lacks has null"
unfoldable pub missing_have_null : Members → Fields → Bool
missing_have_null ms no_fields = true
missing_have_null ms (field n s fs) = (has_name n ms || has Kind.null s) && missing_have_null ms fs

-- "Null, bool, text: the kind is there. Int: int is there. Decimal: dec is there. List: list is there and the element
-- shape admits each element. Record: rec is there, every member of the value is listed and admitted, and every listed
-- member that the value lacks has null."
unfoldable mutual
  pub admitted : Value → Shape → Bool
  admitted Value.null s = has Kind.null s
  admitted (Value.bool b) s = has Kind.bool s
  admitted (Value.number x) s = has (kind_of (Value.number x)) s
  admitted (Value.text t) s = has Kind.text s
  admitted (Value.list vs) s = elim (element_of s) [ no_list ↦ false | list_of e ↦ admitted_items vs e ]
  admitted (Value.rec ms) s = elim (record_of s) [ no_rec ↦ false | rec_of fs ↦ admitted_members ms fs && missing_have_null ms fs ]

  -- "the element shape admits each element"
  pub admitted_items : Items → Shape → Bool
  admitted_items no_items e = true
  admitted_items (item v vs) e = admitted v e && admitted_items vs e

  -- "every member of the value is listed and admitted"
  pub admitted_members : Members → Fields → Bool
  admitted_members no_members fs = true
  admitted_members (member n v ms) fs = elim (find n fs) [ none ↦ false | some s ↦ admitted v s ] && admitted_members ms fs

-- the shape admits the value
unfoldable pub admits : Shape → Value → Bool
admits s v = admitted v s
