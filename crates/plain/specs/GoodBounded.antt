-- A good value's numbers keep refusal 4's limits. Assumes nothing.
use Rattle.definitions.specs.Value.{Value, Items, Members}
use Rattle.laws.specs.Good.{GoodValue, good_null, good_bool, good_number, good_text, good_list, good_rec}
use Rattle.laws.specs.Good.{GoodItems, good_no_items, good_item, GoodMembers, good_no_members, good_member}
use Rattle.plain.specs.Table.{BoundedNumbers, BoundedItems, BoundedMembers}

mutual
  unfolding BoundedNumbers

  pub good_bounded : {v : Value} → GoodValue v → BoundedNumbers v
  good_bounded good_null = tt
  good_bounded good_bool = tt
  good_bounded (good_number g) = record { coefficient = g.coefficient_fits; scale = g.scale_fits }
  good_bounded (good_text t) = tt
  good_bounded (good_list gs) = good_bounded_items gs
  good_bounded (good_rec gs) = good_bounded_members gs

  pub good_bounded_items : {vs : Items} → GoodItems vs → BoundedItems vs
  good_bounded_items good_no_items = tt
  good_bounded_items (good_item g gs) = (good_bounded g, good_bounded_items gs)

  pub good_bounded_members : {ms : Members} → GoodMembers ms → BoundedMembers ms
  good_bounded_members good_no_members = tt
  good_bounded_members (good_member n g gs) = (good_bounded g, good_bounded_members gs)
