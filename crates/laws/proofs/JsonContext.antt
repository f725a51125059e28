-- Left contexts and what is open in a scan: what stands around a value as trees and as values; white space behind a
-- context; closing an array or an object. Assumes nothing.
use Rattle.std.specs.Prelude.{ℕ, suc, ◌+◌, ◌≡◌, refl, ◌∷◌}
use native.Mathlib.Omega.{arith}
use Rattle.std.proofs.Common.{◌∙◌}
use Rattle.std.proofs.Math.Path.{ap}
use Rattle.definitions.specs.Bytes.{Bytes}
use Rattle.definitions.specs.Value.{Items, no_items, item, items_onto, Members, no_members, member, members_onto, size, size_items, size_members}
use Rattle.definitions.specs.Json.{Open, root, in_list, in_rec, depth}
use Rattle.laws.specs.Tree.{Tree, Trees, no_trees, tree, Named, no_named, named, meaning, meaning_trees, meaning_named}
use Rattle.laws.specs.Rfc8259 as Rfc
use Rattle.laws.specs.Rfc8259.{ws_char, ws, ws_none, ws_more, structural, char_of}
use Rattle.laws.specs.Causes.{Context, top, in_array, in_object, Before, BeforeName, begun, open_around}

-- ---- a context as what is open

unfoldable pub opened : Context → Open
opened top = root
opened (in_array ts k) = in_list (meaning_trees ts) (opened k)
opened (in_object ns n k) = in_rec (meaning_named ns) n (opened k)

pub depth_opened : (k : Context) → depth (opened k) ≡ open_around k
unfolding opened depth open_around
depth_opened top = refl
depth_opened (in_array ts k) = ap suc (depth_opened k)
depth_opened (in_object ns n k) = ap suc (depth_opened k)

-- ---- latest first, and in order

unfoldable pub trees_onto : Trees → Trees → Trees
trees_onto no_trees us = us
trees_onto (tree x ts) us = trees_onto ts (tree x us)

unfoldable pub named_onto : Named → Named → Named
named_onto no_named ms = ms
named_onto (named n x ns) ms = named_onto ns (named n x ms)

pub meaning_trees_onto : (ts us : Trees) → meaning_trees (trees_onto ts us) ≡ items_onto (meaning_trees ts) (meaning_trees us)
unfolding meaning trees_onto items_onto
meaning_trees_onto no_trees us = refl
meaning_trees_onto (tree x ts) us = meaning_trees_onto ts (tree x us)

pub meaning_named_onto
    : (ns ms : Named) → meaning_named (named_onto ns ms) ≡ members_onto (meaning_named ns) (meaning_named ms)
unfolding meaning named_onto members_onto
meaning_named_onto no_named ms = refl
meaning_named_onto (named n x ns) ms = meaning_named_onto ns (named n x ms)

pub size_items_onto : (vs us : Items) → size_items (items_onto vs us) ≡ size_items vs + size_items us
unfolding size items_onto
size_items_onto no_items us = omega arith
size_items_onto (item v vs) us =
    let ih : size_items (items_onto vs (item v us)) ≡ size_items vs + (size v + size_items us) =
    size_items_onto vs (item v us) in
    omega arith

pub size_members_onto : (ms us : Members) → size_members (members_onto ms us) ≡ size_members ms + size_members us
unfolding size members_onto
size_members_onto no_members us = omega arith
size_members_onto (member n v ms) us =
    let ih : size_members (members_onto ms (member n v us)) ≡ size_members ms + (size v + size_members us) =
    size_members_onto ms (member n v us) in
    omega arith

-- ---- counts

-- how many values are begun before a name behind these members
abbrev pub begun_named : Named → Context → ℕ
begun_named ns k = suc (begun k + size_members (meaning_named ns))

module _ {n : ℕ} (k : Context) where
  pub count_scalar : (x : Tree) → size (meaning x) ≡ 1 → n ≡ suc (begun k) → n ≡ begun k + size (meaning x)
  count_scalar x h e = omega arith

  pub count_array : n ≡ begun k → suc n ≡ begun (in_array no_trees k)
  unfolding begun meaning size
  count_array e = omega arith

  pub count_object : n ≡ begun k → suc n ≡ begun_named no_named k
  unfolding meaning size
  count_object e = omega arith

  pub count_no_array : n ≡ begun (in_array no_trees k) → n ≡ begun k + size (meaning (Tree.list no_trees))
  unfolding begun meaning size
  count_no_array e = omega arith

  pub count_no_object : n ≡ begun_named no_named k → n ≡ begun k + size (meaning (Tree.rec no_named))
  unfolding meaning size
  count_no_object e = omega arith

  pub count_value
      : (ts : Trees) (x : Tree) → n ≡ begun (in_array ts k) + size (meaning x) → n ≡ begun (in_array (tree x ts) k)
  unfolding begun meaning size
  count_value ts x e = omega arith

  pub count_member
      : (ns : Named) (m : Bytes) (x : Tree) → n ≡ begun (in_object ns m k) + size (meaning x)
      → n ≡ begun_named (named m x ns) k
  unfolding begun meaning size
  count_member ns m x e = omega arith

  pub count_array_end
      : (ts : Trees) (x : Tree) → n ≡ begun (in_array ts k) + size (meaning x)
      → n ≡ begun k + size (meaning (Tree.list (trees_onto ts (tree x no_trees))))
  unfolding begun meaning size
  count_array_end ts x e =
      let h : size_items (meaning_trees (trees_onto ts (tree x no_trees))) ≡ size_items (meaning_trees ts) +
      (size (meaning x) + 0) =
      ap size_items (meaning_trees_onto ts (tree x no_trees))
      ∙ size_items_onto (meaning_trees ts) (item (meaning x) no_items) in
      omega arith

  pub count_object_end
      : (ns : Named) (m : Bytes) (x : Tree) → n ≡ begun (in_object ns m k) + size (meaning x)
      → n ≡ begun k + size (meaning (Tree.rec (named_onto ns (named m x no_named))))
  unfolding begun meaning size
  count_object_end ns m x e =
      let h : size_members (meaning_named (named_onto ns (named m x no_named))) ≡ size_members (meaning_named ns) +
      (size (meaning x) + 0) =
      ap size_members (meaning_named_onto ns (named m x no_named))
      ∙ size_members_onto (meaning_named ns) (member m (meaning x) no_members) in
      omega arith

-- ---- white space behind

pub ws_then : {s t r : Bytes} → ws s t → ws t r → ws s r
ws_then ws_none g = g
ws_then (ws_more c f) g = ws_more c (ws_then f g)

pub ws_next : {b : ℕ} {s r : Bytes} → ws s (b ∷ r) → ws_char b → ws s r
ws_next w c = ws_then w (ws_more c ws_none)

pub structural_next : {b c : ℕ} {s r : Bytes} → structural c s (b ∷ r) → ws_char b → structural c s r
structural_next (char_of v w) c = char_of v (ws_next w c)

pub before_next : {b : ℕ} {s r : Bytes} {k : Context} → Before s k (b ∷ r) → ws_char b → Before s k r
before_next (Before.start w) c = Before.start (ws_next w c)
before_next (Before.first_value f w) c = Before.first_value f (structural_next w c)
before_next (Before.next_value f v w) c = Before.next_value f v (structural_next w c)
before_next (Before.member_value f n w) c = Before.member_value f n (structural_next w c)

pub before_name_next
    : {b : ℕ} {s r : Bytes} {ns : Named} {k : Context} → BeforeName s ns k (b ∷ r) → ws_char b → BeforeName s ns k r
before_name_next (BeforeName.first_name f w) c = BeforeName.first_name f (structural_next w c)
before_name_next (BeforeName.next_name f v w) c = BeforeName.next_name f v (structural_next w c)

-- ---- closing

-- where an array began of which a value may begin at t, and that it is one with this value and others behind it
abbrev pub ArrayFrom : Bytes → Trees → Context → Bytes → Type 0
ArrayFrom s ts k t =
    (b : Bytes) × Before s k b
    × ((x : Tree) (xs : Trees) (u w r : Bytes) → Rfc.value t x u → Rfc.more_values u xs w → Rfc.end_array w r
    → Rfc.array b (trees_onto ts (tree x xs)) r)

-- where an object began of which a member may begin at t, and that it is one with this member and others behind it
abbrev pub ObjectFrom : Bytes → Named → Context → Bytes → Type 0
ObjectFrom s ns k t =
    (b : Bytes) × Before s k b
    × ((n : Bytes) (x : Tree) (xs : Named) (u w r : Bytes) → Rfc.member t n x u → Rfc.more_members u xs w
    → Rfc.end_object w r → Rfc.object b (named_onto ns (named n x xs)) r)

-- the same where a member's value may begin at t
abbrev pub MemberFrom : Bytes → Named → Bytes → Context → Bytes → Type 0
MemberFrom s ns n k t =
    (b : Bytes) × Before s k b
    × ((x : Tree) (xs : Named) (u w r : Bytes) → Rfc.value t x u → Rfc.more_members u xs w → Rfc.end_object w r
    → Rfc.object b (named_onto ns (named n x xs)) r)

abbrev pub Close : Bytes → Context → Bytes → Type 0
Close s top t = Unit {0}
Close s (in_array ts k) t = ArrayFrom s ts k t
Close s (in_object ns n k) t = MemberFrom s ns n k t

mutual
  unfolding trees_onto named_onto

  pub value_close : {s t : Bytes} {k : Context} → Before s k t → Close s k t
  value_close (Before.start w) = tt
  value_close (Before.first_value {t = b} f w) = (b, f, λ x xs u w' r v m e. Rfc.values w v m e)
  value_close (Before.next_value {x = x'} {u = u'} f v' w) =
      let (b, g, h) = value_close f in
      (b, g, λ x xs u w' r v m e. h x' (tree x xs) u' w' r v' (Rfc.next_value w v m) e)
  value_close (Before.member_value {n = n'} f a w) =
      let (b, g, h) = name_close f in
      (b, g, λ x xs u w' r v m e. h n' x xs u w' r (Rfc.name_value a w v) m e)

  pub name_close : {s t : Bytes} {ns : Named} {k : Context} → BeforeName s ns k t → ObjectFrom s ns k t
  name_close (BeforeName.first_name {t = b} f w) = (b, f, λ n x xs u w' r a m e. Rfc.members w a m e)
  name_close (BeforeName.next_name {x = x'} {u = u'} f v' w) =
      let (b, g, h) = value_close f in
      (b, g, λ n x xs u w' r a m e. h x' (named n x xs) u' w' r v' (Rfc.next_member w a m) e)
