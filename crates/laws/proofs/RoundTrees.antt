-- What a derivation of a JSON text within the limits of numbers gives: a good value, whose plain text is no longer than
-- what was derived. Assumes nothing.
use Rattle.std.specs.Prelude.{ℕ, suc, ◌+◌, ◌≤◌, ◌≡◌, refl, true, false, [], ◌∷◌, ◌++◌, length}
use Rattle.std.proofs.Common.{arith, le_refl, ◌∙◌, ap, length-append}
use Rattle.definitions.specs.Bytes.{Bytes, bytes}
use Rattle.definitions.specs.Number.{Numeral, beyond, number_of}
use Rattle.definitions.specs.Value.{Value, Items, no_items, item, Members, no_members, member}
use Rattle.definitions.specs.Json.{true_name, false_name, null_name}
use Rattle.definitions.specs.Plain.{plain_text, plain_bool, plain, plain_items, plain_members}
use Rattle.laws.specs.Rfc3629.{UTF8Octets}
use Rattle.laws.specs.Tree.{Tree, Trees, Named, meaning, meaning_trees, meaning_named, NumbersFit}
use Rattle.laws.specs.Tree.{number_fits, list_fits, rec_fits, TreesFit, tree_fits, NamedFit, named_fits}
use Rattle.laws.specs.Rfc8259 as Rfc
use Rattle.laws.specs.Good.{GoodValue, good_null, good_bool, good_number, good_text, good_list, good_rec}
use Rattle.laws.specs.Good.{GoodItems, good_no_items, good_item, GoodMembers, good_no_members, good_member}
use Rattle.laws.proofs.StringTokens.{chars_utf8}
use Rattle.laws.proofs.StringRound.{string_length}
use Rattle.laws.proofs.NumberRound.{good_number as number_good, number_length}

-- ---- good values

pub string_utf8 : {s t r : Bytes} → Rfc.string s t r → UTF8Octets t
string_utf8 (Rfc.quoted c) = chars_utf8 c

mutual
  unfolding meaning

  pub value_good : {s r : Bytes} {x : Tree} → Rfc.value s x r → NumbersFit x → GoodValue (meaning x)
  value_good Rfc.is_false f = good_bool
  value_good Rfc.is_null f = good_null
  value_good Rfc.is_true f = good_bool
  value_good (Rfc.is_object d) (rec_fits f) = good_rec (object_good d f)
  value_good (Rfc.is_array d) (list_fits f) = good_list (array_good d f)
  value_good (Rfc.is_number {d} n) (number_fits f) = good_number (number_good d f)
  value_good (Rfc.is_string d) f = good_text (string_utf8 d)

  object_good : {s r : Bytes} {ns : Named} → Rfc.object s ns r → NamedFit ns → GoodMembers (meaning_named ns)
  object_good (Rfc.empty_object a b) f = good_no_members
  object_good (Rfc.members a m ms b) (named_fits f fs) =
      let (u, g) = member_good m f in
      good_member u g (more_members_good ms fs)

  member_good
      : {s n r : Bytes} {x : Tree} → Rfc.member s n x r → NumbersFit x → UTF8Octets n × GoodValue (meaning x)
  member_good (Rfc.name_value t c d) f = (string_utf8 t, value_good d f)

  more_members_good : {s r : Bytes} {ns : Named} → Rfc.more_members s ns r → NamedFit ns → GoodMembers (meaning_named ns)
  more_members_good Rfc.no_member f = good_no_members
  more_members_good (Rfc.next_member c m ms) (named_fits f fs) =
      let (u, g) = member_good m f in
      good_member u g (more_members_good ms fs)

  array_good : {s r : Bytes} {ts : Trees} → Rfc.array s ts r → TreesFit ts → GoodItems (meaning_trees ts)
  array_good (Rfc.empty_array a b) f = good_no_items
  array_good (Rfc.values a d ds b) (tree_fits f fs) = good_item (value_good d f) (more_values_good ds fs)

  more_values_good : {s r : Bytes} {ts : Trees} → Rfc.more_values s ts r → TreesFit ts → GoodItems (meaning_trees ts)
  more_values_good Rfc.no_value f = good_no_items
  more_values_good (Rfc.next_value c d ds) (tree_fits f fs) = good_item (value_good d f) (more_values_good ds fs)

-- ---- lengths

pub ws_length : {s r : Bytes} → Rfc.ws s r → length r ≤ length s
ws_length (Rfc.ws_none {s}) = le_refl (length s)
ws_length (Rfc.ws_more {s} {r} c w) =
    let h = ws_length w in
    omega arith

structural_length : {c : ℕ} {s r : Bytes} → Rfc.structural c s r → suc (length r) ≤ length s
structural_length (Rfc.char_of {t} a b) =
    let h = ws_length a in
    let k = ws_length b in
    omega arith

items_length
    : (comma : Bytes) (v : Value) (vs : Items)
    → length (plain_items comma (item v vs)) ≡ length comma + length (plain v) + length (plain_items (bytes ",") vs)
unfolding plain_items
items_length comma v vs =
    length-append (comma ++ plain v) (plain_items (bytes ",") vs)
    ∙ ap (λ n. n + length (plain_items (bytes ",") vs)) (length-append comma (plain v))

members_length
    : (comma n : Bytes) (v : Value) (ms : Members)
    → length (plain_members comma (member n v ms))
    ≡ length comma + length (plain_text n) + 1 + length (plain v) + length (plain_members (bytes ",") ms)
unfolding plain_members bytes
members_length comma n v ms = simp length-append

list_length : (vs : Items) → length (plain (Value.list vs)) ≡ 2 + length (plain_items [] vs)
unfolding plain bytes
list_length vs =
    let h = length-append (plain_items [] vs) (0x5D ∷ []) in
    omega arith

rec_length : (ms : Members) → length (plain (Value.rec ms)) ≡ 2 + length (plain_members [] ms)
unfolding plain bytes
rec_length ms =
    let h = length-append (plain_members [] ms) (0x7D ∷ []) in
    omega arith

no_items_length : (comma : Bytes) → length (plain_items comma no_items) ≡ 0
unfolding plain_items
no_items_length comma = refl

no_members_length : (comma : Bytes) → length (plain_members comma no_members) ≡ 0
unfolding plain_members
no_members_length comma = refl

comma_length : length (bytes ",") ≡ 1
unfolding bytes
comma_length = refl

false_length : length (plain (Value.bool false)) ≡ 5
unfolding plain plain_bool false_name bytes
false_length = refl

true_length : length (plain (Value.bool true)) ≡ 4
unfolding plain plain_bool true_name bytes
true_length = refl

null_length : length (plain Value.null) ≡ 4
unfolding plain null_name bytes
null_length = refl

plain_number_length
    : {s r : Bytes} {d : Numeral} → Rfc.number s d r → beyond d ≡ false
    → length (plain (Value.number (number_of d))) + length r ≤ length s
unfolding plain
plain_number_length n f = number_length n f

plain_text_length : {s t r : Bytes} → Rfc.string s t r → length (plain (Value.text t)) + length r ≤ length s
unfolding plain
plain_text_length d = string_length d

mutual
  unfolding meaning

  -- the plain text of what was derived is no longer
  pub value_length
      : {s r : Bytes} {x : Tree} → Rfc.value s x r → NumbersFit x → length (plain (meaning x)) + length r ≤ length s
  value_length Rfc.is_false f = omega (arith, false_length)
  value_length Rfc.is_null f = omega (arith, null_length)
  value_length Rfc.is_true f = omega (arith, true_length)
  value_length (Rfc.is_object {ns} d) (rec_fits f) =
      let h = object_length d f in
      let e = rec_length (meaning_named ns) in
      omega arith
  value_length (Rfc.is_array {ts} d) (list_fits f) =
      let h = array_length d f in
      let e = list_length (meaning_trees ts) in
      omega arith
  value_length (Rfc.is_number d) (number_fits f) = plain_number_length d f
  value_length (Rfc.is_string d) f = plain_text_length d

  object_length
      : {s r : Bytes} {ns : Named} → Rfc.object s ns r → NamedFit ns
      → 2 + length (plain_members [] (meaning_named ns)) + length r ≤ length s
  object_length (Rfc.empty_object a b) f =
      let h = structural_length a in
      let k = structural_length b in
      let e = no_members_length [] in
      omega arith
  object_length (Rfc.members {n} {x} {ns} a m ms b) (named_fits f fs) =
      let h = structural_length a in
      let i = member_length m f in
      let j = more_members_length ms fs in
      let k = structural_length b in
      let e = members_length [] n (meaning x) (meaning_named ns) in
      omega arith

  member_length
      : {s n r : Bytes} {x : Tree} → Rfc.member s n x r → NumbersFit x
      → length (plain_text n) + 1 + length (plain (meaning x)) + length r ≤ length s
  member_length (Rfc.name_value t c d) f =
      let h = string_length t in
      let i = structural_length c in
      let j = value_length d f in
      omega arith

  more_members_length
      : {s r : Bytes} {ns : Named} → Rfc.more_members s ns r → NamedFit ns
      → length (plain_members (bytes ",") (meaning_named ns)) + length r ≤ length s
  more_members_length Rfc.no_member f =
      let e = no_members_length (bytes ",") in
      omega arith
  more_members_length (Rfc.next_member {n} {x} {ns} c m ms) (named_fits f fs) =
      let h = structural_length c in
      let i = member_length m f in
      let j = more_members_length ms fs in
      let e = members_length (bytes ",") n (meaning x) (meaning_named ns) in
      omega (arith, comma_length)

  array_length
      : {s r : Bytes} {ts : Trees} → Rfc.array s ts r → TreesFit ts
      → 2 + length (plain_items [] (meaning_trees ts)) + length r ≤ length s
  array_length (Rfc.empty_array a b) f =
      let h = structural_length a in
      let k = structural_length b in
      let e = no_items_length [] in
      omega arith
  array_length (Rfc.values {x} {ts} a d ds b) (tree_fits f fs) =
      let h = structural_length a in
      let i = value_length d f in
      let j = more_values_length ds fs in
      let k = structural_length b in
      let e = items_length [] (meaning x) (meaning_trees ts) in
      omega arith

  more_values_length
      : {s r : Bytes} {ts : Trees} → Rfc.more_values s ts r → TreesFit ts
      → length (plain_items (bytes ",") (meaning_trees ts)) + length r ≤ length s
  more_values_length Rfc.no_value f =
      let e = no_items_length (bytes ",") in
      omega arith
  more_values_length (Rfc.next_value {x} {ts} c d ds) (tree_fits f fs) =
      let h = structural_length c in
      let i = value_length d f in
      let j = more_values_length ds fs in
      let e = items_length (bytes ",") (meaning x) (meaning_trees ts) in
      omega (arith, comma_length)
