-- Plain JSON by the RFC's grammar: the plain text of a good value derives a tree that means the value. Assumes nothing.
use Rattle.std.specs.Prelude.{ℕ, ◌≡◌, refl, Bool, true, false, [], ◌∷◌, ◌++◌}
use Rattle.std.proofs.Common.{sym, ◌∙◌, ap, ap₂, subst, append_assoc}
use Rattle.definitions.specs.Bytes.{Bytes, bytes}
use Rattle.definitions.specs.Value.{Value, Items, item, Members, member}
use Rattle.definitions.specs.Json.{true_name, false_name, null_name}
use Rattle.definitions.specs.Plain.{plain_text, plain_bool, plain, plain_items, plain_members}
use Rattle.laws.specs.Tree.{Tree, Trees, no_trees, tree, Named, no_named, named, meaning, meaning_trees, meaning_named, NumbersFit, null_fits, bool_fits}
use Rattle.laws.specs.Tree.{number_fits, text_fits, list_fits, rec_fits, TreesFit, no_trees_fit, tree_fits, NamedFit, no_named_fit, named_fits}
use Rattle.laws.specs.Rfc8259 as Rfc
use Rattle.laws.specs.Good.{GoodValue, good_null, good_bool, good_number, good_text, good_list, good_rec}
use Rattle.laws.specs.Good.{GoodItems, good_no_items, good_item, GoodMembers, good_no_members, good_member}
use Rattle.laws.proofs.StringRound.{plain_string}
use Rattle.laws.proofs.NumberRound.{plain_number_reads}

-- a structural character with no white space around it
structural_alone : (c : ℕ) (r : Bytes) → Rfc.structural c (c ∷ r) r
structural_alone c r = Rfc.structural.char_of Rfc.ws.ws_none Rfc.ws.ws_none

-- ---- how the pieces stand one behind the other

-- the pieces of a text, a comma before each but the first
items_split
    : (comma : Bytes) (v : Value) (vs : Items) (r : Bytes)
    → plain_items comma (item v vs) ++ r ≡ comma ++ (plain v ++ (plain_items (bytes ",") vs ++ r))
unfolding plain_items
items_split comma v vs r = simp append_assoc

members_split
    : (comma n : Bytes) (v : Value) (ms : Members) (r : Bytes)
    → plain_members comma (member n v ms) ++ r
    ≡ comma ++ (plain_text n ++ (0x3A ∷ plain v ++ (plain_members (bytes ",") ms ++ r)))
unfolding plain_members bytes
members_split comma n v ms r =
    append_assoc (comma ++ plain_text n ++ bytes ":" ++ plain v) (plain_members (bytes ",") ms) r
    ∙ five comma (plain_text n) (bytes ":") (plain v) (plain_members (bytes ",") ms ++ r)
  where
    five : (a b c d z : Bytes) → a ++ b ++ c ++ d ++ z ≡ a ++ (b ++ (c ++ (d ++ z)))
    five a b c d z = simp append_assoc

-- ---- values

bool_derives
    : (b : Bool) (r : Bytes)
    → (x : Tree) × Rfc.value (plain_bool b ++ r) x r × (meaning x ≡ Value.bool b) × NumbersFit x
unfolding plain_bool true_name false_name bytes meaning
bool_derives true r = (Tree.bool true, Rfc.is_true, refl, bool_fits)
bool_derives false r = (Tree.bool false, Rfc.is_false, refl, bool_fits)

mutual
  unfolding plain null_name bytes meaning

  -- the plain text of a good value derives a tree that means the value
  value_derives_by
      : {v : Value} → GoodValue v → (r : Bytes)
      → (x : Tree) × Rfc.value (plain v ++ r) x r × (meaning x ≡ v) × NumbersFit x
  value_derives_by good_null r = (Tree.null, Rfc.is_null, refl, null_fits)
  value_derives_by (good_bool {b}) r = bool_derives b r
  value_derives_by (good_number {x} g) r =
      let (d, n, e, f) = plain_number_reads x g r in
      (Tree.number d, Rfc.is_number n, ap Value.number e, number_fits f)
  value_derives_by (good_text {t} u) r = (Tree.text t, Rfc.is_string (plain_string t u r), refl, text_fits)
  value_derives_by (good_list {vs} gs) r =
      let (ts, d, e, f) = array_derives gs r in
      let p = ap {B = Bytes} (λ z. 0x5B ∷ z) (append_assoc (plain_items [] vs) (0x5D ∷ []) r) in
      (Tree.list ts, Rfc.is_array (subst (λ s. Rfc.array s ts r) (sym p) d), ap Value.list e, list_fits f)
  value_derives_by (good_rec {ms} gs) r =
      let (ns, d, e, f) = object_derives gs r in
      let p = ap {B = Bytes} (λ z. 0x7B ∷ z) (append_assoc (plain_members [] ms) (0x7D ∷ []) r) in
      (Tree.rec ns, Rfc.is_object (subst (λ s. Rfc.object s ns r) (sym p) d), ap Value.rec e, rec_fits f)

  array_derives
      : {vs : Items} → GoodItems vs → (r : Bytes)
      → (ts : Trees) × Rfc.array (0x5B ∷ plain_items [] vs ++ 0x5D ∷ r) ts r × (meaning_trees ts ≡ vs) × TreesFit ts
  array_derives good_no_items r =
      (no_trees, Rfc.empty_array (structural_alone 0x5B (0x5D ∷ r)) (structural_alone 0x5D r), refl, no_trees_fit)
  array_derives (good_item {v} {vs} g gs) r =
      let (ts, d, e, f) = more_items_derive gs (0x5D ∷ r) in
      let (x, d₁, e₁, f₁) = value_derives_by g (plain_items (bytes ",") vs ++ 0x5D ∷ r) in
      let p = ap {B = Bytes} (λ z. 0x5B ∷ z) (items_split [] v vs (0x5D ∷ r)) in (
        tree x ts,
        subst (λ s. Rfc.array s (tree x ts) r) (sym p) (Rfc.values (structural_alone 0x5B _) d₁ d (structural_alone 0x5D r)),
        ap₂ item e₁ e,
        tree_fits f₁ f,
      )

  more_items_derive
      : {vs : Items} → GoodItems vs → (r : Bytes)
      → (ts : Trees) × Rfc.more_values (plain_items (bytes ",") vs ++ r) ts r × (meaning_trees ts ≡ vs) × TreesFit ts
  more_items_derive good_no_items r = (no_trees, Rfc.no_value, refl, no_trees_fit)
  more_items_derive (good_item {v} {vs} g gs) r =
      let (ts, d, e, f) = more_items_derive gs r in
      let (x, d₁, e₁, f₁) = value_derives_by g (plain_items (bytes ",") vs ++ r) in (
        tree x ts,
        subst (λ s. Rfc.more_values s (tree x ts) r) (sym (items_split (bytes ",") v vs r))
            (Rfc.next_value (structural_alone 0x2C _) d₁ d),
        ap₂ item e₁ e,
        tree_fits f₁ f,
      )

  object_derives
      : {ms : Members} → GoodMembers ms → (r : Bytes)
      → (ns : Named) × Rfc.object (0x7B ∷ plain_members [] ms ++ 0x7D ∷ r) ns r × (meaning_named ns ≡ ms) × NamedFit ns
  object_derives good_no_members r =
      (no_named, Rfc.empty_object (structural_alone 0x7B (0x7D ∷ r)) (structural_alone 0x7D r), refl, no_named_fit)
  object_derives (good_member {n} {v} {ms} u g gs) r =
      let (ns, d, e, f) = more_members_derive gs (0x7D ∷ r) in
      let (x, d₁, e₁, f₁) = value_derives_by g (plain_members (bytes ",") ms ++ 0x7D ∷ r) in
      let p = ap {B = Bytes} (λ z. 0x7B ∷ z) (members_split [] n v ms (0x7D ∷ r)) in (
        named n x ns,
        subst (λ s. Rfc.object s (named n x ns) r) (sym p)
            (Rfc.members (structural_alone 0x7B _) (Rfc.name_value (plain_string n u _) (structural_alone 0x3A _) d₁) d
            (structural_alone 0x7D r)),
        ap₂ (member n) e₁ e,
        named_fits f₁ f,
      )

  more_members_derive
      : {ms : Members} → GoodMembers ms → (r : Bytes)
      → (ns : Named) × Rfc.more_members (plain_members (bytes ",") ms ++ r) ns r × (meaning_named ns ≡ ms) × NamedFit ns
  more_members_derive good_no_members r = (no_named, Rfc.no_member, refl, no_named_fit)
  more_members_derive (good_member {n} {v} {ms} u g gs) r =
      let (ns, d, e, f) = more_members_derive gs r in
      let (x, d₁, e₁, f₁) = value_derives_by g (plain_members (bytes ",") ms ++ r) in (
        named n x ns,
        subst (λ s. Rfc.more_members s (named n x ns) r) (sym (members_split (bytes ",") n v ms r))
            (Rfc.next_member (structural_alone 0x2C _) (Rfc.name_value (plain_string n u _) (structural_alone 0x3A _) d₁) d),
        ap₂ (member n) e₁ e,
        named_fits f₁ f,
      )

-- the plain text of a good value derives a tree that means the value
pub value_derives
    : (v : Value) → GoodValue v → (r : Bytes)
    → (x : Tree) × Rfc.value (plain v ++ r) x r × (meaning x ≡ v) × NumbersFit x
value_derives v g r = value_derives_by g r
