-- Laws of plain JSON over lists and records: brackets, commas, one part more, and lengths. Assumes nothing.
use Rattle.std.specs.Prelude.{ℕ, ◌+◌, max, ◌≡◌, refl, [], ◌++◌, length}
use Rattle.std.proofs.Common.{arith, sym, ap, ◌∙◌, append_assoc, append-nil, length-append}
use Rattle.definitions.specs.Bytes.{Bytes, bytes}
use Rattle.definitions.specs.Value.{Value, Items, no_items, item, items_onto, Members, no_members, member, members_onto}
use Rattle.definitions.specs.Plain.{plain, plain_items, plain_members, plain_text}

-- ---- plain

pub plain_list : (vs : Items) → plain (Value.list vs) ≡ bytes "[" ++ plain_items [] vs ++ bytes "]"
unfolding plain
plain_list vs = refl

pub plain_rec : (ms : Members) → plain (Value.rec ms) ≡ bytes "{" ++ plain_members [] ms ++ bytes "}"
unfolding plain
plain_rec ms = refl

-- ---- plain-items

-- what stands before a first element
pub plain_items_prefix : (s : Bytes) (v : Value) (vs : Items) → plain_items s (item v vs) ≡ s ++ plain_items [] (item v vs)
unfolding plain
plain_items_prefix s v vs = append_assoc s (plain v) (plain_items (bytes ",") vs)

-- one element more
unfoldable pub items_then : Items → Value → Items
items_then no_items w = item w no_items
items_then (item v vs) w = item v (items_then vs w)

pub items_onto_then : (vs ws : Items) (w : Value) → items_onto vs (items_then ws w) ≡ items_then (items_onto vs ws) w
unfolding items_onto items_then
items_onto_then no_items ws w = refl
items_onto_then (item v vs) ws w = items_onto_then vs (item v ws) w

behind_items : (vs : Items) (w : Value) → plain_items (bytes ",") (items_then vs w) ≡ plain_items (bytes ",") vs ++ (bytes "," ++ plain w)
unfolding plain items_then
behind_items no_items w = append-nil (bytes "," ++ plain w)
behind_items (item v vs) w =
    ap (λ (s : Bytes). bytes "," ++ plain v ++ s) (behind_items vs w)
    ∙ sym (append_assoc (bytes "," ++ plain v) (plain_items (bytes ",") vs) (bytes "," ++ plain w))

pub plain_items_then
    : (s : Bytes) (v : Value) (vs : Items) (w : Value)
    → plain_items s (items_then (item v vs) w) ≡ plain_items s (item v vs) ++ (bytes "," ++ plain w)
unfolding plain items_then
plain_items_then s v vs w =
    ap (λ (t : Bytes). s ++ plain v ++ t) (behind_items vs w)
    ∙ sym (append_assoc (s ++ plain v) (plain_items (bytes ",") vs) (bytes "," ++ plain w))

-- ---- plain-members

pub plain_members_prefix
    : (s n : Bytes) (v : Value) (ms : Members) → plain_members s (member n v ms) ≡ s ++ plain_members [] (member n v ms)
unfolding plain
plain_members_prefix s n v ms =
    ap (λ (t : Bytes). t ++ plain_members (bytes ",") ms)
    (ap (λ (t : Bytes). t ++ plain v)
    (append_assoc s (plain_text n) (bytes ":")) ∙ append_assoc s (plain_text n ++ bytes ":") (plain v))
    ∙ append_assoc s (plain_text n ++ bytes ":" ++ plain v) (plain_members (bytes ",") ms)

-- one member more
unfoldable pub members_then : Members → Bytes → Value → Members
members_then no_members m w = member m w no_members
members_then (member n v ms) m w = member n v (members_then ms m w)

pub members_onto_then
    : (ms ns : Members) (m : Bytes) (w : Value) → members_onto ms (members_then ns m w) ≡ members_then (members_onto ms ns) m w
unfolding members_onto members_then
members_onto_then no_members ns m w = refl
members_onto_then (member n v ms) ns m w = members_onto_then ms (member n v ns) m w

behind_members
    : (ms : Members) (m : Bytes) (w : Value)
    → plain_members (bytes ",") (members_then ms m w)
    ≡ plain_members (bytes ",") ms ++ (bytes "," ++ plain_text m ++ bytes ":" ++ plain w)
unfolding plain members_then
behind_members no_members m w = append-nil (bytes "," ++ plain_text m ++ bytes ":" ++ plain w)
behind_members (member n v ms) m w =
    ap (λ (s : Bytes). bytes "," ++ plain_text n ++ bytes ":" ++ plain v ++ s) (behind_members ms m w)
    ∙ sym
    (append_assoc (bytes "," ++ plain_text n ++ bytes ":" ++ plain v) (plain_members (bytes ",") ms)
    (bytes "," ++ plain_text m ++ bytes ":" ++ plain w))

pub plain_members_then
    : (s n : Bytes) (v : Value) (ms : Members) (m : Bytes) (w : Value)
    → plain_members s (members_then (member n v ms) m w)
    ≡ plain_members s (member n v ms) ++ (bytes "," ++ plain_text m ++ bytes ":" ++ plain w)
unfolding plain members_then
plain_members_then s n v ms m w =
    ap (λ (t : Bytes). s ++ plain_text n ++ bytes ":" ++ plain v ++ t) (behind_members ms m w)
    ∙ sym
    (append_assoc (s ++ plain_text n ++ bytes ":" ++ plain v) (plain_members (bytes ",") ms)
    (bytes "," ++ plain_text m ++ bytes ":" ++ plain w))

-- ---- lengths

-- how long the elements are, each with a comma
unfoldable pub items_length : Items → ℕ
items_length no_items = 0
items_length (item v vs) = 1 + length (plain v) + items_length vs

-- how long the members are, each with a comma and a colon
unfoldable pub members_length : Members → ℕ
members_length no_members = 0
members_length (member n v ms) = 2 + length (plain_text n) + length (plain v) + members_length ms

pub length_plain_items : (s : Bytes) (v : Value) (vs : Items) → length (plain_items s (item v vs)) + 1 ≡ length s + items_length (item v vs)
unfolding plain items_length bytes
length_plain_items s v no_items =
    omega (arith, length-append (s ++ plain v) [], length-append s (plain v))
length_plain_items s v (item w vs) =
    omega (
      arith,
      length-append (s ++ plain v) (plain_items (bytes ",") (item w vs)),
      length-append s (plain v),
      length_plain_items (bytes ",") w vs,
    )

pub length_plain_members
    : (s n : Bytes) (v : Value) (ms : Members) → length (plain_members s (member n v ms)) + 1 ≡ length s + members_length (member n v ms)
unfolding plain members_length bytes
length_plain_members s n v no_members =
    omega (
      arith,
      length-append (s ++ plain_text n ++ bytes ":" ++ plain v) [],
      length-append (s ++ plain_text n ++ bytes ":") (plain v),
      length-append (s ++ plain_text n) (bytes ":"),
      length-append s (plain_text n),
    )
length_plain_members s n v (member m w ms) =
    omega (
      arith,
      length-append (s ++ plain_text n ++ bytes ":" ++ plain v) (plain_members (bytes ",") (member m w ms)),
      length-append (s ++ plain_text n ++ bytes ":") (plain v),
      length-append (s ++ plain_text n) (bytes ":"),
      length-append s (plain_text n),
      length_plain_members (bytes ",") m w ms,
    )

-- a list has a comma less than elements, and two brackets
pub length_list : (vs : Items) → length (plain (Value.list vs)) ≡ 1 + max 1 (items_length vs)
unfolding plain items_length bytes
length_list no_items = refl
length_list (item v vs) =
    omega (arith, length-append (bytes "[" ++ plain_items [] (item v vs)) (bytes "]"), length_plain_items [] v vs)

pub length_rec : (ms : Members) → length (plain (Value.rec ms)) ≡ 1 + max 1 (members_length ms)
unfolding plain members_length bytes
length_rec no_members = refl
length_rec (member n v ms) =
    omega (arith, length-append (bytes "{" ++ plain_members [] (member n v ms)) (bytes "}"), length_plain_members [] n v ms)

pub items_length_then : (vs : Items) (w : Value) → items_length (items_then vs w) ≡ items_length vs + (1 + length (plain w))
unfolding items_length items_then
items_length_then no_items w = omega arith
items_length_then (item v vs) w = omega (arith, items_length_then vs w)

pub members_length_then
    : (ms : Members) (m : Bytes) (w : Value)
    → members_length (members_then ms m w) ≡ members_length ms + (2 + length (plain_text m) + length (plain w))
unfolding members_length members_then
members_length_then no_members m w = omega arith
members_length_then (member n v ms) m w = omega (arith, members_length_then ms m w)
