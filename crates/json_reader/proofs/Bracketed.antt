-- Lists and records alike: how reading goes between their parts, and what they are in rows and as plain JSON. Assumes nothing.
use Prim.Native.Nat.{ℕ, suc, ◌+◌, ◌*◌, ◌<◌}
use mathlib.Core.Path.{◌≡◌, refl, sym, ◌∙◌}
use mathlib.Core.Bool.{false}
use mathlib.Core.List.{List, [], ◌∷◌, ◌++◌}
use native.Mathlib.Omega.{arith}
use borrow.Author.Tests.{ne_eqb}
use lib.ListN.{length, drop, get_or, length-append}
use Rattle.definitions.specs.declared.Limits.{Limits}
use Rattle.definitions.specs.Bytes.{Bytes, bytes, look, between, is, white, white_table, found}
use Rattle.definitions.specs.Value.{Value, Items, no_items, item, items_onto, Members, no_members, member, members_onto, size, size_items, size_members}
use Rattle.definitions.specs.Plain.{plain, plain_items, plain_members}
use Rattle.definitions.specs.Json.{Open, Gap, gap, put, broken, token_move, gap_move, gap_end, move, end_move, judge, scan}
use Rattle.nodes.specs.Nodes.{kind_code, number_bits, head_word, Rows, list_rows, rec_rows, no_items_before, no_members_before}
use Rattle.nodes.specs.NodesLaws.{items_before_grow, members_before_grow, items_read, members_read, size_items_onto, size_members_onto}
use Rattle.json_reader.specs.declared.parts.Bracket.{Bracket}
use Rattle.json_reader.specs.declared.parts.Bracket.TheVariants.{Square, Curly}
use Rattle.json_reader.specs.JsonParts.{Parts, no_parts, code_of, closing_of, start_of, next_of}
use Rattle.json_reader.specs.JsonParts.{behind_of, Before, count_of, items_length, members_length, length_of, whole_of}
use Rattle.json_reader.proofs.Scan.{Here, at_end, at_byte, here, scan_token, first_value}

-- ---- reading

module _ (l : Limits) (n : ℕ) (kept : Bytes) (o : Open) where
  pub comma
      : (k : Bracket) (s : Parts k) (r : Bytes)
      → scan l n kept (gap (behind_of k s o)) (0x2C ∷ r) ≡ scan l n kept (gap (next_of k s o)) r
  unfolding scan judge move gap_move token_move white white_table found look between is
  comma Square s r = refl
  comma Curly s r = refl

  pub closes
      : (k : Bracket) (s : Parts k) (r : Bytes)
      → scan l n kept (gap (behind_of k s o)) (closing_of k ∷ r) ≡ scan l n kept (gap (put (whole_of k s) o)) r
  unfolding scan judge move gap_move token_move white white_table found look between is
  closes Square s r = refl
  closes Curly s r = refl

  pub closes_empty
      : (k : Bracket) (r : Bytes)
      → scan l n kept (gap (start_of k o)) (closing_of k ∷ r) ≡ scan l n kept (gap (put (whole_of k (no_parts k)) o)) r
  unfolding scan judge move gap_move token_move white white_table found look between is items_onto members_onto
  closes_empty Square r = refl
  closes_empty Curly r = refl

  first_name
      : (doc : Bytes) (at : ℕ) → white (get_or doc at 256) ≡ false → (get_or doc at 256 ≡ 0x7D → ⊥)
      → scan l n kept (gap (Gap.first_name o)) (drop at doc) ≡ scan l n kept (gap (Gap.next_name no_members o)) (drop at doc)
  unfolding scan judge end_move gap_end token_move is
  first_name doc at w h = pick (here doc at)
    where
      pick
          : Here doc at
          → scan l n kept (gap (Gap.first_name o)) (drop at doc) ≡ scan l n kept (gap (Gap.next_name no_members o)) (drop at doc)
      pick (at_end f) = rw f
      pick (at_byte f) =
          rw f
          (scan_token l n kept (Gap.first_name o) (get_or doc at 256) (drop (at + 1) doc) w
          ∙ rw (ne_eqb (get_or doc at 256) 0x7D h, token_move)
          (sym (scan_token l n kept (Gap.next_name no_members o) (get_or doc at 256) (drop (at + 1) doc) w)))

  pub first_part
      : (k : Bracket) (doc : Bytes) (at : ℕ) → white (get_or doc at 256) ≡ false → (get_or doc at 256 ≡ closing_of k → ⊥)
      → scan l n kept (gap (start_of k o)) (drop at doc) ≡ scan l n kept (gap (next_of k (no_parts k) o)) (drop at doc)
  first_part Square doc at w h = first_value l n kept doc at o w h
  first_part Curly doc at w h = first_name doc at w h

-- nothing else may stand behind a part
pub behind_end : (k : Bracket) (s : Parts k) (o : Open) → gap_end (behind_of k s o) ≡ broken
unfolding gap_end
behind_end Square s o = refl
behind_end Curly s o = refl

pub behind_broken
    : (k : Bracket) (s : Parts k) (o : Open) (b : ℕ) → (b ≡ 0x2C → ⊥) → (b ≡ closing_of k → ⊥) → token_move (behind_of k s o) b ≡ broken
unfolding token_move is
behind_broken Square s o b h i = rw (ne_eqb b 0x2C h, token_move) (rw (ne_eqb b 0x5D i))
behind_broken Curly s o b h i = rw (ne_eqb b 0x2C h, token_move) (rw (ne_eqb b 0x7D i))

-- ---- rows

pub no_rows : (k : Bracket) (p : List ℕ) → Before k p (no_parts k) []
no_rows Square p = no_items_before
no_rows Curly p = no_members_before

pub before_grow : (k : Bracket) (p : List ℕ) (s : Parts k) (rs q : List ℕ) → Before k p s rs → Before k (p ++ q) s rs
before_grow Square p s rs q b = items_before_grow q b
before_grow Curly p s rs q b = members_before_grow q b

pub whole_rows
    : (k : Bracket) (p : List ℕ) (s : Parts k) (rs : List ℕ) (m : ℕ) → Before k p s rs
    → Rows p m (whole_of k s) (head_word (whole_of k s) ∷ 3 * size (whole_of k s) ∷ m ∷ rs)
whole_rows Square p s rs m b = list_rows (items_read b)
whole_rows Curly p s rs m b = rec_rows (members_read b)

pub count_none : (k : Bracket) → count_of k (no_parts k) ≡ 0
unfolding size
count_none Square = refl
count_none Curly = refl

pub size_whole : (k : Bracket) (s : Parts k) → size (whole_of k s) ≡ suc (count_of k s)
unfolding size
size_whole Square s = omega (arith, size_items_onto s no_items)
size_whole Curly s = omega (arith, size_members_onto s no_members)

pub code_whole : (k : Bracket) (s : Parts k) → code_of k ≡ kind_code (whole_of k s)
unfolding kind_code
code_whole Square s = refl
code_whole Curly s = refl

pub bits_whole : (k : Bracket) (s : Parts k) → number_bits (whole_of k s) ≡ 0
unfolding number_bits
bits_whole Square s = refl
bits_whole Curly s = refl

-- ---- plain JSON

items_long : (vs : Items) → length (plain_items (bytes ",") vs) ≡ items_length vs
unfolding plain items_length bytes
items_long no_items = refl
items_long (item v vs) =
    length-append (44 ∷ plain v) (plain_items (bytes ",") vs) ∙ omega (arith, items_long vs)

items_first : (vs : Items) → 0 < size_items vs → suc (length (plain_items [] vs)) ≡ items_length vs
unfolding plain items_length size
items_first no_items h = absurd (let z : ⊥ = omega arith in z)
items_first (item v vs) h = omega (arith, length-append (plain v) (plain_items (bytes ",") vs), items_long vs)

members_long : (ms : Members) → length (plain_members (bytes ",") ms) ≡ members_length ms
unfolding plain members_length bytes
members_long no_members = refl
members_long (member n v ms) =
    simp length-append (omega (arith, members_long ms))

members_first : (ms : Members) → 0 < size_members ms → suc (length (plain_members [] ms)) ≡ members_length ms
unfolding plain members_length size bytes
members_first no_members h = absurd (let z : ⊥ = omega arith in z)
members_first (member n v ms) h = simp length-append (omega (arith, members_long ms))

items_length_onto : (vs ws : Items) → items_length (items_onto vs ws) ≡ items_length vs + items_length ws
unfolding items_onto items_length
items_length_onto no_items ws = omega arith
items_length_onto (item v vs) ws = items_length_onto vs (item v ws) ∙ omega arith

members_length_onto : (ms ns : Members) → members_length (members_onto ms ns) ≡ members_length ms + members_length ns
unfolding members_onto members_length
members_length_onto no_members ns = omega arith
members_length_onto (member n v ms) ns = members_length_onto ms (member n v ns) ∙ omega arith

length_list : (vs : Items) → length (plain (Value.list vs)) ≡ suc (suc (length (plain_items [] vs)))
unfolding plain bytes
length_list vs = simp length-append (omega arith)

length_rec : (ms : Members) → length (plain (Value.rec ms)) ≡ suc (suc (length (plain_members [] ms)))
unfolding plain bytes
length_rec ms = simp length-append (omega arith)

pub length_whole : (k : Bracket) (s : Parts k) → 0 < count_of k s → suc (length_of k s) ≡ length (plain (whole_of k s))
unfolding items_length members_length
length_whole Square s h =
    omega (
      arith,
      length_list (items_onto s no_items),
      items_first (items_onto s no_items) (omega (arith, size_items_onto s no_items)),
      items_length_onto s no_items,
    )
length_whole Curly s h =
    omega (
      arith,
      length_rec (members_onto s no_members),
      members_first (members_onto s no_members) (omega (arith, size_members_onto s no_members)),
      members_length_onto s no_members,
    )

pub length_none : (k : Bracket) → 2 ≡ length (plain (whole_of k (no_parts k)))
unfolding items_onto members_onto plain bytes
length_none Square = refl
length_none Curly = refl

pub parts_none : (k : Bracket) → length_of k (no_parts k) ≡ 0
unfolding items_length members_length
parts_none Square = refl
parts_none Curly = refl
