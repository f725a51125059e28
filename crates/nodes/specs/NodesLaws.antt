-- Laws of the node table, in the order of its definitions. Assumes nothing.
use Rattle.std.specs.Prelude.{ℕ, ◌+◌, ◌-◌, ◌*◌, ◌/◌, ◌%◌, ◌≤◌, ◌<◌, ◌≡◌, refl, Bool, true, false, ◌||◌, List, [], ◌∷◌, ◌++◌, length, take, drop, get_or}
use Rattle.std.proofs.Common.{sym, ap, ◌∙◌, append_assoc, append-nil, add-zero, arith, lt-ltb, le-ltb, length-append, take-add, drop-drop, get_or-drop}
use Rattle.std.proofs.Math.Bool.{or_assoc, or_comm}
use Rattle.std.proofs.Math.Seq.{take-length, take-append_seam}
use Rattle.definitions.specs.Bytes.{Bytes, same}
use Rattle.definitions.specs.Value.{Value, Items, no_items, item, items_onto, Members, no_members}
use Rattle.definitions.specs.Value.{member, members_onto, has_name, size, size_items, size_members}
use Rattle.definitions.specs.Plain.{plain}
use Rattle.pool.specs.PoolLaws.{text_in_front}
use Rattle.nodes.specs.Nodes.{sign_bit, kind_code, number_bits, head_word, head_of, row_size, reference, Refers, refers, Rows, null_row}
use Rattle.nodes.specs.Nodes.{bool_row, number_row, text_row, list_rows, rec_rows, ItemRows, no_item_rows, item_rows, MemberRows, no_member_rows}
use Rattle.nodes.specs.Nodes.{member_rows, ItemsBefore, no_items_before, item_before, MembersBefore, no_members_before, member_before}

-- ---- words of a row

pub head_word_is
    : (v : Value) {kind bits written : ℕ} → kind ≡ kind_code v → bits ≡ number_bits v → written ≡ length (plain v)
    → head_of kind bits written ≡ head_word v
unfolding head_word
head_word_is v e f g = omega (arith, e, f, g)

pub sign_small : (b : Bool) → sign_bit b ≤ 1
unfolding sign_bit
sign_small true = omega arith
sign_small false = omega arith

pub reference_word : (w n : ℕ) → w < 65536 → reference w n % 65536 ≡ w
unfolding reference
reference_word w n h = omega arith

pub reference_bytes : (w n : ℕ) → w < 65536 → reference w n / 65536 ≡ n
unfolding reference
reference_bytes w n h = omega arith

-- ---- a pool that grows

pub refers_grow : {p : List ℕ} {t : Bytes} {k : ℕ} (q : List ℕ) → Refers p t k → Refers (p ++ q) t k
refers_grow {p} {t} q (refers w h e) =
    refers w (omega (arith, h, length-append p q))
    (text_in_front p (p ++ q) (length p) w (length t) (take-append_seam p q ∙ sym (take-length p)) h ∙ e)

mutual
  rows_grow_at : (v : Value) {p : List ℕ} {m : ℕ} {rs : List ℕ} (q : List ℕ) → Rows p m v rs → Rows (p ++ q) m v rs
  rows_grow_at Value.null q null_row = null_row
  rows_grow_at (Value.bool b) q bool_row = bool_row
  rows_grow_at (Value.number x) q number_row = number_row
  rows_grow_at (Value.text t) q (text_row f) = text_row (refers_grow q f)
  rows_grow_at (Value.list vs) q (list_rows is) = list_rows (item_rows_grow_at vs q is)
  rows_grow_at (Value.rec ms) q (rec_rows ns) = rec_rows (member_rows_grow_at ms q ns)

  item_rows_grow_at : (vs : Items) {p rs : List ℕ} (q : List ℕ) → ItemRows p vs rs → ItemRows (p ++ q) vs rs
  item_rows_grow_at no_items q no_item_rows = no_item_rows
  item_rows_grow_at (item v vs) q (item_rows r is) = item_rows (rows_grow_at v q r) (item_rows_grow_at vs q is)

  member_rows_grow_at : (ms : Members) {p rs : List ℕ} (q : List ℕ) → MemberRows p ms rs → MemberRows (p ++ q) ms rs
  member_rows_grow_at no_members q no_member_rows = no_member_rows
  member_rows_grow_at (member n v ms) q (member_rows f r ns) =
      member_rows (refers_grow q f) (rows_grow_at v q r) (member_rows_grow_at ms q ns)

pub rows_grow : {p : List ℕ} {m : ℕ} {v : Value} {rs : List ℕ} (q : List ℕ) → Rows p m v rs → Rows (p ++ q) m v rs
rows_grow {v} q r = rows_grow_at v q r

pub item_rows_grow : {p : List ℕ} {vs : Items} {rs : List ℕ} (q : List ℕ) → ItemRows p vs rs → ItemRows (p ++ q) vs rs
item_rows_grow {vs} q is = item_rows_grow_at vs q is

pub member_rows_grow
    : {p : List ℕ} {ms : Members} {rs : List ℕ} (q : List ℕ) → MemberRows p ms rs → MemberRows (p ++ q) ms rs
member_rows_grow {ms} q ns = member_rows_grow_at ms q ns

pub items_before_grow
    : {p : List ℕ} {vs : Items} {rs : List ℕ} (q : List ℕ) → ItemsBefore p vs rs → ItemsBefore (p ++ q) vs rs
items_before_grow q no_items_before = no_items_before
items_before_grow q (item_before b r) = item_before (items_before_grow q b) (rows_grow q r)

pub members_before_grow
    : {p : List ℕ} {ms : Members} {rs : List ℕ} (q : List ℕ) → MembersBefore p ms rs → MembersBefore (p ++ q) ms rs
members_before_grow q no_members_before = no_members_before
members_before_grow q (member_before b f r) =
    member_before (members_before_grow q b) (refers_grow q f) (rows_grow q r)

-- the used part of a pool grows from its first t words to its first u
pub grown
    : (p p' : List ℕ) (t u : ℕ) → t ≤ u → t ≤ length p → take t p' ≡ take t p
    → take u p' ≡ take t p ++ take (u - t) (drop t p')
grown p p' t u h l e =
    ap (λ (n : ℕ). take n p') (let f : u ≡ t + (u - t) = omega arith in f)
    ∙ take-add t (u - t) p'
    ∙ ap (λ (s : List ℕ). s ++ take (u - t) (drop t p')) e

-- ---- how many words

mutual
  unfolding size

  length_rows_at : (v : Value) {p : List ℕ} {m : ℕ} {rs : List ℕ} → Rows p m v rs → length rs ≡ 3 * size v
  length_rows_at Value.null null_row = refl
  length_rows_at (Value.bool b) bool_row = refl
  length_rows_at (Value.number x) number_row = refl
  length_rows_at (Value.text t) (text_row f) = refl
  length_rows_at (Value.list vs) (list_rows is) = omega (arith, length_item_rows_at vs is)
  length_rows_at (Value.rec ms) (rec_rows ns) = omega (arith, length_member_rows_at ms ns)

  length_item_rows_at : (vs : Items) {p rs : List ℕ} → ItemRows p vs rs → length rs ≡ 3 * size_items vs
  length_item_rows_at no_items no_item_rows = refl
  length_item_rows_at (item v vs) (item_rows {rs} {qs} r is) =
      omega (arith, length-append rs qs, length_rows_at v r, length_item_rows_at vs is)

  length_member_rows_at : (ms : Members) {p rs : List ℕ} → MemberRows p ms rs → length rs ≡ 3 * size_members ms
  length_member_rows_at no_members no_member_rows = refl
  length_member_rows_at (member n v ms) (member_rows {rs} {qs} f r ns) =
      omega (arith, length-append rs qs, length_rows_at v r, length_member_rows_at ms ns)

pub length_rows : {p : List ℕ} {m : ℕ} {v : Value} {rs : List ℕ} → Rows p m v rs → length rs ≡ 3 * size v
length_rows {v} r = length_rows_at v r

pub length_item_rows : {p : List ℕ} {vs : Items} {rs : List ℕ} → ItemRows p vs rs → length rs ≡ 3 * size_items vs
length_item_rows {vs} is = length_item_rows_at vs is

pub length_member_rows : {p : List ℕ} {ms : Members} {rs : List ℕ} → MemberRows p ms rs → length rs ≡ 3 * size_members ms
length_member_rows {ms} ns = length_member_rows_at ms ns

-- ---- the first row

-- how a value's rows begin
pub record RowBegins (v : Value) (m : ℕ) (rs : List ℕ) : Type 0 where
  pub payload : ℕ
  pub others : List ℕ
  pub split : rs ≡ head_word v ∷ payload ∷ m ∷ others

pub rows_begin : {p : List ℕ} {m : ℕ} {v : Value} {rs : List ℕ} → Rows p m v rs → RowBegins v m rs
rows_begin null_row = record { payload = 0; others = []; split = refl }
rows_begin bool_row = record { payload = 0; others = []; split = refl }
rows_begin (number_row {x}) = record { payload = x.coefficient; others = []; split = refl }
rows_begin (text_row {k} f) = record { payload = k; others = []; split = refl }
rows_begin (list_rows {vs} {rs} is) = record { payload = 3 * size (Value.list vs); others = rs; split = refl }
rows_begin (rec_rows {ms} {rs} ns) = record { payload = 3 * size (Value.rec ms); others = rs; split = refl }

-- the third word is the name
pub rows_name : {p : List ℕ} {m : ℕ} {v : Value} {rs : List ℕ} → Rows p m v rs → get_or rs 2 0 ≡ m
rows_name null_row = refl
rows_name bool_row = refl
rows_name number_row = refl
rows_name (text_row f) = refl
rows_name (list_rows is) = refl
rows_name (rec_rows ns) = refl

-- ---- how many words the value at a row takes

-- the words of a table from a row on
pub get_or_row : (ns : List ℕ) (row i : ℕ) {xs : List ℕ} → drop row ns ≡ xs → get_or ns (row + i) 0 ≡ get_or xs i 0
get_or_row ns row i e = sym (get_or-drop row ns i 0) ∙ ap (λ (l : List ℕ). get_or l i 0) e

-- behind the first of them
pub drop_row : (ns : List ℕ) (row n : ℕ) {xs : List ℕ} → drop row ns ≡ xs → drop (row + n) ns ≡ drop n xs
drop_row ns row n e = sym (drop-drop n row ns) ∙ ap (drop n) e

kind_at
    : (ns : List ℕ) (row : ℕ) (v : Value) {x m : ℕ} {rs : List ℕ} → drop row ns ≡ head_word v ∷ x ∷ m ∷ rs → kind_code v < 8
    → get_or ns row 0 % 8 ≡ kind_code v
unfolding head_word
kind_at ns row v e h =
    let f : get_or ns row 0 ≡ head_word v = ap (λ (i : ℕ). get_or ns i 0) (sym (add-zero row)) ∙ get_or_row ns row 0 e in
    omega arith

pub row_size_three : (ns : List ℕ) (row : ℕ) → get_or ns row 0 % 8 ≤ 4 → row_size ns row ≡ 3
unfolding row_size
row_size_three ns row h = rw (le-ltb 4 (get_or ns row 0 % 8) h, row_size)

pub row_size_payload : (ns : List ℕ) (row : ℕ) → 4 < get_or ns row 0 % 8 → row_size ns row ≡ get_or ns (row + 1) 0
unfolding row_size
row_size_payload ns row h = rw (lt-ltb 4 (get_or ns row 0 % 8) h, row_size)

sized_as_scalar
    : (ns : List ℕ) (row : ℕ) (v : Value) {x m : ℕ} {rs : List ℕ} → drop row ns ≡ head_word v ∷ x ∷ m ∷ rs → kind_code v ≤ 4
    → row_size ns row ≡ 3
sized_as_scalar ns row v e h = row_size_three ns row (omega (arith, kind_at ns row v e (omega arith)))

sized_as_parts
    : (ns : List ℕ) (row : ℕ) (v : Value) {x m : ℕ} {rs : List ℕ} → drop row ns ≡ head_word v ∷ x ∷ m ∷ rs → 4 < kind_code v
    → kind_code v < 8
    → row_size ns row ≡ x
sized_as_parts ns row v e l h =
    row_size_payload ns row (omega (arith, kind_at ns row v e h)) ∙ get_or_row ns row 1 e

pub row_size_is
    : {p : List ℕ} {m : ℕ} {v : Value} {rs : List ℕ} (ns qs : List ℕ) (row : ℕ) → Rows p m v rs → drop row ns ≡ rs ++ qs
    → row_size ns row ≡ length rs
unfolding kind_code
row_size_is ns qs row null_row e = sized_as_scalar ns row Value.null e (omega arith)
row_size_is ns qs row (bool_row {b = true}) e = sized_as_scalar ns row (Value.bool true) e (omega arith)
row_size_is ns qs row (bool_row {b = false}) e = sized_as_scalar ns row (Value.bool false) e (omega arith)
row_size_is ns qs row (number_row {x}) e = sized_as_scalar ns row (Value.number x) e (omega arith)
row_size_is ns qs row (text_row {t} f) e = sized_as_scalar ns row (Value.text t) e (omega arith)
row_size_is {p} {m} ns qs row (list_rows {vs} is) e =
    sized_as_parts ns row (Value.list vs) e (omega arith) (omega arith) ∙ sym (length_rows {p = p} {m = m} (list_rows is))
row_size_is {p} {m} ns qs row (rec_rows {ms} ns') e =
    sized_as_parts ns row (Value.rec ms) e (omega arith) (omega arith) ∙ sym (length_rows {p = p} {m = m} (rec_rows ns'))

-- the name of the value at a row
pub row_name_is
    : {p : List ℕ} {m : ℕ} {v : Value} {rs : List ℕ} (ns qs : List ℕ) (row : ℕ) → Rows p m v rs → drop row ns ≡ rs ++ qs
    → get_or ns (row + 2) 0 ≡ m
row_name_is {v} {rs} ns qs row r e =
    let b = rows_begin r in get_or_row ns row 2 (e ∙ ap (λ (l : List ℕ). l ++ qs) b.split)

-- ---- parts that are being read

pub items_before_rows
    : {p : List ℕ} {vs ws : Items} {rs qs : List ℕ} → ItemsBefore p vs rs → ItemRows p ws qs
    → ItemRows p (items_onto vs ws) (rs ++ qs)
unfolding items_onto
items_before_rows no_items_before is = is
items_before_rows {p} {qs} (item_before {v} {vs} {rs} {qs = ps} b r) is =
    rw (append_assoc rs ps qs) (items_before_rows b (item_rows r is))

pub members_before_rows
    : {p : List ℕ} {ms ns : Members} {rs qs : List ℕ} → MembersBefore p ms rs → MemberRows p ns qs
    → MemberRows p (members_onto ms ns) (rs ++ qs)
unfolding members_onto
members_before_rows no_members_before ns = ns
members_before_rows {p} {qs} (member_before {n} {k} {v} {ms} {rs} {qs = ps} b f r) ns =
    rw (append_assoc rs ps qs) (members_before_rows b (member_rows f r ns))

-- all that have been read, in order
pub items_read : {p : List ℕ} {vs : Items} {rs : List ℕ} → ItemsBefore p vs rs → ItemRows p (items_onto vs no_items) rs
items_read {rs} b = rw (append-nil rs) at (items_before_rows b no_item_rows)

pub members_read : {p : List ℕ} {ms : Members} {rs : List ℕ} → MembersBefore p ms rs → MemberRows p (members_onto ms no_members) rs
members_read {rs} b = rw (append-nil rs) at (members_before_rows b no_member_rows)

pub size_items_onto : (vs ws : Items) → size_items (items_onto vs ws) ≡ size_items vs + size_items ws
unfolding items_onto size
size_items_onto no_items ws = omega arith
size_items_onto (item v vs) ws = size_items_onto vs (item v ws) ∙ omega arith

pub size_members_onto : (ms ns : Members) → size_members (members_onto ms ns) ≡ size_members ms + size_members ns
unfolding members_onto size
size_members_onto no_members ns = omega arith
size_members_onto (member n v ms) ns = size_members_onto ms (member n v ns) ∙ omega arith

-- the order of the members does not matter for a name
pub has_name_onto : (t : Bytes) (ms ns : Members) → has_name t (members_onto ms ns) ≡ has_name t ms || has_name t ns
unfolding members_onto has_name
has_name_onto t no_members ns = refl
has_name_onto t (member n v ms) ns =
    has_name_onto t ms (member n v ns)
    ∙ sym (or_assoc (has_name t ms) (same t n) (has_name t ns))
    ∙ ap (λ (b : Bool). b || has_name t ns) (or_comm (has_name t ms) (same t n))

pub has_name_read : (t : Bytes) (ms : Members) → has_name t (members_onto ms no_members) ≡ has_name t ms
unfolding has_name
has_name_read t ms = has_name_onto t ms no_members ∙ or_comm (has_name t ms) false

size_no_items : size_items no_items ≡ 0
unfolding size
size_no_items = refl

size_no_members : size_members no_members ≡ 0
unfolding size
size_no_members = refl

pub length_items_before : {p : List ℕ} {vs : Items} {rs : List ℕ} → ItemsBefore p vs rs → length rs ≡ 3 * size_items vs
length_items_before {vs} b = length_item_rows (items_read b) ∙ omega (arith, size_items_onto vs no_items, size_no_items)

pub length_members_before : {p : List ℕ} {ms : Members} {rs : List ℕ} → MembersBefore p ms rs → length rs ≡ 3 * size_members ms
length_members_before {ms} b =
    length_member_rows (members_read b) ∙ omega (arith, size_members_onto ms no_members, size_no_members)
