-- Laws of the shape table, in the order of its definitions. Assumes nothing.
use Rattle.std.specs.Prelude.{ℕ, ◌+◌, ◌*◌, ◌/◌, ◌%◌, ◌^◌, ◌≤◌, ◌<◌, ◌≡◌, refl, Bool, true, false, not, ◌||◌, List, ◌++◌, eqb, length, drop, get_or}
use Rattle.std.proofs.Common.{sym, ap₂, ◌∙◌, append_assoc, add-zero, mul_comm, eq-eqb, ne_eqb, arith, pow_pos, length-append, length-drop, drop_at}
use Rattle.std.proofs.Math.Path.{ap}
use Rattle.std.specs.Int.Bits.{bit_and, bit_or, and_zero_r}
use Rattle.std.proofs.lemmas.Nat.{and_block, or_block, and_mask}
use Rattle.std.proofs.Math.Seq.{drop-append_seam}
use Rattle.definitions.specs.Bytes.{Bytes}
use Rattle.definitions.specs.Shape.{Kind, Numeric, no_number, int_only, int_and_dec, Shape, shape, Element, no_list, list_of, Record, no_rec, rec_of}
use Rattle.definitions.specs.Shape.{Fields, no_fields, field, has, has_int, has_dec, has_list, has_rec, only_null}
use Rattle.definitions.specs.Shape.{forms, forms_element, forms_record, forms_fields}
use Rattle.definitions.specs.Join.{with_null, join_numeric, join, join_element, join_record}
use Rattle.laws.specs.JoinLaws.{join_null}
use Rattle.nodes.specs.Nodes.{Refers}
use Rattle.nodes.specs.NodesLaws.{refers_grow, get_or_row, drop_row}
use Rattle.shapes.specs.Shapes.{kind_bit, bit, numeric_bits, kind_bits, has_bit, head_word, ShapeRows, shape_rows}
use Rattle.shapes.specs.Shapes.{ElementRows, no_element_rows, element_rows, RecordRows, no_record_rows, record_rows}
use Rattle.shapes.specs.Shapes.{FieldRows, no_field_rows, field_rows, Stands, FieldsStand, size_at, members_at}

-- ---- the kinds of a shape

bit_le : (b : Bool) → bit b ≤ 1
unfolding bit
bit_le true = omega arith
bit_le false = omega arith

numeric_bits_le : (m : Numeric) → numeric_bits m ≤ 3
unfolding numeric_bits
numeric_bits_le no_number = omega arith
numeric_bits_le int_only = omega arith
numeric_bits_le int_and_dec = omega arith

-- the bit at place j of a set whose bits from there on are a
and_bit : (j a r : ℕ) → r < 2 ^ j → bit_and (r + 2 ^ j * a) (2 ^ j) ≡ 2 ^ j * (a % 2)
and_bit j a r h =
    ap₂
    (λ (x y : ℕ). bit_and x y)
    (let e : r + 2 ^ j * a ≡ a * 2 ^ j + r = omega (arith, mul_comm a (2 ^ j)) in e)
    (let e : 2 ^ j ≡ 1 * 2 ^ j + 0 = omega arith in e)
    ∙ and_block j a 1 r 0 h (pow_pos j)
    ∙ ap₂ (λ (x y : ℕ). x * 2 ^ j + y) (and_mask a 1) (and_zero_r r)
    ∙ omega (arith, mul_comm (a % 2) (2 ^ j))

bit_there : (b : Bool) (x : ℕ) → 0 < x → not (eqb (x * bit b) 0) ≡ b
unfolding bit
bit_there true x h = ap not (ne_eqb (x * 1) 0 (λ e. omega arith))
bit_there false x h = ap not (eq-eqb (x * 0) 0 (omega arith))

has_bit_at : (b : Bool) (j a r x : ℕ) → r < 2 ^ j → a % 2 ≡ bit b → x ≡ r + 2 ^ j * a → has_bit x (2 ^ j) ≡ b
unfolding has_bit
has_bit_at b j a r x h e f =
    ap (λ (y : ℕ). has_bit y (2 ^ j)) f
    ∙ ap (λ (y : ℕ). not (eqb y 0)) (and_bit j a r h ∙ ap (λ (y : ℕ). 2 ^ j * y) e)
    ∙ bit_there b (2 ^ j) (pow_pos j)

numeric_int : (m : Numeric) → numeric_bits m % 2 ≡ bit (has_int m)
unfolding numeric_bits bit has_int
numeric_int no_number = refl
numeric_int int_only = refl
numeric_int int_and_dec = refl

numeric_dec : (m : Numeric) → numeric_bits m / 2 ≡ bit (has_dec m)
unfolding numeric_bits bit has_dec
numeric_dec no_number = refl
numeric_dec int_only = refl
numeric_dec int_and_dec = refl

pub numeric_sum : (m : Numeric) → numeric_bits m ≡ bit (has_int m) + 2 * bit (has_dec m)
unfolding numeric_bits bit has_int has_dec
numeric_sum no_number = refl
numeric_sum int_only = refl
numeric_sum int_and_dec = refl

-- the bit of a kind tells whether the shape has it
module _ (n b : Bool) (m : Numeric) (t : Bool) (e : Element) (r : Record) where
  pub has_null_bit : has_bit (kind_bits (shape n b m t e r)) 1 ≡ n
  unfolding kind_bits
  has_null_bit =
      has_bit_at n 0 (kind_bits (shape n b m t e r)) 0 (kind_bits (shape n b m t e r)) (omega arith) (omega (arith, bit_le n)) (omega arith)

  pub has_bool_bit : has_bit (kind_bits (shape n b m t e r)) 2 ≡ b
  unfolding kind_bits
  has_bool_bit =
      has_bit_at
      b
      1
      (bit b + 2 * numeric_bits m + 8 * bit t + 16 * bit (has_list e) + 32 * bit (has_rec r))
      (bit n)
      (kind_bits (shape n b m t e r))
      (omega (arith, bit_le n))
      (omega (arith, bit_le b))
      (omega arith)

  pub has_int_bit : has_bit (kind_bits (shape n b m t e r)) 4 ≡ has_int m
  unfolding kind_bits
  has_int_bit =
      has_bit_at
      (has_int m)
      2
      (numeric_bits m + 4 * bit t + 8 * bit (has_list e) + 16 * bit (has_rec r))
      (bit n + 2 * bit b)
      (kind_bits (shape n b m t e r))
      (omega (arith, bit_le n, bit_le b))
      (omega (arith, numeric_int m))
      (omega arith)

  pub has_dec_bit : has_bit (kind_bits (shape n b m t e r)) 8 ≡ has_dec m
  unfolding kind_bits
  has_dec_bit =
      has_bit_at
      (has_dec m)
      3
      (numeric_bits m / 2 + 2 * bit t + 4 * bit (has_list e) + 8 * bit (has_rec r))
      (bit n + 2 * bit b + 4 * (numeric_bits m % 2))
      (kind_bits (shape n b m t e r))
      (omega (arith, bit_le n, bit_le b))
      (omega (arith, numeric_dec m, bit_le (has_dec m)))
      (omega arith)

  pub has_text_bit : has_bit (kind_bits (shape n b m t e r)) 16 ≡ t
  unfolding kind_bits
  has_text_bit =
      has_bit_at
      t
      4
      (bit t + 2 * bit (has_list e) + 4 * bit (has_rec r))
      (bit n + 2 * bit b + 4 * numeric_bits m)
      (kind_bits (shape n b m t e r))
      (omega (arith, bit_le n, bit_le b, numeric_bits_le m))
      (omega (arith, bit_le t))
      (omega arith)

  pub has_list_bit : has_bit (kind_bits (shape n b m t e r)) 32 ≡ has_list e
  unfolding kind_bits
  has_list_bit =
      has_bit_at
      (has_list e)
      5
      (bit (has_list e) + 2 * bit (has_rec r))
      (bit n + 2 * bit b + 4 * numeric_bits m + 16 * bit t)
      (kind_bits (shape n b m t e r))
      (omega (arith, bit_le n, bit_le b, numeric_bits_le m, bit_le t))
      (omega (arith, bit_le (has_list e)))
      (omega arith)

  pub has_rec_bit : has_bit (kind_bits (shape n b m t e r)) 64 ≡ has_rec r
  unfolding kind_bits
  has_rec_bit =
      has_bit_at
      (has_rec r)
      6
      (bit (has_rec r))
      (bit n + 2 * bit b + 4 * numeric_bits m + 16 * bit t + 32 * bit (has_list e))
      (kind_bits (shape n b m t e r))
      (omega (arith, bit_le n, bit_le b, numeric_bits_le m, bit_le t, bit_le (has_list e)))
      (omega (arith, bit_le (has_rec r)))
      (omega arith)

pub has_kind : (k : Kind) (s : Shape) → has_bit (kind_bits s) (kind_bit k) ≡ has k s
unfolding kind_bit has
has_kind Kind.null (shape n b m t e r) = has_null_bit n b m t e r
has_kind Kind.bool (shape n b m t e r) = has_bool_bit n b m t e r
has_kind Kind.int (shape n b m t e r) = has_int_bit n b m t e r
has_kind Kind.dec (shape n b m t e r) = has_dec_bit n b m t e r
has_kind Kind.text (shape n b m t e r) = has_text_bit n b m t e r
has_kind Kind.list (shape n b m t e r) = has_list_bit n b m t e r
has_kind Kind.rec (shape n b m t e r) = has_rec_bit n b m t e r

pub kind_bits_lt : (s : Shape) → kind_bits s < 128
unfolding kind_bits
kind_bits_lt (shape n b m t e r) =
    omega (arith, bit_le n, bit_le b, numeric_bits_le m, bit_le t, bit_le (has_list e), bit_le (has_rec r))

-- ---- kinds united

-- bits from place k on united apart from those before
or_split
    : (k r s a b : ℕ) {c d : ℕ} → r < 2 ^ k → s < 2 ^ k → bit_or r s ≡ c → bit_or a b ≡ d
    → bit_or (r + 2 ^ k * a) (s + 2 ^ k * b) ≡ c + 2 ^ k * d
or_split k r s a b {d} h l e f =
    ap₂
    (λ (x y : ℕ). bit_or x y)
    (let g : r + 2 ^ k * a ≡ a * 2 ^ k + r = omega (arith, mul_comm a (2 ^ k)) in g)
    (let g : s + 2 ^ k * b ≡ b * 2 ^ k + s = omega (arith, mul_comm b (2 ^ k)) in g)
    ∙ or_block k a b r s h l
    ∙ ap₂ (λ (x y : ℕ). x * 2 ^ k + y) f e
    ∙ omega (arith, mul_comm d (2 ^ k))

or_bit : (a b : Bool) → bit_or (bit a) (bit b) ≡ bit (a || b)
unfolding bit
or_bit true true = refl
or_bit true false = refl
or_bit false true = refl
or_bit false false = refl

or_numeric : (m k : Numeric) → bit_or (numeric_bits m) (numeric_bits k) ≡ numeric_bits (join_numeric m k)
unfolding numeric_bits join_numeric
or_numeric no_number no_number = refl
or_numeric no_number int_only = refl
or_numeric no_number int_and_dec = refl
or_numeric int_only no_number = refl
or_numeric int_only int_only = refl
or_numeric int_only int_and_dec = refl
or_numeric int_and_dec no_number = refl
or_numeric int_and_dec int_only = refl
or_numeric int_and_dec int_and_dec = refl

or_list : (e f : Element) → bit_or (bit (has_list e)) (bit (has_list f)) ≡ bit (has_list (join_element e f))
unfolding bit has_list join
or_list no_list no_list = refl
or_list no_list (list_of b) = refl
or_list (list_of a) no_list = refl
or_list (list_of a) (list_of b) = refl

or_rec : (r q : Record) → bit_or (bit (has_rec r)) (bit (has_rec q)) ≡ bit (has_rec (join_record r q))
unfolding bit has_rec join
or_rec no_rec no_rec = refl
or_rec no_rec (rec_of gs) = refl
or_rec (rec_of fs) no_rec = refl
or_rec (rec_of fs) (rec_of gs) = refl

pub union_bits : (s t : Shape) → bit_or (kind_bits s) (kind_bits t) ≡ kind_bits (join s t)
unfolding kind_bits join
union_bits (shape n b m t e r) (shape n' b' m' t' e' r') =
    let h : bit n ≤ 1 = bit_le n in
    let h' : bit n' ≤ 1 = bit_le n' in
    let i : bit b ≤ 1 = bit_le b in
    let i' : bit b' ≤ 1 = bit_le b' in
    let j : numeric_bits m ≤ 3 = numeric_bits_le m in
    let j' : numeric_bits m' ≤ 3 = numeric_bits_le m' in
    let l : bit t ≤ 1 = bit_le t in
    let l' : bit t' ≤ 1 = bit_le t' in
    let k : bit (has_list e) ≤ 1 = bit_le (has_list e) in
    let k' : bit (has_list e') ≤ 1 = bit_le (has_list e') in
    let two = or_split 1 (bit n) (bit n') (bit b) (bit b') (omega arith) (omega arith) (or_bit n n') (or_bit b b') in
    let four =
    or_split
    2
    (bit n + 2 * bit b)
    (bit n' + 2 * bit b')
    (numeric_bits m)
    (numeric_bits m')
    (omega arith)
    (omega arith)
    two
    (or_numeric m m')
    in
    let five =
    or_split
    4
    (bit n + 2 * bit b + 4 * numeric_bits m)
    (bit n' + 2 * bit b' + 4 * numeric_bits m')
    (bit t)
    (bit t')
    (omega arith)
    (omega arith)
    four
    (or_bit t t')
    in
    let six =
    or_split
    5
    (bit n + 2 * bit b + 4 * numeric_bits m + 16 * bit t)
    (bit n' + 2 * bit b' + 4 * numeric_bits m' + 16 * bit t')
    (bit (has_list e))
    (bit (has_list e'))
    (omega arith)
    (omega arith)
    five
    (or_list e e')
    in
    or_split
    6
    (bit n + 2 * bit b + 4 * numeric_bits m + 16 * bit t + 32 * bit (has_list e))
    (bit n' + 2 * bit b' + 4 * numeric_bits m' + 16 * bit t' + 32 * bit (has_list e'))
    (bit (has_rec r))
    (bit (has_rec r'))
    (omega arith)
    (omega arith)
    six
    (or_rec r r')

pub bits_with_null : (s : Shape) → bit_or (kind_bits s) 1 ≡ kind_bits (with_null s)
unfolding kind_bits bit numeric_bits has_list has_rec only_null
bits_with_null s = union_bits s only_null ∙ ap kind_bits (join_null s)

-- ---- the first word

pub head_kinds : (s : Shape) → head_word s % 128 ≡ kind_bits s
unfolding head_word
head_kinds s = omega (arith, kind_bits_lt s)

pub head_size : (s : Shape) → head_word s / 128 ≡ 2 * forms s
unfolding head_word
head_size s = omega (arith, kind_bits_lt s)

-- ---- a name in a pool

-- ---- a pool that grows

mutual
  shape_rows_grow_at
      : (s : Shape) {p : List ℕ} {m : ℕ} {rs : List ℕ} (q : List ℕ) → ShapeRows p m s rs → ShapeRows (p ++ q) m s rs
  shape_rows_grow_at (shape n b k t e r) q (shape_rows es rs) =
      shape_rows (element_rows_grow_at e q es) (record_rows_grow_at r q rs)

  element_rows_grow_at : (e : Element) {p rs : List ℕ} (q : List ℕ) → ElementRows p e rs → ElementRows (p ++ q) e rs
  element_rows_grow_at no_list q no_element_rows = no_element_rows
  element_rows_grow_at (list_of s) q (element_rows rs) = element_rows (shape_rows_grow_at s q rs)

  record_rows_grow_at : (r : Record) {p rs : List ℕ} (q : List ℕ) → RecordRows p r rs → RecordRows (p ++ q) r rs
  record_rows_grow_at no_rec q no_record_rows = no_record_rows
  record_rows_grow_at (rec_of fs) q (record_rows rs) = record_rows (field_rows_grow_at fs q rs)

  field_rows_grow_at : (fs : Fields) {p rs : List ℕ} (q : List ℕ) → FieldRows p fs rs → FieldRows (p ++ q) fs rs
  field_rows_grow_at no_fields q no_field_rows = no_field_rows
  field_rows_grow_at (field n s fs) q (field_rows f rs qs) =
      field_rows (refers_grow q f) (shape_rows_grow_at s q rs) (field_rows_grow_at fs q qs)

pub shape_rows_grow
    : {p : List ℕ} {m : ℕ} {s : Shape} {rs : List ℕ} (q : List ℕ) → ShapeRows p m s rs → ShapeRows (p ++ q) m s rs
shape_rows_grow {s} q rs = shape_rows_grow_at s q rs

pub element_rows_grow
    : {p : List ℕ} {e : Element} {rs : List ℕ} (q : List ℕ) → ElementRows p e rs → ElementRows (p ++ q) e rs
element_rows_grow {e} q rs = element_rows_grow_at e q rs

pub record_rows_grow
    : {p : List ℕ} {r : Record} {rs : List ℕ} (q : List ℕ) → RecordRows p r rs → RecordRows (p ++ q) r rs
record_rows_grow {r} q rs = record_rows_grow_at r q rs

pub field_rows_grow : {p : List ℕ} {fs : Fields} {rs : List ℕ} (q : List ℕ) → FieldRows p fs rs → FieldRows (p ++ q) fs rs
field_rows_grow {fs} q rs = field_rows_grow_at fs q rs

-- ---- how many words

mutual
  unfolding forms

  length_shape_rows_at : (s : Shape) {p : List ℕ} {m : ℕ} {rs : List ℕ} → ShapeRows p m s rs → length rs ≡ 2 * forms s
  length_shape_rows_at (shape n b k t e r) (shape_rows {es} {rs} is js) =
      omega (arith, length-append es rs, length_element_rows_at e is, length_record_rows_at r js)

  length_element_rows_at : (e : Element) {p rs : List ℕ} → ElementRows p e rs → length rs ≡ 2 * forms_element e
  length_element_rows_at no_list no_element_rows = refl
  length_element_rows_at (list_of s) (element_rows rs) = length_shape_rows_at s rs

  length_record_rows_at : (r : Record) {p rs : List ℕ} → RecordRows p r rs → length rs ≡ 2 * forms_record r
  length_record_rows_at no_rec no_record_rows = refl
  length_record_rows_at (rec_of fs) (record_rows rs) = length_field_rows_at fs rs

  length_field_rows_at : (fs : Fields) {p rs : List ℕ} → FieldRows p fs rs → length rs ≡ 2 * forms_fields fs
  length_field_rows_at no_fields no_field_rows = refl
  length_field_rows_at (field n s fs) (field_rows {rs} {qs} f is js) =
      omega (arith, length-append rs qs, length_shape_rows_at s is, length_field_rows_at fs js)

pub length_shape_rows : {p : List ℕ} {m : ℕ} {s : Shape} {rs : List ℕ} → ShapeRows p m s rs → length rs ≡ 2 * forms s
length_shape_rows {s} rs = length_shape_rows_at s rs

pub length_element_rows : {p : List ℕ} {e : Element} {rs : List ℕ} → ElementRows p e rs → length rs ≡ 2 * forms_element e
length_element_rows {e} rs = length_element_rows_at e rs

pub length_record_rows : {p : List ℕ} {r : Record} {rs : List ℕ} → RecordRows p r rs → length rs ≡ 2 * forms_record r
length_record_rows {r} rs = length_record_rows_at r rs

pub length_field_rows : {p : List ℕ} {fs : Fields} {rs : List ℕ} → FieldRows p fs rs → length rs ≡ 2 * forms_fields fs
length_field_rows {fs} rs = length_field_rows_at fs rs

-- ---- what stands in a table

pub forms_some : (s : Shape) → 0 < forms s
unfolding forms
forms_some (shape n b m t e r) = omega arith

head_placed
    : (t : List ℕ) (row : ℕ) {p : List ℕ} {m : ℕ} {s : Shape} {rows : List ℕ} (rest : List ℕ) → ShapeRows p m s rows
    → drop row t ≡ rows ++ rest
    → get_or t row 0 ≡ head_word s
head_placed t row rest (shape_rows is js) e = ap (λ (i : ℕ). get_or t i 0) (sym (add-zero row)) ∙ get_or_row t row 0 e

name_placed
    : (t : List ℕ) (row : ℕ) {p : List ℕ} {m : ℕ} {s : Shape} {rows : List ℕ} (rest : List ℕ) → ShapeRows p m s rows
    → drop row t ≡ rows ++ rest
    → get_or t (row + 1) 0 ≡ m
name_placed t row rest (shape_rows is js) e = get_or_row t row 1 e

module _ {t p : List ℕ} {row m : ℕ} {s : Shape} where
  pub stands_kinds : Stands t p row m s → get_or t row 0 % 128 ≡ kind_bits s
  stands_kinds h = ap (λ (x : ℕ). x % 128) (head_placed t row h.rest h.encoded h.placed) ∙ head_kinds s

  pub stands_size : Stands t p row m s → size_at t row ≡ 2 * forms s
  unfolding size_at
  stands_size h = ap (λ (x : ℕ). x / 128) (head_placed t row h.rest h.encoded h.placed) ∙ head_size s

  pub stands_name : Stands t p row m s → get_or t (row + 1) 0 ≡ m
  stands_name h = name_placed t row h.rest h.encoded h.placed

  pub stands_within : Stands t p row m s → row + 2 * forms s ≤ length t
  stands_within h =
      omega (
        arith,
        forms_some s,
        length_shape_rows h.encoded,
        length-append h.rows h.rest,
        sym (length-drop row t) ∙ ap length h.placed,
      )

element_placed
    : (t : List ℕ) (row : ℕ) {p : List ℕ} {m : ℕ} {n b x : Bool} {k : Numeric} {a : Shape} {r : Record} {rows : List ℕ} (rest : List ℕ)
    → ShapeRows p m (shape n b k x (list_of a) r) rows
    → drop row t ≡ rows ++ rest
    → Stands t p (row + 2) 0 a
element_placed t row rest (shape_rows {rs} (element_rows {rs = es} is) js) e =
    record { rows = es; rest = rs ++ rest; encoded = is; placed = drop_row t row 2 e ∙ append_assoc es rs rest }

pub stands_element
    : {t p : List ℕ} {row m : ℕ} {n b x : Bool} {k : Numeric} {a : Shape} {r : Record}
    → Stands t p row m (shape n b k x (list_of a) r)
    → Stands t p (row + 2) 0 a
stands_element {t} {row} h = element_placed t row h.rest h.encoded h.placed

pub stands_row : {t p : List ℕ} {row m : ℕ} {s : Shape} → Stands t p row m s → row + 2 ≤ length t
stands_row {s} h = omega (arith, forms_some s, stands_within h)

-- a shape stands there under the used part of a larger pool too
pub stands_grow : {t p : List ℕ} {row m : ℕ} {s : Shape} (q : List ℕ) → Stands t p row m s → Stands t (p ++ q) row m s
stands_grow q h =
    record { rows = h.rows; rest = h.rest; encoded = shape_rows_grow q h.encoded; placed = h.placed }

pub fields_stand_grow
    : {t p : List ℕ} {row end : ℕ} {fs : Fields} (q : List ℕ) → FieldsStand t p row end fs → FieldsStand t (p ++ q) row end fs
fields_stand_grow q h =
    record { rows = h.rows; rest = h.rest; encoded = field_rows_grow q h.encoded; placed = h.placed; reaches = h.reaches }

-- ---- members

pub fields_none : {t p : List ℕ} {row end : ℕ} → FieldsStand t p row end no_fields → row ≡ end
fields_none {row} {end} h = ends h.encoded h.reaches
  where
    ends : {p rows : List ℕ} → FieldRows p no_fields rows → row + length rows ≡ end → row ≡ end
    ends no_field_rows e = omega arith

-- members have a first one
pub data SomeFields : Fields → Type 0 where
  some_fields : {n : Bytes} {s : Shape} {fs : Fields} → SomeFields (field n s fs)

pub fields_left : {t p : List ℕ} {row end : ℕ} {fs : Fields} → FieldsStand t p row end fs → row < end → SomeFields fs
fields_left {row} {end} h l = begin_with h.encoded h.reaches
  where
    begin_with : {p rows : List ℕ} {fs : Fields} → FieldRows p fs rows → row + length rows ≡ end → SomeFields fs
    begin_with no_field_rows e = absurd (let z : ⊥ = omega arith in z)
    begin_with (field_rows f is js) e = some_fields

-- where members begin and are left, the first one stands under its name and the others behind it
record Parts (t p : List ℕ) (row end : ℕ) (n : Bytes) (s : Shape) (fs : Fields) : Type 0 where
  name : ℕ
  named : Refers p n name
  first : Stands t p row name s
  others : FieldsStand t p (row + size_at t row) end fs

fields_placed
    : (t : List ℕ) (row end : ℕ) {p : List ℕ} {n : Bytes} {s : Shape} {fs : Fields} {rows : List ℕ} (rest : List ℕ)
    → FieldRows p (field n s fs) rows
    → drop row t ≡ rows ++ rest
    → row + length rows ≡ end
    → Parts t p row end n s fs
fields_placed t row end {p} rest (field_rows {k} {s} {fs} {rs} {qs} f is js) e l =
    let h : Stands t p row k s = record { rows = rs; rest = qs ++ rest; encoded = is; placed = e ∙ append_assoc rs qs rest } in
    record {
      name = k;
      named = f;
      first = h;
      others =
          record {
            rows = qs;
            rest = rest;
            encoded = js;
            placed =
                drop_row t row (size_at t row) (e ∙ append_assoc rs qs rest)
                ∙ drop_at rs (qs ++ rest) (size_at t row) (length_shape_rows is ∙ sym (stands_size h));
            reaches = omega (arith, length-append rs qs, stands_size h, length_shape_rows is);
          };
    }

module _ {t p : List ℕ} {row end : ℕ} {n : Bytes} {s : Shape} {fs : Fields} where
  parts : FieldsStand t p row end (field n s fs) → Parts t p row end n s fs
  parts h = fields_placed t row end h.rest h.encoded h.placed h.reaches

  pub fields_first : FieldsStand t p row end (field n s fs) → (k : ℕ) × Refers p n k × Stands t p row k s
  fields_first h = ((parts h).name, (parts h).named, (parts h).first)

  pub fields_rest : FieldsStand t p row end (field n s fs) → FieldsStand t p (row + size_at t row) end fs
  fields_rest h = (parts h).others

pub fields_end : {t p : List ℕ} {row end : ℕ} {fs : Fields} → FieldsStand t p row end fs → row + 2 * forms_fields fs ≡ end
fields_end h = omega (arith, length_field_rows h.encoded, h.reaches)

pub fields_some : {t p : List ℕ} {row end : ℕ} {n : Bytes} {s : Shape} {fs : Fields} → FieldsStand t p row end (field n s fs) → row < end
unfolding forms
fields_some {s} h = omega (arith, forms_some s, fields_end h)

pub fields_within : {t p : List ℕ} {row end : ℕ} {fs : Fields} → FieldsStand t p row end fs → row ≤ length t → end ≤ length t
fields_within {t} {row} h l =
    omega (arith, h.reaches, length-append h.rows h.rest, sym (length-drop row t) ∙ ap length h.placed)

-- ---- where members begin

members_behind : (t : List ℕ) (row : ℕ) → has_bit (get_or t row 0 % 128) 32 ≡ true → members_at t row ≡ row + 2 + size_at t (row + 2)
unfolding members_at
members_behind t row e = rw (e, members_at)

members_next : (t : List ℕ) (row : ℕ) → has_bit (get_or t row 0 % 128) 32 ≡ false → members_at t row ≡ row + 2
unfolding members_at
members_next t row e = rw (e, members_at)

members_at_by
    : (t : List ℕ) (row : ℕ) {p : List ℕ} {m : ℕ} {n b x : Bool} {k : Numeric} (e : Element) {r : Record}
    → Stands t p row m (shape n b k x e r)
    → members_at t row ≡ row + 2 + 2 * forms_element e
unfolding forms has_list
members_at_by t row {n} {b} {x} {k} no_list {r} h =
    members_next t row (ap (λ (y : ℕ). has_bit y 32) (stands_kinds h) ∙ has_list_bit n b k x no_list r)
    ∙ sym (add-zero (row + 2))
members_at_by t row {n} {b} {x} {k} (list_of a) {r} h =
    members_behind t row (ap (λ (y : ℕ). has_bit y 32) (stands_kinds h) ∙ has_list_bit n b k x (list_of a) r)
    ∙ ap (λ (y : ℕ). row + 2 + y) (stands_size (stands_element h))

pub members_at_is
    : {t p : List ℕ} {row m : ℕ} {n b x : Bool} {k : Numeric} {e : Element} {r : Record} → Stands t p row m (shape n b k x e r)
    → members_at t row ≡ row + 2 + 2 * forms_element e
members_at_is {t} {row} {e} h = members_at_by t row e h

members_placed
    : (t : List ℕ) (row start end : ℕ) {p : List ℕ} {m : ℕ} {n b x : Bool} {k : Numeric} {e : Element} {fs : Fields} {rows : List ℕ}
    (rest : List ℕ)
    → ShapeRows p m (shape n b k x e (rec_of fs)) rows
    → drop row t ≡ rows ++ rest
    → start ≡ row + 2 + 2 * forms_element e
    → row + length rows ≡ end
    → FieldsStand t p start end fs
members_placed t row start end rest (shape_rows {es} {rs} is (record_rows js)) q f l =
    let g : start ≡ row + 2 + length es = omega (arith, length_element_rows is) in
    record {
      rows = rs;
      rest = rest;
      encoded = js;
      placed =
          ap (λ (i : ℕ). drop i t) g
          ∙ drop_row t (row + 2) (length es) (drop_row t row 2 q ∙ append_assoc es rs rest)
          ∙ drop-append_seam es (rs ++ rest);
      reaches = omega (arith, length-append es rs);
    }

pub stands_members
    : {t p : List ℕ} {row m : ℕ} {n b x : Bool} {k : Numeric} {e : Element} {fs : Fields}
    → Stands t p row m (shape n b k x e (rec_of fs))
    → FieldsStand t p (members_at t row) (row + size_at t row) fs
stands_members {t} {row} h =
    members_placed
    t
    row
    (members_at t row)
    (row + size_at t row)
    h.rest
    h.encoded
    h.placed
    (members_at_is h)
    (omega (arith, length_shape_rows h.encoded, stands_size h))

-- ---- a test of a kind

-- what it tells of the word that the kinds were read from
pub bit_tested : (b : ℕ) {i kinds : ℕ} {v : Bool} → kinds ≡ i → v ≡ has_bit kinds b → has_bit i b ≡ v
bit_tested b e h = ap (λ (k : ℕ). has_bit k b) (sym e) ∙ sym h
