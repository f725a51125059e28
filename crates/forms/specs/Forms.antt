-- The forms table: a reader as rows of three words in preorder, its names and texts in a pool. The first word has the form's
-- code, its operand, the place of its bracket and how many words its rows take, their own among them; the second its payload;
-- the third the name, if the form is a part of a pack. Assumes nothing.
use Rattle.std.specs.Prelude.{ℕ, suc, ◌+◌, ◌-◌, ◌*◌, ◌/◌, ◌<◌, ◌≡◌, true, false, List, [], ◌∷◌, ◌++◌, length, get_or, take, drop}
use Rattle.definitions.specs.Bytes.{Bytes}
use Rattle.definitions.specs.Number.{Number}
use Rattle.definitions.specs.Value.{Value}
use Rattle.definitions.specs.Reader.{Place, Conversion, to_int, to_dec, to_bool, to_text, Test, Result, Pairs, no_pairs, pair}
use Rattle.laws.specs.FormGrammar.{place_forms, result_forms}
use Rattle.nodes.specs.Nodes.{number_bits, Refers}

-- ---- the words of a row

-- the code of a place
unfoldable pub place_code : Place → ℕ
place_code (Place.it at n) = 1
place_code (Place.field at n q) = 2

unfoldable pub conversion_code : Conversion → ℕ
conversion_code to_int = 3
conversion_code to_dec = 4
conversion_code to_bool = 5
conversion_code to_text = 6

-- the code of a literal, a bool's says which it is; no literal is a list or a record
unfoldable pub literal_code : Value → ℕ
literal_code Value.null = 16
literal_code (Value.bool b) = elim b [ true ↦ 14 | false ↦ 15 ]
literal_code (Value.number x) = 12
literal_code (Value.text t) = 13
literal_code (Value.list vs) = 0
literal_code (Value.rec ms) = 0

-- the code of a result
unfoldable pub form_code : Result → ℕ
form_code (Result.convert at c q) = conversion_code c
form_code (Result.keep at q) = 7
form_code (Result.count at q) = 8
form_code (Result.each at q r) = 9
form_code (Result.when at k q r₁ r₂) = 10
form_code (Result.choose at r₁ r₂ r₃) = 11
form_code (Result.literal at v) = literal_code v
form_code (Result.pack at ps) = 17

-- the code of K
unfoldable pub test_code : Test → ℕ
test_code Test.null = 0
test_code Test.bool = 1
test_code Test.int = 2
test_code Test.num = 3
test_code Test.text = 4
test_code Test.list = 5
test_code Test.rec = 6

-- the operand of a result: K of `when`, sign and scale of `num`
unfoldable pub form_operand : Result → ℕ
form_operand (Result.convert at c q) = 0
form_operand (Result.keep at q) = 0
form_operand (Result.count at q) = 0
form_operand (Result.each at q r) = 0
form_operand (Result.when at k q r₁ r₂) = test_code k
form_operand (Result.choose at r₁ r₂ r₃) = 0
form_operand (Result.literal at v) = number_bits v
form_operand (Result.pack at ps) = 0

-- where the bracket of a place or a result stands
unfoldable pub place_at : Place → ℕ
place_at (Place.it at n) = at
place_at (Place.field at n q) = at

unfoldable pub form_at : Result → ℕ
form_at (Result.convert at c q) = at
form_at (Result.keep at q) = at
form_at (Result.count at q) = at
form_at (Result.each at q r) = at
form_at (Result.when at k q r₁ r₂) = at
form_at (Result.choose at r₁ r₂ r₃) = at
form_at (Result.literal at v) = at
form_at (Result.pack at ps) = at

-- a first word of these parts
abbrev pub head_of : (code operand at size : ℕ) → ℕ
head_of code operand at size = code + 32 * operand + 2048 * at + 134217728 * size

-- h is the first word of these parts, of which the operand has 6 bits and the place 16
pub record Head (code operand at size h : ℕ) : Type 0 where
  pub word : h ≡ head_of code operand at size
  pub short : operand < 64
  pub near : at < 65536

-- the first word of a place, and of a result
abbrev pub PlaceHead : Place → ℕ → Type 0
PlaceHead q h = Head (place_code q) 0 (place_at q) (3 * place_forms q) h

abbrev pub FormHead : Result → ℕ → Type 0
FormHead r h = Head (form_code r) (form_operand r) (form_at r) (3 * result_forms r) h

-- the payload of a literal: a number's coefficient, or where a text stands
pub data LiteralPayload (p : List ℕ) : Value → ℕ → Type 0 where
  null_payload : LiteralPayload p Value.null 0
  yes_payload : LiteralPayload p (Value.bool true) 0
  no_payload : LiteralPayload p (Value.bool false) 0
  number_payload : {x : Number} → LiteralPayload p (Value.number x) x.coefficient
  text_payload : {t : Bytes} {k : ℕ} → Refers p t k → LiteralPayload p (Value.text t) k

-- ---- the rows of a reader, where p is the used part of the pool, d how many bindings there are, and m the name word

-- a binding's slot counts from the document on
unfoldable pub slot : (d n : ℕ) → ℕ
slot d n = d - 1 - n

pub data PlaceRows (p : List ℕ) (d : ℕ) : Place → List ℕ → Type 0 where
  it_row : {at n h : ℕ} → PlaceHead (Place.it at n) h → n < d → PlaceRows p d (Place.it at n) (h ∷ slot d n ∷ 0 ∷ [])
  field_rows
      : {at k h : ℕ} {n : Bytes} {q : Place} {rs : List ℕ} → PlaceHead (Place.field at n q) h → Refers p n k
      → PlaceRows p d q rs → PlaceRows p d (Place.field at n q) (h ∷ k ∷ 0 ∷ rs)

mutual
  pub data FormRows (p : List ℕ) : (d m : ℕ) → Result → List ℕ → Type 0 where
    convert_rows
        : {d m at h : ℕ} {c : Conversion} {q : Place} {rs : List ℕ} → FormHead (Result.convert at c q) h → PlaceRows p d q rs
        → FormRows p d m (Result.convert at c q) (h ∷ 0 ∷ m ∷ rs)
    keep_rows
        : {d m at h : ℕ} {q : Place} {rs : List ℕ} → FormHead (Result.keep at q) h → PlaceRows p d q rs
        → FormRows p d m (Result.keep at q) (h ∷ 0 ∷ m ∷ rs)
    count_rows
        : {d m at h : ℕ} {q : Place} {rs : List ℕ} → FormHead (Result.count at q) h → PlaceRows p d q rs
        → FormRows p d m (Result.count at q) (h ∷ 0 ∷ m ∷ rs)
    -- "`each` binds the element in its R"
    each_rows
        : {d m at h : ℕ} {q : Place} {r : Result} {rs qs : List ℕ} → FormHead (Result.each at q r) h → PlaceRows p d q rs
        → FormRows p (suc d) 0 r qs → FormRows p d m (Result.each at q r) (h ∷ 0 ∷ m ∷ rs ++ qs)
    -- "`when` binds P's value in both its R"
    when_rows
        : {d m at h : ℕ} {k : Test} {q : Place} {r₁ r₂ : Result} {rs qs ts : List ℕ} → FormHead (Result.when at k q r₁ r₂) h
        → PlaceRows p d q rs → FormRows p (suc d) 0 r₁ qs → FormRows p (suc d) 0 r₂ ts
        → FormRows p d m (Result.when at k q r₁ r₂) (h ∷ 0 ∷ m ∷ rs ++ (qs ++ ts))
    choose_rows
        : {d m at h : ℕ} {r₁ r₂ r₃ : Result} {rs qs ts : List ℕ} → FormHead (Result.choose at r₁ r₂ r₃) h → FormRows p d 0 r₁ rs
        → FormRows p d 0 r₂ qs → FormRows p d 0 r₃ ts
        → FormRows p d m (Result.choose at r₁ r₂ r₃) (h ∷ 0 ∷ m ∷ rs ++ (qs ++ ts))
    literal_row
        : {d m at k h : ℕ} {v : Value} → FormHead (Result.literal at v) h → LiteralPayload p v k
        → FormRows p d m (Result.literal at v) (h ∷ k ∷ m ∷ [])
    pack_rows
        : {d m at h : ℕ} {ps : Pairs} {rs : List ℕ} → FormHead (Result.pack at ps) h → PairRows p d ps rs
        → FormRows p d m (Result.pack at ps) (h ∷ 0 ∷ m ∷ rs)

  -- the rows of a pack's results, each under its name
  pub data PairRows (p : List ℕ) : (d : ℕ) → Pairs → List ℕ → Type 0 where
    no_pair_rows : {d : ℕ} → PairRows p d no_pairs []
    pair_rows
        : {d k : ℕ} {n : Bytes} {r : Result} {ps : Pairs} {rs qs : List ℕ} → Refers p n k → FormRows p d k r rs
        → PairRows p d ps qs → PairRows p d (pair n r ps) (rs ++ qs)

-- ---- what a table holds

-- the rows of a place stand in the table from a row on
pub record PlaceStands (forms p : List ℕ) (row d : ℕ) (q : Place) : Type 0 where
  pub rows : List ℕ
  pub rest : List ℕ
  pub encoded : PlaceRows p d q rows
  pub placed : drop row forms ≡ rows ++ rest

-- the rows of a result, under the name word m
pub record FormStands (forms p : List ℕ) (row d m : ℕ) (r : Result) : Type 0 where
  pub rows : List ℕ
  pub rest : List ℕ
  pub encoded : FormRows p d m r rows
  pub placed : drop row forms ≡ rows ++ rest

-- the rows of a pack's results, from a row up to an end
pub record PairsStand (forms p : List ℕ) (row end d : ℕ) (ps : Pairs) : Type 0 where
  pub rows : List ℕ
  pub rest : List ℕ
  pub encoded : PairRows p d ps rows
  pub placed : drop row forms ≡ rows ++ rest
  pub reaches : row + length rows ≡ end

-- how many words the form at a row takes
unfoldable pub size_at : List ℕ → ℕ → ℕ
size_at forms row = get_or forms row 0 / 134217728

-- some results of a pack stand there, their names in the pool
pub record PairsHeld (forms pool : List ℕ) (row end : ℕ) : Type 0 where
  pub used : List ℕ
  pub bound : ℕ
  pub pairs : Pairs
  pub front : take (length used) pool ≡ used
  pub small : length used < 65536
  pub stand : PairsStand forms used row end bound pairs
