-- The node table: a value as rows of three words in preorder, its texts in a pool. The first word has the kind, and of a
-- number its sign and scale, and the length of the value as plain JSON; the second the payload; the third the name, if the
-- value is a member. Assumes nothing.
use Rattle.std.specs.Prelude.{ℕ, ◌+◌, ◌*◌, ◌%◌, ◌≤◌, ◌≡◌, Bool, true, false, List, [], ◌∷◌, ◌++◌, length, get_or, ltb}
use Rattle.definitions.specs.Bytes.{Bytes}
use Rattle.definitions.specs.Number.{Number}
use Rattle.definitions.specs.Value.{Value, Items, no_items, item, Members, no_members, member, size}
use Rattle.definitions.specs.Plain.{plain}
use Rattle.pool.specs.Pool.{words, text_in}

-- ---- the words of a row

-- the code of a value's kind; a bool's says which it is
unfoldable pub kind_code : Value → ℕ
kind_code Value.null = 0
kind_code (Value.bool b) = elim b [ true ↦ 2 | false ↦ 1 ]
kind_code (Value.number x) = 3
kind_code (Value.text t) = 4
kind_code (Value.list vs) = 5
kind_code (Value.rec ms) = 6

unfoldable pub sign_bit : Bool → ℕ
sign_bit true = 1
sign_bit false = 0

-- a number's sign and scale; of any other value 0
unfoldable pub number_bits : Value → ℕ
number_bits Value.null = 0
number_bits (Value.bool b) = 0
number_bits (Value.number x) = sign_bit x.negative + 2 * x.scale
number_bits (Value.text t) = 0
number_bits (Value.list vs) = 0
number_bits (Value.rec ms) = 0

-- a first word of these parts
abbrev pub head_of : (kind bits written : ℕ) → ℕ
head_of kind bits written = kind + 8 * bits + 256 * written

-- the first word: kind, sign and scale, and the length as plain JSON
unfoldable pub head_word : Value → ℕ
head_word v = kind_code v + 8 * number_bits v + 256 * length (plain v)

-- where a text stands in the pool: its first word and its length in bytes
unfoldable pub reference : (w n : ℕ) → ℕ
reference w n = w + 65536 * n

-- the text t stands in the pool p at this reference
pub data Refers (p : List ℕ) (t : Bytes) : ℕ → Type 0 where
  refers : (w : ℕ) → w + words (length t) ≤ length p → text_in p w (length t) ≡ t → Refers p t (reference w (length t))

-- ---- the rows of a value, where p is the used part of the pool and m the name word

mutual
  pub data Rows (p : List ℕ) : (m : ℕ) → Value → List ℕ → Type 0 where
    null_row : {m : ℕ} → Rows p m Value.null (head_word Value.null ∷ 0 ∷ m ∷ [])
    bool_row : {m : ℕ} {b : Bool} → Rows p m (Value.bool b) (head_word (Value.bool b) ∷ 0 ∷ m ∷ [])
    -- a number's payload is its coefficient
    number_row : {m : ℕ} {x : Number} → Rows p m (Value.number x) (head_word (Value.number x) ∷ x.coefficient ∷ m ∷ [])
    -- a text's payload is where it stands
    text_row : {m k : ℕ} {t : Bytes} → Refers p t k → Rows p m (Value.text t) (head_word (Value.text t) ∷ k ∷ m ∷ [])
    -- a list's and a record's payload is how many words its rows take, their own among them
    list_rows
        : {m : ℕ} {vs : Items} {rs : List ℕ} → ItemRows p vs rs
        → Rows p m (Value.list vs) (head_word (Value.list vs) ∷ 3 * size (Value.list vs) ∷ m ∷ rs)
    rec_rows
        : {m : ℕ} {ms : Members} {rs : List ℕ} → MemberRows p ms rs
        → Rows p m (Value.rec ms) (head_word (Value.rec ms) ∷ 3 * size (Value.rec ms) ∷ m ∷ rs)

  -- the rows of a list's elements, which have no name
  pub data ItemRows (p : List ℕ) : Items → List ℕ → Type 0 where
    no_item_rows : ItemRows p no_items []
    item_rows
        : {v : Value} {vs : Items} {rs qs : List ℕ} → Rows p 0 v rs → ItemRows p vs qs → ItemRows p (item v vs) (rs ++ qs)

  -- the rows of a record's members, each under its name
  pub data MemberRows (p : List ℕ) : Members → List ℕ → Type 0 where
    no_member_rows : MemberRows p no_members []
    member_rows
        : {n : Bytes} {k : ℕ} {v : Value} {ms : Members} {rs qs : List ℕ} → Refers p n k → Rows p k v rs → MemberRows p ms qs
        → MemberRows p (member n v ms) (rs ++ qs)

-- how many words the value at a row takes: of a list or a record its payload, of any other three
unfoldable pub row_size : List ℕ → ℕ → ℕ
row_size ns row = elim (ltb 4 (get_or ns row 0 % 8)) [ true ↦ get_or ns (row + 1) 0 | false ↦ 3 ]

-- ---- the rows of parts that are being read, the latest part first

pub data ItemsBefore (p : List ℕ) : Items → List ℕ → Type 0 where
  no_items_before : ItemsBefore p no_items []
  item_before
      : {v : Value} {vs : Items} {rs qs : List ℕ} → ItemsBefore p vs rs → Rows p 0 v qs → ItemsBefore p (item v vs) (rs ++ qs)

pub data MembersBefore (p : List ℕ) : Members → List ℕ → Type 0 where
  no_members_before : MembersBefore p no_members []
  member_before
      : {n : Bytes} {k : ℕ} {v : Value} {ms : Members} {rs qs : List ℕ} → MembersBefore p ms rs → Refers p n k → Rows p k v qs
      → MembersBefore p (member n v ms) (rs ++ qs)
