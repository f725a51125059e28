-- What stands at a row that holds a value, and where its text or its parts stand. Assumes nothing.
use Prim.Native.Nat.{ℕ, ◌+◌, ◌*◌, ◌/◌, ◌%◌, ◌≤◌}
use native.Mathlib.Nat.{add-zero}
use native.Mathlib.Omega.{arith}
use mathlib.Core.Path.{◌≡◌, refl, sym, ap, ◌∙◌}
use mathlib.Core.List.{List, ◌∷◌, ◌++◌}
use lib.ListN.{length, get_or, drop, length-append, length-drop}
use lib.Seq.{get_or-drop, drop-drop}
use Rattle.definitions.specs.Bytes.{Bytes}
use Rattle.definitions.specs.Number.{Number}
use Rattle.definitions.specs.Value.{Value, Items, Members, size}
use Rattle.definitions.specs.Plain.{plain}
use Rattle.nodes.specs.Nodes.{kind_code, head_word, Refers, Rows, number_row, text_row, list_rows, rec_rows, ItemRows, MemberRows, row_size}
use Rattle.nodes.specs.NodesLaws.{length_rows, RowBegins, rows_begin, row_size_is, row_name_is}
use Rattle.nodes.specs.StandingLaws.{size_some}
use Rattle.plain.specs.Table.{SomeValueStands, BoundedNumbers}
use Rattle.plain.specs.HeadLaws.{bits_small, head_kind, head_length}

-- ---- the words of a row

-- a word of what stands from a row on
get_or_placed : (nodes qs : List ℕ) (row i : ℕ) → drop row nodes ≡ qs → get_or nodes (row + i) 0 ≡ get_or qs i 0
get_or_placed nodes qs row i e = sym (get_or-drop row nodes i 0) ∙ ap (λ (l : List ℕ). get_or l i 0) e

module _ {nodes p : List ℕ} {row : ℕ} {v : Value} (s : SomeValueStands nodes p row v) where
  begins : RowBegins v s.name s.rows
  begins = rows_begin s.encoded

  begins_placed : drop row nodes ≡ (head_word v ∷ begins.payload ∷ s.name ∷ begins.others) ++ s.rest
  begins_placed = s.placed ∙ ap (λ (l : List ℕ). l ++ s.rest) begins.split

  pub stands_head : get_or nodes row 0 ≡ head_word v
  stands_head = ap (λ (n : ℕ). get_or nodes n 0) (sym (add-zero row)) ∙ get_or_placed nodes _ row 0 begins_placed

  pub stands_kind : get_or nodes row 0 % 8 ≡ kind_code v
  stands_kind = ap (λ (n : ℕ). n % 8) stands_head ∙ head_kind v

  pub stands_length : BoundedNumbers v → get_or nodes row 0 / 256 ≡ length (plain v)
  stands_length b = ap (λ (n : ℕ). n / 256) stands_head ∙ head_length v (bits_small v b)

  pub stands_name : get_or nodes (row + 2) 0 ≡ s.name
  stands_name = row_name_is nodes s.rest row s.encoded s.placed

  pub stands_size : row_size nodes row ≡ 3 * size v
  stands_size = row_size_is nodes s.rest row s.encoded s.placed ∙ length_rows s.encoded

  pub stands_within : row + 3 * size v ≤ length nodes
  stands_within =
      omega (
        arith,
        size_some v,
        length-drop row nodes,
        ap length s.placed,
        length-append s.rows s.rest,
        length_rows s.encoded,
      )

-- ---- the payload

pub number_payload
    : {nodes p : List ℕ} {row : ℕ} {x : Number} → SomeValueStands nodes p row (Value.number x) → get_or nodes (row + 1) 0 ≡ x.coefficient
number_payload {nodes} {p} {row} {x} s = go s.encoded s.placed
  where
    go
        : {m : ℕ} {rs : List ℕ} → Rows p m (Value.number x) rs → drop row nodes ≡ rs ++ s.rest
        → get_or nodes (row + 1) 0 ≡ x.coefficient
    go number_row e = get_or_placed nodes _ row 1 e

pub text_payload
    : {nodes p : List ℕ} {row : ℕ} {t : Bytes} → SomeValueStands nodes p row (Value.text t) → Refers p t (get_or nodes (row + 1) 0)
text_payload {nodes} {p} {row} {t} s = go s.encoded s.placed
  where
    go
        : {m : ℕ} {rs : List ℕ} → Rows p m (Value.text t) rs → drop row nodes ≡ rs ++ s.rest
        → Refers p t (get_or nodes (row + 1) 0)
    go (text_row r) e = rw (get_or_placed nodes _ row 1 e) r

-- ---- the rows of parts

-- a list's or a record's rows are its own and qs
pub record Own (v : Value) (m : ℕ) (rs qs : List ℕ) : Type 0 where
  pub same : rs ≡ head_word v ∷ 3 * size v ∷ m ∷ qs

pub list_apart
    : {p : List ℕ} {m : ℕ} {vs : Items} {rs : List ℕ} → Rows p m (Value.list vs) rs
    → (qs : List ℕ) × ItemRows p vs qs × Own (Value.list vs) m rs qs
list_apart (list_rows r) = (_, r, record { same = refl })

pub rec_apart
    : {p : List ℕ} {m : ℕ} {ms : Members} {rs : List ℕ} → Rows p m (Value.rec ms) rs
    → (qs : List ℕ) × MemberRows p ms qs × Own (Value.rec ms) m rs qs
rec_apart (rec_rows r) = (_, r, record { same = refl })

-- behind its own row stand the rows of what it holds, up to an end
pub record Opens (nodes : List ℕ) (row : ℕ) (v : Value) (qs rest : List ℕ) : Type 0 where
  pub inner : drop (row + 3) nodes ≡ qs ++ rest
  pub ends : row + 3 + length qs ≡ row + 3 * size v

pub opens
    : {nodes p qs : List ℕ} {row : ℕ} {v : Value} (s : SomeValueStands nodes p row v) → Own v s.name s.rows qs
    → Opens nodes row v qs s.rest
opens {nodes} {row = row} s o =
    record {
      inner = sym (drop-drop 3 row nodes) ∙ ap (drop 3) (s.placed ∙ ap (λ (l : List ℕ). l ++ s.rest) o.same);
      ends = omega (arith, length_rows s.encoded, ap length o.same);
    }
