-- The first word of a shape that gets kinds and words: its rows are those of the shape with what was added. Assumes nothing.
use Rattle.std.specs.Prelude.{ℕ, ◌+◌, ◌*◌, ◌/◌, ◌%◌, ◌^◌, ◌≤◌, ◌<◌, ◌≡◌, refl, List, ◌∷◌, ◌++◌, length, get_or, take, drop}
use Rattle.std.proofs.Common.{add-zero, arith, sym, ap, ap₂, subst, ◌∙◌, get_or-drop}
use Rattle.std.specs.Int.Bits.{bit_or}
use Rattle.definitions.specs.Shape.{Shape, shape, Element, no_list, list_of, Record, no_rec, rec_of, Fields, no_fields}
use Rattle.definitions.specs.Shape.{nothing, has_list, has_rec, element_of, record_of, only_list, only_rec, forms}
use Rattle.definitions.specs.Join.{with_null, join, join_element, join_record, join_fields, add_null}
use Rattle.shapes.specs.Shapes.{head_of, head_word, bit, numeric_bits, kind_bits, size_at, ShapeRows, shape_rows, ElementRows, RecordRows, Stands}
use Rattle.shapes.specs.ShapesLaws.{kind_bits_lt, union_bits, head_kinds, head_size, stands_kinds, stands_size}
use Rattle.join.specs.Replacing.{Put}
use Rattle.join.specs.ReplacingLaws.{Split, split_used, split_put, split_replaced, split_drop, stands_split}
use Rattle.growing.specs.Growing.{with_element, with_fields}
use Rattle.growing.specs.GrowingLaws.{list_is, rec_is}
use Rattle.growing.specs.GrowingForms.{forms_some}
use Rattle.growing.specs.StepLaws.{split_as}

-- ---- the rows of a shape, apart

pub record Apart (p : List ℕ) (m : ℕ) (s : Shape) (rows : List ℕ) : Type 0 where
  pub es : List ℕ
  pub rs : List ℕ
  pub element : ElementRows p (element_of s) es
  pub fields : RecordRows p (record_of s) rs
  pub same : rows ≡ head_word s ∷ m ∷ es ++ rs

pub apart : {p : List ℕ} {m : ℕ} {s : Shape} {rows : List ℕ} → ShapeRows p m s rows → Apart p m s rows
unfolding element_of record_of
apart (shape_rows {es} {rs} e r) = record { es = es; rs = rs; element = e; fields = r; same = refl }

pub together
    : {p : List ℕ} {m : ℕ} (s : Shape) {es rs : List ℕ} → ElementRows p (element_of s) es → RecordRows p (record_of s) rs
    → ShapeRows p m s (head_word s ∷ m ∷ es ++ rs)
unfolding element_of record_of
together (shape n b k t e r) f g = shape_rows f g

-- ---- kinds added

element_bits : (a c s : Shape) → kind_bits (with_element a s) ≡ kind_bits (with_element c s)
unfolding kind_bits with_element has_list
element_bits a c (shape n b m t e r) = refl

element_joined : (e : Element) → (c : Shape) × (join_element e (list_of nothing) ≡ list_of c)
unfolding join
element_joined no_list = (nothing, refl)
element_joined (list_of a) = (join a nothing, refl)

pub bits_with_element : (a s : Shape) → bit_or (kind_bits s) 32 ≡ kind_bits (with_element a s)
unfolding kind_bits bit numeric_bits has_list has_rec only_list
bits_with_element a s =
    let j = element_joined (element_of s) in
    union_bits s (only_list (list_of nothing)) ∙ ap kind_bits (list_is nothing s j.0 j.1) ∙ element_bits j.0 a s

fields_bits : (fs gs : Fields) (s : Shape) → kind_bits (with_fields fs s) ≡ kind_bits (with_fields gs s)
unfolding kind_bits with_fields has_rec
fields_bits fs gs (shape n b m t e r) = refl

fields_joined : (r : Record) → (gs : Fields) × (join_record r (rec_of no_fields) ≡ rec_of gs)
unfolding join
fields_joined no_rec = (no_fields, refl)
fields_joined (rec_of fs) = (join_fields fs (add_null fs no_fields), refl)

pub bits_with_fields : (fs : Fields) (s : Shape) → bit_or (kind_bits s) 64 ≡ kind_bits (with_fields fs s)
unfolding kind_bits bit numeric_bits has_list has_rec only_rec
bits_with_fields fs s =
    let j = fields_joined (record_of s) in
    union_bits s (only_rec (rec_of no_fields)) ∙ ap kind_bits (rec_is no_fields s j.0 j.1) ∙ fields_bits j.0 fs s

-- ---- the first word

pub head_raised
    : (t : List ℕ) (row kinds words : ℕ) (s u : Shape) → get_or t row 0 % 128 ≡ kind_bits s → size_at t row ≡ 2 * forms s
    → bit_or (kind_bits s) kinds ≡ kind_bits u → 2 * forms s + words ≡ 2 * forms u
    → head_of (bit_or (get_or t row 0 % 128) kinds) (size_at t row + words) ≡ head_word u
unfolding head_word
head_raised t row kinds words s u e z f g =
    ap₂ (λ (x y : ℕ). head_of (bit_or x kinds) (y + words)) e z ∙ ap₂ (λ (x y : ℕ). x + 128 * y) f g

pub head_fits : (u : Shape) → 2 * forms u < 2 ^ 56 → head_word u < 2 ^ 64
unfolding head_word
head_fits u h = omega (arith, kind_bits_lt u)

-- the first word that a shape gets fits, where all the words of the shape that comes of it do
pub raise_fits
    : {t p : List ℕ} {row m : ℕ} {s : Shape} (kinds words : ℕ) (u : Shape) → Stands t p row m s
    → bit_or (kind_bits s) kinds ≡ kind_bits u → 2 * forms s + words ≡ 2 * forms u → 2 * forms u < 2 ^ 56
    → head_of (bit_or (get_or t row 0 % 128) kinds) (size_at t row + words) < 2 ^ 64
raise_fits {t} {p} {row} {m} {s} kinds words u h f g l =
    subst (λ (x : ℕ). x < 2 ^ 64) (sym (head_raised t row kinds words s u (stands_kinds h) (stands_size h) f g)) (head_fits u l)

-- a word put at a row, in the used words
pub put_split
    : {t t' : List ℕ} {used row old : ℕ} {front : List ℕ} {x : ℕ} {xs behind : List ℕ} (y : ℕ)
    → t' ≡ take row t ++ y ∷ drop (row + 1) t → Split t used row old front (x ∷ xs) behind
    → Split t' used row old front (y ∷ xs) behind
put_split {used} {row} {old} {front} {xs} {behind} y e w =
    subst (λ (l : List ℕ). Split l used row old front (y ∷ xs) behind) (sym e) (split_put y w)

-- the word at the row
pub head_at
    : {t : List ℕ} {used row old : ℕ} {front : List ℕ} {x : ℕ} {xs behind : List ℕ} → Split t used row old front (x ∷ xs) behind
    → get_or t row 0 ≡ x
head_at {t} {row = row} w =
    ap (λ (i : ℕ). get_or t i 0) (sym (add-zero row)) ∙ sym (get_or-drop row t 0 0) ∙ ap (λ (l : List ℕ). get_or l 0 0) (split_drop w)

-- a shape as it is
pub kept_put
    : {t p : List ℕ} {used row m : ℕ} {s : Shape} (h : Stands t p row m s) → row + 2 * forms s ≤ used → used ≤ length t
    → Put t t used 0 row (2 * forms s) (ShapeRows p m s)
kept_put {used} {s} h i j =
    let w = stands_split h i j in
    record {
      rows = h.rows;
      encoded = h.encoded;
      replaced = split_replaced w (split_as (sym (add-zero used)) refl (sym (add-zero (2 * forms s))) w) refl;
    }

-- ---- kinds alone

-- a shape with more kinds and the same parts
pub record SameParts (s u : Shape) : Type 0 where
  pub element : element_of u ≡ element_of s
  pub fields : record_of u ≡ record_of s
  pub counts : forms u ≡ forms s

pub null_parts : (s : Shape) → SameParts s (with_null s)
unfolding with_null element_of record_of forms
null_parts (shape n b m t e r) = record { element = refl; fields = refl; counts = refl }

-- the first word in the place of a shape's, where only kinds are added
pub kinds_put
    : {t t' p : List ℕ} {used row m : ℕ} {s u : Shape} (kinds : ℕ) (h : Stands t p row m s) → row + 2 * forms s ≤ used → used ≤ length t
    → SameParts s u → bit_or (kind_bits s) kinds ≡ kind_bits u → length t' ≡ length t
    → t' ≡ take row t ++ head_of (bit_or (get_or t row 0 % 128) kinds) (size_at t row + 0) ∷ drop (row + 1) t
    → Put t t' used 0 row (2 * forms s) (ShapeRows p m u)
kinds_put {t} {t'} {p} {used} {row} {m} {s} {u} kinds h i j k b l e =
    let a = apart h.encoded in
    let w = subst (λ (x : List ℕ). Split t used row (2 * forms s) (take row t) x (drop (row + 2 * forms s) (take used t))) a.same (stands_split h i j) in
    let f = head_raised t row kinds 0 s u (stands_kinds h) (stands_size h) b (omega (arith, k.counts)) in
    let w' = put_split (head_word u) (e ∙ ap (λ (x : ℕ). take row t ++ x ∷ drop (row + 1) t) f) w in
    record {
      rows = head_word u ∷ m ∷ a.es ++ a.rs;
      encoded = together u
          (subst (λ (x : Element). ElementRows p x a.es) (sym k.element) a.element)
          (subst (λ (x : Record). RecordRows p x a.rs) (sym k.fields) a.fields);
      replaced = split_replaced w (split_as (sym (add-zero used)) refl (sym (add-zero (2 * forms s))) w') l;
    }

-- ---- a shape all of whose rows stand but its first word

-- the rows of u stand in the place of those of s, but for the first word, which is still that of s
pub record Risen (t t₂ p : List ℕ) (used row m : ℕ) (s u : Shape) (words : ℕ) : Type 0 where
  pub front : List ℕ
  pub middle : List ℕ
  pub rest : List ℕ
  pub behind : List ℕ
  pub split₀ : Split t used row (2 * forms s) front middle behind
  pub split : Split t₂ (used + words) row (2 * forms u) front (head_word s ∷ rest) behind
  pub encoded : ShapeRows p m u (head_word u ∷ rest)
  pub counts : 2 * forms s + words ≡ 2 * forms u
  pub same : length t₂ ≡ length t

module _
    {t t₂ p : List ℕ} {used row m : ℕ} {s u : Shape} {words : ℕ} (kinds : ℕ) (h : Risen t t₂ p used row m s u words)
    (b : bit_or (kind_bits s) kinds ≡ kind_bits u)
  where
    risen_head : head_of (bit_or (get_or t₂ row 0 % 128) kinds) (size_at t₂ row + words) ≡ head_word u
    unfolding size_at
    risen_head =
        head_raised t₂ row kinds words s u
        (ap (λ (x : ℕ). x % 128) (head_at h.split) ∙ head_kinds s)
        (ap (λ (x : ℕ). x / 128) (head_at h.split) ∙ head_size s)
        b
        h.counts

    pub risen_fits
        : length t < 2 ^ 56
        → (row < length t₂) × (head_of (bit_or (get_or t₂ row 0 % 128) kinds) (size_at t₂ row + words) < 2 ^ 64)
    risen_fits l = (
      omega (arith, split_used h.split, h.split.fits, forms_some u),
      subst (λ (x : ℕ). x < 2 ^ 64) (sym risen_head) (head_fits u (omega (arith, split_used h.split, h.split.fits, h.same))),
    )

    pub risen_put
        : {t₃ : List ℕ} → t₃ ≡ take row t₂ ++ head_of (bit_or (get_or t₂ row 0 % 128) kinds) (size_at t₂ row + words) ∷ drop (row + 1) t₂
        → length t₃ ≡ length t₂ → Put t t₃ used words row (2 * forms s) (ShapeRows p m u)
    risen_put {t₃} e l =
        record {
          rows = head_word u ∷ h.rest;
          encoded = h.encoded;
          replaced =
              split_replaced h.split₀
              (split_as refl refl (sym h.counts)
              (put_split (head_word u) (e ∙ ap (λ (x : ℕ). take row t₂ ++ x ∷ drop (row + 1) t₂) risen_head) h.split))
              (l ∙ h.same);
        }
