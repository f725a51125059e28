-- The rows of a shape with its members, its element or null changed. Assumes nothing.
use Prim.Native.Nat.{ℕ, suc, ◌+◌, ◌*◌, ◌%◌, ◌≤◌}
use native.Mathlib.Omega.{arith}
use mathlib.Core.Path.{◌≡◌, refl, sym, ap, subst, ◌∙◌}
use mathlib.Core.Bool.{Bool, true, false}
use mathlib.Core.List.{List, [], ◌∷◌, ◌++◌, append-nil}
use lib.ListN.{length, get_or, take, drop}
use Rattle.definitions.specs.Shape.{Numeric, Shape, shape, Element, Record, has_list, has_rec, forms, forms_element, forms_record}
use Rattle.definitions.specs.Join.{with_null}
use Rattle.shapes.specs.Shapes.{bit, has_bit, kind_bits, head_word, ShapeRows, shape_rows, ElementRows, RecordRows, Stands}
use Rattle.shapes.specs.ShapesLaws.{has_null_bit, head_kinds, length_element_rows, length_record_rows}
use Rattle.join.specs.Replacing.{Replaced, Put}
use Rattle.join.specs.ReplacingLaws.{Split, split_head, split_as, split_put, split_replaced, stands_split, inside_head, inside_replaced}
use Rattle.join.specs.Joining.{null_head}

-- ---- a shape's rows in parts

pub record Opens (p : List ℕ) (m : ℕ) (n b : Bool) (k : Numeric) (t : Bool) (e : Element) (r : Record) (rows : List ℕ) : Type 0 where
  pub elements : List ℕ
  pub members : List ℕ
  pub element : ElementRows p e elements
  pub record_of : RecordRows p r members
  pub whole : rows ≡ head_word (shape n b k t e r) ∷ m ∷ (elements ++ members)

pub opens
    : {p : List ℕ} {m : ℕ} {n b t : Bool} {k : Numeric} {e : Element} {r : Record} {rows : List ℕ} → ShapeRows p m (shape n b k t e r) rows
    → Opens p m n b k t e r rows
opens (shape_rows {es} {rs} is js) = record { elements = es; members = rs; element = is; record_of = js; whole = refl }

-- ---- null added

module _ (n b : Bool) (k : Numeric) (t : Bool) (e : Element) (r : Record) where
  head_null : (x : Bool) → x ≡ n → (y : ℕ) → y ≡ head_word (shape n b k t e r) → has_bit (y % 128) 1 ≡ x → null_head y ≡ head_word (shape true b k t e r)
  unfolding null_head head_word kind_bits bit forms
  head_null true g y f h = rw (h, null_head) (f ∙ ap (λ (z : Bool). head_word (shape z b k t e r)) (sym g))
  head_null false g y f h = rw (h, null_head) (ap (λ (i : ℕ). i + 1) (f ∙ ap (λ (z : Bool). head_word (shape z b k t e r)) (sym g)) ∙ omega arith)

pub null_head_word : (s : Shape) → null_head (head_word s) ≡ head_word (with_null s)
unfolding with_null
null_head_word (shape n b k t e r) =
    head_null n b k t e r n refl (head_word (shape n b k t e r)) refl
    (ap (λ (i : ℕ). has_bit i 1) (head_kinds (shape n b k t e r)) ∙ has_null_bit n b k t e r)

-- a first word changed, and the rest kept: u differs from s only in kinds other than list and rec
pub record Headed (p : List ℕ) (m : ℕ) (s u : Shape) (rows : List ℕ) : Type 0 where
  pub others : List ℕ
  pub whole : rows ≡ head_word s ∷ others
  pub changed : ShapeRows p m u (head_word u ∷ others)

pub headed
    : {p : List ℕ} {m : ℕ} {n b x : Bool} {k : Numeric} {e : Element} {r : Record} {rows : List ℕ} (n' b' : Bool) (k' : Numeric) (x' : Bool)
    → ShapeRows p m (shape n b k x e r) rows → Headed p m (shape n b k x e r) (shape n' b' k' x' e r) rows
headed {m} n' b' k' x' (shape_rows {es} {rs} is js) = record { others = m ∷ (es ++ rs); whole = refl; changed = shape_rows is js }

null_headed : {p : List ℕ} {m : ℕ} (s : Shape) {rows : List ℕ} → ShapeRows p m s rows → Headed p m s (with_null s) rows
unfolding with_null
null_headed (shape n b k x e r) h = headed true b k x h

module _ {shapes p : List ℕ} {used row m : ℕ} {s : Shape} where
  -- the first word of a shape that stands there is put anew
  pub reheaded
      : {shapes' : List ℕ} {u : Shape} (h : Stands shapes p row m s) → row + 2 * forms s ≤ used → used ≤ length shapes
      → Headed p m s u h.rows → shapes' ≡ take row shapes ++ head_word u ∷ drop (row + 1) shapes → length shapes' ≡ length shapes
      → Put shapes shapes' used 0 row (2 * forms s) (ShapeRows p m u)
  reheaded {shapes'} {u} h i j d e l =
      let w = stands_split h i j in
      record {
        rows = head_word u ∷ d.others;
        encoded = d.changed;
        replaced = split_replaced
            w
            (split_as
            (subst
            (λ (l : List ℕ). Split l used row (2 * forms s) (take row shapes) (head_word u ∷ d.others) (drop (row + 2 * forms s) (take used shapes)))
            (sym e)
            (split_put (head_word u) (split_as w refl refl d.whole)))
            (let g : used ≡ used + 0 = omega arith in g)
            (let g : 2 * forms s ≡ 2 * forms s + 0 = omega arith in g)
            refl)
            l;
      }

  pub nulled
      : {shapes' : List ℕ} → Stands shapes p row m s → row + 2 * forms s ≤ used → used ≤ length shapes
      → shapes' ≡ take row shapes ++ null_head (get_or shapes row 0) ∷ drop (row + 1) shapes → length shapes' ≡ length shapes
      → Put shapes shapes' used 0 row (2 * forms s) (ShapeRows p m (with_null s))
  nulled h i j e l =
      let d = null_headed s h.encoded in
      let x : get_or shapes row 0 ≡ head_word s = split_head (split_as (stands_split h i j) refl refl d.whole) in
      reheaded h i j d (e ∙ ap (λ (y : ℕ). take row shapes ++ y ∷ drop (row + 1) shapes) (ap null_head x ∙ null_head_word s)) l

  -- nothing is put
  pub unchanged : Stands shapes p row m s → row + 2 * forms s ≤ used → used ≤ length shapes → Put shapes shapes used 0 row (2 * forms s) (ShapeRows p m s)
  unchanged h i j =
      let w = stands_split h i j in
      record {
        rows = h.rows;
        encoded = h.encoded;
        replaced = split_replaced
            w
            (split_as w (let g : used ≡ used + 0 = omega arith in g) (let g : 2 * forms s ≡ 2 * forms s + 0 = omega arith in g) refl)
            refl;
      }

-- ---- members or element changed

-- a first word with a kind more and words more
module _ (n b : Bool) (k : Numeric) (t : Bool) (e e' : Element) (r r' : Record) where
  head_more
      : (kind words : ℕ) → 32 * bit (has_list e') + 64 * bit (has_rec r') ≡ 32 * bit (has_list e) + 64 * bit (has_rec r) + kind
      → 2 * forms_element e' + 2 * forms_record r' ≡ 2 * forms_element e + 2 * forms_record r + words
      → head_word (shape n b k t e r) + kind + 128 * words ≡ head_word (shape n b k t e' r')
  unfolding head_word kind_bits forms
  head_more kind words f g = omega arith

module _ {shapes shapes₁ shapes₂ p : List ℕ} {used words row m : ℕ} {n b t : Bool} {k : Numeric} {e : Element} {r : Record} where
  pub record_changed
      : (kind : ℕ) {at inner : ℕ} {r' : Record} → Stands shapes p row m (shape n b k t e r) → row + 2 * forms (shape n b k t e r) ≤ used → used ≤ length shapes
      → Put shapes shapes₁ used words at inner (RecordRows p r') → at ≡ row + 2 + 2 * forms_element e → inner ≡ 2 * forms_record r
      → 64 * bit (has_rec r') ≡ 64 * bit (has_rec r) + kind
      → shapes₂ ≡ take row shapes₁ ++ (get_or shapes₁ row 0 + kind + 128 * words) ∷ drop (row + 1) shapes₁ → length shapes₂ ≡ length shapes₁
      → Put shapes shapes₂ used words row (2 * forms (shape n b k t e r)) (ShapeRows p m (shape n b k t e r'))
  record_changed kind {at} {inner} {r'} h i j put ea ei ek es el =
      let o = opens h.encoded in
      let le : length o.elements ≡ 2 * forms_element e = length_element_rows o.element in
      let lr : length o.members ≡ 2 * forms_record r = length_record_rows o.record_of in
      let lu : length put.rows ≡ 2 * forms_record r' = length_record_rows put.encoded in
      let w =
      split_as (stands_split h i j) refl refl
      (o.whole ∙ ap (λ (l : List ℕ). head_word (shape n b k t e r) ∷ m ∷ (o.elements ++ l)) (sym (append-nil o.members))) in
      let f : at ≡ row + suc (length (m ∷ o.elements)) = omega arith in
      let g : inner ≡ length o.members = omega arith in
      let x : get_or shapes₁ row 0 ≡ head_word (shape n b k t e r) = inside_head (m ∷ o.elements) o.members [] w put.replaced f g in
      let y : get_or shapes₁ row 0 + kind + 128 * words ≡ head_word (shape n b k t e r')
      = ap (λ (z : ℕ). z + kind + 128 * words) x ∙ head_more n b k t e e r r' kind words (omega arith) (omega (arith, put.replaced.grown)) in
      record {
        rows = head_word (shape n b k t e r') ∷ m ∷ (o.elements ++ put.rows);
        encoded = shape_rows o.element put.encoded;
        replaced = subst
            (λ (l : List ℕ). Replaced shapes shapes₂ used words row (2 * forms (shape n b k t e r)) (head_word (shape n b k t e r') ∷ m ∷ (o.elements ++ l)))
            (append-nil put.rows)
            (inside_replaced (m ∷ o.elements) o.members [] w put.replaced f g
            (es ∙ ap (λ (z : ℕ). take row shapes₁ ++ z ∷ drop (row + 1) shapes₁) y) el);
      }

  pub element_changed
      : (kind : ℕ) {at inner : ℕ} {e' : Element} → Stands shapes p row m (shape n b k t e r) → row + 2 * forms (shape n b k t e r) ≤ used → used ≤ length shapes
      → Put shapes shapes₁ used words at inner (ElementRows p e') → at ≡ row + 2 → inner ≡ 2 * forms_element e
      → 32 * bit (has_list e') ≡ 32 * bit (has_list e) + kind
      → shapes₂ ≡ take row shapes₁ ++ (get_or shapes₁ row 0 + kind + 128 * words) ∷ drop (row + 1) shapes₁ → length shapes₂ ≡ length shapes₁
      → Put shapes shapes₂ used words row (2 * forms (shape n b k t e r)) (ShapeRows p m (shape n b k t e' r))
  element_changed kind {at} {inner} {e'} h i j put ea ei ek es el =
      let o = opens h.encoded in
      let le : length o.elements ≡ 2 * forms_element e = length_element_rows o.element in
      let lu : length put.rows ≡ 2 * forms_element e' = length_element_rows put.encoded in
      let w = split_as (stands_split h i j) refl refl o.whole in
      let f : at ≡ row + suc (length (m ∷ [])) = omega arith in
      let g : inner ≡ length o.elements = omega arith in
      let x : get_or shapes₁ row 0 ≡ head_word (shape n b k t e r) = inside_head (m ∷ []) o.elements o.members w put.replaced f g in
      let y : get_or shapes₁ row 0 + kind + 128 * words ≡ head_word (shape n b k t e' r)
      = ap (λ (z : ℕ). z + kind + 128 * words) x ∙ head_more n b k t e e' r r kind words (omega arith) (omega (arith, put.replaced.grown)) in
      record {
        rows = head_word (shape n b k t e' r) ∷ m ∷ (put.rows ++ o.members);
        encoded = shape_rows put.encoded o.record_of;
        replaced = inside_replaced (m ∷ []) o.elements o.members w put.replaced f g
            (es ∙ ap (λ (z : ℕ). take row shapes₁ ++ z ∷ drop (row + 1) shapes₁) y) el;
      }
