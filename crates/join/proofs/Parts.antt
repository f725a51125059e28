-- Members and an element of the second given to a first that has none. Assumes nothing.
use Prim.Native.Nat.{ℕ, ◌+◌, ◌-◌, ◌*◌, ◌%◌, ◌≤◌, ◌<◌}
use native.Mathlib.Omega.{arith}
use mathlib.Core.Path.{◌≡◌, refl, sym, ap, subst, ◌∙◌}
use mathlib.Core.Bool.{Bool, true, false, false≢true}
use mathlib.Core.List.{List, ◌∷◌, ◌++◌}
use lib.ListN.{length, get_or, take, drop, get_or-append}
use lib.Seq.{take_at, get_or-take, length-take-le}
use Rattle.definitions.specs.Shape.{Numeric, Shape, shape, Element, no_list, list_of, Record, no_rec}
use Rattle.definitions.specs.Shape.{rec_of, Fields, element_of, record_of, has_list, has_rec, forms}
use Rattle.definitions.specs.Join.{join}
use Rattle.shapes.specs.Shapes.{bit, has_bit, ShapeRows, element_rows, record_rows, FieldRows, Stands, FieldsStand, size_at, members_at}
use Rattle.shapes.specs.ShapesLaws.{has_list_bit, has_rec_bit, stands_kinds, stands_size, stands_within}
use Rattle.shapes.specs.ShapesLaws.{stands_element, stands_members, members_at_is, fields_end, forms_some}
use Rattle.join.specs.Replacing.{Replaced, Put, Over}
use Rattle.join.specs.ReplacingLaws.{put_map}
use Rattle.join.specs.Joining.{Copied, Both, join_records, join_elements}
use Rattle.join.proofs.Rows.{record_changed, element_changed}
use Rattle.join.proofs.Members.{copied_rows, head_small}

-- ---- kinds told by their bits

pub clash : {A : Type 0} {x y : Bool} → x ≡ true → y ≡ false → x ≡ y → A
clash p q r = absurd (false≢true (sym q ∙ sym r ∙ p))

pub bit_list
    : {t p : List ℕ} {row m : ℕ} {n b x : Bool} {k : Numeric} {e : Element} {r : Record} → Stands t p row m (shape n b k x e r)
    → has_bit (get_or t row 0 % 128) 32 ≡ has_list e
bit_list {n} {b} {x} {k} {e} {r} h = ap (λ (y : ℕ). has_bit y 32) (stands_kinds h) ∙ has_list_bit n b k x e r

pub bit_rec
    : {t p : List ℕ} {row m : ℕ} {n b x : Bool} {k : Numeric} {e : Element} {r : Record} → Stands t p row m (shape n b k x e r)
    → has_bit (get_or t row 0 % 128) 64 ≡ has_rec r
bit_rec {n} {b} {x} {k} {e} {r} h = ap (λ (y : ℕ). has_bit y 64) (stands_kinds h) ∙ has_rec_bit n b k x e r

-- ---- words before those replaced

pub replaced_before
    : {shapes shapes' : List ℕ} {used words at old : ℕ} {rows : List ℕ} (row : ℕ) → Replaced shapes shapes' used words at old rows → row < at
    → at ≤ used → used ≤ length shapes → get_or shapes' row 0 ≡ get_or shapes row 0
replaced_before {shapes} {shapes'} {used} {words} {at} {old} {rows} row r h i j =
    sym (get_or-take (used + words) shapes' row 0 (omega arith))
    ∙ ap (λ (l : List ℕ). get_or l row 0) r.held
    ∙ get_or-append (take at shapes) (rows ++ drop (at + old) (take used shapes)) 0 row (omega (arith, length-take-le at shapes (omega arith)))
    ∙ get_or-take at shapes row 0 h

-- the first word has room for a kind and for the words that its table got
pub head_room
    : {shapes shapes' p : List ℕ} {used words at old m : ℕ} {rows : List ℕ} {s : Shape} (row kind : ℕ) → Replaced shapes shapes' used words at old rows
    → Stands shapes p row m s → row < at → at ≤ used → used ≤ length shapes → length shapes ≤ 65536 → kind ≤ 64
    → (row < length shapes') × (get_or shapes' row 0 + kind + 128 * words < 18446744073709551616)
head_room row kind r h i j k l q = (
  omega (arith, r.same),
  omega (arith, replaced_before row r i j k, head_small h l, r.within),
)

-- the words copied are the members' rows
pub copied_fields
    : {second p rows : List ℕ} {from to count : ℕ} {gs : Fields} (h : FieldsStand second p from to gs) → count ≡ to - from
    → Copied second from count rows → FieldRows p gs rows
copied_fields {second} {p} {from = from} {to} {count} {gs} h c e =
    subst
    (FieldRows p gs)
    (sym (e ∙ ap (take count) h.placed ∙ take_at h.rows h.rest count (let g : length h.rows ≡ count = omega (arith, h.reaches) in g)))
    h.encoded

-- where members begin is in the table
pub members_within : {t p : List ℕ} {row m : ℕ} (s : Shape) → Stands t p row m s → length t < 18446744073709551616 → members_at t row < 18446744073709551616
unfolding forms
members_within (shape n b k x e r) h l = omega (arith, members_at_is h, stands_within h)

-- behind its first row a shape is not at the end of what is used
pub element_before
    : {shapes second p : List ℕ} {used row m other k : ℕ} (s : Shape) {t : Shape} → Both shapes second p used row m other k s t → row + 2 ≤ used
element_before s v = omega (arith, v.within, forms_some s)

-- ---- members

-- where the second's members stand, and where they are to be put
pub record Putting (shapes second : List ℕ) (row other end from to : ℕ) : Type 0 where
  pub end_is : end ≡ row + size_at shapes row
  pub from_is : from ≡ members_at second other
  pub to_is : to ≡ other + size_at second other

pub putting
    : {shapes second : List ℕ} (row other : ℕ) {size from passed : ℕ} → size ≡ size_at shapes row → from ≡ members_at second other
    → passed ≡ size_at second other → Putting shapes second row other (row + size) from (other + passed)
putting row other e f g = record { end_is = ap (λ (i : ℕ). row + i) e; from_is = f; to_is = ap (λ (i : ℕ). other + i) g }

module _ {shapes second p : List ℕ} {used row m other k end from to : ℕ} where
  pub put_members_room : (s t : Shape) → Both shapes second p used row m other k s t → Putting shapes second row other end from to
      → (row < end) × (end ≤ used) × (from ≤ to) × (to ≤ length second)
  unfolding forms
  put_members_room s (shape n b x y e r) v w = (
    omega (arith, w.end_is, stands_size v.ours, forms_some s),
    omega (arith, w.end_is, stands_size v.ours, v.within),
    omega (arith, w.from_is, w.to_is, members_at_is v.theirs, stands_size v.theirs),
    omega (arith, w.to_is, stands_size v.theirs, stands_within v.theirs),
  )

  module _ (v_kinds : has_bit (get_or shapes row 0 % 128) 64 ≡ false) (t_kinds : has_bit (get_or second other 0 % 128) 64 ≡ true)
      (w : Putting shapes second row other end from to) where
    pub put_members_full
        : {shapes₁ : List ℕ} (s t : Shape) → Both shapes second p used row m other k s t → Over shapes shapes₁ used 0 (to - from)
        → Over shapes shapes₁ used (2 * forms s) (2 * forms (join_records s t))
    unfolding join_records record_of join forms has_rec
    put_members_full (shape n b x y e (rec_of fs)) t v o = clash refl v_kinds (sym (bit_rec v.ours))
    put_members_full (shape n b x y e no_rec) (shape n' b' x' y' e' no_rec) v o = clash t_kinds refl (bit_rec v.theirs)
    put_members_full (shape n b x y e no_rec) (shape n' b' x' y' e' (rec_of gs)) v o =
        record { over = omega (arith, o.over, w.from_is, w.to_is, fields_end (stands_members v.theirs)); same = o.same }

    pub put_members_grown
        : {shapes₁ shapes₂ : List ℕ} {words : ℕ} (s t : Shape) → Both shapes second p used row m other k s t
        → Put shapes shapes₁ used words end 0 (Copied second from (to - from))
        → shapes₂ ≡ take row shapes₁ ++ (get_or shapes₁ row 0 + 64 + 128 * words) ∷ drop (row + 1) shapes₁ → length shapes₂ ≡ length shapes₁
        → Put shapes shapes₂ used words row (2 * forms s) (ShapeRows p m (join_records s t))
    unfolding join_records record_of join forms has_rec bit
    put_members_grown (shape n b x y e (rec_of fs)) t v q f g = clash refl v_kinds (sym (bit_rec v.ours))
    put_members_grown (shape n b x y e no_rec) (shape n' b' x' y' e' no_rec) v q f g = clash t_kinds refl (bit_rec v.theirs)
    put_members_grown (shape n b x y e no_rec) (shape n' b' x' y' e' (rec_of gs)) v q f g =
        let h = stands_members v.theirs in
        let l : FieldsStand second p from to gs
        =
        subst (λ (i : ℕ). FieldsStand second p i to gs) (sym w.from_is)
        (subst (λ (i : ℕ). FieldsStand second p (members_at second other) i gs) (sym w.to_is) h) in
        record_changed 64 v.ours v.within v.used_within
        (put_map (λ rows c. record_rows (copied_fields l refl c)) q)
        (omega (arith, w.end_is, stands_size v.ours)) refl refl f g

-- ---- element

module _ {shapes second p : List ℕ} {used row m other k count : ℕ} where
  module _ (v_kinds : has_bit (get_or shapes row 0 % 128) 32 ≡ false) (t_kinds : has_bit (get_or second other 0 % 128) 32 ≡ true)
      (c : count ≡ size_at second (other + 2)) where
    pub put_element_room : (s t : Shape) → Both shapes second p used row m other k s t → other + 2 + count ≤ length second
    unfolding has_list
    put_element_room s (shape n' b' x' y' no_list r') v = clash t_kinds refl (bit_list v.theirs)
    put_element_room s (shape n' b' x' y' (list_of a) r') v =
        omega (arith, c, stands_size (stands_element v.theirs), stands_within (stands_element v.theirs))

    pub put_element_full
        : {shapes₁ : List ℕ} (s t : Shape) → Both shapes second p used row m other k s t → Over shapes shapes₁ used 0 count
        → Over shapes shapes₁ used (2 * forms s) (2 * forms (join_elements s t))
    unfolding join_elements element_of join forms has_list
    put_element_full (shape n b x y (list_of d) r) t v o = clash refl v_kinds (sym (bit_list v.ours))
    put_element_full (shape n b x y no_list r) (shape n' b' x' y' no_list r') v o = clash t_kinds refl (bit_list v.theirs)
    put_element_full (shape n b x y no_list r) (shape n' b' x' y' (list_of a) r') v o =
        record { over = omega (arith, o.over, c, stands_size (stands_element v.theirs)); same = o.same }

    pub put_element_grown
        : {shapes₁ shapes₂ : List ℕ} {words : ℕ} (s t : Shape) → Both shapes second p used row m other k s t
        → Put shapes shapes₁ used words (row + 2) 0 (Copied second (other + 2) count)
        → shapes₂ ≡ take row shapes₁ ++ (get_or shapes₁ row 0 + 32 + 128 * words) ∷ drop (row + 1) shapes₁ → length shapes₂ ≡ length shapes₁
        → Put shapes shapes₂ used words row (2 * forms s) (ShapeRows p m (join_elements s t))
    unfolding join_elements element_of join forms has_list bit
    put_element_grown (shape n b x y (list_of d) r) t v q f g = clash refl v_kinds (sym (bit_list v.ours))
    put_element_grown (shape n b x y no_list r) (shape n' b' x' y' no_list r') v q f g = clash t_kinds refl (bit_list v.theirs)
    put_element_grown (shape n b x y no_list r) (shape n' b' x' y' (list_of a) r') v q f g =
        element_changed 32 v.ours v.within v.used_within
        (put_map (λ rows i. element_rows (copied_rows (stands_element v.theirs) c i)) q)
        refl refl refl f g
