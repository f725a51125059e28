-- Laws of words replaced in place. Assumes nothing.
use Rattle.std.specs.Prelude.{ℕ, suc, ◌+◌, ◌-◌, ◌*◌, ◌≤◌, ◌≡◌, refl, List, [], ◌∷◌, ◌++◌, length, get_or, take, drop}
use Rattle.std.proofs.Common.{arith, sym, ap, ap₂, subst, ◌∙◌, append_assoc, length-append, length-drop, take-append-drop, length-take-le, take-take, take-add}
use Rattle.std.proofs.Common.{take_all, take_at, drop_at, drop-drop, append-nil}
use Rattle.std.proofs.Math.Seq.{drop-length}
use Rattle.std.proofs.lemmas.List.{get_or_at}
use Rattle.definitions.specs.Shape.{Shape, Fields, forms, forms_fields}
use Rattle.shapes.specs.Shapes.{ShapeRows, FieldRows, Stands, FieldsStand}
use Rattle.shapes.specs.ShapesLaws.{length_shape_rows, length_field_rows}
use Rattle.join.specs.Replacing.{Opened, Replaced, Put}

-- ---- the used words, in parts

-- the used words of a table: so many from a row on, and what stands before and behind them
pub record Split (shapes : List ℕ) (used row old : ℕ) (front middle behind : List ℕ) : Type 0 where
  pub whole : take used shapes ≡ front ++ (middle ++ behind)
  pub at : length front ≡ row
  pub size : length middle ≡ old
  pub fits : used ≤ length shapes

module _ {shapes : List ℕ} {used row old : ℕ} {front middle behind : List ℕ} (w : Split shapes used row old front middle behind) where
  pub split_used : row + old + length behind ≡ used
  split_used =
      omega (
        arith,
        w.at,
        w.size,
        w.fits,
        length-append front (middle ++ behind),
        length-append middle behind,
        sym (ap length w.whole) ∙ length-take-le used shapes w.fits,
      )

  pub split_front : take row shapes ≡ front
  split_front =
      sym (take-take row used shapes (omega (arith, split_used)))
      ∙ ap (take row) w.whole
      ∙ take_at front (middle ++ behind) row w.at

  pub split_behind : drop (row + old) (take used shapes) ≡ behind
  split_behind =
      ap (drop (row + old)) (w.whole ∙ sym (append_assoc front middle behind))
      ∙ drop_at (front ++ middle) behind (row + old) (omega (arith, length-append front middle, w.at, w.size))

  -- with what is free behind them
  pub split_all : shapes ≡ front ++ (middle ++ (behind ++ drop used shapes))
  split_all =
      sym (take-append-drop used shapes)
      ∙ ap (λ (l : List ℕ). l ++ drop used shapes) w.whole
      ∙ append_assoc front (middle ++ behind) (drop used shapes)
      ∙ ap (λ (l : List ℕ). front ++ l) (append_assoc middle behind (drop used shapes))

  pub split_drop : drop row shapes ≡ middle ++ (behind ++ drop used shapes)
  split_drop = ap (drop row) split_all ∙ drop_at front (middle ++ (behind ++ drop used shapes)) row w.at

-- ---- parts of the middle

module _ {shapes : List ℕ} {used row : ℕ} {front behind : List ℕ} (xs ys zs : List ℕ) where
  pub split_inner
      : {old : ℕ} → Split shapes used row old front (xs ++ (ys ++ zs)) behind
      → Split shapes used (row + length xs) (length ys) (front ++ xs) ys (zs ++ behind)
  split_inner w =
      record {
        whole = w.whole
            ∙ ap (λ (l : List ℕ). front ++ l) (append_assoc xs (ys ++ zs) behind ∙ ap (λ (l : List ℕ). xs ++ l) (append_assoc ys zs behind))
            ∙ sym (append_assoc front xs (ys ++ (zs ++ behind)));
        at = omega (arith, length-append front xs, w.at);
        size = refl;
        fits = w.fits;
      }

  pub split_outer
      : {n : ℕ} → length front ≡ row → Split shapes used (row + length xs) n (front ++ xs) ys (zs ++ behind)
      → Split shapes used row (length xs + n + length zs) front (xs ++ (ys ++ zs)) behind
  split_outer {n} e w =
      record {
        whole = w.whole
            ∙ append_assoc front xs (ys ++ (zs ++ behind))
            ∙ ap
            (λ (l : List ℕ). front ++ l)
            (sym (append_assoc xs (ys ++ zs) behind ∙ ap (λ (l : List ℕ). xs ++ l) (append_assoc ys zs behind)));
        at = e;
        size = omega (arith, length-append xs (ys ++ zs), length-append ys zs, w.size);
        fits = w.fits;
      }

-- ---- the middle replaced

module _ {shapes shapes' : List ℕ} {used words row old : ℕ} {front middle behind rows : List ℕ} where
  pub replaced_split
      : Split shapes used row old front middle behind → Replaced shapes shapes' used words row old rows
      → Split shapes' (used + words) row (old + words) front rows behind
  replaced_split w r =
      record {
        whole = r.held
            ∙ ap (λ (l : List ℕ). l ++ (rows ++ drop (row + old) (take used shapes))) (split_front w)
            ∙ ap (λ (l : List ℕ). front ++ (rows ++ l)) (split_behind w);
        at = w.at;
        size = r.grown;
        fits = omega (arith, r.within, r.same);
      }

  pub split_replaced
      : Split shapes used row old front middle behind → Split shapes' (used + words) row (old + words) front rows behind
      → length shapes' ≡ length shapes → Replaced shapes shapes' used words row old rows
  split_replaced w v e =
      record {
        held = v.whole
            ∙ ap (λ (l : List ℕ). l ++ (rows ++ behind)) (sym (split_front w))
            ∙ ap (λ (l : List ℕ). take row shapes ++ (rows ++ l)) (sym (split_behind w));
        grown = v.size;
        within = omega (arith, v.fits);
        same = e;
      }

-- ---- one word put

pub split_head
    : {shapes : List ℕ} {used row old : ℕ} {front : List ℕ} {x : ℕ} {xs behind : List ℕ}
    → Split shapes used row old front (x ∷ xs) behind → get_or shapes row 0 ≡ x
split_head {shapes} {used} {row} {front} {x} {xs} {behind} w =
    ap (λ (l : List ℕ). get_or l row 0) (split_all w) ∙ get_or_at front x (xs ++ (behind ++ drop used shapes)) 0 row w.at

pub split_put
    : {shapes : List ℕ} {used row old : ℕ} {front : List ℕ} {x : ℕ} {xs behind : List ℕ} (y : ℕ)
    → Split shapes used row old front (x ∷ xs) behind
    → Split (take row shapes ++ y ∷ drop (row + 1) shapes) used row old front (y ∷ xs) behind
split_put {shapes} {used} {row} {old} {front} {x} {xs} {behind} y w =
    let e : take row shapes ++ y ∷ drop (row + 1) shapes ≡ (front ++ (y ∷ (xs ++ behind))) ++ drop used shapes
    = ap (λ (l : List ℕ). l ++ y ∷ drop (row + 1) shapes) (split_front w)
    ∙ ap (λ (l : List ℕ). front ++ y ∷ l) (sym (drop-drop 1 row shapes) ∙ ap (drop 1) (split_drop w))
    ∙ ap (λ (l : List ℕ). front ++ y ∷ l) (sym (append_assoc xs behind (drop used shapes)))
    ∙ sym (append_assoc front (y ∷ (xs ++ behind)) (drop used shapes)) in
    let n : length (front ++ (y ∷ (xs ++ behind))) ≡ used
    = omega (arith, length-append front (y ∷ (xs ++ behind)), length-append xs behind, w.at, w.size, split_used w) in
    record {
      whole = ap (take used) e ∙ take_at (front ++ (y ∷ (xs ++ behind))) (drop used shapes) used n;
      at = w.at;
      size = w.size;
      fits = omega (arith, ap length e, length-append (front ++ (y ∷ (xs ++ behind))) (drop used shapes));
    }

-- ---- what stands in a table

-- rows that are placed in a table
placed_split
    : {shapes : List ℕ} {used row old : ℕ} (rows rest : List ℕ) → drop row shapes ≡ rows ++ rest → length rows ≡ old → row + old ≤ used
    → used ≤ length shapes → Split shapes used row old (take row shapes) rows (drop (row + old) (take used shapes))
placed_split {shapes} {used} {row} {old} rows rest h n i j =
    let l : length (take row shapes) ≡ row = length-take-le row shapes (omega arith) in
    let e : shapes ≡ (take row shapes ++ rows) ++ rest
    = sym (take-append-drop row shapes)
    ∙ ap (λ (l : List ℕ). take row shapes ++ l) h
    ∙ sym (append_assoc (take row shapes) rows rest) in
    let k : length (take row shapes ++ rows) ≡ row + old = omega (arith, length-append (take row shapes) rows) in
    record {
      whole = sym (take-append-drop (row + old) (take used shapes))
          ∙ ap
          (λ (x : List ℕ). x ++ drop (row + old) (take used shapes))
          (take-take (row + old) used shapes i
          ∙ ap (take (row + old)) e
          ∙ take_at (take row shapes ++ rows) rest (row + old) k)
          ∙ append_assoc (take row shapes) rows (drop (row + old) (take used shapes));
      at = l;
      size = n;
      fits = j;
    }

pub fields_split
    : {shapes p : List ℕ} {used row end : ℕ} {fs : Fields} (h : FieldsStand shapes p row end fs) → end ≤ used → used ≤ length shapes
    → Split shapes used row (2 * forms_fields fs) (take row shapes) h.rows (drop (row + 2 * forms_fields fs) (take used shapes))
fields_split h i j =
    placed_split h.rows h.rest h.placed (length_field_rows h.encoded) (omega (arith, h.reaches, length_field_rows h.encoded)) j

module _ {shapes p : List ℕ} {used row m : ℕ} {s : Shape} where
  pub stands_split
      : (h : Stands shapes p row m s) → row + 2 * forms s ≤ used → used ≤ length shapes
      → Split shapes used row (2 * forms s) (take row shapes) h.rows (drop (row + 2 * forms s) (take used shapes))
  stands_split h i j = placed_split h.rows h.rest h.placed (length_shape_rows h.encoded) i j

  pub split_stands
      : {old : ℕ} {front rows behind : List ℕ} → Split shapes used row old front rows behind → ShapeRows p m s rows
      → Stands shapes p row m s
  split_stands {rows} {behind} w e =
      record { rows = rows; rest = behind ++ drop used shapes; encoded = e; placed = split_drop w }

pub split_fields
    : {shapes p : List ℕ} {used row old : ℕ} {fs : Fields} {front rows behind : List ℕ} → Split shapes used row old front rows behind
    → FieldRows p fs rows → FieldsStand shapes p row (row + old) fs
split_fields {shapes} {used} {row} {rows} {behind} w e =
    record {
      rows = rows;
      rest = behind ++ drop used shapes;
      encoded = e;
      placed = split_drop w;
      reaches = ap (λ (n : ℕ). row + n) w.size;
    }

-- ---- one replacement behind another

pub split_of
    : (shapes : List ℕ) (used row old : ℕ) → row + old ≤ used → used ≤ length shapes
    → Split shapes used row old (take row shapes) (take old (drop row shapes)) (drop (row + old) (take used shapes))
split_of shapes used row old h i =
    record {
      whole = sym (take-append-drop (row + old) (take used shapes))
          ∙ ap
          (λ (l : List ℕ). l ++ drop (row + old) (take used shapes))
          (take-take (row + old) used shapes h ∙ take-add row old shapes)
          ∙ append_assoc (take row shapes) (take old (drop row shapes)) (drop (row + old) (take used shapes));
      at = length-take-le row shapes (omega arith);
      size = length-take-le old (drop row shapes) (omega (arith, length-drop row shapes));
      fits = i;
    }

-- the same under other numbers and words
pub split_as
    : {shapes : List ℕ} {used used' row old old' : ℕ} {front middle middle' behind : List ℕ}
    → Split shapes used row old front middle behind → used ≡ used' → old ≡ old' → middle ≡ middle'
    → Split shapes used' row old' front middle' behind
split_as {shapes} {used} {front} {behind} w e f g =
    record {
      whole = ap (λ (n : ℕ). take n shapes) (sym e) ∙ w.whole ∙ ap (λ (l : List ℕ). front ++ (l ++ behind)) g;
      at = w.at;
      size = sym (ap length g) ∙ w.size ∙ f;
      fits = omega (arith, w.fits);
    }

module _ {shapes shapes₁ shapes₂ : List ℕ} {used words more row old new : ℕ} {xs ys : List ℕ} where
  pub replaced_then
      : (all : ℕ) → row + old ≤ used → used ≤ length shapes → Replaced shapes shapes₁ used words row old xs → new ≡ old + words
      → Replaced shapes₁ shapes₂ (used + words) more row new ys → all ≡ words + more → Replaced shapes shapes₂ used all row old ys
  replaced_then all h i r e q f =
      let w = split_of shapes used row old h i in
      let v = replaced_split w r in
      split_replaced
      w
      (split_as
      (replaced_split (split_as v refl (sym e) refl) q)
      (let g : used + words + more ≡ used + all = omega arith in g)
      (let g : new + more ≡ old + all = omega arith in g)
      refl)
      (q.same ∙ r.same)

module _ {shapes shapes' : List ℕ} {used words row old : ℕ} {Rows Other : List ℕ → Type 0} where
  pub put_map : ((rows : List ℕ) → Rows rows → Other rows) → Put shapes shapes' used words row old Rows → Put shapes shapes' used words row old Other
  put_map f h = record { rows = h.rows; encoded = f h.rows h.encoded; replaced = h.replaced }

-- the words inside a shape are replaced, and then its first word
module _ {shapes shapes₁ : List ℕ} {used words row old at inner : ℕ} {front behind : List ℕ} {x : ℕ} (xs ys zs : List ℕ) {us : List ℕ} where
  inside
      : Split shapes used row old front ((x ∷ xs) ++ (ys ++ zs)) behind → Replaced shapes shapes₁ used words at inner us
      → at ≡ row + suc (length xs) → inner ≡ length ys
      → Split shapes₁ (used + words) row (old + words) front ((x ∷ xs) ++ (us ++ zs)) behind
  inside w r e f =
      let v = split_inner (x ∷ xs) ys zs w in
      let q = replaced_split v
      (subst (λ (n : ℕ). Replaced shapes shapes₁ used words n (length ys) us) e (subst (λ (n : ℕ). Replaced shapes shapes₁ used words at n us) f r)) in
      split_as
      (split_outer (x ∷ xs) us zs w.at q)
      refl
      (omega (arith, w.size, length-append (x ∷ xs) (ys ++ zs), length-append ys zs))
      refl

  -- the first word is as it was before it is put
  pub inside_head
      : Split shapes used row old front ((x ∷ xs) ++ (ys ++ zs)) behind → Replaced shapes shapes₁ used words at inner us
      → at ≡ row + suc (length xs) → inner ≡ length ys → get_or shapes₁ row 0 ≡ x
  inside_head w r e f = split_head (inside w r e f)

  pub inside_replaced
      : {shapes₂ : List ℕ} {y : ℕ} → Split shapes used row old front ((x ∷ xs) ++ (ys ++ zs)) behind → Replaced shapes shapes₁ used words at inner us
      → at ≡ row + suc (length xs) → inner ≡ length ys → shapes₂ ≡ take row shapes₁ ++ y ∷ drop (row + 1) shapes₁
      → length shapes₂ ≡ length shapes₁ → Replaced shapes shapes₂ used words row old (y ∷ (xs ++ (us ++ zs)))
  inside_replaced {y} w r e f g l =
      split_replaced
      w
      (subst
      (λ (s : List ℕ). Split s (used + words) row (old + words) front (y ∷ (xs ++ (us ++ zs))) behind)
      (sym g)
      (split_put y (inside w r e f)))
      (l ∙ r.same)

-- ---- a walk along the middle

module _ {shapes : List ℕ} {used row old : ℕ} {front : List ℕ} (ys zs : List ℕ) {behind : List ℕ} where
  -- the first words of the middle
  pub split_first
      : Split shapes used row old front (ys ++ zs) behind → Split shapes used row (length ys) front ys (zs ++ behind)
  split_first w =
      record {
        whole = w.whole ∙ ap (λ (l : List ℕ). front ++ l) (append_assoc ys zs behind);
        at = w.at;
        size = refl;
        fits = w.fits;
      }

  -- the words behind them
  pub split_next
      : Split shapes used row old front ys (zs ++ behind) → Split shapes used (row + length ys) (length zs) (front ++ ys) zs behind
  split_next w =
      record {
        whole = w.whole ∙ sym (append_assoc front ys (zs ++ behind));
        at = omega (arith, length-append front ys, w.at);
        size = refl;
        fits = w.fits;
      }

-- the words before a place taken to the middle
pub split_back
    : {shapes : List ℕ} {used row at old : ℕ} (front xs : List ℕ) {behind : List ℕ} → Split shapes used at old (front ++ xs) [] behind
    → length front ≡ row → Split shapes used row (length xs) front xs behind
split_back front xs {behind} w e =
    record { whole = w.whole ∙ append_assoc front xs behind; at = e; size = refl; fits = w.fits }

-- the same behind another list of words
pub split_behind_as
    : {shapes : List ℕ} {used row row' old : ℕ} {front front' middle behind : List ℕ} → Split shapes used row old front middle behind
    → front ≡ front' → row ≡ row' → Split shapes used row' old front' middle behind
split_behind_as {middle} {behind} w e f =
    record {
      whole = w.whole ∙ ap (λ (l : List ℕ). l ++ (middle ++ behind)) e;
      at = sym (ap length e) ∙ w.at ∙ f;
      size = w.size;
      fits = w.fits;
    }

-- ---- rows put where a gap was opened

-- a table with the part from a row on changed
abbrev with_part : (t part : List ℕ) (row : ℕ) → List ℕ
with_part t part row = take row t ++ (part ++ drop (length t - row) (drop row t))

module _ (t part' t₂ : List ℕ) (used row gap : ℕ) (rows : List ℕ) (i : row ≤ used) (j : used + gap ≤ length t) where
  whole_part : take (length t - row) (drop row t) ≡ drop row t
  whole_part = take_all (length t - row) (drop row t) (omega (arith, length-drop row t))

  none_behind : drop (length t - row) (drop row t) ≡ []
  none_behind =
      drop-drop (length t - row) row t
      ∙ ap (λ (n : ℕ). drop n t) (let e : row + (length t - row) ≡ length t = omega arith in e)
      ∙ drop-length t

  changed : with_part t part' row ≡ take row t ++ part'
  changed = ap (λ (z : List ℕ). take row t ++ (part' ++ z)) none_behind ∙ ap (λ (z : List ℕ). take row t ++ z) (append-nil part')

  front_length : length (take row t) ≡ row
  front_length = length-take-le row t (omega arith)

  used_moved : drop row (take used t) ≡ take (used - row) (drop row t)
  used_moved =
      ap (λ (n : ℕ). drop row (take n t)) (let q : used ≡ row + (used - row) = omega arith in q)
      ∙ ap (drop row) (take-add row (used - row) t)
      ∙ drop_at (take row t) (take (used - row) (drop row t)) row front_length

  -- rows put into the gap that was opened at a row
  pub gap_filled
      : Opened (take (length t - row) (drop row t)) part' (used - row) gap → length rows ≡ gap
      → t₂ ≡ take row (with_part t part' row) ++ (rows ++ drop (row + gap) (with_part t part' row)) → length t₂ ≡ length t
      → Replaced t t₂ used gap row 0 rows
  gap_filled o n f same =
      let free : List ℕ = drop (used - row + gap) (drop row t) in
      let front : take row (with_part t part' row) ≡ take row t
      = ap (take row) changed ∙ take_at (take row t) part' row front_length in
      let moved : drop (row + gap) (with_part t part' row) ≡ drop row (take used t) ++ free
      = ap (drop (row + gap)) changed
      ∙ sym (drop-drop gap row (take row t ++ part'))
      ∙ ap (drop gap) (drop_at (take row t) part' row front_length)
      ∙ o.moved
      ∙ ap (λ (z : List ℕ). take (used - row) z ++ drop (used - row + gap) z) whole_part
      ∙ ap (λ (z : List ℕ). z ++ free) (sym used_moved) in
      let whole : t₂ ≡ (take row t ++ (rows ++ drop row (take used t))) ++ free
      = f
      ∙ ap₂ (λ (x y : List ℕ). x ++ (rows ++ y)) front moved
      ∙ ap (λ (x : List ℕ). take row t ++ x) (sym (append_assoc rows (drop row (take used t)) free))
      ∙ sym (append_assoc (take row t) (rows ++ drop row (take used t)) free) in
      let w : length (take row t ++ (rows ++ drop row (take used t))) ≡ used + gap
      = omega (
        arith,
        length-append (take row t) (rows ++ drop row (take used t)),
        length-append rows (drop row (take used t)),
        length-drop row (take used t),
        length-take-le used t (omega arith),
        front_length,
        n,
      ) in
      record {
        held = ap (take (used + gap)) whole
            ∙ take_at (take row t ++ (rows ++ drop row (take used t))) free (used + gap) w
            ∙ ap (λ (k : ℕ). take row t ++ (rows ++ drop k (take used t))) (let q : row ≡ row + 0 = omega arith in q);
        grown = omega (arith, n);
        within = j;
        same = same;
      }
