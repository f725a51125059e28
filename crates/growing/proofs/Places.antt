-- The walk along members to the place of a name. Assumes nothing.
use Prim.Native.Nat.{Ordering}
use Prim.Native.Nat.{ℕ, ◌+◌, ◌*◌, ◌/◌, ◌%◌, ◌≤◌, ◌<◌}
use native.Mathlib.Omega.{arith}
use mathlib.Core.Path.{◌≡◌, refl, sym, ap, ap₂, subst, ◌∙◌}
use mathlib.Core.Bool.{true, false}
use mathlib.Core.List.{List, [], ◌++◌, append_assoc}
use lib.ListN.{length, get_or, drop, length-append}
use lib.Seq.{drop-drop, drop_at}
use Rattle.definitions.specs.Bytes.{Bytes, order}
use Rattle.definitions.specs.Shape.{Shape, Fields, no_fields, field, before, behind, ascending_fields, forms, forms_fields}
use Rattle.laws.specs.Names.{flip, order_refl, order_flip, same_eq, lt_before}
use Rattle.laws.specs.Fields.{ascending_behind, ascending_rest, behind_trans}
use Rattle.pool.specs.Pool.{text_in, ordering_of}
use Rattle.std.specs.declared.cmp.Ordering as cmp
use Rattle.std.specs.declared.cmp.Ordering.TheVariants.{Less, Equal, Greater}
use Rattle.nodes.specs.Nodes.{Refers}
use Rattle.nodes.specs.StandingLaws.{text_referred}
use Rattle.plain.specs.Table.{Used}
use Rattle.shapes.specs.Shapes.{size_at, FieldRows, no_field_rows, field_rows, Stands, FieldsStand}
use Rattle.shapes.specs.ShapesLaws.{length_shape_rows, stands_name, stands_size, fields_first, fields_rest, SomeFields, some_fields, fields_left, fields_end}
use Rattle.shapes.specs.Members.{Listed, SomeListed, Last, all_of, behind_first, Tells, Names}
use Rattle.std.specs.Prelude.{Option, Some, None}
use Rattle.growing.specs.Growing.{place}
use Rattle.growing.specs.GrowingForms.{place_lt, place_gt, forms_some}
use Rattle.growing.specs.Rows.{MeetsFields, FieldsHeld, Around, Finds, FindsNamed}

-- ---- where the walk stands

-- the members back are left at a row
pub record Back (shapes : List ℕ) (first last : ℕ) (n : Bytes) (p : List ℕ) (fs : Fields) (row : ℕ) (back : Fields) : Type 0 where
  pub front : List ℕ
  pub around : Around n p fs back front
  pub before : drop first shapes ≡ front ++ drop row shapes
  pub reached : row ≡ first + length front
  pub stand : FieldsStand shapes p row last back

pub record Here (shapes : List ℕ) (first last : ℕ) (n : Bytes) (p : List ℕ) (fs : Fields) (row : ℕ) : Type 0 where
  pub back : Fields
  pub at : Back shapes first last n p fs row back

-- the members left, whatever the name
pub record Left (shapes p : List ℕ) (row last : ℕ) : Type 0 where
  pub fields : Fields
  pub stand : FieldsStand shapes p row last fields

pub record Walking (shapes pool : List ℕ) (used first last name row : ℕ) : Type 0 where
  pub ahead : first ≤ row
  pub left : (p : List ℕ) (fs : Fields) → MeetsFields shapes pool used first last p fs → Left shapes p row last
  pub going
      : (p : List ℕ) (fs : Fields) (n : Bytes) → MeetsFields shapes pool used first last p fs → Refers p n name
      → Here shapes first last n p fs row

all_left
    : {shapes p : List ℕ} {first last : ℕ} {n : Bytes} {fs : Fields} → FieldsStand shapes p first last fs
    → Back shapes first last n p fs first fs
all_left s =
    record {
      front = [];
      around =
          record {
            around = λ hs. hs;
            same = refl;
            ascends = λ h. h;
            encodes = λ hs rows e. e;
            counts = λ hs. omega arith;
            places = λ st f. refl;
          };
      before = refl;
      reached = omega arith;
      stand = s;
    }

pub walk_begins : (shapes pool : List ℕ) (used first last name : ℕ) → Walking shapes pool used first last name first
walk_begins shapes pool used first last name =
    record {
      ahead = omega arith;
      left = λ p fs m. record { fields = fs; stand = m.stand };
      going = λ p fs n m r. record { back = fs; at = all_left m.stand };
    }

-- ---- one member

-- a walk that stands at a member m
pub record At (shapes : List ℕ) (first last : ℕ) (n : Bytes) (p : List ℕ) (fs : Fields) (row : ℕ) : Type 0 where
  pub name : Bytes
  pub shape : Shape
  pub rest : Fields
  pub at : Back shapes first last n p fs row (field name shape rest)

module _ {shapes : List ℕ} {first last : ℕ} {n : Bytes} {p : List ℕ} {fs : Fields} {row : ℕ} where
  pub at_member : Here shapes first last n p fs row → row < last → At shapes first last n p fs row
  at_member h more = go (fields_left h.at.stand more) h.at
    where
      go : {back : Fields} → SomeFields back → Back shapes first last n p fs row back → At shapes first last n p fs row
      go (some_fields {n = m} {s} {fs = gs}) b = record { name = m; shape = s; rest = gs; at = b }

  pub past_last : Here shapes first last n p fs row → last ≤ row → Finds shapes first last n p fs row false
  unfolding place
  past_last h past = go h.at h.at.stand.encoded h.at.stand.reaches
    where
      go
          : {back : Fields} {rows : List ℕ} → Back shapes first last n p fs row back → FieldRows p back rows → row + length rows ≡ last
          → Finds shapes first last n p fs row false
      go a no_field_rows l =
          record {
            front = a.front;
            back = no_fields;
            around = a.around;
            before = a.before;
            reached = a.reached;
            stand = a.stand;
            case = λ st f. refl;
          }
      go a (field_rows {s} {rs} {qs} f r q) l =
          absurd (let z : ⊥ = omega (arith, length-append rs qs, length_shape_rows r, forms_some s) in z)

  module _ {m : Bytes} {b : Shape} {gs : Fields} (a : Back shapes first last n p fs row (field m b gs)) where
    pub found_before : order n m ≡ Ordering.lt → Finds shapes first last n p fs row false
    found_before e =
        record {
          front = a.front;
          back = field m b gs;
          around = a.around;
          before = a.before;
          reached = a.reached;
          stand = a.stand;
          case = λ st f. place_lt n st f m b gs e;
        }

    pub found_there : order n m ≡ Ordering.eq → Finds shapes first last n p fs row true
    found_there e =
        record {
          front = a.front;
          back = field m b gs;
          around = a.around;
          before = a.before;
          reached = a.reached;
          stand = a.stand;
          case = (m, b, gs, refl, e);
        }

    pub goes_on : order n m ≡ Ordering.gt → Back shapes first last n p fs (row + size_at shapes row) gs
    unfolding forms
    goes_on e = go a.stand.encoded (fields_first a.stand).2 a.stand.placed
      where
        go
            : {rows : List ℕ} {k : ℕ} → FieldRows p (field m b gs) rows → Stands shapes p row k b → drop row shapes ≡ rows ++ a.stand.rest
            → Back shapes first last n p fs (row + size_at shapes row) gs
        go (field_rows {rs} {qs} f r q) s' d =
            record {
              front = a.front ++ rs;
              around =
                  record {
                    around = λ hs. a.around.around (field m b hs);
                    same = a.around.same;
                    ascends = λ h. ascending_rest m b gs (a.around.ascends h);
                    encodes = λ hs rows x.
                        subst
                        (λ (l : List ℕ). FieldRows p (a.around.around (field m b hs)) l)
                        (sym (append_assoc a.front rs rows))
                        (a.around.encodes (field m b hs) (rs ++ rows) (field_rows f r x));
                    counts = λ hs. omega (arith, a.around.counts (field m b hs), length-append a.front rs, length_shape_rows r);
                    places = λ st g. a.around.places st g ∙ ap a.around.around (place_gt n st g m b gs e);
                  };
              before =
                  a.before
                  ∙ ap
                  (λ (l : List ℕ). a.front ++ l)
                  (d
                  ∙ append_assoc rs qs a.stand.rest
                  ∙ ap
                  (λ (l : List ℕ). rs ++ l)
                  (sym
                  (sym (drop-drop (size_at shapes row) row shapes)
                  ∙ ap (drop (size_at shapes row)) (d ∙ append_assoc rs qs a.stand.rest)
                  ∙ drop_at rs (qs ++ a.stand.rest) (size_at shapes row) (length_shape_rows r ∙ sym (stands_size s')))))
                  ∙ sym (append_assoc a.front rs (drop (row + size_at shapes row) shapes));
              reached = omega (arith, a.reached, length-append a.front rs, length_shape_rows r, stands_size s');
              stand = fields_rest a.stand;
            }

    -- how the name stands to the member's, from the texts of their references
    pub order_told
        : (pool : List ℕ) (o : cmp.Ordering) (name k : ℕ) → Used pool p → Refers p n name → k ≡ get_or shapes (row + 1) 0
        → ordering_of o ≡ order (text_in pool (name % 65536) (name / 65536)) (text_in pool (k % 65536) (k / 65536))
        → order n m ≡ ordering_of o
    order_told pool o name k u r e c =
        let f = fields_first a.stand in
        let g : text_in pool (k % 65536) (k / 65536) ≡ m
        = ap (λ (x : ℕ). text_in pool (x % 65536) (x / 65536)) (e ∙ stands_name f.2)
        ∙ text_referred pool u.front u.small f.1 in
        sym (c ∙ ap₂ order (text_referred pool u.front u.small r) g)

-- ---- the members left

left_rest : {shapes p : List ℕ} {row last : ℕ} → Left shapes p row last → row < last → Left shapes p (row + size_at shapes row) last
left_rest {shapes} {p} {row} {last} l more = go (fields_left l.stand more) l.stand
  where
    go : {fs : Fields} → SomeFields fs → FieldsStand shapes p row last fs → Left shapes p (row + size_at shapes row) last
    go (some_fields {fs = gs}) s = record { fields = gs; stand = fields_rest s }

pub left_within
    : {shapes p : List ℕ} {row last : ℕ} → Left shapes p row last → row < last
    → (row + size_at shapes row ≤ last) × (1 ≤ size_at shapes row)
left_within {shapes} {p} {row} {last} l more = go (fields_left l.stand more) l.stand
  where
    go : {fs : Fields} → SomeFields fs → FieldsStand shapes p row last fs → (row + size_at shapes row ≤ last) × (1 ≤ size_at shapes row)
    go (some_fields {n = m} {s = a} {fs = gs}) s =
        let f = fields_first s in
        let r = fields_rest s in
        (omega (arith, r.reaches), omega (arith, stands_size f.2, forms_some a))

-- ---- the answers

module _
    {shapes pool : List ℕ} {used first last name row : ℕ} (k : ℕ) (o : cmp.Ordering) (w : Walking shapes pool used first last name row) (more : row < last)
    (named : k ≡ get_or shapes (row + 1) 0)
    (told : ordering_of o ≡ order (text_in pool (name % 65536) (name / 65536)) (text_in pool (k % 65536) (k / 65536)))
  where
    there
        : {p : List ℕ} {fs : Fields} {n : Bytes} → MeetsFields shapes pool used first last p fs → Refers p n name
        → At shapes first last n p fs row
    there {p} {fs} {n} m r = at_member (w.going p fs n m r) more

    pub answer_less
        : o ≡ Less → (p : List ℕ) (fs : Fields) (n : Bytes) → MeetsFields shapes pool used first last p fs → Refers p n name
        → Finds shapes first last n p fs row false
    unfolding ordering_of
    answer_less e p fs n m r = found_before (there m r).at (order_told (there m r).at pool o name k m.pooled r named told ∙ ap ordering_of e)

    pub answer_equal
        : o ≡ Equal → (p : List ℕ) (fs : Fields) (n : Bytes) → MeetsFields shapes pool used first last p fs → Refers p n name
        → Finds shapes first last n p fs row true
    unfolding ordering_of
    answer_equal e p fs n m r = found_there (there m r).at (order_told (there m r).at pool o name k m.pooled r named told ∙ ap ordering_of e)

    pub walk_on : {size : ℕ} → o ≡ Greater → size ≡ size_at shapes row → Walking shapes pool used first last name (row + size)
    unfolding ordering_of
    walk_on e f =
        subst (λ (x : ℕ). Walking shapes pool used first last name (row + x)) (sym f)
        (record {
          ahead = omega (arith, w.ahead);
          left = λ p fs m. left_rest (w.left p fs m) more;
          going = λ p fs n m r.
              record {
                back = (there m r).rest;
                at = goes_on (there m r).at (order_told (there m r).at pool o name k m.pooled r named told ∙ ap ordering_of e);
              };
        })

-- ---- a member found by its name

-- the name of one of the last members stands behind any that stands before them all
last_behind
    : (k : Bytes) {gs os : Fields} {m : Bytes} {b : Shape} → Last gs (field m b os) → ascending_fields gs ≡ true → behind k gs ≡ true
    → before k m ≡ true
unfolding behind
last_behind k all_of i h = h
last_behind k (behind_first {n = q} {s} {fs = gs} l) i h =
    last_behind k l (ascending_rest q s gs i) (behind_trans k q gs h (ascending_behind q s gs i))

-- the walk comes to it, since names ascend
comes_to
    : {shapes : List ℕ} {first last : ℕ} {n : Bytes} {p : List ℕ} {fs : Fields} {i row : ℕ} {gs os : Fields} {m : Bytes} {b : Shape}
    → Last gs (field m b os) → Back shapes first last n p fs i gs → ascending_fields gs ≡ true → n ≡ m
    → row + 2 * forms_fields (field m b os) ≡ last → Finds shapes first last n p fs row true
comes_to {shapes} {first} {last} {n} {p} {fs} {i} {row} {m = m} all_of a h e l =
    subst (λ (x : ℕ). Finds shapes first last n p fs x true)
    (let f : i ≡ row = omega (arith, l, fields_end a.stand) in f)
    (found_there a (ap (λ (x : Bytes). order x m) e ∙ order_refl m))
comes_to {shapes = shapes} {n = n} {i = i} {m = m} (behind_first {n = q} {s} {fs = gs} l) a h e f =
    let later : order q m ≡ Ordering.lt = lt_before q m (last_behind q l (ascending_rest q s gs h) (ascending_behind q s gs h)) in
    comes_to {i = i + size_at shapes i} l (goes_on a (ap (λ (x : Bytes). order x q) e ∙ order_flip q m ∙ ap flip later)) (ascending_rest q s gs h)
    e f

listed_of
    : {shapes pool : List ℕ} {used first last : ℕ} {p : List ℕ} {fs : Fields} → MeetsFields shapes pool used first last p fs
    → Listed shapes pool first last p fs
listed_of m = record { stand = m.stand; front = m.pooled.front; small = m.pooled.small }

pub held_listed : {shapes pool : List ℕ} {used first last : ℕ} → FieldsHeld shapes pool used first last → SomeListed shapes pool first last
held_listed h = record { used = h.part; fields = h.fields; listed = listed_of h.meets }

pub named_found
    : {shapes pool : List ℕ} {used first last name : ℕ} (r : Option ℕ) → Names shapes first last pool name r
    → (p : List ℕ) (fs : Fields) (n : Bytes) → MeetsFields shapes pool used first last p fs → ascending_fields fs ≡ true
    → Refers p n name → FindsNamed shapes first last n p fs r
named_found {shapes} {pool} {used} {first} {last} {name} r h p fs n m i e =
    go r (subst (λ (t : Bytes). Tells shapes p last t fs r) (text_referred pool m.pooled.front m.pooled.small e)
    (h p fs (listed_of m)))
  where
    go : (r : Option ℕ) → Tells shapes p last n fs r → FindsNamed shapes first last n p fs r
    go (Some row) t = comes_to t.last (all_left m.stand) i (same_eq n t.label t.alike) (fields_end t.stand)
    go None t = t
