-- Null added to the members that are lacked, one member after the other. Assumes nothing.
use Rattle.std.specs.Prelude.{ℕ, ◌+◌, ◌*◌, ◌%◌, ◌^◌, ◌≤◌, ◌<◌, ◌≡◌, Bool, true, false, length, get_or, take, drop}
use Rattle.std.proofs.Common.{add-zero, sym, ◌∙◌}
use native.Mathlib.Omega.{arith}
use Rattle.std.proofs.Math.Path.{refl, subst}
use mathlib.Core.List.{List, [], ◌∷◌, ◌++◌, append_assoc}
use Rattle.std.specs.Int.Bits.{bit_or}
use Rattle.std.proofs.Math.ListN.{length-append}
use Rattle.definitions.specs.Bytes.{Bytes}
use Rattle.definitions.specs.Shape.{Shape, Fields, no_fields, field, forms, forms_fields}
use Rattle.definitions.specs.Join.{with_null}
use Rattle.laws.specs.FieldsPut.{forms_with_null}
use Rattle.nodes.specs.Nodes.{Refers}
use Rattle.shapes.specs.Shapes.{head_of, size_at, ShapeRows, FieldRows, no_field_rows, field_rows, Stands, FieldsStand}
use Rattle.shapes.specs.ShapesLaws.{bits_with_null, length_shape_rows, stands_size, stands_row, fields_end}
use Rattle.join.specs.Replacing.{Put}
use Rattle.join.specs.ReplacingLaws.{Split, split_used, split_inner, split_outer, split_stands, replaced_split, split_replaced}
use Rattle.growing.specs.Growing.{null_if_lacked, null_lacked, null_others}
use Rattle.growing.specs.GrowingForms.{forms_some}
use Rattle.growing.specs.Rows.{Room, MeetsFields, MeetsListed, ListedHeld, NullsListed, Nullable, Nulls}
use Rattle.growing.specs.StepLaws.{split_as, fields_split}
use Rattle.growing.specs.HeadLaws.{null_parts, raise_fits, kinds_put, kept_put}

-- ---- one member

module _ {shapes pool : List ℕ} {used row : ℕ} {p : List ℕ} {n : Bytes} {w : ℕ} {s : Shape} (m : MeetsListed shapes pool used row p n w s) where
  pub null_kept
      : {b c : Bool} → b ≡ c → b ≡ true → used ≤ length shapes
      → Put shapes shapes used 0 row (2 * forms s) (ShapeRows p w (null_if_lacked c s))
  unfolding null_if_lacked
  null_kept told e j =
      subst
      (λ (x : Bool). Put shapes shapes used 0 row (2 * forms s) (ShapeRows p w (null_if_lacked x s)))
      (sym e ∙ told)
      (kept_put m.stands m.within j)

  pub null_put
      : {b c : Bool} {shapes' : List ℕ} → b ≡ c → b ≡ false → used ≤ length shapes → length shapes' ≡ length shapes
      → shapes' ≡ take row shapes ++ head_of (bit_or (get_or shapes row 0 % 128) 1) (size_at shapes row + 0) ∷ drop (row + 1) shapes
      → Put shapes shapes' used 0 row (2 * forms s) (ShapeRows p w (null_if_lacked c s))
  unfolding null_if_lacked
  null_put {shapes' = shapes'} told e j l q =
      subst
      (λ (x : Bool). Put shapes shapes' used 0 row (2 * forms s) (ShapeRows p w (null_if_lacked x s)))
      (sym e ∙ told)
      (kinds_put 1 m.stands m.within j (null_parts s) (bits_with_null s) l q)

  pub null_fits
      : Room shapes used → (row < length shapes) × (head_of (bit_or (get_or shapes row 0 % 128) 1) (size_at shapes row + 0) < 2 ^ 64)
  null_fits room = (
    omega (arith, stands_row m.stands),
    raise_fits 1 0 (with_null s) m.stands (bits_with_null s) (omega (arith, forms_with_null s))
        (omega (arith, forms_with_null s, m.within, room.enough, room.small)),
  )

-- ---- the members one after the other

pub record Nulling (shapes₀ shapes : List ℕ) (used first last : ℕ) (p : List ℕ) (fs : Fields) (there : Bytes → Bool) (row : ℕ) : Type 0 where
  pub done : List ℕ
  pub back : Fields
  pub rows : List ℕ
  pub around : Fields → Fields
  pub encodes : (hs : Fields) (xs : List ℕ) → FieldRows p hs xs → FieldRows p (around hs) (done ++ xs)
  pub same : null_lacked there fs ≡ around (null_lacked there back)
  pub encoded : FieldRows p back rows
  pub split : Split shapes used first (2 * forms_fields fs) (take first shapes₀) (done ++ rows) (drop last (take used shapes₀))
  pub reached : row ≡ first + length done

-- the same, where a member is left
pub record Turn (shapes₀ shapes : List ℕ) (used first last : ℕ) (p : List ℕ) (fs : Fields) (there : Bytes → Bool) (row : ℕ) : Type 0 where
  pub done : List ℕ
  pub name : Bytes
  pub word : ℕ
  pub shape : Shape
  pub rest : Fields
  pub rs : List ℕ
  pub qs : List ℕ
  pub around : Fields → Fields
  pub encodes : (hs : Fields) (xs : List ℕ) → FieldRows p hs xs → FieldRows p (around hs) (done ++ xs)
  pub same : null_lacked there fs ≡ around (null_lacked there (field name shape rest))
  pub refers : Refers p name word
  pub first_rows : ShapeRows p word shape rs
  pub rest_rows : FieldRows p rest qs
  pub split : Split shapes used first (2 * forms_fields fs) (take first shapes₀) (done ++ (rs ++ qs)) (drop last (take used shapes₀))
  pub reached : row ≡ first + length done

module _ {shapes₀ shapes : List ℕ} {used first last : ℕ} {p : List ℕ} {fs : Fields} {there : Bytes → Bool} {row : ℕ} where
  pub turn
      : Nulling shapes₀ shapes used first last p fs there row → first + 2 * forms_fields fs ≡ last → row < last
      → Turn shapes₀ shapes used first last p fs there row
  turn h e more = go h.encoded h.same h.split
    where
      go
          : {back : Fields} {rows : List ℕ} → FieldRows p back rows → null_lacked there fs ≡ h.around (null_lacked there back)
          → Split shapes used first (2 * forms_fields fs) (take first shapes₀) (h.done ++ rows) (drop last (take used shapes₀))
          → Turn shapes₀ shapes used first last p fs there row
      go no_field_rows f w =
          absurd (let z : ⊥ = omega (arith, h.reached, w.size, length-append h.done []) in z)
      go (field_rows {n} {k} {s} {fs = gs} {rs} {qs} r a b) f w =
          record {
            done = h.done;
            name = n;
            word = k;
            shape = s;
            rest = gs;
            rs = rs;
            qs = qs;
            around = h.around;
            encodes = h.encodes;
            same = f;
            refers = r;
            first_rows = a;
            rest_rows = b;
            split = w;
            reached = h.reached;
          }

  module _ (h : Turn shapes₀ shapes used first last p fs there row) where
    inner
        : Split
        shapes
        used
        row
        (2 * forms h.shape)
        (take first shapes₀ ++ h.done)
        h.rs
        (h.qs ++ drop last (take used shapes₀))
    inner = split_as refl (sym h.reached) (length_shape_rows h.first_rows) (split_inner h.done h.rs h.qs h.split)

    pub turn_stands : Stands shapes p row h.word h.shape
    turn_stands = split_stands inner h.first_rows

    pub turn_within : row + 2 * forms h.shape ≤ used
    turn_within = omega (arith, split_used inner)

    pub turn_last : first + 2 * forms_fields fs ≡ last → row + 2 * forms h.shape ≤ last
    turn_last e =
        omega (
          arith,
          h.reached,
          h.split.size,
          length-append h.done (h.rs ++ h.qs),
          length-append h.rs h.qs,
          length_shape_rows h.first_rows,
        )

    pub turn_some : 1 ≤ 2 * forms h.shape
    turn_some = omega (arith, forms_some h.shape)

    module _ {shapes' : List ℕ}
        (q : Put shapes shapes' used 0 row (2 * forms h.shape) (ShapeRows p h.word (null_if_lacked (there h.name) h.shape))) where
      after
          : Split
          shapes'
          used
          row
          (2 * forms h.shape)
          (take first shapes₀ ++ h.done)
          q.rows
          (h.qs ++ drop last (take used shapes₀))
      after = split_as (add-zero used) refl (add-zero (2 * forms h.shape)) (replaced_split inner q.replaced)

      pub size_after : size_at shapes' row ≡ 2 * forms h.shape
      size_after = stands_size (split_stands after q.encoded) ∙ sym (length_shape_rows q.encoded) ∙ after.size

      pub turn_on : Nulling shapes₀ shapes' used first last p fs there (row + 2 * forms h.shape)
      unfolding null_lacked
      turn_on =
          let u : Shape = null_if_lacked (there h.name) h.shape in
          let w = split_outer
          h.done
          q.rows
          h.qs
          h.split.at
          (split_as refl h.reached refl after) in
          record {
            done = h.done ++ q.rows;
            back = h.rest;
            rows = h.qs;
            around = λ hs. h.around (field h.name u hs);
            encodes = λ hs xs e.
                subst
                (λ (l : List ℕ). FieldRows p (h.around (field h.name u hs)) l)
                (sym (append_assoc h.done q.rows xs))
                (h.encodes (field h.name u hs) (q.rows ++ xs) (field_rows h.refers q.encoded e));
            same = h.same;
            encoded = h.rest_rows;
            split =
                subst
                (λ (l : List ℕ). Split shapes' used first (2 * forms_fields fs) (take first shapes₀) l (drop last (take used shapes₀)))
                (sym (append_assoc h.done q.rows h.qs))
                (split_as refl refl
                (omega (
                  arith,
                  h.split.size,
                  length-append h.done (h.rs ++ h.qs),
                  length-append h.rs h.qs,
                  length_shape_rows h.first_rows,
                ))
                w);
            reached = omega (arith, h.reached, length-append h.done q.rows, after.size);
          }

  pub nulled
      : Nulling shapes₀ shapes used first last p fs there row → first + 2 * forms_fields fs ≡ last → last ≤ row → length shapes ≡ length shapes₀
      → FieldsStand shapes₀ p first last fs → first ≤ last → last ≤ used → used ≤ length shapes₀
      → Put shapes₀ shapes used 0 first (2 * forms_fields fs) (FieldRows p (null_lacked there fs))
  unfolding null_lacked
  nulled h e past l s b i j = go h.encoded h.same h.split
    where
      go
          : {back : Fields} {rows : List ℕ} → FieldRows p back rows → null_lacked there fs ≡ h.around (null_lacked there back)
          → Split shapes used first (2 * forms_fields fs) (take first shapes₀) (h.done ++ rows) (drop last (take used shapes₀))
          → Put shapes₀ shapes used 0 first (2 * forms_fields fs) (FieldRows p (null_lacked there fs))
      go no_field_rows f w =
          record {
            rows = h.done ++ [];
            encoded =
                subst (λ (gs : Fields). FieldRows p gs (h.done ++ [])) (sym f) (h.encodes no_fields [] no_field_rows);
            replaced =
                split_replaced (fields_split s b i j)
                (split_as (sym (add-zero used)) refl (sym (add-zero (2 * forms_fields fs))) w) l;
          }
      go (field_rows {s = a} {rs} {qs} r x y) f w =
          absurd
          (let z : ⊥ =
          omega (
            arith,
            h.reached,
            w.size,
            length-append h.done (rs ++ qs),
            length-append rs qs,
            length_shape_rows x,
            forms_some a,
          ) in
          z)

pub nulls_begin
    : {shapes p : List ℕ} {used first last : ℕ} {fs : Fields} {there : Bytes → Bool} (s : FieldsStand shapes p first last fs) → first ≤ last
    → last ≤ used → used ≤ length shapes → Nulling shapes shapes used first last p fs there first
nulls_begin {fs} s b i j =
    record {
      done = [];
      back = fs;
      rows = s.rows;
      around = λ hs. hs;
      encodes = λ hs xs e. e;
      same = refl;
      encoded = s.encoded;
      split = fields_split s b i j;
      reached = omega arith;
    }

-- no null where there was no rec before
pub nulls_none
    : {shapes p : List ℕ} {used first last : ℕ} {fs : Fields} (s : FieldsStand shapes p first last fs) → first ≤ last → last ≤ used
    → used ≤ length shapes → Put shapes shapes used 0 first (2 * forms_fields fs) (FieldRows p fs)
nulls_none {used} {fs} s b i j =
    let w = fields_split s b i j in
    record {
      rows = s.rows;
      encoded = s.encoded;
      replaced = split_replaced w (split_as (sym (add-zero used)) refl (sym (add-zero (2 * forms_fields fs))) w) refl;
    }

-- ---- the loop

pub record NullsLoop
    (There : List ℕ → (Bytes → Bool) → Type 0) (shapes₀ pool : List ℕ) (used first last : ℕ) (shapes : List ℕ) (row : ℕ) : Type 0 where
  pub same : length shapes ≡ length shapes₀
  pub ahead : first ≤ row
  pub going
      : (p : List ℕ) (fs : Fields) (there : Bytes → Bool) → MeetsFields shapes₀ pool used first last p fs → There p there
      → Nulling shapes₀ shapes used first last p fs there row

pub loop_begins
    : (There : List ℕ → (Bytes → Bool) → Type 0) (shapes pool : List ℕ) (used first last : ℕ) → used ≤ length shapes
    → NullsLoop There shapes pool used first last shapes first
loop_begins There shapes pool used first last j =
    record {
      same = refl;
      ahead = omega arith;
      going = λ p fs there m t. nulls_begin m.stand m.begins m.within j;
    }

module _
    {There : List ℕ → (Bytes → Bool) → Type 0} {shapes₀ pool : List ℕ} {used first last : ℕ} {shapes : List ℕ} {row : ℕ}
    (l : NullsLoop There shapes₀ pool used first last shapes row)
    (more : row < last)
  where
    module _ {p : List ℕ} {fs : Fields} {there : Bytes → Bool} (m : MeetsFields shapes₀ pool used first last p fs) (tells : There p there) where
      at_turn : Turn shapes₀ shapes used first last p fs there row
      at_turn = turn (l.going p fs there m tells) (fields_end m.stand) more

      listed : MeetsListed shapes pool used row p at_turn.name at_turn.word at_turn.shape
      listed =
          record {
            pooled = m.pooled;
            refers = at_turn.refers;
            stands = turn_stands at_turn;
            within = turn_within at_turn;
          }

    pub loop_listed : Nullable There shapes₀ pool used first last → ListedHeld There shapes pool used row
    loop_listed h =
        let t = at_turn h.meets h.tells in
        record {
          part = h.part;
          label = t.name;
          word = t.word;
          old = t.shape;
          there = h.there;
          meets = listed h.meets h.tells;
          tells = h.tells;
        }

    module _ {shapes' : List ℕ} {size : ℕ} (q : NullsListed There shapes pool shapes' used row) (z : size ≡ size_at shapes' row) where
      put
          : {p : List ℕ} {fs : Fields} {there : Bytes → Bool} (m : MeetsFields shapes₀ pool used first last p fs) (tells : There p there)
          → let t = at_turn m tells in
          Put shapes shapes' used 0 row (2 * forms t.shape) (ShapeRows p t.word (null_if_lacked (there t.name) t.shape))
      put {p} {fs} {there} m tells = let t = at_turn m tells in q p t.name t.word t.shape there (listed m tells) tells

      pub loop_step : Nullable There shapes₀ pool used first last → (row + size ≤ last) × (1 ≤ size)
      loop_step h =
          let t = at_turn h.meets h.tells in
          let s = size_after t (put h.meets h.tells) in
          (omega (arith, turn_last t (fields_end h.meets.stand)), omega (arith, turn_some t))

      pub loop_on : length shapes' ≡ length shapes → NullsLoop There shapes₀ pool used first last shapes' (row + size)
      loop_on e =
          record {
            same = e ∙ l.same;
            ahead = omega (arith, l.ahead);
            going = λ p fs there m tells.
                let t = at_turn m tells in
                subst
                (λ (n : ℕ). Nulling shapes₀ shapes' used first last p fs there (row + n))
                (sym (z ∙ size_after t (put m tells)))
                (turn_on t (put m tells));
          }

pub loop_ends
    : {There : List ℕ → (Bytes → Bool) → Type 0} {shapes₀ pool : List ℕ} {used first last : ℕ} {shapes : List ℕ} {row : ℕ}
    → NullsLoop There shapes₀ pool used first last shapes row → last ≤ row → used ≤ length shapes₀
    → Nulls There shapes₀ pool shapes used first last true
unfolding null_others
loop_ends l past j p fs there m tells =
    nulled (l.going p fs there m tells) (fields_end m.stand) past l.same m.stand m.begins m.within j

-- null only where there was rec before
pub others_had
    : (There : List ℕ → (Bytes → Bool) → Type 0) (shapes pool shapes' : List ℕ) (used first last : ℕ) {had : Bool} → had ≡ true
    → Nulls There shapes pool shapes' used first last true → Nulls There shapes pool shapes' used first last had
others_had There shapes pool shapes' used first last e q p fs there m tells =
    subst
    (λ (x : Bool). Put shapes shapes' used 0 first (2 * forms_fields fs) (FieldRows p (null_others x there fs)))
    (sym e)
    (q p fs there m tells)

pub others_none
    : (There : List ℕ → (Bytes → Bool) → Type 0) (shapes pool : List ℕ) (used first last : ℕ) {had : Bool} → had ≡ false → used ≤ length shapes
    → Nulls There shapes pool shapes used first last had
unfolding null_others
others_none There shapes pool used first last e j p fs there m tells =
    subst
    (λ (x : Bool). Put shapes shapes used 0 first (2 * forms_fields fs) (FieldRows p (null_others x there fs)))
    (sym e)
    (nulls_none m.stand m.begins m.within j)
