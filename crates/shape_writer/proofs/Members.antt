-- What holds at each turn of the loop over members. Assumes nothing.
use Prim.Native.Nat.{ℕ, suc, ◌+◌, ◌^◌, ◌≤◌, ◌<◌}
use native.Mathlib.Numerals.{add-one}
use native.Mathlib.Omega.{arith}
use mathlib.Core.Path.{◌≡◌, refl, sym, ap, subst, ◌∙◌}
use mathlib.Core.List.{List, [], ◌∷◌, ◌++◌, append_assoc, append-nil}
use lib.ListN.{length, get_or, length-append}
use Rattle.definitions.specs.Bytes.{Bytes, bytes}
use Rattle.definitions.specs.Shape.{Shape, Fields, no_fields, field}
use Rattle.definitions.specs.ShapeText.{write, write_fields}
use Rattle.text.specs.Writes.{Writes}
use Rattle.text.specs.WritesLaws.{writes_none, writes_then, writes_as}
use Rattle.nodes.specs.Nodes.{Refers}
use Rattle.plain.specs.Parts.{HoldsText}
use Rattle.shapes.specs.Shapes.{FieldsStand, size_at}
use Rattle.shapes.specs.ShapesLaws.{forms_some, stands_name, fields_left, SomeFields, some_fields, fields_first, fields_rest, fields_some}
use Rattle.shape_writer.specs.Layout.{label_text}
use Rattle.shapes.specs.Held.{HoldsShape, HoldsFields}
use Rattle.shape_writer.specs.Writing.{Printable, WritesForm, PrintableFields, PrintableLabel, WritesLabel}
use Rattle.shape_writer.proofs.Names.{length_label}
use Rattle.shape_writer.proofs.Forms.{holds_size, holds_within}

-- ---- the first of the members

pub record First (shapes pool : List ℕ) (i end : ℕ) (fs : Fields) : Type 0 where
  pub name : Bytes
  pub shape : Shape
  pub rest : Fields
  pub same : fs ≡ field name shape rest
  pub label : HoldsText pool (get_or shapes (i + 1) 0) name
  pub holds : HoldsShape shapes pool i shape
  pub more : HoldsFields shapes pool (i + size_at shapes i) end rest

pub first : {shapes pool : List ℕ} {i end : ℕ} {fs : Fields} → HoldsFields shapes pool i end fs → i < end → First shapes pool i end fs
first {shapes} {pool} {i} {end} {fs} h l = go (fields_left h.listed.stand l) h.listed.stand
  where
    go : {gs : Fields} → SomeFields gs → FieldsStand shapes h.used i end gs → First shapes pool i end gs
    go (some_fields {n = n} {s = s} {fs = gs}) g =
        let f = fields_first g in
        record {
          name = n;
          shape = s;
          rest = gs;
          same = refl;
          label = record {
            used = h.used;
            refers = subst (λ (k : ℕ). Refers h.used n k) (sym (stands_name f.2)) f.1;
            pooled = record { front = h.listed.front; small = h.listed.small };
          };
          holds = record { used = h.used; name = f.0; stands = f.2; front = h.listed.front; small = h.listed.small };
          more = record {
            used = h.used;
            listed = record { stand = fields_rest g; front = h.listed.front; small = h.listed.small };
          };
        }

pub none_left : {shapes pool : List ℕ} {i end : ℕ} {fs : Fields} (around : ℕ) → HoldsFields shapes pool i end fs → end ≤ i → write_fields fs around ≡ []
unfolding write
none_left {fs = no_fields} around h l = refl
none_left {fs = field n s fs} around h l = absurd (let z : ⊥ = omega (arith, fields_some h.listed.stand, l) in z)

module _ {shapes pool : List ℕ} {i end : ℕ} {fs : Fields} (f : First shapes pool i end fs) (around : ℕ) where
  member_text
      : write_fields fs around
      ≡ label_text f.name around ++ write f.shape (suc around) ++ (41 ∷ []) ++ write_fields f.rest around
  unfolding write label_text bytes
  member_text = ap (λ (gs : Fields). write_fields gs around) f.same

  pub length_member
      : length (write_fields fs around)
      ≡ length (label_text f.name around) + length (write f.shape (suc around)) + 1 + length (write_fields f.rest around)
  length_member =
      ap length member_text
      ∙ length-append
      (label_text f.name around ++ write f.shape (suc around) ++ (41 ∷ []))
      (write_fields f.rest around)
      ∙ ap
      (λ (n : ℕ). n + length (write_fields f.rest around))
      (length-append (label_text f.name around ++ write f.shape (suc around)) (41 ∷ [])
      ∙ ap (λ (n : ℕ). n + 1) (length-append (label_text f.name around) (write f.shape (suc around))))

module _ {shapes pool : List ℕ} {i end : ℕ} {fs : Fields} (f : First shapes pool i end fs) where
  pub first_some : 2 ≤ size_at shapes i
  first_some = omega (arith, holds_size f.holds, forms_some f.shape)

  pub first_within : i + size_at shapes i ≤ length shapes
  first_within = omega (arith, holds_size f.holds, holds_within f.holds)

-- ---- the loop

-- fs are the members from a row on; those left at row i are to be written at place j, behind what is done
pub record Going
    (shapes pool : List ℕ) (row end around : ℕ) (out₀ : Bytes) (at : ℕ) (fs : Fields) (out : Bytes) (i j : ℕ)
    : Type 0 where
  pub done : Bytes
  pub left : Fields
  pub written : Writes out₀ out at done j
  pub holds : HoldsFields shapes pool i end left
  pub whole : done ++ write_fields left around ≡ write_fields fs around

pub record Loop
    (shapes pool : List ℕ) (row end around : ℕ) (out₀ : Bytes) (at : ℕ) (out : Bytes) (i j : ℕ)
    : Type 0 where
  pub same : length out ≡ length out₀
  pub ahead : row ≤ i
  pub going : (fs : Fields) → HoldsFields shapes pool row end fs → Going shapes pool row end around out₀ at fs out i j

pub loop_begins : (shapes pool : List ℕ) (row end around : ℕ) (out : Bytes) (at : ℕ) → Loop shapes pool row end around out at out row at
loop_begins shapes pool row end around out at =
    record {
      same = refl;
      ahead = omega arith;
      going = λ fs h. record { done = []; left = fs; written = writes_none out at; holds = h; whole = refl };
    }

regroup_member : (d l w c r : Bytes) → d ++ l ++ w ++ c ++ r ≡ d ++ (l ++ w ++ c ++ r)
regroup_member d l w c r = simp append_assoc

module _
    {shapes pool : List ℕ} {row end around : ℕ} {out₀ : Bytes} {at : ℕ} {out : Bytes} {i j : ℕ}
    (w : PrintableFields shapes pool row end at around (length out₀ + 1))
    (l : Loop shapes pool row end around out₀ at out i j)
  where
    start_within : at ≤ length out₀
    start_within = omega (arith, w.room)

    pub now_going : Going shapes pool row end around out₀ at w.fields out i j
    now_going = l.going w.fields w.holds

    left_room : j + length (write_fields now_going.left around) + 1 ≤ length out₀
    unfolding bytes
    left_room =
        omega (
          arith,
          w.room,
          length-append (write_fields w.fields around) (41 ∷ []),
          ap length now_going.whole,
          length-append now_going.done (write_fields now_going.left around),
          now_going.written.end,
        )

    pub close_room : j + 1 ≤ length out
    close_room = omega (arith, left_room, l.same)

    pub written_All
        : {out' : Bytes} {r : ℕ} → end ≤ i → Writes out out' j (41 ∷ []) r → (fs : Fields) → HoldsFields shapes pool row end fs
        → Writes out₀ out' at (write_fields fs around ++ bytes ")") r
    unfolding bytes
    written_All past p fs h =
        let g = l.going fs h in
        writes_then start_within
        (writes_as
        (sym (append-nil g.done) ∙ ap (λ (s : Bytes). g.done ++ s) (sym (none_left around g.holds past)) ∙ g.whole)
        g.written)
        p

    module _ (more : i < end) where
      -- the member at row i, of those that the caller has
      pub turn : First shapes pool i end now_going.left
      turn = first now_going.holds more

      room
          : j + length (label_text turn.name around) + length (write turn.shape (suc around)) + 2 ≤ length out₀
      room = omega (arith, left_room, length_member turn around)

      pub inner_room : around + 3 ≤ length out₀
      inner_room = omega (arith, room, length_label turn.name around)

      pub label_printable : {k : ℕ} → k ≡ get_or shapes (i + 1) 0 → PrintableLabel pool k j around (length out + 1)
      label_printable e =
          record {
            text = turn.name;
            holds = subst (λ (k : ℕ). HoldsText pool k turn.name) (sym e) turn.label;
            room = omega (arith, room, l.same);
          }

      module _
          {k j₁ : ℕ} {out₁ : Bytes} (e : k ≡ get_or shapes (i + 1) 0)
          (x : WritesLabel pool k around out out₁ j j₁)
          (same : length out₁ ≡ length out)
        where
          label_written : (t : Bytes) → HoldsText pool (get_or shapes (i + 1) 0) t → Writes out out₁ j (label_text t around) j₁
          label_written t h = x t (subst (λ (k : ℕ). HoldsText pool k t) (sym e) h)

          pub form_printable : length out₀ < 2 ^ 64 → Printable shapes pool i j₁ (around + 1) (length out₁ + 1)
          form_printable big =
              record {
                shape = turn.shape;
                holds = turn.holds;
                room = subst (λ (n : ℕ). j₁ + length (write turn.shape n) < length out₁ + 1) (sym (add-one around))
                    (omega (arith, room, (label_written turn.name turn.label).end, same, l.same));
                deep = omega (arith, inner_room, big);
              }

          module _ {j₂ : ℕ} {out₂ : Bytes} (y : WritesForm shapes pool i (around + 1) out₁ out₂ j₁ j₂) (same' : length out₂ ≡ length out₁) where
            form_written : (s : Shape) → HoldsShape shapes pool i s → Writes out₁ out₂ j₁ (write s (suc around)) j₂
            form_written s h = writes_as (ap (write s) (add-one around)) (y s h)

            pub bracket_room : j₂ + 1 ≤ length out₂
            bracket_room =
                omega (
                  arith,
                  room,
                  (label_written turn.name turn.label).end,
                  (form_written turn.shape turn.holds).end,
                  same,
                  same',
                  l.same,
                )

            pub loop_on
                : {j₃ n : ℕ} {out₃ : Bytes} → Writes out₂ out₃ j₂ (41 ∷ []) j₃ → length out₃ ≡ length out₂ → n ≡ size_at shapes i
                → Loop shapes pool row end around out₀ at out₃ (i + n) j₃
            loop_on {j₃} {n} {out₃} z same'' f =
                record {
                  same = same'' ∙ same' ∙ same ∙ l.same;
                  ahead = omega (arith, l.ahead);
                  going = λ fs h. step fs (l.going fs h);
                }
              where
                step : (fs : Fields) → Going shapes pool row end around out₀ at fs out i j → Going shapes pool row end around out₀ at fs out₃ (i + n) j₃
                step fs g =
                    let t = first g.holds more in
                    record {
                      done = g.done ++ label_text t.name around ++ write t.shape (suc around) ++ (41 ∷ []);
                      left = t.rest;
                      written = writes_then start_within
                          (writes_then start_within
                          (writes_then start_within g.written (label_written t.name t.label))
                          (form_written t.shape t.holds))
                          z;
                      holds = subst (λ (k : ℕ). HoldsFields shapes pool (i + k) end t.rest) (sym f) t.more;
                      whole = regroup_member
                          g.done
                          (label_text t.name around)
                          (write t.shape (suc around))
                          (41 ∷ [])
                          (write_fields t.rest around)
                          ∙ ap (λ (s : Bytes). g.done ++ s) (sym (member_text t around))
                          ∙ g.whole;
                    }
