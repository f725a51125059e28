-- Answers for a shape: its row stands before the rows of its parts. Assumes nothing.
use Prim.Native.Nat.{ℕ, suc, ◌+◌, ◌-◌, ◌*◌, ◌≤◌, ◌<◌}
use mathlib.Core.Path.{◌≡◌, refl, sym, ap, ap₂, ◌∙◌, subst}
use mathlib.Core.Bool.{Bool, true, false}
use mathlib.Core.List.{List, [], ◌∷◌, ◌++◌}
use native.Mathlib.Numerals.{add-one}
use native.Mathlib.Omega.{arith}
use lib.ListN.{length, take, drop}
use Rattle.definitions.specs.declared.Limits.{Limits}
use Rattle.definitions.specs.Bytes.{Bytes}
use Rattle.definitions.specs.Shape.{Kind, among, Element, no_list, no_rec, rec_of, Fields, no_fields, field, has_list, has_rec}
use Rattle.definitions.specs.ShapeText.{Around, shape_open, want, fields_onto, record_from, build}
use Rattle.shapes.specs.Shapes.{kind_bits, has_bit, head_word, head_of, ShapeRows, shape_rows, ElementRows, RecordRows, no_record_rows, record_rows}
use Rattle.shapes.specs.ShapesLaws.{element_rows_grow, length_shape_rows}
use Rattle.reading.specs.declared.Cursor.{Cursor}
use Rattle.reading.specs.declared.Refusal.{Refusal}
use Rattle.std.specs.Prelude.{Ok, Err}
use Rattle.shape_reader.specs.declared.kinds.Kinds.{Kinds}
use Rattle.shape_reader.specs.ShapeParts.{reading, Limited, KindsHeld, bits_of, parts, behind, Opens, OpensForm}
use Rattle.shape_reader.specs.ShapeParts.{Ready, Goes, ReadsForm, ElementDone, ReadsElement, FieldsBefore}
use Rattle.shape_reader.specs.ShapeParts.{no_fields_before, field_before, MembersDone, ReadsMembers}
use Rattle.shape_reader.proofs.KindSets.{with_parts, has_list_kind, has_rec_kind, held_small}
use Rattle.tokens.specs.ReadingLaws.{placed_on}
use Rattle.shape_reader.proofs.Table.{with_row, length_with_row, row_put}
use Rattle.shape_reader.proofs.Going.{goes_then, grown}
use Rattle.shape_reader.proofs.MemberForms.{fields_read_rows}

-- ---- the shape of its parts

rec_kind : (ks : List Kind) (e : Element) (fs : Fields) → has_rec (record_from (parts ks e fs)) ≡ among Kind.rec ks
unfolding record_from has_rec
rec_kind ks e fs = pick (among Kind.rec ks)
  where
    pick : (b : Bool) → has_rec (elim b [ true ↦ rec_of (fields_onto fs no_fields) | false ↦ no_rec ]) ≡ b
    pick true = refl
    pick false = refl

built_kinds
    : {ks : List Kind} {kinds : ℕ} (e : Element) (fs : Fields) → KindsHeld ks kinds → has_list e ≡ has_bit kinds 32
    → kind_bits (build (parts ks e fs)) ≡ kinds
unfolding kind_bits build bits_of with_parts
built_kinds {ks} e fs k h =
    ap₂ (with_parts ks)
    (h ∙ has_list_kind k)
    (rec_kind ks e fs)
    ∙ sym k.bits

built_record
    : {p : List ℕ} {ks : List Kind} {kinds : ℕ} (e : Element) {fs : Fields} {rs : List ℕ} → KindsHeld ks kinds → FieldsBefore p fs rs
    → (has_bit kinds 64 ≡ false → fs ≡ no_fields) → RecordRows p (record_from (parts ks e fs)) rs
unfolding record_from
built_record {p} {ks} e {fs} {rs} k b none = pick (among Kind.rec ks) refl
  where
    no_rows : {gs : Fields} {qs : List ℕ} → FieldsBefore p gs qs → gs ≡ no_fields → qs ≡ []
    no_rows no_fields_before i = refl
    no_rows (field_before x f r) i = absurd (let z : ◌≡◌ {A = ℕ} 1 0 = ap count i in omega arith)
      where
        count : Fields → ℕ
        count no_fields = 0
        count (field n s gs) = 1

    pick
        : (x : Bool) → among Kind.rec ks ≡ x
        → RecordRows p (elim x [ true ↦ rec_of (fields_onto fs no_fields) | false ↦ no_rec ]) rs
    pick true i = record_rows (fields_read_rows b)
    pick false i = subst (RecordRows p no_rec) (sym (no_rows b (none (has_rec_kind k ∙ i)))) no_record_rows

nested_left : {l : Limits} {o : Around} {values left : ℕ} → 0 < left → Limited l o values left → Limited l o values (suc (left - 1))
nested_left h a = record { most = a.most; nests = omega (arith, a.nests) }

module _ {left values : ℕ} {text : Bytes} {s p : List ℕ} (name : ℕ) (c : Cursor) (r₀ : Ready text s p values c) where
  module _ {k : Kinds} (y : OpensForm text values left c (Ok k)) where
    opens : Opens text values left c k.kinds.kinds k.end
    opens = y.answer

    pub inner_ready : Ready text s p values (record { at = k.end; begun = c.begun + 1; top = c.top })
    inner_ready =
        record {
          placed = placed_on r₀.placed opens.ahead opens.within;
          rows = r₀.rows;
          few = r₀.few;
          limit = omega (arith, opens.begun);
        }

    to_Inner
        : (l : Limits) (o : Around) → Limited l o values left
        → reading l c.begun text (want (shape_open o)) c.at
        ≡ reading l (c.begun + 1) text (want (behind (among Kind.list opens.listed) (parts opens.listed no_list no_fields) o)) k.end
    to_Inner l o a =
        opens.run l o a
        ∙ ap (λ (n : ℕ). reading l n text (want (behind (among Kind.list opens.listed) (parts opens.listed no_list no_fields) o)) k.end)
        (sym (add-one c.begun))

    module _ {s' p' : List ℕ} where
      pub element_refused
          : {r : Refusal} → ReadsElement (left - 1) values text s p s' p' k.kinds.kinds (record { at = k.end; begun = c.begun + 1; top = c.top }) (Err r)
          → ReadsForm left values text s p s' p' name c (Err r)
      element_refused z =
          record {
            answer = λ l o a. to_Inner l o a ∙ z.answer l o (nested_left opens.nested a) opens.listed opens.held;
            sized = z.sized;
          }

      module _ {mid : Cursor}
          (z : ReadsElement (left - 1) values text s p s' p' k.kinds.kinds (record { at = k.end; begun = c.begun + 1; top = c.top }) (Ok mid)) where
        element : ElementDone (left - 1) values text s p s' p' k.kinds.kinds (record { at = k.end; begun = c.begun + 1; top = c.top }) mid
        element = z.answer

        module _ {s'' p'' : List ℕ} where
          pub members_refused
              : {r : Refusal} → ReadsMembers (left - 1) values text s' p' s'' p'' k.kinds.kinds mid (Err r)
              → ReadsForm left values text s p s'' p'' name c (Err r)
          members_refused w =
              record {
                answer = λ l o a.
                    to_Inner l o a
                    ∙ element.run l o (nested_left opens.nested a) opens.listed opens.held
                    ∙ w.answer l o (nested_left opens.nested a) opens.listed opens.held element.element;
                sized =
                    record {
                      shapes_kept = w.sized.shapes_kept ∙ z.sized.shapes_kept;
                      pool_kept = w.sized.pool_kept ∙ z.sized.pool_kept;
                    };
              }

          module _ {to : Cursor} (w : ReadsMembers (left - 1) values text s' p' s'' p'' k.kinds.kinds mid (Ok to)) where
            members : MembersDone (left - 1) values text s' p' s'' p'' k.kinds.kinds mid to
            members = w.answer

            both : Goes values text s p s'' p'' (record { at = k.end; begun = c.begun + 1; top = c.top }) to (element.rows ++ members.read.rows)
            both = goes_then element.goes members.read.goes

            -- bounds for the row
            pub row_bounds : (c.begun < to.begun) × (to.begun ≤ 32768) × (k.kinds.kinds < 128) × (2 * c.begun + 2 ≤ length s'')
            row_bounds = (
              omega (arith, both.counted),
              omega (arith, both.limit, r₀.few),
              held_small opens.held,
              omega (arith, both.counted, both.limit, r₀.rows, w.sized.shapes_kept, z.sized.shapes_kept),
            )

            rows_held
                : ShapeRows (take to.top p'') name (build (parts opens.listed element.element members.fields))
                (head_word (build (parts opens.listed element.element members.fields)) ∷ name ∷ element.rows ++ members.read.rows)
            unfolding build
            rows_held =
                shape_rows
                (subst (λ (q : List ℕ). ElementRows q element.element element.rows)
                (sym (grown p' p'' mid.top to.top members.read.goes.front members.read.goes.moves.grows))
                (element_rows_grow (drop mid.top (take to.top p'')) element.held))
                (built_record element.element opens.held members.read.held members.read.bare)

            head_is
                : head_word (build (parts opens.listed element.element members.fields)) ≡ head_of k.kinds.kinds (2 * (to.begun - c.begun))
            unfolding head_word
            head_is =
                let bits = built_kinds element.element members.fields opens.held element.is_list in
                let counted = length_shape_rows rows_held in
                omega (arith, bits, counted, both.counted)

            pub form_read
                : {s''' : List ℕ} → s''' ≡ with_row s'' c.begun (head_of k.kinds.kinds (2 * (to.begun - c.begun))) name
                → ReadsForm left values text s p s''' p'' name c (Ok to)
            form_read {s'''} g =
                let room : 2 * c.begun + 2 ≤ length s'' = row_bounds.3 in
                record {
                  answer =
                      record {
                        form = build (parts opens.listed element.element members.fields);
                        run = λ l o a.
                            to_Inner l o a
                            ∙ element.run l o (nested_left opens.nested a) opens.listed opens.held
                            ∙ members.read.run l o (nested_left opens.nested a) opens.listed opens.held element.element;
                        rows =
                            head_word (build (parts opens.listed element.element members.fields))
                            ∷ name
                            ∷ (element.rows ++ members.read.rows);
                        held = rows_held;
                        goes =
                            record {
                              table =
                                  ap (λ (q : List ℕ). take (2 * to.begun) q) g
                                  ∙ row_put s'' c.begun (head_of k.kinds.kinds (2 * (to.begun - c.begun))) name room s (element.rows ++ members.read.rows)
                                  to.begun row_bounds.0 (omega (arith, room, w.sized.shapes_kept, z.sized.shapes_kept))
                                  (both.table
                                  ∙ ap (λ (n : ℕ). take (2 * n) s ++ (element.rows ++ members.read.rows)) (add-one c.begun))
                                  ∙ ap (λ (h : ℕ). take (2 * c.begun) s ++ (h ∷ name ∷ (element.rows ++ members.read.rows))) (sym head_is);
                              counted = omega (arith, both.counted);
                              limit = both.limit;
                              front = both.front;
                              moves =
                                  record {
                                    ahead = omega (arith, opens.ahead, both.moves.ahead);
                                    within = both.moves.within;
                                    grows = both.moves.grows;
                                    room = omega (arith, both.moves.room, opens.ahead);
                                  };
                            };
                      };
                  sized =
                      record {
                        shapes_kept =
                            ap length g
                            ∙ length_with_row s'' c.begun (head_of k.kinds.kinds (2 * (to.begun - c.begun))) name room
                            ∙ w.sized.shapes_kept
                            ∙ z.sized.shapes_kept;
                        pool_kept = w.sized.pool_kept ∙ z.sized.pool_kept;
                      };
                }
