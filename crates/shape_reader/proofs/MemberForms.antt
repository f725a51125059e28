-- Answers for the members of a shape, read one after the other. Assumes nothing.
use Prim.Native.Nat.{ℕ, ◌≤◌}
use mathlib.Core.Path.{◌≡◌, refl, sym, ap, ◌∙◌, subst}
use mathlib.Core.List.{List, [], ◌++◌, append_assoc, append-nil}
use native.Mathlib.Omega.{arith}
use lib.ListN.{take, drop}
use Rattle.definitions.specs.Bytes.{Bytes}
use Rattle.definitions.specs.Shape.{Fields, no_fields, field}
use Rattle.definitions.specs.ShapeText.{as_member, shape_open, member_open, member_close, want, put, with_member, fields_onto, build}
use Rattle.laws.specs.Bools.{clash}
use Rattle.nodes.specs.Nodes.{Refers}
use Rattle.nodes.specs.NodesLaws.{refers_grow}
use Rattle.shapes.specs.Shapes.{FieldRows, no_field_rows, field_rows}
use Rattle.shapes.specs.ShapesLaws.{shape_rows_grow}
use Rattle.reading.specs.declared.Cursor.{Cursor}
use Rattle.reading.specs.declared.Refusal.{Refusal}
use Rattle.std.specs.Prelude as std
use Rattle.std.specs.Prelude.{Result, Ok, Err, Some, None}
use Rattle.shape_reader.specs.declared.members.Turn.{Turn}
use Rattle.shape_reader.specs.declared.members.Turn.TheVariants.{More, End}
use Rattle.shape_reader.specs.ShapeParts.{reading, parts, Latest, none_yet, latest_is, Moves, TurnIs, Turns, MemberClosed}
use Rattle.shape_reader.specs.ShapeParts.{ClosesMember, Ready, Goes, Sized, FormDone}
use Rattle.shape_reader.specs.ShapeParts.{ReadsForm, FieldsBefore, no_fields_before, field_before}
use Rattle.shape_reader.specs.ShapeParts.{FieldsRead, ReadsMembers, MemberBegun, TurnAnswer}
use Rattle.shape_reader.proofs.Going.{goes_then, goes_alone, sized_then, grown, in_member}

-- ---- members

fields_before_grow : {p : List ℕ} {fs : Fields} {rs : List ℕ} (q : List ℕ) → FieldsBefore p fs rs → FieldsBefore (p ++ q) fs rs
fields_before_grow q no_fields_before = no_fields_before
fields_before_grow q (field_before b f r) = field_before (fields_before_grow q b) (refers_grow q f) (shape_rows_grow q r)

fields_onto_rows
    : {p : List ℕ} {fs gs : Fields} {rs qs : List ℕ} → FieldsBefore p fs rs → FieldRows p gs qs → FieldRows p (fields_onto fs gs) (rs ++ qs)
unfolding fields_onto
fields_onto_rows no_fields_before g = g
fields_onto_rows {p} {gs} {qs} (field_before {n} {s} {fs} {rs} {qs = ts} b f r) g =
    subst (λ (l : List ℕ). FieldRows p (fields_onto fs (field n s gs)) l) (sym (append_assoc rs ts qs))
    (fields_onto_rows b (field_rows f r g))

pub fields_read_rows : {p : List ℕ} {fs : Fields} {rs : List ℕ} → FieldsBefore p fs rs → FieldRows p (fields_onto fs no_fields) rs
fields_read_rows {p} {fs} {rs} b =
    subst (λ (l : List ℕ). FieldRows p (fields_onto fs no_fields) l) (append-nil rs) (fields_onto_rows b no_field_rows)

-- members have been read, and another or the end must come; the latest has this name
pub record MembersSoFar
    (left values : ℕ) (text : Bytes) (s₀ p₀ s p : List ℕ) (kinds : ℕ) (c here : Cursor) (latest : std.Option ℕ) : Type 0 where
  pub fields : Fields
  pub read : FieldsRead (λ ks e fs o. want (member_open (parts ks e fs) o)) left values text s₀ p₀ s p kinds c here fields
  pub named : Latest (take here.top p) fields latest
  pub sized : Sized s₀ p₀ s p

pub no_members
    : (left kinds : ℕ) {values : ℕ} {text : Bytes} {s p : List ℕ} (c : Cursor) → Ready text s p values c
    → MembersSoFar left values text s p s p kinds c c None
no_members left kinds c r =
    record {
      fields = no_fields;
      read =
          record {
            run = λ l o a ks k e. refl;
            rows = [];
            held = no_fields_before;
            bare = λ h. refl;
            goes =
                goes_alone refl r.limit refl
                (record { ahead = omega arith; within = r.placed.within; grows = omega arith; room = omega arith });
          };
      named = none_yet;
      sized = record { shapes_kept = refl; pool_kept = refl };
    }

module _
    {left values kinds : ℕ} {latest : std.Option ℕ} {text : Bytes} {s₀ p₀ s p : List ℕ} (c here : Cursor)
    (m : MembersSoFar left values text s₀ p₀ s p kinds c here latest) where
  module _ {p' : List ℕ} {t : Result Turn Refusal} (y : Turns latest text p p' kinds here t) where
    all_sized : Sized s₀ p₀ s p'
    all_sized = sized_then m.sized (record { shapes_kept = refl; pool_kept = y.kept.size })

    on : {u : Cursor} → u.begun ≡ here.begun → Moves text here u → Goes values text s₀ p₀ s p' c u m.read.rows
    on {u} i k =
        subst (Goes values text s₀ p₀ s p' c u) (append-nil m.read.rows)
        (goes_then m.read.goes (goes_alone i m.read.goes.limit y.kept.front k))

    held_then : (u : Cursor) → here.top ≤ u.top → FieldsBefore (take u.top p') m.fields m.read.rows
    held_then u h =
        subst (λ (q : List ℕ). FieldsBefore q m.fields m.read.rows) (sym (grown p p' here.top u.top y.kept.front h))
        (fields_before_grow (drop here.top (take u.top p')) m.read.held)

    pub turned : TurnAnswer left values text s₀ p₀ s p' kinds c t
    turned = pick t y.answer
      where
        pick : (u : Result Turn Refusal) → TurnIs latest text p p' kinds here u → TurnAnswer left values text s₀ p₀ s p' kinds c u
        pick (Ok (More u n)) z =
            record {
              bytes = z.bytes;
              fields = m.fields;
              read =
                  record {
                    run = λ l o a ks k el.
                        m.read.run l o a ks k el
                        ∙ z.run ks el m.fields k m.named l here.begun o
                        ∙ ap (λ (i : ℕ). reading l i text (want (shape_open (as_member (parts ks el m.fields) z.bytes o))) u.at) (sym z.begun);
                    rows = m.read.rows;
                    held = held_then u z.moves.grows;
                    bare = m.read.bare;
                    goes = on z.begun z.moves;
                  };
              refers = z.refers;
              has_rec = z.has_rec;
              sized = all_sized;
            }
        pick (Ok (End u)) z =
            record {
              answer =
                  record {
                    fields = m.fields;
                    read =
                        record {
                          run = λ l o a ks k el.
                              m.read.run l o a ks k el
                              ∙ z.run ks el m.fields k m.named l here.begun o
                              ∙ ap (λ (i : ℕ). reading l i text (put (build (parts ks el m.fields)) o) u.at) (sym z.begun);
                          rows = m.read.rows;
                          held = held_then u (omega (arith, z.top));
                          bare = m.read.bare;
                          goes =
                              on z.begun
                              (record { ahead = z.ahead; within = z.within; grows = omega (arith, z.top); room = omega (arith, z.top, z.ahead) });
                        };
                  };
              sized = all_sized;
            }
        pick (Err r) z =
            record {
              answer = λ l o a ks k el. m.read.run l o a ks k el ∙ z ks el m.fields k m.named l here.begun o;
              sized = all_sized;
            }

  -- a member
  pub member_turn
      : {p' : List ℕ} {t : Turn} {from : Cursor} {name : ℕ} → Turns latest text p p' kinds here (Ok t) → t ≡ More from name
      → MemberBegun left values text s₀ p₀ s p' kinds c from name
  member_turn {p'} y e = turned (subst (λ (t : Turn). Turns latest text p p' kinds here (Ok t)) e y)

  -- the end
  pub last_turn
      : {p' : List ℕ} {t : Turn} {to : Cursor} → Turns latest text p p' kinds here (Ok t) → t ≡ End to
      → ReadsMembers left values text s₀ p₀ s p' kinds c (Ok to)
  last_turn {p'} y e = turned (subst (λ (t : Turn). Turns latest text p p' kinds here (Ok t)) e y)

module _
    {left values kinds name : ℕ} {text : Bytes} {s₀ p₀ s p : List ℕ} (c from : Cursor)
    (m : MemberBegun left values text s₀ p₀ s p kinds c from name) where
  module _ {s' p' : List ℕ} where
    pub member_refused
        : {r : Refusal} → ReadsForm left values text s p s' p' name from (Err r) → ReadsMembers left values text s₀ p₀ s' p' kinds c (Err r)
    member_refused x =
        record {
          answer = λ l o a ks k el.
              m.read.run l o a ks k el
              ∙ x.answer l (as_member (parts ks el m.fields) m.bytes o) (in_member (parts ks el m.fields) m.bytes a);
          sized = sized_then m.sized x.sized;
        }

    module _ {to : Cursor} (x : ReadsForm left values text s p s' p' name from (Ok to)) where
      done : FormDone left values text s p s' p' name from to
      done = x.answer

      -- the member is read, and its bracket must be closed
      behind_form
          : FieldsRead (λ ks el fs o. want (member_close (parts ks el fs) o)) left values text s₀ p₀ s' p' kinds c to
          (field m.bytes done.form m.fields)
      unfolding put with_member
      behind_form =
          record {
            run = λ l o a ks k el.
                m.read.run l o a ks k el
                ∙ done.run l (as_member (parts ks el m.fields) m.bytes o) (in_member (parts ks el m.fields) m.bytes a);
            rows = m.read.rows ++ done.rows;
            held =
                field_before
                (subst (λ (q : List ℕ). FieldsBefore q m.fields m.read.rows) (sym more)
                (fields_before_grow (drop from.top (take to.top p')) m.read.held))
                still_refers done.held;
            bare = λ h. clash m.has_rec h;
            goes = goes_then m.read.goes done.goes;
          }
        where
          more : take to.top p' ≡ take from.top p ++ drop from.top (take to.top p')
          more = grown p p' from.top to.top done.goes.front done.goes.moves.grows

          still_refers : Refers (take to.top p') m.bytes name
          still_refers =
              subst (λ (q : List ℕ). Refers q m.bytes name) (sym more)
              (refers_grow (drop from.top (take to.top p')) m.refers)

      name_still : Refers (take to.top p') m.bytes name
      name_still =
          subst (λ (q : List ℕ). Refers q m.bytes name) (sym (grown p p' from.top to.top done.goes.front done.goes.moves.grows))
          (refers_grow (drop from.top (take to.top p')) m.refers)

      pub member_open_still : {r : Refusal} → ClosesMember text to (Err r) → ReadsMembers left values text s₀ p₀ s' p' kinds c (Err r)
      member_open_still z =
          record {
            answer = λ l o a ks k el.
                behind_form.run l o a ks k el ∙ z.answer (parts ks el (field m.bytes done.form m.fields)) l to.begun o;
            sized = sized_then m.sized x.sized;
          }

      module _ {behind : Cursor} (z : ClosesMember text to (Ok behind)) where
        behind_bracket : MemberClosed text to behind
        behind_bracket = z.answer

        pub member_read : MembersSoFar left values text s₀ p₀ s' p' kinds c behind (Some name)
        member_read =
            let b = behind_form in
            let d = behind_bracket in
            record {
              fields = field m.bytes done.form m.fields;
              read =
                  record {
                    run = λ l o a ks k el.
                        b.run l o a ks k el
                        ∙ d.run (parts ks el (field m.bytes done.form m.fields)) l to.begun o
                        ∙ ap (λ (n : ℕ). reading l n text (want (member_open (parts ks el (field m.bytes done.form m.fields)) o)) behind.at)
                        (sym d.begun);
                    rows = b.rows;
                    held =
                        subst (λ (n : ℕ). FieldsBefore (take n p') (field m.bytes done.form m.fields) b.rows) (sym d.top) b.held;
                    bare = b.bare;
                    goes =
                        subst (Goes values text s₀ p₀ s' p' c behind) (append-nil b.rows)
                        (goes_then b.goes
                        (goes_alone d.begun b.goes.limit refl
                        (record {
                          ahead = omega (arith, d.further);
                          within = d.within;
                          grows = omega (arith, d.top);
                          room = omega (arith, d.top, d.further);
                        })));
                  };
              named = latest_is (subst (λ (n : ℕ). Refers (take n p') m.bytes name) (sym d.top) name_still);
              sized = sized_then m.sized x.sized;
            }
