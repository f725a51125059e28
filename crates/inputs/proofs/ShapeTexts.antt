-- A shape text judged and read, and the first of two texts, whose names stand in a part of the pool. Assumes nothing.
use Prim.Native.Nat.{ℕ, ◌+◌, ◌/◌, ◌≤◌, ◌<◌, min}
use native.Mathlib.Omega.{arith}
use mathlib.Core.Path.{◌≡◌, refl, sym, ap, ◌∙◌, subst}
use mathlib.Core.List.{List, ◌++◌}
use Rattle.std.specs.Prelude as std
use Rattle.std.specs.Prelude.{Ok, Err}
use lib.ListN.{length, take, drop, length-append, take-append-drop}
use lib.Seq.{length-take-le, take-append-le, take-take}
use Rattle.definitions.specs.declared.Limits.{Limits}
use Rattle.definitions.specs.Bytes.{Bytes}
use Rattle.definitions.specs.Shape.{Shape}
use Rattle.definitions.specs.ShapeText.{read_shape}
use Rattle.definitions.specs.WorkSlices.{name_words}
use Rattle.laws.specs.Tests.{lt-ltb}
use Rattle.laws.proofs.ShapeForms.{shape_accepted_to, shape_ascending}
use Rattle.laws.specs.Judging.{text_long, text_reads, text_refused}
use Rattle.shapes.specs.Shapes.{ShapeRows}
use Rattle.shapes.specs.ShapesLaws.{shape_rows_grow}
use Rattle.reading.specs.declared.Cause.TheVariants.{TextTooLong}
use Rattle.reading.specs.declared.Extent.{Extent}
use Rattle.reading.specs.declared.Refusal.{Refusal}
use Rattle.reading.specs.Refusals.{number_of}
use Rattle.shape_reader.specs.ShapeReads.{Tables, ShapeAnswer, ReadsShape}
use Rattle.slices.specs.Fewer.{with_values}
use Rattle.inputs.specs.Inputs.{ShapeTable, ShapeRoom, ShapePasses, ShapeOutcome, JudgesShape, JudgesFirst}
use Rattle.inputs.proofs.FewShapes.{few_forms}

-- ---- a table

-- the pool grew behind the names
pub table_grown
    : {l : Limits} {shapes p : List ℕ} {words top : ℕ} {s : Shape} (p' : List ℕ) (top' : ℕ) → ShapeTable l shapes p words top s
    → take top p' ≡ take top p → top ≤ top' → top' ≤ length p' → top' < 65536 → ShapeTable l shapes p' words top' s
table_grown {l} {shapes} {p} {words} {top} {s} p' top' t e h within small =
    record {
      rows = subst (λ q. ShapeRows q 0 s (take words shapes)) grown (shape_rows_grow (drop top (take top' p')) t.rows);
      counted = t.counted;
      ascends = t.ascends;
      nests = t.nests;
      within = within;
      small = small;
    }
  where
    grown : take top p ++ drop top (take top' p') ≡ take top' p'
    grown = ap (λ q. q ++ drop top (take top' p')) (sym e ∙ sym (take-take top top' p' h)) ∙ take-append-drop top (take top' p')

-- ---- a text

pub judges_long
    : (l : Limits) (text : Bytes) (p shapes' : List ℕ) (top : ℕ) → l.bytes < length text
    → JudgesShape l text p shapes' p top (Err (record { cause = TextTooLong; place = 0 }))
judges_long l text p shapes' top h = record { answer = λ k. text_long k l read_shape text (lt-ltb _ _ h); kept = refl }

-- a text that is short enough has room under fewer forms
pub few_room
    : {l few : Limits} {text : Bytes} {shapes pool : List ℕ} {top : ℕ} → few ≡ with_values l (min l.values ((length text + 6) / 7))
    → length text ≤ l.bytes → ShapeRoom text shapes pool top l → Tables text shapes pool top few.values
few_room {l} {few} {text} {shapes} {pool} {top} e h r =
    let f : few.values ≡ min l.values ((length text + 6) / 7) = ap (λ (k : Limits). k.values) e in
    record {
      rows = omega (arith, r.rows, f, h);
      texts = omega (arith, r.names, h);
      short = omega (arith, r.small.bytes, h);
      few = omega (arith, r.small.values, f);
      small = omega (arith, r.small.bytes, r.low, h);
    }

-- and what was read so was read under the limits themselves
pub judges_read
    : {l few : Limits} {text : Bytes} {shapes p shapes' p' : List ℕ} {top : ℕ} {r : std.Result Extent Refusal}
    → few ≡ with_values l (min l.values ((length text + 6) / 7)) → length text ≤ l.bytes
    → ReadsShape few text shapes p shapes' p' top r → JudgesShape l text p shapes' p' top r
judges_read {l} {few} {text} {shapes} {p} {shapes'} {p'} {top} {r} e h d = record { answer = go r d.answer; kept = d.pool_kept }
  where
    same : read_shape l text ≡ read_shape few text
    same = sym (ap (λ (k : Limits). read_shape k text) e ∙ few_forms l text)

    go : (r : std.Result Extent Refusal) → ShapeAnswer few text shapes' p p' top r → ShapeOutcome l text p shapes' p' top r
    go (Ok x) a =
        let read = same ∙ a.read in
        record {
          shape = a.form;
          judged = λ k. text_reads k l read_shape text a.form h read;
          table =
              record {
                rows = a.held;
                counted = a.counted;
                ascends = shape_ascending l text a.form read;
                nests = (shape_accepted_to l text a.form read).2;
                within = a.within;
                small = a.small;
              };
          grows = a.grows;
          front = a.front;
        }
    go (Err q) f = λ k. text_refused k l read_shape text (number_of q.cause) q.place h (same ∙ f)

-- ---- the first text, in the first n words of the pool

module _ (l : Limits) (text : Bytes) (shapes pool : List ℕ) (n : ℕ) (same : n ≡ name_words l (length text)) where
  pub front_room : ShapeRoom text shapes pool 0 l → ShapeRoom text shapes (take n pool) 0 l
  front_room r =
      let h : n ≤ length pool = omega (arith, r.names) in
      record { rows = r.rows; names = omega (arith, length-take-le n pool h); low = r.low; small = r.small }

  -- what stands behind the part is as it was
  pub first_judged
      : (shapes' part : List ℕ) (r : std.Result Extent Refusal) → n ≤ length pool → JudgesShape l text (take n pool) shapes' part 0 r
      → JudgesFirst l text pool shapes' (part ++ drop n pool) r
  first_judged shapes' part r h j =
      record {
        answer = go r j.answer;
        low = λ x f. low x.words x.top (subst (ShapeOutcome l text (take n pool) shapes' part 0) f j.answer);
      }
    where
      low : (words top : ℕ) → ShapePasses l text (take n pool) shapes' part 0 words top → top ≤ name_words l (length text)
      low words top p = omega (arith, p.table.within, j.kept, length-take-le n pool h)

      go : (r : std.Result Extent Refusal) → ShapeOutcome l text (take n pool) shapes' part 0 r → ShapeOutcome l text pool shapes' (part ++ drop n pool) 0 r
      go (Ok x) p =
          let t = p.table in
          record {
            shape = p.shape;
            judged = p.judged;
            table =
                table_grown (part ++ drop n pool) x.top t (take-append-le x.top part (drop n pool) t.within) (omega arith)
                (omega (arith, t.within, length-append part (drop n pool))) t.small;
            grows = p.grows;
            front = refl;
          }
      go (Err q) f = f
