-- Two texts, the first a shape: room for both, and what both come to. Assumes nothing.
use Prim.Native.Nat.{ℕ, ◌+◌, ◌≤◌}
use native.Mathlib.Omega.{arith}
use mathlib.Core.Path.{◌≡◌, subst}
use mathlib.Core.List.{List}
use lib.ListN.{length}
use Rattle.std.specs.Prelude as std
use Rattle.std.specs.Prelude.{Ok, Err}
use Rattle.definitions.specs.declared.Limits.{Limits}
use Rattle.definitions.specs.Bytes.{Bytes}
use Rattle.definitions.specs.ShapeText.{read_shape}
use Rattle.definitions.specs.Operations.{Reading, Source, judge_both, stopped, refusal}
use Rattle.definitions.specs.WorkSlices.{shape_words, name_words, value_words, text_words}
use Rattle.laws.specs.Judging.{first_stops, second_stops, both_pass}
use Rattle.reading.specs.declared.Extent.{Extent}
use Rattle.reading.specs.declared.Refusal.{Refusal}
use Rattle.reading.specs.Refusals.{number_of}
use Rattle.slices.specs.Long.{long_three}
use Rattle.documents.specs.Documents.{DocumentRoom, JudgesDocument}
use Rattle.documents.specs.DocumentsLaws.{document_passes as judged_passes, document_refused as judged_refused}
use Rattle.inputs.specs.Inputs.{ShapeRoom, ShapePasses, ShapeOutcome, JudgesShape, JudgesFirst, BothPass}
use Rattle.inputs.specs.Inputs.{ShapeDocumentSlices, ShapeDocumentHeld, TwoShapesSlices, TwoShapesHeld}
use Rattle.inputs.proofs.ShapeTexts.{table_grown}

-- ---- the first text

module _ {l : Limits} {text : Bytes} {p shapes' p' : List ℕ} {r : std.Result Extent Refusal} (j : JudgesFirst l text p shapes' p' r) where
  pub first_refused
      : {B : Type 0} {e : Refusal} (read : Reading B) (t : Bytes) → r ≡ Err e
      → judge_both l read_shape text read t ≡ stopped (refusal (number_of e.cause) 1 e.place)
  first_refused read t e = first_stops l read_shape text read t (subst (ShapeOutcome l text p shapes' p' 0) e j.answer 1)

  pub first_passes : {e : Extent} → r ≡ Ok e → ShapePasses l text p shapes' p' 0 e.words e.top
  first_passes e = subst (ShapeOutcome l text p shapes' p' 0) e j.answer

-- ---- a shape and a document

module _ {shape document : Bytes} {shapes nodes pool : List ℕ} {l : Limits} (s : ShapeDocumentSlices shape document shapes nodes pool l) where
  parts
      : (shape_words l (length shape) ≤ length shapes) × (value_words l (length document) ≤ length nodes)
      × (name_words l (length shape) + text_words l (length document) ≤ length pool)
  parts =
      long_three (shape_words l (length shape)) (value_words l (length document)) (name_words l (length shape) + text_words l (length document))
      (length shapes) (length nodes) (length pool) s.long

  pub room_for_shape : ShapeRoom shape shapes pool 0 l
  room_for_shape =
      let (a, b, c) = parts in
      record { rows = a; names = at (name_words l (length shape)) (text_words l (length document)) c; low = omega arith; small = s.small }
    where
      at : (n m : ℕ) → n + m ≤ length pool → 0 + n ≤ length pool
      at n m h = omega arith

  pub room_for_document : (pool' : List ℕ) (top : ℕ) → length pool' ≡ length pool → top ≤ name_words l (length shape) → DocumentRoom document nodes pool' top l
  room_for_document pool' top e h =
      let (a, b, c) = parts in
      record {
        rows = b;
        texts = at (name_words l (length shape)) (text_words l (length document)) h c;
        low = omega (arith, s.small.bytes);
        small = s.small;
      }
    where
      at : (n m : ℕ) → top ≤ n → n + m ≤ length pool → top + m ≤ length pool'
      at n m h g = omega arith

module _
    {l : Limits} {shape : Bytes} {p shapes' p' : List ℕ} {words top : ℕ} (f : ShapePasses l shape p shapes' p' 0 words top)
    (source : Source) (document : Bytes) {nodes' p'' : List ℕ} {r : std.Result Extent Refusal}
    (j : JudgesDocument source l document p' nodes' p'' top r)
  where
    pub document_refused
        : {e : Refusal} → r ≡ Err e → judge_both l read_shape shape source document ≡ stopped (refusal (number_of e.cause) 2 e.place)
    document_refused e =
        second_stops l read_shape shape source document (f.judged 1) (judged_refused j e 2)

    pub document_passes
        : {e : Extent} → r ≡ Ok e
        → BothPass l read_shape shape source document (ShapeDocumentHeld l shapes' nodes' p'' words e.words e.top)
    document_passes {e} same =
        let (v, passes, held) = judged_passes j same in
        record {
          first = f.shape;
          second = v;
          judged = both_pass l read_shape shape source document (f.judged 1) (passes 2);
          held =
              record {
                shape = table_grown p'' e.top f.table held.front held.grows held.table.within held.table.small;
                value = held.table;
              };
        }

-- ---- two shapes

module _ {one two : Bytes} {shapes others pool : List ℕ} {l : Limits} (s : TwoShapesSlices one two shapes others pool l) where
  both_parts
      : (shape_words l (length one) ≤ length shapes) × (shape_words l (length two) ≤ length others)
      × (name_words l (length one) + name_words l (length two) ≤ length pool)
  both_parts =
      long_three (shape_words l (length one)) (shape_words l (length two)) (name_words l (length one) + name_words l (length two))
      (length shapes) (length others) (length pool) s.long

  pub room_for_first : ShapeRoom one shapes pool 0 l
  room_for_first =
      let (a, b, c) = both_parts in
      record { rows = a; names = at (name_words l (length one)) (name_words l (length two)) c; low = omega arith; small = s.small }
    where
      at : (n m : ℕ) → n + m ≤ length pool → 0 + n ≤ length pool
      at n m h = omega arith

  pub room_for_second : (pool' : List ℕ) (top : ℕ) → length pool' ≡ length pool → top ≤ name_words l (length one) → ShapeRoom two others pool' top l
  room_for_second pool' top e h =
      let (a, b, c) = both_parts in
      record {
        rows = b;
        names = at (name_words l (length one)) (name_words l (length two)) h c;
        low = omega (arith, s.small.bytes);
        small = s.small;
      }
    where
      at : (n m : ℕ) → top ≤ n → n + m ≤ length pool → top + m ≤ length pool'
      at n m h g = omega arith

module _
    {l : Limits} {one : Bytes} {p shapes' p' : List ℕ} {words top : ℕ} (f : ShapePasses l one p shapes' p' 0 words top)
    (two : Bytes) {others' p'' : List ℕ} {r : std.Result Extent Refusal} (j : JudgesShape l two p' others' p'' top r)
  where
    pub second_refused : {e : Refusal} → r ≡ Err e → judge_both l read_shape one read_shape two ≡ stopped (refusal (number_of e.cause) 2 e.place)
    second_refused e = second_stops l read_shape one read_shape two (f.judged 1) (subst (ShapeOutcome l two p' others' p'' top) e j.answer 2)

    pub second_passes
        : {e : Extent} → r ≡ Ok e
        → BothPass l read_shape one read_shape two (TwoShapesHeld l shapes' others' p'' words e.words e.top)
    second_passes {e} same =
        let g = subst (ShapeOutcome l two p' others' p'' top) same j.answer in
        record {
          first = f.shape;
          second = g.shape;
          judged = both_pass l read_shape one read_shape two (f.judged 1) (g.judged 2);
          held =
              record {
                one = table_grown p'' e.top f.table g.front g.grows g.table.within g.table.small;
                other = g.table;
              };
        }
