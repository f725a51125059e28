-- A reader judged and read, and the text behind it: room for both, and what both come to. Assumes nothing.
use Prim.Native.Nat.{ℕ, ◌+◌, ◌/◌, ◌≤◌, ◌<◌, min, max}
use native.Mathlib.Omega.{arith}
use mathlib.Core.Path.{◌≡◌, sym, ap, ◌∙◌, subst}
use mathlib.Core.List.{List, ◌++◌}
use Rattle.std.specs.Prelude as std
use Rattle.std.specs.Prelude.{Ok, Err}
use lib.ListN.{length, take, drop, take-append-drop}
use lib.Seq.{take-take}
use Rattle.definitions.specs.declared.Limits.{Limits}
use Rattle.definitions.specs.Bytes.{Bytes}
use Rattle.definitions.specs.Tokens.{Placed}
use Rattle.definitions.specs.ShapeText.{read_shape}
use Rattle.definitions.specs.Reader.{Result, read_reader}
use Rattle.definitions.specs.Operations.{Reading, Source, judge_both, stopped, refusal}
use Rattle.definitions.specs.WorkSlices.{name_words, text_words, most_reader_forms, reader_texts}
use Rattle.laws.specs.Tests.{lt-ltb}
use Rattle.laws.proofs.ReaderForms.{reader_accepted_to}
use Rattle.laws.proofs.ReaderFacts.{reader_proper}
use Rattle.laws.proofs.RoundReaderRead.{reader_read_good}
use Rattle.laws.specs.Judging.{text_long, text_reads, text_refused, first_stops, second_stops, both_pass}
use Rattle.laws.specs.FormGrammar.{result_forms, result_levels, ReaderWithin, one_form, no_token}
use Rattle.forms.specs.Forms.{FormRows}
use Rattle.forms.specs.FormsLaws.{form_rows_grow}
use Rattle.reading.specs.declared.Cause.TheVariants.{TextTooLong}
use Rattle.reading.specs.declared.Extent.{Extent}
use Rattle.reading.specs.declared.Refusal.{Refusal}
use Rattle.reading.specs.Refusals.{number_of}
use Rattle.form_reader.specs.FormReads.{Tables, ReaderAnswer, ReadsReader}
use Rattle.slices.specs.Small.{Small}
use Rattle.slices.specs.Fewer.{with_values}
use Rattle.documents.specs.Documents.{DocumentRoom, JudgesDocument}
use Rattle.documents.specs.DocumentsLaws.{document_passes as judged_passes, document_refused as judged_refused}
use Rattle.inputs.specs.Inputs.{ShapeRoom, ShapeOutcome, JudgesShape, BothPass, ReaderTable, ReaderRoom, ReaderPasses, ReaderOutcome}
use Rattle.inputs.specs.Inputs.{JudgesReader, ReaderShapeSlices, ReaderShapeHeld, ReaderDocumentSlices, ReaderDocumentHeld}
use Rattle.inputs.proofs.FewReaders.{few_reader_forms}

-- ---- a table

-- the pool grew behind the names
reader_grown
    : {l : Limits} {forms p : List ℕ} {words top : ℕ} {r : Result} (p' : List ℕ) (top' : ℕ) → ReaderTable l forms p words top r
    → take top p' ≡ take top p → top ≤ top' → top' ≤ length p' → top' < 65536 → ReaderTable l forms p' words top' r
reader_grown {l} {forms} {p} {words} {top} {r} p' top' t e h within small =
    record {
      rows = subst (λ q. FormRows q 1 0 r (take words forms)) grown (form_rows_grow (drop top (take top' p')) t.rows);
      counted = t.counted;
      few = t.few;
      nests = t.nests;
      names_once = t.names_once;
      good = t.good;
      within = within;
      small = small;
    }
  where
    grown : take top p ++ drop top (take top' p') ≡ take top' p'
    grown = ap (λ q. q ++ drop top (take top' p')) (sym e ∙ sym (take-take top top' p' h)) ∙ take-append-drop top (take top' p')

-- ---- a text

-- a reader has no more forms than limits that have room for one allow, and is nested no deeper
within_forms : {l : Limits} {ts : List Placed} {r : Result} → ReaderWithin l ts r → 1 ≤ l.values → result_forms r ≤ l.values
unfolding result_forms
within_forms (one_form f a b) h = a
within_forms no_token h = h

within_levels : {l : Limits} {ts : List Placed} {r : Result} → ReaderWithin l ts r → 1 ≤ l.nesting → result_levels r ≤ l.nesting
unfolding result_levels
within_levels (one_form f a b) h = b
within_levels no_token h = h

-- how many forms there are in the limits under which a text is read that is short enough
few_are
    : (l : Limits) (text : Bytes) {most : ℕ} → most ≡ most_reader_forms l (length text) → length text ≤ l.bytes
    → min l.values most ≡ min l.values (max 1 ((length text + 2) / 3))
few_are l text m h = omega (arith, m, h)

module _ {l : Limits} {text : Bytes} where
  pub reader_long : (forms' p' : List ℕ) → l.bytes < length text → JudgesReader l text forms' p' (Err (record { cause = TextTooLong; place = 0 }))
  reader_long forms' p' h = record { answer = λ k. text_long k l read_reader text (lt-ltb _ _ h) }

  module _ {few : Limits} {most : ℕ} (e : few ≡ with_values l (min l.values most)) (m : most ≡ most_reader_forms l (length text))
      (h : length text ≤ l.bytes) where
    -- a text that is short enough has room under fewer forms
    pub reader_room : {forms pool : List ℕ} → ReaderRoom text forms pool l → Tables text forms pool 0 few.values × (0 < few.values)
    reader_room {forms} {pool} r =
        let v : few.values ≡ min l.values (max 1 ((length text + 2) / 3)) = ap (λ (k : Limits). k.values) e ∙ few_are l text m h in (
          record {
            rows = omega (arith, r.rows, v, h);
            texts = omega (arith, r.texts, v, h);
            short = omega (arith, r.small.bytes, h);
            few = omega (arith, r.small.values, v);
            small = omega (arith, r.small.bytes, r.small.values, v, h);
          },
          omega (arith, r.small.one_form, v),
        )

    -- and what was read so was read under the limits themselves
    pub reader_judged
        : {forms p forms' p' : List ℕ} {r : std.Result Extent Refusal} → Small l → ReadsReader few text forms p forms' p' 0 r
        → JudgesReader l text forms' p' r
    reader_judged {forms} {p} {forms'} {p'} {r} small d = record { answer = go r d.answer }
      where
        same : read_reader l text ≡ read_reader few text
        same =
            sym
            (ap (λ (k : Limits). read_reader k text) (e ∙ ap (with_values l) (few_are l text m h))
            ∙ few_reader_forms l text (max 1 ((length text + 2) / 3)) (omega arith))

        go : (r : std.Result Extent Refusal) → ReaderAnswer few text forms' p p' 0 r → ReaderOutcome l text forms' p' r
        go (Ok x) a =
            let v : few.values ≡ min l.values (max 1 ((length text + 2) / 3)) = ap (λ (k : Limits). k.values) e ∙ few_are l text m h in
            let read = same ∙ a.read in
            let within = reader_accepted_to l text a.form read in
            let some : 1 ≤ few.values = omega (arith, small.one_form, v) in
            let fewer : result_forms a.form ≤ few.values = within_forms (reader_accepted_to few text a.form a.read) some in
            record {
              reader = a.form;
              judged = λ k. text_reads k l read_reader text a.form h read;
              table =
                  record {
                    rows = a.held;
                    counted = a.counted;
                    few = within_forms within small.one_form;
                    nests = within_levels within small.one_level;
                    names_once = reader_proper l text a.form read;
                    good = reader_read_good l text a.form read;
                    within = a.used.within;
                    small = a.used.small;
                  };
              low = omega (arith, a.used.bounded, a.counted, fewer, v, h);
            }
        go (Err q) f = λ k. text_refused k l read_reader text (number_of q.cause) q.place h (same ∙ f)

-- ---- the first text

module _ {l : Limits} {text : Bytes} {forms' p' : List ℕ} {r : std.Result Extent Refusal} (j : JudgesReader l text forms' p' r) where
  pub reader_stops
      : {B : Type 0} {e : Refusal} (read : Reading B) (t : Bytes) → r ≡ Err e
      → judge_both l read_reader text read t ≡ stopped (refusal (number_of e.cause) 1 e.place)
  reader_stops read t e = first_stops l read_reader text read t (subst (ReaderOutcome l text forms' p') e j.answer 1)

  pub reader_passes : {e : Extent} → r ≡ Ok e → ReaderPasses l text forms' p' e.words e.top
  reader_passes e = subst (ReaderOutcome l text forms' p') e j.answer

-- ---- a reader and a shape

module _ {reader shape : Bytes} {forms shapes pool : List ℕ} {l : Limits} (s : ReaderShapeSlices reader shape forms shapes pool l) where
  pub room_before_shape : ReaderRoom reader forms pool l
  room_before_shape = record { rows = s.rows; texts = at (reader_texts l (length reader)) (name_words l (length shape)) s.texts; small = s.small }
    where
      at : (n m : ℕ) → n + m ≤ length pool → n ≤ length pool
      at n m h = omega arith

  pub room_for_its_shape
      : (pool' : List ℕ) (top : ℕ) → length pool' ≡ length pool → top ≤ reader_texts l (length reader) → ShapeRoom shape shapes pool' top l
  room_for_its_shape pool' top e h =
      record {
        rows = s.shape_rows;
        names = at (reader_texts l (length reader)) (name_words l (length shape)) h s.texts;
        low = omega (arith, s.small.bytes, s.small.values);
        small = s.small;
      }
    where
      at : (n m : ℕ) → top ≤ n → n + m ≤ length pool → top + m ≤ length pool'
      at n m h g = omega arith

module _
    {l : Limits} {reader : Bytes} {forms' p' : List ℕ} {words top : ℕ} (f : ReaderPasses l reader forms' p' words top)
    (shape : Bytes) {shapes' p'' : List ℕ} {r : std.Result Extent Refusal} (j : JudgesShape l shape p' shapes' p'' top r)
  where
    pub its_shape_refused : {e : Refusal} → r ≡ Err e → judge_both l read_reader reader read_shape shape ≡ stopped (refusal (number_of e.cause) 2 e.place)
    its_shape_refused e =
        second_stops l read_reader reader read_shape shape (f.judged 1) (subst (ShapeOutcome l shape p' shapes' p'' top) e j.answer 2)

    pub its_shape_passes
        : {e : Extent} → r ≡ Ok e
        → BothPass l read_reader reader read_shape shape (ReaderShapeHeld l forms' shapes' p'' words e.words e.top)
    its_shape_passes {e} same =
        let g = subst (ShapeOutcome l shape p' shapes' p'' top) same j.answer in
        record {
          first = f.reader;
          second = g.shape;
          judged = both_pass l read_reader reader read_shape shape (f.judged 1) (g.judged 2);
          held =
              record {
                reader = reader_grown p'' e.top f.table g.front g.grows g.table.within g.table.small;
                shape = g.table;
              };
        }

-- ---- a reader and a document

module _ {reader document : Bytes} {forms nodes pool : List ℕ} {l : Limits} (s : ReaderDocumentSlices reader document forms nodes pool l) where
  pub room_before_document : ReaderRoom reader forms pool l
  room_before_document =
      record { rows = s.rows; texts = at (reader_texts l (length reader)) (text_words l (length document)) s.texts; small = s.small }
    where
      at : (n m : ℕ) → n + m ≤ length pool → n ≤ length pool
      at n m h = omega arith

  pub room_for_its_document
      : (pool' : List ℕ) (top : ℕ) → length pool' ≡ length pool → top ≤ reader_texts l (length reader)
      → DocumentRoom document nodes pool' top l
  room_for_its_document pool' top e h =
      record {
        rows = s.value_rows;
        texts = at (reader_texts l (length reader)) (text_words l (length document)) h s.texts;
        low = omega (arith, s.small.bytes, s.small.values);
        small = s.small;
      }
    where
      at : (n m : ℕ) → top ≤ n → n + m ≤ length pool → top + m ≤ length pool'
      at n m h g = omega arith

module _
    {l : Limits} {reader : Bytes} {forms' p' : List ℕ} {words top : ℕ} (f : ReaderPasses l reader forms' p' words top)
    (source : Source) (document : Bytes) {nodes' p'' : List ℕ} {r : std.Result Extent Refusal}
    (j : JudgesDocument source l document p' nodes' p'' top r)
  where
    pub its_document_refused
        : {e : Refusal} → r ≡ Err e → judge_both l read_reader reader source document ≡ stopped (refusal (number_of e.cause) 2 e.place)
    its_document_refused e = second_stops l read_reader reader source document (f.judged 1) (judged_refused j e 2)

    pub its_document_passes
        : {e : Extent} → r ≡ Ok e
        → BothPass l read_reader reader source document (ReaderDocumentHeld l forms' nodes' p'' words e.words e.top)
    its_document_passes {e} same =
        let (v, passes, held) = judged_passes j same in
        record {
          first = f.reader;
          second = v;
          judged = both_pass l read_reader reader source document (f.judged 1) (passes 2);
          held =
              record {
                reader = reader_grown p'' e.top f.table held.front held.grows held.table.within held.table.small;
                value = held.table;
              };
        }
