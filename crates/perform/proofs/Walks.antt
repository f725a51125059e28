-- The tables that were read, as the walks over them ask for them, and what a walk leaves. Assumes nothing.
use Prim.Native.Nat.{ℕ, ◌+◌, ◌*◌, ◌≤◌, ◌<◌}
use native.Mathlib.Omega.{arith}
use mathlib.Core.Path.{◌≡◌, refl, sym, ap, ◌∙◌, subst}
use mathlib.Core.List.{List, [], ◌++◌, append-nil}
use lib.ListN.{length, take, drop, length-take, take-append-drop}
use lib.Seq.{length-take-le, drop-length}
use Rattle.definitions.specs.declared.Limits.{Limits}
use Rattle.definitions.specs.Value.{Value}
use Rattle.definitions.specs.Shape.{Shape, forms}
use Rattle.definitions.specs.Join.{join, shape_of}
use Rattle.definitions.specs.declared.Answer.{Answer}
use Rattle.definitions.specs.Bytes.{Bytes}
use Rattle.definitions.specs.Outcome.{Outcome, ok, refused}
use Rattle.definitions.specs.Reader.{Result}
use Rattle.definitions.specs.Checking.{check_reader}
use Rattle.definitions.specs.Running.{run_reader}
use Rattle.definitions.specs.Operations.{passed, stopped, refusal, in_text, shape_out, finish}
use Rattle.definitions.specs.WorkSlices.{form_words, shape_words, name_words, value_words, text_words, reader_words, reader_texts}
use Rattle.definitions.specs.WorkSlices.{bound_words, result_words}
use Rattle.laws.specs.Tests.{lt-ltb}
use Rattle.laws.specs.Judging.{shape_out_over}
use Rattle.laws.specs.Ends.{Comes, stopped_keeps}
use Rattle.plain.specs.Table.{Used, Holds}
use Rattle.plain.specs.TableLaws.{holds_front}
use Rattle.plain.specs.GoodBounded.{good_bounded}
use Rattle.shapes.specs.Shapes.{ShapeRows, Stands}
use Rattle.shapes.specs.ShapesLaws.{length_shape_rows}
use Rattle.shapes.specs.Held.{HoldsShape}
use Rattle.shapes.specs.HeldLaws.{held_front}
use Rattle.std.specs.Prelude as std
use Rattle.std.specs.Prelude.{Ok, Err, Some, None}
use Rattle.reading.specs.declared.Refusal.{Refusal}
use Rattle.reading.specs.Refusals.{number_of}
use Rattle.shapes.specs.declared.Shape as bits
use Rattle.join.specs.Replacing.{Becomes}
use Rattle.join.specs.Joining.{Joins, Joinable, JoinsTo}
use Rattle.infer.specs.Inferring.{Meets, Inferable, Joins as InferJoins}
use Rattle.order.specs.Comparing.{ShapesAsked}
use Rattle.admits.specs.Admission.{ValueAsked}
use Rattle.documents.specs.Documents.{ValueTable}
use Rattle.slices.specs.Long.{long_three, long_five, read_in_grown_document, read_in_grown_shapes}
use Rattle.checking.specs.CheckContracts.{Checked, Checks, MeetsReader, ReaderAsked, ChecksReader}
use Rattle.result_shape.specs.Giving.{MeetsReader as MeetsGiven, ReaderAsked as GivenAsked, HoldsGiven, GivesReader}
use Rattle.running.specs.declared.Halt.{Halt}
use Rattle.running.specs.Run.{ReadsBoth, Runnable, ComesTo, RunsReader}
use Rattle.inputs.specs.Inputs.{ShapeDocumentSlices, TwoShapesSlices, ReaderDocumentSlices, ReaderDocumentHeld}
use Rattle.inputs.specs.Inputs.{ShapeTable, ShapeDocumentHeld, TwoShapesHeld, ReaderShapeSlices, ReaderShapeHeld}
use Rattle.perform.specs.Perform.{GrownDocumentSlices, GrownShapesSlices, CheckSlices, RunSlices, GrowsTo}

-- ---- slices in which a table grows have room for the texts, and for every shape that is small enough

module _ {shape document : Bytes} {shapes nodes pool : List ℕ} {l : Limits} (s : GrownDocumentSlices shape document shapes nodes pool l) where
  pub document_texts : ShapeDocumentSlices shape document shapes nodes pool l
  document_texts =
      record {
        long = read_in_grown_document l (length shapes) (length nodes) (length pool) (length shape) (length document) s.long;
        small = s.small;
      }

  pub room_beside_document : form_words l ≤ length shapes
  room_beside_document =
      (long_three (form_words l) (value_words l (length document)) (name_words l (length shape) + text_words l (length document))
      (length shapes) (length nodes) (length pool) s.long).0

module _ {one two : Bytes} {shapes others pool : List ℕ} {l : Limits} (s : GrownShapesSlices one two shapes others pool l) where
  pub shape_texts : TwoShapesSlices one two shapes others pool l
  shape_texts =
      record {
        long = read_in_grown_shapes l (length shapes) (length others) (length pool) (length one) (length two) s.long;
        small = s.small;
      }

  pub room_beside_shape : form_words l ≤ length shapes
  room_beside_shape =
      (long_three (form_words l) (shape_words l (length two)) (name_words l (length one) + name_words l (length two)) (length shapes)
      (length others) (length pool) s.long).0

-- ---- a table that grew, or was full

module _ (u : Shape) (grown : std.Option ℕ) (shapes pool : List ℕ) (l : Limits) (g : GrowsTo u grown shapes pool l) where
  pub grown_holds : {words : ℕ} → grown ≡ Some words → HoldsShape shapes pool 0 u
  grown_holds e = subst (λ j. GrowsTo u j shapes pool l) e g

  pub full_keeps : {r : Answer} (out : Bytes) → grown ≡ None → r ≡ refusal 11 0 0 → Comes (finish out (shape_out l u)) r out
  full_keeps out e f =
      let h : l.values < forms u = subst (λ j. GrowsTo u j shapes pool l) e g in
      stopped_keeps out f (shape_out_over l u (rw (lt-ltb l.values (forms u) h) refl))

-- ---- a value

pub value_held : {nodes pool : List ℕ} {words top : ℕ} {v : Value} → ValueTable nodes pool words top v → Holds nodes pool 0 v
value_held {nodes} {pool} {words} {top} t =
    holds_front nodes pool words top t.rows t.within t.small (good_bounded t.good)

-- the used part of the pool
front_used : (pool : List ℕ) (top : ℕ) → top ≤ length pool → top < 65536 → Used pool (take top pool)
front_used pool top h small =
    record { front = ap (λ (k : ℕ). take k pool) (length-take-le top pool h); small = omega (arith, length-take-le top pool h) }

-- ---- a shape

module _ {l : Limits} {shapes pool : List ℕ} {used top : ℕ} {s : Shape} (t : ShapeTable l shapes pool used top s) where
  pub shape_held : HoldsShape shapes pool 0 s
  shape_held = held_front shapes pool used top t.rows t.within t.small

  shape_stands : Stands shapes (take top pool) 0 0 s
  shape_stands = record { rows = take used shapes; rest = drop used shapes; encoded = t.rows; placed = sym (take-append-drop used shapes) }

  counted : length (take used shapes) ≡ 2 * forms s
  counted = length_shape_rows t.rows

  pub used_within : used ≤ length shapes
  used_within = omega (arith, counted, t.counted, length-take used shapes)

  -- nothing stands behind the shape in the used words
  behind : drop (0 + 2 * forms s) (take used shapes) ≡ []
  behind =
      ap (λ (n : ℕ). drop n (take used shapes)) (let e : 0 + 2 * forms s ≡ length (take used shapes) = omega (arith, counted) in e)
      ∙ drop-length (take used shapes)

  -- it became another
  grows
      : (shapes' : List ℕ) (u : Shape) (r : std.Option ℕ) → 2 * l.values ≤ length shapes
      → Becomes shapes shapes' (take top pool) used 0 0 s u r → GrowsTo u r shapes' pool l
  grows shapes' u (Some words) h b =
      held_front shapes' pool (used + words) top (subst (ShapeRows (take top pool) 0 u) whole b.encoded) t.within t.small
    where
      whole : b.rows ≡ take (used + words) shapes'
      whole = sym (b.replaced.held ∙ ap (λ (q : List ℕ). b.rows ++ q) behind ∙ append-nil b.rows)
  grows shapes' u None h b = omega (arith, b.over, t.counted)

-- ---- a value into a shape

module _ {l : Limits} {shapes nodes pool : List ℕ} {used words top : ℕ} {s : Shape} {v : Value}
    (h : ShapeDocumentHeld l shapes nodes pool used words top s v) where
  meets : Meets shapes nodes pool used 0 0 (take top pool) 0 s 0 v
  meets =
      record {
        pooled = front_used pool top h.shape.within h.shape.small;
        stands = shape_stands h.shape;
        within = omega (arith, h.shape.counted);
        held =
            record {
              rows = take words nodes;
              rest = drop words nodes;
              encoded = h.value.rows;
              placed = sym (take-append-drop words nodes);
            };
        bounded = good_bounded h.value.good;
        ascends = h.shape.ascends;
        once = h.value.names_once;
      }

  pub inferable : Inferable shapes nodes pool used 0 0
  inferable = record { part = take top pool; name = 0; old = s; label = 0; value = v; meets = meets }

  -- what `admits` asks
  pub admission : ValueAsked shapes 0 nodes 0 pool
  admission = record { shape = s; held = shape_held h.shape; value = v; holds = value_held h.value; once = h.value.names_once }

  pub inferred
      : (shapes' : List ℕ) (r : std.Option ℕ) → 2 * l.values ≤ length shapes → InferJoins shapes nodes pool shapes' used 0 0 r
      → GrowsTo (join s (shape_of v)) r shapes' pool l
  inferred shapes' r k i =
      grows h.shape shapes' (join s (shape_of v)) r k (i (take top pool) 0 s 0 v meets h.shape.ascends h.value.names_once)

-- ---- a shape into a shape

module _ {l : Limits} {shapes others pool : List ℕ} {used words top : ℕ} {s t : Shape} (h : TwoShapesHeld l shapes others pool used words top s t) where
  joins : Joins shapes others pool (take top pool) used 0 0 0 0 l.nesting s t
  joins =
      record {
        both =
            record {
              ours = shape_stands h.one;
              theirs = shape_stands h.other;
              within = omega (arith, h.one.counted);
              used_within = used_within h.one;
            };
        ours_ascend = h.one.ascends;
        theirs_ascend = h.other.ascends;
        nests = h.other.nests;
        pooled = front_used pool top h.one.within h.one.small;
      }

  pub joinable : length shapes ≤ 65536 → Joinable shapes others pool used 0 0 l.nesting
  joinable k = record { p = take top pool; name = 0; other_name = 0; ours = s; theirs = t; joins = joins; small = k }

  -- what `below` asks
  pub comparison : ShapesAsked shapes 0 others 0 pool l.nesting
  comparison = record { shape = s; held = shape_held h.one; other = t; holds = shape_held h.other; deep = h.one.nests }

  pub joined
      : (shapes' : List ℕ) (r : std.Option ℕ) → 2 * l.values ≤ length shapes → JoinsTo join shapes shapes' others pool used 0 0 l.nesting r
      → GrowsTo (join s t) r shapes' pool l
  joined shapes' r k i = grows h.one shapes' (join s t) r k (i (take top pool) 0 0 s t joins)

-- ---- a reader against a shape

module _ {reader shape : Bytes} {forms shapes results bindings pool : List ℕ} {l : Limits}
    (s : CheckSlices reader shape forms shapes results bindings pool l) where
  check_parts
      : (reader_words l (length reader) ≤ length forms) × (shape_words l (length shape) ≤ length shapes) × (form_words l ≤ length results)
      × (bound_words l ≤ length bindings) × (reader_texts l (length reader) + name_words l (length shape) ≤ length pool)
  check_parts =
      long_five (reader_words l (length reader)) (shape_words l (length shape)) (form_words l) (bound_words l)
      (reader_texts l (length reader) + name_words l (length shape)) (length forms) (length shapes) (length results) (length bindings)
      (length pool) s.long

  pub check_texts : ReaderShapeSlices reader shape forms shapes pool l
  check_texts =
      let (a, b, c, d, e) = check_parts in
      record { rows = a; shape_rows = b; texts = e; small = s.small }

  pub check_results : form_words l ≤ length results
  check_results = check_parts.2

  pub check_bindings : bound_words l ≤ length bindings
  check_bindings = check_parts.3

-- what a walk over a reader came to is judged of the reader's text
module _ {A : Type 0} (k : ℕ) {o : Outcome ℕ A} where
  pub walk_passes : {a : A} → o ≡ ok a → in_text k o ≡ passed a
  unfolding in_text
  walk_passes e = ap (λ x. in_text k x) e

  pub walk_stops : {n q : ℕ} → o ≡ refused n q → in_text k o ≡ stopped (refusal n k q)
  unfolding in_text
  walk_stops e = ap (λ x. in_text k x) e

module _ {l : Limits} {forms shapes pool : List ℕ} {words used top : ℕ} {r : Result} {s : Shape}
    (h : ReaderShapeHeld l forms shapes pool words used top r s) (bindings : List ℕ) (k : bound_words l ≤ length bindings) where
  checks : MeetsReader forms shapes pool bindings (take top pool) 0 l.nesting r s
  checks =
      record {
        pooled = front_used pool top h.shape.within h.shape.small;
        stands =
            record {
              rows = take words forms;
              rest = drop words forms;
              encoded = h.reader.rows;
              placed = sym (take-append-drop words forms);
            };
        shaped = shape_stands h.shape;
        ascends = h.shape.ascends;
        nests = h.shape.nests;
        room = omega (arith, h.reader.nests, k);
      }

  pub checkable : ReaderAsked forms shapes pool bindings
  checkable = record { p = take top pool; m = 0; deep = l.nesting; form = r; shape = s; meets = checks }

  module _ {x : Checked} (c : ChecksReader forms shapes pool bindings x) where
    told : {y : Checked} → x ≡ y → Checks (check_reader r s) y
    told e = subst (Checks (check_reader r s)) e (c (take top pool) 0 l.nesting r s checks)

    pub reader_checks : {kinds : bits.Shape} → x ≡ Ok kinds → (t : Shape) × (check_reader r s ≡ ok t)
    reader_checks e = let (t, f, g) = told e in (t, f)

    pub reader_fails : {why : Refusal} → x ≡ Err why → in_text 1 (check_reader r s) ≡ stopped (refusal (number_of why.cause) 1 why.place)
    reader_fails e = walk_stops 1 (told e)

  -- what it gives
  module _ {t : Shape} (e : check_reader r s ≡ ok t) where
    gives : MeetsGiven forms shapes pool bindings (take top pool) l.nesting 0 0 r s t
    gives =
        record {
          pooled = checks.pooled;
          form = checks.stands;
          stands = checks.shaped;
          ascends = checks.ascends;
          nests = checks.nests;
          gives = e;
          once = h.reader.names_once;
          room = checks.room;
        }

    pub giving : GivenAsked forms shapes pool bindings l.nesting
    giving = record { p = take top pool; m = 0; name = 0; reader = r; shape = s; given = t; meets = gives }

    pub given
        : (results' : List ℕ) (long : ℕ) (o : std.Option ℕ) → form_words l ≤ long
        → GivesReader forms shapes pool bindings results' l.nesting long o → GrowsTo t o results' pool l
    given results' long o j g = go o (g (take top pool) 0 0 r s t gives)
      where
        go : (o : std.Option ℕ) → HoldsGiven results' pool long t o → GrowsTo t o results' pool l
        go (Some w) x = x
        go None x = omega (arith, x, j)

-- ---- a reader on a document

module _ {reader document : Bytes} {forms nodes results bindings pool : List ℕ} {l : Limits}
    (s : RunSlices reader document forms nodes results bindings pool l) where
  run_parts
      : (reader_words l (length reader) ≤ length forms) × (value_words l (length document) ≤ length nodes) × (result_words l ≤ length results)
      × (bound_words l ≤ length bindings) × (reader_texts l (length reader) + text_words l (length document) ≤ length pool)
  run_parts =
      long_five (reader_words l (length reader)) (value_words l (length document)) (result_words l) (bound_words l)
      (reader_texts l (length reader) + text_words l (length document)) (length forms) (length nodes) (length results) (length bindings)
      (length pool) s.long

  pub run_texts : ReaderDocumentSlices reader document forms nodes pool l
  run_texts =
      let (a, b, c, d, e) = run_parts in
      record { rows = a; value_rows = b; texts = e; small = s.small }

  pub run_results : result_words l ≤ length results
  run_results = run_parts.2

  pub run_bindings : bound_words l ≤ length bindings
  run_bindings = run_parts.3

module _ {l : Limits} {forms nodes pool : List ℕ} {words many top : ℕ} {r : Result} {v : Value}
    (h : ReaderDocumentHeld l forms nodes pool words many top r v) where
  reads : ReadsBoth forms nodes pool l (take top pool) r v
  reads =
      record {
        pooled = front_used pool top h.value.within h.value.small;
        reader_name = 0;
        reader =
            record {
              rows = take words forms;
              rest = drop words forms;
              encoded = h.reader.rows;
              placed = sym (take-append-drop words forms);
            };
        good = h.reader.good;
        levels = h.reader.nests;
        document_name = 0;
        document =
            record {
              rows = take many nodes;
              rest = drop many nodes;
              encoded = h.value.rows;
              placed = sym (take-append-drop many nodes);
            };
        bounded = good_bounded h.value.good;
      }

  pub runnable
      : (bindings results : List ℕ) → bound_words l ≤ length bindings → result_words l ≤ length results → length nodes ≤ 65536
      → length results ≤ 65536 → l.steps ≤ 65536 → Runnable forms nodes pool bindings results l
  runnable bindings results b w n m s =
      record {
        used = take top pool;
        form = r;
        value = v;
        held = reads;
        bound = b;
        room = w;
        small_nodes = n;
        small_results = m;
        few_steps = s;
      }

  pub came : {results' : List ℕ} {x y : std.Result ℕ Halt} → RunsReader forms nodes pool results' l x → x ≡ y → ComesTo (run_reader r l v) l results' pool y
  came {results'} c e = subst (ComesTo (run_reader r l v) l results' pool) e (c.told (take top pool) r v reads)
