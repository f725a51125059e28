-- Answers for a whole reader, and for a place alone. Assumes nothing.
use Prim.Native.Nat.{ℕ, ◌+◌, ◌*◌, ◌≤◌, ◌<◌}
use mathlib.Core.Path.{◌≡◌, refl, sym, ◌∙◌, ap, subst}
use mathlib.Core.List.{List, [], ◌∷◌, ◌++◌}
use native.Mathlib.Omega.{arith}
use lib.Dec.{lit<}
use lib.ListN.{length, take, drop, length-drop}
use Rattle.definitions.specs.declared.Limits.{Limits}
use Rattle.definitions.specs.Bytes.{Bytes}
use Rattle.definitions.specs.Value.{Value}
use Rattle.definitions.specs.Tokens.{Placed, at_place, tokens, or_end}
use Rattle.definitions.specs.Reader.{Result, text_end, place_end, place_open, result_open, want, whole_place, whole_result, put_place, put_result, depth}
use Rattle.definitions.specs.Reader.{place_depth, bindings, place_bindings, step, finished_result, finished_place}
use Rattle.definitions.specs.Reader.{read_reader, read_place}
use Rattle.laws.specs.FormGrammar.{result_forms, ReaderWithin, no_token}
use Rattle.laws.proofs.ReaderForms.{reader_from_start, reader_accepted_from}
use Rattle.nodes.specs.Nodes.{number_bits}
use Rattle.forms.specs.Forms.{literal_code, form_code, form_operand, form_at, head_of, null_payload, PlaceRows, FormRows, literal_row}
use Rattle.forms.specs.FormsLaws.{length_place_rows, length_form_rows}
use Rattle.tokens.specs.TokenRead.{tokens_from}
use Rattle.tokens.specs.Expecting.{Kept, MoreAt}
use Rattle.tokens.specs.ReadingLaws as Laws
use Rattle.std.specs.Prelude as std
use Rattle.std.specs.Prelude.{Ok, Err}
use Rattle.reading.specs.declared.Cursor.{Cursor}
use Rattle.reading.specs.declared.Extent.{Extent}
use Rattle.reading.specs.declared.Refusal.{Refusal}
use Rattle.form_reader.specs.FormParts.{a_reader, a_place, finished, Job, reading, Within, PlaceWithin, Ready, PlaceDone}
use Rattle.form_reader.specs.FormParts.{ReadsPlace, ResultDone, ReadsResult}
use Rattle.form_reader.specs.FormReads.{Tables, HasToken, PoolUsed, ReaderAnswer, LoneAnswer, ReadsReader, ReadsLonePlace, WholeText}
use Rattle.form_reader.specs.FormReads.{FormsEnd, EndsForms}
use Rattle.form_reader.proofs.PlaceReading.{ready_at}

pub start_ready
    : {text : Bytes} {s p : List ℕ} {top values : ℕ} → Tables text s p top values
    → Ready text s p values 1 (record { at = 0; begun = 0; top = top })
start_ready t =
    record {
      short = t.short;
      within = omega arith;
      rows = t.rows;
      few = t.few;
      limit = omega arith;
      shallow = omega arith;
      texts = omega (arith, t.texts);
      small = omega (arith, t.small);
    }

-- what of the pool is used behind a whole text
pool_used
    : {text : Bytes} {s p p' : List ℕ} {top values : ℕ} (to : Cursor) (x : Extent) → Ready text s p' values 1 to → Kept p p' top
    → top ≤ to.top → 8 * to.top ≤ to.at + 5 * to.begun + 8 * top → WholeText text to x → PoolUsed text p p' top x.words x.top
pool_used to x r k g h w =
    record {
      grows = omega (arith, g, w.top);
      bounded = omega (arith, h, r.within, w.words, w.top);
      within = omega (arith, r.texts, r.within, r.limit, w.top);
      small = omega (arith, r.small, r.within, r.limit, w.top);
      front = k.front;
    }

-- ---- readers

abbrev reader_job : Limits → Job
reader_job l = record { aim = a_reader; limits = l }

module _ (l : Limits) (text : Bytes) where
  -- the whole text is read from its first place on
  reader_begins : HasToken text → read_reader l text ≡ reading (reader_job l) 0 text (want (result_open text_end)) 0
  unfolding reading tokens tokens_from finished
  reader_begins h = reader_from_start l text h.first h.others h.run

  reader_limits : Within (reader_job l) text_end l.values l.nesting 1
  unfolding depth bindings
  reader_limits = record { limited = record { most = refl; nests = omega arith }; bindings = refl }

module _
    {text : Bytes} {s p s' p' : List ℕ} {top : ℕ} (l : Limits) (t : Tables text s p top l.values) (h : HasToken text) where
  pub reader_refused
      : {r : Refusal} → ReadsResult l.nesting l.values 1 text s p s' p' 0 (record { at = 0; begun = 0; top = top }) (Err r)
      → ReadsReader l text s p s' p' top (Err r)
  reader_refused x =
      record {
        answer = reader_begins l text h ∙ x.answer (reader_job l) text_end (reader_limits l text);
        forms_kept = x.sized.forms_kept;
        pool_kept = x.sized.pool_kept;
      }

  module _
      {to : Cursor} (x : ReadsResult l.nesting l.values 1 text s p s' p' 0 (record { at = 0; begun = 0; top = top }) (Ok to)) where
    reader_done : ResultDone l.nesting l.values 1 text s p s' p' 0 (record { at = 0; begun = 0; top = top }) to
    reader_done = x.answer

    pub reader_end : Ready text s' p' l.values 1 to
    reader_end =
        let d = reader_done in
        ready_at 1 to (start_ready t) x.sized d.within d.goes.limit (omega (arith, d.goes.counted)) (omega (arith, d.room))

    to_reader_end : read_reader l text ≡ reading (reader_job l) to.begun text (whole_result reader_done.form) to.at
    unfolding put_result
    to_reader_end = reader_begins l text h ∙ reader_done.run (reader_job l) text_end (reader_limits l text)

    -- where more stands behind it, and where it is the whole text
    reader_answer : (r : std.Result Extent Refusal) → FormsEnd text to r → ReaderAnswer l text s' p p' top r
    unfolding reading step or_end finished finished_result
    reader_answer (Err r) y =
        to_reader_end ∙ Laws.more_text step (finished a_reader) l to.begun (whole_result reader_done.form) y (λ u. refl)
    reader_answer (Ok e) y =
        let d = reader_done in
        let rows_are : take e.words s' ≡ d.rows = ap (λ (n : ℕ). take n s') y.words ∙ d.goes.table in
        record {
          form = d.form;
          read =
              to_reader_end ∙ Laws.whole_text step (finished a_reader) l to.begun text to.at (whole_result d.form) y.over;
          held =
              subst (λ (n : ℕ). FormRows (take n p') 1 0 d.form (take e.words s')) (sym y.top)
              (subst (λ (q : List ℕ). FormRows (take to.top p') 1 0 d.form q) (sym rows_are) d.held);
          counted = omega (arith, d.goes.counted, length_form_rows d.held, y.words);
          used = pool_used to e reader_end d.goes.kept d.grows (omega (arith, d.room)) y;
        }

    pub reader_ended : {r : std.Result Extent Refusal} → EndsForms text to r → ReadsReader l text s p s' p' top r
    reader_ended {r} y = record { answer = reader_answer r y.answer; forms_kept = x.sized.forms_kept; pool_kept = x.sized.pool_kept }

-- ---- a text with no token, and one with some

-- what stands there is a token
pub more_begun : {text : Bytes} {r : Refusal} → MoreAt text 0 r → HasToken text
unfolding tokens tokens_from
more_begun {r} x = record { first = at_place r.place x.token; others = x.others; run = x.run }

module _ {text : Bytes} {s p : List ℕ} {top : ℕ} (l : Limits) (t : Tables text s p top l.values) (some : 0 < l.values) where
  pub none_room : 0 + 3 ≤ length s
  none_room = omega (arith, t.rows, some)

  none_used : PoolUsed text p p top 3 top
  none_used =
      record {
        grows = omega arith;
        bounded = omega arith;
        within = omega (arith, t.texts, some);
        small = omega (arith, t.small);
        front = refl;
      }

  -- `(none)` stands in the first row
  pub none_read
      : {s' : List ℕ} → tokens_from text 0 ≡ [] → s' ≡ take 0 s ++ head_of 16 0 0 3 ∷ 0 ∷ 0 ∷ drop 3 s
      → ReadsReader l text s p s' p top (Ok (record { words = 3; top = top }))
  unfolding tokens tokens_from form_code literal_code form_operand form_at number_bits result_forms
  none_read {s'} y e =
      record {
        answer =
            record {
              form = Result.literal 0 Value.null;
              read =
                  reader_accepted_from l text (Result.literal 0 Value.null)
                  (subst (λ (ts : List Placed). ReaderWithin l ts (Result.literal 0 Value.null)) (sym y) no_token);
              held =
                  subst (λ (q : List ℕ). FormRows (take top p) 1 0 (Result.literal 0 Value.null) (take 3 q)) (sym e)
                  (literal_row (record { word = refl; short = lit< tt; near = lit< tt }) null_payload);
              counted = refl;
              used = none_used;
            };
        forms_kept = ap length e ∙ length_put;
        pool_kept = refl;
      }
    where
      length_put : length (head_of 16 0 0 3 ∷ 0 ∷ 0 ∷ drop 3 s) ≡ length s
      length_put = omega (arith, length-drop 3 s, none_room)

-- ---- a place alone

abbrev place_job : Limits → Job
place_job l = record { aim = a_place; limits = l }

module _ (l : Limits) (text : Bytes) where
  place_begins : read_place l text ≡ reading (place_job l) 0 text (want (place_open place_end)) 0
  unfolding read_place reading tokens tokens_from finished
  place_begins = refl

  place_limits : PlaceWithin (place_job l) place_end l.values l.nesting 1
  unfolding place_depth place_bindings
  place_limits = record { limited = record { most = refl; nests = omega arith }; bindings = refl }

module _ {text : Bytes} {s p s' p' : List ℕ} {top : ℕ} (l : Limits) (t : Tables text s p top l.values) where
  pub place_refused
      : {r : Refusal} → ReadsPlace l.nesting l.values 1 text s p s' p' (record { at = 0; begun = 0; top = top }) (Err r)
      → ReadsLonePlace l text s p s' p' top (Err r)
  place_refused x =
      record {
        answer = place_begins l text ∙ x.answer (place_job l) place_end (place_limits l text);
        forms_kept = x.sized.forms_kept;
        pool_kept = x.sized.pool_kept;
      }

  module _ {to : Cursor} (x : ReadsPlace l.nesting l.values 1 text s p s' p' (record { at = 0; begun = 0; top = top }) (Ok to)) where
    place_done : PlaceDone (λ o. place_open o) l.nesting l.values 1 text s p s' p' 0 (record { at = 0; begun = 0; top = top }) to
    place_done = x.answer

    pub place_end_ready : Ready text s' p' l.values 1 to
    place_end_ready =
        let d = place_done in
        ready_at 1 to (start_ready t) x.sized d.within d.goes.limit (omega (arith, d.goes.counted)) (omega (arith, d.room))

    to_place_end : read_place l text ≡ reading (place_job l) to.begun text (whole_place place_done.place) to.at
    unfolding put_place
    to_place_end = place_begins l text ∙ place_done.run (place_job l) place_end (place_limits l text)

    -- where more stands behind it, and where it is the whole text
    place_answer : (r : std.Result Extent Refusal) → FormsEnd text to r → LoneAnswer l text s' p p' top r
    unfolding reading step or_end finished finished_place
    place_answer (Err r) y =
        to_place_end ∙ Laws.more_text step (finished a_place) l to.begun (whole_place place_done.place) y (λ u. refl)
    place_answer (Ok e) y =
        let d = place_done in
        let rows_are : take e.words s' ≡ d.rows = ap (λ (n : ℕ). take n s') y.words ∙ d.goes.table in
        record {
          form = d.place;
          read = to_place_end ∙ Laws.whole_text step (finished a_place) l to.begun text to.at (whole_place d.place) y.over;
          held =
              subst (λ (n : ℕ). PlaceRows (take n p') 1 d.place (take e.words s')) (sym y.top)
              (subst (λ (q : List ℕ). PlaceRows (take to.top p') 1 d.place q) (sym rows_are) d.held);
          counted = omega (arith, d.goes.counted, length_place_rows d.held, y.words);
          used = pool_used to e place_end_ready d.goes.kept d.grows (omega (arith, d.room)) y;
        }

    pub place_ended : {r : std.Result Extent Refusal} → EndsForms text to r → ReadsLonePlace l text s p s' p' top r
    place_ended {r} y = record { answer = place_answer r y.answer; forms_kept = x.sized.forms_kept; pool_kept = x.sized.pool_kept }
