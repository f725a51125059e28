-- Answers for places. Assumes nothing.
use Prim.Native.Nat.{ℕ, suc, ◌+◌, ◌-◌, ◌*◌, ◌≤◌, ◌<◌}
use mathlib.Core.Path.{◌≡◌, refl, sym, ap, ◌∙◌, subst}
use mathlib.Core.List.{List, [], ◌∷◌, ◌++◌, append-nil}
use mathlib.Core.Option.{none, some}
use native.Mathlib.Omega.{arith}
use lib.ListN.{length, take}
use Rattle.definitions.specs.Bytes.{Bytes}
use Rattle.definitions.specs.Tokens.{go, where_some, look_word, want_named}
use Rattle.definitions.specs.Reader.{Place, PlaceAround, in_field, Want, place_open, place_word, it_index, field_name, want, put_place, place_depth}
use Rattle.definitions.specs.Reader.{place_bindings, place_words, want_step}
use Rattle.laws.specs.FormGrammar.{place_forms}
use Rattle.forms.specs.Forms.{place_code, place_at, head_of, PlaceRows, it_row, field_rows}
use Rattle.forms.specs.FormsLaws.{length_place_rows}
use Rattle.tokens.specs.TokenRead.{word_in}
use Rattle.tokens.specs.Expecting.{Kept}
use Rattle.std.specs.Prelude as std
use Rattle.std.specs.Prelude.{Some, None, Ok, Err}
use Rattle.reading.specs.declared.Cursor.{Cursor}
use Rattle.reading.specs.declared.Refusal.{Refusal}
use Rattle.form_reader.specs.declared.opening.Begun.{Begun}
use Rattle.form_reader.specs.declared.operands.Payload.{Payload}
use Rattle.form_reader.specs.FormWords.{PlaceSays, says_it, says_field, says_no_place}
use Rattle.tokens.specs.Expecting.{TextPlaced}
use Rattle.form_reader.specs.FormParts.{Job, reading, PlaceWithin, Ready, Sized, WantsText, OpensAt, WantsWord, WordWasRead}
use Rattle.form_reader.specs.FormParts.{BeginsForm, Closed, ClosesForm, IndexRead}
use Rattle.form_reader.specs.FormParts.{ReadsIndex, TextRead, ReadsText, BehindBracket, PlaceDone, PlaceAnswer, ReadsIt}
use Rattle.form_reader.specs.FormParts.{ReadsField, ReadsPlace}
use Rattle.form_reader.proofs.Steps.{ClosesAt, Misplaced, word_goes, word_misplaced, text_goes, no_text, closes_on, no_end}
use Rattle.nodes.specs.RowLaws.{with_row, length_with_row, row_put}
use Rattle.form_reader.proofs.PoolGrowth.{refers_later, kept_before}

-- ---- what may stand there

closes_place : (q : Place) (o : PlaceAround) → ClosesAt (Want.place_close q o) (put_place q o)
unfolding want_step
closes_place q o = record { does = λ t. refl }

opens_place : (o : PlaceAround) → OpensAt (place_open o) (place_depth o) (λ p. place_word p o)
unfolding want_step
opens_place o = record { does = λ t. refl }

wants_place : (at : ℕ) (o : PlaceAround) → WantsWord (place_word at o) (λ w. where_some (look_word place_words w) (λ f. go (want (f at o))))
unfolding want_step want_named
wants_place at o = record { does = λ t. refl }

wants_name : (at : ℕ) (o : PlaceAround) → WantsText (field_name at o) (λ n. go (want (place_open (in_field at n o))))
unfolding want_step
wants_name at o = record { does = λ t. refl }

-- where the tables are ready the pool has room for any text
pub ready_placed
    : {text : Bytes} {forms pool : List ℕ} {values bound : ℕ} {c : Cursor} → Ready text forms pool values bound c
    → TextPlaced text pool c.at c.top
ready_placed r =
    record {
      short = r.short;
      within = r.within;
      texts = omega (arith, r.texts, r.limit);
      small = omega (arith, r.small, r.limit);
    }

-- ---- `it`

module _
    (values bound place : ℕ) (c : Cursor) {text : Bytes} {forms p : List ℕ} (b : BehindBracket text forms p values bound place c) where
  same_forms : Sized forms p forms p
  same_forms = record { forms_kept = refl; pool_kept = refl }

  pub index_refused : {r : Refusal} → ReadsIndex text bound c (Err r) → ReadsIt values bound text forms p forms p place c (Err r)
  index_refused y = record { answer = λ left x o w. y.answer x c.begun place o w.bindings; sized = same_forms }

  module _ {s : Payload} (y : ReadsIndex text bound c (Ok s)) where
    index : IndexRead text bound c s.value s.to
    index = y.answer

    pub it_room : TextPlaced text p s.to.at s.to.top
    it_room =
        let r = ready_placed b.ready in
        record {
          short = r.short;
          within = index.within;
          texts = omega (arith, r.texts, index.ahead, index.top);
          small = omega (arith, r.small, index.ahead, index.top);
        }

    pub it_open : {r : Refusal} → ClosesForm text s.to (Err r) → ReadsIt values bound text forms p forms p place c (Err r)
    it_open z =
        record {
          answer = λ left x o w.
              index.run x c.begun place o w.bindings
              ∙ no_end x c.begun (Want.place_close (Place.it place index.index) o) (closes_place (Place.it place index.index) o) z.answer;
          sized = same_forms;
        }

    pub it_row_room : 3 * (c.begun - 1) + 3 ≤ length forms
    it_row_room = omega (arith, b.begun, b.ready.limit, b.ready.rows)

    pub it_read
        : {to : Cursor} {forms' : List ℕ} → ClosesForm text s.to (Ok to)
        → forms' ≡ with_row forms (c.begun - 1) (head_of 1 0 place 3) s.value 0 → ReadsIt values bound text forms p forms' p place c (Ok to)
    unfolding place_code place_at place_forms
    it_read {to} {forms'} z g =
        let closed : Closed text s.to to = z.answer in
        let q = Place.it place index.index in
        let here : to.begun ≡ suc (c.begun - 1) = omega (arith, b.begun, closed.begun, index.begun) in
        record {
          answer = λ left.
              record {
                place = q;
                run = λ x o w.
                    index.run x c.begun place o w.bindings
                    ∙ closes_on x c.begun (Want.place_close q o) (closes_place q o) closed.found
                    ∙ ap (λ (n : ℕ). reading x n text (put_place q o) to.at) (sym (closed.begun ∙ index.begun));
                rows = head_of 1 0 place 3 ∷ s.value ∷ 0 ∷ [];
                held =
                    subst (λ (k : ℕ). PlaceRows (take to.top p) bound q (head_of 1 0 place 3 ∷ k ∷ 0 ∷ [])) (sym index.slotted)
                    (it_row (record { word = refl; short = omega arith; near = b.near }) index.bounded);
                goes =
                    record {
                      table =
                          ap (λ (t : List ℕ). take (3 * to.begun) t) g
                          ∙ row_put forms (c.begun - 1) (head_of 1 0 place 3) s.value 0 it_row_room forms [] to.begun (omega (arith, here)) it_row_room
                          (ap (λ (n : ℕ). take (3 * n) forms) here ∙ sym (append-nil (take (3 * suc (c.begun - 1)) forms)));
                      counted = omega (arith, here);
                      limit = omega (arith, closed.begun, index.begun, b.ready.limit);
                      kept = record { size = refl; front = refl };
                    };
                ahead = omega (arith, index.ahead, closed.further);
                within = closed.within;
                grows = omega (arith, index.top, closed.top);
                room = omega (arith, index.top, closed.top, index.begun, closed.begun, index.ahead, closed.further);
              };
          sized =
              record {
                forms_kept = ap length g ∙ length_with_row forms (c.begun - 1) (head_of 1 0 place 3) s.value 0 it_row_room;
                pool_kept = refl;
              };
        }

-- ---- `field`

-- the tables are ready further on
pub ready_at
    : {text : Bytes} {forms p forms' p' : List ℕ} {values bound : ℕ} {c : Cursor} (bound' : ℕ) (to : Cursor)
    → Ready text forms p values bound c → Sized forms p forms' p' → to.at ≤ length text → to.begun ≤ values → bound' ≤ to.begun + 1
    → 8 * to.top + c.at + 5 * c.begun ≤ to.at + 5 * to.begun + 8 * c.top → Ready text forms' p' values bound' to
ready_at bound' to r z h l b m =
    record {
      short = r.short;
      within = h;
      rows = omega (arith, r.rows, z.forms_kept);
      few = r.few;
      limit = l;
      shallow = b;
      texts = omega (arith, r.texts, z.pool_kept, m);
      small = omega (arith, r.small, m);
    }

in_field_within
    : {x : Job} {o : PlaceAround} {values left bound : ℕ} (at : ℕ) (n : Bytes) → PlaceWithin x o values (suc left) bound
    → PlaceWithin x (in_field at n o) values left bound
unfolding place_depth place_bindings
in_field_within at n w =
    record { limited = record { most = w.limited.most; nests = omega (arith, w.limited.nests) }; bindings = w.bindings }

module _
    (left : ℕ) {values bound place : ℕ} (c : Cursor) {text : Bytes} {forms p₀ p : List ℕ}
    (b : BehindBracket text forms p₀ values bound place c) where
  pub name_refused : {r : Refusal} → ReadsText text p₀ p c (Err r) → ReadsField left values bound text forms p₀ forms p place c (Err r)
  name_refused y =
      record {
        answer = λ x o w. no_text x c.begun (field_name place o) (wants_name place o) y.answer;
        sized = record { forms_kept = refl; pool_kept = y.kept.size };
      }

  module _ {t : Payload} (y : ReadsText text p₀ p c (Ok t)) where
    name : TextRead text p c t.value t.to
    name = y.answer

    pub field_ready : Ready text forms p values bound t.to
    field_ready =
        let r = b.ready in
        record {
          short = r.short;
          within = name.found.within;
          rows = r.rows;
          few = r.few;
          limit = omega (arith, r.limit, name.begun);
          shallow = omega (arith, r.shallow, name.begun);
          texts = omega (arith, b.spare, name.begun, name.room, y.kept.size);
          small = omega (arith, b.spare_small, name.begun, name.room);
        }

    -- the place must come
    to_place
        : (x : Job) (o : PlaceAround)
        → reading x c.begun text (want (field_name place o)) c.at
        ≡ reading x t.to.begun text (want (place_open (in_field place name.bytes o))) t.to.at
    to_place x o =
        text_goes x c.begun (field_name place o) (wants_name place o) name.found refl
        ∙ ap (λ (n : ℕ). reading x n text (want (place_open (in_field place name.bytes o))) t.to.at) (sym name.begun)

    module _ {forms' p' : List ℕ} where
      pub place_refused
          : {r : Refusal} → ReadsPlace left values bound text forms p forms' p' t.to (Err r)
          → ReadsField left values bound text forms p₀ forms' p' place c (Err r)
      place_refused z =
          record {
            answer = λ x o w. to_place x o ∙ z.answer x (in_field place name.bytes o) (in_field_within place name.bytes w);
            sized = record { forms_kept = z.sized.forms_kept; pool_kept = z.sized.pool_kept ∙ y.kept.size };
          }

      module _ {behind : Cursor} (z : ReadsPlace left values bound text forms p forms' p' t.to (Ok behind)) where
        inner : PlaceDone (λ u. place_open u) left values bound text forms p forms' p' t.to.begun t.to behind
        inner = z.answer

        pub behind_ready : Ready text forms' p' values bound behind
        behind_ready =
            ready_at bound behind field_ready z.sized inner.within inner.goes.limit
            (omega (arith, field_ready.shallow, inner.goes.counted)) (omega (arith, inner.room))

        -- the bracket behind it must come
        to_end
            : (x : Job) (o : PlaceAround) → PlaceWithin x o values (suc left) bound
            → reading x c.begun text (want (field_name place o)) c.at
            ≡ reading x behind.begun text (want (Want.place_close (Place.field place name.bytes inner.place) o)) behind.at
        unfolding put_place
        to_end x o w =
            to_place x o ∙ inner.run x (in_field place name.bytes o) (in_field_within place name.bytes w)

        whole_place : Place
        whole_place = Place.field place name.bytes inner.place

        pool_size : length p' ≡ length p₀
        pool_size = z.sized.pool_kept ∙ y.kept.size

        pub field_open
            : {r : Refusal} → ClosesForm text behind (Err r) → ReadsField left values bound text forms p₀ forms' p' place c (Err r)
        unfolding whole_place
        field_open v =
            record {
              answer = λ x o w.
                  to_end x o w
                  ∙ no_end x behind.begun (Want.place_close whole_place o) (closes_place whole_place o) v.answer;
              sized = record { forms_kept = z.sized.forms_kept; pool_kept = pool_size };
            }

        module _ {to : Cursor} (v : ClosesForm text behind (Ok to)) where
          closed : Closed text behind to
          closed = v.answer

          -- bounds for the row
          pub field_bounds
              : (3 * (c.begun - 1) + 3 ≤ length forms') × (3 * (c.begun - 1) ≤ 3 * to.begun) × (to.begun ≤ 32768) × (0 < c.begun) × (place < 65536)
          field_bounds = (
            omega (arith, b.begun, b.ready.limit, b.ready.rows, z.sized.forms_kept),
            omega (arith, b.begun, name.begun, inner.goes.counted, closed.begun),
            omega (arith, closed.begun, inner.goes.limit, b.ready.few),
            b.begun,
            b.near,
          )

          size : ℕ
          size = 3 * to.begun - 3 * (c.begun - 1)

          head : ℕ
          head = head_of 2 0 place size

          held : PlaceRows (take to.top p') bound whole_place (head ∷ t.value ∷ 0 ∷ inner.rows)
          unfolding place_code place_at place_forms whole_place head size
          held =
              let later : Kept p p' t.to.top = inner.goes.kept in
              let sized : size ≡ 3 * place_forms whole_place =
              omega (arith, length_place_rows inner.held, inner.goes.counted, closed.begun, name.begun, b.begun)
              in
              field_rows
              (record {
                word = ap (λ (s : ℕ). head_of 2 0 place s) sized;
                short = omega arith;
                near = b.near;
              })
              (refers_later later to.top (omega (arith, inner.grows, closed.top)) name.refers)
              (subst (λ (n : ℕ). PlaceRows (take n p') bound inner.place inner.rows) (sym closed.top) inner.held)

          pub field_read
              : {forms'' : List ℕ} → forms'' ≡ with_row forms' (c.begun - 1) (head_of 2 0 place (3 * to.begun - 3 * (c.begun - 1))) t.value 0
              → ReadsField left values bound text forms p₀ forms'' p' place c (Ok to)
          unfolding whole_place head size
          field_read {forms''} h =
              let here : c.begun ≡ suc (c.begun - 1) = omega (arith, b.begun) in
              let room = field_bounds.0 in
              record {
                answer =
                    record {
                      place = whole_place;
                      run = λ x o w.
                          to_end x o w
                          ∙ closes_on x behind.begun (Want.place_close whole_place o) (closes_place whole_place o) closed.found
                          ∙ ap (λ (n : ℕ). reading x n text (put_place whole_place o) to.at) (sym closed.begun);
                      rows = head ∷ t.value ∷ 0 ∷ inner.rows;
                      held = held;
                      goes =
                          record {
                            table =
                                ap (λ (s : List ℕ). take (3 * to.begun) s) h
                                ∙ row_put forms' (c.begun - 1) head t.value 0 room forms inner.rows to.begun
                                (omega (arith, here, closed.begun, name.begun, inner.goes.counted))
                                (omega (arith, b.begun, b.ready.limit, b.ready.rows))
                                (ap (λ (n : ℕ). take (3 * n) forms') closed.begun
                                ∙ inner.goes.table
                                ∙ ap (λ (n : ℕ). take (3 * n) forms ++ inner.rows) (name.begun ∙ here));
                            counted = omega (arith, here, closed.begun, name.begun, inner.goes.counted);
                            limit = omega (arith, closed.begun, inner.goes.limit);
                            kept =
                                kept_before y.kept inner.goes.kept name.grows;
                          };
                      ahead = omega (arith, name.found.from, name.found.ahead, inner.ahead, closed.further);
                      within = closed.within;
                      grows = omega (arith, name.grows, inner.grows, closed.top);
                      room =
                          omega (arith, here, name.room, inner.room, closed.top, closed.begun, closed.further, name.begun);
                    };
                sized =
                    record {
                      forms_kept = ap length h ∙ length_with_row forms' (c.begun - 1) head t.value 0 room ∙ z.sized.forms_kept;
                      pool_kept = pool_size;
                    };
              }

-- ---- a place

it_said
    : {w : Bytes} {j : std.Option ℕ} {k : ℕ} → PlaceSays w j → j ≡ Some k → k ≡ 1 → look_word place_words w ≡ some (λ at o. it_index at o)
it_said (says_it e) i h = e
it_said {k} (says_field e) i h = absurd (let m : k ≡ 2 = cc in let z : ⊥ = omega arith in z)
it_said (says_no_place e) i h = absurd (cc)

field_said
    : {w : Bytes} {j : std.Option ℕ} {k : ℕ} → PlaceSays w j → j ≡ Some k → (k ≡ 1 → ⊥) → look_word place_words w ≡ some (λ at o. field_name at o)
field_said {k} (says_it e) i h = absurd (let m : k ≡ 1 = cc in h m)
field_said (says_field e) i h = e
field_said (says_no_place e) i h = absurd (cc)

none_said : {w : Bytes} {j : std.Option ℕ} → PlaceSays w j → j ≡ None → look_word place_words w ≡ none
none_said (says_it e) i = absurd (cc)
none_said (says_field e) i = absurd (cc)
none_said (says_no_place e) i = e

module _
    (left : ℕ) {values bound : ℕ} (c : Cursor) {text : Bytes} {forms p : List ℕ} (r₀ : Ready text forms p values bound c) where
  pub begin_refused
      : {r : Refusal} → BeginsForm text values left c (Err r) → ReadsPlace left values bound text forms p forms p c (Err r)
  begin_refused y =
      record {
        answer = λ x o w.
            y.answer x (place_open o) (place_depth o) (λ q. place_word q o)
            (λ q v. where_some (look_word place_words v) (λ f. go (want (f q o)))) (opens_place o) (λ q. wants_place q o) w.limited;
        sized = record { forms_kept = refl; pool_kept = refl };
      }

  module _ {b : Begun} (worded : WordWasRead text values left c b) where
    -- behind the word
    inside : Cursor
    inside = record { at = b.word.end; begun = c.begun + 1; top = c.top }

    pub behind_word : BehindBracket text forms p values bound b.place (record { at = b.word.end; begun = c.begun + 1; top = c.top })
    behind_word =
        let ahead : c.at + 2 ≤ b.word.end = omega (arith, worded.bracket.ahead, worded.found.from, worded.found.ahead) in
        record {
          ready =
              record {
                short = r₀.short;
                within = worded.found.within;
                rows = r₀.rows;
                few = r₀.few;
                limit = omega (arith, worded.bracket.begun);
                shallow = omega (arith, r₀.shallow);
                texts = omega (arith, r₀.texts);
                small = omega (arith, r₀.small);
              };
          begun = omega arith;
          near = omega (arith, worded.bracket.within, r₀.short);
          spare = omega (arith, r₀.texts);
          spare_small = omega (arith, r₀.small);
        }

    to_word
        : (x : Job) (o : PlaceAround) → PlaceWithin x o values left bound
        → reading x c.begun text (want (place_open o)) c.at ≡ reading x (suc c.begun) text (want (place_word b.place o)) (b.place + 1)
    to_word x o w = worded.bracket.run x (place_open o) (place_depth o) (λ q. place_word q o) (opens_place o) w.limited

    -- behind a word of the table
    to_inside
        : (f : ℕ → PlaceAround → Want) → look_word place_words (word_in text b.word.place b.word.end) ≡ some f → (x : Job) (o : PlaceAround)
        → PlaceWithin x o values left bound
        → reading x c.begun text (want (place_open o)) c.at ≡ reading x inside.begun text (want (f b.place o)) inside.at
    unfolding inside where_some
    to_inside f g x o w =
        to_word x o w
        ∙ word_goes x (suc c.begun) (place_word b.place o) (wants_place b.place o) worded.found (rw g)
        ∙ ap (λ (n : ℕ). reading x n text (want (f b.place o)) b.word.end) (let i : suc c.begun ≡ c.begun + 1 = omega arith in i)

    pub no_place
        : {j : std.Option ℕ} {r : Refusal} → PlaceSays (word_in text b.word.place b.word.end) j → (j ≡ None) × Misplaced r b.word.place
        → ReadsPlace left values bound text forms p forms p c (Err r)
    unfolding where_some
    no_place s h =
        record {
          answer = λ x o w.
              to_word x o w
              ∙ word_misplaced x (suc c.begun) (place_word b.place o) (wants_place b.place o) worded.found (rw (none_said s h.0)) h.1;
          sized = record { forms_kept = refl; pool_kept = refl };
        }

    -- what is read behind the word is what is read from the bracket on
    onward
        : (forms' p' : List ℕ) (f : ℕ → PlaceAround → Want) → look_word place_words (word_in text b.word.place b.word.end) ≡ some f
        → (r : std.Result Cursor Refusal)
        → PlaceAnswer (λ o. f b.place o) left values bound text forms p forms' p' (inside.begun - 1) inside r
        → PlaceAnswer (λ o. place_open o) left values bound text forms p forms' p' c.begun c r
    unfolding inside
    onward forms' p' f g (Ok to) d =
        let first : inside.begun - 1 ≡ c.begun = omega arith in
        record {
          place = d.place;
          run = λ x o w. to_inside f g x o w ∙ d.run x o w;
          rows = d.rows;
          held = d.held;
          goes =
              record {
                table = d.goes.table ∙ ap (λ (n : ℕ). take (3 * n) forms ++ d.rows) first;
                counted = omega (arith, d.goes.counted, first);
                limit = d.goes.limit;
                kept = d.goes.kept;
              };
          ahead = omega (arith, d.ahead, worded.bracket.ahead, worded.found.from, worded.found.ahead);
          within = d.within;
          grows = d.grows;
          room =
              omega (arith, d.room, first, worded.bracket.ahead, worded.found.from, worded.found.ahead);
        }
    onward forms' p' f g (Err r) d = λ x o w. to_inside f g x o w ∙ d x o w

    module _
        {forms' p' : List ℕ} {j : std.Option ℕ} {k : ℕ} {r : std.Result Cursor Refusal} (s : PlaceSays (word_in text b.word.place b.word.end) j)
        (i : j ≡ Some k) where
      pub it_placed
          : k ≡ 1 → ReadsIt values bound text forms p forms' p' b.place (record { at = b.word.end; begun = c.begun + 1; top = c.top }) r
          → ReadsPlace left values bound text forms p forms' p' c r
      unfolding inside
      it_placed h d =
          record {
            answer = onward forms' p' (λ q o. it_index q o) (it_said s i h) r (d.answer left);
            sized = d.sized;
          }

      pub field_placed
          : (k ≡ 1 → ⊥)
          → ReadsField (left - 1) values bound text forms p forms' p' b.place (record { at = b.word.end; begun = c.begun + 1; top = c.top }) r
          → ReadsPlace left values bound text forms p forms' p' c r
      unfolding inside
      field_placed h d =
          let deep : suc (left - 1) ≡ left = omega (arith, worded.bracket.nested) in
          record {
            answer =
                onward forms' p' (λ q o. field_name q o) (field_said s i h) r
                (subst
                (λ (n : ℕ). PlaceAnswer (λ o. field_name b.place o) n values bound text forms p forms' p' (inside.begun - 1) inside r)
                deep d.answer);
            sized = d.sized;
          }
