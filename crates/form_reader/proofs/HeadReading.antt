-- Answers for what a result begins with. Assumes nothing.
use Prim.Native.Nat.{ℕ, suc, ◌+◌, ◌-◌, ◌*◌, ◌≤◌, ◌<◌}
use mathlib.Core.Path.{◌≡◌, refl, sym, ap, ◌∙◌, subst}
use mathlib.Core.Logic.{⊎_elim}
use mathlib.Core.List.{List, [], ◌++◌, append-nil}
use native.Mathlib.Omega.{arith}
use lib.ListN.{length, take, drop, length-drop}
use lib.Seq.{length-take-le}
use Rattle.definitions.specs.Bytes.{Bytes}
use Rattle.definitions.specs.Tokens.{go, where_some, look_word, want_named}
use Rattle.definitions.specs.Reader.{Place, Around, in_result, PlaceUse, place_open, result_open, result_word, want, put_place, depth, place_depth}
use Rattle.definitions.specs.Reader.{place_bindings, result_words, want_step}
use Rattle.forms.specs.Forms.{PlaceRows}
use Rattle.tokens.specs.TokenRead.{word_in}
use Rattle.tokens.specs.Expecting.{Kept}
use Rattle.std.specs.Prelude as std
use Rattle.std.specs.Prelude.{Some, None, Ok, Err}
use Rattle.reading.specs.declared.Cursor.{Cursor}
use Rattle.reading.specs.declared.Refusal.{Refusal}
use Rattle.form_reader.specs.declared.opening.Begun.{Begun}
use Rattle.form_reader.specs.declared.operands.Operand.{Operand}
use Rattle.form_reader.specs.declared.heads.Worded.{Worded}
use Rattle.form_reader.specs.declared.heads.Headed.{Headed}
use Rattle.form_reader.specs.FormWords.{use_code, use_operand, ResultSays}
use Rattle.form_reader.specs.FormLeads.{Lead, next, LeadHeld, place_held, if_held, pack_held, literal_held, Half, placing, bare, after}
use Rattle.form_reader.specs.FormLeads.{HalfHeld, placing_held, bare_if, bare_pack, bare_literal}
use Rattle.tokens.specs.Expecting.{TextPlaced}
use Rattle.form_reader.specs.FormParts.{Job, reading, Within, PlaceWithin, Ready, OpensAt, WantsWord, WordWasRead}
use Rattle.form_reader.specs.FormParts.{BeginsForm, OperandRead, ReadsOperand, PlaceDone, ReadsPlace}
use Rattle.form_reader.specs.FormParts.{ResultBegun, BeginsResult, HeadRead, ReadsHead, ReadsLead}
use Rattle.form_reader.proofs.WordTables.{result_none, Known, result_some}
use Rattle.form_reader.proofs.Steps.{Misplaced, word_goes, word_misplaced}
use Rattle.form_reader.proofs.PoolGrowth.{kept_before}

-- ---- the bracket and the word

opens_result : (o : Around) → OpensAt (result_open o) (depth o) (λ p. result_word p o)
unfolding want_step
opens_result o = record { does = λ t. refl }

wants_result : (at : ℕ) (o : Around) → WantsWord (result_word at o) (λ w. where_some (look_word result_words w) (λ f. go (want (f at o))))
unfolding want_step want_named
wants_result at o = record { does = λ t. refl }

length_word : (text : Bytes) (at end : ℕ) → at ≤ end → end ≤ length text → length (word_in text at end) ≡ end - at
unfolding word_in
length_word text at end h l = length-take-le (end - at) (drop at text) (omega (arith, length-drop at text))

module _ (values left : ℕ) (c : Cursor) {text : Bytes} where
  pub result_refused : {r : Refusal} → BeginsForm text values left c (Err r) → BeginsResult text values left c (Err r)
  result_refused y =
      record {
        answer = λ x o w.
            y.answer x (result_open o) (depth o) (λ q. result_word q o)
            (λ q v. where_some (look_word result_words v) (λ f. go (want (f q o)))) (opens_result o) (λ q. wants_result q o) w;
      }

  module _ {b : Begun} (worded : WordWasRead text values left c b) {j : std.Option ℕ} (s : ResultSays (word_in text b.word.place b.word.end) j) where
    pub result_unknown : {r : Refusal} → (j ≡ None) × Misplaced r b.word.place → BeginsResult text values left c (Err r)
    unfolding where_some
    result_unknown i =
        record {
          answer = λ x o w.
              worded.bracket.run x (result_open o) (depth o) (λ q. result_word q o) (opens_result o) w
              ∙ word_misplaced x (suc c.begun) (result_word b.place o) (wants_result b.place o) worded.found (rw (result_none s i.0)) i.1;
        }

    pub result_known
        : {k : ℕ} → j ≡ Some k
        → BeginsResult text values left c
        (Ok (record { code = k; place = b.place; to = record { at = b.word.end; begun = c.begun + 1; top = c.top } }))
    unfolding where_some
    result_known {k} i =
        let known : Known (word_in text b.word.place b.word.end) k = result_some s i in
        let f = worded.found in
        let long = length_word text b.word.place b.word.end (omega (arith, f.ahead)) f.within in
        record {
          answer =
              record {
                behind = known.behind;
                started = known.started;
                run = λ x o w.
                    worded.bracket.run x (result_open o) (depth o) (λ q. result_word q o) (opens_result o) w
                    ∙ word_goes x (suc c.begun) (result_word b.place o) (wants_result b.place o) f (rw known.found)
                    ∙ ap (λ (n : ℕ). reading x n text (want (known.behind b.place o)) b.word.end) (let j : suc c.begun ≡ c.begun + 1 = omega arith in j);
                begun = omega arith;
                top = refl;
                ahead = omega (arith, worded.bracket.ahead, f.from, f.ahead);
                longer = λ j. omega (arith, worded.bracket.ahead, f.from, f.ahead, known.longer j, long);
                within = f.within;
                near = worded.bracket.within;
                limit = worded.bracket.begun;
                nested = worded.bracket.nested;
              };
        }

-- ---- the operand

module _ (values left : ℕ) (c : Cursor) {text : Bytes} (p : List ℕ) where
  pub head_refused : {r : Refusal} → BeginsResult text values left c (Err r) → ReadsHead text p p values left c (Err r)
  head_refused y = record { answer = y.answer; kept = record { size = refl; front = refl } }

  module _ {w : Worded} (y : BeginsResult text values left c (Ok w)) where
    begun : ResultBegun text values left c w.code w.place w.to
    begun = y.answer

    pub operand_room : TextPlaced text p c.at c.top → TextPlaced text p w.to.at w.to.top
    operand_room r =
        record {
          short = r.short;
          within = begun.within;
          texts = omega (arith, r.texts, begun.top, begun.ahead);
          small = omega (arith, r.small, begun.top, begun.ahead);
        }

    module _ {p' : List ℕ} where
      all_kept : Kept p p' w.to.top → Kept p p' c.top
      all_kept k = subst (Kept p p') begun.top k

      pub operand_refused
          : {r : Refusal} → ReadsOperand text p p' w.code w.to (Err r) → ReadsHead text p p' values left c (Err r)
      operand_refused z =
          record {
            answer = λ x o v. begun.run x o v ∙ z.answer begun.behind begun.started x w.to.begun w.place o;
            kept = all_kept z.kept;
          }

      pub head_read
          : {n : Operand} → ReadsOperand text p p' w.code w.to (Ok n)
          → ReadsHead text p p' values left c
          (Ok (record { row = record { code = w.code; operand = n.operand; place = w.place; size = 0; payload = n.payload; name = 0 }; to = n.to }))
      head_read {n} z =
          let d : OperandRead begun.behind w.code text p' w.to n.operand n.payload n.to = z.answer begun.behind begun.started in
          record {
            answer =
                record {
                  half = d.half;
                  run = λ x o v.
                      begun.run x o v
                      ∙ d.run x w.to.begun w.place o
                      ∙ ap (λ (m : ℕ). reading x m text (want (after d.half w.place o)) n.to.at) (sym d.begun);
                  held = d.held;
                  begun = d.begun ∙ begun.begun;
                  ahead = omega (arith, begun.ahead, d.ahead);
                  within = d.within;
                  grows = omega (arith, begun.top, d.grows);
                  room = ⊎_elim (λ j. omega (arith, begun.top, begun.ahead, d.ahead)) (λ j. omega (arith, begun.top, begun.longer j, d.room)) d.bare;
                  bare = λ k.
                      ⊎_elim (λ j. omega (arith, begun.top, begun.ahead, d.ahead)) (λ j. absurd (let q : ⊥ = omega arith in q)) d.bare;
                  near = begun.near;
                  limit = begun.limit;
                  nested = begun.nested;
                };
            kept = all_kept z.kept;
          }

-- ---- the place

-- a result of a lower code has a place
record Placing (p : List ℕ) (h : Half) (code operand payload : ℕ) : Type 0 where
  with_use : PlaceUse
  same : h ≡ placing with_use
  coded : code ≡ use_code with_use
  tested : operand ≡ use_operand with_use
  empty : payload ≡ 0

half_placing : {p : List ℕ} {h : Half} {code operand payload : ℕ} → HalfHeld p h code operand payload → code < 11 → Placing p h code operand payload
half_placing (placing_held {u} l) i = record { with_use = u; same = refl; coded = refl; tested = refl; empty = refl }
half_placing bare_if i = absurd (let z : ⊥ = omega arith in z)
half_placing bare_pack i = absurd (let z : ⊥ = omega arith in z)
half_placing (bare_literal l s m) i = absurd (let z : ⊥ = omega arith in z)

lead_of
    : {p : List ℕ} {d : ℕ} {u : PlaceUse} {q : Place} {rs : List ℕ} {code operand payload : ℕ} → code ≡ use_code u
    → operand ≡ use_operand u → payload ≡ 0 → PlaceRows p d q rs → LeadHeld p d (Lead.with_place u q) code operand payload rs
lead_of e f g r = rw e (rw f (rw g (place_held r)))

-- any other has none
record Bare (p : List ℕ) (d : ℕ) (h : Half) (code operand payload : ℕ) : Type 0 where
  lead : Lead
  same : h ≡ bare lead
  held : LeadHeld p d lead code operand payload []

half_bare
    : {p : List ℕ} {h : Half} {code operand payload : ℕ} (d : ℕ) → HalfHeld p h code operand payload → 11 ≤ code
    → Bare p d h code operand payload
half_bare d (placing_held {u} l) i = absurd (let z : ⊥ = omega arith in z)
half_bare d bare_if i = record { lead = Lead.choosing; same = refl; held = if_held }
half_bare d bare_pack i = record { lead = Lead.packing; same = refl; held = pack_held }
half_bare d (bare_literal {v} l s m) i = record { lead = Lead.saying v; same = refl; held = literal_held l s }

in_result_within
    : {x : Job} {o : Around} {values left bound : ℕ} (at : ℕ) (u : PlaceUse) → 0 < left → Within x o values left bound
    → PlaceWithin x (in_result at u o) values (left - 1) bound
unfolding place_depth place_bindings
in_result_within at u h w =
    record { limited = record { most = w.limited.most; nests = omega (arith, w.limited.nests) }; bindings = w.bindings }

module _
    (left : ℕ) {values bound : ℕ} (c : Cursor) {text : Bytes} {forms p₀ p : List ℕ} (r₀ : Ready text forms p₀ values bound c) where
  pub lead_refused
      : {r : Refusal} → ReadsHead text p₀ p values left c (Err r) → ReadsLead left values bound text forms p₀ forms p c (Err r)
  lead_refused y =
      record {
        answer = λ x o w. y.answer x o w.limited;
        sized = record { forms_kept = refl; pool_kept = y.kept.size };
      }

  module _ {h : Headed} (y : ReadsHead text p₀ p values left c (Ok h)) where
    head : HeadRead text p values left c h.row h.to
    head = y.answer

    -- none comes
    pub lead_bare : 11 ≤ h.row.code → ReadsLead left values bound text forms p₀ forms p c (Ok h)
    unfolding after
    lead_bare i =
        let d = half_bare bound head.held i in
        record {
          answer =
              record {
                lead = d.lead;
                run = λ x o w.
                    head.run x o w.limited
                    ∙ ap (λ (f : Half). reading x h.to.begun text (want (after f h.row.place o)) h.to.at) d.same;
                rows = [];
                held = d.held;
                goes =
                    record {
                      table =
                          ap (λ (n : ℕ). take (3 * n) forms) head.begun ∙ sym (append-nil (take (3 * suc c.begun) forms));
                      counted = omega (arith, head.begun);
                      limit = omega (arith, head.begun, head.limit);
                      kept = y.kept;
                    };
                ahead = head.ahead;
                within = head.within;
                grows = head.grows;
                room = omega (arith, head.room, head.begun);
                bare = λ k. omega (arith, head.bare k, head.begun);
                near = head.near;
                nested = head.nested;
              };
          sized = record { forms_kept = refl; pool_kept = y.kept.size };
        }

    pub place_ready : Ready text forms p values bound h.to
    place_ready =
        record {
          short = r₀.short;
          within = head.within;
          rows = r₀.rows;
          few = r₀.few;
          limit = omega (arith, head.begun, head.limit);
          shallow = omega (arith, r₀.shallow, head.begun);
          texts = omega (arith, r₀.texts, y.kept.size, head.room, head.begun);
          small = omega (arith, r₀.small, head.room, head.begun);
        }

    module _ (i : h.row.code < 11) where
      to_place
          : (x : Job) (o : Around) → Within x o values left bound
          → reading x c.begun text (want (result_open o)) c.at
          ≡ reading x h.to.begun text (want (place_open (in_result h.row.place (half_placing head.held i).with_use o))) h.to.at
      unfolding after
      to_place x o w =
          head.run x o w.limited
          ∙ ap (λ (f : Half). reading x h.to.begun text (want (after f h.row.place o)) h.to.at) (half_placing head.held i).same

      pub lead_place_refused
          : {forms' p' : List ℕ} {r : Refusal} → ReadsPlace (left - 1) values bound text forms p forms' p' h.to (Err r)
          → ReadsLead left values bound text forms p₀ forms' p' c (Err r)
      lead_place_refused z =
          record {
            answer = λ x o w.
                to_place x o w
                ∙ z.answer x (in_result h.row.place (half_placing head.held i).with_use o)
                (in_result_within h.row.place (half_placing head.held i).with_use head.nested w);
            sized = record { forms_kept = z.sized.forms_kept; pool_kept = z.sized.pool_kept ∙ y.kept.size };
          }

      pub lead_placed
          : {forms' p' : List ℕ} {to : Cursor} → ReadsPlace (left - 1) values bound text forms p forms' p' h.to (Ok to)
          → ReadsLead left values bound text forms p₀ forms' p' c (Ok (record { row = h.row; to = to }))
      unfolding put_place next
      lead_placed {forms'} {p'} {to} z =
          let d : PlaceDone (λ v. place_open v) (left - 1) values bound text forms p forms' p' h.to.begun h.to to = z.answer in
          let u = half_placing head.held i in
          record {
            answer =
                record {
                  lead = Lead.with_place u.with_use d.place;
                  run = λ x o w.
                      to_place x o w
                      ∙ d.run x (in_result h.row.place u.with_use o) (in_result_within h.row.place u.with_use head.nested w);
                  rows = d.rows;
                  held = lead_of u.coded u.tested u.empty d.held;
                  goes =
                      record {
                        table = d.goes.table ∙ ap (λ (n : ℕ). take (3 * n) forms ++ d.rows) head.begun;
                        counted = omega (arith, d.goes.counted, head.begun);
                        limit = d.goes.limit;
                        kept = kept_before y.kept d.goes.kept head.grows;
                      };
                  ahead = omega (arith, head.ahead, d.ahead);
                  within = d.within;
                  grows = omega (arith, head.grows, d.grows);
                  room = omega (arith, head.room, head.begun, d.room);
                  bare = λ k. absurd (let m : ⊥ = omega arith in m);
                  near = head.near;
                  nested = head.nested;
                };
            sized = record { forms_kept = z.sized.forms_kept; pool_kept = z.sized.pool_kept ∙ y.kept.size };
          }
