-- Answers for results: the results inside one, one after the other, and the row that stands before their rows. Assumes nothing.
use Prim.Native.Nat.{ℕ, suc, ◌+◌, ◌-◌, ◌*◌, ◌≤◌, ◌<◌}
use mathlib.Core.Path.{◌≡◌, refl, sym, ap, ◌∙◌, subst}
use mathlib.Core.Bool.{Bool, true, false}
use mathlib.Core.Logic.{⊎_elim}
use mathlib.Core.List.{List, [], ◌∷◌, ◌++◌, append_assoc, append-nil}
use native.Mathlib.Omega.{arith}
use lib.Dec.{eqb}
use lib.ListN.{length, take, length-append}
use lib.Seq.{take-take, take-append-le, length-take-le}
use Rattle.definitions.specs.Bytes.{Bytes}
use Rattle.definitions.specs.Reader.{Result, Pairs, no_pairs, pair, Around, in_form, PlaceUse, converts, keeps, counts, maps, tests, Frame}
use Rattle.definitions.specs.Reader.{result_open, want, put_result, depth, bindings, Want}
use Rattle.laws.specs.FormGrammar.{result_forms}
use Rattle.laws.specs.Bools.{tell}
use Rattle.laws.specs.Tests.{eqb_eq, eqb_ne}
use Rattle.forms.specs.Forms.{head_of, FormRows}
use Rattle.forms.specs.FormsLaws.{length_form_rows}
use Rattle.tokens.specs.Expecting.{Kept}
use Rattle.std.specs.Prelude as std
use Rattle.std.specs.Prelude.{Ok, Err}
use Rattle.reading.specs.declared.Cursor.{Cursor}
use Rattle.reading.specs.declared.Refusal.{Refusal}
use Rattle.form_reader.specs.declared.heads.Headed.{Headed}
use Rattle.form_reader.specs.declared.parts.Turn.{Turn}
use Rattle.form_reader.specs.declared.parts.Turn.TheVariants.{More, End}
use Rattle.form_reader.specs.FormWords.{use_operand}
use Rattle.form_reader.specs.FormLeads.{Lead, lead_code, named, parts_of, inner_bound, Filled, whole, LeadHeld, place_held, if_held}
use Rattle.form_reader.specs.FormLeads.{pack_held, literal_held, NameWord, PartsBefore, none_before, part_before}
use Rattle.form_reader.specs.FormParts.{Job, reading, Within, Ready, Goes, Sized, SoFar, debt, TurnIs, PartsKnown, Turns, LeadRead}
use Rattle.form_reader.specs.FormParts.{ReadsLead, PartsReady, ResultDone, ReadsResult, PartsDone}
use Rattle.form_reader.specs.FormParts.{ReadsParts, PartBegun, TurnAnswer, PartsGone}
use Rattle.nodes.specs.RowLaws.{with_row, length_with_row, row_put}
use Rattle.form_reader.proofs.PoolGrowth.{refers_later, place_rows_later, form_rows_later}
use Rattle.form_reader.proofs.PoolGrowth.{literal_payload_later, kept_before}
use Rattle.form_reader.proofs.PlaceReading.{ready_placed, ready_at}
use Rattle.form_reader.proofs.LeadLaws.{inner_le, start_filled, test_small, whole_rows, held_code, literal_code_lt, use_code_lt, debt_le, debt_none}

-- ---- going on

goes_then
    : {values : ℕ} {s p s' p' s'' p'' : List ℕ} {first : ℕ} {a b c : Cursor} {rs qs : List ℕ} → Goes values s p s' p' first a b rs
    → Goes values s' p' s'' p'' b.begun b c qs → a.top ≤ b.top → Goes values s p s'' p'' first a c (rs ++ qs)
goes_then {s} {first} {rs} {qs} g h l =
    record {
      table = h.table ∙ ap (λ (t : List ℕ). t ++ qs) g.table ∙ append_assoc (take (3 * first) s) rs qs;
      counted = omega (arith, g.counted, h.counted, length-append rs qs);
      limit = h.limit;
      kept = kept_before g.kept h.kept l;
    }

sized_then : {s p s' p' s'' p'' : List ℕ} → Sized s p s' p' → Sized s' p' s'' p'' → Sized s p s'' p''
sized_then a b = record { forms_kept = b.forms_kept ∙ a.forms_kept; pool_kept = b.pool_kept ∙ a.pool_kept }

-- no row more, and the pool kept
goes_on_alone
    : {values : ℕ} {s p s' p' p'' : List ℕ} {first : ℕ} {a b : Cursor} {rs : List ℕ} (u : Cursor) → Goes values s p s' p' first a b rs
    → Kept p' p'' b.top → a.top ≤ b.top → u.begun ≡ b.begun → Goes values s p s' p'' first a u rs
goes_on_alone {s} {s'} {first} {rs} u g k l e =
    record {
      table = ap (λ (n : ℕ). take (3 * n) s') e ∙ g.table;
      counted = omega (arith, g.counted, e);
      limit = omega (arith, g.limit, e);
      kept = kept_before g.kept k l;
    }

-- the rows before are those that were there
front_rows
    : (s s' rs : List ℕ) (first n : ℕ) → first ≤ n → 3 * first ≤ length s → take (3 * n) s' ≡ take (3 * first) s ++ rs
    → take (3 * first) s' ≡ take (3 * first) s
front_rows s s' rs first n h l e =
    sym (take-take (3 * first) (3 * n) s' (omega arith))
    ∙ ap (λ (t : List ℕ). take (3 * first) t) e
    ∙ take-append-le (3 * first) (take (3 * first) s) rs (omega (arith, length-take-le (3 * first) s l))
    ∙ take-take (3 * first) (3 * first) s (omega arith)

parts_later
    : {p p' : List ℕ} {a d : ℕ} {b : Bool} {ps : Pairs} {rs : List ℕ} → Kept p p' a → (n : ℕ) → a ≤ n → PartsBefore (take a p) d b ps rs
    → PartsBefore (take n p') d b ps rs
parts_later k n h none_before = none_before
parts_later {b = true} k n h (part_before q w f) = part_before (parts_later k n h q) (refers_later k n h w) (form_rows_later k n h f)
parts_later {b = false} k n h (part_before q w f) = part_before (parts_later k n h q) w (form_rows_later k n h f)

word_later : {p p' : List ℕ} {a : ℕ} (b : Bool) (t : Bytes) (w : ℕ) → Kept p p' a → (n : ℕ) → a ≤ n → NameWord (take a p) b t w → NameWord (take n p') b t w
word_later true t w k n h x = refers_later k n h x
word_later false t w k n h x = x

lead_later
    : {p p' : List ℕ} {a d code operand payload : ℕ} {lead : Lead} {rs : List ℕ} → Kept p p' a → (n : ℕ) → a ≤ n
    → LeadHeld (take a p) d lead code operand payload rs → LeadHeld (take n p') d lead code operand payload rs
lead_later k n h (place_held r) = place_held (place_rows_later k n h r)
lead_later k n h if_held = if_held
lead_later k n h pack_held = pack_held
lead_later k n h (literal_held x s) = literal_held (literal_payload_later k n h x) s

-- ---- the results inside a result

module _
    {left values bound code : ℕ} (c : Cursor) {text : Bytes} {s₀ p₀ : List ℕ} (r₀ : PartsReady text s₀ p₀ values bound code c) where
  -- before the first of them
  pub none_gone
      : {n : ℕ} (lead : Lead) → lead_code lead ≡ code → n ≡ parts_of code → PartsGone lead left values bound text s₀ p₀ s₀ p₀ c c n
  none_gone lead e f =
      record {
        parts = no_pairs;
        filled =
            subst (λ (k : ℕ). Filled lead no_pairs k) (sym f) (subst (λ (k : ℕ). Filled lead no_pairs (parts_of k)) e (start_filled lead));
        read =
            record {
              run = λ x at o w. refl;
              rows = [];
              held = none_before;
              goes =
                  record {
                    table = sym (append-nil (take (3 * c.begun) s₀));
                    counted = omega arith;
                    limit = r₀.ready.limit;
                    kept = record { size = refl; front = refl };
                  };
              ahead = omega arith;
              within = r₀.ready.within;
              grows = omega arith;
            };
        room = omega arith;
        sized = record { forms_kept = refl; pool_kept = refl };
      }

  -- behind some of them
  module _
      {lead : Lead} (e₀ : lead_code lead ≡ code) {s p : List ℕ} {to : Cursor} {more : ℕ}
      (g : PartsGone lead left values bound text s₀ p₀ s p c to more) where
    so_far : SoFar s (take to.top p) c.begun to.begun lead g.parts
    so_far =
        let r = g.read in
        record {
          bound = inner_bound (lead_code lead) bound;
          rows = r.rows;
          held = r.held;
          table =
              r.goes.table
              ∙ ap (λ (t : List ℕ). t ++ r.rows)
              (sym
              (front_rows s₀ s r.rows c.begun to.begun (omega (arith, r.goes.counted)) (omega (arith, r₀.ready.limit, r₀.ready.rows))
              r.goes.table));
          counted = r.goes.counted;
          inside = omega (arith, r.goes.limit, r₀.ready.rows, g.sized.forms_kept);
        }

    pub next_known : PartsKnown text s p code more c.begun to
    next_known =
        record {
          placed =
              ready_placed
              (ready_at bound to r₀.ready g.sized g.read.within g.read.goes.limit
              (omega (arith, r₀.ready.shallow, g.read.goes.counted)) g.room);
          few = omega (arith, g.read.goes.limit, r₀.ready.few);
          lead = lead;
          coded = e₀;
          pairs = g.parts;
          filled = g.filled;
          so_far = so_far;
        }

    module _ {p' : List ℕ} {t : std.Result Turn Refusal} (z : Turns text s p p' code more c.begun to t) where
      turn_is : TurnIs lead g.parts text p' to t
      turn_is = z.answer lead g.parts e₀ g.filled so_far

      pub turned : TurnAnswer lead left values bound text s₀ p₀ s p' c t
      turned = pick t turn_is
        where
          then_sized : Sized s₀ p₀ s p'
          then_sized = sized_then g.sized (record { forms_kept = refl; pool_kept = z.kept.size })

          on : (u : Cursor) → u.begun ≡ to.begun → Goes values s₀ p₀ s p' c.begun c u g.read.rows
          on u k = goes_on_alone u g.read.goes z.kept g.read.grows k

          pick : (u : std.Result Turn Refusal) → TurnIs lead g.parts text p' to u → TurnAnswer lead left values bound text s₀ p₀ s p' c u
          pick (Ok (More u n k)) a =
              record {
                bytes = a.bytes;
                frame = a.frame;
                parts = g.parts;
                read =
                    record {
                      run = λ x at o w.
                          g.read.run x at o w
                          ∙ a.run x to.begun at o
                          ∙ ap (λ (j : ℕ). reading x j text (want (result_open (in_form at a.frame o))) u.at) (sym a.begun);
                      rows = g.read.rows;
                      held = parts_later z.kept u.top a.grows g.read.held;
                      goes = on u a.begun;
                      ahead = omega (arith, g.read.ahead, a.ahead);
                      within = a.within;
                      grows = omega (arith, g.read.grows, a.grows);
                    };
                then = a.then;
                filled = a.filled;
                binding = λ at o j. a.binding at bound o j;
                word = a.word;
                room = omega (arith, g.room, a.room, a.begun);
                sized = then_sized;
              }
          pick (Ok (End u)) a =
              record {
                answer =
                    record {
                      parts = g.parts;
                      filled = a.filled;
                      read =
                          record {
                            run = λ x at o w.
                                g.read.run x at o w
                                ∙ a.run x to.begun at o
                                ∙ ap (λ (j : ℕ). reading x j text (put_result (whole at lead g.parts) o) u.at) (sym a.begun);
                            rows = g.read.rows;
                            held = parts_later z.kept u.top (omega (arith, a.top)) g.read.held;
                            goes = on u a.begun;
                            ahead = omega (arith, g.read.ahead, a.further);
                            within = a.within;
                            grows = omega (arith, g.read.grows, a.top);
                          };
                      room = omega (arith, g.room, a.top, a.begun, a.further);
                      further = omega (arith, g.read.ahead, a.further);
                    };
                sized = then_sized;
              }
          pick (Err r) a = record { answer = λ x at o w. g.read.run x at o w ∙ a x to.begun at o; sized = then_sized }

    -- the next one, and where it begins
    module _
        {p' : List ℕ} {t : Turn} {from : Cursor} {name others : ℕ} (z : Turns text s p p' code more c.begun to (Ok t))
        (i : t ≡ More from name others) where
      at_more : Turns text s p p' code more c.begun to (Ok (More from name others))
      at_more = subst (λ (u : Turn). Turns text s p p' code more c.begun to (Ok u)) i z

      pub part_begun : PartBegun lead left values bound text s₀ p₀ s p' c from name others
      part_begun = turned at_more

      pub part_ahead : to.at ≤ from.at
      part_ahead = (turn_is at_more).ahead

in_part
    : {x : Job} {o : Around} {values left bound inner : ℕ} (at : ℕ) (f : Frame) → Within x o values (suc left) bound
    → bindings (in_form at f o) ≡ inner → Within x (in_form at f o) values left inner
unfolding depth
in_part at f w e = record { limited = record { most = w.limited.most; nests = omega (arith, w.limited.nests) }; bindings = e }

-- one of them, which must come
module _
    {left values bound code name more inner : ℕ} (lead : Lead) (c from : Cursor) {text : Bytes} {s₀ p₀ s p : List ℕ}
    (r₀ : PartsReady text s₀ p₀ values bound code c) (e₀ : lead_code lead ≡ code) (e₁ : inner ≡ inner_bound code bound)
    (m : PartBegun lead left values bound text s₀ p₀ s p c from name more) where
  pub part_ready : Ready text s p values inner from
  part_ready = ⊎_elim pack other (tell (eqb code 17))
    where
      further : c.begun ≤ from.begun
      further = omega (arith, m.read.goes.counted)

      build
          : 8 * from.top + length text + 5 * values ≤ 8 * length p + from.at + 5 * from.begun + 1
          → 8 * from.top + length text + 5 * values < 524288 + from.at + 5 * from.begun
          → Ready text s p values inner from
      build a b =
          record {
            short = r₀.ready.short;
            within = m.read.within;
            rows = omega (arith, r₀.ready.rows, m.sized.forms_kept);
            few = r₀.ready.few;
            limit = m.read.goes.limit;
            shallow = omega (arith, r₀.inner, further, e₁);
            texts = a;
            small = b;
          }

      pack : eqb code 17 ≡ true → Ready text s p values inner from
      pack h =
          build (omega (arith, r₀.spare (eqb_eq h), m.room, debt_le lead, m.sized.pool_kept))
          (omega (arith, r₀.spare_small (eqb_eq h), m.room, debt_le lead))

      other : eqb code 17 ≡ false → Ready text s p values inner from
      other h =
          let free : debt lead ≡ 0 = debt_none lead (λ i. eqb_ne h (sym e₀ ∙ i)) in
          build (omega (arith, r₀.ready.texts, m.room, m.sized.pool_kept)) (omega (arith, r₀.ready.small, m.room))

  within_part
      : (x : Job) (at : ℕ) (o : Around) → Within x o values (suc left) bound
      → Within x (in_form at m.frame o) values left inner
  within_part x at o w =
      in_part at m.frame w (m.binding at o w.bindings ∙ ap (λ (k : ℕ). inner_bound k bound) e₀ ∙ sym e₁)

  pub part_refused
      : {s' p' : List ℕ} {r : Refusal} → ReadsResult left values inner text s p s' p' name from (Err r)
      → ReadsParts lead left values bound text s₀ p₀ s' p' c (Err r)
  part_refused y =
      record {
        answer = λ x at o w. m.read.run x at o w ∙ y.answer x (in_form at m.frame o) (within_part x at o w);
        sized = sized_then m.sized y.sized;
      }

  module _ {s' p' : List ℕ} {to : Cursor} (y : ReadsResult left values inner text s p s' p' name from (Ok to)) where
    part_done : ResultDone left values inner text s p s' p' name from to
    part_done = y.answer

    parts : Pairs
    parts = pair m.bytes part_done.form m.parts

    -- it has been read
    pub part_gone : PartsGone lead left values bound text s₀ p₀ s' p' c to more
    unfolding put_result parts
    part_gone =
        let d = part_done in
        record {
          parts = parts;
          filled = m.filled d.form;
          read =
              record {
                run = λ x at o w.
                    m.read.run x at o w
                    ∙ d.run x (in_form at m.frame o) (within_part x at o w)
                    ∙ ap (λ (k : Want). reading x to.begun text (want k) to.at) (m.then d.form at o);
                rows = m.read.rows ++ d.rows;
                held =
                    part_before (parts_later d.goes.kept to.top d.grows m.read.held)
                    (word_later (named lead) m.bytes name d.goes.kept to.top d.grows m.word)
                    (subst (λ (k : ℕ). FormRows (take to.top p') k name d.form d.rows)
                    (e₁ ∙ ap (λ (k : ℕ). inner_bound k bound) (sym e₀)) d.held);
                goes = goes_then m.read.goes d.goes m.read.grows;
                ahead = omega (arith, m.read.ahead, d.further);
                within = d.within;
                grows = omega (arith, m.read.grows, d.grows);
              };
          room = omega (arith, m.room, d.room, debt_le lead);
          sized = sized_then m.sized y.sized;
        }

    pub part_further : from.at < to.at
    part_further = part_done.further

    pub part_within : to.at ≤ length text
    part_within = part_done.within

-- ---- a result

use_operand_lt : (u : PlaceUse) → use_operand u < 64
unfolding use_operand
use_operand_lt (converts t) = omega arith
use_operand_lt keeps = omega arith
use_operand_lt counts = omega arith
use_operand_lt maps = omega arith
use_operand_lt (tests k) = test_small k

held_small
    : {p : List ℕ} {d code operand payload : ℕ} {lead : Lead} {rs : List ℕ} → LeadHeld p d lead code operand payload rs
    → (code < 32) × (operand < 64)
held_small (place_held {u} r) = (omega (arith, use_code_lt u), use_operand_lt u)
held_small if_held = (omega arith, omega arith)
held_small pack_held = (omega arith, omega arith)
held_small (literal_held {v} x s) = (omega (arith, literal_code_lt v), s)

nested_left : {x : Job} {o : Around} {values left bound : ℕ} → 0 < left → Within x o values left bound → Within x o values (suc (left - 1)) bound
nested_left h w =
    record { limited = record { most = w.limited.most; nests = omega (arith, w.limited.nests) }; bindings = w.bindings }

module _
    {left values bound : ℕ} (name : ℕ) (c : Cursor) {text : Bytes} {forms p₀ s p : List ℕ} (r₀ : Ready text forms p₀ values bound c) where
  pub head_refused
      : {r : Refusal} → ReadsLead left values bound text forms p₀ s p c (Err r)
      → ReadsResult left values bound text forms p₀ s p name c (Err r)
  head_refused y = record { answer = y.answer; sized = y.sized }

  module _ {h : Headed} (y : ReadsLead left values bound text forms p₀ s p c (Ok h)) where
    led : LeadRead left values bound text forms p₀ s p c h.row h.to
    led = y.answer

    pub parts_ready : PartsReady text s p values bound h.row.code h.to
    parts_ready =
        let more : c.begun + 1 ≤ h.to.begun = omega (arith, led.goes.counted) in
        record {
          ready =
              ready_at bound h.to r₀ y.sized led.within led.goes.limit (omega (arith, r₀.shallow)) (omega (arith, led.room));
          lead = led.lead;
          coded = held_code led.held;
          inner = omega (arith, (inner_le h.row.code bound).1, r₀.shallow);
          spare = λ k. omega (arith, led.bare k, r₀.texts, y.sized.pool_kept);
          spare_small = λ k. omega (arith, led.bare k, r₀.small);
        }

    pub parts_refused
        : {s' p' : List ℕ} {r : Refusal}
        → ((l : Lead) → lead_code l ≡ h.row.code → ReadsParts l (left - 1) values bound text s p s' p' h.to (Err r))
        → ReadsResult left values bound text forms p₀ s' p' name c (Err r)
    parts_refused z =
        let of_lead = z led.lead (held_code led.held) in
        record {
          answer = λ x o w. led.run x o w ∙ of_lead.answer x h.row.place o (nested_left led.nested w);
          sized = sized_then y.sized of_lead.sized;
        }

    module _
        {s' p' : List ℕ} {to : Cursor}
        (z : (l : Lead) → lead_code l ≡ h.row.code → ReadsParts l (left - 1) values bound text s p s' p' h.to (Ok to)) where
      of_lead : ReadsParts led.lead (left - 1) values bound text s p s' p' h.to (Ok to)
      of_lead = z led.lead (held_code led.held)

      all_kept : Sized forms p₀ s' p'
      all_kept = sized_then y.sized of_lead.sized

      done : PartsDone led.lead (left - 1) values bound text s p s' p' h.to to
      done = of_lead.answer

      both : Goes values forms p₀ s' p' (suc c.begun) c to (led.rows ++ done.read.rows)
      both = goes_then led.goes done.read.goes led.grows

      -- bounds for the row
      pub row_bounds
          : (c.begun < to.begun) × (to.begun ≤ 32768) × (3 * c.begun + 3 ≤ length s') × (h.row.code < 32) × (h.row.operand < 64) × (h.row.place < 65536)
      row_bounds = (
        omega (arith, both.counted),
        omega (arith, both.limit, r₀.few),
        omega (arith, both.counted, both.limit, r₀.rows, all_kept.forms_kept),
        (held_small led.held).0,
        (held_small led.held).1,
        omega (arith, led.near, r₀.short),
      )

      form : Result
      form = whole h.row.place led.lead done.parts

      all_rows : List ℕ
      all_rows =
          head_of h.row.code h.row.operand h.row.place (3 * result_forms form)
          ∷ h.row.payload
          ∷ name
          ∷ (led.rows ++ done.read.rows)

      rows_held : FormRows (take to.top p') bound name form all_rows
      unfolding form all_rows
      rows_held =
          whole_rows h.row.place name (lead_later done.read.goes.kept to.top done.read.grows led.held) done.filled refl
          (subst (λ (k : ℕ). PartsBefore (take to.top p') (inner_bound k bound) (named led.lead) done.parts done.read.rows)
          (held_code led.held) done.read.held)
          row_bounds.5

      size_is : 3 * (to.begun - c.begun) ≡ 3 * result_forms form
      unfolding all_rows
      size_is = omega (arith, length_form_rows rows_held, both.counted)

      pub result_read
          : {s'' : List ℕ}
          → s''
          ≡ with_row s' c.begun (head_of h.row.code h.row.operand h.row.place (3 * (to.begun - c.begun))) h.row.payload name
          → ReadsResult left values bound text forms p₀ s'' p' name c (Ok to)
      unfolding form all_rows
      result_read g =
          let w = head_of h.row.code h.row.operand h.row.place (3 * (to.begun - c.begun)) in
          let room : 3 * c.begun + 3 ≤ length s' = row_bounds.2 in
          record {
            answer =
                record {
                  form = form;
                  run = λ x o v. led.run x o v ∙ done.read.run x h.row.place o (nested_left led.nested v);
                  rows = all_rows;
                  held = rows_held;
                  goes =
                      record {
                        table =
                            ap (λ (t : List ℕ). take (3 * to.begun) t) g
                            ∙ row_put s' c.begun w h.row.payload name room forms (led.rows ++ done.read.rows) to.begun
                            row_bounds.0 (omega (arith, r₀.rows, both.counted, both.limit)) both.table
                            ∙ ap
                            (λ (n : ℕ). take (3 * c.begun) forms
                            ++ (head_of h.row.code h.row.operand h.row.place n ∷ h.row.payload ∷ name ∷ (led.rows ++ done.read.rows)))
                            size_is;
                        counted = omega (arith, both.counted);
                        limit = both.limit;
                        kept = both.kept;
                      };
                  further = omega (arith, led.ahead, done.further);
                  within = done.read.within;
                  grows = omega (arith, led.grows, done.read.grows);
                  room = omega (arith, led.room, done.room);
                };
            sized =
                record {
                  forms_kept = ap length g ∙ length_with_row s' c.begun w h.row.payload name room ∙ all_kept.forms_kept;
                  pool_kept = all_kept.pool_kept;
                };
          }
