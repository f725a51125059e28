-- Answers for the next result inside a result. Assumes nothing.
use Prim.Native.Nat.{ℕ, ◌+◌, ◌-◌, ◌*◌, ◌/◌, ◌≤◌, ◌<◌}
use mathlib.Core.Path.{◌≡◌, refl, sym, ap, ◌∙◌, subst}
use mathlib.Core.Bool.{Bool, true, false}
use mathlib.Core.List.{List, [], ◌++◌, append_assoc}
use native.Mathlib.Omega.{arith}
use lib.ListN.{length, take, drop, take-append-drop}
use lib.Seq.{drop_at, length-take-le}
use Rattle.definitions.specs.Bytes.{Bytes}
use Rattle.definitions.specs.Tokens.{at_place, Token, opening, closing, quoted, word, broken, misplaced, where_true}
use Rattle.definitions.specs.Reader.{Result, Pairs, no_pairs, among_pairs, pairs_onto, pack_part, Around, bindings, binds, Want, pack_name}
use Rattle.definitions.specs.Reader.{result_close, use_result, want, put_result, want_step, pack_step}
use Rattle.pool.specs.Pool.{text_in}
use Rattle.nodes.specs.Nodes.{reference}
use Rattle.forms.specs.Forms.{PairRows, PairsStand, PairsHeld}
use Rattle.tokens.specs.TokenRead.{FoundText}
use Rattle.tokens.specs.Expecting.{a_closing, a_text, sort, Kept, Misses}
use Rattle.std.specs.Prelude as std
use Rattle.std.specs.Prelude.{Ok, Err}
use Rattle.reading.specs.declared.Cursor.{Cursor}
use Rattle.reading.specs.declared.Refusal.{Refusal}
use Rattle.form_reader.specs.declared.parts.Turn.{Turn}
use Rattle.form_reader.specs.declared.parts.Turn.TheVariants.{More, End}
use Rattle.form_reader.specs.FormLeads.{Lead, lead_code, named, inner_bound, next, Filled, packed, whole}
use Rattle.form_reader.specs.FormParts.{Job, reading, Closed, ClosesForm, SoFar, debt, TurnIs, PairsKnown}
use Rattle.form_reader.specs.FormParts.{PairTurns, PartsKnown, Turns}
use Rattle.form_reader.proofs.Steps.{ClosesAt, Misplaced, goes_on, misplaced_found, closes_on, no_end, no_pair}
use Rattle.form_reader.proofs.OperandReading.{quoted_refers}
use Rattle.form_reader.proofs.LeadLaws.{next_frame, next_close, parts_in_order, among_in_order, pack_lead}

-- ---- pairs

-- what is no text and no closing bracket may not stand behind the pairs of a pack
no_step
    : (at : ℕ) (ps : Pairs) (o : Around) (t : Token) → (sort t ≡ a_text → ⊥) → (sort t ≡ a_closing → ⊥) → pack_step at ps o t ≡ misplaced
unfolding sort pack_step
no_step at ps o opening h i = refl
no_step at ps o closing h i = absurd (i refl)
no_step at ps o (quoted u) h i = absurd (h refl)
no_step at ps o (word u) h i = refl
no_step at ps o broken h i = refl

module _ (first : ℕ) (c : Cursor) {text : Bytes} {forms p₀ : List ℕ} (k₀ : PairsKnown text forms p₀ first c) where
  module _ {p : List ℕ} (k : Kept p₀ p c.top) where
    used_length : length (take c.top p) ≡ c.top
    used_length =
        length-take-le c.top p (omega (arith, k₀.placed.texts, k₀.placed.within, k.size))

    used_front : take (length (take c.top p)) p ≡ take c.top p
    used_front = ap (λ (n : ℕ). take n p) used_length

    used_small : length (take c.top p) < 65536
    used_small = omega (arith, used_length, k₀.placed.small, k₀.placed.within)

    -- the pairs before stand in the table
    pairs_stand
        : (ps : Pairs) (s : SoFar forms (take c.top p₀) first c.begun Lead.packing ps)
        → PairsStand forms (take c.top p) (3 * first) (3 * c.begun) s.bound (pairs_onto ps no_pairs)
    unfolding named
    pairs_stand ps s =
        record {
          rows = s.rows;
          rest = drop (3 * c.begun) forms;
          encoded =
              subst (λ (u : List ℕ). PairRows u s.bound (pairs_onto ps no_pairs) s.rows) (sym k.front)
              (parts_in_order s.held);
          placed =
              ap (drop (3 * first))
              (sym (take-append-drop (3 * c.begun) forms)
              ∙ ap (λ (u : List ℕ). u ++ drop (3 * c.begun) forms) s.table
              ∙ append_assoc (take (3 * first) forms) s.rows (drop (3 * c.begun) forms))
              ∙ drop_at (take (3 * first) forms) (s.rows ++ drop (3 * c.begun) forms) (3 * first)
              (length-take-le (3 * first) forms (omega (arith, s.counted, s.inside)));
          reaches = sym s.counted;
        }

    pub names_held : PairsHeld forms p (3 * first) (3 * c.begun)
    names_held =
        record {
          used = take c.top p;
          bound = k₀.so_far.bound;
          pairs = pairs_onto k₀.pairs no_pairs;
          front = used_front;
          small = used_small;
          stand = pairs_stand k₀.pairs k₀.so_far;
        }

    module _
        {place end n : ℕ} (f : FoundText text c.at p c.top place end n) {b : Bool}
        (told
        : (u : List ℕ) (d : ℕ) (ps : Pairs) → take (length u) p ≡ u → length u < 65536 → PairsStand forms u (3 * first) (3 * c.begun) d ps
        → b ≡ among_pairs (text_in p c.top n) ps) where
      is_among
          : (ps : Pairs) → SoFar forms (take c.top p₀) first c.begun Lead.packing ps → b ≡ among_pairs (text_in p c.top n) ps
      is_among ps s =
          told (take c.top p) s.bound (pairs_onto ps no_pairs) used_front used_small (pairs_stand ps s)
          ∙ among_in_order (text_in p c.top n) ps

      pub pair_twice : {r : Refusal} → b ≡ true → Misplaced r place → PairTurns text forms p₀ p first c (Err r)
      unfolding next want_step pack_step where_true at_place
      pair_twice h m =
          record {
            answer = λ ps s x i at o.
                misplaced_found x i (pack_name at ps o) f.found (rw (sym (is_among ps s) ∙ h)) m;
            kept = k;
          }

      pub pair_next
          : {name : ℕ} → b ≡ false → name ≡ reference c.top n
          → PairTurns text forms p₀ p first c (Ok (More (record { at = end; begun = c.begun; top = c.top + (n + 7) / 8 }) name 0))
      unfolding next want_step pack_step where_true at_place use_result bindings binds inner_bound lead_code named debt
      pair_next h g =
          record {
            answer = λ ps s.
                record {
                  bytes = text_in p c.top n;
                  frame = pack_part ps (text_in p c.top n);
                  run = λ x m at o. goes_on x m (pack_name at ps o) f.found (rw (sym (is_among ps s) ∙ h));
                  then = λ r at o. refl;
                  filled = λ r. packed refl;
                  binding = λ at bound o i. i;
                  word = quoted_refers c f g;
                  begun = refl;
                  ahead = omega (arith, f.found.from, f.found.ahead);
                  within = f.found.within;
                  grows = omega arith;
                  room = omega (arith, f.found.from, f.shorter);
                };
            kept = k;
          }

    pub pack_closed : {to : Cursor} → ClosesForm text c (Ok to) → PairTurns text forms p₀ p first c (Ok (End to))
    unfolding next want_step pack_step whole at_place
    pack_closed {to} z =
        let closed : Closed text c to = z.answer in
        record {
          answer = λ ps s.
              record {
                run = λ x m at o. goes_on x m (pack_name at ps o) closed.found refl;
                filled = packed refl;
                begun = closed.begun;
                top = closed.top;
                further = closed.further;
                within = closed.within;
              };
          kept = k;
        }

    pub pack_open
        : {e r : Refusal} → Misses a_text text c.at e → ClosesForm text c (Err r) → PairTurns text forms p₀ p first c (Err r)
    unfolding next want_step at_place
    pack_open l z =
        record {
          answer = λ ps s x m at o.
              no_pair x m text c.at (pack_name at ps o) l z.answer (λ t v h g. no_step at ps o t h g);
          kept = k;
        }

-- ---- any result

closes_result : (r : Result) (o : Around) → ClosesAt (result_close r o) (put_result r o)
unfolding want_step
closes_result r o = record { does = λ t. refl }

module _ (code more first : ℕ) (c : Cursor) {text : Bytes} {forms p₀ : List ℕ} (k₀ : PartsKnown text forms p₀ code more first c) where
  pub part_next : 0 < more → Turns text forms p₀ p₀ code more first c (Ok (More c 0 (more - 1)))
  part_next h =
      record {
        answer = λ lead ps d f s.
            let n = next_frame f h in
            record {
              bytes = [];
              frame = n.frame;
              run = λ x m at o. ap (λ (w : Want). reading x m text (want w) c.at) (n.opens at o);
              then = n.then;
              filled = n.filled;
              binding = n.binding;
              word = n.word (take c.top p₀);
              begun = refl;
              ahead = omega arith;
              within = k₀.placed.within;
              grows = omega arith;
              room = omega arith;
            };
        kept = record { size = refl; front = refl };
      }

  pub pairs_known : code ≡ 17 → PairsKnown text forms p₀ first c
  pairs_known e =
      record {
        placed = k₀.placed;
        few = k₀.few;
        pairs = k₀.pairs;
        so_far =
            subst (λ (l : Lead). SoFar forms (take c.top p₀) first c.begun l k₀.pairs)
            (pack_lead k₀.lead (k₀.coded ∙ e)) k₀.so_far;
      }

  pub pair_turn : {p : List ℕ} {r : std.Result Turn Refusal} → code ≡ 17 → PairTurns text forms p₀ p first c r → Turns text forms p₀ p code more first c r
  pair_turn {p} {r} e y =
      record {
        answer = λ lead ps d f s.
            let is = pack_lead lead (d ∙ e) in
            subst (λ (l : Lead). TurnIs l ps text p c r) (sym is)
            (y.answer ps (subst (λ (l : Lead). SoFar forms (take c.top p₀) first c.begun l ps) is s));
        kept = y.kept;
      }

  module _ (e : code ≡ 17 → ⊥) (i : more ≤ 0) where
    none_left : more ≡ 0
    none_left = omega arith

    to_bracket
        : (lead : Lead) (ps : Pairs) → lead_code lead ≡ code → Filled lead ps more → (x : Job) (m at : ℕ) (o : Around)
        → reading x m text (want (next lead ps at o)) c.at ≡ reading x m text (want (result_close (whole at lead ps) o)) c.at
    to_bracket lead ps d f x m at o =
        ap (λ (w : Want). reading x m text (want w) c.at) (next_close f none_left (λ k. e (sym d ∙ k)) at o)

    pub part_end : {to : Cursor} → ClosesForm text c (Ok to) → Turns text forms p₀ p₀ code more first c (Ok (End to))
    part_end {to} z =
        let closed : Closed text c to = z.answer in
        record {
          answer = λ lead ps d f s.
              record {
                run = λ x m at o.
                    to_bracket lead ps d f x m at o
                    ∙ closes_on x m (result_close (whole at lead ps) o) (closes_result (whole at lead ps) o) closed.found;
                filled = subst (λ (k : ℕ). Filled lead ps k) none_left f;
                begun = closed.begun;
                top = closed.top;
                further = closed.further;
                within = closed.within;
              };
          kept = record { size = refl; front = refl };
        }

    pub part_open : {r : Refusal} → ClosesForm text c (Err r) → Turns text forms p₀ p₀ code more first c (Err r)
    part_open z =
        record {
          answer = λ lead ps d f s x m at o.
              to_bracket lead ps d f x m at o
              ∙ no_end x m (result_close (whole at lead ps) o) (closes_result (whole at lead ps) o) z.answer;
          kept = record { size = refl; front = refl };
        }
