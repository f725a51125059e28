-- Answers for values that hold no others. Assumes nothing.
use Prim.Native.Nat.{ℕ, suc, ◌+◌, ◌-◌, ◌/◌, ◌≤◌, ◌<◌}
use mathlib.Core.Path.{◌≡◌, refl, sym, ap, ap₂, ◌∙◌, subst}
use mathlib.Core.Bool.{Bool, true, false}
use mathlib.Core.List.{List, [], ◌∷◌}
use mathlib.Core.Option.{Option, none, some}
use native.Mathlib.Omega.{arith}
use lib.ListN.{length, take, drop, get_or, length-drop, drop_of_length-le, get_or-eq_default}
use lib.Seq.{drop-cons}
use Rattle.std.specs.Prelude.{Ok, Err}
use Rattle.definitions.specs.declared.Limits.{Limits}
use Rattle.definitions.specs.Bytes.{Bytes, look, white, white_table, found, between}
use Rattle.definitions.specs.Outcome.{refused}
use Rattle.definitions.specs.Text.{Inside}
use Rattle.definitions.specs.Number.{Number, Phase, begin, next, int_rows, no_digits, extend, beyond, number_of, most_scale}
use Rattle.definitions.specs.Value.{Value, size}
use Rattle.definitions.specs.Plain.{plain}
use Rattle.definitions.specs.Json.{Open, Gap, as_value, State, gap, in_text, in_number, spell, put, value_rows, gap_end, close_move, full, judge, scan}
use Rattle.pool.specs.Pool.{words, text_in}
use Rattle.pool.specs.PoolLaws.{bytes_words}
use Rattle.nodes.specs.Nodes.{sign_bit, kind_code, number_bits, head_word, head_of, reference, Refers, text_row, number_row}
use Rattle.nodes.specs.NodesLaws.{head_word_is}
use Rattle.nodes.specs.StandingLaws.{text_refers}
use Rattle.number.specs.declared.NumberRead.{NumberRead}
use Rattle.number.specs.NumberRun.{Run, longest}
use Rattle.number.specs.NumberRead.{ReadsNumber, number_in, run_at}
use Rattle.number.specs.NumberLaws.{longest_on, longest_off, longest_stops, scan_longest, scan_broken, scan_whole, not_beyond, longest_shorter}
use Rattle.number.specs.NumberWrite.{Bounded}
use Rattle.text.specs.TextLaws.{scan_broke, scan_ended}
use Rattle.text.specs.TextRead.{TextClosed, TextBroken}
use Rattle.reading.specs.declared.Cursor.{Cursor}
use Rattle.reading.specs.declared.Cause.TheVariants.{JsonSyntax, NumberLimit, ValueLimit}
use Rattle.json_reader.specs.JsonParts.{answer_of, OpenLimited, JudgesFull, Matches, Literal, TablePlaced, Ready, Reads, PutsNumber, NoRow}
use Rattle.json_reader.proofs.Kept.{scan_kept}
use Rattle.json_reader.proofs.Scan as Scan
use Rattle.json_reader.proofs.Scan.{byte_inside, byte_here, here, at_end, at_byte, value_begins}
use Rattle.json_reader.proofs.Scan.{value_full, number_begins, no_value, spell_on, spell_off, spell_end}
use Rattle.nodes.specs.RowLaws.{with_row}
use Rattle.json_reader.proofs.Answers.{as_word, refuses, one_row}

-- ---- refusal 6

-- a value that is no number begins where there is one too many, or too deep
pub full_here
    : (doc : Bytes) (at b : ℕ) (q : Open → State) {values left begun : ℕ} → get_or doc at 256 ≡ b → b < 256 → white b ≡ false
    → ((o : Open) → look (value_rows o) b ≡ some (q o)) → JudgesFull values left begun true
    → (l : Limits) (o : Open) → OpenLimited l o values left → (kept : Bytes)
    → scan l begun kept (gap (Gap.value o)) (drop at doc) ≡ refused 6 (drop at doc)
full_here doc at b q {begun = n} e h w f j l o a kept =
    ap (λ (s : Bytes). scan l n kept (gap (Gap.value o)) s) (byte_here doc at e h)
    ∙ value_full l n kept o b (drop (at + 1) doc) w (f o) (sym (j.judged l o a))
    ∙ ap (λ (s : Bytes). refused 6 s) (sym (byte_here doc at e h))

-- and where there is not
pub begins_here
    : (doc : Bytes) (at b : ℕ) (q : Open → State) {values left begun : ℕ} → get_or doc at 256 ≡ b → b < 256 → white b ≡ false
    → ((o : Open) → look (value_rows o) b ≡ some (q o)) → JudgesFull values left begun false
    → (l : Limits) (o : Open) → OpenLimited l o values left → (kept : Bytes)
    → scan l begun kept (gap (Gap.value o)) (drop at doc) ≡ scan l (suc begun) kept (q o) (drop (at + 1) doc)
begins_here doc at b q {begun = n} e h w f j l o a kept =
    ap (λ (s : Bytes). scan l n kept (gap (Gap.value o)) s) (byte_here doc at e h)
    ∙ value_begins l n kept o b (drop (at + 1) doc) w (f o) (sym (j.judged l o a))

-- ---- literal names

code_small : (v : Value) → kind_code v < 8
unfolding kind_code
code_small Value.null = omega arith
code_small (Value.bool true) = omega arith
code_small (Value.bool false) = omega arith
code_small (Value.number x) = omega arith
code_small (Value.text t) = omega arith
code_small (Value.list vs) = omega arith
code_small (Value.rec ms) = omega arith

pub literal_code : {name : Bytes} {kind : ℕ} → Literal name kind → kind < 8
literal_code li = omega (arith, li.code, code_small li.value)

module _ {doc name : Bytes} {kind values left : ℕ} (c : Cursor) (li : Literal name kind) (e : get_or doc c.at 256 ≡ get_or name 0 256) where
  literal_run
      : {k : ℕ} → Matches doc c.at name k → JudgesFull values left c.begun false → (l : Limits) (o : Open) → OpenLimited l o values left
      → (kept : Bytes)
      → scan l c.begun kept (gap (Gap.value o)) (drop c.at doc)
      ≡ scan l (suc c.begun) kept (spell (drop k name) li.value o) (drop (c.at + k) doc)
  literal_run m j l o a kept =
      begins_here doc c.at (get_or name 0 256) (λ o'. spell (drop 1 name) li.value o') e li.byte li.visible li.begins j l o a kept
      ∙ sym (spell_on l (suc c.begun) kept li.value o (get_or name 0 256) (drop 1 name) (drop (c.at + 1) doc))
      ∙ ap₂ (λ (cs s : Bytes). scan l (suc c.begun) kept (spell cs li.value o) s) (sym li.spelled) (sym (byte_here doc c.at e li.byte))
      ∙ m.run l (suc c.begun) kept li.value o

  module _ {nodes : List ℕ} {m : ℕ} (p : TablePlaced doc nodes values c) (pool : List ℕ) where
    pub literal_full
        : JudgesFull values left c.begun true
        → Reads Gap.value c.begun left values doc nodes pool nodes pool m c (Err (record { cause = ValueLimit; place = c.at }))
    literal_full j =
        refuses refl refl p.within
        (full_here doc c.at (get_or name 0 256) (λ o. spell (drop 1 name) li.value o) e li.byte li.visible li.begins j)

    pub literal_broken
        : {k : ℕ} → JudgesFull values left c.begun false → Matches doc c.at name k → k < length name
        → Reads Gap.value c.begun left values doc nodes pool nodes pool m c (Err (record { cause = JsonSyntax; place = c.at + k }))
    literal_broken {k} j ms h =
        refuses refl refl ms.within
        (λ l o a kept.
        literal_run ms j l o a kept
        ∙ ap (λ (cs : Bytes). scan l (suc c.begun) kept (spell cs li.value o) (drop (c.at + k) doc)) (drop-cons name k 256 h)
        ∙ spell_off l (suc c.begun) kept li.value o (get_or name k 256) (drop (suc k) name) doc (c.at + k) (ms.stops h))

    pub literal_read
        : {k : ℕ} {nodes' : List ℕ} → JudgesFull values left c.begun false → Matches doc c.at name k → length name ≤ k
        → nodes' ≡ with_row nodes c.begun (head_of kind 0 k) 0 m
        → Reads Gap.value c.begun left values doc nodes pool nodes' pool m c
        (Ok (record { at = c.at + k; begun = c.begun + 1; top = c.top }))
    literal_read {k} {nodes'} j ms h row =
        let whole : k ≡ length (plain li.value) = (let f : k ≡ length name = omega (arith, ms.most) in f) ∙ ap length li.wrote in
        let free = j.within refl in
        let size_name : 1 ≤ length name = omega (arith, ap length li.spelled) in
        let same_head = head_word_is li.value li.code (sym li.bits) whole in
        one_row li.value li.single refl (omega (arith, p.rows, free.0))
        (row ∙ ap (λ (w : ℕ). with_row nodes c.begun w 0 m) same_head)
        (li.row (take c.top pool) m)
        refl
        refl
        (omega (arith, same_head, whole, literal_code li))
        (record {
          ahead = omega arith;
          within = ms.within;
          limit = omega (arith, free.0);
          grows = omega arith;
          room = omega arith;
          short = omega (arith, whole);
        })
        (λ l o a kept. literal_run ms j l o a kept ∙ end l o kept)
      where
        end
            : (l : Limits) (o : Open) (kept : Bytes)
            → scan l (suc c.begun) kept (spell (drop k name) li.value o) (drop (c.at + k) doc)
            ≡ scan l (suc c.begun) kept (gap (put li.value o)) (drop (c.at + k) doc)
        end l o kept =
            ap (λ (cs : Bytes). scan l (suc c.begun) kept (spell cs li.value o) (drop (c.at + k) doc)) (drop_of_length-le name {i = k} h)
            ∙ spell_end l (suc c.begun) kept li.value o (drop (c.at + k) doc)

-- ---- texts

quote_begins : (o : Open) → look (value_rows o) 0x22 ≡ some (in_text (as_value o) Inside.chars [])
unfolding value_rows look between
quote_begins o = refl

quote_visible : white 0x22 ≡ false
unfolding white white_table found look between
quote_visible = refl

-- the closing quote of a value
text_closes
    : (l : Limits) (n : ℕ) (kept : Bytes) (o : Open) (t r : Bytes)
    → judge l n kept (0x22 ∷ r) (close_move (as_value o) t) (λ n' kept' q'. scan l n' kept' q' r)
    ≡ scan l n kept (gap (put (Value.text t) o)) r
unfolding judge close_move
text_closes l n kept o t r = refl

module _ {doc nodes pool : List ℕ} {values left : ℕ} (c : Cursor) (p : Ready doc nodes pool values c) (e : get_or doc c.at 256 ≡ 0x22) where
  text_begins
      : JudgesFull values left c.begun false → (l : Limits) (o : Open) → OpenLimited l o values left → (kept : Bytes)
      → scan l c.begun kept (gap (Gap.value o)) (drop c.at doc)
      ≡ scan l (suc c.begun) kept (in_text (as_value o) Inside.chars []) (drop (c.at + 1) doc)
  text_begins j =
      begins_here doc c.at 0x22 (λ o. in_text (as_value o) Inside.chars []) e (omega arith) quote_visible quote_begins j

  pub text_full
      : {m : ℕ} → JudgesFull values left c.begun true
      → Reads Gap.value c.begun left values doc nodes pool nodes pool m c (Err (record { cause = ValueLimit; place = c.at }))
  text_full j =
      refuses refl refl p.placed.within
      (full_here doc c.at 0x22 (λ o. in_text (as_value o) Inside.chars []) e (omega arith) quote_visible quote_begins j)

  module _ {pool' : List ℕ} (same : length pool' ≡ length pool) where
    pub text_broken
        : {place m : ℕ} → JudgesFull values left c.begun false → TextBroken doc (c.at + 1) place
        → Reads Gap.value c.begun left values doc nodes pool nodes pool' m c (Err (record { cause = JsonSyntax; place = place }))
    text_broken {place} j t =
        refuses refl same t.within
        (λ l o a kept.
        text_begins j l o a kept
        ∙ scan_broke l (suc c.begun) kept (as_value o) Inside.chars [] (drop (c.at + 1) doc) (drop place doc) t.run)

    pub text_read
        : {end n k m : ℕ} {nodes' : List ℕ} → take c.top pool' ≡ take c.top pool → JudgesFull values left c.begun false
        → TextClosed doc (c.at + 1) pool' c.top end n k
        → nodes' ≡ with_row nodes c.begun (head_of 4 0 k) (reference c.top n) m
        → Reads Gap.value c.begun left values doc nodes pool nodes' pool' m c
        (Ok (record { at = end; begun = c.begun + 1; top = c.top + (n + 7) / 8 }))
    unfolding words size plain kind_code number_bits
    text_read {end} {n} {k} {m} {nodes'} front j t row =
        let free = j.within refl in
        let same_head = head_word_is (Value.text text) refl refl t.written in
        one_row (Value.text text) refl refl (omega (arith, p.placed.rows, free.0))
        (row ∙ ap (λ (w : ℕ). with_row nodes c.begun w (reference c.top n) m) same_head)
        (text_row refers_here)
        same
        front
        (omega (arith, same_head, t.written))
        (record {
          ahead = omega (arith, t.shorter);
          within = t.within;
          limit = omega (arith, free.0);
          grows = omega arith;
          room = omega (arith, t.shorter);
          short = omega (arith, t.bounded, t.written);
        })
        (λ l o a kept.
        text_begins j l o a kept
        ∙ scan_ended l (suc c.begun) kept (as_value o) Inside.chars [] (drop (c.at + 1) doc) text (drop end doc) t.run
        ∙ text_closes l (suc c.begun) kept o text (drop end doc))
      where
        text : Bytes
        text = text_in pool' c.top n

        refers_here : Refers (take (c.top + (n + 7) / 8) pool') text (reference c.top n)
        refers_here = text_refers pool' c.top n t.size t.room

-- ---- numbers

-- a number that can be put
pub number_bounded : {doc : Bytes} {at : ℕ} {x : NumberRead} → ReadsNumber doc at x → x.beyond ≡ false → Bounded (number_in x)
number_bounded r f = subst Bounded (sym (r.meaning f)) (not_beyond _ (sym r.over ∙ f))

pub sign_small : (b : Bool) → sign_bit b ≤ 1
unfolding sign_bit
sign_small true = omega arith
sign_small false = omega arith

-- of the first word, one byte is the kind, the sign and the scale
number_head : (x : Number) → Bounded x → head_word (Value.number x) / 256 ≡ length (plain (Value.number x))
unfolding head_word kind_code number_bits most_scale
number_head x b = omega (arith, b.scale, sign_small x.negative)

-- whether a number begins
data First (doc : Bytes) (at end : ℕ) : Type 0 where
  no_first : look (next begin) (get_or doc at 256) ≡ none → end ≡ at → First doc at end
  first
      : (p : Phase) → look (next begin) (get_or doc at 256) ≡ some p → drop at doc ≡ get_or doc at 256 ∷ drop (at + 1) doc → at < end
      → First doc at end

past_end : (doc : Bytes) (at : ℕ) → drop at doc ≡ [] → (length doc ≤ at) × (look (next begin) (get_or doc at 256) ≡ none)
unfolding look next int_rows between
past_end doc at e = (long, ap (look (next begin)) (get_or-eq_default doc 256 long))
  where
    long : length doc ≤ at
    long = omega (arith, length-drop at doc, ap length e)

first_of : {doc : Bytes} {at : ℕ} {x : NumberRead} → ReadsNumber doc at x → First doc at x.end
first_of {doc} {at} {x} r = pick (here doc at)
  where
    back : length doc - x.end ≡ length (longest begin no_digits (drop at doc)).rest
    back = sym (length-drop x.end doc) ∙ ap length r.rest

    by_look
        : drop at doc ≡ get_or doc at 256 ∷ drop (at + 1) doc → at < length doc → (m : Option Phase) → look (next begin) (get_or doc at 256) ≡ m
        → First doc at x.end
    by_look f h none e =
        no_first e
        (omega (
          arith,
          back,
          ap (λ (s : Bytes). length (longest begin no_digits s).rest) f,
          ap (λ (y : Run). length y.rest) (longest_off begin no_digits (get_or doc at 256) (drop (at + 1) doc) e),
          length-drop (at + 1) doc,
          r.behind,
          r.within,
        ))
    by_look f h (some p) e =
        first p e f
        (omega (
          arith,
          back,
          ap (λ (s : Bytes). length (longest begin no_digits s).rest) f,
          ap (λ (y : Run). length y.rest) (longest_on begin no_digits (get_or doc at 256) (drop (at + 1) doc) e),
          longest_shorter p (extend p no_digits (get_or doc at 256)) (drop (at + 1) doc),
          length-drop (at + 1) doc,
          r.behind,
          r.within,
        ))

    pick : Scan.Here doc at → First doc at x.end
    pick (at_end e) = let (long, nothing) = past_end doc at e in no_first nothing (omega (arith, long, r.behind, r.within))
    pick (at_byte f) =
        by_look f (omega (arith, length-drop at doc, ap length f)) (look (next begin) (get_or doc at 256)) refl

module _ {doc nodes : List ℕ} {values : ℕ} (c : Cursor) {x : NumberRead} (p : TablePlaced doc nodes values c) (b : NoRow (get_or doc c.at 256))
    (r : ReadsNumber doc c.at x) (pool : List ℕ) where
  -- no value begins
  pub number_none
      : {m left : ℕ} → x.end ≡ c.at → Reads Gap.value c.begun left values doc nodes pool nodes pool m c (Err (record { cause = JsonSyntax; place = c.at }))
  unfolding gap_end
  number_none e =
      refuses refl refl p.within
      (λ l o a kept.
      Scan.scan_broken l c.begun kept doc c.at (Gap.value o) refl b.visible
      (no_value (get_or doc c.at 256) o (b.no_value o) (none_here (first_of r))))
    where
      none_here : First doc c.at x.end → look (next begin) (get_or doc c.at 256) ≡ none
      none_here (no_first n f) = n
      none_here (first q n f h) = absurd (let z : ⊥ = omega arith in z)

  module _ (h : x.end ≡ c.at → ⊥) where
    number_run
        : (l : Limits) (o : Open) (kept : Bytes)
        → scan l c.begun kept (gap (Gap.value o)) (drop c.at doc)
        ≡ scan l (suc c.begun) (drop c.at doc) (in_number (run_at doc c.at).phase (run_at doc c.at).digits o) (run_at doc c.at).rest
    number_run l o kept = pick (first_of r)
      where
        pick
            : First doc c.at x.end
            → scan l c.begun kept (gap (Gap.value o)) (drop c.at doc)
            ≡ scan l (suc c.begun) (drop c.at doc) (in_number (run_at doc c.at).phase (run_at doc c.at).digits o) (run_at doc c.at).rest
        pick (no_first n e) = absurd (h e)
        pick (first q n f k) =
            ap (λ (s : Bytes). scan l c.begun kept (gap (Gap.value o)) s) f
            ∙ number_begins l c.begun kept o y t b.visible (b.no_value o) n
            ∙ scan_longest l (suc c.begun) (y ∷ t) o q (extend q no_digits y) t
            ∙ ap (λ (z : Run). scan l (suc c.begun) (y ∷ t) (in_number z.phase z.digits o) z.rest) (sym (longest_on begin no_digits y t n))
            ∙ ap (λ (s : Bytes).
            scan l (suc c.begun) s (in_number (longest begin no_digits s).phase (longest begin no_digits s).digits o)
            (longest begin no_digits s).rest) (sym f)
          where
            y : ℕ
            y = get_or doc c.at 256

            t : Bytes
            t = drop (c.at + 1) doc

    module _ (l : Limits) (o : Open) (kept : Bytes) where
      -- behind an incomplete run
      incomplete
          : x.complete ≡ false
          → scan l c.begun kept (gap (Gap.value o)) (drop c.at doc)
          ≡ elim (full l (suc c.begun) o) [ true ↦ refused 6 (drop c.at doc) | false ↦ refused 3 (drop x.end doc) ]
      incomplete e =
          number_run l o kept
          ∙ scan_broken l (suc c.begun) (drop c.at doc) o (run_at doc c.at).phase (run_at doc c.at).digits
          (longest_stops begin no_digits (drop c.at doc)) (sym r.whole ∙ e)
          ∙ ap (λ (s : Bytes). elim (full l (suc c.begun) o) [ true ↦ refused 6 (drop c.at doc) | false ↦ refused 3 s ]) (sym r.rest)

      -- behind a complete one
      whole_run
          : x.complete ≡ true
          → scan l c.begun kept (gap (Gap.value o)) (drop c.at doc)
          ≡ elim (beyond (run_at doc c.at).digits) [
            | true ↦ refused 4 (drop c.at doc)
            | false ↦
                elim (full l (suc c.begun) o) [
                  | true ↦ refused 6 (drop c.at doc)
                  | false ↦
                      scan l (suc c.begun) (drop c.at doc) (gap (put (Value.number (number_of (run_at doc c.at).digits)) o))
                      (run_at doc c.at).rest
                ]
          ]
      whole_run e =
          number_run l o kept
          ∙ scan_whole l (suc c.begun) (drop c.at doc) o (run_at doc c.at).phase (run_at doc c.at).digits
          (longest_stops begin no_digits (drop c.at doc)) (sym r.whole ∙ e)

    module _ {left m : ℕ} {full_now : Bool} (j : JudgesFull values left c.begun full_now) where
      pub number_broken
          : x.complete ≡ false → full_now ≡ false
          → Reads Gap.value c.begun left values doc nodes pool nodes pool m c (Err (record { cause = JsonSyntax; place = x.end }))
      number_broken e f =
          refuses refl refl r.within
          (λ l o a kept. incomplete l o kept e ∙ rw (sym (j.judged l o a) ∙ f))

      pub number_broken_full
          : x.complete ≡ false → full_now ≡ true
          → Reads Gap.value c.begun left values doc nodes pool nodes pool m c (Err (record { cause = ValueLimit; place = c.at }))
      number_broken_full e f =
          refuses refl refl p.within
          (λ l o a kept. incomplete l o kept e ∙ rw (sym (j.judged l o a) ∙ f))

      pub number_beyond
          : x.complete ≡ true → x.beyond ≡ true
          → Reads Gap.value c.begun left values doc nodes pool nodes pool m c (Err (record { cause = NumberLimit; place = c.at }))
      number_beyond e f =
          refuses refl refl p.within
          (λ l o a kept. whole_run l o kept e ∙ rw (sym r.over ∙ f))

      pub number_full
          : x.complete ≡ true → x.beyond ≡ false → full_now ≡ true
          → Reads Gap.value c.begun left values doc nodes pool nodes pool m c (Err (record { cause = ValueLimit; place = c.at }))
      number_full e f g =
          refuses refl refl p.within
          (λ l o a kept. whole_run l o kept e ∙ rw (sym r.over ∙ f) (rw (sym (j.judged l o a) ∙ g)))

      pub number_read
          : {nodes' : List ℕ} {v : ℕ} → x.complete ≡ true → x.beyond ≡ false → full_now ≡ false → PutsNumber nodes nodes' c m x v
          → Reads Gap.value c.begun left values doc nodes pool nodes' pool m c (answer_of v)
      unfolding size plain
      number_read {nodes'} {v} e f g u =
          as_word u.answer
          (one_row (Value.number (number_in x)) refl refl (omega (arith, p.rows, free.0))
          u.row
          number_row
          refl
          refl
          (number_head (number_in x) (number_bounded r f))
          (record {
            ahead = ahead (first_of r);
            within = r.within;
            limit = omega (arith, free.0);
            grows = omega arith;
            room = omega (arith, ahead (first_of r));
            short = omega (arith, ahead (first_of r), u.short);
          })
          (λ l o a kept.
          whole_run l o kept e
          ∙ rw (sym r.over ∙ f) (rw (sym (j.judged l o a) ∙ g)
          (scan_kept l (drop c.at doc) kept (suc c.begun) (put (Value.number (number_of (run_at doc c.at).digits)) o) (run_at doc c.at).rest
          ∙ ap₂ (λ (y : Number) (s : Bytes). scan l (suc c.begun) kept (gap (put (Value.number y) o)) s) (sym (r.meaning f)) (sym r.rest)))))
        where
          free : (c.begun < values) × (0 < left)
          free = j.within g

          ahead : First doc c.at x.end → c.at < x.end
          ahead (no_first n z) = absurd (h z)
          ahead (first q n z k) = k

-- the pool has room for a text that begins here
pub text_room
    : {doc nodes pool : List ℕ} {values : ℕ} (c : Cursor) → Ready doc nodes pool values c → get_or doc c.at 256 ≡ 0x22 → c.begun < values
    → (c.at + 1 ≤ length doc) × (c.top + words (length doc - (c.at + 1)) ≤ length pool)
text_room {doc} {pool} c p e free =
    let inside : c.at < length doc = byte_inside doc c.at e (omega arith) in (
      omega arith,
      bytes_words c.top (length doc - (c.at + 1)) (length pool)
          (omega (arith, p.room, p.texts, free, p.placed.within)),
    )
