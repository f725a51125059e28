-- Answers for what stands between a form's word and its parts. Assumes nothing.
use Prim.Native.Nat.{ℕ, ◌+◌, ◌*◌, ◌/◌, ◌≤◌, ◌<◌}
use mathlib.Core.Path.{◌≡◌, refl, sym, ap, ◌∙◌, subst}
use mathlib.Core.Logic.{inl, inr}
use mathlib.Core.Bool.{Bool, true, false}
use mathlib.Core.List.{List}
use mathlib.Core.Option.{Option, none, some}
use native.Mathlib.Omega.{arith}
use lib.ListN.{length, take}
use Rattle.definitions.specs.Bytes.{Bytes}
use Rattle.definitions.specs.Number.{Number, Numeral, most_scale, number_of}
use Rattle.definitions.specs.Value.{Value}
use Rattle.definitions.specs.Tokens.{Step, misplaced, go, where_true, where_some, look_word, want_named, word}
use Rattle.definitions.specs.Reader.{Place, Result, Around, PlaceAround, Test, PlaceUse, converts, keeps, counts, maps, tests, in_result, Want}
use Rattle.definitions.specs.Reader.{place_open, it_index, when_test, num_number, str_text, State, want, place_bindings, word_number, index_fits}
use Rattle.definitions.specs.Reader.{test_words, index_step, literal_step, want_step}
use Rattle.pool.specs.Pool.{text_in}
use Rattle.nodes.specs.Nodes.{sign_bit, number_bits, reference, Refers}
use Rattle.nodes.specs.StandingLaws.{text_refers}
use Rattle.number.specs.NumberWrite.{as_number}
use Rattle.number.specs.NumberWord.{WordMeans, WordAnswer}
use Rattle.number.specs.declared.word.Decimal.{Decimal}
use Rattle.forms.specs.Forms.{test_code, literal_code, null_payload, yes_payload, no_payload, number_payload, text_payload}
use Rattle.tokens.specs.TokenRead.{word_in, Found, FoundText}
use Rattle.tokens.specs.Expecting.{a_text, a_word, Kept, Misses}
use Rattle.std.specs.Prelude as std
use Rattle.std.specs.Prelude.{Some, None, Ok, Err}
use Rattle.reading.specs.declared.Cursor.{Cursor}
use Rattle.reading.specs.declared.Refusal.{Refusal}
use Rattle.form_reader.specs.declared.operands.Payload.{Payload}
use Rattle.form_reader.specs.declared.operands.Operand.{Operand}
use Rattle.form_reader.specs.FormWords.{test_or_none, use_code, use_operand, Started, starts_use, starts_when, starts_if, starts_num}
use Rattle.form_reader.specs.FormWords.{starts_str, starts_yes, starts_no, starts_none, starts_pack}
use Rattle.form_reader.specs.FormLeads.{Lead, next, Half, placing, bare, after, HalfHeld, placing_held, bare_if, bare_pack, bare_literal}
use Rattle.tokens.specs.Expecting.{TextPlaced}
use Rattle.form_reader.specs.FormParts.{reading, WantsWord, WantsText, index_of, SlotAnswer, ReadsIndex, TextRead}
use Rattle.form_reader.specs.FormParts.{ReadsText, OperandRead, OperandAnswer, ReadsTest, ReadsNumber, ReadsOperand}
use Rattle.form_reader.proofs.Steps.{Misplaced, word_goes, word_misplaced, no_word, text_goes, no_text}

-- a cursor that only goes on in the text
abbrev pub ahead_to : Cursor → ℕ → Cursor
ahead_to c at = record { at = at; begun = c.begun; top = c.top }

-- ---- words

sign_small : (b : Bool) → sign_bit b ≤ 1
unfolding sign_bit
sign_small true = omega arith
sign_small false = omega arith

-- the step of an index
stepped : Option ℕ → (at : ℕ) → PlaceAround → Step State
stepped none at o = misplaced
stepped (some n) at o = go (want (Want.place_close (Place.it at n) o))

-- what a word of a table leads to
wants_test : (at : ℕ) (o : Around)
    → WantsWord (when_test at o) (λ w. where_some (look_word test_words w) (λ k. go (want (place_open (in_result at (tests k) o)))))
unfolding want_step want_named
wants_test at o = record { does = λ t. refl }

wants_number : (at : ℕ) (o : Around)
    → WantsWord (num_number at o) (λ w. where_some (word_number w) (λ d. literal_step at o (Value.number (number_of d))))
unfolding want_step
wants_number at o = record { does = λ t. refl }

wants_index : (at : ℕ) (o : PlaceAround)
    → WantsWord (it_index at o) (λ w. where_some (word_number w) (λ d. index_step at o d))
unfolding want_step
wants_index at o = record { does = λ t. refl }

wants_str : (at : ℕ) (o : Around) → WantsText (str_text at o) (λ s. literal_step at o (Value.text s))
unfolding want_step
wants_str at o = record { does = λ t. refl }

module _ (c : Cursor) {text : Bytes} where
  -- ---- N of `it`

  pub index_missing : (bound : ℕ) {r : Refusal} → Misses a_word text c.at r → ReadsIndex text bound c (Err r)
  index_missing bound m = record { answer = λ x n at o b. no_word x n (it_index at o) (wants_index at o) m }

  module _ (bound : ℕ) {place end : ℕ} (f : Found text c.at (word (word_in text place end)) place end) where
    step_is
        : (at : ℕ) (o : PlaceAround) → place_bindings o ≡ bound
        → where_some (word_number (word_in text place end)) (λ d. index_step at o d) ≡ stepped (index_of bound (word_in text place end)) at o
    unfolding where_some index_of stepped index_step where_true
    step_is at o b = go_on (word_number (word_in text place end))
      where
        fit : (d : Numeral) (t : Bool)
            → where_true t (go (want (Want.place_close (Place.it at d.coefficient) o)))
            ≡ stepped (elim t [ true ↦ some d.coefficient | false ↦ none ]) at o
        fit d true = refl
        fit d false = refl

        go_on : (m : Option Numeral)
            → where_some m (λ d. index_step at o d)
            ≡ stepped (elim m [ none ↦ none | some d ↦ elim (index_fits bound d) [ true ↦ some d.coefficient | false ↦ none ] ]) at o
        go_on none = refl
        go_on (some d) =
            ap (λ (k : ℕ). where_true (index_fits k d) (go (want (Want.place_close (Place.it at d.coefficient) o)))) b
            ∙ fit d (index_fits bound d)

    pub index_wrong
        : (i : std.Option ℕ) {r : Refusal} → SlotAnswer bound (word_in text place end) i → (i ≡ None) × Misplaced r place
        → ReadsIndex text bound c (Err r)
    unfolding stepped
    index_wrong i z h =
        let none_there : index_of bound (word_in text place end) ≡ none = subst (SlotAnswer bound (word_in text place end)) h.0 z in
        record {
          answer = λ x n at o b.
              word_misplaced x n (it_index at o) (wants_index at o) f
              (step_is at o b ∙ ap (λ (m : Option ℕ). stepped m at o) none_there) h.1;
        }

    pub index_right
        : (i : std.Option ℕ) {k : ℕ} → SlotAnswer bound (word_in text place end) i → i ≡ Some k
        → ReadsIndex text bound c (Ok (record { value = k; to = ahead_to c end }))
    unfolding stepped
    index_right i {k} z h =
        let found = subst (SlotAnswer bound (word_in text place end)) h z in
        record {
          answer =
              record {
                index = found.index;
                run = λ x n at o b.
                    word_goes x n (it_index at o) (wants_index at o) f
                    (step_is at o b ∙ ap (λ (m : Option ℕ). stepped m at o) found.spelled);
                slotted = found.slotted;
                bounded = found.bounded;
                begun = refl;
                top = refl;
                ahead = omega (arith, f.from, f.ahead);
                within = f.within;
              };
        }

  -- ---- K of `when`

  pub test_missing : {r : Refusal} → Misses a_word text c.at r → ReadsTest text c (Err r)
  test_missing m = record { answer = λ p x n at o. no_word x n (when_test at o) (wants_test at o) m }

  module _
      {place end : ℕ} {j : std.Option ℕ} (f : Found text c.at (word (word_in text place end)) place end)
      (z : j ≡ test_or_none (look_word test_words (word_in text place end))) where
    pub test_wrong : {r : Refusal} → (j ≡ None) × Misplaced r place → ReadsTest text c (Err r)
    unfolding where_some test_or_none
    test_wrong h =
        record {
          answer = λ p x n at o.
              word_misplaced x n (when_test at o) (wants_test at o) f
              (pick (look_word test_words (word_in text place end)) (sym h.0 ∙ z) at o) h.1;
        }
      where
        pick : (m : Option Test) → None ≡ test_or_none m → (at : ℕ) (o : Around)
            → where_some {Q = State} m (λ t. go (want (place_open (in_result at (tests t) o)))) ≡ misplaced
        pick none i at o = refl
        pick (some t) i at o = absurd (cc)

    pub test_right : {k : ℕ} → j ≡ Some k → ReadsTest text c (Ok (record { operand = k; payload = 0; to = ahead_to c end }))
    unfolding where_some test_or_none after use_code use_operand
    test_right {k} h =
        record { answer = λ p. pick p (look_word test_words (word_in text place end)) refl (sym h ∙ z) }
      where
        pick
            : (p : List ℕ) (m : Option Test) → look_word test_words (word_in text place end) ≡ m → Some k ≡ test_or_none m
            → OperandRead (λ at o. when_test at o) 10 text p c k 0 (ahead_to c end)
        pick p none e i = absurd (cc)
        pick p (some t) e i =
            let same : k ≡ test_code t = cc in
            record {
              half = placing (tests t);
              run = λ x n at o. word_goes x n (when_test at o) (wants_test at o) f (rw e);
              held = rw same (placing_held {u = tests t} (omega arith));
              begun = refl;
              ahead = omega (arith, f.from, f.ahead);
              within = f.within;
              grows = omega arith;
              room = omega (arith, f.from, f.ahead);
              bare = inl refl;
            }

  -- ---- N of `num`

  pub number_missing : {r : Refusal} → Misses a_word text c.at r → ReadsNumber text c (Err r)
  number_missing m = record { answer = λ p x n at o. no_word x n (num_number at o) (wants_number at o) m }

  module _
      {place end : ℕ} (d : std.Option Decimal) (f : Found text c.at (word (word_in text place end)) place end)
      (z : WordAnswer (word_in text place end) d) where
    pub number_wrong : {r : Refusal} → (d ≡ None) × Misplaced r place → ReadsNumber text c (Err r)
    unfolding where_some
    number_wrong h =
        let none_there : word_number (word_in text place end) ≡ none = subst (WordAnswer (word_in text place end)) h.0 z in
        record { answer = λ p x n at o. word_misplaced x n (num_number at o) (wants_number at o) f (rw none_there) h.1 }

    module _ {n : Decimal} (h : d ≡ Some n) where
      means : WordMeans (word_in text place end) (as_number n.negative n.coefficient n.scale)
      means = subst (WordAnswer (word_in text place end)) h z

      pub scale_small : n.scale ≤ 9
      unfolding most_scale
      scale_small = means.bounded.scale

      pub number_right
          : {bits : ℕ} → bits ≡ sign_bit n.negative + 2 * n.scale
          → ReadsNumber text c (Ok (record { operand = bits; payload = n.coefficient; to = ahead_to c end }))
      unfolding where_some literal_step after next literal_code number_bits most_scale
      number_right g =
          let number = as_number n.negative n.coefficient n.scale in
          record {
            answer = λ p.
                record {
                  half = bare (Lead.saying (Value.number number));
                  run = λ x m at o.
                      word_goes x m (num_number at o) (wants_number at o) f
                      (rw means.spelled (ap (λ (v : Number). go (want (Want.result_close (Result.literal at (Value.number v)) o))) (sym means.meaning)));
                  held =
                      rw g
                      (bare_literal (number_payload {x = number}) (omega (arith, sign_small n.negative, means.bounded.scale)) (omega arith));
                  begun = refl;
                  ahead = omega (arith, f.from, f.ahead);
                  within = f.within;
                  grows = omega arith;
                  room = omega (arith, f.from, f.ahead);
                  bare = inl refl;
                };
          }

-- ---- texts

module _ (c : Cursor) {text : Bytes} {p : List ℕ} {end n : ℕ} where
  pub quoted_refers
      : {k place : ℕ} → FoundText text c.at p c.top place end n → k ≡ reference c.top n
      → Refers (take (c.top + (n + 7) / 8) p) (text_in p c.top n) k
  quoted_refers t g = rw g (text_refers p c.top n t.size t.room)

  -- where it stands fits a word
  pub text_small
      : {p₀ : List ℕ} {place : ℕ} → TextPlaced text p₀ c.at c.top → FoundText text c.at p c.top place end n
      → (c.top < 65536) × (n ≤ 65536)
  text_small r t = (
    omega (arith, r.small, r.within),
    omega (arith, t.shorter, t.found.within, r.short),
  )

module _ (c : Cursor) {text : Bytes} {p₀ p : List ℕ} (kept : Kept p₀ p c.top) where
  pub text_missing : {r : Refusal} → Misses a_text text c.at r → ReadsText text p₀ p c (Err r)
  text_missing m = record { answer = m; kept = kept }

  pub text_right
      : {place end n k : ℕ} → FoundText text c.at p c.top place end n → k ≡ reference c.top n
      → ReadsText text p₀ p c (Ok (record { value = k; to = record { at = end; begun = c.begun; top = c.top + (n + 7) / 8 } }))
  text_right {place} {n} t g =
      record {
        answer =
            record {
              bytes = text_in p c.top n;
              place = place;
              found = t.found;
              refers = quoted_refers c t g;
              begun = refl;
              grows = omega arith;
              room = omega (arith, t.found.from, t.shorter);
            };
        kept = kept;
      }

-- ---- what stands behind the word of a result

when_started : {k : ℕ} {f : ℕ → Around → Want} → Started k f → k ≡ 10 → f ≡ (λ at o. when_test at o)
when_started (starts_use l) i = absurd (let z : ⊥ = omega arith in z)
when_started starts_when i = refl
when_started starts_if i = absurd (let z : ⊥ = omega arith in z)
when_started starts_num i = absurd (let z : ⊥ = omega arith in z)
when_started starts_str i = absurd (let z : ⊥ = omega arith in z)
when_started starts_yes i = absurd (let z : ⊥ = omega arith in z)
when_started starts_no i = absurd (let z : ⊥ = omega arith in z)
when_started starts_none i = absurd (let z : ⊥ = omega arith in z)
when_started starts_pack i = absurd (let z : ⊥ = omega arith in z)

num_started : {k : ℕ} {f : ℕ → Around → Want} → Started k f → k ≡ 12 → f ≡ (λ at o. num_number at o)
num_started (starts_use l) i = absurd (let z : ⊥ = omega arith in z)
num_started starts_when i = absurd (let z : ⊥ = omega arith in z)
num_started starts_if i = absurd (let z : ⊥ = omega arith in z)
num_started starts_num i = refl
num_started starts_str i = absurd (let z : ⊥ = omega arith in z)
num_started starts_yes i = absurd (let z : ⊥ = omega arith in z)
num_started starts_no i = absurd (let z : ⊥ = omega arith in z)
num_started starts_none i = absurd (let z : ⊥ = omega arith in z)
num_started starts_pack i = absurd (let z : ⊥ = omega arith in z)

str_started : {k : ℕ} {f : ℕ → Around → Want} → Started k f → k ≡ 13 → f ≡ (λ at o. str_text at o)
str_started (starts_use l) i = absurd (let z : ⊥ = omega arith in z)
str_started starts_when i = absurd (let z : ⊥ = omega arith in z)
str_started starts_if i = absurd (let z : ⊥ = omega arith in z)
str_started starts_num i = absurd (let z : ⊥ = omega arith in z)
str_started starts_str i = refl
str_started starts_yes i = absurd (let z : ⊥ = omega arith in z)
str_started starts_no i = absurd (let z : ⊥ = omega arith in z)
str_started starts_none i = absurd (let z : ⊥ = omega arith in z)
str_started starts_pack i = absurd (let z : ⊥ = omega arith in z)

-- an answer for one code and what comes behind its word is one for another name of these
answer_for
    : {code k : ℕ} {f g : ℕ → Around → Want} (text : Bytes) (p : List ℕ) (c : Cursor) (r : std.Result Operand Refusal) → code ≡ k → f ≡ g
    → OperandAnswer g k text p c r → OperandAnswer f code text p c r
answer_for {k} {f} text p c r e i a =
    subst (λ (n : ℕ). OperandAnswer f n text p c r) (sym e)
    (subst (λ (h : ℕ → Around → Want). OperandAnswer h k text p c r) (sym i) a)

module _ (c : Cursor) {text : Bytes} (p : List ℕ) {code : ℕ} where
  pub test_operand : {r : std.Result Operand Refusal} → ReadsTest text c r → code ≡ 10 → ReadsOperand text p p code c r
  test_operand {r} y e = record { answer = λ f s. answer_for text p c r e (when_started s e) (y.answer p); kept = record { size = refl; front = refl } }

  pub number_operand : {r : std.Result Operand Refusal} → ReadsNumber text c r → code ≡ 12 → ReadsOperand text p p code c r
  number_operand {r} y e = record { answer = λ f s. answer_for text p c r e (num_started s e) (y.answer p); kept = record { size = refl; front = refl } }

module _ (c : Cursor) {text : Bytes} {p₀ p : List ℕ} {code : ℕ} where
  pub str_refused
      : {r : Refusal} → ReadsText text p₀ p c (Err r) → code ≡ 13 → ReadsOperand text p₀ p code c (Err r)
  str_refused {r} y e =
      record {
        answer = λ f s.
            answer_for text p c (Err r) e (str_started s e)
            (λ x m at o. no_text x m (str_text at o) (wants_str at o) y.answer);
        kept = y.kept;
      }

  pub str_read
      : {said : Payload} → ReadsText text p₀ p c (Ok said) → code ≡ 13
      → ReadsOperand text p₀ p code c (Ok (record { operand = 0; payload = said.value; to = said.to }))
  unfolding literal_step after next literal_code number_bits
  str_read {said} y e =
      let t : TextRead text p c said.value said.to = y.answer in
      record {
        answer = λ f s.
            answer_for text p c (Ok (record { operand = 0; payload = said.value; to = said.to })) e (str_started s e)
            (record {
              half = bare (Lead.saying (Value.text t.bytes));
              run = λ x m at o. text_goes x m (str_text at o) (wants_str at o) t.found refl;
              held = bare_literal {v = Value.text t.bytes} (text_payload t.refers) (omega arith) (omega arith);
              begun = t.begun;
              ahead = omega (arith, t.found.from, t.found.ahead);
              within = t.found.within;
              grows = t.grows;
              room = t.room;
              bare = inr refl;
            });
        kept = y.kept;
      }

use_plain : (u : PlaceUse) → use_code u < 10 → use_operand u ≡ 0
unfolding use_code use_operand
use_plain (converts t) h = refl
use_plain keeps h = refl
use_plain counts h = refl
use_plain maps h = refl
use_plain (tests k) h = absurd (let z : ⊥ = omega arith in z)

-- of any other result there is none
module _ (c : Cursor) {text : Bytes} {p : List ℕ} (inside : c.at ≤ length text) where
  nothing
      : {code payload : ℕ} (f : ℕ → Around → Want) (h : Half) → ((at : ℕ) (o : Around) → f at o ≡ after h at o)
      → HalfHeld (take c.top p) h code 0 payload → OperandRead f code text p c 0 payload c
  nothing f h e held =
      record {
        half = h;
        run = λ x n at o. ap (λ (w : Want). reading x n text (want w) c.at) (e at o);
        held = held;
        begun = refl;
        ahead = omega arith;
        within = inside;
        grows = omega arith;
        room = omega arith;
        bare = inl refl;
      }

  plain
      : {code : ℕ} {f : ℕ → Around → Want} → Started code f → (code ≡ 10 → ⊥) → (code ≡ 12 → ⊥) → (code ≡ 13 → ⊥)
      → OperandRead f code text p c 0 0 c
  unfolding after next literal_code number_bits
  plain (starts_use {u} l) i j k =
      nothing (λ at o. place_open (in_result at u o)) (placing u) (λ at o. refl)
      (subst (λ (k : ℕ). HalfHeld (take c.top p) (placing u) (use_code u) k 0) (use_plain u l) (placing_held {u = u} (omega arith)))
  plain starts_when i j k = absurd (i refl)
  plain starts_if i j k = nothing _ (bare Lead.choosing) (λ at o. refl) bare_if
  plain starts_num i j k = absurd (j refl)
  plain starts_str i j k = absurd (k refl)
  plain starts_yes i j k = nothing _ (bare (Lead.saying (Value.bool true))) (λ at o. refl) (bare_literal yes_payload (omega arith) (omega arith))
  plain starts_no i j k = nothing _ (bare (Lead.saying (Value.bool false))) (λ at o. refl) (bare_literal no_payload (omega arith) (omega arith))
  plain starts_none i j k = nothing _ (bare (Lead.saying Value.null)) (λ at o. refl) (bare_literal null_payload (omega arith) (omega arith))
  plain starts_pack i j k = nothing _ (bare Lead.packing) (λ at o. refl) bare_pack

  pub no_operand
      : {code : ℕ} → (code ≡ 10 → ⊥) → (code ≡ 12 → ⊥) → (code ≡ 13 → ⊥) → ReadsOperand text p p code c (Ok (record { operand = 0; payload = 0; to = c }))
  no_operand i j k = record { answer = λ f s. plain s i j k; kept = record { size = refl; front = refl } }
