-- A call that is first tried under fewer values: what it accepts is the call's answer at the set itself, and what it does not accept
-- keeps the output, so that the call can begin anew. Assumes nothing.
use Prim.Native.Nat.{ℕ, ◌+◌, ◌-◌, ◌*◌, ◌/◌, ◌<◌, ◌≤◌, min}
use native.Mathlib.Nat.{le_trans}
use native.Mathlib.Omega.{arith}
use mathlib.Core.Path.{◌≡◌, refl, sym, ap, ◌∙◌}
use mathlib.Core.Bool.{Bool, true, false}
use mathlib.Core.List.{[], ◌∷◌}
use lib.ListN.{length}
use lib.Dec.{ltb}
use Rattle.definitions.specs.declared.Limits.{Limits}
use Rattle.definitions.specs.declared.Answer.{Answer}
use Rattle.definitions.specs.declared.Format.{Format}
use Rattle.definitions.specs.declared.Format.TheVariants.{Json}
use Rattle.definitions.specs.Bytes.{Bytes}
use Rattle.definitions.specs.Operations.{Done, Judged, passed, stopped, TextOut, slices_short, source, written, finish, say, plain_judged}
use Rattle.definitions.specs.Operations.{infer_judged, admits_judged, run_judged}
use Rattle.definitions.specs.WorkSlices.{form_words, shape_words, name_words, most_values, value_words, text_words, most_reader_forms}
use Rattle.definitions.specs.WorkSlices.{reader_words, reader_texts, bound_words, result_words, for_document, for_shape_document}
use Rattle.definitions.specs.WorkSlices.{for_grown_document, for_reader_document}
use Rattle.laws.specs.Chain.{ProperSource}
use Rattle.laws.specs.Ends.{Comes, finishes_as}
use Rattle.laws.specs.Judging.{Positive, finish_zero, deliver_short, deliver_room}
use Rattle.laws.specs.Larger.{Larger, ReadsOn}
use Rattle.laws.proofs.LargerLimits.{json_reads_on, plain_kept, infer_kept, admits_kept, run_kept}
use Rattle.laws.proofs.Positives.{source_numbered, plain_positive, infer_positive, admits_positive, run_positive}
use Rattle.laws.proofs.Theorems.{json_proper}
use Rattle.slices.specs.Fewer.{with_values}
use Rattle.slices.specs.Small.{Small}
use Rattle.slices.specs.Long.{two_long, three_long, five_long}

-- ---- a source of any format

proper : (f : Format) → ProperSource (source f)
unfolding source
proper Json = json_proper

reads_on : (f : Format) → ReadsOn (source f)
unfolding source
reads_on Json = json_reads_on

-- ---- the end of an operation

-- what is judged first, and what in its stead where that is not accepted
pub record Tried {A : Type 0} (j k : Judged A) : Type 0 where
  pub positive : Positive j
  pub kept : (a : A) → j ≡ passed a → k ≡ passed a

-- where nothing is accepted the output is as it was
kept_output : (out : Bytes) (j : Judged TextOut) → ((finish out j).answer.number ≡ 0 → ⊥) → (finish out j).output ≡ out
unfolding finish written
kept_output out (passed t) f = go (ltb (length out) (length t.bytes)) refl
  where
    go : (b : Bool) → ltb (length out) (length t.bytes) ≡ b → (finish out (passed t)).output ≡ out
    go true q = ap (λ (d : Done). d.output) (deliver_short out t q)
    go false q = absurd (f (ap (λ (d : Done). d.answer.number) (deliver_room out t q)))
kept_output out (stopped r) f = refl

module _ {j k : Judged TextOut} (tried : Tried j k) (out : Bytes) {a : Answer} {out' : Bytes} (c : Comes (finish out j) a out') where
  pub accepted : a.number ≡ 0 → Comes (finish out k) a out'
  accepted z =
      let (t, e, room) = finish_zero out j tried.positive (ap (λ (x : Answer). x.number) (sym c.0) ∙ z) in
      finishes_as out (tried.kept t e ∙ sym e) c

  pub keeps : (a.number ≡ 0 → ⊥) → out' ≡ out
  keeps f = c.1 ∙ kept_output out j (λ z. f (ap (λ (x : Answer). x.number) c.0 ∙ z))

-- begun anew behind what kept the output
pub again
    : (k : Judged TextOut) {out out' : Bytes} → out' ≡ out → {r : Answer} {out'' : Bytes} → Comes (finish out' k) r out''
    → Comes (finish out k) r out''
again k same d = (d.0 ∙ ap (λ (o : Bytes). (finish o k).answer) same, d.1 ∙ ap (λ (o : Bytes). (finish o k).output) same)

-- of an operation without an output
pub said_accepted : {j k : Judged Bool} → Tried j k → {a : Answer} → a ≡ say j → a.number ≡ 0 → a ≡ say k
unfolding say
said_accepted {j} {k} tried {a} c z = go j tried.positive c tried.kept
  where
    go : (x : Judged Bool) → Positive x → a ≡ say x → ((y : Bool) → x ≡ passed y → k ≡ passed y) → a ≡ say k
    go (passed y) h e kept = e ∙ sym (ap say (kept y refl))
    go (stopped r) h e kept = absurd (let w = sym (ap (λ (x : Answer). x.number) e) ∙ z in let f : ⊥ = omega arith in f)

-- ---- under fewer values

module _ (l few : Limits) (e : few ≡ with_values l (min l.values 32)) where
  pub few_small : Small l → Small few
  few_small small =
      rw e
      record {
        bytes = small.bytes;
        values = omega (arith, small.values);
        nesting = small.nesting;
        steps = small.steps;
        one_form = omega (arith, small.one_form);
        one_level = small.one_level;
      }

  few_larger : Larger few l
  few_larger = rw e record { bytes = omega arith; values = omega arith; nesting = omega arith; steps = omega arith }

  few_values : few.values ≤ 32
  few_values = rw e (omega arith)

  module _ (n : ℕ) where
    values_few : value_words few n ≤ 96
    values_few = omega (arith, few_values)

    texts_few : n < 384 → text_words few n ≤ 79
    texts_few h = at (min few.bytes n) (most_values few n) (omega (arith, h)) (omega (arith, few_values))
      where
        at : (b v : ℕ) → b < 384 → v ≤ 32 → (b + 8 * v - 2) / 8 ≤ 79
        at b v g h = omega arith

    names_few : n < 768 → name_words few n ≤ 96
    names_few h = omega (arith, h)

    reader_texts_few : n < 384 → reader_texts few n ≤ 68
    reader_texts_few h = at (min few.bytes n) (most_reader_forms few n) (omega (arith, h)) (omega (arith, few_values))
      where
        at : (b v : ℕ) → b < 384 → v ≤ 32 → (b + 5 * v + 6) / 8 ≤ 68
        at b v g h = omega arith

    pub few_document : n < 384 → slices_short (for_document few n) (96 ∷ 79 ∷ []) ≡ false
    few_document h = two_long (value_words few n) (text_words few n) 96 79 values_few (texts_few h)

  module _ (n m : ℕ) (h : m < 384) where
    pub few_grown_document : n < 768 → slices_short (for_grown_document few n m) (64 ∷ 96 ∷ 175 ∷ []) ≡ false
    few_grown_document g =
        three_long (form_words few) (value_words few m) (name_words few n + text_words few m) 64 96 175 (omega (arith, few_values)) (values_few m)
        (omega (arith, names_few n g, texts_few m h))

    pub few_shape_document : n < 768 → slices_short (for_shape_document few n m) (64 ∷ 96 ∷ 175 ∷ []) ≡ false
    few_shape_document g =
        three_long (shape_words few n) (value_words few m) (name_words few n + text_words few m) 64 96 175 (omega (arith, few_values)) (values_few m)
        (omega (arith, names_few n g, texts_few m h))

    pub few_reader_document
        : l.nesting ≤ 32 → n < 384 → slices_short (for_reader_document few n m) (96 ∷ 96 ∷ 96 ∷ 32 ∷ 147 ∷ []) ≡ false
    few_reader_document d g =
        five_long (reader_words few n) (value_words few m) (result_words few) (bound_words few) (reader_texts few n + text_words few m) 96 96 96 32 147
        (omega (arith, few_values)) (values_few m) (omega (arith, few_values)) (le_trans few_larger.nesting d)
        (omega (arith, reader_texts_few n g, texts_few m h))

  -- ---- the operations

  module _ (f : Format) where
    pub plain_tried : (document : Bytes) → Tried (plain_judged (source f) few document) (plain_judged (source f) l document)
    plain_tried document =
        record {
          positive = plain_positive (source f) few (source_numbered (proper f) few) document;
          kept = plain_kept few l few_larger (source f) (reads_on f) document;
        }

    module _ (text document : Bytes) where
      pub infer_tried : Tried (infer_judged (source f) few text document) (infer_judged (source f) l text document)
      infer_tried =
          record {
            positive = infer_positive (source f) few (source_numbered (proper f) few) text document;
            kept = infer_kept few l few_larger (source f) (reads_on f) text document;
          }

      pub admits_tried : Tried (admits_judged (source f) few text document) (admits_judged (source f) l text document)
      admits_tried =
          record {
            positive = admits_positive (source f) few (source_numbered (proper f) few) text document;
            kept = admits_kept few l few_larger (source f) (reads_on f) text document;
          }

      pub run_tried : Tried (run_judged (source f) few text document) (run_judged (source f) l text document)
      run_tried =
          record {
            positive = run_positive (source f) few (source_numbered (proper f) few) text document;
            kept = run_kept few l few_larger (source f) (reads_on f) text document;
          }
