-- Demand 3 over C calls, proved: what the host reads from the buffers is what the operations came to. Assumes nothing.
use Rattle.std.specs.Prelude.{ℕ, ◌≤◌, ◌≡◌, Bool, true, false, length, drop}
use Rattle.std.proofs.Common.{arith, le_trans, sym, ◌∙◌, subst}
use Rattle.std.proofs.Math.Path.{refl, ap}
use mathlib.Core.List.{List, [], ◌∷◌, ◌++◌, map}
use Rattle.std.proofs.Math.ListN.{take}
use Rattle.std.proofs.Math.Seq.{take-append_seam}
use Rattle.definitions.specs.declared.Limits.{Limits}
use Rattle.definitions.specs.declared.Answer.{Answer}
use Rattle.definitions.specs.Bytes.{Bytes}
use Rattle.definitions.specs.Outcome.{ok}
use Rattle.definitions.specs.Value.{Value}
use Rattle.definitions.specs.Plain.{plain}
use Rattle.definitions.specs.Shape.{Shape}
use Rattle.definitions.specs.Join.{join, shape_of}
use Rattle.definitions.specs.Admits.{admits}
use Rattle.definitions.specs.ShapeText.{read_shape, write_shape}
use Rattle.definitions.specs.Reader.{Result}
use Rattle.definitions.specs.Running.{Ran, run_reader}
use Rattle.definitions.specs.Operations.{Done, Source, refusal, output_short, written, check_operation}
use Rattle.definitions.specs.Calls.{Called, answered, call, buffer_published, buffer_lent, infer_call, check_call, run_call}
use Rattle.laws.specs.LimitRanges.{bounds_of}
use Rattle.laws.specs.Judging.{shape_fits}
use Rattle.laws.specs.Chain.{Each, each_none, each_one, Reordered, Call, start, infers, takes, left_by, reached, accepted, LongEnough}
use Rattle.laws.specs.Chain.{Ends, gives, short_work, out_of_steps, too_large, no_room, Passes, ProperSource, InRange, Demand3}
use Rattle.laws.proofs.ChainSteps.{Accepted, infers_written, left_taken, refused_left, taken_accepted}
use Rattle.laws.proofs.ChainReaders.{Passed, check_passed}
use Rattle.laws.proofs.Demand3.{demand_3}
use Rattle.laws.specs.AnswerWords.{word_at, InWord}
use Rattle.laws.specs.AnswerWordsRead.{answered_long, length_back}
use Rattle.laws.specs.CallLaws.{lent_long, short_lent, long_lent, call_long, call_short}
use Rattle.laws.specs.HostChain.{InferCall, handed_on, calls, accepts, kept_text, reached_text, accepted_samples, LongBuffers}
use Rattle.laws.specs.HostChain.{CallEnds, PassesCall, Demand3OverCalls}
use Rattle.laws.specs.HostChain as Host

-- ---- the length that the host reads

-- the answer of a success of so many bytes
length_read
    : (buffer : Bytes) (a : Answer) (k : ℕ) → 40 ≤ length buffer → a ≡ written k 0 false → k ≤ 16384
    → word_at 2 (answered buffer a) ≡ a.length
unfolding written
length_read buffer a k h e small =
    length_back buffer a h (subst (λ (x : Answer). InWord x.length) (sym e) (let n : InWord k = omega arith in n))

-- ---- infer

-- the operation that a call is
pub as_operation : InferCall → Call
as_operation c = record { sample = c.sample; output = c.output; lent = buffer_lent c.answer }

module _ (source : Source) (proper : ProperSource source) (l : Limits) (range : InRange l) where
  accepts_as : (c : InferCall) (t : Bytes) → accepts source l c t ≡ takes source buffer_published l (as_operation c) t
  unfolding accepts calls infer_call call takes infers as_operation
  accepts_as c t = refl

  answer_as
      : (c : InferCall) (t : Bytes)
      → (calls source l c t).answer ≡ answered c.answer (infers source buffer_published l (as_operation c) t).answer
  unfolding calls infer_call call infers as_operation
  answer_as c t = refl

  output_as : (c : InferCall) (t : Bytes) → (calls source l c t).output ≡ (infers source buffer_published l (as_operation c) t).output
  unfolding calls infer_call call infers as_operation
  output_as c t = refl

  infer_length
      : (c : InferCall) (t : Bytes) (s : Shape) (v : Value) → Accepted source buffer_published l (as_operation c) t s v
      → word_at 2 (calls source l c t).answer ≡ (infers source buffer_published l (as_operation c) t).answer.length
  unfolding as_operation
  infer_length c t s v a =
      ap (word_at 2) (answer_as c t)
      ∙ length_read c.answer _ (length (write_shape (join s (shape_of v)))) (long_lent c.answer a.work)
      (ap (λ (d : Done). d.answer) (infers_written source buffer_published l (as_operation c) t s v a))
      (le_trans (shape_fits l (join s (shape_of v)) a.fits).2 (bounds_of range).bytes.1)

  handed_as
      : (c : InferCall) (t : Bytes) (s : Shape) (v : Value) → Accepted source buffer_published l (as_operation c) t s v
      → handed_on (calls source l c t)
      ≡ take (infers source buffer_published l (as_operation c) t).answer.length (infers source buffer_published l (as_operation c) t).output
  unfolding handed_on
  handed_as c t s v a =
      ap (λ (k : ℕ). take k (calls source l c t).output) (infer_length c t s v a)
      ∙ ap (λ (o : Bytes). take (infers source buffer_published l (as_operation c) t).answer.length o) (output_as c t)

  kept_taken : (c : InferCall) (t : Bytes) → accepts source l c t ≡ true → kept_text source l c t ≡ handed_on (calls source l c t)
  unfolding kept_text
  kept_taken c t e = rw (e, kept_text)

  kept_refused : (c : InferCall) (t : Bytes) → accepts source l c t ≡ false → kept_text source l c t ≡ t
  unfolding kept_text
  kept_refused c t e = rw (e, kept_text)

  kept_as : (c : InferCall) (t : Bytes) → kept_text source l c t ≡ left_by source buffer_published l (as_operation c) t
  kept_as c t = go (accepts source l c t) refl
    where
      go : (b : Bool) → accepts source l c t ≡ b → kept_text source l c t ≡ left_by source buffer_published l (as_operation c) t
      go true e =
          let e' = sym (accepts_as c t) ∙ e in
          let (s, v, a) = taken_accepted source buffer_published l proper (as_operation c) t e' in
          kept_taken c t e ∙ handed_as c t s v a ∙ sym (left_taken source buffer_published l (as_operation c) t e')
      go false e =
          kept_refused c t e ∙ sym (refused_left source buffer_published l (as_operation c) t (sym (accepts_as c t) ∙ e))

  -- ---- lists of calls

  pub reached_as
      : (cs : List InferCall) (t : Bytes)
      → reached source buffer_published l (map as_operation cs) t ≡ reached_text source l cs t
  unfolding reached reached_text
  reached_as [] t = refl
  reached_as (c ∷ cs) t =
      ap (λ (x : Bytes). reached source buffer_published l (map as_operation cs) x) (sym (kept_as c t)) ∙ reached_as cs (kept_text source l c t)

  choice : Bool → Bytes → List Bytes → List Bytes
  choice b d ds = elim b [ true ↦ d ∷ ds | false ↦ ds ]

  accepted_as
      : (cs : List InferCall) (t : Bytes)
      → accepted source buffer_published l (map as_operation cs) t ≡ accepted_samples source l cs t
  unfolding accepted accepted_samples choice as_operation
  accepted_as [] t = refl
  accepted_as (c ∷ cs) t =
      ap (λ (b : Bool). choice b c.sample (accepted source buffer_published l (map as_operation cs) (left_by source buffer_published l (as_operation c) t)))
      (sym (accepts_as c t))
      ∙ ap (λ (ds : List Bytes). choice (accepts source l c t) c.sample ds)
      (ap (λ (x : Bytes). accepted source buffer_published l (map as_operation cs) x) (sym (kept_as c t)) ∙ accepted_as cs (kept_text source l c t))

samples_as : (cs : List InferCall) → map (λ (c : Call). c.sample) (map as_operation cs) ≡ map (λ (c : InferCall). c.sample) cs
unfolding as_operation
samples_as [] = refl
samples_as (c ∷ cs) = ap (λ (ds : List Bytes). c.sample ∷ ds) (samples_as cs)

long_as : (text : Bytes) (cs : List InferCall) → Each (LongBuffers text) cs → Each (LongEnough buffer_published text) (map as_operation cs)
unfolding as_operation
long_as text [] each_none = each_none
long_as text (c ∷ cs) (each_one h hs) =
    each_one (record { work = lent_long c.answer h.words; room = h.room }) (long_as text cs hs)

-- ---- check and run

-- an end of the operation is one of the call
ends_call
    : {l : Limits} {r : Result} {v : Value} {u : Shape} {output : Bytes} {d : Done} (answer : Bytes)
    → Ends buffer_published (buffer_lent answer) l r v u output d → CallEnds l r v u output answer (call answer d)
unfolding written refusal output_short
ends_call {l} {r} {v} {u} {output} answer (gives x w e a f room) =
    subst (CallEnds l r v u output answer) (sym (call_long answer _ (long_lent answer w))) (Host.gives x (long_lent answer w) e a f room)
ends_call {l} {r} {v} {u} {output} answer (short_work w) =
    subst (CallEnds l r v u output answer) (sym (call_short answer _ (short_lent answer w))) (Host.short_answer (short_lent answer w))
ends_call {l} {r} {v} {u} {output} answer (out_of_steps p w e) =
    subst (CallEnds l r v u output answer) (sym (call_long answer _ (long_lent answer w))) (Host.out_of_steps p (long_lent answer w) e)
ends_call {l} {r} {v} {u} {output} answer (too_large x w e f) =
    subst (CallEnds l r v u output answer) (sym (call_long answer _ (long_lent answer w))) (Host.too_large x (long_lent answer w) e f)
ends_call {l} {r} {v} {u} {output} answer (no_room x w e f short) =
    subst (CallEnds l r v u output answer) (sym (call_long answer _ (long_lent answer w))) (Host.no_room x (long_lent answer w) e f short)

-- what the host reads behind a run that gave 0 is the plain JSON of what the reader gave
pub result_handed_on
    : {l : Limits} {r : Result} {v : Value} {u : Shape} {output answer : Bytes} {c : Called} → CallEnds l r v u output answer c
    → c.number ≡ 0 → InWord (length output)
    → (x : Ran Value) × (run_reader r l v ≡ ok x) × (admits u x.result ≡ true) × (handed_on c ≡ plain x.result)
unfolding handed_on written
result_handed_on {output = output} {answer} (Host.gives x h e a f room) z small = (
  x,
  e,
  a,
  ap (λ (k : ℕ). take k (plain x.result ++ drop (length (plain x.result)) output))
      (ap (word_at 2) (sym (answered_long answer (written (length (plain x.result)) x.steps false) h))
      ∙ length_back answer (written (length (plain x.result)) x.steps false) h
      (let n : InWord (length (plain x.result)) = omega arith in n))
      ∙ take-append_seam (plain x.result) _,
)
result_handed_on (Host.short_answer h) z small = absurd (let w : ⊥ = omega arith in w)
result_handed_on (Host.out_of_steps p h e) z small = absurd (let w : ⊥ = omega arith in w)
result_handed_on (Host.too_large x h e f) z small = absurd (let w : ⊥ = omega arith in w)
result_handed_on (Host.no_room x h e f room) z small = absurd (let w : ⊥ = omega arith in w)

module _ (l : Limits) (range : InRange l) where
  pub check_length
      : (reader text output answer : Bytes) (r : Result) (s u : Shape)
      → Passed buffer_published (buffer_lent answer) l reader text output r s u
      → word_at 2 (check_call l reader text output answer).answer
      ≡ (check_operation buffer_published (buffer_lent answer) l reader text output).answer.length
  unfolding check_call call
  check_length reader text output answer r s u p =
      length_read answer _ (length (write_shape u)) (long_lent answer p.work) p.answer
      (le_trans (shape_fits l u p.fits).2 (bounds_of range).bytes.1)

  passes_call
      : (source : Source) (shape : Shape) (reader text output answer : Bytes) → (check_call l reader text output answer).number ≡ 0
      → Passes source buffer_published buffer_published l shape reader (buffer_lent answer) output text
      → PassesCall source l shape reader (check_call l reader text output answer)
  unfolding check_call run_call call handed_on
  passes_call source w reader text output answer e p =
      let (r, s, u, q) = check_passed buffer_published (buffer_lent answer) l reader text output e in
      record {
        result = p.result;
        wrote =
            ap (λ (k : ℕ). read_shape l (take k (check_operation buffer_published (buffer_lent answer) l reader text output).output))
            (check_length reader text output answer r s u q)
            ∙ p.wrote;
        form = p.form;
        reads = p.reads;
        ends = λ document output' answer' v d m. ends_call answer' (p.ends document output' (buffer_lent answer') v d m);
      }

  number_as
      : (reader text output answer : Bytes) → (check_call l reader text output answer).number ≡ 0
      → (check_operation buffer_published (buffer_lent answer) l reader text output).answer.number ≡ 0
  unfolding check_call call
  number_as reader text output answer e = e

-- ---- the demand

pub demand_3_over_calls
    : (source : Source) → ProperSource source → (l : Limits) → InRange l → (list : List InferCall) → Demand3OverCalls source l list
demand_3_over_calls source proper l range list =
    record {
      shape = d.shape;
      well_formed = d.well_formed;
      reads_as = ap (λ (t : Bytes). read_shape l t) (sym same_text) ∙ d.reads_as;
      short_enough = subst (λ (t : Bytes). length t ≤ l.bytes) same_text d.short_enough;
      admits_each = subst (Each _) same_samples d.admits_each;
      lies_below = λ u a e. d.lies_below u a (subst (Each _) (sym same_samples) e);
      other_order = λ others o long.
          let q =
          d.other_order (map as_operation others)
          (subst (λ (ds : List Bytes). Reordered ds (map (λ (c : Call). c.sample) (map as_operation others))) (sym same_samples)
          (subst (λ (ds : List Bytes). Reordered (accepted_samples source l list start) ds) (sym (samples_as others)) o))
          (long_as _ others (subst (λ (t : Bytes). Each (LongBuffers t) others) (sym same_text) long)) in (
            sym (accepted_as source proper l range others start) ∙ q.0 ∙ samples_as others,
            sym (reached_as source proper l range others start) ∙ q.1 ∙ same_text,
          );
      never_stuck = λ reader output answer e.
          passes_call l range source d.shape reader (reached_text source l list start) output answer e
          (subst (λ (t : Bytes). Passes source buffer_published buffer_published l d.shape reader (buffer_lent answer) output t) same_text
          (d.never_stuck reader output (buffer_lent answer)
          (number_as l range reader _ output answer
          (subst (λ (t : Bytes). (check_call l reader t output answer).number ≡ 0) (sym same_text) e))));
    }
  where
    d : Demand3 source buffer_published buffer_published buffer_published l (map as_operation list)
    d = demand_3 source proper buffer_published buffer_published buffer_published l range (map as_operation list)

    same_text : reached source buffer_published l (map as_operation list) start ≡ reached_text source l list start
    same_text = reached_as source proper l range list start

    same_samples : accepted source buffer_published l (map as_operation list) start ≡ accepted_samples source l list start
    same_samples = accepted_as source proper l range list start
