-- That demand 3 over C calls says something: with a hypothesis left out or weakened by one it is false. Every name says what
-- would go wrong. Assumes nothing.
use Rattle.std.specs.Prelude.{ℕ, suc, ◌≤◌, ◌≡◌, refl, Bool, true, false, List, [], ◌∷◌, map, length, replicate}
use Rattle.std.proofs.Common.{arith, ap, lit≤}
use Rattle.std.proofs.lemmas.Bool.{false≢true}
use Rattle.definitions.specs.declared.Limits.{Limits}
use Rattle.definitions.specs.declared.Answer.{Answer}
use Rattle.definitions.specs.Limits.{standard}
use Rattle.definitions.specs.Bytes.{Bytes, bytes}
use Rattle.definitions.specs.Outcome.{ok}
use Rattle.definitions.specs.Value.{Value}
use Rattle.definitions.specs.Json.{read_json}
use Rattle.definitions.specs.Shape.{Shape, only_null}
use Rattle.definitions.specs.Admits.{admits}
use Rattle.definitions.specs.ShapeText.{read_shape}
use Rattle.definitions.specs.Operations.{Source, refusal, output_short}
use Rattle.definitions.specs.Calls.{answered, check_call, run_call}
use Rattle.definitions.specs.Evaluate.{evaluate}
use Rattle.laws.specs.Distinct.{distinct}
use Rattle.laws.specs.Chain.{Each, each_none, each_one, Reordered, swap_first, start, Reads}
use Rattle.laws.proofs.Counterexamples.{an_int, twice, int_shape, with_a, clash, zero_source, twice_source, odd_source, odd_distinct}
use Rattle.laws.specs.AnswerWords.{from_little_endian, word_at}
use Rattle.laws.specs.HostChain.{InferCall, handed_on, calls, accepts, kept_text, reached_text, accepted_samples}
use Rattle.laws.specs.NewSamples.{CallsBelow}

-- ---- calls that serve below

-- an output of so many bytes and an answer buffer of so many
lent : (output answer : ℕ) → Bytes → InferCall
lent n k d = record { sample = d; output = replicate n 0; answer = replicate k 0 }

-- more than one
two_left : List Bytes → Bool
two_left [] = false
two_left (x ∷ []) = false
two_left (x ∷ y ∷ zs) = true

-- ---- long enough buffers

-- in another order, with an answer buffer of 39 bytes, a sample is refused
pub short_answer_loses_a_sample
    : ((list others : List InferCall)
    → Reordered (accepted_samples read_json standard list start) (map (λ c. c.sample) others)
    → Each (λ c. (39 ≤ length c.answer) × (length (reached_text read_json standard list start) ≤ length c.output)) others
    → accepted_samples read_json standard others start ≡ map (λ c. c.sample) others)
    → ⊥
unfolding evaluate start from_little_endian word_at handed_on calls accepts kept_text reached_text accepted_samples lent two_left
short_answer_loses_a_sample h =
    false≢true
    (ap two_left
    (h (lent 30 40 (bytes "1") ∷ lent 30 40 (bytes "2.5") ∷ []) (lent 30 40 (bytes "2.5") ∷ lent 30 39 (bytes "1") ∷ []) swap_first
    (each_one (lit≤ tt, lit≤ tt) (each_one (lit≤ tt, lit≤ tt) each_none))))

-- in another order, with an output one byte shorter than the 16 bytes of the text reached, a sample is refused
pub short_output_loses_a_sample
    : ((list others : List InferCall)
    → Reordered (accepted_samples read_json standard list start) (map (λ c. c.sample) others)
    → Each (λ c. (40 ≤ length c.answer) × (length (reached_text read_json standard list start) ≤ suc (length c.output))) others
    → accepted_samples read_json standard others start ≡ map (λ c. c.sample) others)
    → ⊥
unfolding evaluate start from_little_endian word_at handed_on calls accepts kept_text reached_text accepted_samples lent two_left
short_output_loses_a_sample h =
    false≢true
    (ap two_left
    (h (lent 30 40 (bytes "1") ∷ lent 30 40 (bytes "2.5") ∷ []) (lent 30 40 (bytes "2.5") ∷ lent 15 40 (bytes "1") ∷ []) swap_first
    (each_one (lit≤ tt, lit≤ tt) (each_one (lit≤ tt, lit≤ tt) each_none))))

-- ---- answers read back

-- a number that no word holds is not read back
pub number_past_a_word_is_lost
    : ((buffer : Bytes) (a : Answer) → 40 ≤ length buffer → word_at 1 (answered buffer a) ≡ a.place) → ⊥
unfolding evaluate from_little_endian word_at
number_past_a_word_is_lost h =
    let z : ◌≡◌ {A = ℕ} 0 18446744073709551616 = h (replicate 40 0) (refusal 3 1 18446744073709551616) (lit≤ tt) in
    absurd (let w : ⊥ = omega arith in w)

-- nothing is read back from a buffer of 39 bytes
pub short_buffer_is_not_read
    : ((buffer : Bytes) (a : Answer) → 39 ≤ length buffer → word_at 2 (answered buffer a) ≡ a.length) → ⊥
unfolding evaluate from_little_endian word_at
short_buffer_is_not_read h =
    let z : ◌≡◌ {A = ℕ} 0 1 = h (replicate 39 0) (output_short 1) (lit≤ tt) in absurd (let w : ⊥ = omega arith in w)

-- ---- limits in range

-- limits that the text of nothing does not keep
tiny : Limits
tiny = record { bytes = 7; values = 512; nesting = 32; steps = 65536 }

pub tiny_limits_lose_the_start : ((l : Limits) (list : List InferCall) → length (reached_text read_json l list start) ≤ l.bytes) → ⊥
unfolding evaluate start reached_text tiny
tiny_limits_lose_the_start h = let k : ◌≤◌ 8 7 = h tiny [] in absurd (let z : ⊥ = omega arith in z)

-- ---- sources

pub unnumbered_refusal_loses_the_shape
    : ((source : Source) → ((l : Limits) (document : Bytes) (v : Value) → source l document ≡ ok v → distinct v ≡ true)
    → (list : List InferCall) → (s : Shape) × (read_shape standard (reached_text source standard list start) ≡ ok s))
    → ⊥
unfolding evaluate start from_little_endian word_at handed_on calls accepts kept_text reached_text lent zero_source
unnumbered_refusal_loses_the_shape h =
    clash {n = 7} {p = 0} refl (h zero_source (λ l d v e. absurd (clash refl e)) (lent 30 40 [] ∷ [])).1

pub repeated_name_is_not_admitted
    : ((source : Source) (list : List InferCall) (s : Shape) (v : Value) (d : Bytes)
    → read_shape standard (reached_text source standard list start) ≡ ok s
    → accepted_samples source standard list start ≡ d ∷ [] → source standard d ≡ ok v → admits s v ≡ true)
    → ⊥
unfolding evaluate start from_little_endian word_at handed_on calls accepts kept_text reached_text accepted_samples
    lent twice_source twice with_a an_int int_shape
repeated_name_is_not_admitted h = false≢true (h twice_source (lent 60 40 [] ∷ []) with_a twice [] refl refl refl)

pub name_that_is_no_utf8_loses_the_shape
    : ((source : Source) → ((l : Limits) (document : Bytes) (v : Value) → source l document ≡ ok v → distinct v ≡ true)
    → (list : List InferCall) → (s : Shape) × (read_shape standard (reached_text source standard list start) ≡ ok s))
    → ⊥
unfolding evaluate start from_little_endian word_at handed_on calls accepts kept_text reached_text lent odd_source
name_that_is_no_utf8_loses_the_shape h = clash {n = 7} {p = 20} refl (h odd_source odd_distinct (lent 60 40 [] ∷ [])).1

-- ---- a reader that passed, a document that is read and admitted

reads_null : Reads read_json standard (bytes "null") Value.null
unfolding evaluate
reads_null = record { short_enough = lit≤ tt; value = refl }

-- without the check a reader gets stuck on a document that the shape reached admits
pub unchecked_reader_gets_stuck
    : ((list : List InferCall) (s : Shape) (reader document output answer : Bytes) (v : Value)
    → read_shape standard (reached_text read_json standard list start) ≡ ok s → Reads read_json standard document v → admits s v ≡ true
    → (run_call read_json standard reader document output answer).number ≡ 12 → ⊥)
    → ⊥
unfolding evaluate start from_little_endian word_at handed_on calls accepts kept_text reached_text lent
unchecked_reader_gets_stuck h =
    h (lent 30 40 (bytes "null") ∷ []) only_null (bytes "(int (it 0))") (bytes "null") [] (replicate 40 0) Value.null refl reads_null refl refl

-- a reader that passed gets stuck on a document that the shape reached does not admit
pub document_not_admitted_gets_stuck
    : ((list : List InferCall) (reader document output answer : Bytes) (v : Value)
    → (check_call standard reader (reached_text read_json standard list start) output answer).number ≡ 0
    → Reads read_json standard document v → (run_call read_json standard reader document output answer).number ≡ 12 → ⊥)
    → ⊥
unfolding evaluate start from_little_endian word_at handed_on calls accepts kept_text reached_text lent
document_not_admitted_gets_stuck h =
    h (lent 30 40 (bytes "1") ∷ []) (bytes "(int (it 0))") (bytes "null") (replicate 30 0) (replicate 40 0) Value.null refl reads_null refl

-- on a document that is not read, run is refused with a number that is none of the five
pub unread_document_is_refused
    : ((list : List InferCall) (reader document output answer : Bytes)
    → (check_call standard reader (reached_text read_json standard list start) output answer).number ≡ 0
    → (run_call read_json standard reader document output answer).number ≡ 3 → ⊥)
    → ⊥
unfolding evaluate start from_little_endian word_at handed_on calls accepts kept_text reached_text lent
unread_document_is_refused h =
    h (lent 30 40 (bytes "1") ∷ []) (bytes "(int (it 0))") (bytes "nul") (replicate 30 0) (replicate 40 0) refl refl

-- ---- what a new sample does

-- the text that another list reaches, which does not begin with the first one, is not above it, and what the checks write is not ordered
pub another_list_is_not_above
    : ((list other : List InferCall) (reader output answer : Bytes)
    → (check_call standard reader (reached_text read_json standard list start) output answer).number ≡ 0
    → (check_call standard reader (reached_text read_json standard other start) output answer).number ≡ 0
    → CallsBelow standard (handed_on (check_call standard reader (reached_text read_json standard list start) output answer))
    (handed_on (check_call standard reader (reached_text read_json standard other start) output answer)) answer)
    → ⊥
unfolding evaluate start from_little_endian word_at handed_on calls accepts kept_text reached_text lent
another_list_is_not_above h =
    let (z, w) =
    h (lent 30 40 (bytes "1") ∷ []) (lent 30 40 (bytes "\"t\"") ∷ []) (bytes "(keep (it 0))") (replicate 30 0) (replicate 40 0) refl refl in
    let n : ◌≡◌ {A = ℕ} 0 1 = w in
    absurd (let v : ⊥ = omega arith in v)
