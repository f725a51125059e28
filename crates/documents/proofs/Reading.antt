-- A document read under limits that are no tighter than they need be, and judged. Assumes nothing.
use Prim.Native.Nat.{ℕ, ◌+◌, ◌/◌, ◌≤◌, ◌<◌, min}
use native.Mathlib.Omega.{arith}
use mathlib.Core.Path.{◌≡◌, sym, ap, ◌∙◌}
use mathlib.Core.List.{List}
use lib.ListN.{length}
use Rattle.definitions.specs.declared.Limits.{Limits}
use Rattle.definitions.specs.Bytes.{Bytes}
use Rattle.definitions.specs.Outcome.{ok}
use Rattle.definitions.specs.Json.{read_json}
use Rattle.definitions.specs.declared.Format.{Format}
use Rattle.definitions.specs.declared.Format.TheVariants.{Json}
use Rattle.definitions.specs.Operations.{Source, source}
use Rattle.laws.specs.Judging.{text_long, text_reads, text_refused}
use Rattle.laws.specs.Tests.{lt-ltb}
use Rattle.laws.proofs.RoundLaws.{json_read_good}
use Rattle.laws.proofs.JsonAdequate.{json_distinct}
use Rattle.std.specs.Prelude.{Result, Ok, Err}
use Rattle.reading.specs.declared.Cause.TheVariants.{TextTooLong}
use Rattle.reading.specs.declared.Extent.{Extent}
use Rattle.reading.specs.declared.Refusal.{Refusal}
use Rattle.reading.specs.Refusals.{number_of}
use Rattle.json_reader.specs.JsonRead.{Tables, DocumentAnswer}
use Rattle.slices.specs.Fewer.{with_values}
use Rattle.documents.specs.Documents.{DocumentRoom, ReadsAs, JudgesDocument}
use Rattle.documents.proofs.FewValues.{few_values}

-- what was read under fewer values was read under the limits themselves
pub read_as
    : (l few : Limits) (doc : Bytes) (p nodes' p' : List ℕ) (top v : ℕ) (r : Result Extent Refusal)
    → few ≡ with_values l (min l.values v) → v ≡ (length doc + l.nesting) / 2 → DocumentAnswer few doc p nodes' p' top r
    → ReadsAs read_json l doc p nodes' p' top r
read_as l few doc p nodes' p' top v r e i a = go r a
  where
    same : read_json l doc ≡ read_json few doc
    same = sym (ap (λ (k : Limits). read_json k doc) (e ∙ ap (λ (n : ℕ). with_values l (min l.values n)) i) ∙ few_values l doc)

    go : (r : Result Extent Refusal) → DocumentAnswer few doc p nodes' p' top r → ReadsAs read_json l doc p nodes' p' top r
    go (Ok e') a =
        let f : read_json l doc ≡ ok a.value = same ∙ a.read in (
          a.value,
          f,
          record {
            table =
                record {
                  rows = a.held;
                  counted = a.counted;
                  within = a.within;
                  small = a.small;
                  good = json_read_good l doc a.value f;
                  names_once = json_distinct l doc a.value f;
                };
            grows = a.grows;
            front = a.front;
          },
        )
    go (Err q) a = same ∙ a

-- a document that is short enough has room under fewer values
pub few_room
    : {l few : Limits} {doc : Bytes} {nodes pool : List ℕ} {top v : ℕ} → few ≡ with_values l (min l.values v)
    → v ≡ (length doc + l.nesting) / 2 → length doc ≤ l.bytes → DocumentRoom doc nodes pool top l
    → Tables doc nodes pool top few.values
few_room {l} {few} {doc} {nodes} {pool} {top} {v} e i h r =
    let f : few.values ≡ min l.values v = ap (λ (k : Limits). k.values) e in
    record {
      rows = omega (arith, r.rows, f, i, h);
      texts = omega (arith, r.texts, f, i, h);
      used = omega (arith, r.texts);
      low = r.low;
      short = omega (arith, r.small.bytes, h);
      few = omega (arith, r.small.values, f);
    }

-- JSON is the one format
pub judges_json
    : (f : Format) (l : Limits) (doc : Bytes) (p nodes' p' : List ℕ) (top : ℕ) (r : Result Extent Refusal) → length doc ≤ l.bytes
    → ReadsAs read_json l doc p nodes' p' top r → JudgesDocument (source f) l doc p nodes' p' top r
unfolding source
judges_json Json l doc p nodes' p' top (Ok e') h (v, e, d) =
    record { answer = (v, λ k. text_reads k l read_json doc v h e, d) }
judges_json Json l doc p nodes' p' top (Err q) h e =
    record { answer = λ k. text_refused k l read_json doc (number_of q.cause) q.place h e }

pub judges_long
    : (src : Source) (l : Limits) (doc : Bytes) (p nodes' p' : List ℕ) (top : ℕ) → l.bytes < length doc
    → JudgesDocument src l doc p nodes' p' top (Err (record { cause = TextTooLong; place = 0 }))
judges_long src l doc p nodes' p' top h = record { answer = λ k. text_long k l src doc (lt-ltb _ _ h) }
