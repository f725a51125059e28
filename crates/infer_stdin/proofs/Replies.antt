-- What is told of a document: the line of a refusal, and that no reply depends on what the output held. Assumes nothing.
use Rattle.std.proofs.Common.{ℕ, ◌≤◌, ◌<◌, Bool, true, false, ltb, List, [], ◌∷◌, ◌++◌, length, take, drop, replicate}
use Rattle.std.proofs.Common.{◌≡◌, refl, sym, ap, ap₂, ◌∙◌, arith, length-append, take_at}
use Rattle.std.proofs.Math.ListN.{length-replicate}
use Rattle.definitions.specs.declared.Answer.{Answer}
use Rattle.definitions.specs.Bytes.{Bytes, bytes}
use Rattle.definitions.specs.Limits.{standard}
use Rattle.definitions.specs.Outcome.{Outcome, ok, refused}
use Rattle.definitions.specs.Value.{Value}
use Rattle.definitions.specs.Json.{read_json}
use Rattle.definitions.specs.Plain.{decimal}
use Rattle.definitions.specs.Join.{join, shape_of}
use Rattle.definitions.specs.ShapeText.{read_shape}
use Rattle.definitions.specs.Operations.{Done, Judged, passed, stopped, TextOut, output_short, written, finish, infer_judged, infer_operation}
use Rattle.definitions.specs.WorkSlices.{infer_slices}
use Rattle.laws.specs.Judging.{Numbered, Positive, bind_positive, both_positive, shape_out_positive}
use Rattle.laws.specs.Judging.{prelude_long, deliver_short, deliver_room, finish_zero, finish_written, front}
use Rattle.laws.specs.Numbered.{numbered_shape}
use Rattle.laws.proofs.Theorems.{json_proper, standard_in_range}
use Rattle.slices.specs.Long.{three_long}
use Rattle.text.specs.Writes.{Writes}
use Rattle.text.specs.WritesLaws.{writes_then, writes_as}
use Rattle.infer_stdin.specs.Reply.{refused_line, told, reply_to}
use Rattle.infer_stdin.specs.ReplyLaws.{told_taken, told_line, long_refused}

-- ---- at the front of the output

-- what is written from place 0 on is the front
writes_front : (out out' s : Bytes) {r : ℕ} → Writes out out' 0 s r → take r out' ≡ s
writes_front out out' s {r} w =
    let k : length s ≡ r = omega (arith, w.end) in
    ap (take r) w.bytes ∙ take_at s (drop r out) r k

-- ---- the line of a refusal

-- its five parts, one behind the other
pub line_front
    : (n p : ℕ) {o a b c d o' one two three : Bytes} {i j k l r : ℕ}
    → Writes o a 0 one i → Writes a b i (decimal n) j → Writes b c j two k → Writes c d k (decimal p) l → Writes d o' l three r
    → one ≡ bytes "refused " → two ≡ bytes " at " → three ≡ bytes "\n"
    → take r o' ≡ refused_line n p
unfolding refused_line
line_front n p v w x y z e f g =
    writes_front _ _ _
    (writes_then (omega arith)
    (writes_then (omega arith) (writes_then (omega arith) (writes_then (omega arith) (writes_as e v) w) (writes_as f x)) y)
    (writes_as g z))

-- ---- what is told

-- outputs of one length are told the same
told_same : (m : Judged TextOut) → Positive m → (o u : Bytes) → length o ≡ length u → told (finish o m) ≡ told (finish u m)
unfolding finish output_short
told_same (stopped r) h o u e =
    told_line (record { answer = r; output = o }) (λ z. omega (arith, z, h))
    ∙ sym (told_line (record { answer = r; output = u }) (λ z. omega (arith, z, h)))
told_same (passed t) h o u e = go (ltb (length o) (length t.bytes)) refl
  where
    go : (b : Bool) → ltb (length o) (length t.bytes) ≡ b → told (finish o (passed t)) ≡ told (finish u (passed t))
    go true q =
        ap told (deliver_short o t q)
        ∙ told_line _ (λ z. omega (arith, z))
        ∙ sym (told_line _ (λ z. omega (arith, z)))
        ∙ sym (ap told (deliver_short u t (ap (λ (n : ℕ). ltb n (length t.bytes)) (sym e) ∙ q)))
    go false q = text o q ∙ sym (text u (ap (λ (n : ℕ). ltb n (length t.bytes)) (sym e) ∙ q))
      where
        text : (x : Bytes) → ltb (length x) (length t.bytes) ≡ false → told (finish x (passed t)) ≡ t.bytes
        text x p =
            let f = front x t (finish x (passed t)) (deliver_room x t p) in
            told_taken (finish x (passed t)) f.0 ∙ f.1

-- ---- a document that is too long, whatever it is

pub longs_alike : (a b : Bytes) → 16384 < length a → 16384 < length b → reply_to a ≡ reply_to b
longs_alike a b h k = long_refused a h ∙ sym (long_refused b k)

-- ---- the operation from `(shape)`

module _ (text document : Bytes) where
  abbrev judged : Judged TextOut
  judged = infer_judged read_json standard text document

  document_numbered : Numbered (read_json standard document)
  document_numbered = go (read_json standard document) refl
    where
      go : (o : Outcome ℕ Value) → read_json standard document ≡ o → Numbered o
      go (ok v) e = tt
      go (refused n p) e = json_proper.numbered standard document n p e

  positive : Positive judged
  unfolding infer_judged
  positive =
      bind_positive _ _ (both_positive standard read_shape text read_json document (numbered_shape standard text) document_numbered) λ (s, v).
      shape_out_positive standard (join s (shape_of v))

  abbrev alone : Bytes → Done
  alone out = finish out judged

  -- in the work slices as published
  abbrev pub on_slices : Bytes → (shapes nodes pool : List ℕ) → Done
  on_slices out shapes nodes pool =
      infer_operation read_json (infer_slices standard) (length shapes ∷ length nodes ∷ length pool ∷ []) standard text document out

  same : (out : Bytes) → on_slices out (replicate 1024 0) (replicate 1536 0) (replicate 4607 0) ≡ alone out
  unfolding infer_operation standard
  same out =
      ap (λ j. finish out j)
      (prelude_long standard (infer_slices standard)
      (length (replicate {A = ℕ} 1024 0) ∷ length (replicate {A = ℕ} 1536 0) ∷ length (replicate {A = ℕ} 4607 0) ∷ []) judged
      standard_in_range (three_long 1024 1536 4607 _ _ _ (omega (arith, length-replicate {A = ℕ} 1024 0)) (omega (arith, length-replicate {A = ℕ} 1536 0))
      (omega (arith, length-replicate {A = ℕ} 4607 0))))

  fits : (out : Bytes) → (alone out).answer.number ≡ 0 → (alone out).answer.length ≤ length (alone out).output
  unfolding written
  fits out e =
      let (t, p, h) = finish_zero out judged positive e in
      let w = finish_written out t p h in
      let k : (alone out).answer.length ≡ length t.bytes = ap (λ (d : Done). d.answer.length) w in
      let l : (alone out).output ≡ t.bytes ++ drop (length t.bytes) out = ap (λ (d : Done). d.output) w in
      omega (arith, k, ap length l, length-append t.bytes (drop (length t.bytes) out))

  -- the output is as long as the zeros of the definition
  told_alone : (out : Bytes) → length out ≡ 16384 → told (alone out) ≡ told (alone (replicate 16384 0))
  told_alone out h = told_same judged positive out (replicate 16384 0) (h ∙ sym (length-replicate {A = ℕ} 16384 0))

  module _
      (out : Bytes) {out' : Bytes} {r : Answer} (long : length out ≡ 16384)
      (w : (r ≡ (on_slices out (replicate 1024 0) (replicate 1536 0) (replicate 4607 0)).answer)
      × (out' ≡ (on_slices out (replicate 1024 0) (replicate 1536 0) (replicate 4607 0)).output))
    where
      answered : r ≡ (alone out).answer
      answered = w.0 ∙ ap (λ (d : Done). d.answer) (same out)

      left : out' ≡ (alone out).output
      left = w.1 ∙ ap (λ (d : Done). d.output) (same out)

      -- an accepted document
      pub accepts : r.number ≡ 0 → (r.length ≤ length out') × (take r.length out' ≡ told (alone (replicate 16384 0)))
      accepts e =
          let z : (alone out).answer.number ≡ 0 = ap (λ (a : Answer). a.number) (sym answered) ∙ e in (
            omega (arith, fits out z, ap length left, ap (λ (a : Answer). a.length) answered),
            ap₂ (λ (a : Answer) (s : Bytes). take a.length s) answered left
                ∙ sym (told_taken (alone out) z)
                ∙ told_alone out long,
          )

      -- a refused one
      pub refuses : (r.number ≡ 0 → ⊥) → refused_line r.number r.place ≡ told (alone (replicate 16384 0))
      refuses e =
          ap (λ (a : Answer). refused_line a.number a.place) answered
          ∙ sym (told_line (alone out) (λ z. e (ap (λ (a : Answer). a.number) answered ∙ z)))
          ∙ told_alone out long
