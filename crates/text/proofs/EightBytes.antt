-- Bytes that stand for themselves put eight at a time, from a border on or behind any text, and how reading goes over them. Assumes nothing.
use Prim.Native.Nat.{ℕ, ◌+◌, ◌-◌, ◌/◌, ◌%◌, ◌≤◌, ◌<◌}
use mathlib.Core.Path.{◌≡◌, sym, ap, ◌∙◌, subst}
use mathlib.Core.List.{List, ◌++◌, reverse_aux}
use native.Mathlib.Nat.{add_assoc}
use native.Mathlib.Omega.{arith}
use lib.ListN.{length, take, drop, set, replicate, length-drop}
use lib.Seq.{take-add, drop-drop, length-take-le}
use Rattle.definitions.specs.Bytes.{Bytes}
use Rattle.definitions.specs.Text.{Inside}
use Rattle.pool.specs.Pool.{unpacked, words}
use Rattle.pool.specs.PoolLaws.{words_mono}
use Rattle.text.specs.TextRun.{text_run}
use Rattle.text.specs.TextRead.{ReadsText}
use Rattle.text.specs.TextParts.{Stands, FrontStands, Keeps, Puts, ReadOn, PieceRead, Stood, Reading}
use Rattle.std.specs.Prelude.{Result}
use Rattle.text.specs.declared.Decoded.{Decoded}
use Rattle.text.proofs.Places.{part_none}
use Rattle.text.proofs.Puts.{keeps_none, puts_none, puts_then, puts_same}
use Rattle.text.proofs.Reading.{read_on, piece_read, reading_start, reading_next}
use Rattle.text.proofs.Stands.{stands_none, stands_append, stands_run, front_there}
use Rattle.text.proofs.PutWords.{puts_word, front_size, same_front, front_whole, front_part}

-- ---- a run of bytes that stand for themselves

module _ (doc : Bytes) where
  pub stood_start : (i : ℕ) (p : List ℕ) (w n : ℕ) → i ≤ length doc → Stood doc i p p w n i
  stood_start i p w n h =
      record {
        stands = subst Stands (part_none doc i) stands_none;
        puts = puts_same (puts_none p w n) (part_none doc i);
        ahead = omega arith;
        within = h;
      }

  stood_next
      : {i : ℕ} {p₀ p p' : List ℕ} {w n j : ℕ} (m : ℕ) → Stood doc i p₀ p w n j → Stands (take m (drop j doc)) → j + m ≤ length doc
      → Puts p p' w (n + (j - i)) (take m (drop j doc))
      → Stood doc i p₀ p' w n (j + m)
  stood_next {i} {p₀} {p} {p'} {w} {n} {j} m h t b k =
      record {
        stands = subst Stands joined (stands_append h.stands t);
        puts = puts_same (puts_then h.puts (ap (λ (x : ℕ). n + x) (sym size)) k) joined;
        ahead = omega (arith, h.ahead);
        within = b;
      }
    where
      size : length (take (j - i) (drop i doc)) ≡ j - i
      size = length-take-le (j - i) (drop i doc) (omega (arith, length-drop i doc, h.ahead, h.within))

      joined : take (j - i) (drop i doc) ++ take m (drop j doc) ≡ take (j + m - i) (drop i doc)
      joined =
          ap (λ (x : ℕ). take (j - i) (drop i doc) ++ take m (drop x doc)) (let e : j ≡ i + (j - i) = omega (arith, h.ahead) in e)
          ∙ ap (λ (s : Bytes). take (j - i) (drop i doc) ++ take m s) (sym (drop-drop (j - i) i doc))
          ∙ sym (take-add (j - i) m (drop i doc))
          ∙ ap (λ (x : ℕ). take x (drop i doc)) (let e : j - i + m ≡ j + m - i = omega (arith, h.ahead) in e)

  -- the first m bytes of a word, put as those of another that has zeros behind them
  pub stood_word
      : {i : ℕ} {p₀ p p' : List ℕ} {w n j : ℕ} (x y m : ℕ) → Stood doc i p₀ p w n j → unpacked x ≡ take 8 (drop j doc) → j + 8 ≤ length doc
      → FrontStands x m → unpacked y ≡ take m (unpacked x) ++ replicate (8 - m) 0 → Puts p p' w (n + (j - i)) (take m (unpacked y))
      → Stood doc i p₀ p' w n (j + m)
  stood_word {j = j} x y m h e b f g k =
      let l = f.within in
      stood_next m h (front_there doc j e f) (omega arith) (puts_same k (same_front x y m l g ∙ front_part x m doc j l e))

  pub stood_read
      : {i : ℕ} {p p' : List ℕ} {w n next : ℕ} → Stood doc i p p' w n next → ReadOn doc i p p' w n next (n + (next - i)) (next - i)
  stood_read {i} {p} {p'} {w} {n} {next} h =
      read_on doc i p p' w n next (n + (next - i)) (next - i) (take (next - i) (drop i doc)) h.puts
      (λ acc.
      stands_run doc i (next - i) h.stands acc
      ∙ ap (λ (x : ℕ). text_run Inside.chars (reverse_aux (take (next - i) (drop i doc)) acc) (drop x doc))
      (let e : i + (next - i) ≡ next = omega (arith, h.ahead) in e))
      (ap (λ (x : ℕ). n + x) (sym size)) (h.stands.itself ∙ size)
      h.within (omega (arith, size, h.ahead)) (omega (arith, h.ahead))
    where
      size : length (take (next - i) (drop i doc)) ≡ next - i
      size = length-take-le (next - i) (drop i doc) (omega (arith, length-drop i doc, h.ahead, h.within))

  -- such a word by itself
  pub piece_word
      : {i : ℕ} {p p' : List ℕ} {w n : ℕ} (x y m : ℕ) → unpacked x ≡ take 8 (drop i doc) → i + 8 ≤ length doc → FrontStands x m → (m ≡ 0 → ⊥)
      → unpacked y ≡ take m (unpacked x) ++ replicate (8 - m) 0 → Puts p p' w n (take m (unpacked y))
      → PieceRead doc i p p' w n (i + m) (n + m) m
  piece_word {i} {p} {p'} {w} {n} x y m e b f z g k =
      let l = f.within in
      let s = front_there doc i e f in
      let size : length (take m (drop i doc)) ≡ m = length-take-le m (drop i doc) (omega (arith, length-drop i doc)) in
      piece_read doc i p p' w n (i + m) (n + m) m (take m (drop i doc)) (puts_same k (same_front x y m l g ∙ front_part x m doc i l e))
      (stands_run doc i m s) (omega arith) (s.itself ∙ size) (omega arith) (omega arith) (omega arith) (omega arith)

  -- room for eight bytes more
  pub stood_room
      : {i : ℕ} {p₀ p : List ℕ} {w n j : ℕ} → Stood doc i p₀ p w n j → w + words (n + (length doc - i)) ≤ length p₀ → j + 8 ≤ length doc
      → w + words (n + (j - i) + 8) ≤ length p
  stood_room {i} {p₀} {p} {w} {n} {j} h room b =
      let o : words (n + (j - i) + 8) ≤ words (n + (length doc - i)) = words_mono (omega (arith, h.ahead)) in
      omega (arith, h.puts.keeps.kept)

-- ---- a run from a border on

-- up to place i, where word k is next
pub record ByWords (doc : Bytes) (at : ℕ) (p₀ : List ℕ) (w : ℕ) (p : List ℕ) (i k : ℕ) : Type 0 where
  pub stood : Stood doc at p₀ p w 0 i
  pub border : (i - at) % 8 ≡ 0
  pub word : k ≡ w + (i - at) / 8

module _ (doc : Bytes) (at : ℕ) (p₀ : List ℕ) (w : ℕ) where
  pub by_words_start : at ≤ length doc → ByWords doc at p₀ w p₀ at w
  by_words_start h = record { stood = stood_start doc at p₀ w 0 h; border = omega arith; word = omega arith }

  module _ (p : List ℕ) (i k : ℕ) (h : ByWords doc at p₀ w p i k) (room : w + words (length doc - at) ≤ length p₀) (b : i + 8 ≤ length doc) where
    pub by_words_room : k < length p
    unfolding words
    by_words_room = omega (arith, h.word, h.stood.puts.keeps.kept, h.stood.ahead, h.border)

    -- the first m bytes of the next word put
    pub by_words_last
        : (x y m : ℕ) → unpacked x ≡ take 8 (drop i doc) → FrontStands x m → unpacked y ≡ take m (unpacked x) ++ replicate (8 - m) 0
        → Stood doc at p₀ (set p k y) w 0 (i + m)
    by_words_last x y m e s f =
        let hm = s.within in
        stood_next doc m h.stood (front_there doc i e s) (omega arith)
        (subst (λ (j : ℕ). Puts p (set p k y) w j (take m (drop i doc))) (let q : i - at ≡ 0 + (i - at) = omega arith in q)
        (subst (λ (j : ℕ). Puts p (set p j y) w (i - at) (take m (drop i doc))) (sym h.word)
        (puts_word p w (i - at) y m (take m (drop i doc)) h.border (omega (arith, by_words_room, h.word)) hm
        (ap length (sym (front_part x m doc i hm e)) ∙ front_size x m hm)
        (f ∙ ap (λ (t : Bytes). t ++ replicate (8 - m) 0) (front_part x m doc i hm e)))))

    pub by_words_next
        : (x : ℕ) → unpacked x ≡ take 8 (drop i doc) → FrontStands x 8 → ByWords doc at p₀ w (set p k x) (i + 8) (k + 1)
    by_words_next x e s =
        record {
          stood = by_words_last x x 8 e s (front_whole x);
          border = omega (arith, h.border, h.stood.ahead);
          word = omega (arith, h.word, h.border, h.stood.ahead);
        }

-- ---- what is read with them

-- a text up to the first byte that is not plain ASCII
pub reading_standing
    : {doc : Bytes} {at : ℕ} {p p' : List ℕ} {w i : ℕ} → Stood doc at p p' w 0 i → Reading doc at p w i (i - at) (i - at + 2) p'
reading_standing {doc} {at} {p} {p'} {w} {i} h =
    subst (λ (n : ℕ). Reading doc at p w i n (i - at + 2) p') (let e : 0 + (i - at) ≡ i - at = omega arith in e)
    (subst (λ (m : ℕ). Reading doc at p w i (0 + (i - at)) m p') (let e : 2 + (i - at) ≡ i - at + 2 = omega arith in e)
    (reading_next (reading_start doc at p w (omega (arith, h.ahead, h.within))) (stood_read doc h)))

-- a piece, and the plain bytes behind it
pub reading_run
    : {doc : Bytes} {at : ℕ} {p₀ p p' p'' : List ℕ} {w i n m next k cost j : ℕ} → Reading doc at p₀ w i n m p
    → PieceRead doc i p p' w n next k cost → Stood doc next p' p'' w k j
    → Reading doc at p₀ w j (k + (j - next)) (m + (cost + (j - next))) p''
reading_run {doc} {at} {p₀} {p} {p'} {p''} {w} {i} {n} {m} {next} {k} {cost} {j} h r s =
    subst (λ (x : ℕ). Reading doc at p₀ w j (k + (j - next)) x p'') (add_assoc m cost (j - next)) (reading_next (reading_next h r.read) (stood_read doc s))

-- what reading on from there asks
pub reading_rest
    : {doc : Bytes} {at : ℕ} {p p' : List ℕ} {w i : ℕ} → Stood doc at p p' w 0 i → w + words (length doc - at) ≤ length p
    → Reading doc at p' w i (i - at) (i - at + 2) p' × (w + words (length doc - at) ≤ length p')
reading_rest {p' = p'} {w = w} s room =
    let h = reading_standing s in (
      record {
        run = h.run;
        written = h.written;
        shorter = h.shorter;
        bounded = h.bounded;
        within = h.within;
        padded = h.padded;
        keeps = keeps_none p' w;
      },
      omega (arith, s.puts.keeps.kept),
    )

pub reads_behind
    : {doc : Bytes} {at : ℕ} {p p' p'' : List ℕ} {w : ℕ} {r : Result Decoded ℕ} → Keeps p p' w → ReadsText doc at p' p'' w r → ReadsText doc at p p'' w r
reads_behind k h = record { answer = h.answer; kept = h.kept ∙ k.kept; front = h.front ∙ k.front }
