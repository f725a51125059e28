-- Reading a text piece by piece: what a piece is, from what was put into the pool, and what `read_text` keeps. Assumes nothing.
use Prim.Native.Nat.{ℕ, ◌+◌, ◌-◌, ◌*◌, ◌/◌, ◌≤◌, ◌<◌}
use mathlib.Core.Path.{◌≡◌, refl, sym, ap, ◌∙◌, subst}
use mathlib.Core.List.{List, [], ◌∷◌, ◌++◌, append-nil, reverse, reverse_aux, reverse_aux-append, reverse-reverse}
use mathlib.Core.Option.{none, some}
use mathlib.Core.Bool.{true}
use lib.ListN.{length, take, drop, get_or, length-append, length-take, length-drop}
use lib.Seq.{length-take-le}
use native.Mathlib.Nat.{add_assoc}
use native.Mathlib.Omega.{arith}
use Rattle.definitions.specs.Bytes.{Bytes, between, look, is}
use Rattle.definitions.specs.Utf8.{encode}
use Rattle.definitions.specs.Text.{Inside, more, char_step, escape_step, escape_table, text_step}
use Rattle.definitions.specs.Plain.{escaped, escaped_all}
use Rattle.laws.specs.Ranges.{in_between, ne_is}
use Rattle.pool.specs.Pool.{words, text_in, Put}
use Rattle.pool.specs.PoolLaws.{words_mono, words_room, text_in_zero, length_text_in}
use Rattle.text.specs.TextRun.{ended, text_run}
use Rattle.text.specs.TextRead.{Padded, ReadsText}
use Rattle.text.specs.TextParts.{plain_ascii, Breaks, CodeRead, WideRead, Puts, ReadOn, PieceRead, PieceBroken, Reading}
use Rattle.std.specs.Prelude.{Ok, Err}
use Rattle.text.proofs.Tables.{letter_of, Itself, plain_ascii_itself}
use Rattle.text.proofs.Places.{get_or_within, byte_within, more_at, wrong_at, closed_at, end_at}
use Rattle.text.proofs.Surrogates.{breaks_behind}
use Rattle.text.proofs.Escaped.{escaped_append, escaped_none, escaped_one, one_plain, length_plain, length_encode, cost_encode}
use Rattle.text.proofs.Puts.{keeps_none, keeps_then, puts_one}

-- ---- a piece

-- bytes that decode to u, put behind the text
pub read_on
    : (doc : Bytes) (i : ℕ) (p p' : List ℕ) (w n next m cost : ℕ) (u : Bytes) → Puts p p' w n u
    → ((acc : Bytes) → text_run Inside.chars acc (drop i doc) ≡ text_run Inside.chars (reverse_aux u acc) (drop next doc))
    → m ≡ n + length u
    → length (escaped_all u) ≡ cost
    → next ≤ length doc → i + length u ≤ next → i + cost ≤ next
    → ReadOn doc i p p' w n next m cost
read_on doc i p p' w n next m cost u h run e k b s c =
    record {
      run = run (reverse (text_in p w n))
          ∙ ap (λ (x : Bytes). text_run Inside.chars x (drop next doc)) (sym (reverse_aux-append (text_in p w n) u []) ∙ ap reverse (sym text));
      costs = ap (λ (x : Bytes). length (escaped_all x)) text
          ∙ ap length (escaped_append (text_in p w n) u)
          ∙ length-append (escaped_all (text_in p w n)) (escaped_all u)
          ∙ ap (λ (x : ℕ). length (escaped_all (text_in p w n)) + x) k;
      within = b;
      shorter = omega arith;
      bounded = c;
      padded = λ z. subst (Padded p' w) (sym e) (h.padded z);
      keeps = h.keeps;
    }
  where
    text : text_in p' w m ≡ text_in p w n ++ u
    text = ap (text_in p' w) e ∙ h.text

-- a piece that decodes to u
pub piece_read
    : (doc : Bytes) (i : ℕ) (p p' : List ℕ) (w n next m cost : ℕ) (u : Bytes) → Puts p p' w n u
    → ((acc : Bytes) → text_run Inside.chars acc (drop i doc) ≡ text_run Inside.chars (reverse_aux u acc) (drop next doc))
    → m ≡ n + length u
    → length (escaped_all u) ≡ cost
    → i < next → next ≤ length doc → i + length u ≤ next → i + cost ≤ next
    → PieceRead doc i p p' w n next m cost
piece_read doc i p p' w n next m cost u h run e k a b s c = record { read = read_on doc i p p' w n next m cost u h run e k b s c; ahead = a }

-- a byte put behind the text
pub piece_byte
    : (doc : Bytes) (i : ℕ) (p p' : List ℕ) (w n next b cost : ℕ) → Put p p' (8 * w + n) b → (8 * w + n) / 8 < length p
    → ((acc : Bytes) → text_run Inside.chars acc (drop i doc) ≡ text_run Inside.chars (b ∷ acc) (drop next doc))
    → length (escaped b) ≡ cost
    → i < next → next ≤ length doc → i + cost ≤ next
    → PieceRead doc i p p' w n next (n + 1) cost
piece_byte doc i p p' w n next b cost h l run k a s c =
    piece_read doc i p p' w n next (n + 1) cost (b ∷ []) (puts_one w n h refl l) run refl (ap length (escaped_one b) ∙ k) a s
    (let z : i + length (b ∷ []) ≤ next = omega arith in z) c

-- a character of several bytes
pub piece_wide
    : (doc : Bytes) (i : ℕ) (p p' : List ℕ) (w n next : ℕ) → WideRead doc Inside.chars i next
    → Puts p p' w n (take (next - i) (drop i doc))
    → PieceRead doc i p p' w n next (n + (next - i)) (next - i)
piece_wide doc i p p' w n next h k =
    piece_read doc i p p' w n next (n + (next - i)) (next - i) (take (next - i) (drop i doc)) k h.run
    (ap (λ (x : ℕ). n + x) (sym size)) h.itself h.ahead h.within (omega (arith, size, h.ahead)) (omega (arith, h.ahead))
  where
    size : length (take (next - i) (drop i doc)) ≡ next - i
    size = length-take-le (next - i) (drop i doc) (omega (arith, length-drop i doc, h.within))

-- room for k of the bytes that may come
pub room_for
    : (doc : Bytes) (i : ℕ) (p : List ℕ) (w n k : ℕ) → w + words (n + (length doc - i)) ≤ length p → k ≤ length doc - i
    → w + words (n + k) ≤ length p
room_for doc i p w n k h l = let o : words (n + k) ≤ words (n + (length doc - i)) = words_mono (omega arith) in omega arith

pub room_one
    : (doc : Bytes) (i : ℕ) (p : List ℕ) (w n : ℕ) → w + words (n + (length doc - i)) ≤ length p → i < length doc
    → (8 * w + n) / 8 < length p
room_one doc i p w n h l = words_room w n (length p) (room_for doc i p w n 1 h (omega arith))

-- ---- escapes

-- the bytes of a character at the front of an array
pub front_fits : (s r : Bytes) → take (length s) r ≡ s → length s ≤ length r
front_fits s r e = omega (arith, ap length e, length-take (length s) r)

pub front_part : (s r : Bytes) (k : ℕ) → k ≡ length s → take (length s) r ≡ s → take k r ≡ s
front_part s r k h e = ap (λ (x : ℕ). take x r) h ∙ e

-- two bytes that mean the byte c
pub record LetterRead (doc : Bytes) (i c : ℕ) : Type 0 where
  pub run : (acc : Bytes) → text_run Inside.chars acc (drop i doc) ≡ text_run Inside.chars (c ∷ acc) (drop (i + 2) doc)
  pub byte : c < 256
  pub within : i + 2 ≤ length doc
  pub short : length (escaped c) ≤ 2

module _ (doc : Bytes) (i : ℕ) (l : i < length doc) (e : get_or doc i 0 ≡ 0x5C) where
  backslash : (acc : Bytes) → text_run Inside.chars acc (drop i doc) ≡ text_run Inside.escape acc (drop (i + 1) doc)
  unfolding text_step char_step is
  backslash acc =
      more_at Inside.chars acc doc i l (ap (text_step Inside.chars acc) (get_or_within doc i 256 0 l ∙ e))

  -- no escape
  pub escape_wrong : look escape_table (get_or doc (i + 1) 256) ≡ none → Breaks doc Inside.chars i (i + 1)
  unfolding text_step escape_step
  escape_wrong k =
      record {
        run = λ acc. backslash acc ∙ wrong_at Inside.escape acc doc (i + 1) (rw (k, text_step, escape_step));
        from = omega arith;
        within = omega arith;
      }

  -- an escape of two characters
  pub escape_letter : (c : ℕ) → look escape_table (get_or doc (i + 1) 256) ≡ some (some c) → LetterRead doc i c
  unfolding text_step escape_step
  escape_letter c k =
      let t = letter_of (get_or doc (i + 1) 256) c k in
      let w = byte_within doc (i + 1) t.byte in
      record {
        run = λ acc.
            backslash acc
            ∙ more_at Inside.escape acc doc (i + 1) w (rw (k, text_step, escape_step))
            ∙ ap (λ (x : ℕ). text_run Inside.chars (c ∷ acc) (drop x doc)) (add_assoc i 1 1);
        byte = t.meant;
        within = omega arith;
        short = t.short;
      }

  module _ (f : get_or doc (i + 1) 256 ≡ 0x75) where
    pub named_within : i + 2 ≤ length doc
    named_within = omega (arith, byte_within doc (i + 1) (omega arith))

    named : (acc : Bytes) → text_run Inside.chars acc (drop i doc) ≡ text_run (Inside.digits none 0 0) acc (drop (i + 2) doc)
    unfolding text_step escape_step look between escape_table
    named acc =
        backslash acc
        ∙ more_at Inside.escape acc doc (i + 1) (omega (arith, named_within)) (ap (text_step Inside.escape acc) f)
        ∙ ap (λ (x : ℕ). text_run (Inside.digits none 0 0) acc (drop x doc)) (add_assoc i 1 1)

    pub named_breaks : (place : ℕ) → Breaks doc (Inside.digits none 0 0) (i + 2) place → Breaks doc Inside.chars i place
    named_breaks place b = breaks_behind doc Inside.chars (Inside.digits none 0 0) i (i + 2) place (omega arith) named b

    pub piece_named
        : (p p' : List ℕ) (w n next c cost : ℕ) → CodeRead doc (Inside.digits none 0 0) (i + 2) c next → Puts p p' w n (encode c)
        → cost ≡ length (escaped_all (encode c))
        → PieceRead doc i p p' w n next (n + length (encode c)) cost
    piece_named p p' w n next c cost r h g =
        let a = r.ahead in
        piece_read doc i p p' w n next (n + length (encode c)) cost (encode c) h (λ acc. named acc ∙ r.run acc) refl (sym g) (omega arith)
        r.within (omega (arith, length_encode c)) (omega (arith, cost_encode c))

-- ---- a byte that stands for itself

pub step_itself : (acc : Bytes) (b : ℕ) → plain_ascii b ≡ true → text_step Inside.chars acc b ≡ more Inside.chars (b ∷ acc)
unfolding text_step char_step
step_itself acc b t =
    let s = plain_ascii_itself b t in
    rw (ne_is "\"" s.no_quote, ne_is "\\" s.no_backslash, in_between (record { from = s.from; to = s.to }), text_step, char_step)

pub piece_itself
    : (doc : Bytes) (i : ℕ) (p p' : List ℕ) (w n b : ℕ) → i < length doc → b ≡ get_or doc i 0 → plain_ascii b ≡ true
    → Put p p' (8 * w + n) b → (8 * w + n) / 8 < length p
    → PieceRead doc i p p' w n (i + 1) (n + 1) 1
piece_itself doc i p p' w n b l e t h r =
    piece_byte doc i p p' w n (i + 1) b 1 h r run (one_plain b s.from s.no_quote s.no_backslash) (omega arith) (omega arith) (omega arith)
  where
    s : Itself b
    s = plain_ascii_itself b t

    run : (acc : Bytes) → text_run Inside.chars acc (drop i doc) ≡ text_run Inside.chars (b ∷ acc) (drop (i + 1) doc)
    run acc =
        more_at Inside.chars acc doc i l (ap (text_step Inside.chars acc) (get_or_within doc i 256 0 l ∙ sym e) ∙ step_itself acc b t)

-- ---- the loop

pub reading_start : (doc : Bytes) (at : ℕ) (p : List ℕ) (w : ℕ) → at ≤ length doc → Reading doc at p w at 0 2 p
unfolding Padded words
reading_start doc at p w h =
    record {
      run = ap (λ (t : Bytes). text_run Inside.chars (reverse t) (drop at doc)) (sym (text_in_zero p w));
      written = sym (ap (λ (t : Bytes). 2 + length (escaped_all t)) (text_in_zero p w) ∙ ap (λ (t : Bytes). 2 + length t) escaped_none);
      shorter = omega arith;
      bounded = omega arith;
      within = h;
      padded = sym (append-nil (text_in p w 0));
      keeps = keeps_none p w;
    }

pub reading_next
    : {doc : Bytes} {at : ℕ} {p₀ p p' : List ℕ} {w i n m next k cost : ℕ} → Reading doc at p₀ w i n m p
    → ReadOn doc i p p' w n next k cost
    → Reading doc at p₀ w next k (m + cost) p'
reading_next h r =
    record {
      run = h.run ∙ r.run;
      written = omega (arith, h.written, r.costs);
      shorter = omega (arith, h.shorter, r.shorter);
      bounded = omega (arith, h.bounded, r.bounded);
      within = r.within;
      padded = r.padded h.padded;
      keeps = keeps_then h.keeps r.keeps;
    }

module _ {doc : Bytes} {at : ℕ} {p₀ p : List ℕ} {w i n m : ℕ} (h : Reading doc at p₀ w i n m p)
    (room : w + words (length doc - at) ≤ length p₀) where
  -- room for what may come
  pub room_left : i ≤ length doc → w + words (n + (length doc - i)) ≤ length p
  room_left l =
      let k = h.keeps.kept in
      let s = h.shorter in
      let o : words (n + (length doc - i)) ≤ words (length doc - at) = words_mono (omega arith) in
      omega arith

  room_so_far : w + words n ≤ length p
  room_so_far =
      let k = h.keeps.kept in
      let s = h.shorter in
      let l = h.within in
      let o : words n ≤ words (length doc - at) = words_mono (omega arith) in
      omega arith

  pub reading_closed : i < length doc → get_or doc i 0 ≡ 0x22 → ReadsText doc at p₀ p w (Ok (record { end = i + 1; length = n; written = m }))
  unfolding text_step char_step is
  reading_closed l e =
      record {
        answer = record {
          run = h.run
              ∙ closed_at Inside.chars (reverse (text_in p w n)) doc i l
              (ap (text_step Inside.chars (reverse (text_in p w n))) (get_or_within doc i 256 0 l ∙ e))
              ∙ ap (λ (t : Bytes). ended t (drop (i + 1) doc)) (reverse-reverse (text_in p w n));
          size = length_text_in p w n room_so_far;
          written = h.written ∙ sym (length_plain (text_in p w n));
          shorter = let s = h.shorter in omega arith;
          bounded = let s = h.bounded in omega arith;
          within = omega arith;
          room = room_so_far;
          padded = h.padded;
        };
        kept = h.keeps.kept;
        front = h.keeps.front;
      }

  pub reading_end : length doc ≤ i → ReadsText doc at p₀ p w (Err i)
  reading_end l =
      record {
        answer = record {
          run = h.run ∙ end_at Inside.chars (reverse (text_in p w n)) doc i l;
          from = let s = h.shorter in omega arith;
          within = h.within;
        };
        kept = h.keeps.kept;
        front = h.keeps.front;
      }

  pub reading_broken : {p' : List ℕ} {place : ℕ} → PieceBroken doc i p p' w place → ReadsText doc at p₀ p' w (Err place)
  reading_broken b =
      let k = keeps_then h.keeps b.keeps in
      record {
        answer = record {
          run = h.run ∙ b.breaks.run (reverse (text_in p w n));
          from = let s = h.shorter in let f = b.breaks.from in omega arith;
          within = b.breaks.within;
        };
        kept = k.kept;
        front = k.front;
      }
