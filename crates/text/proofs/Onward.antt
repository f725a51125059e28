-- The bytes of a text of the pool, word after word: what is written or counted of them, and what is left. Assumes nothing.
use Prim.Native.Nat.{ℕ, ◌+◌, ◌-◌, ◌*◌, ◌/◌, ◌%◌, ◌≤◌, ◌<◌}
use mathlib.Core.Path.{◌≡◌, refl, sym, ap, ◌∙◌, subst₂}
use mathlib.Core.List.{List, [], ◌++◌, append_assoc, append-nil}
use native.Mathlib.Nat.{add-zero}
use native.Mathlib.Numerals.{add-one}
use native.Mathlib.Omega.{arith}
use lib.ListN.{length, get_or, take, drop, length-append, length-drop}
use lib.Seq.{drop-cons, get_or-drop, get_or-take, length-take-le, take_all, take-append-le, take-append-add}
use Rattle.definitions.specs.Bytes.{Bytes}
use Rattle.definitions.specs.Plain.{escaped_all}
use Rattle.pool.specs.Pool.{unpacked, pool_bytes, words, text_in}
use Rattle.pool.specs.PoolLaws.{length_unpacked, drop_pool_bytes, text_in_zero}
use Rattle.text.specs.Bare.{Bare}
use Rattle.text.specs.Writes.{Writes}
use Rattle.text.specs.WritesLaws.{writes_none, writes_then, writes_as, writes_length}
use Rattle.text.proofs.Escaped.{escaped_append, escaped_none}

pub take_unpacked : (x : ℕ) → take 8 (unpacked x) ≡ unpacked x
take_unpacked x = take_all 8 (unpacked x) (omega (arith, length_unpacked x))

pub bare_whole : (x : ℕ) → Bare x → escaped_all (unpacked x) ≡ unpacked x
bare_whole x b = ap escaped_all (sym (take_unpacked x)) ∙ b 8 ∙ take_unpacked x

-- ---- the first word of a text

module _ (p : List ℕ) (k left : ℕ) (room : k + words left ≤ length p) where
  pub word_within : 0 < left → k < length p
  unfolding words
  word_within l = omega arith

  at_word : 0 < left → text_in p k left ≡ take left (unpacked (get_or p k 0) ++ pool_bytes (drop (k + 1) p))
  unfolding text_in pool_bytes
  at_word l =
      ap (take left)
      (drop_pool_bytes k p
      ∙ ap pool_bytes (drop-cons p k 0 (word_within l))
      ∙ ap (λ (j : ℕ). unpacked (get_or p k 0) ++ pool_bytes (drop j p)) (sym (add-one k)))

  pub text_front : 0 < left → left ≤ 8 → text_in p k left ≡ take left (unpacked (get_or p k 0))
  text_front l h =
      at_word l
      ∙ take-append-le left (unpacked (get_or p k 0)) (pool_bytes (drop (k + 1) p)) (omega (arith, length_unpacked (get_or p k 0)))

  -- the last bytes, where they are written as they are
  module _ (some : 0 < left) (few : left ≤ 7)
      (bare : escaped_all (take left (unpacked (get_or p k 0))) ≡ take left (unpacked (get_or p k 0))) where
    pub bare_front : escaped_all (text_in p k left) ≡ take left (unpacked (get_or p k 0))
    bare_front = ap escaped_all (text_front some (omega arith)) ∙ bare

    pub length_bare_front : length (escaped_all (text_in p k left)) ≡ left
    length_bare_front = ap length bare_front ∙ length-take-le left (unpacked (get_or p k 0)) (omega (arith, length_unpacked (get_or p k 0)))

  module _ (full : 8 ≤ left) where
    text_next : text_in p k left ≡ unpacked (get_or p k 0) ++ text_in p (k + 1) (left - 8)
    unfolding text_in
    text_next =
        at_word (omega arith)
        ∙ ap (λ (n : ℕ). take n (unpacked (get_or p k 0) ++ pool_bytes (drop (k + 1) p)))
        (let e : left ≡ length (unpacked (get_or p k 0)) + (left - 8) = omega (arith, length_unpacked (get_or p k 0)) in e)
        ∙ take-append-add (unpacked (get_or p k 0)) (pool_bytes (drop (k + 1) p)) (left - 8)
        ∙ ap (λ (s : Bytes). unpacked (get_or p k 0) ++ take (left - 8) s) (sym (drop_pool_bytes (k + 1) p))

    pub escaped_next : escaped_all (text_in p k left) ≡ escaped_all (unpacked (get_or p k 0)) ++ escaped_all (text_in p (k + 1) (left - 8))
    escaped_next = ap escaped_all text_next ∙ escaped_append (unpacked (get_or p k 0)) (text_in p (k + 1) (left - 8))

    pub length_next
        : length (escaped_all (text_in p k left))
        ≡ length (escaped_all (unpacked (get_or p k 0))) + length (escaped_all (text_in p (k + 1) (left - 8)))
    length_next = ap length escaped_next ∙ length-append (escaped_all (unpacked (get_or p k 0))) (escaped_all (text_in p (k + 1) (left - 8)))

    pub room_next : k + 1 + words (left - 8) ≤ length p
    unfolding words
    room_next = omega arith

pub escaped_end : (p : List ℕ) (k left : ℕ) → left ≡ 0 → escaped_all (text_in p k left) ≡ []
escaped_end p k left e = ap (λ (n : ℕ). escaped_all (text_in p k n)) e ∙ ap escaped_all (text_in_zero p k) ∙ escaped_none

-- ---- the words that a text fills

-- word i of those
pub record Filled (p : List ℕ) (w n i : ℕ) : Type 0 where
  pub same : get_or (take (w + n / 8 - w) (drop w p)) i 0 ≡ get_or p (w + i) 0
  pub full : 8 ≤ n - 8 * i
  pub next : w + i + 1 ≡ w + (i + 1)
  pub rest : n - 8 * i - 8 ≡ n - 8 * (i + 1)

length_filled : (p : List ℕ) (w n : ℕ) → w + words n ≤ length p → length (take (w + n / 8 - w) (drop w p)) ≡ n / 8
unfolding words
length_filled p w n h = length-take-le (w + n / 8 - w) (drop w p) (omega (arith, length-drop w p)) ∙ omega arith

pub filled : (p : List ℕ) (w n i : ℕ) → w + words n ≤ length p → i < length (take (w + n / 8 - w) (drop w p)) → Filled p w n i
filled p w n i h l =
    let e = length_filled p w n h in
    record {
      same = get_or-take (w + n / 8 - w) (drop w p) i 0 (omega arith) ∙ get_or-drop w p i 0;
      full = omega arith;
      next = omega arith;
      rest = omega arith;
    }

-- behind the last of them
pub record Past (w n i : ℕ) : Type 0 where
  pub word : w + i ≡ w + n / 8
  pub left : n - 8 * i ≡ n % 8

pub past
    : (p : List ℕ) (w n i : ℕ) → w + words n ≤ length p → length (take (w + n / 8 - w) (drop w p)) ≤ i
    → i ≤ length (take (w + n / 8 - w) (drop w p)) → Past w n i
past p w n i h l m = let e = length_filled p w n h in record { word = omega arith; left = omega arith }

-- ---- counted

-- written counts the quotes and the bytes before word k, from which on left bytes are to come
pub record Counted (p : List ℕ) (w n written k left : ℕ) : Type 0 where
  pub room : k + words left ≤ length p
  pub sum : written + length (escaped_all (text_in p k left)) ≡ 2 + length (escaped_all (text_in p w n))

-- the same under other names
pub counted_as
    : {p : List ℕ} {w n written k k' left left' : ℕ} → Counted p w n written k left → k ≡ k' → left ≡ left' → Counted p w n written k' left'
counted_as {p} {w} {n} {written} s e f = subst₂ (λ (k left : ℕ). Counted p w n written k left) e f s

pub counted_start : (p : List ℕ) (w n : ℕ) → w + words n ≤ length p → Counted p w n 2 (w + 0) (n - 8 * 0)
counted_start p w n h = counted_as (record { room = h; sum = refl }) (sym (add-zero w)) (let e : n ≡ n - 8 * 0 = omega arith in e)

module _ {p : List ℕ} {w n written k left : ℕ} (s : Counted p w n written k left) where
  pub counted_word
      : (m : ℕ) → 8 ≤ left → m ≡ length (escaped_all (unpacked (get_or p k 0))) → Counted p w n (written + m) (k + 1) (left - 8)
  counted_word m h e =
      record { room = room_next p k left s.room h; sum = omega (arith, s.sum, length_next p k left s.room h) }

  pub counted_bound : 8 ≤ left → written + length (escaped_all (unpacked (get_or p k 0))) ≤ 2 + length (escaped_all (text_in p w n))
  counted_bound h = omega (arith, s.sum, length_next p k left s.room h)

  pub counted_front
      : (m : ℕ) → 0 < left → left ≤ 7 → m ≡ length (escaped_all (take left (unpacked (get_or p k 0)))) → written + m ≡ 2 + length (escaped_all (text_in p w n))
  counted_front m l h e =
      omega (arith, s.sum, ap (λ (t : Bytes). length (escaped_all t)) (text_front p k left s.room l (omega arith)))

  pub counted_end : left ≡ 0 → written ≡ 2 + length (escaped_all (text_in p w n))
  counted_end e = omega (arith, s.sum, ap length (escaped_end p k left e))

-- ---- written

-- what stands before word k is written up to place j, and left bytes are to come
pub record Onward (p : List ℕ) (w n : ℕ) (o o' : Bytes) (at j k left : ℕ) : Type 0 where
  pub done : Bytes
  pub parts : escaped_all (text_in p w n) ≡ done ++ escaped_all (text_in p k left)
  pub writes : Writes o o' at done j
  pub room : k + words left ≤ length p

-- the same under other names
pub onward_as
    : {p : List ℕ} {w n : ℕ} {o o' : Bytes} {at j k k' left left' : ℕ} → Onward p w n o o' at j k left → k ≡ k' → left ≡ left'
    → Onward p w n o o' at j k' left'
onward_as {p} {w} {n} {o} {o'} {at} {j} s e f = subst₂ (λ (k left : ℕ). Onward p w n o o' at j k left) e f s

pub onward_start : (p : List ℕ) (w n : ℕ) (o : Bytes) (at : ℕ) → w + words n ≤ length p → Onward p w n o o at at w n
onward_start p w n o at h = record { done = []; parts = refl; writes = writes_none o at; room = h }

pub onward_first
    : (p : List ℕ) (w n : ℕ) (o : Bytes) (at : ℕ) → w + words n ≤ length p → Onward p w n o o at at (w + 0) (n - 8 * 0)
onward_first p w n o at h = onward_as (onward_start p w n o at h) (sym (add-zero w)) (let e : n ≡ n - 8 * 0 = omega arith in e)

module _ {p : List ℕ} {w n : ℕ} {o o' : Bytes} {at j k left : ℕ} (s : Onward p w n o o' at j k left)
    (fits : at + length (escaped_all (text_in p w n)) ≤ length o) where
  sizes : length (escaped_all (text_in p w n)) ≡ length s.done + length (escaped_all (text_in p k left))
  sizes = ap length s.parts ∙ length-append s.done (escaped_all (text_in p k left))

  pub onward_length : length o' ≡ length o
  onward_length = writes_length o o' at s.done j (omega (arith, s.writes.end, sizes)) s.writes

  -- room for what is left
  pub onward_room : j + length (escaped_all (text_in p k left)) ≤ length o'
  onward_room = omega (arith, s.writes.end, sizes, onward_length)

  pub onward_room_word : 8 ≤ left → j + length (escaped_all (unpacked (get_or p k 0))) ≤ length o'
  onward_room_word h = omega (arith, onward_room, length_next p k left s.room h)

  pub onward_room_front : 0 < left → left ≤ 7 → j + length (escaped_all (take left (unpacked (get_or p k 0)))) ≤ length o'
  onward_room_front l h =
      omega (arith, onward_room, ap (λ (t : Bytes). length (escaped_all t)) (text_front p k left s.room l (omega arith)))

  -- a word more
  pub onward_word
      : {o'' : Bytes} {r : ℕ} → 8 ≤ left → Writes o' o'' j (escaped_all (unpacked (get_or p k 0))) r → Onward p w n o o'' at r (k + 1) (left - 8)
  onward_word h x =
      record {
        done = s.done ++ escaped_all (unpacked (get_or p k 0));
        parts = s.parts
            ∙ ap (λ (t : Bytes). s.done ++ t) (escaped_next p k left s.room h)
            ∙ sym (append_assoc s.done (escaped_all (unpacked (get_or p k 0))) (escaped_all (text_in p (k + 1) (left - 8))));
        writes = writes_then (omega arith) s.writes x;
        room = room_next p k left s.room h;
      }

  -- all that is left
  pub onward_rest
      : {o'' : Bytes} {r : ℕ} → Writes o' o'' j (escaped_all (text_in p k left)) r → Writes o o'' at (escaped_all (text_in p w n)) r
  onward_rest x = writes_as (sym s.parts) (writes_then (omega arith) s.writes x)

  pub onward_front
      : {o'' : Bytes} {r : ℕ} → 0 < left → left ≤ 7 → Writes o' o'' j (escaped_all (take left (unpacked (get_or p k 0)))) r
      → Writes o o'' at (escaped_all (text_in p w n)) r
  onward_front l h x = onward_rest (writes_as (ap escaped_all (sym (text_front p k left s.room l (omega arith)))) x)

  pub onward_end : left ≡ 0 → Writes o o' at (escaped_all (text_in p w n)) j
  onward_end e = writes_as (sym (s.parts ∙ ap (λ (t : Bytes). s.done ++ t) (escaped_end p k left e) ∙ append-nil s.done)) s.writes
