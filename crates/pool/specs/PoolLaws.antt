-- Laws of the pool's definitions, in their order. "Lies in the pool" is w + words n ≤ length p. Assumes nothing.
use Rattle.std.specs.Prelude.{ℕ, zero, suc, ◌+◌, ◌-◌, ◌*◌, ◌/◌, ◌%◌, ◌^◌, ◌≤◌, ◌<◌, min, ◌≡◌, refl, List, [], ◌∷◌, ◌++◌, length, get_or, take, drop, replicate}
use Rattle.std.proofs.Common.{sym, ap, ap₂, ◌∙◌, append_assoc, div-one, zero-add, suc-add, arith, length-append, length-take, length-drop, take_all}
use Rattle.std.proofs.Common.{get_or-append-add, get_or-take, get_or-drop, take-add, take_at, drop_at, length-take-le, take-take, drop-drop}
use Rattle.std.proofs.Math.Nat.{zero-div, zero-mod}
use Rattle.std.proofs.lemmas.List.{length-replicate, take-append-le}
use Rattle.std.proofs.Math.ListN.{get_or-append}
use Rattle.std.proofs.Math.Seq.{take-nil, drop-nil, take-append-add, drop-append-add}
use Rattle.definitions.specs.Bytes.{Bytes}
use Rattle.pool.specs.Pool.{Put, unpacked, pool_bytes, text_in, words, put_at}

-- ---- unpacked

pub length_unpacked : (x : ℕ) → length (unpacked x) ≡ 8
unfolding unpacked
length_unpacked x = refl

-- byte j of a word stands 56 - 8 * j bits up
pub get_or_unpacked : (x j : ℕ) → j < 8 → get_or (unpacked x) j 0 ≡ x / 2 ^ (56 - 8 * j) % 256
unfolding unpacked
get_or_unpacked x zero h = refl
get_or_unpacked x (suc zero) h = refl
get_or_unpacked x (suc (suc zero)) h = refl
get_or_unpacked x (suc (suc (suc zero))) h = refl
get_or_unpacked x (suc (suc (suc (suc zero)))) h = refl
get_or_unpacked x (suc (suc (suc (suc (suc zero))))) h = refl
get_or_unpacked x (suc (suc (suc (suc (suc (suc zero)))))) h = refl
get_or_unpacked x (suc (suc (suc (suc (suc (suc (suc zero))))))) h = ap (λ (y : ℕ). y % 256) (sym (div-one x))
get_or_unpacked x (suc (suc (suc (suc (suc (suc (suc (suc j)))))))) h = absurd (let z : ⊥ = omega arith in z)

-- ---- pool-bytes

eight_more : (i : ℕ) → 8 * suc i ≡ 8 + 8 * i
eight_more i = omega arith

pub length_pool_bytes : (p : List ℕ) → length (pool_bytes p) ≡ 8 * length p
unfolding pool_bytes
length_pool_bytes [] = refl
length_pool_bytes (x ∷ p) =
    length-append (unpacked x) (pool_bytes p)
    ∙ ap₂ ◌+◌ (length_unpacked x) (length_pool_bytes p)
    ∙ sym (eight_more (length p))

pub pool_bytes_append : (p q : List ℕ) → pool_bytes (p ++ q) ≡ pool_bytes p ++ pool_bytes q
unfolding pool_bytes
pool_bytes_append [] q = refl
pool_bytes_append (x ∷ p) q =
    ap (λ (s : Bytes). unpacked x ++ s) (pool_bytes_append p q) ∙ sym (append_assoc (unpacked x) (pool_bytes p) (pool_bytes q))

pub take_pool_bytes : (i : ℕ) (p : List ℕ) → take (8 * i) (pool_bytes p) ≡ pool_bytes (take i p)
unfolding pool_bytes
take_pool_bytes zero p = refl
take_pool_bytes (suc i) [] = take-nil (8 * suc i)
take_pool_bytes (suc i) (x ∷ p) =
    ap (λ (n : ℕ). take n (unpacked x ++ pool_bytes p)) (eight_more i ∙ ap (λ (n : ℕ). n + 8 * i) (sym (length_unpacked x)))
    ∙ take-append-add (unpacked x) (pool_bytes p) (8 * i)
    ∙ ap (λ (s : Bytes). unpacked x ++ s) (take_pool_bytes i p)

pub drop_pool_bytes : (i : ℕ) (p : List ℕ) → drop (8 * i) (pool_bytes p) ≡ pool_bytes (drop i p)
unfolding pool_bytes
drop_pool_bytes zero p = refl
drop_pool_bytes (suc i) [] = drop-nil (8 * suc i)
drop_pool_bytes (suc i) (x ∷ p) =
    ap (λ (n : ℕ). drop n (unpacked x ++ pool_bytes p)) (eight_more i ∙ ap (λ (n : ℕ). n + 8 * i) (sym (length_unpacked x)))
    ∙ drop-append-add (unpacked x) (pool_bytes p) (8 * i)
    ∙ drop_pool_bytes i p

-- byte j of word i; past the end both sides are 0
pub get_or_pool_word : (p : List ℕ) (i j : ℕ) → j < 8 → get_or (pool_bytes p) (8 * i + j) 0 ≡ get_or p i 0 / 2 ^ (56 - 8 * j) % 256
unfolding pool_bytes
get_or_pool_word [] i j h = sym (ap (λ (y : ℕ). y % 256) (zero-div (2 ^ (56 - 8 * j))) ∙ zero-mod 256)
get_or_pool_word (x ∷ p) zero j h =
    ap (λ (n : ℕ). get_or (unpacked x ++ pool_bytes p) n 0) (let e : 8 * 0 + j ≡ j = omega arith in e)
    ∙ get_or-append (unpacked x) (pool_bytes p) 0 j (omega (arith, length_unpacked x))
    ∙ get_or_unpacked x j h
get_or_pool_word (x ∷ p) (suc i) j h =
    ap (λ (n : ℕ). get_or (unpacked x ++ pool_bytes p) n 0)
    (let e : 8 * suc i + j ≡ length (unpacked x) + (8 * i + j) = omega (arith, length_unpacked x) in e)
    ∙ get_or-append-add (unpacked x) (pool_bytes p) (8 * i + j) 0
    ∙ get_or_pool_word p i j h

-- ---- words

pub le_words : (n : ℕ) → n ≤ 8 * words n
unfolding words
le_words n = omega arith

pub words_mono : {m n : ℕ} → m ≤ n → words m ≤ words n
unfolding words
words_mono h = omega arith

pub words_le : (n : ℕ) → words n ≤ n / 8 + 1
unfolding words
words_le n = omega arith

-- one byte more: the word that it stands in is the last
pub words_next : (n : ℕ) → words (n + 1) ≡ n / 8 + 1
unfolding words
words_next n = omega arith

-- room for a text of one byte more is room for that byte
pub words_room : (w n l : ℕ) → w + words (n + 1) ≤ l → (8 * w + n) / 8 < l
unfolding words
words_room w n l h = omega arith

-- the same bound by words and by bytes
pub words_bytes : (w n l : ℕ) → w + words n ≤ l → 8 * w + n ≤ 8 * l
unfolding words
words_bytes w n l h = omega arith

pub bytes_words : (w n l : ℕ) → 8 * w + n ≤ 8 * l → w + words n ≤ l
unfolding words
bytes_words w n l h = omega arith

-- ---- text_in

pub text_in_zero : (p : List ℕ) (w : ℕ) → text_in p w 0 ≡ []
unfolding text_in
text_in_zero p w = refl

-- as much of the text as the pool has
pub length_text_in_min : (p : List ℕ) (w n : ℕ) → length (text_in p w n) ≡ min n (8 * (length p - w))
unfolding text_in
length_text_in_min p w n =
    length-take n (drop (8 * w) (pool_bytes p))
    ∙ ap (λ (l : ℕ). min n l)
    (length-drop (8 * w) (pool_bytes p)
    ∙ ap (λ (l : ℕ). l - 8 * w) (length_pool_bytes p)
    ∙ (let e : 8 * length p - 8 * w ≡ 8 * (length p - w) = omega arith in e))

pub length_text_in : (p : List ℕ) (w n : ℕ) → w + words n ≤ length p → length (text_in p w n) ≡ n
length_text_in p w n h = omega (arith, length_text_in_min p w n, words_bytes w n (length p) h)

pub get_or_text_in : (p : List ℕ) (w n i : ℕ) → i < n → get_or (text_in p w n) i 0 ≡ get_or (pool_bytes p) (8 * w + i) 0
unfolding text_in
get_or_text_in p w n i h = get_or-take n (drop (8 * w) (pool_bytes p)) i 0 h ∙ get_or-drop (8 * w) (pool_bytes p) i 0

-- the first bytes of a text are a text
pub take_text_in : (p : List ℕ) (w m n : ℕ) → m ≤ n → take m (text_in p w n) ≡ text_in p w m
unfolding text_in
take_text_in p w m n h = take-take m n (drop (8 * w) (pool_bytes p)) h

-- a text is that of as many bytes as the pool has of it
module _ (p : List ℕ) (u n k : ℕ) (e : k ≡ length (text_in p u n)) where
  pub text_in_held : text_in p u k ≡ text_in p u n
  text_in_held = sym (take_text_in p u k n (omega (arith, length_text_in_min p u n))) ∙ take_all k (text_in p u n) (omega arith)

  pub length_held : length (text_in p u k) ≡ k
  length_held = ap length text_in_held ∙ sym e

-- a text of a pool whose first u words are left out
pub text_in_drop : (p : List ℕ) (u w n : ℕ) → text_in p (u + w) n ≡ text_in (drop u p) w n
unfolding text_in
text_in_drop p u w n =
    ap (λ (s : Bytes). take n s)
    (ap (λ (k : ℕ). drop k (pool_bytes p)) (let e : 8 * (u + w) ≡ 8 * u + 8 * w = omega arith in e)
    ∙ sym (drop-drop (8 * w) (8 * u) (pool_bytes p))
    ∙ ap (λ (s : Bytes). drop (8 * w) s) (drop_pool_bytes u p))

take_drop : (a n : ℕ) (s : Bytes) → take n (drop a s) ≡ drop a (take (a + n) s)
take_drop zero n s = ap (λ (k : ℕ). take k s) (sym (zero-add n))
take_drop (suc a) n [] = take-nil n ∙ sym (ap (λ (s : Bytes). drop (suc a) s) (take-nil (suc a + n)) ∙ drop-nil (suc a))
take_drop (suc a) n (x ∷ s) = take_drop a n s ∙ ap (λ (k : ℕ). drop (suc a) (take k (x ∷ s))) (sym (suc-add a n))

-- the first words alone decide the texts that lie in them
text_in_prefix : (s s' : Bytes) (w n l : ℕ) → 8 * w + n ≤ l → take l s' ≡ take l s → take n (drop (8 * w) s') ≡ take n (drop (8 * w) s)
text_in_prefix s s' w n l h e = take_drop (8 * w) n s' ∙ ap (λ (t : Bytes). drop (8 * w) t) go ∙ sym (take_drop (8 * w) n s)
  where
    go : take (8 * w + n) s' ≡ take (8 * w + n) s
    go = sym (take-take (8 * w + n) l s' h) ∙ ap (λ (t : Bytes). take (8 * w + n) t) e ∙ take-take (8 * w + n) l s h

-- texts that lie in the first u words are the same in two pools that have these words
pub text_in_front : (p p' : List ℕ) (u w n : ℕ) → take u p' ≡ take u p → w + words n ≤ u → text_in p' w n ≡ text_in p w n
unfolding text_in
text_in_front p p' u w n e h =
    text_in_prefix (pool_bytes p) (pool_bytes p') w n (8 * u) (words_bytes w n u h)
    (take_pool_bytes u p' ∙ ap pool_bytes e ∙ sym (take_pool_bytes u p))

-- ---- put-at

put_at_parts
    : (s : Bytes) (k b : ℕ)
    → put_at s k b ≡ take k s ++ (b ∷ (replicate (7 - k % 8) 0 ++ drop (8 * (k / 8 + 1)) s))
unfolding put_at
put_at_parts s k b = append_assoc (take k s) (b ∷ replicate (7 - k % 8) 0) (drop (8 * (k / 8 + 1)) s)

pub take_put_at : (s : Bytes) (j k b : ℕ) → j ≤ k → k ≤ length s → take j (put_at s k b) ≡ take j s
take_put_at s j k b h l =
    ap (λ (t : Bytes). take j t) (put_at_parts s k b)
    ∙ take-append-le j (take k s) (b ∷ (replicate (7 - k % 8) 0 ++ drop (8 * (k / 8 + 1)) s))
    (omega (arith, length-take-le k s l))
    ∙ take-take j k s h

-- what stands from place a on, n bytes before place k, when a byte is put at k
drop_put_at
    : (s : Bytes) (a n k b : ℕ) → k ≡ a + n → k ≤ length s
    → drop a (put_at s k b) ≡ take n (drop a s) ++ (b ∷ (replicate (7 - k % 8) 0 ++ drop (8 * (k / 8 + 1)) s))
drop_put_at s a n k b e l =
    ap (λ (t : Bytes). drop a t)
    (put_at_parts s k b
    ∙ ap (λ (t : Bytes). t ++ rest) (ap (λ (i : ℕ). take i s) e ∙ take-add a n s)
    ∙ append_assoc (take a s) (take n (drop a s)) rest)
    ∙ drop_at (take a s) (take n (drop a s) ++ rest) a (length-take-le a s (omega arith))
  where
    rest : Bytes
    rest = b ∷ (replicate (7 - k % 8) 0 ++ drop (8 * (k / 8 + 1)) s)

-- one byte put behind a text of n bytes: the text is longer by that byte, and zeros fill its last word
pub text_in_put_padded
    : (p p' : List ℕ) (w n k b : ℕ) {t : Bytes}
    → k ≡ 8 * w + n
    → k / 8 < length p
    → pool_bytes p' ≡ put_at (pool_bytes p) k b
    → text_in p w n ≡ t
    → text_in p' w (8 * words (n + 1)) ≡ t ++ (b ∷ replicate (7 - n % 8) 0)
unfolding text_in
text_in_put_padded p p' w n k b {t} e h q r =
    ap (λ (s : Bytes). take (8 * words (n + 1)) (drop (8 * w) s)) q
    ∙ ap (λ (s : Bytes). take (8 * words (n + 1)) s)
    (drop_put_at (pool_bytes p) (8 * w) n k b e (omega (arith, length_pool_bytes p))
    ∙ sym (append_assoc (text_in p w n) (b ∷ replicate (7 - k % 8) 0) (drop (8 * (k / 8 + 1)) (pool_bytes p))))
    ∙ take_at (text_in p w n ++ (b ∷ replicate (7 - k % 8) 0)) (drop (8 * (k / 8 + 1)) (pool_bytes p)) (8 * words (n + 1))
    (length-append (text_in p w n) (b ∷ replicate (7 - k % 8) 0) ∙ sizes)
    ∙ ap₂ (λ (s : Bytes) (z : ℕ). s ++ (b ∷ replicate (7 - z) 0)) r (let f : k % 8 ≡ n % 8 = omega arith in f)
  where
    sizes : length (text_in p w n) + suc (length {A = ℕ} (replicate (7 - k % 8) 0)) ≡ 8 * words (n + 1)
    sizes =
        omega
        (arith, length_text_in p w n (bytes_words w n (length p) (omega arith)), length-replicate {A = ℕ} (7 - k % 8) 0, words_next n)

pub text_in_put
    : (p p' : List ℕ) (w n k b : ℕ) {t : Bytes}
    → k ≡ 8 * w + n
    → k / 8 < length p
    → pool_bytes p' ≡ put_at (pool_bytes p) k b
    → text_in p w n ≡ t
    → text_in p' w (n + 1) ≡ t ++ (b ∷ [])
text_in_put p p' w n k b {t} e h q r =
    sym (take_text_in p' w (n + 1) (8 * words (n + 1)) (le_words (n + 1)))
    ∙ ap (λ (s : Bytes). take (n + 1) s) (text_in_put_padded p p' w n k b e h q r)
    ∙ ap (λ (i : ℕ). take i (t ++ (b ∷ replicate (7 - n % 8) 0))) (ap (λ (i : ℕ). i + 1) (sym size))
    ∙ take-append-add t (b ∷ replicate (7 - n % 8) 0) 1
  where
    size : length t ≡ n
    size = ap length (sym r) ∙ length_text_in p w n (bytes_words w n (length p) (omega arith))

-- texts that lie before word u stay as they are when a byte is put at or behind it
pub text_in_put_before
    : (p p' : List ℕ) (u w n k b : ℕ)
    → w + words n ≤ u
    → 8 * u ≤ k
    → k / 8 < length p
    → pool_bytes p' ≡ put_at (pool_bytes p) k b
    → text_in p' w n ≡ text_in p w n
unfolding text_in
text_in_put_before p p' u w n k b h l i q =
    text_in_prefix (pool_bytes p) (pool_bytes p') w n (8 * u) (words_bytes w n u h)
    (ap (λ (s : Bytes). take (8 * u) s) q ∙ take_put_at (pool_bytes p) (8 * u) k b l (omega (arith, length_pool_bytes p)))

-- ---- Put

-- the words before that of place k
pub put_take : {p p' : List ℕ} {k b : ℕ} (w : ℕ) → Put p p' k b → 8 * w ≤ k → take w p' ≡ take w p
put_take {p} {p'} {k} w h l =
    sym (take-take w (k / 8) p' (omega arith)) ∙ ap (λ (q : List ℕ). take w q) h.front ∙ take-take w (k / 8) p (omega arith)

-- the words behind that of place k
pub put_drop : {p p' : List ℕ} {k b : ℕ} (w : ℕ) → Put p p' k b → k < 8 * w → drop w p' ≡ drop w p
put_drop {p} {p'} {k} w h l = from p' ∙ ap (λ (q : List ℕ). drop (w - (k / 8 + 1)) q) h.back ∙ sym (from p)
  where
    from : (q : List ℕ) → drop w q ≡ drop (w - (k / 8 + 1)) (drop (k / 8 + 1) q)
    from q =
        ap (λ (n : ℕ). drop n q) (let e : w ≡ k / 8 + 1 + (w - (k / 8 + 1)) = omega arith in e)
        ∙ sym (drop-drop (w - (k / 8 + 1)) (k / 8 + 1) q)
