-- A word stored at the place of byte k: the pool's bytes afterwards. Assumes nothing.
use Prim.Native.Nat.{ℕ, suc, ◌+◌, ◌-◌, ◌*◌, ◌/◌, ◌%◌, ◌^◌, ◌<◌}
use mathlib.Core.Path.{◌≡◌, sym, ap, ap₂, ◌∙◌}
use mathlib.Core.List.{List, ◌∷◌, ◌++◌, append_assoc}
use native.Mathlib.Nat.{div-add-mod}
use native.Mathlib.Numerals.{add-one}
use native.Mathlib.Omega.{arith}
use lib.ListN.{length, get_or, take, drop, set, replicate, length-set}
use lib.Seq.{drop-cons, set_split, take-add, take-append-le, take-set-le, drop-set-lt}
use Rattle.definitions.specs.Bytes.{Bytes}
use Rattle.pool.specs.Pool.{Put, unpacked, pool_bytes, put_at}
use Rattle.pool.specs.PoolLaws.{length_unpacked, pool_bytes_append, take_pool_bytes, drop_pool_bytes}
use Rattle.pool.proofs.Word.{upper, put_word, unpacked_put, put_word_fits}

module _ (p : List ℕ) (k b : ℕ) (hk : k / 8 < length p) where
  -- the word of place k
  abbrev pub word : ℕ
  word = get_or p (k / 8) 0

  -- the bytes before place k: whole words, then the first bytes of its own
  take_split : take k (pool_bytes p) ≡ pool_bytes (take (k / 8) p) ++ take (k % 8) (unpacked word)
  unfolding pool_bytes
  take_split =
      ap (λ (n : ℕ). take n (pool_bytes p)) (sym (div-add-mod k 8))
      ∙ take-add (8 * (k / 8)) (k % 8) (pool_bytes p)
      ∙ ap₂ (λ (s t : Bytes). s ++ t) (take_pool_bytes (k / 8) p)
      (ap (λ (s : Bytes). take (k % 8) s) (drop_pool_bytes (k / 8) p ∙ ap pool_bytes (drop-cons p (k / 8) 0 hk))
      ∙ take-append-le (k % 8) (unpacked word) (pool_bytes (drop (suc (k / 8)) p)) (omega (arith, length_unpacked word)))

  -- the bytes behind the word of place k
  drop_split : drop (8 * (k / 8 + 1)) (pool_bytes p) ≡ pool_bytes (drop (suc (k / 8)) p)
  drop_split = ap (λ (n : ℕ). drop (8 * n) (pool_bytes p)) (add-one (k / 8)) ∙ drop_pool_bytes (suc (k / 8)) p

  stored_bytes
      : (y : ℕ) → unpacked y ≡ take (k % 8) (unpacked word) ++ (b ∷ replicate (7 - k % 8) 0)
      → pool_bytes (set p (k / 8) y) ≡ put_at (pool_bytes p) k b
  unfolding pool_bytes put_at
  stored_bytes y e =
      ap pool_bytes (set_split p (k / 8) y hk)
      ∙ pool_bytes_append (take (k / 8) p) (y ∷ drop (suc (k / 8)) p)
      ∙ ap (λ (s : Bytes). front ++ (s ++ back)) e
      ∙ sym (append_assoc front (take (k % 8) (unpacked word) ++ here) back)
      ∙ ap (λ (s : Bytes). s ++ back) (sym (append_assoc front (take (k % 8) (unpacked word)) here))
      ∙ ap₂ (λ (s t : Bytes). s ++ here ++ t) (sym take_split) (sym drop_split)
    where
      front : Bytes
      front = pool_bytes (take (k / 8) p)

      back : Bytes
      back = pool_bytes (drop (suc (k / 8)) p)

      here : Bytes
      here = b ∷ replicate (7 - k % 8) 0

  -- the word that put_byte makes is stored
  pub stored
      : (s : ℕ) → s ≡ 56 - 8 * (k % 8) → word < 2 ^ 64 → b < 256
      → Put p (set p (k / 8) (upper word s b * 2 ^ s % 2 ^ 64)) k b
  stored s e hw hb =
      record {
        bytes = stored_bytes y (ap unpacked y_is ∙ unpacked_put word (k % 8) b (omega arith) hb);
        kept = length-set p (k / 8) y;
        front = take-set-le (k / 8) p (k / 8) y (omega arith);
        back = drop-set-lt (k / 8 + 1) p (k / 8) y (omega arith);
      }
    where
      y : ℕ
      y = upper word s b * 2 ^ s % 2 ^ 64

      y_is : y ≡ put_word word (56 - 8 * (k % 8)) b
      y_is = ap (λ (n : ℕ). upper word n b * 2 ^ n % 2 ^ 64) e ∙ put_word_fits word (k % 8) b (omega arith) hb hw
