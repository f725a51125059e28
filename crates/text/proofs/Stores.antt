-- Bytes of a word stored into a slice: the last ones, from the right. Assumes nothing.
use Prim.Native.Nat.{ℕ, ◌+◌, ◌-◌, ◌*◌, ◌/◌, ◌%◌, ◌^◌, ◌≤◌, ◌<◌}
use mathlib.Core.Path.{◌≡◌, refl, sym, ap, ◌∙◌, subst, subst₂}
use mathlib.Core.List.{[], ◌++◌, append_assoc, append-nil}
use native.Mathlib.Decide.{dec_lt}
use native.Mathlib.Omega.{arith}
use lib.ListN.{length, get_or, take, drop, length-append, length-drop, drop_of_length-le, get_or-append}
use Rattle.std.proofs.lemmas.List.{take_all}
use Rattle.std.proofs.lemmas.Slice.{put_mid-paste}
use lib.Pow.{shr-shr}
use borrow.Rule.Slice.PartMut.{put_mid}
use lib.Seq.{get_or-drop, get_or-take, get_or-append-add, ext_get_or, length-take-le}
use Rattle.definitions.specs.Bytes.{Bytes}
use Rattle.pool.specs.Pool.{unpacked}
use Rattle.pool.specs.PoolLaws.{length_unpacked, get_or_unpacked}
use Rattle.text.specs.Writes.{Writes}
use Rattle.text.specs.WritesLaws.{writes_none, writes_before, writes_length, writes_as, writes_same}

-- ---- the last bytes of a word

length_last : (x n : ℕ) → n ≤ 8 → length (drop (8 - n) (unpacked x)) ≡ n
length_last x n h = omega (arith, length-drop (8 - n) (unpacked x), length_unpacked x)

-- byte i of the last n
get_or_last : (x n i : ℕ) → n ≤ 8 → i < n → get_or (drop (8 - n) (unpacked x)) i 0 ≡ x / 2 ^ (8 * (n - 1 - i)) % 256
get_or_last x n i h l =
    get_or-drop (8 - n) (unpacked x) i 0
    ∙ get_or_unpacked x (8 - n + i) (omega arith)
    ∙ ap (λ (k : ℕ). x / 2 ^ k % 256) (let e : 56 - 8 * (8 - n + i) ≡ 8 * (n - 1 - i) = omega arith in e)

-- the last n put in place of as many bytes
pub writes_last
    : (o : Bytes) (at n x : ℕ) {w s : Bytes} → n ≤ 8 → w ≡ unpacked x → s ≡ take (8 - (8 - n)) (drop (8 - n) w)
    → Writes o (put_mid at (at + n - at) o s) at (drop (8 - n) (unpacked x)) (at + n)
writes_last o at n x {w} {s} h e f =
    record {
      bytes = put_mid-paste at (at + n - at) o s (drop (8 - n) (unpacked x)) n last (omega arith) (sym (length_last x n h))
          ∙ ap (λ (t : Bytes). take at o ++ t ++ drop (at + n) o) (take_all n (drop (8 - n) (unpacked x)) (omega (arith, length_last x n h)));
      end = ap (λ (k : ℕ). at + k) (sym (length_last x n h));
    }
  where
    last : s ≡ drop (8 - n) (unpacked x)
    last =
        f
        ∙ ap (λ (t : Bytes). take (8 - (8 - n)) (drop (8 - n) t)) e
        ∙ take_all (8 - (8 - n)) (drop (8 - n) (unpacked x)) (omega (arith, length_last x n h))

-- the last n are those of the word without its last k, and these k
last_split
    : (x n k : ℕ) → k ≤ n → n ≤ 8
    → drop (8 - n) (unpacked x) ≡ drop (8 - (n - k)) (unpacked (x / 2 ^ (8 * k))) ++ drop (8 - k) (unpacked x)
last_split x n k h l =
    ext_get_or 0 (drop (8 - n) (unpacked x)) (drop (8 - (n - k)) (unpacked (x / 2 ^ (8 * k))) ++ drop (8 - k) (unpacked x))
    (length_last x n l
    ∙ omega (
      arith,
      length-append (drop (8 - (n - k)) (unpacked (x / 2 ^ (8 * k)))) (drop (8 - k) (unpacked x)),
      front,
      length_last x k (omega arith),
    ))
    (λ i g. go i (omega (arith, length_last x n l)) (dec_lt i (n - k)))
  where
    front : length (drop (8 - (n - k)) (unpacked (x / 2 ^ (8 * k)))) ≡ n - k
    front = length_last (x / 2 ^ (8 * k)) (n - k) (omega arith)

    go
        : (i : ℕ) → i < n → Dec (i < n - k)
        → get_or (drop (8 - n) (unpacked x)) i 0 ≡ get_or (drop (8 - (n - k)) (unpacked (x / 2 ^ (8 * k))) ++ drop (8 - k) (unpacked x)) i 0
    go i g (yes m) =
        get_or_last x n i l g
        ∙ ap (λ (j : ℕ). x / 2 ^ j % 256) (let e : 8 * (n - 1 - i) ≡ 8 * k + 8 * (n - k - 1 - i) = omega arith in e)
        ∙ ap (λ (j : ℕ). j % 256) (sym (shr-shr x (8 * k) (8 * (n - k - 1 - i))))
        ∙ sym (get_or_last (x / 2 ^ (8 * k)) (n - k) i (omega arith) m)
        ∙ sym (get_or-append (drop (8 - (n - k)) (unpacked (x / 2 ^ (8 * k)))) (drop (8 - k) (unpacked x)) 0 i (omega (arith, front)))
    go i g (no m) =
        get_or_last x n i l g
        ∙ ap (λ (j : ℕ). x / 2 ^ j % 256) (let e : 8 * (n - 1 - i) ≡ 8 * (k - 1 - (i - (n - k))) = omega arith in e)
        ∙ sym (get_or_last x k (i - (n - k)) (omega arith) (omega arith))
        ∙ sym (get_or-append-add (drop (8 - (n - k)) (unpacked (x / 2 ^ (8 * k)))) (drop (8 - k) (unpacked x)) (i - (n - k)) 0)
        ∙ ap (λ (j : ℕ). get_or (drop (8 - (n - k)) (unpacked (x / 2 ^ (8 * k))) ++ drop (8 - k) (unpacked x)) j 0)
        (let e : length (drop (8 - (n - k)) (unpacked (x / 2 ^ (8 * k)))) + (i - (n - k)) ≡ i = omega (arith, front) in e)

-- the first n are the last of the word shifted down
pub first_last : (x n : ℕ) → 1 ≤ n → n ≤ 8 → drop (8 - n) (unpacked (x / 2 ^ (64 - 8 * n))) ≡ take n (unpacked x)
first_last x n o l =
    ext_get_or 0 (drop (8 - n) (unpacked (x / 2 ^ (64 - 8 * n)))) (take n (unpacked x))
    (length_last (x / 2 ^ (64 - 8 * n)) n l ∙ sym (length-take-le n (unpacked x) (omega (arith, length_unpacked x))))
    (λ i g.
    let h : i < n = omega (arith, length_last (x / 2 ^ (64 - 8 * n)) n l) in
    get_or_last (x / 2 ^ (64 - 8 * n)) n i l h
    ∙ ap (λ (j : ℕ). j % 256) (shr-shr x (64 - 8 * n) (8 * (n - 1 - i)))
    ∙ ap (λ (j : ℕ). x / 2 ^ j % 256) (let e : 64 - 8 * n + 8 * (n - 1 - i) ≡ 56 - 8 * i = omega arith in e)
    ∙ sym (get_or_unpacked x i (omega arith))
    ∙ sym (get_or-take n (unpacked x) i 0 h))

-- ---- stored from the right

-- of the last n bytes of x, those behind the first m stand from place end on; y is what is left of x
pub record Stored (o o' : Bytes) (at x n m end y : ℕ) : Type 0 where
  pub done : Bytes
  pub parts : drop (8 - n) (unpacked x) ≡ drop (8 - m) (unpacked y) ++ done
  pub writes : Writes o o' end done (at + n)
  pub place : end ≡ at + m

pub stored_none : (o : Bytes) (at x n : ℕ) → Stored o o at x n n (at + n) x
stored_none o at x n =
    record { done = []; parts = sym (append-nil (drop (8 - n) (unpacked x))); writes = writes_none o (at + n); place = refl }

-- the slice stays as long
pub stored_length : {o o' : Bytes} {at x n m end y : ℕ} → Stored o o' at x n m end y → at + n ≤ length o → length o' ≡ length o
stored_length {o} {o'} {at} {n = n} {end = end} s room = writes_length o o' end s.done (at + n) room s.writes

-- k bytes more
pub stored_more
    : {o o₁ o₂ : Bytes} {at x n m end y r : ℕ} (k : ℕ) → Stored o o₁ at x n m end y → k ≤ m → m ≤ 8 → at + n ≤ length o
    → Writes o₁ o₂ (end - k) (drop (8 - k) (unpacked y)) r
    → Stored o o₂ at x n (m - k) (end - k) (y / 2 ^ (8 * k))
stored_more {at = at} {x} {n} {m} {end} {y} {r} k s l u room w =
    let e : r ≡ end = omega (arith, s.place, w.end, length_last y k (omega arith)) in
    record {
      done = drop (8 - k) (unpacked y) ++ s.done;
      parts = s.parts
          ∙ ap (λ (t : Bytes). t ++ s.done) (last_split y m k l u)
          ∙ append_assoc (drop (8 - (m - k)) (unpacked (y / 2 ^ (8 * k)))) (drop (8 - k) (unpacked y)) s.done;
      writes = writes_before (omega (arith, s.place, s.writes.end)) s.writes (writes_same (drop (8 - k) (unpacked y)) end w refl e);
      place = omega (arith, s.place);
    }

-- the same under other names
pub stored_as
    : {o o₁ o₂ : Bytes} {at x n m m' end end' y y' : ℕ} → Stored o o₁ at x n m end y → o₂ ≡ o₁ → m ≡ m' → y' ≡ y → end' ≡ end
    → Stored o o₂ at x n m' end' y'
stored_as {o} {o₁} {o₂} {at} {x} {n} {m} {m'} {end} {end'} {y} {y'} s q e f g =
    subst (λ (t : Bytes). Stored o t at x n m' end' y') (sym q)
    (subst (λ (k : ℕ). Stored o o₁ at x n k end' y') e
    (subst₂ (λ (j z : ℕ). Stored o o₁ at x n m j z) (sym g) (sym f) s))

-- all
pub stored_all
    : {o o' : Bytes} {at x n m end y : ℕ} → Stored o o' at x n m end y → m ≡ 0 → Writes o o' at (drop (8 - n) (unpacked x)) (at + n)
stored_all {o} {o'} {at} {x} {n} {m} {end} {y} s e =
    subst (λ (j : ℕ). Writes o o' j (drop (8 - n) (unpacked x)) (at + n)) (let z : end ≡ at = omega (arith, s.place) in z)
    (writes_as
    (sym
    (s.parts
    ∙ ap (λ (t : Bytes). t ++ s.done) (drop_of_length-le (unpacked y) (let z : length (unpacked y) ≤ 8 - m = omega (arith, length_unpacked y) in z))))
    s.writes)
