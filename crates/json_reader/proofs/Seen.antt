-- The bits of the names seen. A name whose bit is not set is none of those whose bits are. Assumes nothing.
use Prim.Native.Nat.{ℕ, ◌+◌, ◌*◌, ◌/◌, ◌%◌, ◌^◌, ◌<◌, max}
use mathlib.Core.Path.{◌≡◌, refl, sym, ap, ap₂, ◌∙◌, subst}
use mathlib.Core.Bool.{Bool, true, false, ◌||◌}
use mathlib.Core.List.{List}
use native.Mathlib.Omega.{arith}
use lib.Bits.{bit_or, or_shr, or_step}
use lib.Pow.{shl-shr}
use lib.ListN.{length, get_or}
use Rattle.definitions.specs.Bytes.{Bytes, same}
use Rattle.definitions.specs.Value.{Value, Members, no_members, member, members_onto, has_name}
use Rattle.laws.specs.Names.{same_eq}
use Rattle.pool.specs.Pool.{text_in}
use Rattle.pool.specs.PoolLaws.{length_text_in_min, get_or_text_in, get_or_pool_word}
use Rattle.json_reader.specs.JsonParts.{name_place, Covers, covers_none, covers_more}

-- ---- the bit of a name

module _ (pool : List ℕ) (w n : ℕ) (whole : length (text_in pool w n) ≡ n) where
  pub first_inside : 0 < n → w < length pool
  first_inside h = omega (arith, whole, length_text_in_min pool w n)

  pub place_none : n ≡ 0 → 0 ≡ name_place (text_in pool w n)
  unfolding name_place text_in
  place_none e = rw e refl

  pub place_some
      : 0 < n → get_or pool w 0 < 2 ^ 64 → (get_or pool w 0 / 2 ^ 56 + 5 * n) % 64 ≡ name_place (text_in pool w n)
  unfolding name_place
  place_some h fits = ap₂ (λ (b k : ℕ). (b + 5 * k) % 64) (sym (first ∙ omega (arith, fits))) (sym whole)
    where
      first : get_or (text_in pool w n) 0 0 ≡ get_or pool w 0 / 2 ^ 56 % 256
      first = get_or_text_in pool w n 0 h ∙ get_or_pool_word pool w 0 (omega arith)

-- ---- sets of bits

bit_or_of : (a b k : ℕ) → bit_or a b / 2 ^ k % 2 ≡ max (a / 2 ^ k % 2) (b / 2 ^ k % 2)
bit_or_of a b k =
    ap (λ (x : ℕ). x % 2) (or_shr a b k ∙ or_step (a / 2 ^ k) (b / 2 ^ k))
    ∙ one (bit_or (a / 2 ^ k / 2) (b / 2 ^ k / 2)) (a / 2 ^ k) (b / 2 ^ k)
  where
    one : (x u v : ℕ) → (x * 2 + max (u % 2) (v % 2)) % 2 ≡ max (u % 2) (v % 2)
    one x u v = omega arith

covers_or : {seen : ℕ} (b : ℕ) {ms : Members} → Covers seen ms → Covers (bit_or seen b) ms
covers_or b covers_none = covers_none
covers_or {seen} b (covers_more {n} e cs) = covers_more (bit_or_of seen b (name_place n) ∙ omega (arith, e)) (covers_or b cs)

-- a name's bit is added
pub covers_with
    : {seen place x : ℕ} {n : Bytes} (v : Value) {ms : Members} → place ≡ name_place n → x ≡ 1 * 2 ^ place → Covers seen ms
    → Covers (bit_or seen x) (member n v ms)
covers_with {seen} {place} {x} {n} v e f cs =
    covers_more (bit_or_of seen x (name_place n) ∙ omega (arith, set)) (covers_or x cs)
  where
    set : x / 2 ^ name_place n % 2 ≡ 1
    set = ap (λ (y : ℕ). y % 2) (ap (λ (y : ℕ). y / 2 ^ name_place n) (f ∙ ap (λ (k : ℕ). 1 * 2 ^ k) e) ∙ shl-shr 1 (name_place n))

pub covers_onto : {seen : ℕ} (ms : Members) {os : Members} → Covers seen ms → Covers seen os → Covers seen (members_onto ms os)
unfolding members_onto
covers_onto no_members c d = d
covers_onto (member n v ms) (covers_more e c) d = covers_onto ms c (covers_more e d)

pub not_seen
    : {seen : ℕ} (t : Bytes) (ms : Members) → seen / 2 ^ name_place t % 2 ≡ 0 → Covers seen ms → false ≡ has_name t ms
unfolding has_name
not_seen t no_members h covers_none = refl
not_seen {seen} t (member n v ms) h (covers_more e c) = go (same t n) refl (not_seen t ms h c)
  where
    go : (b : Bool) → same t n ≡ b → false ≡ has_name t ms → false ≡ (same t n || has_name t ms)
    go true q others =
        let k : seen / 2 ^ name_place n % 2 ≡ 0 = subst (λ (s : Bytes). seen / 2 ^ name_place s % 2 ≡ 0) (same_eq t n q) h in
        absurd (let z : ⊥ = omega (arith, e, k) in z)
    go false q others = others ∙ sym (ap (λ (b : Bool). b || has_name t ms) q)
