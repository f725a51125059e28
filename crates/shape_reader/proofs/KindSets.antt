-- Sets of kinds, as kinds read in order and as sums of bits. Assumes nothing.
use Prim.Native.Nat.{ℕ, suc, ◌+◌, ◌*◌, ◌^◌, ◌≤◌, ◌<◌}
use mathlib.Core.Path.{◌≡◌, refl, sym, ap, ap₂, ◌∙◌}
use mathlib.Core.Bool.{Bool, true, false, ◌&&◌}
use mathlib.Core.List.{List, [], ◌∷◌}
use native.Mathlib.Decide.{dec_lt}
use native.Mathlib.Omega.{arith}
use lib.Pow.{pow_mono}
use borrow.Author.Tests.{lt-ltb, le-ltb, ltb-true, eqb-true, eqb-false}
use lib.Dec.{ltb, eqb}
use Rattle.definitions.specs.Shape.{Kind, rank, among, no_number, int_only, int_and_dec, Shape, shape, Element}
use Rattle.definitions.specs.Shape.{no_list, list_of, Record, no_rec, rec_of, no_fields, nothing, has_list, has_rec}
use Rattle.definitions.specs.ShapeText.{numeric_from, in_order, may_follow}
use Rattle.laws.specs.Bools.{and_left, and_right, clash}
use Rattle.shapes.specs.Shapes.{kind_bit, bit, numeric_bits, kind_bits, has_bit}
use Rattle.shapes.specs.ShapesLaws.{has_list_bit, has_rec_bit, kind_bits_lt}
use Rattle.shape_reader.specs.ShapeParts.{bits_of, KindsHeld, Follows}

-- ---- the order of kinds and of bits

bit_power : (k : Kind) → kind_bit k ≡ 2 ^ rank k
unfolding kind_bit rank
bit_power Kind.null = refl
bit_power Kind.bool = refl
bit_power Kind.int = refl
bit_power Kind.dec = refl
bit_power Kind.text = refl
bit_power Kind.list = refl
bit_power Kind.rec = refl

-- a sum of bits whose highest is that of k
pub order_bits : (k j : Kind) (x : ℕ) → kind_bit k ≤ x → x < 2 * kind_bit k → ltb (rank k) (rank j) ≡ ltb x (kind_bit j)
order_bits k j x h i = pick (dec_lt (rank k) (rank j))
  where
    pick : Dec (rank k < rank j) → ltb (rank k) (rank j) ≡ ltb x (kind_bit j)
    pick (yes l) =
        lt-ltb (rank k) (rank j) l
        ∙ sym
        (lt-ltb x (kind_bit j)
        (omega (arith, bit_power k, bit_power j, pow_mono {i = suc (rank k)} {j = rank j} l)))
    pick (no l) =
        le-ltb (rank k) (rank j) (omega arith)
        ∙ sym
        (le-ltb x (kind_bit j)
        (let m : rank j ≤ rank k = omega arith in omega (arith, bit_power k, bit_power j, pow_mono {i = rank j} {j = rank k} m)))

-- ---- the bits of kinds

bit_le : (b : Bool) → bit b ≤ 1
unfolding bit
bit_le true = omega arith
bit_le false = omega arith

-- the bits of these kinds, where list and rec are there or not
unfoldable pub with_parts : List Kind → (list rec : Bool) → ℕ
with_parts ks x y =
    bit (among Kind.null ks)
    + 2 * bit (among Kind.bool ks)
    + 4 * numeric_bits (numeric_from ks)
    + 16 * bit (among Kind.text ks)
    + 32 * bit x
    + 64 * bit y

-- what the numbers among the kinds say
data Numbers (ks : List Kind) : ℕ → Type 0 where
  no_numbers : among Kind.int ks ≡ false → among Kind.dec ks ≡ false → Numbers ks 0
  only_int : among Kind.int ks ≡ true → among Kind.dec ks ≡ false → Numbers ks 1
  both_numbers : among Kind.dec ks ≡ true → Numbers ks 3

numbers : (ks : List Kind) → Numbers ks (numeric_bits (numeric_from ks))
unfolding numeric_bits numeric_from
numbers ks = go (among Kind.dec ks) (among Kind.int ks) refl refl
  where
    go
        : (d i : Bool) → among Kind.dec ks ≡ d → among Kind.int ks ≡ i
        → Numbers ks
        (numeric_bits (elim d [ true ↦ int_and_dec | false ↦ elim i [ true ↦ int_only | false ↦ no_number ] ]))
    go true i p q = both_numbers p
    go false true p q = only_int q p
    go false false p q = no_numbers q p

pub none_held : KindsHeld [] 0
unfolding bits_of bit among numeric_from numeric_bits in_order kind_bit
none_held = record { bits = refl; order = λ k. some_bit k }
  where
    some_bit : (k : Kind) → true ≡ ltb 0 (kind_bit k)
    some_bit Kind.null = refl
    some_bit Kind.bool = refl
    some_bit Kind.int = refl
    some_bit Kind.dec = refl
    some_bit Kind.text = refl
    some_bit Kind.list = refl
    some_bit Kind.rec = refl

module _ {ks : List Kind} {kinds : ℕ} (h : KindsHeld ks kinds) where
  -- int is there where the bits below dec's reach it
  int_there : kinds < 8 → 4 ≤ kinds → among Kind.int ks ≡ true
  unfolding bits_of
  int_there l m = pick (numeric_bits (numeric_from ks)) refl (numbers ks)
    where
      pick : (x : ℕ) → numeric_bits (numeric_from ks) ≡ x → Numbers ks x → among Kind.int ks ≡ true
      pick x e (only_int i d) = i
      pick x e (both_numbers d) = absurd (let z : ⊥ = omega (arith, h.bits, e) in z)
      pick x e (no_numbers i d) =
          absurd
          (let z : ⊥ = omega
          (arith, h.bits, e, bit_le (among Kind.null ks), bit_le (among Kind.bool ks))
          in z)

  no_int : kinds < 4 → among Kind.int ks ≡ false
  unfolding bits_of
  no_int l = pick (numeric_bits (numeric_from ks)) refl (numbers ks)
    where
      pick : (x : ℕ) → numeric_bits (numeric_from ks) ≡ x → Numbers ks x → among Kind.int ks ≡ false
      pick x e (only_int i d) = absurd (let z : ⊥ = omega (arith, h.bits, e) in z)
      pick x e (both_numbers d) = absurd (let z : ⊥ = omega (arith, h.bits, e) in z)
      pick x e (no_numbers i d) = i

  -- no dec where no number's bit is there
  no_dec : kinds < 4 → among Kind.dec ks ≡ false
  unfolding bits_of
  no_dec l = pick (numeric_bits (numeric_from ks)) refl (numbers ks)
    where
      pick : (x : ℕ) → numeric_bits (numeric_from ks) ≡ x → Numbers ks x → among Kind.dec ks ≡ false
      pick x e (only_int i d) = d
      pick x e (both_numbers d) = absurd (let z : ⊥ = omega (arith, h.bits, e) in z)
      pick x e (no_numbers i d) = d

  one_number : kinds < 8 → 4 ≤ kinds → numeric_bits (numeric_from ks) ≡ 1
  unfolding bits_of
  one_number l m =
      omega
      (arith, h.bits, numeric_le ks, bit_le (among Kind.null ks), bit_le (among Kind.bool ks))
    where
      numeric_le : (js : List Kind) → numeric_bits (numeric_from js) ≤ 3
      numeric_le js = pick (numeric_bits (numeric_from js)) (numbers js)
        where
          pick : (x : ℕ) → Numbers js x → x ≤ 3
          pick x (no_numbers i d) = omega arith
          pick x (only_int i d) = omega arith
          pick x (both_numbers d) = omega arith

  -- one kind more
  more_bits : (k : Kind) → kinds < kind_bit k → may_follow ks k ≡ true → kinds + kind_bit k ≡ bits_of (k ∷ ks)
  unfolding bits_of among rank bit kind_bit numeric_from numeric_bits may_follow
  more_bits Kind.null l f = omega (arith, h.bits)
  more_bits Kind.bool l f = omega (arith, h.bits)
  more_bits Kind.int l f = rw (no_dec l) (omega (arith, h.bits))
  more_bits Kind.dec l f =
      let i : among Kind.int ks ≡ true = and_right (in_order ks Kind.dec) (among Kind.int ks) f in
      omega (arith, h.bits, one_number l (reaches i (dec_lt kinds 4)))
    where
      reaches : among Kind.int ks ≡ true → Dec (kinds < 4) → 4 ≤ kinds
      reaches i (yes m) = clash i (no_int m)
      reaches i (no m) = omega arith
  more_bits Kind.text l f = omega (arith, h.bits)
  more_bits Kind.list l f = omega (arith, h.bits)
  more_bits Kind.rec l f = omega (arith, h.bits)

  pub held_more : (k : Kind) → may_follow ks k ≡ true → KindsHeld (k ∷ ks) (kinds + kind_bit k)
  unfolding in_order may_follow
  held_more k f =
      let l : kinds < kind_bit k = ltb-true kinds (kind_bit k) (sym (h.order k) ∙ and_left (in_order ks k) _ f) in
      record { bits = more_bits k l f; order = λ j. order_bits k j (kinds + kind_bit k) (omega arith) (omega arith) }

  -- ---- list and rec

  flag_element : Bool → Element
  flag_element true = list_of nothing
  flag_element false = no_list

  flag_record : Bool → Record
  flag_record true = rec_of no_fields
  flag_record false = no_rec

  flagged_element : (b : Bool) → has_list (flag_element b) ≡ b
  unfolding has_list flag_element
  flagged_element true = refl
  flagged_element false = refl

  flagged_record : (b : Bool) → has_rec (flag_record b) ≡ b
  unfolding has_rec flag_record
  flagged_record true = refl
  flagged_record false = refl

  flat : Shape
  flat =
      shape (among Kind.null ks) (among Kind.bool ks) (numeric_from ks) (among Kind.text ks) (flag_element (among Kind.list ks))
      (flag_record (among Kind.rec ks))

  flat_bits : kinds ≡ kind_bits flat
  unfolding bits_of kind_bits flat with_parts
  flat_bits =
      h.bits
      ∙ ap₂ (with_parts ks)
      (sym (flagged_element (among Kind.list ks)))
      (sym (flagged_record (among Kind.rec ks)))

  pub has_list_kind : has_bit kinds 32 ≡ among Kind.list ks
  unfolding flat
  has_list_kind =
      ap (λ (x : ℕ). has_bit x 32) flat_bits
      ∙ has_list_bit (among Kind.null ks) (among Kind.bool ks) (numeric_from ks) (among Kind.text ks) (flag_element (among Kind.list ks))
      (flag_record (among Kind.rec ks))
      ∙ flagged_element (among Kind.list ks)

  pub has_rec_kind : has_bit kinds 64 ≡ among Kind.rec ks
  unfolding flat
  has_rec_kind =
      ap (λ (x : ℕ). has_bit x 64) flat_bits
      ∙ has_rec_bit (among Kind.null ks) (among Kind.bool ks) (numeric_from ks) (among Kind.text ks) (flag_element (among Kind.list ks))
      (flag_record (among Kind.rec ks))
      ∙ flagged_record (among Kind.rec ks)

  pub held_small : kinds < 128
  held_small = omega (arith, flat_bits, kind_bits_lt flat)

-- ---- which kind may follow

and_false : (b : Bool) → false ≡ b && false
and_false true = refl
and_false false = refl

and_true : (b : Bool) → b ≡ b && true
and_true true = refl
and_true false = refl

below_int
    : {ks : List Kind} {kinds kind : ℕ} → kind ≡ 8 → kinds < 4 → KindsHeld ks kinds
    → (k : Kind) → kind ≡ kind_bit k → false ≡ may_follow ks k
unfolding kind_bit may_follow rank
below_int e l h Kind.null f = absurd (let z : ⊥ = omega arith in z)
below_int e l h Kind.bool f = absurd (let z : ⊥ = omega arith in z)
below_int e l h Kind.int f = absurd (let z : ⊥ = omega arith in z)
below_int {ks} e l h Kind.dec f = and_false (in_order ks Kind.dec) ∙ ap (λ (b : Bool). in_order ks Kind.dec && b) (sym (no_int h l))
below_int e l h Kind.text f = absurd (let z : ⊥ = omega arith in z)
below_int e l h Kind.list f = absurd (let z : ⊥ = omega arith in z)
below_int e l h Kind.rec f = absurd (let z : ⊥ = omega arith in z)

-- dec without int
pub dec_alone : {kinds kind : ℕ} → kind ≡ 8 → kinds < 4 → Follows kinds kind false
dec_alone e l =
    record {
      judged = λ ks h k f. below_int e l h k f;
      no_kind = λ z. refl;
      higher = λ z. clash {b = true} refl (sym z);
    }

with_int
    : {ks : List Kind} {kinds kind : ℕ} → kind ≡ 8 → 4 ≤ kinds → KindsHeld ks kinds
    → (k : Kind) → kind ≡ kind_bit k → ltb kinds kind ≡ may_follow ks k
unfolding kind_bit may_follow rank
with_int e l h Kind.null f = absurd (let z : ⊥ = omega arith in z)
with_int e l h Kind.bool f = absurd (let z : ⊥ = omega arith in z)
with_int e l h Kind.int f = absurd (let z : ⊥ = omega arith in z)
with_int {ks} {kinds} {kind} e l h Kind.dec f = ap (ltb kinds) e ∙ sym (h.order Kind.dec) ∙ pick (in_order ks Kind.dec) (h.order Kind.dec)
  where
    pick : (b : Bool) → b ≡ ltb kinds 8 → b ≡ b && among Kind.int ks
    pick true p = sym (int_there h (ltb-true kinds 8 (sym p)) l)
    pick false p = refl
with_int e l h Kind.text f = absurd (let z : ⊥ = omega arith in z)
with_int e l h Kind.list f = absurd (let z : ⊥ = omega arith in z)
with_int e l h Kind.rec f = absurd (let z : ⊥ = omega arith in z)

-- dec behind int, or not in order
pub dec_behind : {kinds kind : ℕ} → kind ≡ 8 → 4 ≤ kinds → Follows kinds kind (ltb kinds kind)
dec_behind {kinds} {kind} e l =
    record {
      judged = λ ks h k f. with_int e l h k f;
      no_kind = λ z. absurd (let y : ⊥ = omega arith in y);
      higher = λ z. ltb-true kinds kind z;
    }

no_dec_kind
    : {ks : List Kind} {kinds kind : ℕ} → (kind ≡ 8 → ⊥) → KindsHeld ks kinds
    → (k : Kind) → kind ≡ kind_bit k → ltb kinds kind ≡ may_follow ks k
unfolding kind_bit may_follow rank
no_dec_kind {ks} {kinds} n h Kind.null f = ap (ltb kinds) f ∙ sym (h.order Kind.null) ∙ and_true (in_order ks Kind.null)
no_dec_kind {ks} {kinds} n h Kind.bool f = ap (ltb kinds) f ∙ sym (h.order Kind.bool) ∙ and_true (in_order ks Kind.bool)
no_dec_kind {ks} {kinds} n h Kind.int f = ap (ltb kinds) f ∙ sym (h.order Kind.int) ∙ and_true (in_order ks Kind.int)
no_dec_kind n h Kind.dec f = absurd (n f)
no_dec_kind {ks} {kinds} n h Kind.text f = ap (ltb kinds) f ∙ sym (h.order Kind.text) ∙ and_true (in_order ks Kind.text)
no_dec_kind {ks} {kinds} n h Kind.list f = ap (ltb kinds) f ∙ sym (h.order Kind.list) ∙ and_true (in_order ks Kind.list)
no_dec_kind {ks} {kinds} n h Kind.rec f = ap (ltb kinds) f ∙ sym (h.order Kind.rec) ∙ and_true (in_order ks Kind.rec)

pub other_kind : {kinds kind : ℕ} → (kind ≡ 8 → ⊥) → Follows kinds kind (ltb kinds kind)
other_kind {kinds} {kind} n =
    record {
      judged = λ ks h k f. no_dec_kind n h k f;
      no_kind = λ z. le-ltb kinds kind (omega arith);
      higher = λ z. ltb-true kinds kind z;
    }

-- dec behind int, or another
pub higher_kind : {kinds kind : ℕ} → (kind ≡ 8 → kinds < 4 → ⊥) → Follows kinds kind (ltb kinds kind)
higher_kind {kinds} {kind} n = pick (eqb kind 8) refl
  where
    behind_int : kind ≡ 8 → Dec (kinds < 4) → Follows kinds kind (ltb kinds kind)
    behind_int e (yes l) = absurd (n e l)
    behind_int e (no l) = dec_behind e (omega arith)

    pick : (t : Bool) → eqb kind 8 ≡ t → Follows kinds kind (ltb kinds kind)
    pick true e = behind_int (eqb-true kind 8 e) (dec_lt kinds 4)
    pick false e = other_kind (eqb-false kind 8 e)
