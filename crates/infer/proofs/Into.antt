-- A value that holds no others joined into a shape, and which value it is. Assumes nothing.
use Prim.Native.Nat.{ℕ, ◌+◌, ◌*◌, ◌%◌, ◌^◌, ◌<◌}
use native.Mathlib.Omega.{arith}
use mathlib.Core.Path.{◌≡◌, refl, ap, subst, ◌∙◌}
use mathlib.Core.Bool.{true, false}
use mathlib.Core.List.{List, ◌∷◌, ◌++◌}
use lib.Bits.{bit_or}
use lib.ListN.{length, get_or, take, drop}
use Rattle.definitions.specs.Value.{Value, Items, Members}
use Rattle.definitions.specs.Shape.{Numeric, Shape, shape, element_of, record_of, forms}
use Rattle.definitions.specs.Join.{shape_of, numeric_of}
use Rattle.laws.specs.JoinLaws.{join_null}
use Rattle.nodes.specs.Nodes.{kind_code}
use Rattle.nodes.specs.Standing.{ValueStands}
use Rattle.plain.specs.Table.{BoundedNumbers}
use Rattle.shapes.specs.Shapes.{head_of, kind_bits, size_at, ShapeRows}
use Rattle.shapes.specs.ShapesLaws.{union_bits, stands_row}
use Rattle.join.specs.Replacing.{Put, Becomes}
use Rattle.std.specs.Prelude.{Option}
use Rattle.growing.specs.Rows.{Room}
use Rattle.infer.specs.Infer.{with_bool, with_numeric, with_text, infer_into}
use Rattle.infer.specs.InferLaws.{bool_is, numeric_is, text_is, infer_is}
use Rattle.infer.specs.Inferring.{Meets, Infers, Joins}
use Rattle.growing.specs.HeadLaws.{SameParts, null_parts, raise_fits, kinds_put}

pub scalar_code : (v : Value) {k : ℕ} → kind_code v ≡ k → (k ≡ 5 → ⊥) → (k ≡ 6 → ⊥) → kind_code v < 5
unfolding kind_code
scalar_code Value.null e f g = omega arith
scalar_code (Value.bool true) e f g = omega arith
scalar_code (Value.bool false) e f g = omega arith
scalar_code (Value.number x) e f g = omega arith
scalar_code (Value.text t) e f g = omega arith
scalar_code (Value.list vs) e f g = absurd (f (omega arith))
scalar_code (Value.rec ms) e f g = absurd (g (omega arith))

pub a_list : (v : Value) → kind_code v ≡ 5 → (vs : Items) × (v ≡ Value.list vs)
unfolding kind_code
a_list Value.null e = absurd (let z : ⊥ = omega arith in z)
a_list (Value.bool true) e = absurd (let z : ⊥ = omega arith in z)
a_list (Value.bool false) e = absurd (let z : ⊥ = omega arith in z)
a_list (Value.number x) e = absurd (let z : ⊥ = omega arith in z)
a_list (Value.text t) e = absurd (let z : ⊥ = omega arith in z)
a_list (Value.list vs) e = (vs, refl)
a_list (Value.rec ms) e = absurd (let z : ⊥ = omega arith in z)

pub a_record : (v : Value) → kind_code v ≡ 6 → (ms : Members) × (v ≡ Value.rec ms)
unfolding kind_code
a_record Value.null e = absurd (let z : ⊥ = omega arith in z)
a_record (Value.bool true) e = absurd (let z : ⊥ = omega arith in z)
a_record (Value.bool false) e = absurd (let z : ⊥ = omega arith in z)
a_record (Value.number x) e = absurd (let z : ⊥ = omega arith in z)
a_record (Value.text t) e = absurd (let z : ⊥ = omega arith in z)
a_record (Value.list vs) e = absurd (let z : ⊥ = omega arith in z)
a_record (Value.rec ms) e = (ms, refl)

-- ---- kinds alone

bool_parts : (s : Shape) → SameParts s (with_bool s)
unfolding with_bool element_of record_of forms
bool_parts (shape n b m t e r) = record { element = refl; fields = refl; counts = refl }

numeric_parts : (k : Numeric) (s : Shape) → SameParts s (with_numeric k s)
unfolding with_numeric element_of record_of forms
numeric_parts k (shape n b m t e r) = record { element = refl; fields = refl; counts = refl }

text_parts : (s : Shape) → SameParts s (with_text s)
unfolding with_text element_of record_of forms
text_parts (shape n b m t e r) = record { element = refl; fields = refl; counts = refl }

scalar_parts : (v : Value) (s : Shape) → kind_code v < 5 → SameParts s (infer_into v s)
unfolding infer_into kind_code
scalar_parts Value.null s h = null_parts s
scalar_parts (Value.bool b) s h = bool_parts s
scalar_parts (Value.number x) s h = numeric_parts (numeric_of x) s
scalar_parts (Value.text t) s h = text_parts s
scalar_parts (Value.list vs) s h = absurd (let z : ⊥ = omega arith in z)
scalar_parts (Value.rec ms) s h = absurd (let z : ⊥ = omega arith in z)

scalar_bits : (v : Value) (s : Shape) → kind_code v < 5 → bit_or (kind_bits s) (kind_bits (shape_of v)) ≡ kind_bits (infer_into v s)
unfolding infer_into kind_code shape_of
scalar_bits Value.null s h = union_bits s _ ∙ ap kind_bits (join_null s)
scalar_bits (Value.bool b) s h = union_bits s _ ∙ ap kind_bits (bool_is s)
scalar_bits (Value.number x) s h = union_bits s _ ∙ ap kind_bits (numeric_is (numeric_of x) s)
scalar_bits (Value.text t) s h = union_bits s _ ∙ ap kind_bits (text_is s)
scalar_bits (Value.list vs) s h = absurd (let z : ⊥ = omega arith in z)
scalar_bits (Value.rec ms) s h = absurd (let z : ⊥ = omega arith in z)

module _
    {shapes nodes pool : List ℕ} {used row at : ℕ} {p : List ℕ} {m : ℕ} {s : Shape} {k : ℕ} {v : Value} {kinds : ℕ}
    (h : Meets shapes nodes pool used row at p m s k v)
    (scalar : kind_code v < 5)
    (told
    : (q : List ℕ) (j : ℕ) (w : Value) → ValueStands nodes q at j w → BoundedNumbers w → kind_code w < 5
    → kinds ≡ kind_bits (shape_of w))
    (room : Room shapes used)
  where
    bits : bit_or (kind_bits s) kinds ≡ kind_bits (infer_into v s)
    bits =
        ap (λ (x : ℕ). bit_or (kind_bits s) x) (told p k v h.held h.bounded scalar) ∙ scalar_bits v s scalar

    pub scalar_fits : (row < length shapes) × (head_of (bit_or (get_or shapes row 0 % 128) kinds) (size_at shapes row + 0) < 2 ^ 64)
    scalar_fits =
        let c = scalar_parts v s scalar in (
          omega (arith, stands_row h.stands),
          raise_fits kinds 0 (infer_into v s) h.stands bits (omega (arith, c.counts))
              (omega (arith, c.counts, h.within, room.enough, room.small)),
        )

    pub scalar_put
        : {shapes' : List ℕ}
        → shapes' ≡ take row shapes ++ head_of (bit_or (get_or shapes row 0 % 128) kinds) (size_at shapes row + 0) ∷ drop (row + 1) shapes
        → length shapes' ≡ length shapes → Put shapes shapes' used 0 row (2 * forms s) (ShapeRows p m (infer_into v s))
    scalar_put e l = kinds_put kinds h.stands h.within room.enough (scalar_parts v s scalar) bits l e

-- the steps come to the join
pub into_joins
    : (shapes nodes pool shapes' : List ℕ) (used row at : ℕ) (r : Option ℕ) → Infers shapes nodes pool shapes' used row at r
    → Joins shapes nodes pool shapes' used row at r
into_joins shapes nodes pool shapes' used row at r q p m s k v h i d =
    subst (λ (u : Shape). Becomes shapes shapes' p used row m s u r) (infer_is v s i d) (q p m s k v h)
