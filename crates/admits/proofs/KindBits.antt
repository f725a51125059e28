-- The kind of a value and the kinds of a shape: what the shape admits where it lacks the kind, and where the value holds no
-- others. Assumes nothing.
use Prim.Native.Nat.{ℕ, ◌%◌, ◌<◌}
use mathlib.Core.Path.{◌≡◌, refl, sym, ap, ◌∙◌}
use mathlib.Core.Bool.{Bool, true, false}
use mathlib.Core.List.{List}
use native.Mathlib.Omega.{arith}
use Rattle.definitions.specs.Number.{Number, is_int, most_scale}
use Rattle.definitions.specs.Value.{Value}
use Rattle.definitions.specs.Shape.{Shape, shape, no_list, list_of, no_rec, rec_of, has, has_list, has_rec, element_of, record_of}
use Rattle.definitions.specs.Admits.{kind_of, admits, admitted}
use Rattle.laws.specs.Bools.{clash}
use Rattle.nodes.specs.Nodes.{kind_code, head_word}
use Rattle.nodes.specs.Standing.{ValueStands, NumberStands}
use Rattle.nodes.specs.StandingLaws.{number_stands}
use Rattle.plain.specs.Table.{BoundedNumbers}
use Rattle.plain.specs.HeadLaws.{head_kind}
use Rattle.shapes.specs.Shapes.{kind_bit}

-- ---- the bit of a kind

-- what the code k of a value's kind tells of its bit b
pub record Told (k b : ℕ) : Type 0 where
  pub as_null : k ≡ 0 → 1 ≡ b
  pub as_bool : 0 < k → k < 3 → 2 ≡ b
  pub as_text : k ≡ 4 → 16 ≡ b
  pub as_list : k ≡ 5 → 32 ≡ b
  pub as_rec : 5 < k → 64 ≡ b

pub bit_told : (v : Value) → Told (kind_code v) (kind_bit (kind_of v))
unfolding kind_code kind_bit kind_of
bit_told Value.null =
    record { as_null = λ e. omega arith; as_bool = λ e f. omega arith; as_text = λ e. omega arith; as_list = λ e. omega arith; as_rec = λ e. omega arith }
bit_told (Value.bool true) =
    record { as_null = λ e. omega arith; as_bool = λ e f. omega arith; as_text = λ e. omega arith; as_list = λ e. omega arith; as_rec = λ e. omega arith }
bit_told (Value.bool false) =
    record { as_null = λ e. omega arith; as_bool = λ e f. omega arith; as_text = λ e. omega arith; as_list = λ e. omega arith; as_rec = λ e. omega arith }
bit_told (Value.number x) =
    record { as_null = λ e. omega arith; as_bool = λ e f. omega arith; as_text = λ e. omega arith; as_list = λ e. omega arith; as_rec = λ e. omega arith }
bit_told (Value.text t) =
    record { as_null = λ e. omega arith; as_bool = λ e f. omega arith; as_text = λ e. omega arith; as_list = λ e. omega arith; as_rec = λ e. omega arith }
bit_told (Value.list vs) =
    record { as_null = λ e. omega arith; as_bool = λ e f. omega arith; as_text = λ e. omega arith; as_list = λ e. omega arith; as_rec = λ e. omega arith }
bit_told (Value.rec ms) =
    record { as_null = λ e. omega arith; as_bool = λ e f. omega arith; as_text = λ e. omega arith; as_list = λ e. omega arith; as_rec = λ e. omega arith }

-- the code that a first word tells
pub code_told : {kind n : ℕ} (v : Value) → kind ≡ n % 8 → n ≡ head_word v → kind ≡ kind_code v
code_told v e f = e ∙ ap (λ (x : ℕ). x % 8) f ∙ head_kind v

-- the bit of a number
abbrev pub number_bit : Bool → ℕ
number_bit true = 4
number_bit false = 8

pub int_bit : (x : Number) (b : Bool) → b ≡ is_int x → number_bit b ≡ kind_bit (kind_of (Value.number x))
unfolding kind_bit kind_of
int_bit x true e = rw (sym e, kind_of) refl
int_bit x false e = rw (sym e, kind_of) refl

pub number_told
    : {nodes p : List ℕ} {at k : ℕ} (v : Value) {b : Bool} → kind_code v ≡ 3
    → ((x : Number) → NumberStands nodes at x → b ≡ is_int x)
    → ValueStands nodes p at k v → BoundedNumbers v → number_bit b ≡ kind_bit (kind_of v)
unfolding kind_code BoundedNumbers most_scale
number_told Value.null k f e h = absurd (let z : ⊥ = omega arith in z)
number_told (Value.bool true) k f e h = absurd (let z : ⊥ = omega arith in z)
number_told (Value.bool false) k f e h = absurd (let z : ⊥ = omega arith in z)
number_told (Value.number x) {b} k f s h = int_bit x b (f x (number_stands s (omega (arith, h.scale))))
number_told (Value.text t) k f e h = absurd (let z : ⊥ = omega arith in z)
number_told (Value.list vs) k f e h = absurd (let z : ⊥ = omega arith in z)
number_told (Value.rec ms) k f e h = absurd (let z : ⊥ = omega arith in z)

-- ---- kinds lacked and kinds that are enough

pub lacks_kind : (v : Value) (s : Shape) → has (kind_of v) s ≡ false → false ≡ admits s v
unfolding admits admitted kind_of has element_of record_of has_list has_rec
lacks_kind Value.null s e = sym e
lacks_kind (Value.bool b) s e = sym e
lacks_kind (Value.number x) s e = sym e
lacks_kind (Value.text t) s e = sym e
lacks_kind (Value.list vs) (shape n b m t no_list r) e = refl
lacks_kind (Value.list vs) (shape n b m t (list_of a) r) e = clash refl e
lacks_kind (Value.rec ms) (shape n b m t l no_rec) e = refl
lacks_kind (Value.rec ms) (shape n b m t l (rec_of fs)) e = clash refl e

pub kind_enough : (v : Value) (s : Shape) → kind_bit (kind_of v) < 32 → has (kind_of v) s ≡ true → true ≡ admits s v
unfolding admits admitted kind_of kind_bit
kind_enough Value.null s h e = sym e
kind_enough (Value.bool b) s h e = sym e
kind_enough (Value.number x) s h e = sym e
kind_enough (Value.text t) s h e = sym e
kind_enough (Value.list vs) s h e = absurd (let z : ⊥ = omega arith in z)
kind_enough (Value.rec ms) s h e = absurd (let z : ⊥ = omega arith in z)
