-- Values that hold no others: what they are as plain JSON, from the words of their row. Assumes nothing.
use Prim.Native.Nat.{ℕ, ◌+◌, ◌/◌, ◌%◌, ◌≤◌}
use native.Mathlib.Omega.{arith}
use mathlib.Core.Path.{◌≡◌, refl, sym, ap, subst, ◌∙◌}
use mathlib.Core.Bool.{Bool, true, false}
use mathlib.Core.List.{List}
use borrow.Author.Tests.{eq-eqb, ne_eqb}
use lib.Dec.{eqb}
use lib.ListN.{get_or}
use Rattle.definitions.specs.Bytes.{Bytes}
use Rattle.definitions.specs.Number.{Number, most_scale}
use Rattle.definitions.specs.Value.{Value}
use Rattle.definitions.specs.Json.{true_name, false_name, null_name}
use Rattle.definitions.specs.Plain.{plain, plain_bool, plain_number, plain_text}
use Rattle.number.specs.NumberWrite.{Bounded, WritesNumber, as_number}
use Rattle.text.specs.Writes.{Writes}
use Rattle.nodes.specs.Nodes.{kind_code, sign_bit, number_bits, head_word}
use Rattle.plain.specs.Table.{BoundedNumbers, Holds}
use Rattle.plain.specs.Parts.{HoldsText}
use Rattle.plain.specs.HeadLaws.{sign_small}
use Rattle.plain.proofs.Rows.{stands_head, stands_kind, number_payload, text_payload}

-- the kind that a row's first word tells
pub kind_told
    : {nodes pool : List ℕ} {row kind k : ℕ} {v : Value} → Holds nodes pool row v → kind ≡ get_or nodes row 0 % 8 → kind ≡ k
    → kind_code v ≡ k
kind_told h e f = sym (stands_kind h.stands) ∙ sym e ∙ f

-- ---- null and bools

pub plain_null : (v : Value) → kind_code v ≡ 0 → null_name ≡ plain v
unfolding kind_code plain
plain_null Value.null e = refl
plain_null (Value.bool true) e = absurd (let z : ⊥ = omega arith in z)
plain_null (Value.bool false) e = absurd (let z : ⊥ = omega arith in z)
plain_null (Value.number x) e = absurd (let z : ⊥ = omega arith in z)
plain_null (Value.text t) e = absurd (let z : ⊥ = omega arith in z)
plain_null (Value.list vs) e = absurd (let z : ⊥ = omega arith in z)
plain_null (Value.rec ms) e = absurd (let z : ⊥ = omega arith in z)

pub plain_false : (v : Value) → kind_code v ≡ 1 → false_name ≡ plain v
unfolding kind_code plain plain_bool
plain_false Value.null e = absurd (let z : ⊥ = omega arith in z)
plain_false (Value.bool true) e = absurd (let z : ⊥ = omega arith in z)
plain_false (Value.bool false) e = refl
plain_false (Value.number x) e = absurd (let z : ⊥ = omega arith in z)
plain_false (Value.text t) e = absurd (let z : ⊥ = omega arith in z)
plain_false (Value.list vs) e = absurd (let z : ⊥ = omega arith in z)
plain_false (Value.rec ms) e = absurd (let z : ⊥ = omega arith in z)

pub plain_true : (v : Value) → kind_code v ≡ 2 → true_name ≡ plain v
unfolding kind_code plain plain_bool
plain_true Value.null e = absurd (let z : ⊥ = omega arith in z)
plain_true (Value.bool true) e = refl
plain_true (Value.bool false) e = absurd (let z : ⊥ = omega arith in z)
plain_true (Value.number x) e = absurd (let z : ⊥ = omega arith in z)
plain_true (Value.text t) e = absurd (let z : ⊥ = omega arith in z)
plain_true (Value.list vs) e = absurd (let z : ⊥ = omega arith in z)
plain_true (Value.rec ms) e = absurd (let z : ⊥ = omega arith in z)

-- ---- numbers

-- v is a number within the limits
pub record IsNumber (v : Value) (negative : Bool) (coefficient scale : ℕ) : Type 0 where
  pub same : plain_number (as_number negative coefficient scale) ≡ plain v
  pub bounded : Bounded (as_number negative coefficient scale)

sign_told : (b : Bool) (n : ℕ) → n ≡ sign_bit b → eqb n 1 ≡ b
unfolding sign_bit
sign_told true n e = eq-eqb n 1 e
sign_told false n e = ne_eqb n 1 (λ f. omega arith)

number_head
    : (x : Number) (n : ℕ) → x.scale ≤ 9 → n ≡ head_word (Value.number x)
    → (n / 8 % 2 ≡ sign_bit x.negative) × (n / 16 % 16 ≡ x.scale)
unfolding head_word kind_code number_bits
number_head x n h e = (omega (arith, sign_small x.negative), omega (arith, sign_small x.negative))

number_same : (x : Number) {b : Bool} {c s : ℕ} → b ≡ x.negative → c ≡ x.coefficient → s ≡ x.scale → as_number b c s ≡ x
number_same x {b} {c} {s} e f g =
    ap (λ (n : Bool). as_number n c s) e
    ∙ ap (λ (n : ℕ). as_number x.negative n s) f
    ∙ ap (λ (n : ℕ). as_number x.negative x.coefficient n) g

pub single_number
    : {nodes pool : List ℕ} {row coefficient scale : ℕ} {negative : Bool} (v : Value) → Holds nodes pool row v → kind_code v ≡ 3
    → negative ≡ eqb (get_or nodes row 0 / 8 % 2) 1 → coefficient ≡ get_or nodes (row + 1) 0 → scale ≡ get_or nodes row 0 / 16 % 16
    → IsNumber v negative coefficient scale
unfolding kind_code plain BoundedNumbers most_scale
single_number Value.null h k e f g = absurd (let z : ⊥ = omega arith in z)
single_number (Value.bool true) h k e f g = absurd (let z : ⊥ = omega arith in z)
single_number (Value.bool false) h k e f g = absurd (let z : ⊥ = omega arith in z)
single_number (Value.number x) h k e f g =
    let told = number_head x _ h.bounded.scale (stands_head h.stands) in
    let same = number_same x (e ∙ sign_told x.negative _ told.0) (f ∙ number_payload h.stands) (g ∙ told.1) in
    record { same = ap plain_number same; bounded = subst Bounded (sym same) h.bounded }
single_number (Value.text t) h k e f g = absurd (let z : ⊥ = omega arith in z)
single_number (Value.list vs) h k e f g = absurd (let z : ⊥ = omega arith in z)
single_number (Value.rec ms) h k e f g = absurd (let z : ⊥ = omega arith in z)

-- a number as it is written
pub number_writes : {out out' : Bytes} {at r : ℕ} {x : Number} → WritesNumber out at x out' r → Writes out out' at (plain_number x) r
number_writes w = record { bytes = w.kept; end = w.end }

-- ---- texts

pub record IsText (pool : List ℕ) (v : Value) (k : ℕ) : Type 0 where
  pub text : Bytes
  pub same : plain_text text ≡ plain v
  pub holds : HoldsText pool k text

pub single_text
    : {nodes pool : List ℕ} {row payload : ℕ} (v : Value) → Holds nodes pool row v → payload ≡ get_or nodes (row + 1) 0
    → kind_code v ≡ 4 → IsText pool v payload
unfolding kind_code plain
single_text Value.null g e i = absurd (let z : ⊥ = omega arith in z)
single_text (Value.bool true) g e i = absurd (let z : ⊥ = omega arith in z)
single_text (Value.bool false) g e i = absurd (let z : ⊥ = omega arith in z)
single_text (Value.number x) g e i = absurd (let z : ⊥ = omega arith in z)
single_text (Value.text t) g e i =
    record {
      text = t;
      same = refl;
      holds = record { used = g.used; refers = rw e (text_payload g.stands); pooled = g.pooled };
    }
single_text (Value.list vs) g e i = absurd (let z : ⊥ = omega arith in z)
single_text (Value.rec ms) g e i = absurd (let z : ⊥ = omega arith in z)
