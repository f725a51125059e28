-- What a conversion makes of a value of the document: `int` takes its fraction. Assumes nothing.
use Prim.Native.Nat.{ℕ, ◌+◌, ◌*◌, ◌/◌, ◌%◌, ◌^◌, ◌≤◌}
use native.Mathlib.Nat.{div-le_self, le_trans}
use native.Mathlib.Omega.{arith}
use mathlib.Core.Path.{◌≡◌, refl, sym, ap, ap₂, ◌∙◌, subst}
use mathlib.Core.Bool.{Bool, true, false}
use mathlib.Core.List.{List}
use lib.Dec.{eqb}
use lib.ListN.{get_or}
use Rattle.definitions.specs.Number.{Number, whole, most_scale}
use Rattle.definitions.specs.Value.{Value}
use Rattle.definitions.specs.Running.{gives, whole_value}
use Rattle.number.specs.NumberWrite.{Bounded}
use Rattle.nodes.specs.Nodes.{sign_bit, number_bits, head_word}
use Rattle.plain.specs.HeadLaws.{sign_small, bits_small, head_bits}
use Rattle.plain.specs.Table.{BoundedNumbers}
use Rattle.std.specs.Prelude.{Ok}
use Rattle.running.specs.declared.going.Cursor.{Cursor}
use Rattle.running.specs.Bindings.{Bound}
use Rattle.running.specs.BindingsLaws.{Scaled, bound_unscaled, bound_scaled}
use Rattle.running.specs.Rows.{PutRow, SomeBound}
use Rattle.running.specs.Singles.{Giving, Gives, Wholes, Handed, NumberWord, SomeNumber}
use Rattle.running.specs.Walk.{Part, Made}
use Rattle.running.proofs.SingleRows.{number_given}

-- what holds for one sort of values holds for those that are among them
among_given
    : {results results' : List ℕ} {limit : ℕ} {c : Cursor} {steps : ℕ} {Of By : List ℕ → Value → Type 0} {r : Part}
    → ((p : List ℕ) (v : Value) → By p v → Of p v) → Gives results results' limit c steps Of r → Gives results results' limit c steps By r
among_given f g = record { front = g.front; told = λ p v b. g.told p v (f p v b) }

-- ---- `int`

sign_told : (b : Bool) → eqb (sign_bit b) 1 ≡ b
unfolding sign_bit
sign_told true = refl
sign_told false = refl

whole_bounded : (x : Number) → Bounded x → Bounded (whole x)
unfolding whole
whole_bounded x b = record { coefficient = le_trans (div-le_self x.coefficient (10 ^ x.scale)) b.coefficient; scale = omega arith }

module _ {nodes : List ℕ} {at scale : ℕ} (scaled : scale ≡ get_or nodes at 0 / 16 % 16) where
  -- without fraction digits the value stays
  pub unscaled_given
      : {results results' : List ℕ} {limit : ℕ} {c : Cursor} {steps : ℕ} {r : Part} → scale ≡ 0
      → Gives results results' limit c steps (λ p v. Bound nodes p at v) r → Gives results results' limit c steps (Wholes nodes at) r
  unscaled_given z g =
      among_given
      (λ p v w. subst (λ (u : Value). Bound nodes p at u) (bound_unscaled w.bound (sym scaled ∙ z) ∙ sym w.same) w.bound)
      g

  module _ (some : scale ≡ 0 → ⊥) where
    fraction : {p : List ℕ} {v : Value} → Bound nodes p at v → Scaled nodes at v
    fraction b = bound_scaled b (λ e. some (scaled ∙ e))

    pub scale_most : SomeBound nodes at 0 → scale ≤ most_scale
    scale_most s = let f = fraction s.bound in subst (λ (n : ℕ). n ≤ most_scale) (sym (scaled ∙ f.scale)) f.bounded.scale

    module _
        {payload n bits : ℕ} {negative : Bool} (paid : payload ≡ get_or nodes (at + 1) 0) (divided : n ≡ payload / 10 ^ scale)
        (signed : negative ≡ eqb (get_or nodes at 0 / 8 % 2) 1)
        (made_of : bits ≡ sign_bit negative + 2 * 0)
      where
        word_of : {p : List ℕ} {v : Value} (b : Bound nodes p at v) → NumberWord bits n (whole (fraction b).number)
        unfolding whole number_bits BoundedNumbers
        word_of b =
            let f = fraction b in
            let x = f.number in
            let low : get_or nodes at 0 / 8 % 2 ≡ sign_bit x.negative =
            omega (arith, f.stands.head, head_bits (Value.number x) (bits_small (Value.number x) f.bounded), sign_small x.negative) in
            record {
              signed = made_of ∙ ap (λ (b : Bool). sign_bit b + 2 * 0) (signed ∙ ap (λ (k : ℕ). eqb k 1) low ∙ sign_told x.negative);
              whole = divided ∙ ap₂ (λ (k j : ℕ). k / 10 ^ j) (paid ∙ f.stands.payload) (scaled ∙ f.scale);
              bounded = whole_bounded x f.bounded;
            }

        pub whole_word : SomeBound nodes at 0 → SomeNumber bits n
        whole_word s = record { number = whole (fraction s.bound).number; held = word_of s.bound }

        pub whole_given
            : {results results' : List ℕ} {limit : ℕ} {c : Cursor} {steps begun head : ℕ} → Giving limit c steps
            → ((x : Number) → NumberWord bits n x → head ≡ head_word (Value.number x))
            → PutRow results results' c.begun head n c.name begun
            → Gives results results' limit c steps (Wholes nodes at) (Ok (record { kind = 3; begun = begun; steps = steps }))
        unfolding whole_value
        whole_given {results} {results'} {limit} {c} {steps} {begun} g h q =
            record {
              front = q.front;
              told = λ p v w.
                  let f = fraction w.bound in
                  let k = word_of w.bound in
                  subst (λ (u : Value). Made (gives u steps) limit p results results' c 3 begun steps)
                  (sym (w.same ∙ ap whole_value f.same))
                  (number_given g (whole f.number) k.bounded k.whole (h _ k) q);
            }

-- ---- by its code

-- what no `int` is handed stays
pub handed_on : {nodes p : List ℕ} {at code : ℕ} {v : Value} → Bound nodes p at v → (code ≡ 3 → ⊥) → Handed nodes at code p v
handed_on {v = v} b n = record { handed = v; bound = b; by_int = λ e. absurd (n e); by_other = λ z. refl }

module _
    {results results' nodes : List ℕ} {at code limit : ℕ} {c : Cursor} {steps : ℕ} {r : Part}
  where
    pub int_handed
        : code ≡ 3 → Gives results results' limit c steps (Wholes nodes at) r → Gives results results' limit c steps (Handed nodes at code) r
    int_handed e g = among_given (λ p v h. record { handed = h.handed; bound = h.bound; same = h.by_int e }) g

    pub other_handed
        : (code ≡ 3 → ⊥) → Gives results results' limit c steps (λ p v. Bound nodes p at v) r
        → Gives results results' limit c steps (Handed nodes at code) r
    other_handed e g = among_given (λ p v h. subst (λ (u : Value). Bound nodes p at u) (sym (h.by_other e)) h.bound) g
