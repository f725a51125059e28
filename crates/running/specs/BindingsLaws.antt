-- Laws of the values of bindings, in the order of their definitions. Assumes nothing.
use Rattle.std.specs.Prelude.{ℕ, zero, suc, ◌-◌, ◌/◌, ◌%◌, ◌≤◌, ◌<◌, ◌≡◌, refl, List, [], ◌∷◌, length, get_or, take, set}
use Rattle.std.proofs.Common.{sym, ap, ◌∙◌, subst, arith, get_or-take, get_or-set_same}
use Rattle.std.proofs.lemmas.List.{take-set-le}
use Rattle.definitions.specs.Number.{Number, most_scale}
use Rattle.definitions.specs.Value.{Value}
use Rattle.definitions.specs.Running.{whole_value}
use Rattle.laws.specs.Ints.{whole_unscaled}
use Rattle.number.specs.NumberWrite.{Bounded}
use Rattle.nodes.specs.Nodes.{kind_code, number_bits, head_word}
use Rattle.nodes.specs.Standing.{ValueStands, NumberStands}
use Rattle.nodes.specs.StandingLaws.{value_head, number_stands, value_within, size_some}
use Rattle.plain.specs.Table.{BoundedNumbers}
use Rattle.plain.specs.HeadLaws.{sign_small, bits_small, head_kind, head_bits}
use Rattle.forms.specs.Forms.{slot}
use Rattle.running.specs.Bindings.{Bound, standing, missing, Binds, no_binding, binding}

get_or_end : (l : List ℕ) → get_or l (length l) 0 ≡ 0
get_or_end [] = refl
get_or_end (x ∷ l) = get_or_end l

pub bound_kind : {nodes p : List ℕ} {row : ℕ} {v : Value} → Bound nodes p row v → get_or nodes row 0 % 8 ≡ kind_code v
unfolding kind_code
bound_kind (standing {v} s b) = ap (λ (h : ℕ). h % 8) (value_head s) ∙ head_kind v
bound_kind {nodes} (missing e) = ap (λ (i : ℕ). get_or nodes i 0 % 8) e ∙ ap (λ (h : ℕ). h % 8) (get_or_end nodes)

pub bound_within : {nodes p : List ℕ} {row : ℕ} {v : Value} → Bound nodes p row v → row ≤ length nodes
bound_within (standing {v} s b) = omega (arith, value_within s, size_some v)
bound_within (missing e) = omega (arith, e)

-- ---- bindings

-- the row of the n-th binding outward
pub binds_at
    : {nodes p bindings : List ℕ} {env : List Value} (n : ℕ) → Binds nodes p bindings env → n < length env
    → Bound nodes p (get_or bindings (slot (length env) n) 0) (get_or env n Value.null)
unfolding slot
binds_at n no_binding h = absurd (let z : ⊥ = omega arith in z)
binds_at {nodes} {p} {bindings} zero (binding {v} {env} b bs) h =
    subst (λ (i : ℕ). Bound nodes p (get_or bindings i 0) v) (let e : length env ≡ suc (length env) - 1 - 0 = omega arith in e) b
binds_at {nodes} {p} {bindings} (suc n) (binding {v} {env} b bs) h =
    subst (λ (i : ℕ). Bound nodes p (get_or bindings i 0) (get_or env n Value.null))
    (let e : length env - 1 - n ≡ suc (length env) - 1 - suc n = omega arith in e) (binds_at n bs (omega arith))

pub slot_within : (d n : ℕ) → n < d → slot d n < d
unfolding slot
slot_within d n h = omega arith

-- they stay where the words of the table that hold them are kept
pub binds_kept
    : {nodes p bindings bindings' : List ℕ} {env : List Value} (k : ℕ) → take k bindings' ≡ take k bindings → length env ≤ k
    → Binds nodes p bindings env → Binds nodes p bindings' env
binds_kept k e h no_binding = no_binding
binds_kept {nodes} {p} {bindings} {bindings'} k e h (binding {v} {env} b bs) =
    binding
    (subst (λ (i : ℕ). Bound nodes p i v)
    (sym (get_or-take k bindings (length env) 0 (omega arith))
    ∙ ap (λ (t : List ℕ). get_or t (length env) 0) (sym e)
    ∙ get_or-take k bindings' (length env) 0 (omega arith))
    b)
    (binds_kept k e (omega arith) bs)

-- one more
pub binds_more
    : {nodes p bindings : List ℕ} {row : ℕ} {v : Value} {env : List Value} (k : ℕ) → length env ≡ k → k < length bindings → Bound nodes p row v
    → Binds nodes p bindings env → Binds nodes p (set bindings k row) (v ∷ env)
binds_more {nodes} {p} {bindings} {row} {v} {env} k e h s b =
    binding
    (subst (λ (i : ℕ). Bound nodes p i v)
    (sym (ap (λ (i : ℕ). get_or (set bindings k row) i 0) e ∙ get_or-set_same bindings k row 0 h)) s)
    (binds_kept k (take-set-le k bindings k row (omega arith)) (omega (arith, e)) b)

-- a number stands in the table
pub bound_number : {nodes p : List ℕ} {row : ℕ} {v : Value} (x : Number) → Bound nodes p row v → v ≡ Value.number x → NumberStands nodes row x
unfolding BoundedNumbers most_scale
bound_number {nodes} {p} {row} x b e = go (subst (λ (w : Value). Bound nodes p row w) e b)
  where
    go : Bound nodes p row (Value.number x) → NumberStands nodes row x
    go (standing s k) = number_stands s (omega (arith, k.scale))

-- ---- the scale at a row

scale_in : (x : Number) → Bounded x → head_word (Value.number x) / 16 % 16 ≡ x.scale
unfolding number_bits most_scale BoundedNumbers
scale_in x b =
    omega (arith, head_bits (Value.number x) (bits_small (Value.number x) b), sign_small x.negative, b.scale)

no_scale_in : (v : Value) → number_bits v ≡ 0 → head_word v / 16 % 16 ≡ 0
no_scale_in v e = omega (arith, head_bits v (omega (arith, e)))

-- where there is none, nothing is to be taken
pub bound_unscaled : {nodes p : List ℕ} {row : ℕ} {v : Value} → Bound nodes p row v → get_or nodes row 0 / 16 % 16 ≡ 0 → v ≡ whole_value v
unfolding whole_value BoundedNumbers
bound_unscaled (missing e) h = refl
bound_unscaled (standing {v} s b) h = go v b (ap (λ (n : ℕ). n / 16 % 16) (sym (value_head s)) ∙ h)
  where
    go : (w : Value) → BoundedNumbers w → head_word w / 16 % 16 ≡ 0 → w ≡ whole_value w
    go Value.null b h = refl
    go (Value.bool t) b h = refl
    go (Value.number x) b h = sym (ap Value.number (whole_unscaled x (sym (scale_in x b) ∙ h)))
    go (Value.text t) b h = refl
    go (Value.list vs) b h = refl
    go (Value.rec ms) b h = refl

-- any other is that of a number
pub record Scaled (nodes : List ℕ) (row : ℕ) (v : Value) : Type 0 where
  pub number : Number
  pub same : v ≡ Value.number number
  pub stands : NumberStands nodes row number
  pub bounded : Bounded number
  pub scale : get_or nodes row 0 / 16 % 16 ≡ number.scale

pub bound_scaled
    : {nodes p : List ℕ} {row : ℕ} {v : Value} → Bound nodes p row v → (get_or nodes row 0 / 16 % 16 ≡ 0 → ⊥) → Scaled nodes row v
unfolding number_bits BoundedNumbers most_scale
bound_scaled {nodes} (missing e) h = absurd (h (ap (λ (i : ℕ). get_or nodes i 0 / 16 % 16) e ∙ ap (λ (n : ℕ). n / 16 % 16) (get_or_end nodes)))
bound_scaled {nodes} {p} {row} (standing {m} {v} s b) h = go v s b λ e. h (ap (λ (n : ℕ). n / 16 % 16) (value_head s) ∙ e)
  where
    go : (w : Value) → ValueStands nodes p row m w → BoundedNumbers w → (head_word w / 16 % 16 ≡ 0 → ⊥) → Scaled nodes row w
    go Value.null s b h = absurd (h (no_scale_in Value.null refl))
    go (Value.bool t) s b h = absurd (h (no_scale_in (Value.bool t) refl))
    go (Value.number x) s b h =
        record {
          number = x;
          same = refl;
          stands = number_stands s (omega (arith, b.scale));
          bounded = b;
          scale = ap (λ (n : ℕ). n / 16 % 16) (value_head s) ∙ scale_in x b;
        }
    go (Value.text t) s b h = absurd (h (no_scale_in (Value.text t) refl))
    go (Value.list vs) s b h = absurd (h (no_scale_in (Value.list vs) refl))
    go (Value.rec ms) s b h = absurd (h (no_scale_in (Value.rec ms) refl))
