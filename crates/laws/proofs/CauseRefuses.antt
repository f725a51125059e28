-- A cause is enough: where one stands, reading is refused, and with the least. Assumes nothing.
use Rattle.std.specs.Prelude.{ℕ, ◌<◌, ◌≡◌, refl}
use Rattle.std.proofs.Common.{sym, ◌∙◌, subst, lit<}
use Rattle.definitions.specs.declared.Limits.{Limits}
use Rattle.definitions.specs.Bytes.{Bytes}
use Rattle.definitions.specs.Outcome.{Outcome, ok, refused, placed}
use Rattle.definitions.specs.Value.{Value}
use Rattle.definitions.specs.Json.{read_json, scan}
use Rattle.definitions.specs.ShapeText.{read_shape}
use Rattle.definitions.specs.Reader.{read_reader}
use Rattle.laws.specs.Causes.{Cause, cause_3, cause_4, cause_5, cause_6, First, RefusedFirst}
use Rattle.laws.specs.FormCauses.{ShapeCause, ReaderCause}
use Rattle.laws.specs.JsonMoves.{limited, scan_by, scan_limited, ok≢refused}
use Rattle.laws.proofs.JsonLive.{start}
use Rattle.laws.proofs.JsonSettled.{Settled, there, before, beyond_settled, again_settled, full_settled}
use Rattle.laws.proofs.JsonBroken.{breaks_settled}
use Rattle.laws.proofs.JsonAdequate.{json_least}
use Rattle.laws.proofs.ShapeCauses.{shape_least, shape_causeless}
use Rattle.laws.proofs.ReaderCauses.{reader_least, reader_causeless}

-- what no cause leaves to be accepted is refused
refuses
    : {A : Type 0} {m q : ℕ} (o : Outcome ℕ A) → ((a : A) → o ≡ ok a → ⊥) → ((n p : ℕ) → o ≡ refused n p → First n p m q)
    → RefusedFirst o m q
refuses (ok a) none_ok least = absurd (none_ok a refl)
refuses (refused n p) none_ok least = (n, p, refl, least n p refl)

-- ---- documents

settled_refused : {r : Bytes} {m : ℕ} {a : Outcome Bytes Value} {v : Value} → Settled r m a → a ≡ ok v → ⊥
settled_refused (there n e b) f = ok≢refused (sym f ∙ e)
settled_refused (before n w e b) f = ok≢refused (sym f ∙ e)

placed_ok : {v : Value} (s : Bytes) (a : Outcome Bytes Value) → placed s a ≡ ok v → (w : Value) × (a ≡ ok w)
unfolding placed
placed_ok s (ok w) e = (w, refl)
placed_ok s (refused n r) e = absurd (ok≢refused (sym e))

settles
    : (l : Limits) (s : Bytes) (m q : ℕ) → Cause l s m q → (r : Bytes) × (k : ℕ) × Settled r k (scan_by (limited l) 0 s start s)
settles l s m q (cause_3 pre r h b) =
    (r, 3, subst (λ (z : Bytes). Settled r 3 (scan_by (limited l) 0 z start z)) (sym h) (breaks_settled (limited l) pre b))
settles l s m q (cause_4 pre r h c) = (r, 4, beyond_settled l c)
settles l s m q (cause_5 pre r h c) = (r, 5, again_settled l c)
settles l s m q (cause_6 pre r h c) = (r, 6, full_settled l c)

-- what is accepted has no cause
pub json_causeless : (l : Limits) (s : Bytes) (v : Value) (m q : ℕ) → read_json l s ≡ ok v → Cause l s m q → ⊥
unfolding read_json
json_causeless l s v m q e c =
    let (r, k, h) = settles l s m q c in
    let (w, f) = placed_ok s (scan l 0 s start s) e in
    settled_refused h (sym (scan_limited l 0 s start s) ∙ f)

pub json_cause_refuses : (l : Limits) (s : Bytes) (m q : ℕ) → Cause l s m q → RefusedFirst (read_json l s) m q
json_cause_refuses l s m q c = refuses (read_json l s) (λ v e. json_causeless l s v m q e c) (λ n p e. json_least l s n p m q e c)

-- ---- shape texts and readers

pub shape_cause_refuses : (l : Limits) (s : Bytes) (m q : ℕ) → ShapeCause l s m q → RefusedFirst (read_shape l s) m q
shape_cause_refuses l s m q c = refuses (read_shape l s) (λ v e. shape_causeless l s v m q e c) (λ n p e. shape_least l s n p m q e c)

pub reader_cause_refuses : (l : Limits) (s : Bytes) (m q : ℕ) → ReaderCause l s m q → RefusedFirst (read_reader l s) m q
reader_cause_refuses l s m q c =
    refuses (read_reader l s) (λ v e. reader_causeless l s v m q e c) (λ n p e. reader_least l s n p m q e c)

-- ---- every cause has a number

pub cause_numbered : {l : Limits} {s : Bytes} {n p : ℕ} → Cause l s n p → 0 < n
cause_numbered (cause_3 pre r e b) = lit< tt
cause_numbered (cause_4 pre r e b) = lit< tt
cause_numbered (cause_5 pre r e b) = lit< tt
cause_numbered (cause_6 pre r e b) = lit< tt
