-- Reading a document is adequate to RFC 8259 and the paper's limits: it accepts exactly the JSON texts that keep the
-- limits, with their meaning, and a refusal is the first cause there is. Assumes nothing.
use Rattle.std.specs.Prelude.{ℕ, ◌+◌, ◌-◌, ◌≡◌, refl, Bool, true, [], ◌++◌, length}
use Rattle.std.proofs.Common.{arith, sym, ◌∙◌, ap, subst, length-append}
use Rattle.definitions.specs.declared.Limits.{Limits}
use Rattle.definitions.specs.Bytes.{Bytes}
use Rattle.definitions.specs.Outcome.{Outcome, ok, refused, place, placed}
use Rattle.definitions.specs.Value.{Value}
use Rattle.definitions.specs.Json.{scan, read_json}
use Rattle.laws.specs.Distinct.{distinct}
use Rattle.laws.specs.Tree.{Tree, meaning, Fits}
use Rattle.laws.specs.Rfc8259.{JSONText}
use Rattle.laws.specs.Causes.{Cause, cause_3, cause_4, cause_5, cause_6, First, earlier, same_place}
use Rattle.laws.specs.JsonMoves.{limited, scan_by, scan_limited, ok≢refused, ok_injective, refused_injective}
use Rattle.laws.proofs.JsonEnds.{Ends, arrives, halts, ends_arrive}
use Rattle.laws.proofs.JsonForward.{text_forward}
use Rattle.laws.proofs.JsonFits.{fit_fits, fits_fit}
use Rattle.laws.proofs.JsonLive.{start}
use Rattle.laws.proofs.JsonSettled.{Settled, there, before, beyond_settled, again_settled, full_settled}
use Rattle.laws.proofs.JsonBroken.{breaks_settled}
use Rattle.laws.proofs.JsonCauses.{Told, accepts, refuses, json_told}

-- ---- accepted

-- a JSON text that keeps the limits is read as its meaning
pub json_accepted_from : (l : Limits) (s : Bytes) (x : Tree) → JSONText s x → Fits l x → read_json l s ≡ ok (meaning x)
unfolding read_json placed
json_accepted_from l s x h f =
    ap (placed s) (scan_limited l 0 s start s ∙ (ends_arrive (text_forward (limited l) h) (fits_fit l x f)).1)

-- a JSON text that is read keeps the limits
read_fits : (l : Limits) (s : Bytes) (x : Tree) (v : Value) → JSONText s x → scan l 0 s start s ≡ ok v → Fits l x
read_fits l s x v h e = fit_fits l x (passed (text_forward (limited l) h) (sym (scan_limited l 0 s start s) ∙ e))
  where
    passed
        : {b : Bool} {a : Outcome Bytes Value} → Ends (λ kept. ok (meaning x)) [] b a → a ≡ ok v → b ≡ true
    passed (arrives kept g) k = refl
    passed (halts m r g y) k = absurd (ok≢refused (sym k ∙ g))

placed_ok : {v : Value} (s : Bytes) (a : Outcome Bytes Value) → placed s a ≡ ok v → a ≡ ok v
unfolding placed
placed_ok s (ok w) e = ap ok (ok_injective e)
placed_ok s (refused n r) e = absurd (ok≢refused (sym e))

-- what is read is what a JSON text means that keeps the limits
pub json_accepted_to
    : (l : Limits) (s : Bytes) (v : Value) → read_json l s ≡ ok v → (x : Tree) × JSONText s x × Fits l x × (meaning x ≡ v)
unfolding read_json
json_accepted_to l s v e = at (json_told l s) (placed_ok s (scan l 0 s start s) e)
  where
    at
        : {a : Outcome Bytes Value} → Told l s a → a ≡ ok v
        → (x : Tree) × JSONText s x × Fits l x × (meaning x ≡ v)
    at (accepts {x} h) k = (x, h, read_fits l s x v h (placed_ok s (scan l 0 s start s) e), ok_injective k)
    at (refuses pre h c) k = absurd (ok≢refused (sym k))

-- what is read has distinct names
pub json_distinct : (l : Limits) (s : Bytes) (v : Value) → read_json l s ≡ ok v → distinct v ≡ true
json_distinct l s v e =
    let (x, h, f, m) = json_accepted_to l s v e in
    subst (λ (w : Value). distinct w ≡ true) m f.names

-- ---- refused

-- what a refusal tells: what is left at its place, and its cause
refusal
    : (l : Limits) (s : Bytes) (n p : ℕ) → read_json l s ≡ refused n p
    → (pre r : Bytes) × (s ≡ pre ++ r) × (length pre ≡ p) × (scan l 0 s start s ≡ refused n r) × Cause l s n (length pre)
unfolding read_json placed place
refusal l s n p e = at (json_told l s) refl e
  where
    at
        : {a : Outcome Bytes Value} → Told l s a → scan l 0 s start s ≡ a → placed s a ≡ refused n p
        → (pre r : Bytes) × (s ≡ pre ++ r) × (length pre ≡ p) × (scan l 0 s start s ≡ refused n r) × Cause l s n (length pre)
    at (accepts h) f k = absurd (ok≢refused k)
    at (refuses {n = m} {r} pre h c) f k =
        let (u, w) = refused_injective k in
        let y : length s ≡ length pre + length r = ap length h ∙ length-append pre r in
        let z : length pre ≡ length s - length r = omega arith in
        (pre, r, h, z ∙ w, f ∙ ap (λ (i : ℕ). refused i r) u, subst (λ (i : ℕ). Cause l s i (length pre)) u c)

-- a refusal has its cause at its place
pub json_refused : (l : Limits) (s : Bytes) (n p : ℕ) → read_json l s ≡ refused n p → Cause l s n p
json_refused l s n p e = let (pre, r, h, f, g, c) = refusal l s n p e in subst (Cause l s n) f c

-- a cause that settles what reading comes to stands later, or there with no smaller number
settled_first
    : {s r : Bytes} {m : ℕ} (l : Limits) (n p : ℕ) (pre : Bytes) → read_json l s ≡ refused n p → s ≡ pre ++ r
    → Settled r m (scan_by (limited l) 0 s start s) → First n p m (length pre)
settled_first {s} {r} {m} l n p pre e h c =
    let (pre', r', h', f, g, c') = refusal l s n p e in
    at pre' r' (ap length h' ∙ length-append pre' r') f (sym (scan_limited l 0 s start s) ∙ g) c
  where
    long : length s ≡ length pre + length r
    long = ap length h ∙ length-append pre r

    at
        : {a : Outcome Bytes Value} (pre' r' : Bytes) → length s ≡ length pre' + length r' → length pre' ≡ p
        → a ≡ refused n r' → Settled r m a
        → First n p m (length pre)
    at pre' r' k f g (there i y b) =
        let (u, w) = refused_injective (sym g ∙ y) in
        let v : length r' ≡ length r = ap length w in
        same_place (omega (arith, long)) (omega arith)
    at pre' r' k f g (before i z y b) =
        let (u, w) = refused_injective (sym g ∙ y) in
        let v : length r' ≡ length z = ap length w in
        earlier (omega (arith, long))

-- every cause stands later than a refusal, or at its place with no smaller number
pub json_least : (l : Limits) (s : Bytes) (n p m q : ℕ) → read_json l s ≡ refused n p → Cause l s m q → First n p m q
json_least l s n p m q e (cause_3 pre r h b) =
    settled_first l n p pre e h
    (subst (λ (z : Bytes). Settled r 3 (scan_by (limited l) 0 z start z)) (sym h) (breaks_settled (limited l) pre b))
json_least l s n p m q e (cause_4 pre r h c) = settled_first l n p pre e h (beyond_settled l c)
json_least l s n p m q e (cause_5 pre r h c) = settled_first l n p pre e h (again_settled l c)
json_least l s n p m q e (cause_6 pre r h c) = settled_first l n p pre e h (full_settled l c)
