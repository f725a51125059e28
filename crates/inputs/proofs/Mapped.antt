-- What stands behind the result of `map_err`, and a text's refusal there. Assumes nothing.
use Prim.Native.Nat.{ℕ}
use mathlib.Core.Path.{◌≡◌, refl, ◌∙◌}
use Rattle.std.specs.Prelude.{Result, Ok, Err, IsErrAnd, MatchResult}
use Rattle.std.proofs.lemmas.Result.{err_from_is_err_and}
use Rattle.definitions.specs.Operations.{Judged, stopped, refusal}
use Rattle.reading.specs.declared.Refusal.{Refusal}
use Rattle.reading.specs.Refusals.{number_of}
use Rattle.inputs.specs.declared.TextRefusal.{TextRefusal}
use Rattle.inputs.specs.Refused.{of_text}

-- s is r, but for the text's number at a refusal
abbrev pub InText : {T : Type 0} → ℕ → Result T Refusal → Result T TextRefusal → Type 0
InText k r s = MatchResult r (λ x. s ≡ Ok x) (λ e. IsErrAnd s (λ q. q ≡ of_text k e))

pub read_in : {T : Type 0} (k : ℕ) (r : Result T Refusal) {s : Result T TextRefusal} {x : T} → InText k r s → s ≡ Ok x → r ≡ Ok x
read_in k (Ok y) {s} {x} h e = let z : y ≡ x = cc in cc
read_in k (Err y) {s} h e = let p = err_from_is_err_and s h in let q = p.1 in let z : ⊥ = cc in absurd z

-- what both texts come to, where text k is refused
pub refused_in
    : {T A : Type 0} (k : ℕ) (r : Result T Refusal) {s : Result T TextRefusal} {q : TextRefusal} {x : Judged A} → InText k r s → s ≡ Err q
    → ((e : Refusal) → r ≡ Err e → x ≡ stopped (refusal (number_of e.cause) k e.place))
    → x ≡ stopped (refusal (number_of q.refusal.cause) q.text q.refusal.place)
refused_in k (Ok y) h e f = let z : ⊥ = cc in absurd z
refused_in k (Err y) {s} {q} h e f =
    let p = err_from_is_err_and s h in
    let named = p.1 in
    let made = p.2 in
    let same : q ≡ of_text k y = cc in
    f y refl ∙ rw same
